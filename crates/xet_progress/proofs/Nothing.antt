-- Calls on a locked group that report nothing are never refused.
use Rattle.std.proofs.Common.{◌≡◌, ℕ, Bool, refl, sym, ap, ◌∙◌, ◌-◌, ◌+◌, ◌<◌, ◌^◌, arith, true, false, cond}
use Rattle.std.specs.Prelude.{Option, Some, None, is_some, Result, Ok, Err}
use Rattle.xet_base.specs.declared.item_id.UniqueID.{UniqueID}
use Rattle.xet_base.specs.declared.invalid.Invalid.{Invalid}
use Rattle.xet_progress_state.specs.declared.error.ProgressError.{ProgressError}
use Rattle.xet_progress_state.specs.declared.error.ProgressError.TheVariants.{OutOfMemory, InvalidOperation}
use Rattle.xet_progress_state.specs.declared.item.ItemProgress.{ItemProgress}
use Rattle.xet_progress_state.specs.Accepted.{or_else, past_total, too_great}
use Rattle.xet_progress_state.specs.Group.{Change, Group, IsSound, IsWithinItem, TransferCall, group_sums, is_id, item_of, more_completed, more_transferred, over_items, refusal_at, sized, transfer_sized, transfer_test}
use Rattle.xet_progress.specs.Held.{Held, UpdaterCall}
use Rattle.xet_progress_state.proofs.CallerLemmas.{found_is, past_total_no, too_great_no}

never : (before now : Group) (id : UniqueID) (f : ItemProgress → Change) (e : ProgressError) → ((i : ItemProgress) → item_of before id ≡ Some i → (f i).test ≡ None) → UpdaterCall before now id f (Err e) → (o : Option ItemProgress) → item_of before id ≡ o → ⊥
never before now id f e t c None n = let r = (c.unknown n).0 in cc
never before now id f OutOfMemory t c (Some i) n = (c.known (ap is_some n)).refused.2 refl
never before now id f (InvalidOperation why) t c (Some i) n =
    let r = (c.known (ap is_some n)).refused.1 why refl in
    let s = ap (refusal_at id f) n in
    let p = t i n in
    cc

-- a call whose test passes on the item is not refused
taken : (before now : Group) (id : UniqueID) (f : ItemProgress → Change) (answer : Result (Unit {0}) ProgressError) → ((i : ItemProgress) → item_of before id ≡ Some i → (f i).test ≡ None) → UpdaterCall before now id f answer → answer ≡ Ok tt
taken before now id f (Ok u) t c = refl
taken before now id f (Err e) t c = absurd (never before now id f e t c (item_of before id) refl)

-- what a sound group says of its items
within : (g : Group) (id : UniqueID) (i : ItemProgress) → IsSound g → item_of g id ≡ Some i → IsWithinItem i
within g id i s at = found_is IsWithinItem (is_id id) g.items i s.within.each at

pub nothing_completed : (id : UniqueID) (n : ℕ) (answer : Result (Unit {0}) ProgressError) → n ≡ 0 → Held (λ before now. UpdaterCall before now id (more_completed n) answer) → answer ≡ Ok tt
nothing_completed id n answer z h = taken h.before h.now id (more_completed n) answer (λ i at. past_total_no i.total_bytes i.bytes_completed n (let w = (within h.before id i h.sound at).bytes in omega (arith, w, z))) h.call

pub nothing_transferred : (id : UniqueID) (n : ℕ) (answer : Result (Unit {0}) ProgressError) → n ≡ 0 → Held (λ before now. UpdaterCall before now id (more_transferred n) answer) → answer ≡ Ok tt
nothing_transferred id n answer z h = taken h.before h.now id (more_transferred n) answer (λ i at. past_total_no i.transfer_bytes i.transfer_bytes_completed n (let w = (within h.before id i h.sound at).transfer in omega (arith, w, z))) h.call

pub nothing_to_transfer : (id : UniqueID) (n : ℕ) (answer : Result (Unit {0}) ProgressError) → n ≡ 0 → Held (λ before now. UpdaterCall before now id (transfer_sized (group_sums before).total_transfer_bytes n) answer) → answer ≡ Ok tt
nothing_to_transfer id n answer z h = taken h.before h.now id (transfer_sized (group_sums h.before).total_transfer_bytes n) answer
    (λ i at. too_great_no (group_sums h.before).total_transfer_bytes (n - i.transfer_bytes) (let s = h.sound.transfer in omega (arith, s, z))) h.call

unless_final : (b : Bool) (have add : ℕ) → have + add < 2 ^ 64 → cond b None (too_great have add) ≡ None
unless_final true have add h = refl
unless_final false have add h = too_great_no have add h

pub nothing_to_complete : (id : UniqueID) (n : ℕ) (fin : Bool) (answer : Result (Unit {0}) ProgressError) → n ≡ 0 → Held (λ before now. UpdaterCall before now id (sized (group_sums before).total_bytes n fin) answer) → answer ≡ Ok tt
nothing_to_complete id n fin answer z h = taken h.before h.now id (sized (group_sums h.before).total_bytes n fin) answer
    (λ i at. unless_final i.size_finalized (group_sums h.before).total_bytes (n - i.total_bytes) (let s = h.sound.bytes in omega (arith, s, z))) h.call

-- the tests of `add_transfer` pass for nothing
passes : (g : Group) (total completed : ℕ) → IsSound g → total ≡ 0 → completed ≡ 0 → transfer_test g total completed ≡ None
passes g total completed s a b =
    let first : too_great (over_items (λ i. i.transfer_bytes) g + g.added) total ≡ None = too_great_no (over_items (λ i. i.transfer_bytes) g + g.added) total (let t = s.transfer in omega (arith, t, a)) in
    let second : past_total (g.added + total) g.finished completed ≡ None = past_total_no (g.added + total) g.finished completed (let w = s.within.added_is in omega (arith, w, a, b)) in
    ap (λ o. or_else o (past_total (g.added + total) g.finished completed)) first ∙ second

pub nothing_added : (total completed : ℕ) (answer : Result (Unit {0}) ProgressError) → total ≡ 0 → completed ≡ 0 → Held (λ before now. TransferCall before now total completed answer) → answer ≡ Ok tt
nothing_added total completed (Ok u) a b h = refl
nothing_added total completed (Err OutOfMemory) a b h = absurd (h.call.refused.2 refl)
nothing_added total completed (Err (InvalidOperation why)) a b h =
    let r = h.call.refused.1 why refl in
    let p = passes h.before total completed h.sound a b in
    absurd (cc)
