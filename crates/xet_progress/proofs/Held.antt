-- Calls on items of a group that a lock keeps.
use Rattle.std.proofs.Common.{◌≡◌, ◌≢◌, ℕ, [], Bool, true, false, cond, refl, sym, ◌∙◌, ap}
use Rattle.std.specs.Prelude.{Option, Some, None, IsSome, Result, Ok, Err, IfOk, option_map, unwrap_or}
use Rattle.std.specs.Result.{result_unwrap_or}
use Rattle.std.proofs.lemmas.Bool.{false≢true}
use Rattle.xet_base.specs.declared.item_id.UniqueID.{UniqueID}
use Rattle.xet_base.specs.declared.invalid.Invalid.{Invalid}
use Rattle.xet_base.specs.declared.invalid.Invalid.TheVariants.{UnknownItem, PastTotal, SumTooGreat}
use Rattle.xet_progress_state.specs.declared.error.ProgressError.{ProgressError}
use Rattle.xet_progress_state.specs.declared.error.ProgressError.TheVariants.{OutOfMemory, InvalidOperation}
use Rattle.xet_progress_state.specs.declared.item.ItemProgress.{ItemProgress}
use Rattle.xet_progress_state.specs.declared.item.ItemProgressReport.{ItemProgressReport}
use Rattle.xet_progress_state.specs.Group.{Change, Group, IsSound, ItemAnswer, ItemCall, item_of, more_completed, more_transferred, refusal_at, sized, transfer_sized}
use Rattle.xet_progress_state.specs.Items.{blank_item, report_of}
use Rattle.xet_progress.specs.Held.{Held, UpdaterCall, known_answer, said_or}

-- a change whose test names no item
pub record IsTest (f : ItemProgress → Change) : Type 0 where
  pub other : (i : ItemProgress) (id : UniqueID) → (f i).test ≡ Some (UnknownItem id) → ⊥

past : (b : Bool) (t c n : ℕ) (id : UniqueID) → cond b None (Some (PastTotal t c n)) ≡ Some (UnknownItem id) → ⊥
past true t c n id e = cc
past false t c n id e = cc

over : (b : Bool) (h n : ℕ) (id : UniqueID) → cond b None (Some (SumTooGreat h n)) ≡ Some (UnknownItem id) → ⊥
over true h n id e = cc
over false h n id e = cc

over_unless : (a b : Bool) (h n : ℕ) (id : UniqueID) → cond a None (cond b None (Some (SumTooGreat h n))) ≡ Some (UnknownItem id) → ⊥
over_unless true b h n id e = cc
over_unless false b h n id e = over b h n id e

pub completed_test : (n : ℕ) → IsTest (more_completed n)
completed_test n = record { other = λ i id e. past _ _ _ _ id e }

pub transferred_test : (n : ℕ) → IsTest (more_transferred n)
transferred_test n = record { other = λ i id e. past _ _ _ _ id e }

pub transfer_test : (have total : ℕ) → IsTest (transfer_sized have total)
transfer_test have total = record { other = λ i id e. over _ _ _ id e }

pub size_test : (have total : ℕ) (fin : Bool) → IsTest (sized have total fin)
size_test have total fin = record { other = λ i id e. over_unless i.size_finalized _ _ _ id e }

refused_none : (id : UniqueID) (f : ItemProgress → Change) (o : Option ItemProgress) → o ≡ None → refusal_at id f o ≡ Some (UnknownItem id)
refused_none id f o e = ap (refusal_at id f) e

refused_some : (id i : UniqueID) (f : ItemProgress → Change) → IsTest f → (o : Option ItemProgress) → IsSome o → refusal_at id f o ≡ Some (UnknownItem i) → ⊥
refused_some id i f t None some e = false≢true some
refused_some id i f t (Some x) some e = t.other x i e

refused_other : (id : UniqueID) (f : ItemProgress → Change) (o : Option ItemProgress) (why : Invalid) → o ≡ None → refusal_at id f o ≡ Some why → why ≡ UnknownItem id
refused_other id f o why n e = let u = refused_none id f o n in cc

-- a call on an item, where the item may not be there
pub updater_call : (before now : Group) (id : UniqueID) (f : ItemProgress → Change) → IsTest f → (answer : Result (Unit {0}) ProgressError) → ItemCall before now id f answer → UpdaterCall before now id f (known_answer answer)
updater_call before now id f t (Ok u) c = record { known = λ _. c; unknown = λ n. absurd (let a = refused_none id f (item_of before id) n in let b = c.accepted.0 in cc) }
updater_call before now id f t (Err OutOfMemory) c = absurd (c.refused.2 refl)
updater_call before now id f t (Err (InvalidOperation (UnknownItem i))) c = record {
  known = λ some. absurd (refused_some id i f t (item_of before id) some (c.refused.1 (UnknownItem i) refl));
  unknown = λ n. (refl, c.refused.0);
}
updater_call before now id f t (Err (InvalidOperation why)) c = record {
  known = λ _. c;
  unknown = λ n. absurd (let e = refused_other id f (item_of before id) why n (c.refused.1 why refl) in cc);
}

-- what an item said, where the item may not be there
pub said : {A : Type 0} (before now : Group) (id : UniqueID) (f : ItemProgress → A) (other a : A) → ItemAnswer before now id f (Ok a) → a ≡ said_or before id f other
said before now id f other a c = sym (ap (λ o. unwrap_or o other) c.accepted)

pub said_none : {A : Type 0} (before now : Group) (id : UniqueID) (f : ItemProgress → A) (other : A) (why : Invalid) → ItemAnswer before now id f (Err (InvalidOperation why)) → other ≡ said_or before id f other
said_none before now id f other why c = sym (ap (λ o. unwrap_or (option_map f o) other) (c.refused why refl).1)

pub said_else : {A : Type 0} (before now : Group) (id : UniqueID) (f : ItemProgress → A) (other : A) (answer : Result A ProgressError) → ItemAnswer before now id f answer → answer ≢ Err OutOfMemory → result_unwrap_or answer other ≡ said_or before id f other
said_else before now id f other (Ok a) c m = said before now id f other a c
said_else before now id f other (Err OutOfMemory) c m = absurd (m refl)
said_else before now id f other (Err (InvalidOperation why)) c m = said_none before now id f other why c

-- a reading call that answered Ok
pub held_ok : {A E : Type 0} (P : A → Group → Type 0) (before now : Group) → IsSound before → (answer : Result A E) → IfOk answer (λ a. P a before) → now ≡ before → IfOk answer (λ a. Held (λ b n. P a b × (n ≡ b)))
held_ok P before now sound (Ok a) p same = record { before = before; now = now; sound = sound; call = (p, same) }
held_ok P before now sound (Err e) p same = tt

report_same : (id : UniqueID) (o : Option ItemProgress) → report_of (unwrap_or (option_map (λ (i : ItemProgress). record i { id = id }) o) (blank_item id [])) ≡ unwrap_or (option_map report_of o) (report_of (blank_item id []))
report_same id None = refl
report_same id (Some i) = refl

-- the report of what an item said
pub reported : {E : Type 0} (id : UniqueID) (x : ItemProgress) (answer : Result ItemProgressReport E) → Held (λ b n. (x ≡ said_or b id (λ i. record i { id = id }) (blank_item id [])) × (n ≡ b))
    → IfOk answer (λ r. r ≡ report_of x) → IfOk answer (λ r. Held (λ b n. (r ≡ said_or b id report_of (report_of (blank_item id []))) × (n ≡ b)))
reported id x (Ok r) h e = record { before = h.before; now = h.now; sound = h.sound; call = (e ∙ ap report_of h.call.0 ∙ report_same id (item_of h.before id), h.call.1) }
reported id x (Err z) h e = tt
