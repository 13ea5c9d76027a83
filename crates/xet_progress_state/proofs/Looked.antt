-- What a look for a registered xorb tells of the accepted calls, and what a call then answers.
use Rattle.std.proofs.Common.{◌≡◌, ℕ, false, cond, List, [], ◌∷◌, ◌++◌, refl, sym, ◌∙◌, ap, ◌+◌, ◌<◌, ◌≤◌, ◌^◌, length, get_or, Ok, Err, arith}
use Rattle.std.specs.Prelude.{Option, Some, None, Result, find, position, unwrap_or, option_and_then}
use Rattle.std.specs.List.{position_or_len}
use Rattle.std.proofs.lemmas.Bool.{le-leb, lt-leb, lt-ltb, le-ltb}
use Rattle.std.proofs.lemmas.List.Sums.{passes_at_first}
use Rattle.xet_base.specs.declared.merklehash.MerkleHash.{MerkleHash}
use Rattle.xet_base.specs.Hashes.{hash_eq}
use Rattle.xet_base.specs.declared.invalid.Invalid.{Invalid}
use Rattle.xet_base.specs.declared.invalid.Invalid.TheVariants.{PastTotal, SumTooGreat}
use Rattle.xet_base.proofs.CallerLemmas.{hash_eq-true}
use Rattle.xet_progress_state.specs.declared.error.ProgressError.{ProgressError}
use Rattle.xet_progress_state.specs.declared.error.ProgressError.TheVariants.{InvalidOperation, OutOfMemory}
use Rattle.xet_progress_state.specs.declared.step.TrackerStep.{TrackerStep}
use Rattle.xet_progress_state.specs.declared.file.TrackedFile.{TrackedFile}
use Rattle.xet_progress_state.specs.declared.xorb.TrackedXorb.{TrackedXorb}
use Rattle.xet_progress_state.specs.declared.xorb.Found.{Found}
use Rattle.xet_progress_state.specs.steps.Found.{IsFound}
use Rattle.xet_progress_state.specs.Counts.{size_of, is_completed, progress}
use Rattle.xet_progress_state.specs.Accepted.{CallOf, refusal_of, past_total, too_great}
use Rattle.xet_progress_state.specs.steps.Kept.{IsKept, XorbStands}
use Rattle.xet_progress_state.proofs.Places.{find_here}
use Rattle.xet_progress_state.proofs.Moved.{stands_at, not_registered}

pub record Looked (cs : List TrackerStep) (h : MerkleHash) (xs : List TrackedXorb) (f : Found) : Type 0 where
  pub size : size_of cs h ≡ Some f.size
  pub done : is_completed cs h ≡ f.completed
  pub sent : f.completed ≡ false → progress cs h ≡ f.sent
  pub fits : f.completed ≡ false → f.sent ≤ f.size
  pub own : (d : TrackedXorb) → (get_or xs f.place d).hash ≡ h
  pub stands : (d : TrackedXorb) → XorbStands cs h (get_or xs f.place d)

some_entry : {A : Type 0} (xs : List A) (i : ℕ) → i < length xs → A
some_entry [] i h = absurd (omega (arith, h))
some_entry (x ∷ xs) i h = x

pub looked : (cs : List TrackerStep) (h : MerkleHash) (fs : List TrackedFile) (xs : List TrackedXorb) (t c s : ℕ) (f : Found) → IsKept cs fs xs t c s → IsFound h xs f → Looked cs h xs f
looked cs h fs xs t c s f k found =
    let stands : (d : TrackedXorb) → XorbStands cs h (get_or xs f.place d) = λ d. stands_at cs h xs f.place d k.xorbs_are found.place_is in
    let d = some_entry xs f.place found.inside in
    let at = stands d in
    let size : size_of cs h ≡ Some f.size = sym at.size_is ∙ found.size_is d in
    let done : is_completed cs h ≡ f.completed = sym at.completed_is ∙ found.completed_is d in
    let sent : f.completed ≡ false → progress cs h ≡ f.sent = λ n. sym (at.sent_is (found.completed_is d ∙ n)) ∙ found.sent_is d in
    record {
      size = size;
      done = done;
      sent = sent;
      fits = λ n.
          let a = k.plain.fits h (done ∙ n) in
          let b = sent n in
          let z = ap (λ (o : Option ℕ). unwrap_or o 0) size in
          omega (arith, a, b, z);
      own = own_hash;
      stands = stands;
    }
  where
    own_hash : (d : TrackedXorb) → (get_or xs f.place d).hash ≡ h
    own_hash d =
        let here = find_here (λ (x : TrackedXorb). hash_eq x.hash h) xs f.place d found.place_is in
        let a = here.1 in
        let b = here.2 in
        let lt : position_or_len (λ (x : TrackedXorb). hash_eq x.hash h) xs < length xs = omega (arith, a, b) in
        hash_eq-true (get_or xs f.place d).hash h (ap (λ (n : ℕ). hash_eq (get_or xs n d).hash h) (sym here.2) ∙ passes_at_first (λ (x : TrackedXorb). hash_eq x.hash h) xs d lt)

pub missed : (cs : List TrackerStep) (h : MerkleHash) (fs : List TrackedFile) (xs : List TrackedXorb) (t c s : ℕ) → IsKept cs fs xs t c s → option_and_then (λ (x : TrackedXorb). x.size) (find (λ x. hash_eq x.hash h) xs) ≡ None → size_of cs h ≡ None
missed cs h fs xs t c s k e = not_registered cs h (find (λ x. hash_eq x.hash h) xs) (k.xorbs_are h) e

pub refused_by : {A : Type 0} (before : List TrackerStep) (c : TrackerStep) (reply : A) (why : Invalid) → refusal_of before c ≡ Some why → CallOf before before c reply (Err (InvalidOperation why))
refused_by before c reply why e = record { accepted = tt; refused = (e, refl) }

pub accepted_by : {A : Type 0} (before now : List TrackerStep) (c : TrackerStep) (reply a : A) → refusal_of before c ≡ None → a ≡ reply → now ≡ before ++ c ∷ [] → CallOf before now c reply (Ok a)
accepted_by before now c reply a e r n = record { accepted = (e, r, n); refused = tt }

pub no_memory : {A : Type 0} (before : List TrackerStep) (c : TrackerStep) (reply : A) (answer : Result A ProgressError) → answer ≡ Err OutOfMemory → CallOf before before c reply answer
no_memory before c reply answer e = rw e (record { accepted = tt; refused = (tt, refl) })

pub past_total_no : (total counted more : ℕ) → counted + more ≤ total → past_total total counted more ≡ None
past_total_no total counted more h = ap (λ b. cond b None (Some (PastTotal total counted more))) (le-leb (counted + more) total h)

pub past_total_yes : (total counted more : ℕ) → total < counted + more → past_total total counted more ≡ Some (PastTotal total counted more)
past_total_yes total counted more h = ap (λ b. cond b None (Some (PastTotal total counted more))) (lt-leb (counted + more) total h)

pub too_great_no : (have add : ℕ) → have + add < 2 ^ 64 → too_great have add ≡ None
too_great_no have add h = ap (λ b. cond b None (Some (SumTooGreat have add))) (lt-ltb (have + add) (2 ^ 64) h)

pub too_great_yes : (have add : ℕ) → 2 ^ 64 ≤ have + add → too_great have add ≡ Some (SumTooGreat have add)
too_great_yes have add h = ap (λ b. cond b None (Some (SumTooGreat have add))) (le-ltb (have + add) (2 ^ 64) h)

-- the entry at the place of a xorb has its hash
pub own_at : (h : MerkleHash) (xs : List TrackedXorb) (i : ℕ) (d : TrackedXorb) → position (λ (x : TrackedXorb). hash_eq x.hash h) xs ≡ Some i → (get_or xs i d).hash ≡ h
own_at h xs i d e =
    let here = find_here (λ (x : TrackedXorb). hash_eq x.hash h) xs i d e in
    let a = here.1 in
    let b = here.2 in
    let lt : position_or_len (λ (x : TrackedXorb). hash_eq x.hash h) xs < length xs = omega (arith, a, b) in
    hash_eq-true (get_or xs i d).hash h (ap (λ (n : ℕ). hash_eq (get_or xs n d).hash h) (sym here.2) ∙ passes_at_first (λ (x : TrackedXorb). hash_eq x.hash h) xs d lt)
