-- Where the error of a join comes from.
use Rattle.std.proofs.Common.{◌≡◌, ◌⊎◌, ℕ, zero, suc, List, [], ◌∷◌, map, true, false, Bool, refl, ◌∙◌, inl, inr, Option, Some, None, Ok, Err}
use Rattle.std.specs.Prelude.{◌||◌, Result, cond, slice_get}
use Rattle.std.specs.List.{list_any}
use Rattle.std.specs.Result.{result_err}
use Rattle.xet_base.specs.Lists.{first_some}
use Rattle.xet_error.specs.declared.error.FileReconstructionError.{FileReconstructionError}
use Rattle.xet_error.specs.declared.error.FileReconstructionError.TheVariants as error
use Rattle.xet_lane.specs.JoinErrors.{end_error, first_error, lacks_memory, memory_was_short, wants_memory}
use Rattle.xet_lane.specs.Ends.{End, NoneEndedBadly}

-- the last steps of the first lanes, so many, didn't fail
abbrev pub NoErrorBelow : ℕ → List End → Type 0
NoErrorBelow zero es = Unit {0}
NoErrorBelow (suc i) [] = ⊥
NoErrorBelow (suc i) (e ∷ es) = (end_error e ≡ None) × NoErrorBelow i es

-- this is the error of the last step of a lane, the lowest one that has an error
pub record FailedLane (es : List End) (e : FileReconstructionError) : Type 0 where
  pub at : ℕ
  pub end : End
  pub there : slice_get es at ≡ Some end
  pub error : end_error end ≡ Some e
  pub below : NoErrorBelow at es

-- memory was wanting, or the writer has this error, or a lane
abbrev pub ErrorCause : Result ℕ FileReconstructionError → List End → FileReconstructionError → Type 0
ErrorCause wrote es e = (e ≡ error.OutOfMemory) ⊎ ((wrote ≡ Err e) ⊎ FailedLane es e)

or_false : (a b : Bool) → (a || b) ≡ false → (a ≡ false) × (b ≡ false)
or_false true b h = absurd (cc)
or_false false b h = (refl, h)

head_none : {A : Type 0} (o : Option A) (os : List (Option A)) → first_some (o ∷ os) ≡ None
    → (o ≡ None) × (first_some os ≡ None)
head_none None os h = (refl, h)
head_none (Some x) os h = absurd (cc)

ends_well : (es : List End) → list_any lacks_memory es ≡ false → first_some (map end_error es) ≡ None → NoneEndedBadly es
ends_well [] h k = tt
ends_well (e ∷ es) h k =
    let lacks = or_false (lacks_memory e) (list_any lacks_memory es) h in
    let short = or_false e.short (wants_memory (end_error e)) lacks.0 in
    let errors = head_none (end_error e) (map end_error es) k in
    (short.0, errors.0, ends_well es lacks.1 errors.1)

written : (wrote : Result ℕ FileReconstructionError) → result_err wrote ≡ None → (k : ℕ) × (wrote ≡ Ok k)
written (Ok k) h = (k, refl)
written (Err e) h = absurd (cc)

-- where a join has no error, all was written, and each lane ended well
pub no_error : (wrote : Result ℕ FileReconstructionError) (es : List End) → first_error wrote es ≡ None
    → ((k : ℕ) × (wrote ≡ Ok k)) × NoneEndedBadly es
no_error wrote es h = by_memory (memory_was_short wrote es) refl h
  where
    by_memory : (b : Bool) → memory_was_short wrote es ≡ b
        → cond b (Some error.OutOfMemory) (first_some (result_err wrote ∷ map end_error es)) ≡ None
        → ((k : ℕ) × (wrote ≡ Ok k)) × NoneEndedBadly es
    by_memory true s h = absurd (cc)
    by_memory false s h =
        let lacks = or_false (wants_memory (result_err wrote)) (list_any lacks_memory es) s in
        let errors = head_none (result_err wrote) (map end_error es) h in
        (written wrote errors.0, ends_well es lacks.1 errors.1)

failed_at : (es : List End) (e : FileReconstructionError) → first_some (map end_error es) ≡ Some e → FailedLane es e
failed_at [] e h = absurd (cc)
failed_at (x ∷ es) e h = by_error (end_error x) refl (λ k. failed_at es e k) h
  where
    by_error : (o : Option FileReconstructionError) → end_error x ≡ o
        → (first_some (map end_error es) ≡ Some e → FailedLane es e)
        → first_some (o ∷ map end_error es) ≡ Some e → FailedLane (x ∷ es) e
    by_error None is later k =
        let f = later k in
        record { at = suc f.at; end = f.end; there = f.there; error = f.error; below = (is, f.below) }
    by_error (Some y) is later k = record { at = 0; end = x; there = refl; error = is ∙ k; below = tt }

-- where it has one, this is its cause
pub error_cause : (wrote : Result ℕ FileReconstructionError) (es : List End) (e : FileReconstructionError)
    → first_error wrote es ≡ Some e → ErrorCause wrote es e
error_cause wrote es e h = by_memory (memory_was_short wrote es) h
  where
    by_wrote : (w : Result ℕ FileReconstructionError) → first_some (result_err w ∷ map end_error es) ≡ Some e
        → ErrorCause w es e
    by_wrote (Ok k) h = inr (inr (failed_at es e h))
    by_wrote (Err x) h = inr (inl cc)

    by_memory : (b : Bool)
        → cond b (Some error.OutOfMemory) (first_some (result_err wrote ∷ map end_error es)) ≡ Some e
        → ErrorCause wrote es e
    by_memory true h = let same : e ≡ error.OutOfMemory = cc in inl same
    by_memory false h = by_wrote wrote h
