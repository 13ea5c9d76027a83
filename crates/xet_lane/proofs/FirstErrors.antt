-- What a look through the ends of the lanes finds.
use Rattle.std.proofs.Common.{◌≡◌, ℕ, ◌+◌, ◌<◌, ◌≤◌, List, ◌∷◌, drop, length, map, get_or, true, false, Bool, ap, sym, ◌∙◌, Option, Some, None}
use Rattle.std.specs.Option.{is_some}
use Rattle.std.specs.Prelude.{◌||◌}
use Rattle.std.specs.List.{list_any}
use Rattle.std.proofs.lemmas.List.{drop_all, drop_more}
use Rattle.xet_base.specs.Lists.{first_some}
use Rattle.xet_error.specs.declared.error.FileReconstructionError.{FileReconstructionError}
use Rattle.xet_lane.specs.declared.joined.LaneEnd.{LaneEnd}
use Rattle.xet_lane.specs.JoinErrors.{end_error, lacks_memory}
use Rattle.xet_lane.specs.Ends.{ended}

abbrev pub lack_from : ℕ → List LaneEnd → Bool
lack_from i es = list_any lacks_memory (map ended (drop i es))

abbrev pub error_from : ℕ → List LaneEnd → Option FileReconstructionError
error_from i es = first_some (map end_error (map ended (drop i es)))

-- the first of the ends that are left
first_left : (es : List LaneEnd) (i : ℕ) (e : LaneEnd) → i < length es → get_or es i e ≡ e → drop i es ≡ e ∷ drop (i + 1) es
first_left es i e h is = drop_more es i e h ∙ ap (λ (x : LaneEnd). x ∷ drop (i + 1) es) is

pub lacking : (es : List LaneEnd) (i : ℕ) (e : LaneEnd) → i < length es → get_or es i e ≡ e → lacks_memory (ended e) ≡ true
    → lack_from i es ≡ true
lacking es i e h is t =
    ap (λ (l : List LaneEnd). list_any lacks_memory (map ended l)) (first_left es i e h is)
    ∙ ap (λ (b : Bool). b || lack_from (i + 1) es) t

pub not_lacking : (es : List LaneEnd) (i : ℕ) (e : LaneEnd) → i < length es → get_or es i e ≡ e
    → lacks_memory (ended e) ≡ false → lack_from i es ≡ lack_from (i + 1) es
not_lacking es i e h is t =
    ap (λ (l : List LaneEnd). list_any lacks_memory (map ended l)) (first_left es i e h is)
    ∙ ap (λ (b : Bool). b || lack_from (i + 1) es) t

pub none_lacks : (es : List LaneEnd) (i : ℕ) → length es ≤ i → lack_from i es ≡ false
none_lacks es i h = ap (λ (l : List LaneEnd). list_any lacks_memory (map ended l)) (drop_all i es h)

error_is : (es : List LaneEnd) (i : ℕ) (e : LaneEnd) (o : Option FileReconstructionError) → i < length es
    → get_or es i e ≡ e → o ≡ end_error (ended e)
    → error_from i es ≡ first_some (o ∷ map end_error (map ended (drop (i + 1) es)))
error_is es i e o h is t =
    ap (λ (l : List LaneEnd). first_some (map end_error (map ended l))) (first_left es i e h is)
    ∙ ap (λ (o : Option FileReconstructionError). first_some (o ∷ map end_error (map ended (drop (i + 1) es)))) (sym t)

pub error_here : (es : List LaneEnd) (i : ℕ) (e : LaneEnd) (o : Option FileReconstructionError) → i < length es
    → get_or es i e ≡ e → o ≡ end_error (ended e) → is_some o ≡ true → error_from i es ≡ o
error_here es i e None h is t s = cc
error_here es i e (Some x) h is t s = error_is es i e (Some x) h is t

pub no_error_here : (es : List LaneEnd) (i : ℕ) (e : LaneEnd) (o : Option FileReconstructionError) → i < length es
    → get_or es i e ≡ e → o ≡ end_error (ended e) → is_some o ≡ false → error_from i es ≡ error_from (i + 1) es
no_error_here es i e None h is t s = error_is es i e None h is t
no_error_here es i e (Some x) h is t s = cc

pub no_errors : (es : List LaneEnd) (i : ℕ) → length es ≤ i → error_from i es ≡ None
no_errors es i h = ap (λ (l : List LaneEnd). first_some (map end_error (map ended l))) (drop_all i es h)
