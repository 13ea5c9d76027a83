-- The terms of a plan with where they start.
use Rattle.std.proofs.Common.{◌≡◌, ℕ, ◌+◌, ◌<◌, Bool, List, [], ◌∷◌, ◌++◌, get_or, length, map, take, refl, ◌∙◌, ap, arith}
use Rattle.std.specs.Prelude.{All}
use Rattle.std.proofs.lemmas.List.{length-take, take_more}
use Rattle.std.proofs.lemmas.List.Elements.{All-cons, All-head, All-tail}
use Rattle.xet_outside.specs.declared.plan.PlanTerm.{PlanTerm}
use Rattle.xet_outside.specs.Plan.{Shape}
use Rattle.xet_blocks.specs.declared.reconstruction_terms.plan_blocks.TermStart.{TermStart}
use Rattle.xet_blocks.specs.steps.Planning.{HasChunks, PlacedTerm, term_start, with_start, with_starts}

-- a term of a plan with where it starts
abbrev pub placed_term : Shape → Bool → PlanTerm → PlacedTerm
placed_term p multi t = with_start t (term_start p multi t)

-- terms with the starts that a function tells
pub with_starts-map : (f : PlanTerm → TermStart) (ts : List PlanTerm) → with_starts ts (map f ts) ≡ map (λ t. with_start t (f t)) ts
with_starts-map f [] = refl
with_starts-map f (t ∷ ts) = ap (λ l. with_start t (f t) ∷ l) (with_starts-map f ts)

-- one more term
with_starts-push : (ts : List PlanTerm) (ss : List TermStart) (t : PlanTerm) (s : TermStart) → length ts < length ss → with_starts (ts ++ t ∷ []) ss ≡ with_starts ts ss ++ with_start t (get_or ss (length ts) s) ∷ []
with_starts-push ts [] t s l = absurd (omega arith)
with_starts-push [] (x ∷ xs) t s l = refl
with_starts-push (y ∷ ys) (x ∷ xs) t s l = ap (λ l. with_start y x ∷ l) (with_starts-push ys xs t s (omega arith))

pub with_starts-take : (ts : List PlanTerm) (ss : List TermStart) (i : ℕ) (t : PlanTerm) (s : TermStart) → i < length ts → i < length ss
    → with_starts (take (i + 1) ts) ss ≡ with_starts (take i ts) ss ++ with_start (get_or ts i t) (get_or ss i s) ∷ []
with_starts-take ts ss i t s l m =
    let at : length (take i ts) ≡ i = omega (arith, l, length-take {A = PlanTerm}) in
    ap (λ (l : List PlanTerm). with_starts l ss) (take_more ts i t l)
    ∙ with_starts-push (take i ts) ss (get_or ts i t) s (omega (arith, at, m))
    ∙ ap (λ (k : ℕ). with_starts (take i ts) ss ++ with_start (get_or ts i t) (get_or ss k s) ∷ []) at

-- terms that have chunks, with where they start
pub some_with_starts : (ts : List PlanTerm) (ss : List TermStart) → All HasChunks ts → All (λ t. HasChunks t.term) (with_starts ts ss)
some_with_starts [] ss h = λ k d l. absurd (omega arith)
some_with_starts (t ∷ ts) [] h = λ k d l. absurd (omega arith)
some_with_starts (t ∷ ts) (s ∷ ss) h =
    All-cons (λ (t : PlacedTerm). HasChunks t.term) (with_start t s) (with_starts ts ss) (All-head HasChunks t ts h) (some_with_starts ts ss (All-tail HasChunks t ts h))
