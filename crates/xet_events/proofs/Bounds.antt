-- The unwritten bytes just after an admission, whatever follows it.
use Rattle.std.proofs.Common.{◌≡◌, ℕ, ◌+◌, ◌≤◌, ◌⊎◌, List, [], ◌∷◌, ◌++◌, Option, Some, None, refl, ◌∙◌, ap, ⊎_elim, arith, max}
use Rattle.std.specs.Prelude.{count_by, slice_get, MatchOption}
use Rattle.std.specs.List.{sum_by}
use Rattle.std.proofs.lemmas.List.Sums.{sum_by_push}
use Rattle.xet_events.specs.declared.event.Event.{Event}
use Rattle.xet_events.specs.declared.event.Event.TheVariants.{Admit}
use Rattle.xet_events.specs.Events.{Task, size, planned, is_admit, admitted, unwritten}
use Rattle.xet_events.specs.Allowed.{IsAllowed}
use Rattle.xet_events.specs.Laws.{WithinLimit}
use Rattle.xet_events.proofs.Push.{written-push}
use Rattle.xet_events.proofs.Histories.{allowed_parts}
use Rattle.xet_events.proofs.Facts.{Facts, facts, admitted-more}

one_more : (es : List Event) (limit : ℕ) → Facts es → IsAllowed es (Admit limit)
    → MatchOption (slice_get (planned es) (count_by is_admit es)) ⊥ (λ t. unwritten (es ++ Admit limit ∷ []) ≤ max limit (size t))
one_more es limit f a = go (slice_get (planned es) (count_by is_admit es)) refl a.1
  where
    go : (o : Option Task) → slice_get (planned es) (count_by is_admit es) ≡ o → MatchOption o ⊥ (λ t. (unwritten es ≡ 0) ⊎ (unwritten es + size t ≤ limit))
        → MatchOption o ⊥ (λ t. unwritten (es ++ Admit limit ∷ []) ≤ max limit (size t))
    go None e m = absurd m
    go (Some t) e m =
        let ad = admitted-more limit es t e in
        let all : sum_by size (admitted (es ++ Admit limit ∷ [])) ≡ sum_by size (admitted es) + size t = ap (λ l. sum_by size l) ad ∙ sum_by_push size (admitted es) t in
        let w = written-push es (Admit limit) in
        let covered = f.covered in
        ⊎_elim (λ (z : unwritten es ≡ 0). omega (arith, all, w, covered, z)) (λ (z : unwritten es + size t ≤ limit). omega (arith, all, w, covered, z)) m

pub within_limit : WithinLimit
within_limit es limit after a = let p = allowed_parts [] es (Admit limit ∷ after) a in one_more es limit (facts es p.0) p.1.0
