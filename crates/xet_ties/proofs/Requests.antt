-- The requests that connections answered as expired, after a step.
use Rattle.std.proofs.Common.{◌≡◌, ◌+◌, Bool, List, [], ◌∷◌, ◌++◌, refl, ◌∙◌, ap, arith}
use Rattle.std.specs.Prelude.{count_by}
use Rattle.std.specs.List.{flat_map}
use Rattle.std.proofs.lemmas.List.{append-nil}
use Rattle.xet_outside.specs.Answers.{late_in}
use Rattle.xet_outside.specs.Told.{Query}
use Rattle.xet_outside.specs.declared.said.Said.{Said}
use Rattle.xet_outside.specs.declared.served.Served.{Served}
use Rattle.xet_ties.specs.InCall.{Exchange}
use Rattle.xet_ties.specs.Moves.{heard_first, heard_join}
use Rattle.xet_ties.specs.Ties.{lates_of}
use Rattle.xet_ties.proofs.Heard.{Match}
use Rattle.xet_ties.proofs.Lates.{late_both}
use Rattle.xet_ties.proofs.Telling.{count-append}

-- those of these lists of answers
abbrev pub all_lates : List (List Said) → List Served
all_lates alls = flat_map (λ a. late_in a) alls

-- a query adds none
pub lates_query : (qs : List Query) (a : List Said) (xs : List Exchange) → late_in a ≡ []
    → lates_of (heard_first qs a xs) ≡ lates_of xs
lates_query qs a [] e = refl
lates_query qs a (x ∷ xs) e =
    ap (λ (l : List Served). l ++ lates_of xs)
    (late_both x.said a ∙ ap (λ (l : List Served). late_in x.said ++ l) e ∙ append-nil (late_in x.said))

-- a join adds its own
pub lates_join : (T : Served → Bool) (hs : List (List Served)) (alls : List (List Said)) (xs : List Exchange)
    → Match hs alls xs
    → count_by T (lates_of (heard_join hs alls xs)) ≡ count_by T (lates_of xs) + count_by T (all_lates alls)
lates_join T [] [] [] m = refl
lates_join T [] [] (x ∷ xs) m = absurd m
lates_join T [] (a ∷ alls) xs m = absurd m
lates_join T (h ∷ hs) [] xs m = absurd m
lates_join T (h ∷ hs) (a ∷ alls) [] m = absurd m
lates_join T (h ∷ hs) (a ∷ alls) (x ∷ xs) m =
    let r = lates_join T hs alls xs m.1 in
    let both = ap (λ (l : List Served). count_by T l) (late_both x.said a) in
    let one = count-append T (late_in x.said) (late_in a) in
    let now = count-append T (late_in (x.said ++ a)) (lates_of (heard_join hs alls xs)) in
    let was = count-append T (late_in x.said) (lates_of xs) in
    let new = count-append T (late_in a) (all_lates alls) in
    omega (arith, r, both, one, now, was, new)
