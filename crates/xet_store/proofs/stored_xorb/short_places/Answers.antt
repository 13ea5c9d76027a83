use Rattle.std.proofs.Common.{◌++◌, ◌∷◌, ◌∙◌, List, [], ℕ, ap, get_or, sym, arith}
use Rattle.std.proofs.lemmas.List.{take_all, take_more}
use Rattle.xet_store.proofs.JoinedParts.{ends-within}
use Rattle.xet_store.proofs.stored_xorb.short_places.Goals as goal

pub loop-end-init : goal.loop-end-init
loop-end-init c = c.in_ok-push.ensures.items ∙ ap (λ (xs : List ℕ). xs ++ 0 ∷ []) c.in_ok-short.ensures.items

pub overflow_cast-end : goal.overflow_cast-end
overflow_cast-end c =
    let within = ends-within 0 c.args.ends.now c.args.last c.loop-end.end-index 0 c.requires.order
    c.loop-end-test.true in
    omega (arith, within, c.requires.short)

pub loop-end-preserved : goal.loop-end-preserved
loop-end-preserved c =
    let ends = c.args.ends.now in
    let i = c.loop-end.end-index in
    c.in_ok-push-2.ensures.items
    ∙ ap (λ (xs : List ℕ). xs ++ get_or ends i 0 ∷ []) c.loop-end.invariant
    ∙ ap (λ (xs : List ℕ). 0 ∷ xs) (sym (take_more ends i 0 c.loop-end-test.true))

pub returns : goal.returns
returns c =
    c.loop-end.invariant
    ∙ ap (λ (xs : List ℕ). 0 ∷ xs) (take_all c.loop-end.end-index c.args.ends.now c.loop-end-test.false)
