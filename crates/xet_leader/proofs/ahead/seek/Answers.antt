use Rattle.std.proofs.Common.{rules, ◌≡◌, ◌<◌, ◌≤◌, ◌-◌, ◌+◌, ◌∙◌, ap, sym, subst, arith, drop, get_or, length}
use Rattle.std.proofs.lemmas.List.{get_or_default}
use Rattle.xet_leader.specs.LedTerms.{led_terms}
use Rattle.xet_leader.proofs.TermPlaces.{past_plan}
use Rattle.xet_leader.proofs.ahead.seek.Goals as goal

pub loop-plan-preserved : goal.loop-plan-preserved
loop-plan-preserved c =
    let ls = c.args.plans.now.items in
    let i = c.loop-plan.plan in
    let p = c.index-in-loop-plan.result.now in
    let q = c.index.result.now in
    let h : i < length ls = search rules in
    let e : p ≡ get_or ls i p = c.index-in-loop-plan.ensures in
    let f : q ≡ get_or ls i q = c.index.ensures in
    let same : p ≡ q = e ∙ get_or_default ls i p q h ∙ sym f in
    let n : c.len-term.result ≡ length p.block.terms = c.len-term.ensures in
    let m : c.len-in-loop-plan.result ≡ length q.block.terms = c.len-in-loop-plan.ensures in
    let k = ap (λ l. length l.block.terms) same in
    let t = c.if-len-term.true in
    let l : length p.block.terms ≤ c.loop-plan.term = omega (arith, m, k, t) in
    subst (λ j. drop (c.loop-plan.term - j) (led_terms (drop (i + 1) ls)) ≡ drop c.args.at.term
    (led_terms (drop c.args.at.plan ls))) (sym n)
    (past_plan ls i c.loop-plan.term p h e l ∙ c.loop-plan.invariant)
