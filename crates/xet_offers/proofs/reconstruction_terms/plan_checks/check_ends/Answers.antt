use Rattle.std.proofs.Common.{◌≡◌, ◌+◌, ◌^◌, ◌<◌, ◌≤◌, ◌∙◌, [], sym, ap, ℕ, List, drop, arith, subst}
use Rattle.std.proofs.lemmas.List.{drop_all}
use Rattle.xet_outside.specs.declared.plan.PlanTerm.{PlanTerm}
use Rattle.xet_outside.specs.Plan.{shape}
use Rattle.xet_offers.specs.PlanChecks.{excess, sizes_from}
use Rattle.xet_offers.proofs.TermEnds.{IsAtEnd, after_position, at_end_done, at_end_fails, at_end_more, at_end_start, fails_position, sizes_from-drop, trim_fails, trim_passes}
use Rattle.xet_offers.proofs.reconstruction_terms.plan_checks.check_ends.Goals as goal

pub loop-number-init : goal.loop-number-init
loop-number-init c = at_end_start c.args.query.start c.args.plan.now.offset_into_first_range c.args.plan.now.terms c.requires

pub loop-number-preserved : goal.loop-number-preserved
loop-number-preserved c =
    let plan = c.args.plan.now in
    let at = c.loop-number in
    let size = c.saturating_sub-length.result in
    let all = sizes_from plan.offset_into_first_range plan.terms in
    let rest = sizes_from-drop plan.terms c.as_slice-term-items.result.now at.offset at.number c.from.result size _ c.as_slice-term-items.ensures c.loop-number-test.true c.from.ensures c.saturating_sub-length.ensures in
    let fits : at.place + size < 2 ^ 64 = c.in-Some.ensures.0 in
    let end : c.in-Some.end ≡ at.place + size = c.in-Some.ensures.1 in
    subst (λ (p : ℕ). IsAtEnd c.args.query.start all (at.number + 1) p size (sizes_from 0 (drop (at.number + 1) plan.terms))) (sym end)
    (at_end_more c.args.query.start all at.number at.place at.length size (sizes_from at.offset (drop at.number plan.terms)) (sizes_from 0 (drop (at.number + 1) plan.terms)) at.invariant rest fits)

pub returns-in-None : goal.returns-in-None
returns-in-None c =
    let plan = c.args.plan.now in
    let at = c.loop-number in
    let size = c.saturating_sub-length.result in
    let all = sizes_from plan.offset_into_first_range plan.terms in
    let rest = sizes_from-drop plan.terms c.as_slice-term-items.result.now at.offset at.number c.from.result size _ c.as_slice-term-items.ensures c.loop-number-test.true c.from.ensures c.saturating_sub-length.ensures in
    let far : 2 ^ 64 ≤ at.place + size = omega (arith, c.in-None.ensures) in
    fails_position (shape plan) c.args.query at.number
    (at_end_fails c.args.query.start all at.number at.place at.length size (sizes_from at.offset (drop at.number plan.terms)) (sizes_from 0 (drop (at.number + 1) plan.terms)) at.invariant rest far)

pub returns-then-length-excess : goal.returns-then-length-excess
returns-then-length-excess c =
    let plan = c.args.plan.now in
    let at = c.loop-number in
    let all = sizes_from plan.offset_into_first_range plan.terms in
    let none : sizes_from at.offset (drop at.number plan.terms) ≡ [] =
    ap (λ (l : List PlanTerm). sizes_from at.offset l) (ap (λ (l : List PlanTerm). drop at.number l) (sym c.as_slice-term-items.ensures) ∙ drop_all at.number c.as_slice-term-items.result.now c.loop-number-test.false) in
    let done = at_end_done c.args.query.start all at.number at.place at.length (sizes_from at.offset (drop at.number plan.terms)) at.invariant none in
    let over : c.saturating_sub-excess.result ≡ excess (shape plan) c.args.query = omega (arith, c.saturating_sub-excess.ensures, done.1) in
    after_position (shape plan) c.args.query done.0 _ (trim_fails (shape plan) c.args.query at.length c.saturating_sub-excess.result done.2 over c.if-length-excess.true)

pub returns : goal.returns
returns c =
    let plan = c.args.plan.now in
    let at = c.loop-number in
    let all = sizes_from plan.offset_into_first_range plan.terms in
    let none : sizes_from at.offset (drop at.number plan.terms) ≡ [] =
    ap (λ (l : List PlanTerm). sizes_from at.offset l) (ap (λ (l : List PlanTerm). drop at.number l) (sym c.as_slice-term-items.ensures) ∙ drop_all at.number c.as_slice-term-items.result.now c.loop-number-test.false) in
    let done = at_end_done c.args.query.start all at.number at.place at.length (sizes_from at.offset (drop at.number plan.terms)) at.invariant none in
    let over : c.saturating_sub-excess.result ≡ excess (shape plan) c.args.query = omega (arith, c.saturating_sub-excess.ensures, done.1) in
    (after_position (shape plan) c.args.query done.0 _ (trim_passes (shape plan) c.args.query at.length c.saturating_sub-excess.result done.2 over c.if-length-excess.false), done.1)
