use Rattle.std.proofs.Common.{◌≡◌, ◌++◌, ◌∙◌, List, [], ap, drop, sym}
use Rattle.std.proofs.lemmas.List.{append-nil, drop_all}
use Rattle.xet_outside.specs.declared.plan.PlanTerm.{PlanTerm}
use Rattle.xet_blocks.specs.steps.Planning.{terms_at, with_starts}
use Rattle.xet_blocks.proofs.reconstruction_terms.plan_blocks.PlanBlocks.file_terms.Goals as goal

pub returns : goal.returns
returns c =
    let terms = c.loop-number.terms in
    let items = c.as_slice-term-items.result.now in
    let starts = c.as_slice-starts.result.now in
    let i = c.loop-number.number in
    let none : drop i items ≡ [] = drop_all i items c.loop-number-test.false in
    sym (append-nil terms)
    ∙ ap (λ (ts : List PlanTerm). terms ++ terms_at c.args.query.end c.loop-number.place c.loop-number.offset (with_starts ts (drop i starts))) (sym none)
    ∙ c.loop-number.invariant.done
