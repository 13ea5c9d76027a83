use Rattle.std.proofs.Common.{◌≡◌, rules, subst, sym, Err, None, Result}
use Rattle.std.specs.Prelude.{IfErr}
use Rattle.xet_base.specs.Lists.{first_some}
use Rattle.xet_base.proofs.CallerLemmas.{err-of}
use Rattle.xet_outside.specs.Plan.{shape}
use Rattle.xet_error.specs.declared.error.FileReconstructionError.{FileReconstructionError}
use Rattle.xet_blocks.specs.declared.reconstruction_terms.plan_blocks.PlanBlocks.{PlanBlocks}
use Rattle.xet_offers.specs.PlanChecks.{entry_tests, ranges_test}
use Rattle.xet_offers.specs.Refusals.{IsRefusal}
use Rattle.xet_blocks.proofs.TermBlockAnswers.{blocks_planned, blocks_refuse, xorbs_refuse}
use Rattle.xet_blocks.proofs.reconstruction_terms.file_term.plan_blocks.Goals as goal

pub returns-in_err-xorbs-clause-refused : goal.returns-in_err-xorbs-clause-refused
returns-in_err-xorbs-clause-refused c =
    let plan = c.args.plan.now in
    let multi = c.args.multirange in
    let passed : ranges_test (shape plan) multi ≡ None = search rules in
    let e : c.from_residual-in_err-xorbs.result ≡ Err c.in_err-xorbs.field-0.0 = err-of _ _ c.from_residual-in_err-xorbs.ensures in
    subst (λ (r : Result PlanBlocks FileReconstructionError). IfErr r (IsRefusal (first_some (entry_tests (shape plan) multi)))) (sym e)
    (xorbs_refuse plan c.in_ok-offers.offers.plan.now multi c.in_err-xorbs.field-0.0 c.in_ok-offers.ensures.plan passed c.in_err-xorbs.ensures.refused)

pub returns : goal.returns
returns c =
    let plan = c.args.plan.now in
    let multi = c.args.multirange in
    let offers = c.in_ok-offers.offers in
    let same = c.in_ok-offers.ensures.plan in
    let on = c.in_ok-offers.ensures.multirange in
    let passed : ranges_test (shape plan) multi ≡ None = search rules in
    let xorbs = c.in_ok-xorbs.ensures.numbers.0 in
    record {
      planned = blocks_planned plan offers.plan.now multi offers.multirange same on passed xorbs c.new-2.result c.new-2.ensures.planned;
      refused = blocks_refuse plan offers.plan.now multi offers.multirange same on passed xorbs c.new-2.result c.new-2.ensures.refused;
    }
