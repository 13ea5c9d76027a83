use Rattle.std.proofs.Common.{◌≡◌, ◌∙◌, ◌<◌, arith, length, rules, None}
use Rattle.xet_base.specs.Lists.{first_some}
use Rattle.xet_outside.specs.Plan.{shape}
use Rattle.xet_offers.specs.PlanChecks.{covered, place_tests}
use Rattle.xet_blocks.specs.PlanQuery.{PlanQuery}
use Rattle.xet_blocks.proofs.TermBlockAnswers.{from_made, made_is, planned_fits, planned_starts}
use Rattle.xet_blocks.proofs.reconstruction_terms.file_term.answer_plan.Goals as goal

pub term_block-requires-clause-started : goal.term_block-requires-clause-started
term_block-requires-clause-started c = planned_starts c.args.plan.now c.args.multirange c.in_ok-blocks.blocks c.in_ok-blocks.ensures.planned.1

pub term_block-requires-clause-fit : goal.term_block-requires-clause-fit
term_block-requires-clause-fit c =
    let plan = c.args.plan.now in
    let passed : first_some (place_tests (shape plan) c.args.query) ≡ None = search rules in
    planned_fits plan c.args.query passed

pub returns : goal.returns
returns c =
    let plan = c.args.plan.now in
    let query : PlanQuery = record { file = c.args.file_hash; range = c.args.query; multirange = c.args.multirange; id = c.args.id } in
    let passed : first_some (place_tests (shape plan) c.args.query) ≡ None = search rules in
    let range : c.in_ok-byte_range.byte_range ≡ covered (shape plan) c.args.query = search rules in
    let some : 0 < length plan.terms = omega (arith, c.len.ensures, c.if-len-eq0.false) in
    let urls = c.in_ok-urls.ensures in
    record {
      made = from_made plan query c.in_ok-made.made plan.terms some c.in_ok-blocks.ensures.planned.0 passed
          (made_is plan query c.in_ok-blocks.blocks c.new-urls.result c.in_ok-made.made c.in_ok-blocks.ensures.planned.1 c.in_ok-made.ensures
          (c.new-urls.ensures ∙ (λ i. record { file_hash = query.file; byte_range = range i; acquisition_id = query.id; retrieval_urls = urls i })));
      refused = tt;
    }
