use Rattle.std.proofs.Common.{◌≡◌, ◌++◌, drop}
use Rattle.xet_blocks.specs.steps.Planning.{Fit, terms_at, with_starts}
use Rattle.xet_blocks.proofs.reconstruction_terms.plan_blocks.PlanBlocks.file_terms.Given as goal

abbrev pub invariant-loop-number : goal.invariant-loop-number
invariant-loop-number l = record {
  fit : Fit l.place l.offset (drop l.number l.term-items);
  done : l.terms ++ terms_at l.fn.query.end l.place l.offset (with_starts (drop l.number l.term-items) (drop l.number l.starts))
      ≡ terms_at l.fn.query.end l.fn.query.start l.fn.plan.offset_into_first_range (with_starts l.fn.plan.terms l.fn.self.starts);
}
