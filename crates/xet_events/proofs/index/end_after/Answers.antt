use Rattle.std.proofs.Common.{◌≡◌, ◌-◌, length, Some, sym}
use Rattle.std.specs.Prelude.{slice_get}
use Rattle.xet_events.proofs.Ends.{last_is}
use Rattle.xet_events.proofs.index.end_after.Goals as goal

pub returns-in-Some-clause-end : goal.returns-in-Some-clause-end
returns-in-Some-clause-end g c = λ place.
    let ts = g.S.PlanSource.terms c.args.source.now in
    let last = c.in-Some.ensures.1 in
    let e : slice_get ts (length ts - 1) ≡ Some c.term.result = cc (last, c.term_count.ensures, c.term.ensures) in
    sym (last_is (λ t. t.byte_range.end) ts _ _ e)
