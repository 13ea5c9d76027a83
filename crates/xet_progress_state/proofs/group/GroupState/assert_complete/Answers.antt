use Rattle.std.proofs.Common.{◌∙◌}
use Rattle.xet_progress_state.proofs.Groups.{complete_group}
use Rattle.xet_progress_state.proofs.group.GroupState.assert_complete.Goals as goal

pub returns-clause-answer : goal.returns-clause-answer
returns-clause-answer c =
    let s = c.self.inside in
    rw (← c.self.view_is) (c.completeness.ensures ∙ complete_group s.items.entries s.added s.finished s.sums c.self.invariant)
