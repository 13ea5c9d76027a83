use Rattle.xet_progress_state.proofs.Groups.{bytes_within, transfer_within}
use Rattle.xet_progress_state.proofs.group.GroupState.report.Goals as goal

pub returns-clause-bytes : goal.returns-clause-bytes
returns-clause-bytes c = let s = c.self.inside in rw c.self.invariant.sums_are (bytes_within (record { items = s.items.entries; added = s.added; finished = s.finished }) c.self.invariant.within)

pub returns-clause-transfer : goal.returns-clause-transfer
returns-clause-transfer c = let s = c.self.inside in rw c.self.invariant.sums_are (transfer_within (record { items = s.items.entries; added = s.added; finished = s.finished }) c.self.invariant.within)
