use Rattle.std.proofs.Common.{◌≡◌, map}
use Rattle.xet_progress_state.specs.Items.{report_of}
use Rattle.xet_progress_state.proofs.group.add_reports.Given as goal

abbrev pub invariant-loop-id : goal.invariant-loop-id
invariant-loop-id l = l.reports.entries ≡ map (λ p. (p.0.now, report_of p.1.now)) l.yielded
