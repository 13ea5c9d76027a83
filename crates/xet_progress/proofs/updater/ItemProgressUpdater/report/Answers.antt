use Rattle.xet_progress.proofs.Held.{reported}
use Rattle.xet_progress.proofs.updater.ItemProgressUpdater.report.Goals as goal

pub returns : goal.returns
returns g c = reported c.args.self.now c.in_ok-item.field-0 c.report.result c.in_ok-item.ensures c.report.ensures
