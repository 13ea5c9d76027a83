use Rattle.xet_progress.proofs.Held.{held_ok}
use Rattle.xet_progress.proofs.progress.GroupProgress.item_reports.Goals as goal

pub returns : goal.returns
returns g c = held_ok _ c.deref_mut.result.now c.item_reports.new.self (rw c.deref_mut.ensures.value c.lock.ensures) c.item_reports.result c.item_reports.ensures.reports c.item_reports.ensures.same
