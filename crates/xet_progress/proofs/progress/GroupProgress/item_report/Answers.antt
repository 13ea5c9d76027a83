use Rattle.xet_progress.proofs.Held.{held_ok}
use Rattle.xet_progress.proofs.progress.GroupProgress.item_report.Goals as goal

pub returns : goal.returns
returns g c = held_ok _ c.deref_mut.result.now c.item_report.new.self (rw c.deref_mut.ensures.value c.lock.ensures) c.item_report.result c.item_report.ensures.report c.item_report.ensures.same
