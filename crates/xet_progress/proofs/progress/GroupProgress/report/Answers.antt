use Rattle.xet_progress.proofs.progress.GroupProgress.report.Goals as goal

pub returns-clause-sums : goal.returns-clause-sums
returns-clause-sums g c = record { before = c.deref_mut.result.now; now = c.report.new.self; sound = rw c.deref_mut.ensures.value c.lock.ensures; call = (c.report.ensures.sums, c.report.ensures.same) }
