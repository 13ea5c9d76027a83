use Rattle.xet_progress.proofs.progress.GroupProgress.assert_complete.Goals as goal

pub returns : goal.returns
returns g c = record { before = c.deref_mut.result.now; now = c.assert_complete.new.self; sound = rw c.deref_mut.ensures.value c.lock.ensures; call = (c.assert_complete.ensures.answer, c.assert_complete.ensures.same) }
