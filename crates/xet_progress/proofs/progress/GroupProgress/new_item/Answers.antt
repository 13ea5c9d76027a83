use Rattle.xet_progress.proofs.progress.GroupProgress.new_item.Goals as goal

pub returns-clause-made : goal.returns-clause-made
returns-clause-made g c = record { before = c.deref_mut.result.now; now = c.new_item-made.new.self; sound = rw c.deref_mut.ensures.value c.lock.ensures; call = c.in_ok-made.ensures }
