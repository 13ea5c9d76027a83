use Rattle.xet_progress.proofs.Nothing.{nothing_added}
use Rattle.xet_progress.proofs.progress.GroupProgress.add_transfer.Goals as goal

pub returns-clause-call : goal.returns-clause-call
returns-clause-call g c = record { before = c.deref_mut.result.now; now = c.add_transfer.new.self; sound = rw c.deref_mut.ensures.value c.lock.ensures; call = c.add_transfer.ensures }

pub returns-clause-nothing : goal.returns-clause-nothing
returns-clause-nothing g c = λ a b. nothing_added c.args.total c.args.completed c.add_transfer.result a b (returns-clause-call g c)
