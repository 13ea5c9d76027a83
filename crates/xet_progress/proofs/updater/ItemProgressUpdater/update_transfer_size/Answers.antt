use Rattle.xet_progress_state.specs.Group.{transfer_sized, group_sums}
use Rattle.xet_progress.specs.Held.{UpdaterCall, known_answer}
use Rattle.xet_progress.proofs.Held.{transfer_test, updater_call}
use Rattle.xet_progress.proofs.Nothing.{nothing_to_transfer}
use Rattle.xet_progress.proofs.updater.ItemProgressUpdater.update_transfer_size.Goals as goal

pub returns-clause-call : goal.returns-clause-call
returns-clause-call g c =
    let call : UpdaterCall c.deref_mut.result.now c.update_transfer_size.new.self c.self.inside.id (transfer_sized (group_sums c.deref_mut.result.now).total_transfer_bytes c.args.total) (known_answer c.update_transfer_size.result) =
    updater_call c.deref_mut.result.now c.update_transfer_size.new.self c.self.inside.id (transfer_sized (group_sums c.deref_mut.result.now).total_transfer_bytes c.args.total) (transfer_test (group_sums c.deref_mut.result.now).total_transfer_bytes c.args.total) c.update_transfer_size.result c.update_transfer_size.ensures in
    record { before = c.deref_mut.result.now; now = c.update_transfer_size.new.self; sound = rw c.deref_mut.ensures.value c.lock.ensures; call = rw (c.known.ensures, ← c.self.view_is) call }

pub returns-clause-nothing : goal.returns-clause-nothing
returns-clause-nothing g c = λ none. nothing_to_transfer c.args.self.now c.args.total c.known.result none (returns-clause-call g c)
