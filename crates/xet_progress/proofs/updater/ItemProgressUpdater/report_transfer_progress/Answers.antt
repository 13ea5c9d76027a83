use Rattle.xet_progress_state.specs.Group.{more_transferred}
use Rattle.xet_progress.specs.Held.{UpdaterCall, known_answer}
use Rattle.xet_progress.proofs.Held.{transferred_test, updater_call}
use Rattle.xet_progress.proofs.Nothing.{nothing_transferred}
use Rattle.xet_progress.proofs.updater.ItemProgressUpdater.report_transfer_progress.Goals as goal

pub returns-clause-call : goal.returns-clause-call
returns-clause-call g c =
    let call : UpdaterCall c.deref_mut.result.now c.report_transfer_progress.new.self c.self.inside.id (more_transferred c.args.delta) (known_answer c.report_transfer_progress.result) =
    updater_call c.deref_mut.result.now c.report_transfer_progress.new.self c.self.inside.id (more_transferred c.args.delta) (transferred_test c.args.delta) c.report_transfer_progress.result c.report_transfer_progress.ensures in
    record { before = c.deref_mut.result.now; now = c.report_transfer_progress.new.self; sound = rw c.deref_mut.ensures.value c.lock.ensures; call = rw (c.known.ensures, ← c.self.view_is) call }

pub returns-clause-nothing : goal.returns-clause-nothing
returns-clause-nothing g c = λ none. nothing_transferred c.args.self.now c.args.delta c.known.result none (returns-clause-call g c)
