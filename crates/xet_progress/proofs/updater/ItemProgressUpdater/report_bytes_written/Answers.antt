use Rattle.xet_progress_state.specs.Group.{more_completed}
use Rattle.xet_progress.specs.Held.{UpdaterCall, known_answer}
use Rattle.xet_progress.proofs.Held.{completed_test, updater_call}
use Rattle.xet_progress.proofs.Nothing.{nothing_completed}
use Rattle.xet_progress.proofs.updater.ItemProgressUpdater.report_bytes_written.Goals as goal

pub returns-clause-call : goal.returns-clause-call
returns-clause-call g c =
    let call : UpdaterCall c.deref_mut.result.now c.report_bytes_written.new.self c.self.inside.id (more_completed c.args.increment) (known_answer c.report_bytes_written.result) =
    updater_call c.deref_mut.result.now c.report_bytes_written.new.self c.self.inside.id (more_completed c.args.increment) (completed_test c.args.increment) c.report_bytes_written.result c.report_bytes_written.ensures in
    record { before = c.deref_mut.result.now; now = c.report_bytes_written.new.self; sound = rw c.deref_mut.ensures.value c.lock.ensures; call = rw (c.known.ensures, ← c.self.view_is) call }

pub returns-clause-nothing : goal.returns-clause-nothing
returns-clause-nothing g c = λ none. nothing_completed c.args.self.now c.args.increment c.known.result none (returns-clause-call g c)
