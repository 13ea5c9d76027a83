use Rattle.xet_progress_state.specs.Group.{sized, group_sums}
use Rattle.xet_progress.specs.Held.{UpdaterCall, known_answer}
use Rattle.xet_progress.proofs.Held.{size_test, updater_call}
use Rattle.xet_progress.proofs.Nothing.{nothing_to_complete}
use Rattle.xet_progress.proofs.updater.ItemProgressUpdater.update_item_size.Goals as goal

pub returns-clause-call : goal.returns-clause-call
returns-clause-call g c =
    let call : UpdaterCall c.deref_mut.result.now c.update_item_size.new.self c.self.inside.id (sized (group_sums c.deref_mut.result.now).total_bytes c.args.total c.args.is_final) (known_answer c.update_item_size.result) =
    updater_call c.deref_mut.result.now c.update_item_size.new.self c.self.inside.id (sized (group_sums c.deref_mut.result.now).total_bytes c.args.total c.args.is_final) (size_test (group_sums c.deref_mut.result.now).total_bytes c.args.total c.args.is_final) c.update_item_size.result c.update_item_size.ensures in
    record { before = c.deref_mut.result.now; now = c.update_item_size.new.self; sound = rw c.deref_mut.ensures.value c.lock.ensures; call = rw (c.known.ensures, ← c.self.view_is) call }

pub returns-clause-nothing : goal.returns-clause-nothing
returns-clause-nothing g c = λ none. nothing_to_complete c.args.self.now c.args.total c.args.is_final c.known.result none (returns-clause-call g c)
