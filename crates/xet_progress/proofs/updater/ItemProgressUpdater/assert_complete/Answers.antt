use Rattle.std.proofs.Common.{◌∙◌}
use Rattle.std.specs.Prelude.{Ok}
use Rattle.xet_progress_state.specs.Items.{item_completeness}
use Rattle.xet_progress.proofs.Held.{said_else}
use Rattle.xet_progress.proofs.updater.ItemProgressUpdater.assert_complete.Goals as goal

pub returns : goal.returns
returns g c = record {
  before = c.deref_mut.result.now;
  now = c.assert_item_complete.new.self;
  sound = rw c.deref_mut.ensures.value c.lock.ensures;
  call = rw (← c.self.view_is) (
    c.unwrap_or.ensures ∙ said_else c.deref_mut.result.now c.assert_item_complete.new.self c.self.inside.id item_completeness (Ok tt) c.assert_item_complete.result c.assert_item_complete.ensures.answer c.assert_item_complete.ensures.memory,
    c.assert_item_complete.ensures.answer.same,
  );
}
