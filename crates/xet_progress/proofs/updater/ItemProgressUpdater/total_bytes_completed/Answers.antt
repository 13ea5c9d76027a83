use Rattle.std.proofs.Common.{◌∙◌}
use Rattle.xet_progress_state.specs.declared.item.ItemProgress.{ItemProgress}
use Rattle.xet_progress.proofs.Held.{said_else}
use Rattle.xet_progress.proofs.updater.ItemProgressUpdater.total_bytes_completed.Goals as goal

pub returns : goal.returns
returns g c = record {
  before = c.deref_mut.result.now;
  now = c.total_bytes_completed.new.self;
  sound = rw c.deref_mut.ensures.value c.lock.ensures;
  call = rw (← c.self.view_is) (
    c.unwrap_or.ensures ∙ said_else c.deref_mut.result.now c.total_bytes_completed.new.self c.self.inside.id (λ (i : ItemProgress). i.bytes_completed) 0 c.total_bytes_completed.result c.total_bytes_completed.ensures.answer c.total_bytes_completed.ensures.memory,
    c.total_bytes_completed.ensures.answer.same,
  );
}
