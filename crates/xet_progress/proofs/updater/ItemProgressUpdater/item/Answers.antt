use Rattle.std.proofs.Common.{◌∙◌, ap, []}
use Rattle.xet_progress_state.specs.declared.item.ItemProgress.{ItemProgress}
use Rattle.xet_progress_state.specs.Items.{blank_item}
use Rattle.xet_progress.proofs.Held.{said_none}
use Rattle.xet_progress.proofs.updater.ItemProgressUpdater.item.Goals as goal

pub returns : goal.returns
returns g c = record {
  before = c.deref_mut.result.now;
  now = c.item.new.self;
  sound = rw c.deref_mut.ensures.value c.lock-group.ensures;
  call = rw (← c.self.view_is) (
    c.blank.ensures ∙ ap (blank_item c.self.inside.id) (c.from_string-name.ensures ∙ c.new.ensures.bytes)
        ∙ said_none c.deref_mut.result.now c.item.new.self c.self.inside.id (λ (i : ItemProgress). record i { id = c.self.inside.id }) (blank_item c.self.inside.id []) c.in-Err-InvalidOperation.field-0-0
        (rw c.in-Err-InvalidOperation.field-0-is at c.in-Err-InvalidOperation.ensures),
    c.item.ensures.same,
  );
}
