use Rattle.serde_json.specs.View.{view}
use Rattle.xet_mirror_command.proofs.Documents.{lacks_source, lacks_target}
use Rattle.xet_mirror_command.proofs.input.stores_of.Goals as goal

pub returns-in_default : goal.returns-in_default
returns-in_default c = let h = c.in_ok-source.ensures in lacks_source (view c.args.value.now) (rw c.in_default.is at h)

pub returns-in-None : goal.returns-in-None
returns-in-None c = lacks_target (view c.args.value.now) (rw c.in-None.is at c.in_ok-target.ensures)
