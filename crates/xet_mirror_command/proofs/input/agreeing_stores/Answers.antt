use Rattle.serde_json.specs.View.{view}
use Rattle.xet_mirror_command.proofs.Documents.{lacks_agreeing}
use Rattle.xet_mirror_command.proofs.input.agreeing_stores.Goals as goal

pub returns-in-None : goal.returns-in-None
returns-in-None c = lacks_agreeing (view c.args.value.now) (rw c.in-None.is at c.in_ok-stores.ensures)
