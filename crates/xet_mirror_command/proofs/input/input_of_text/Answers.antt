use Rattle.serde_json.specs.View.{view}
use Rattle.xet_mirror_command.proofs.Documents.{of_value}
use Rattle.xet_mirror_command.proofs.input.input_of_text.Goals as goal

pub returns-in-Some : goal.returns-in-Some
returns-in-Some c =
    let reads = rw c.in-Some.is at c.in_ok-value.ensures in
    of_value c.args.text.items (view c.in-Some.value) c.input_of.result reads c.input_of.ensures
