use Rattle.std.proofs.Common.{◌≡◌, ◌==◌, false, rules}
use Rattle.std.specs.Prelude.{slice_index}
use Rattle.xet_document.proofs.Terms.{parsed_write}
use Rattle.xet_document.proofs.plain_files.number_of.Goals as goal

pub returns : goal.returns
returns c =
    let text = c.args.text.now in
    let plus : (slice_index text 0 == 43) ≡ false = search rules in
    let sign : (slice_index text 0 == 45) ≡ false = search rules in
    parsed_write text c.parse.result c.ok.result c.ok.ensures.value plus sign (search rules)
