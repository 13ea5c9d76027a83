use Rattle.std.proofs.Common.{◌∙◌}
use Rattle.xet_serve_lines.proofs.DigitTexts.{digits_parsed, digits_utf8}
use Rattle.xet_serve_lines.proofs.numbers.read_digits.Goals as goal

pub unreachable-requires : goal.unreachable-requires
unreachable-requires c = c.in-Err.ensures.cases.0 (digits_utf8 c.args.text.now c.requires)

pub returns : goal.returns
returns c =
    c.ok.ensures.value
    ∙ digits_parsed c.args.text.now c.parse.result (rw c.in-Ok.ensures.cases.0 at c.parse.ensures.value.0) c.requires
