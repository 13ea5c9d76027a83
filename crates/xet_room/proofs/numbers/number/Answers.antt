use Rattle.std.proofs.Common.{◌∙◌, sym}
use Rattle.xet_room.proofs.GetNumbers.{number_of_text-parsed}
use Rattle.xet_room.proofs.numbers.number.Goals as goal

pub returns : goal.returns
returns c =
    c.ok.ensures.value
    ∙ number_of_text-parsed c.args.text.now c.parse.result c.parse.ensures.value.0 c.if-text-gt20.false (sym c.is_digits.ensures ∙ c.if-not-is_digits.false)
