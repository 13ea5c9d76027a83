use Rattle.std.proofs.Common.{arith}
use Rattle.xet_document.proofs.DigitPairs.{value_at}
use Rattle.xet_document.proofs.hex_digits.value.Goals as goal

pub returns : goal.returns
returns c = value_at c.args.digit (omega arith)
