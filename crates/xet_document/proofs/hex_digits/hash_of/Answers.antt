use Rattle.std.proofs.Common.{sym}
use Rattle.xet_document.proofs.HashDigits.{hash_else}
use Rattle.xet_document.proofs.hex_digits.hash_of.Goals as goal

pub returns-then-text-ne64 : goal.returns-then-text-ne64
returns-then-text-ne64 c = sym (hash_else c.args.text.now c.if-text-ne64.true)
