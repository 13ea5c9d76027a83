use Rattle.std.proofs.Common.{arith}
use Rattle.xet_audit.proofs.Members.{not_decoded}
use Rattle.xet_audit.proofs.raw_value.decoded.Goals as goal

pub returns-then-text-ne0-clause-chunk : goal.returns-then-text-ne0-clause-chunk
returns-then-text-ne0-clause-chunk c = not_decoded c.args.text.now (omega (arith, c.if-text-ne0.true))
