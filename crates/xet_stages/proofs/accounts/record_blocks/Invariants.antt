use Rattle.std.proofs.Common.{◌≡◌}
use Rattle.xet_stages.proofs.accounts.record_blocks.Given as goal

-- the pass has the parts that it had
abbrev pub invariant-counted : goal.invariant-counted
invariant-counted g l = l.pass.share.parts ≡ l.fn.pass.share.parts
