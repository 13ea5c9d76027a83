use Rattle.std.proofs.Common.{◌≡◌}
use Rattle.xet_stages.proofs.accounts.record_from.Given as goal

-- the pass has the parts that it had
abbrev pub invariant-terms : goal.invariant-terms
invariant-terms g l = l.pass.share.parts ≡ l.fn.pass.share.parts
