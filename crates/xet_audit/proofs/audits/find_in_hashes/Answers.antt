use Rattle.std.proofs.Common.{append-nil, sym}
use Rattle.xet_audit.proofs.audits.find_in_hashes.Goals as goal

pub returns : goal.returns
returns c = rw c.if-hashes.false (sym (append-nil c.args.found.now.items))
