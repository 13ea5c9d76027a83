use Rattle.std.proofs.Common.{ap, length, sym}
use Rattle.xet_audit.proofs.term_walk.walk_files.Goals as goal

pub add_files-requires-clause-named : goal.add_files-requires-clause-named
add_files-requires-clause-named c = c.in_ok-walk.ensures.named c.args.table.now.firsts.hashes (sym (ap length c.keys.ensures))
