use Rattle.std.proofs.Common.{◌≡◌}
use Rattle.xet_upload_parts.proofs.hash_list.HashList.catch_up.Given as goal

abbrev pub invariant-loop : goal.invariant-loop
invariant-loop l = l.self.hashes ≡ l.initial.self.hashes
