use Rattle.std.proofs.Common.{rules, ◌<◌, length}
use Rattle.xet_upload_parts.proofs.Hashes.{found-old}
use Rattle.xet_upload_parts.proofs.hash_list.HashList.index_next.Goals as goal

pub invariant_of-self-clause-found : goal.invariant_of-self-clause-found
invariant_of-self-clause-found c =
    let s = c.args.self.now in
    let low : s.indexed < length s.hashes.items = search rules in
    found-old s.known s.hashes.items s.indexed _ _ low c.index.ensures s.found (search rules)
