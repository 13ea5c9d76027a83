use Rattle.std.proofs.Common.{◌∙◌}
use Rattle.std.proofs.lemmas.List.Filters.{dedup_is}
use Rattle.xet_base.specs.Hashes.{hash_eq}
use Rattle.xet_audit.specs.Raws.{store_of_raw}
use Rattle.xet_audit.proofs.Unnamed.{are_spare, seen_in}
use Rattle.xet_audit.proofs.spare.spare_xorbs.Goals as goal

pub returns : goal.returns
returns c =
    let s = store_of_raw c.args.table.now.raw.now in
    let keys = c.args.table.now.firsts.hashes in
    let kept = (rw c.keys.ensures at c.in_ok-spare.ensures) (seen_in s) c.requires.marked in
    let final = c.from_vec.ensures ∙ dedup_is hash_eq c.sort_unstable.new.self.items c.dedup.new.self.items c.dedup.ensures.filtered in
    are_spare s keys c.args.table.now.firsts.places.items c.requires.indexed.table c.in_ok-spare.spare.items c.sort_unstable.new.self.items c.from_vec.result
    kept c.sort_unstable.ensures.permutation c.sort_unstable.ensures.sorted final
