use Rattle.std.proofs.Common.{◌∷◌, [], ◌∙◌, map, refl, sym}
use Rattle.std.specs.List.{flat_map}
use Rattle.sha2.specs.Hashers.{Holds256}
use Rattle.xet_base.specs.Digests.{chunks_text, infos_of}
use Rattle.xet_base.specs.Store.{chunks_of_term}
use Rattle.xet_store.specs.Refusals.{stored_term}
use Rattle.xet_audit.specs.Raws.{store_of_raw}
use Rattle.xet_audit.proofs.Hashing.{no_file_hash, file_hash_is}
use Rattle.xet_audit.proofs.hash_faults.has_file_hash.Goals as goal

pub returns-then-feed_terms : goal.returns-then-feed_terms
returns-then-feed_terms c =
    let cs = flat_map (chunks_of_term (store_of_raw c.args.table.now.raw.now)) (map stored_term c.args.terms.now) in
    let fed = rw c.if-feed_terms.true at c.feed_terms.ensures in
    let first : Holds256 c.update.new.self (2 ∷ []) = rw c.as_slice.ensures at (c.update.ensures [] c.new-hasher.ensures) in
    let held = fed.holds (2 ∷ []) first in
    c.is_same.ensures ∙ file_hash_is c.args.hash.now _ cs (2 ∷ chunks_text (infos_of cs)) (c.finalize.ensures (2 ∷ chunks_text (infos_of cs)) held) refl fed.short

pub returns-else-feed_terms : goal.returns-else-feed_terms
returns-else-feed_terms c =
    let cs = flat_map (chunks_of_term (store_of_raw c.args.table.now.raw.now)) (map stored_term c.args.terms.now) in
    c.if-feed_terms.false ∙ sym (no_file_hash c.args.hash.now cs (rw c.if-feed_terms.false at c.feed_terms.ensures))
