use Rattle.std.proofs.Common.{◌∷◌, [], ◌∙◌, refl, sym}
use Rattle.sha2.specs.Hashers.{Holds256}
use Rattle.xet_base.specs.Digests.{chunks_text, infos_of}
use Rattle.xet_audit.proofs.Hashing.{no_xorb_hash, xorb_hash_is}
use Rattle.xet_audit.proofs.hash_faults.has_xorb_hash.Goals as goal

pub returns-then-feed : goal.returns-then-feed
returns-then-feed c = λ cs are.
    let fed = rw c.if-feed.true at (c.feed.ensures cs are) in
    let first : Holds256 c.update.new.self (1 ∷ []) = rw c.as_slice.ensures at (c.update.ensures [] c.new-hasher.ensures) in
    let held = fed.holds (1 ∷ []) first in
    c.is_same.ensures ∙ xorb_hash_is c.args.hash.now _ cs (1 ∷ chunks_text (infos_of cs)) (c.finalize.ensures (1 ∷ chunks_text (infos_of cs)) held) refl fed.short

pub returns-else-feed : goal.returns-else-feed
returns-else-feed c = λ cs are. c.if-feed.false ∙ sym (no_xorb_hash c.args.hash.now cs (rw c.if-feed.false at (c.feed.ensures cs are)))
