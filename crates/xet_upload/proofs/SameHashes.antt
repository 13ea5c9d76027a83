-- Files of one hash have the same bytes, where hashes do not clash.
use Rattle.std.proofs.Common.{◌≡◌, ℕ, suc, List, [], ◌∷◌, length, refl, sym, ◌∙◌, ap, arith}
use Rattle.std.specs.Prelude.{Contains}
use Rattle.std.specs.List.{concat}
use Rattle.std.proofs.lemmas.List.Elements.{Contains-append_left, Contains-append_right}
use Rattle.xet_base.specs.declared.mdb_shard.ChunkInfo.{ChunkInfo}
use Rattle.xet_base.specs.Digests.{chunk_hash_of, info_of, infos_of}
use Rattle.xet_upload.specs.Laws.{LaterResolves, SameHashSameBytes}
use Rattle.xet_upload.proofs.Resolved.{after_resolved}

-- chunks of the one and of the other with one hash are one
abbrev Agree : List (List ℕ) → List (List ℕ) → Type 0
Agree cs ds = (a b : List ℕ) → Contains cs a → Contains ds b → chunk_hash_of a ≡ chunk_hash_of b → a ≡ b

next : (c d : List ℕ) (cs ds : List (List ℕ)) → Agree (c ∷ cs) (d ∷ ds) → Agree cs ds
next c d cs ds h a b x y = h a b (suc x.0, (let lt = x.1 in omega arith), x.2) (suc y.0, (let lt = y.1 in omega arith), y.2)

same_chunks : (cs ds : List (List ℕ)) → infos_of cs ≡ infos_of ds → Agree cs ds → cs ≡ ds
same_chunks [] [] e h = refl
same_chunks [] (d ∷ ds) e h = absurd (let size = ap length e in omega arith)
same_chunks (c ∷ cs) [] e h = absurd (let size = ap length e in omega arith)
same_chunks (c ∷ cs) (d ∷ ds) e h =
    let infos : info_of c ∷ infos_of cs ≡ info_of d ∷ infos_of ds = e in
    let head : info_of c ≡ info_of d = cc in
    let tail : infos_of cs ≡ infos_of ds = cc in
    let one : c ≡ d = h c d (0, omega arith, refl) (0, omega arith, refl) (ap (λ (i : ChunkInfo). i.hash) head) in
    let rest = same_chunks cs ds tail (next c d cs ds h) in
    cc

pub same_bytes : SameHashSameBytes
same_bytes cs ds e one agree =
    ap concat (same_chunks cs ds (one e) (λ a b x y. agree a b (Contains-append_left cs ds a x) (Contains-append_right cs ds b y)))

pub later_resolved : LaterResolves
later_resolved s t log f cs ds k stand none first mine other one agree =
    after_resolved s t log f (concat ds) k (record { chunks = ds; stand = stand; bytes_are = refl }) none first
    ∙ sym (same_bytes cs ds (sym other ∙ mine) one agree)
