-- A store in memory answers block requests honestly.
use Rattle.std.proofs.Common.{◌≡◌, ℕ, ◌≤◌, ◌<◌, Bool, true, false, ◌&&◌, List, [], ◌∷◌, length, refl, sym, ◌∙◌, ap, subst, Some}
use Rattle.std.specs.Prelude.{nat_le, nat_lt}
use Rattle.std.proofs.lemmas.Bool.{lt-ltb, le-leb, ltb-true, leb-true}
use Rattle.xet_base.specs.declared.cas_types.ChunkRange.{ChunkRange}
use Rattle.xet_base.specs.declared.merklehash.MerkleHash.{MerkleHash}
use Rattle.xet_base.specs.Ranges.{Ascend}
use Rattle.xet_base.specs.Store.{Store, chunks_of}
use Rattle.xet_outside.specs.declared.block.BlockBytes.{BlockBytes}
use Rattle.xet_store.specs.MemBlocks.{ascends, holds, mem_block}
use Rattle.xet_outside.specs.Plan.{block_of}
use Rattle.xet_outside.specs.Told.{Holds}

-- what ascends passes the test
pub ascends_true : (low high : ℕ) (rs : List ChunkRange) → Ascend low high rs → ascends low high rs ≡ true
ascends_true low high [] a = refl
ascends_true low high (r ∷ rs) a =
    let one : nat_le low r.start ≡ true = le-leb low r.start a.0 in
    let two : nat_lt r.start r.end ≡ true = lt-ltb r.start r.end a.1 in
    let three : nat_le r.end high ≡ true = le-leb r.end high a.2 in
    let more = ascends_true r.end high rs a.3 in
    rw (one, two, three, more)

-- what passes the test ascends
pub ascends_is : (low high : ℕ) (rs : List ChunkRange) → ascends low high rs ≡ true → Ascend low high rs
ascends_is low high [] e = tt
ascends_is low high (r ∷ rs) e = go (nat_le low r.start) refl (nat_lt r.start r.end) refl (nat_le r.end high) refl e
    (λ h. ascends_is r.end high rs h)
  where
    go : (a : Bool) → nat_le low r.start ≡ a → (b : Bool) → nat_lt r.start r.end ≡ b → (c : Bool)
        → nat_le r.end high ≡ c
        → (a && (b && (c && ascends r.end high rs))) ≡ true → (ascends r.end high rs ≡ true → Ascend r.end high rs)
        → (low ≤ r.start) × (r.start < r.end) × (r.end ≤ high) × Ascend r.end high rs
    go true a true b true c e next = (leb-true _ _ a, ltb-true _ _ b, leb-true _ _ c, next e)
    go false a b' b c' c e next = cc
    go true a false b c' c e next = cc
    go true a true b false c e next = cc

holds_true : (s : Store) (x : MerkleHash) (rs : List ChunkRange) → Holds s x rs → holds s x rs ≡ true
holds_true s x rs h = rw (h.0, ascends_true 0 (length (chunks_of s x)) rs h.1)

-- the block is honest
pub mem_block_honest : (s : Store) (x : MerkleHash) (rs : List ChunkRange) → Holds s x rs
    → mem_block s x rs ≡ block_of s x rs
mem_block_honest s x rs h = rw (holds_true s x rs h)

-- the same of an answer, and of the store that is told
pub honest_by : (t s : Store) (x : MerkleHash) (rs : List ChunkRange) (b : BlockBytes) → b ≡ mem_block t x rs
    → Some t ≡ Some s → Holds s x rs → b ≡ block_of s x rs
honest_by t s x rs b e told h =
    let same : t ≡ s = cc in
    e ∙ ap (λ (u : Store). mem_block u x rs) same ∙ mem_block_honest s x rs h

pub ascend_by : (n m : ℕ) (rs : List ChunkRange) (b : Bool) → b ≡ ascends 0 n rs → b ≡ true → n ≡ m → Ascend 0 m rs
ascend_by n m rs b e t same = subst (λ (k : ℕ). Ascend 0 k rs) same (ascends_is 0 n rs (sym e ∙ t))
