-- A log stays ordered while xorbs are put, and while shards are put whose xorbs are there.
use Rattle.std.proofs.Common.{◌≡◌, ℕ, ◌<◌, ◌≤◌, ◌⊎◌, inl, inr, List, [], ◌∷◌, ◌++◌, length, map, take, sym, ◌∙◌, ap, subst, arith}
use Rattle.std.specs.Prelude.{All, Contains}
use Rattle.std.proofs.lemmas.Bool.{cases_lt}
use Rattle.std.proofs.lemmas.List.{length_push, take-append-le, take_at, get_or_append_left, get_or_push, take-take, get_or-take, length-take, map-append}
use Rattle.std.proofs.lemmas.List.Elements.{All-weaker, Contains-append_left, Contains-push}
use Rattle.xet_base.specs.declared.merklehash.MerkleHash.{MerkleHash}
use Rattle.xet_base.specs.declared.mdb_shard.Xorb.{Xorb}
use Rattle.xet_base.specs.declared.mdb_shard.ShardRecord.{ShardRecord}
use Rattle.xet_uploader.specs.declared.uploader.Put.{Put}
use Rattle.xet_uploader.specs.declared.uploader.Put.TheVariants as put
use Rattle.xet_uploader.specs.Uploads.{xorbs_in}
use Rattle.xet_uploader.proofs.CallerLemmas.{xorbs_in-append}
use Rattle.xet_base.specs.declared.mdb_shard.MDBXorbInfo.{MDBXorbInfo}
use Rattle.xet_upload.specs.Laws.{BackedWithKnown, BackedWithMore, PutIsThere, ThereWithMore}
use Rattle.xet_upload.specs.Orders.{put_hashes, names_of, IsThere, IsOrdered}

pub put_hashes-append : (ps qs : List Put) → put_hashes (ps ++ qs) ≡ put_hashes ps ++ put_hashes qs
put_hashes-append ps qs = ap (map (λ (x : Xorb). x.hash)) (xorbs_in-append ps qs) ∙ map-append (λ (x : Xorb). x.hash) (xorbs_in ps) (xorbs_in qs)

-- what is there stays there
pub there-grown : (ps qs : List Put) (known : List MerkleHash) (h : MerkleHash) → IsThere ps known h → IsThere (ps ++ qs) known h
there-grown ps qs known h (inl c) = inl (let P : List MerkleHash → Type 0 = λ hs. Contains hs h in subst P (sym (put_hashes-append ps qs)) (Contains-append_left (put_hashes ps) (put_hashes qs) h c))
there-grown ps qs known h (inr c) = inr c

pub there-known : (ps : List Put) (known more : List MerkleHash) (h : MerkleHash) → IsThere ps known h → IsThere ps (known ++ more) h
there-known ps known more h (inl c) = inl c
there-known ps known more h (inr c) = inr (Contains-append_left known more h c)

-- at entry nothing was added
pub ordered-none : (log : List Put) (known : List MerkleHash) → IsOrdered log (length log) known
ordered-none log known i r p q e = absurd (omega arith)

-- one put more, after which each shard at its place is in order
ordered-more : (log : List Put) (first : ℕ) (known : List MerkleHash) (p : Put) → IsOrdered log first known
    → ((r : ShardRecord) → p ≡ put.Shard r → All (IsThere log known) (names_of r.files)) → IsOrdered (log ++ p ∷ []) first known
ordered-more log first known p h last i r low high e = go (cases_lt i (length log))
  where
    go : (i < length log) ⊎ (length log ≤ i) → All (IsThere (take i (log ++ p ∷ [])) known) (names_of r.files)
    go (inl lt) =
        let old = sym (get_or_append_left log (p ∷ []) (put.Shard r) i lt) ∙ e in
        let le : i ≤ length log = omega arith in
        let P : List Put → Type 0 = λ ps. All (IsThere ps known) (names_of r.files) in
        subst P (sym (take-append-le i log (p ∷ []) le)) (h i r low lt old)
    go (inr ge) =
        let more = length_push log p in
        let at : length log ≡ i = omega arith in
        let is = sym (get_or_push log p (put.Shard r) i at) ∙ e in
        let P : List Put → Type 0 = λ ps. All (IsThere ps known) (names_of r.files) in
        subst P (sym (take_at log (p ∷ []) i at)) (last r is)

pub ordered-xorb : (log : List Put) (first : ℕ) (known : List MerkleHash) (x : Xorb) → IsOrdered log first known → IsOrdered (log ++ put.Xorb x ∷ []) first known
ordered-xorb log first known x h = ordered-more log first known (put.Xorb x) h (λ r e. absurd (let f : put.Xorb x ≡ put.Shard r = e in cc))

pub ordered-shard : (log : List Put) (first : ℕ) (known : List MerkleHash) (r : ShardRecord) → IsOrdered log first known → All (IsThere log known) (names_of r.files) → IsOrdered (log ++ put.Shard r ∷ []) first known
ordered-shard log first known r h there = ordered-more log first known (put.Shard r) h (λ q e. let P : ShardRecord → Type 0 = λ z. All (IsThere log known) (names_of z.files) in let f : r ≡ q = cc in subst P f there)

-- each prefix of an ordered log is ordered
pub ordered-prefix : (log : List Put) (first n : ℕ) (known : List MerkleHash) → IsOrdered log first known → IsOrdered (take n log) first known
ordered-prefix log first n known h i r low high e =
    let size = length-take n log in
    let lt : i < n = omega arith in
    let within : i < length log = omega arith in
    let le : i ≤ n = omega arith in
    let old = sym (get_or-take n log i (put.Shard r) lt) ∙ e in
    let P : List Put → Type 0 = λ ps. All (IsThere ps known) (names_of r.files) in
    subst P (sym (take-take i n log le)) (h i r low within old)

-- and it stays ordered where more is known
pub ordered-known : (log : List Put) (first : ℕ) (known more : List MerkleHash) → IsOrdered log first known → IsOrdered log first (known ++ more)
ordered-known log first known more h i r low high e =
    All-weaker (IsThere (take i log) known) (IsThere (take i log) (known ++ more)) (there-known (take i log) known more) (names_of r.files) (h i r low high e)

-- what is there stays there where more is put and known
pub there-more : ThereWithMore
there-more log puts known more h k = there-known (log ++ puts) known more h (there-grown log puts known h k)

-- a xorb that is put is there
pub put-there : PutIsThere
put-there log known x =
    let P : List MerkleHash → Type 0 = λ hs. Contains hs x.hash in
    inl (subst P (sym (put_hashes-append log (put.Xorb x ∷ []))) (Contains-push (put_hashes log) x.hash))

pub backed-more : BackedWithMore
backed-more log more known listed r h = record {
  on_list = All-weaker (IsThere log known) (IsThere (log ++ more) known) (there-grown log more known) listed h.on_list;
  described = All-weaker (λ (x : MDBXorbInfo). IsThere log known x.hash) (λ x. IsThere (log ++ more) known x.hash) (λ x k. there-grown log more known x.hash k) r.xorbs h.described;
  named = All-weaker (IsThere log known) (IsThere (log ++ more) known) (there-grown log more known) (names_of r.files) h.named;
}

pub backed-known : BackedWithKnown
backed-known log known more listed r h = record {
  on_list = All-weaker (IsThere log known) (IsThere log (known ++ more)) (there-known log known more) listed h.on_list;
  described = All-weaker (λ (x : MDBXorbInfo). IsThere log known x.hash) (λ x. IsThere log (known ++ more) x.hash) (λ x k. there-known log known more x.hash k) r.xorbs h.described;
  named = All-weaker (IsThere log known) (IsThere log (known ++ more)) (there-known log known more) (names_of r.files) h.named;
}
