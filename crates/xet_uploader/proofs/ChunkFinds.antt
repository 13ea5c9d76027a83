-- What a search among records of xorbs finds, and the answer to a query that it gives.
use Rattle.std.proofs.Common.{◌≡◌, ℕ, ◌<◌, Bool, true, false, cond, List, [], ◌∷◌, ◌++◌, length, map, refl, sym, ◌∙◌, ap, subst, arith}
use Rattle.std.specs.Prelude.{Option, Some, None, find, option_map, option_and_then, slice_get}
use Rattle.std.specs.Option.{option_or}
use Rattle.std.specs.List.{list_any}
use Rattle.std.proofs.lemmas.List.{append-nil, map-append}
use Rattle.std.proofs.lemmas.Option.{none-some, same_Some}
use Rattle.xet_base.specs.declared.merklehash.MerkleHash.{MerkleHash}
use Rattle.xet_base.specs.declared.mdb_shard.MDBXorbInfo.{MDBXorbInfo}
use Rattle.xet_base.specs.declared.mdb_shard.ShardRecord.{ShardRecord}
use Rattle.xet_base.specs.declared.mdb_shard.Xorb.{Xorb}
use Rattle.xet_base.specs.Hashes.{hash_eq}
use Rattle.xet_base.proofs.CallerLemmas.{position_some, position_no}
use Rattle.xet_uploader.specs.declared.uploader.Put.{Put}
use Rattle.xet_uploader.specs.declared.uploader.Put.TheVariants as put
use Rattle.xet_uploader.specs.declared.xorb_records.ChunkPlace.{ChunkPlace}
use Rattle.xet_uploader.specs.Uploads.{alone, xorbs_in, capped_info, record_of, has_chunk, mem_query}
use Rattle.xet_uploader.specs.XorbRecords.{chunk_with, first_with, place_at, one_later}

-- the place that is found is inside the records, and names a chunk with the hash
pub record IsFirstIn (rs : List MDBXorbInfo) (h : MerkleHash) (p : ChunkPlace) : Type 0 where
  pub holder : MDBXorbInfo
  pub inside : p.xorb < length rs
  pub is_there : slice_get rs p.xorb ≡ Some holder
  pub chunk : chunk_with h holder ≡ Some p.chunk

pub first_with-is : (rs : List MDBXorbInfo) (h : MerkleHash) (p : ChunkPlace) → first_with rs h ≡ Some p → IsFirstIn rs h p
first_with-is [] h p e = absurd (none-some p e)
first_with-is (x ∷ xs) h p e = go (chunk_with h x) refl (first_with xs h) (λ q f. first_with-is xs h q f) e
  where
    go : (c : Option ℕ) → chunk_with h x ≡ c → (o : Option ChunkPlace) → ((q : ChunkPlace) → o ≡ Some q → IsFirstIn xs h q)
        → option_or (option_map (place_at 0) c) (option_map one_later o) ≡ Some p → IsFirstIn (x ∷ xs) h p
    go (Some j) f o next e =
        let P : ChunkPlace → Type 0 = IsFirstIn (x ∷ xs) h in
        subst P (same_Some (place_at 0 j) p e) (record { holder = x; inside = omega arith; is_there = refl; chunk = f })
    go None f None next e = absurd (none-some p e)
    go None f (Some q) next e =
        let rest = next q refl in
        let lt = rest.inside in
        let P : ChunkPlace → Type 0 = IsFirstIn (x ∷ xs) h in
        subst P (same_Some (one_later q) p e) (record { holder = rest.holder; inside = omega (arith, lt); is_there = rest.is_there; chunk = rest.chunk })

any-map : {A B : Type 0} (p : B → Bool) (f : A → B) (xs : List A) → list_any p (map f xs) ≡ list_any (λ x. p (f x)) xs
any-map p f [] = refl
any-map p f (x ∷ xs) = let e = any-map p f xs in cc

-- the record of a xorb has a chunk with the hash exactly where the xorb has
has-some : (h : MerkleHash) (x : Xorb) (j : ℕ) → chunk_with h (record_of x) ≡ Some j → has_chunk h x ≡ true
has-some h x j e = sym (any-map (λ c. hash_eq c.hash h) capped_info x.chunks) ∙ (position_some (λ c. hash_eq c.hash h) (map capped_info x.chunks) j e).0

has-none : (h : MerkleHash) (x : Xorb) → chunk_with h (record_of x) ≡ None → has_chunk h x ≡ false
has-none h x e = sym (any-map (λ c. hash_eq c.hash h) capped_info x.chunks) ∙ position_no (λ c. hash_eq c.hash h) (map capped_info x.chunks) e

-- the record at the place that is found is that of the first xorb with the chunk
found_record : (xs : List Xorb) (h : MerkleHash)
    → option_and_then (λ p. slice_get (map record_of xs) p.xorb) (first_with (map record_of xs) h) ≡ option_map record_of (find (has_chunk h) xs)
found_record [] h = refl
found_record (x ∷ xs) h = go (chunk_with h (record_of x)) refl (found_record xs h)
  where
    ms : List MDBXorbInfo
    ms = map record_of xs

    next : (o : Option ChunkPlace) → option_and_then (λ p. slice_get (record_of x ∷ ms) p.xorb) (option_map one_later o) ≡ option_and_then (λ p. slice_get ms p.xorb) o
    next None = refl
    next (Some q) = refl

    go : (c : Option ℕ) → chunk_with h (record_of x) ≡ c → option_and_then (λ p. slice_get ms p.xorb) (first_with ms h) ≡ option_map record_of (find (has_chunk h) xs)
        → option_and_then (λ p. slice_get (record_of x ∷ ms) p.xorb) (option_or (option_map (place_at 0) (chunk_with h (record_of x))) (option_map one_later (first_with ms h)))
        ≡ option_map record_of (cond (has_chunk h x) (Some x) (find (has_chunk h) xs))
    go (Some j) e rest =
        ap (λ (c : Option ℕ). option_and_then (λ p. slice_get (record_of x ∷ ms) p.xorb) (option_or (option_map (place_at 0) c) (option_map one_later (first_with ms h)))) e
        ∙ sym (ap (λ (b : Bool). option_map record_of (cond b (Some x) (find (has_chunk h) xs))) (has-some h x j e))
    go None e rest =
        ap (λ (c : Option ℕ). option_and_then (λ p. slice_get (record_of x ∷ ms) p.xorb) (option_or (option_map (place_at 0) c) (option_map one_later (first_with ms h)))) e
        ∙ next (first_with ms h) ∙ rest
        ∙ sym (ap (λ (b : Bool). option_map record_of (cond b (Some x) (find (has_chunk h) xs))) (has-none h x e))

answer_is : (o : Option Xorb) (m : Option MDBXorbInfo) → m ≡ option_map record_of o → option_map (λ x. alone (record_of x)) o ≡ option_map alone m
answer_is None m e = ap (option_map alone) (sym e)
answer_is (Some x) m e = ap (option_map alone) (sym e)

pub query_hit : (ps : List Put) (h : MerkleHash) (rs : List MDBXorbInfo) (p : ChunkPlace) → rs ≡ map record_of (xorbs_in ps)
    → first_with rs h ≡ Some p → option_map alone (slice_get rs p.xorb) ≡ mem_query ps h
query_hit ps h rs p is e =
    let found : option_and_then (λ p. slice_get rs p.xorb) (first_with rs h) ≡ slice_get rs p.xorb = ap (λ (o : Option ChunkPlace). option_and_then (λ p. slice_get rs p.xorb) o) e in
    let P : List MDBXorbInfo → Type 0 = λ ms. option_and_then (λ p. slice_get ms p.xorb) (first_with ms h) ≡ slice_get rs p.xorb in
    sym (answer_is (find (has_chunk h) (xorbs_in ps)) (slice_get rs p.xorb) (sym (subst P is found) ∙ found_record (xorbs_in ps) h))

pub query_miss : (ps : List Put) (h : MerkleHash) (rs : List MDBXorbInfo) → rs ≡ map record_of (xorbs_in ps) → first_with rs h ≡ None → mem_query ps h ≡ None
query_miss ps h rs is e =
    let found : option_and_then (λ p. slice_get rs p.xorb) (first_with rs h) ≡ None = ap (λ (o : Option ChunkPlace). option_and_then (λ p. slice_get rs p.xorb) o) e in
    let P : List MDBXorbInfo → Type 0 = λ ms. option_and_then (λ p. slice_get ms p.xorb) (first_with ms h) ≡ None in
    answer_is (find (has_chunk h) (xorbs_in ps)) None (sym (subst P is found) ∙ found_record (xorbs_in ps) h)

pub xorbs_in-append : (ps qs : List Put) → xorbs_in (ps ++ qs) ≡ xorbs_in ps ++ xorbs_in qs
xorbs_in-append [] qs = refl
xorbs_in-append (put.Xorb x ∷ ps) qs = ap (λ (xs : List Xorb). x ∷ xs) (xorbs_in-append ps qs)
xorbs_in-append (put.Shard r ∷ ps) qs = xorbs_in-append ps qs

-- the records of a log that grew by a xorb
pub records-push : (ps : List Put) (x : Xorb) (rs : List MDBXorbInfo) → rs ≡ map record_of (xorbs_in ps) → rs ++ record_of x ∷ [] ≡ map record_of (xorbs_in (ps ++ put.Xorb x ∷ []))
records-push ps x rs e =
    ap (λ (ms : List MDBXorbInfo). ms ++ record_of x ∷ []) e ∙ sym (map-append record_of (xorbs_in ps) (x ∷ [])) ∙ ap (map record_of) (sym (xorbs_in-append ps (put.Xorb x ∷ [])))

-- and of one that grew by records alone
pub records-same : (ps : List Put) (s : ShardRecord) (rs : List MDBXorbInfo) → rs ≡ map record_of (xorbs_in ps) → rs ≡ map record_of (xorbs_in (ps ++ put.Shard s ∷ []))
records-same ps s rs e = e ∙ ap (map record_of) (sym (append-nil (xorbs_in ps)) ∙ sym (xorbs_in-append ps (put.Shard s ∷ [])))
