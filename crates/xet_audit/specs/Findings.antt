-- What is wrong with a store, in order, and which of its xorbs no file names.
use Rattle.std.specs.Prelude.{ℕ, ◌≡◌, ◌^◌, ◌==◌, Bool, cond, not, ◌&&◌, ◌||◌, List, [], ◌++◌, map, take, length}
use Rattle.std.specs.Prelude.{filter, is_none, is_some, nat_le, nat_lt}
use Rattle.std.specs.List.{concat, enumerate_from, flat_map, list_all, list_any, sum_by}
use Rattle.std.specs.List.Sorted.{IsStrictlySortedBy}
use Rattle.std.specs.Cmp.Lexicographic.{slice_cmp}
use Rattle.std.specs.Ordering.{nat_cmp, on}
use Rattle.std.specs.declared.cmp.Ordering.{Ordering}
use Rattle.xet_base.specs.declared.merklehash.MerkleHash.{MerkleHash}
use Rattle.xet_base.specs.declared.mdb_shard.Xorb.{Xorb}
use Rattle.xet_base.specs.declared.stored.StoredFile.{StoredFile}
use Rattle.xet_base.specs.declared.stored.StoredTerm.{StoredTerm}
use Rattle.xet_base.specs.Digests.{file_hash_of, infos_of, xorb_hash_of}
use Rattle.xet_base.specs.Hashes.{hash_eq}
use Rattle.xet_base.specs.Store.{Store, chunks_of_term, xorb_of}
use Rattle.xet_store.specs.Refusals.{is_term_in, term_length}
use Rattle.xet_findings.specs.declared.finding.Finding.{Finding}

-- ---- findings by places, which count from 0

abbrev pub finding : ℕ → ℕ → ℕ → Finding
finding kind a b = record { kind = kind; a = a; b = b }

-- one of this kind for each element of which the test holds, by the element's place
abbrev pub each_at : {A : Type 0} → ℕ → (ℕ → A → Bool) → List A → List Finding
each_at kind test xs = map (λ p. finding kind p.0 0) (filter (λ p. test p.0 p.1) (enumerate_from 0 xs))

-- one for each part of the element at this place of which it holds, by both places
abbrev pub each_part : {B : Type 0} → ℕ → (B → Bool) → ℕ → List B → List Finding
each_part kind test a ys = map (λ q. finding kind a q.0) (filter (λ q. test q.1) (enumerate_from 0 ys))

-- so of all elements
abbrev pub each_within : {A B : Type 0} → ℕ → (A → List B) → (B → Bool) → List A → List Finding
each_within kind parts test xs = flat_map (λ p. each_part kind test p.0 (parts p.1)) (enumerate_from 0 xs)

-- ---- the tests

-- an earlier xorb has the hash, an earlier file
abbrev pub is_later_xorb : Store → ℕ → Xorb → Bool
is_later_xorb s i x = list_any (λ y. hash_eq y.hash x.hash) (take i s.xorbs)

abbrev pub is_later_file : Store → ℕ → StoredFile → Bool
is_later_file s i f = list_any (λ g. hash_eq g.hash f.hash) (take i s.files)

-- there are 2^32 chunks or bytes or more
abbrev pub is_too_large : Xorb → Bool
is_too_large x = nat_le (2 ^ 32) (length x.chunks) || nat_le (2 ^ 32) (length (concat x.chunks))

-- the term names a xorb and isn't from below to inside it; of two xorbs with one hash the first counts
abbrev pub is_outside : Store → StoredTerm → Bool
is_outside s t = is_some (xorb_of s t.xorb) && not (is_term_in s t)

-- each term of the file names chunks of a xorb
abbrev pub resolves : Store → StoredFile → Bool
resolves s f = list_all (is_term_in s) f.terms

-- the file has 2^64 bytes or more
abbrev pub is_too_long : Store → StoredFile → Bool
is_too_long s f = resolves s f && nat_le (2 ^ 64) (sum_by (term_length s) f.terms)

-- hashes count lengths as 4 bytes
abbrev pub are_short : List (List ℕ) → Bool
are_short cs = list_all (λ c. nat_lt (length c) (2 ^ 32)) cs

-- the hash is that of these chunks as a xorb, as a file
abbrev pub is_xorb_hash : MerkleHash → List (List ℕ) → Bool
is_xorb_hash h cs = are_short cs && hash_eq h (xorb_hash_of (infos_of cs))

abbrev pub is_file_hash : MerkleHash → List (List ℕ) → Bool
is_file_hash h cs = are_short cs && hash_eq h (file_hash_of (infos_of cs))

-- the file's terms name chunks, of which its hash isn't the hash
abbrev pub is_misnamed : Store → StoredFile → Bool
is_misnamed s f = resolves s f && not (is_file_hash f.hash (flat_map (chunks_of_term s) f.terms))

-- ---- all findings, by kind, then by place

-- kinds 1 to 7: what keeps a store from being valid
abbrev pub faults : Store → List Finding
faults s =
    each_at 1 (is_later_xorb s) s.xorbs
    ++ each_within 2 (λ x. x.chunks) (λ c. length c == 0) s.xorbs
    ++ each_at 3 (λ i x. is_too_large x) s.xorbs
    ++ each_at 4 (is_later_file s) s.files
    ++ each_within 5 (λ f. f.terms) (λ t. is_none (xorb_of s t.xorb)) s.files
    ++ each_within 6 (λ f. f.terms) (is_outside s) s.files
    ++ each_at 7 (λ i f. is_too_long s f) s.files

-- kinds 8 and 9: hashes that aren't those of the chunks
abbrev pub misnamed : Store → List Finding
misnamed s =
    each_at 8 (λ i x. not (is_xorb_hash x.hash x.chunks)) s.xorbs
    ++ each_at 9 (λ i f. is_misnamed s f) s.files

abbrev pub findings : Store → Bool → List Finding
findings s hashes = faults s ++ cond hashes (misnamed s) []

-- ---- spare xorbs

-- how hashes are ordered: by the first byte that differs
abbrev pub hash_cmp : MerkleHash → MerkleHash → Ordering
hash_cmp = on (λ h. h.0) (slice_cmp nat_cmp)

-- a term of a file names the xorb
abbrev pub is_named : Store → MerkleHash → Bool
is_named s h = list_any (λ f. list_any (λ t. hash_eq t.xorb h) f.terms) s.files

-- these are the hashes of the xorbs that no file names, ascending, each once
pub record AreSpare (s : Store) (hs : List MerkleHash) : Type 0 where
  pub ascend : IsStrictlySortedBy hash_cmp hs
  pub each : (h : MerkleHash) → list_any (λ g. hash_eq g h) hs ≡ (is_some (xorb_of s h) && not (is_named s h))
