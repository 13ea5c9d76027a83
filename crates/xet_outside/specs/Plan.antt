-- What an honest store answers: the plan of a query, and the bytes of a block.
use Rattle.std.specs.Prelude.{ℕ, suc, ◌+◌, ◌-◌, Bool, cond, ◌&&◌, List, [], ◌∷◌, map, take, length, min, max, filter}
use Rattle.std.specs.Prelude.{find, sum, count_by, option_map, unwrap_or, slice_range, nat_lt, nat_le, nat_eq}
use Rattle.std.specs.List.{concat, flat_map, list_any, range_with_len}
use Rattle.xet_base.specs.declared.merklehash.MerkleHash.{MerkleHash}
use Rattle.xet_base.specs.declared.cas_types.FileRange.{FileRange}
use Rattle.xet_base.specs.declared.cas_types.ChunkRange.{ChunkRange}
use Rattle.xet_base.specs.declared.cas_types.HttpRange.{HttpRange}
use Rattle.xet_base.specs.declared.stored.StoredTerm.{StoredTerm}
use Rattle.xet_base.specs.Hashes.{hash_eq}
use Rattle.xet_base.specs.Lists.{placed, starts, firsts}
use Rattle.xet_base.specs.Store.{Store, chunks_of, chunks_of_term, chunks_of_file, terms_of_file}
use Rattle.xet_outside.specs.declared.plan.Plan.{Plan}
use Rattle.xet_outside.specs.declared.plan.PlanTerm.{PlanTerm}
use Rattle.xet_outside.specs.declared.plan.PlanXorb.{PlanXorb}
use Rattle.xet_outside.specs.declared.plan.FetchRange.{FetchRange}
use Rattle.xet_outside.specs.declared.block.BlockBytes.{BlockBytes}

-- the length of each chunk, and of all
abbrev pub lengths : List (List ℕ) → List ℕ
lengths cs = map (λ c. length c) cs

-- a chunk, given by its place and length, has a byte in the range
abbrev pub touches : FileRange → ℕ × ℕ → Bool
touches q c = nat_lt (max c.0 q.start) (min (c.0 + c.1) q.end)

-- it ends at or before the range's start
abbrev pub ends_before : FileRange → ℕ × ℕ → Bool
ends_before q c = nat_le (c.0 + c.1) q.start

-- the terms of a file, each with its place in the file
abbrev pub placed_terms : Store → ℕ → List StoredTerm → List (ℕ × StoredTerm)
placed_terms s p [] = []
placed_terms s p (t ∷ ts) = (p, t) ∷ placed_terms s (p + sum (lengths (chunks_of_term s t))) ts

-- the plan's term for some of a xorb's chunks
abbrev pub plan_term : List (List ℕ) → MerkleHash → ChunkRange → PlanTerm
plan_term cs x r = record { xorb = x; unpacked_length = sum (lengths (slice_range cs r.start r.end)); range = r }

-- a term at a place of the file, given its xorb's chunks, cut to the chunks that the range touches
abbrev pub cut_of : List (List ℕ) → FileRange → ℕ → StoredTerm → PlanTerm
cut_of cs q p t =
    let chunks = placed p (lengths (slice_range cs t.from t.to)) in
    let first = t.from + count_by (ends_before q) chunks in
    plan_term cs t.xorb (record { start = first; end = first + count_by (touches q) chunks })

abbrev pub cut_term : Store → FileRange → ℕ × StoredTerm → PlanTerm
cut_term s q t = cut_of (chunks_of s t.1.xorb) q t.0 t.1

abbrev pub plan_terms : Store → MerkleHash → FileRange → List PlanTerm
plan_terms s f q =
    filter (λ t. nat_lt t.range.start t.range.end) (map (cut_term s q) (placed_terms s 0 (terms_of_file s f)))

-- how far into the first touched chunk the range starts
abbrev pub plan_offset : Store → MerkleHash → FileRange → ℕ
plan_offset s f q =
    unwrap_or (option_map (λ c. q.start - c.0) (find (touches q) (placed 0 (lengths (chunks_of_file s f))))) 0

-- a range before ascending ranges, joined to the first of them where it adjoins that one
abbrev pub with_range : ChunkRange → List ChunkRange → List ChunkRange
with_range r [] = r ∷ []
with_range r (s ∷ ss) = cond (nat_eq s.start r.end) (record { start = r.start; end = s.end } ∷ ss) (r ∷ s ∷ ss)

abbrev pub with_number : ℕ → List ChunkRange → List ChunkRange
with_number k rs = with_range (record { start = k; end = suc k }) rs

-- ascending numbers as the fewest ranges
abbrev pub ranges_of : List ℕ → List ChunkRange
ranges_of [] = []
ranges_of (k ∷ ks) = with_number k (ranges_of ks)

-- the numbers of a xorb's chunks that some term has
abbrev pub touched_numbers : List PlanTerm → MerkleHash → ℕ → List ℕ
touched_numbers ts x n =
    filter (λ k. list_any (λ t. hash_eq t.xorb x && nat_le t.range.start k && nat_lt k t.range.end) ts)
    (range_with_len 0 n)

-- the place of some of a xorb's chunks in its joined chunks
abbrev pub byte_range : List (List ℕ) → ChunkRange → HttpRange
byte_range cs r = record { start = sum (take r.start (lengths cs)); end = sum (take r.end (lengths cs)) }

abbrev pub fetch_range : Store → MerkleHash → ChunkRange → FetchRange
fetch_range s x r = record { chunks = r; bytes = byte_range (chunks_of s x) r }

-- a plan without its URLs: for each xorb the ranges of its entries
pub record XorbShape : Type 0 where
  pub xorb : MerkleHash
  pub entries : List (List FetchRange)

pub record Shape : Type 0 where
  pub offset : ℕ
  pub terms : List PlanTerm
  pub xorbs : List XorbShape

abbrev pub xorb_shape : PlanXorb → XorbShape
xorb_shape x = record { xorb = x.xorb; entries = map (λ e. e.ranges) x.fetch }

abbrev pub shape : Plan → Shape
shape p = record { offset = p.offset_into_first_range; terms = p.terms; xorbs = map xorb_shape p.xorbs }

-- a xorb of a store's plan: one entry with the touched ranges
abbrev pub plan_xorb : Store → List PlanTerm → MerkleHash → XorbShape
plan_xorb s ts x = record {
  xorb = x;
  entries = map (fetch_range s x) (ranges_of (touched_numbers ts x (length (chunks_of s x)))) ∷ [];
}

-- the plan of a query, but for its URLs
abbrev pub plan_of : Store → MerkleHash → FileRange → Shape
plan_of s f q =
    let ts = plan_terms s f q in
    record {
      offset = plan_offset s f q;
      terms = ts;
      xorbs = map (plan_xorb s ts) (firsts hash_eq (map (λ t. t.xorb) ts));
    }

-- the chunks of a xorb in these ranges
abbrev pub chunks_in : Store → MerkleHash → List ChunkRange → List (List ℕ)
chunks_in s x rs = flat_map (λ r. slice_range (chunks_of s x) r.start r.end) rs

-- the block of a xorb and ranges
abbrev pub block_of : Store → MerkleHash → List ChunkRange → BlockBytes
block_of s x rs = record { offsets = starts (lengths (chunks_in s x rs)); bytes = concat (chunks_in s x rs) }
