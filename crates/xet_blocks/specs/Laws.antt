-- Laws of plans and their terms.
use Rattle.std.specs.Prelude.{◌≡◌, ℕ, ◌-◌, ◌^◌, ◌<◌, Bool, List, [], ◌∷◌, Option, Some, option_and_then, option_map}
use Rattle.std.specs.Prelude.{All, Contains, IsSome, MatchOption, slice_get, find, min, sum, length, slice_range}
use Rattle.std.specs.List.{flat_map, list_any}
use Rattle.xet_base.specs.declared.merklehash.MerkleHash.{MerkleHash}
use Rattle.xet_base.specs.declared.cas_types.FileRange.{FileRange}
use Rattle.xet_base.specs.declared.cas_types.ChunkRange.{ChunkRange}
use Rattle.xet_base.specs.Ranges.{Ascend, Covers}
use Rattle.xet_offers.specs.declared.reconstruction_terms.xorb_block.XorbReference.{XorbReference}
use Rattle.std.specs.Cmp.{IsEquivalence}
use Rattle.xet_offers.specs.BlockEquality.{same_xorb_block}
use Rattle.xet_offers.specs.Chain.{HasChain, chain_sum, known_size}
use Rattle.xet_base.specs.Store.{Store, IsValid, window}
use Rattle.xet_base.specs.Hashes.{hash_eq}
use Rattle.xet_base.specs.Worked.{cut}
use Rattle.xet_outside.specs.declared.plan.FetchEntry.{FetchEntry}
use Rattle.xet_outside.specs.declared.plan.Plan.{Plan}
use Rattle.xet_outside.specs.declared.plan.PlanTerm.{PlanTerm}
use Rattle.xet_outside.specs.Plan.{Shape, block_of, plan_of, shape}
use Rattle.xet_offers.specs.Blocks.{PlanBlock, block_ranges, blocks_of, lies_in, same_block, term_block}
use Rattle.xet_blocks.specs.TermBlocks.{block_url, references}
use Rattle.xet_blocks.specs.declared.reconstruction_terms.file_term.FileTerm.{FileTerm}
use Rattle.xet_outside.specs.declared.served.Served.{Served}
use Rattle.xet_blocks.specs.ServedChunks.{AllServed}
use Rattle.xet_blocks.specs.Terms.{terms_of, term_piece}
use Rattle.xet_offers.specs.PlanChecks.{IsAccepted}

-- the pieces of an honest plan's terms, each cut from its block, join to the window
abbrev pub PiecesJoin : Type 0
PiecesJoin = (s : Store) → IsValid s → (f : MerkleHash) (q : FileRange) (multi : Bool)
    → flat_map (term_piece s (plan_of s f q) multi) (terms_of (plan_of s f q) q multi) ≡ window s f q

-- a piece is as long as its term
abbrev pub IsPieceSized : Store → Shape → Bool → FileTerm → Type 0
IsPieceSized s p multi t = length (term_piece s p multi t) ≡ t.byte_range.end - t.byte_range.start

-- each of these pieces is as long as its term
abbrev pub PiecesSized : Type 0
PiecesSized = (s : Store) → IsValid s → (f : MerkleHash) (q : FileRange) (multi : Bool)
    → All (IsPieceSized s (plan_of s f q) multi) (terms_of (plan_of s f q) q multi)

-- an honest plan is accepted
abbrev pub HonestAccepted : Type 0
HonestAccepted =
    (s : Store) → IsValid s → (f : MerkleHash) (q : FileRange) (multi : Bool) → IsAccepted (plan_of s f q) q multi

-- a term cut at a place of the file
abbrev pub cut_at : ℕ → FileTerm → FileTerm
cut_at end t = record t { byte_range = record { start = t.byte_range.start; end = min t.byte_range.end end } }

-- the last of some terms cut at a place of the file, the others as they are
abbrev pub trim_last : ℕ → List FileTerm → List FileTerm
trim_last end [] = []
trim_last end (t ∷ []) = cut_at end t ∷ []
trim_last end (t ∷ u ∷ us) = t ∷ trim_last end (u ∷ us)

-- the terms of an accepted plan are those of the query without an end, the last one alone cut at the query's end
abbrev pub TrimsLastAlone : Type 0
TrimsLastAlone = (p : Shape) (q : FileRange) (multi : Bool) → IsAccepted p q multi
    → terms_of p q multi ≡ trim_last q.end (terms_of p (cut q.start (2 ^ 64 - 1)) multi)

-- the first entry of its xorb that has a range in which the term lies
abbrev pub entry_of_term : Plan → PlanTerm → Option FetchEntry
entry_of_term p t =
    option_and_then (λ x. find (λ e. list_any (lies_in t) e.ranges) x.fetch) (find (λ x. hash_eq x.xorb t.xorb) p.xorbs)

-- the first term of a block
abbrev pub first_term : Shape → Bool → PlanBlock → Option PlanTerm
first_term p multi b = find (λ t. same_block b (term_block p multi t)) p.terms

-- the URL of the first entry in which the first term of a block lies
abbrev pub first_url : Plan → Bool → PlanBlock → Option (List ℕ)
first_url p multi b = option_map (λ e. e.url) (option_and_then (entry_of_term p) (first_term (shape p) multi b))

-- on an accepted plan the URL of each block is that of the first entry in which the block's first term lies
abbrev pub UrlOfFirst : Type 0
UrlOfFirst = (p : Plan) (q : FileRange) (multi : Bool) → IsAccepted (shape p) q multi
    → All (λ b. first_url p multi b ≡ Some (block_url p multi b)) (blocks_of (shape p) multi)

-- a term lies in one of the ranges, and its size is the sum of its chunks' lengths
pub record IsSized (lens : List ℕ) (rs : List ChunkRange) (t : XorbReference) : Type 0 where
  pub some : t.term_chunks.start < t.term_chunks.end
  pub lies : Covers t.term_chunks.start t.term_chunks.end rs
  pub size : t.uncompressed_size ≡ sum (slice_range lens t.term_chunks.start t.term_chunks.end)

-- over one length per chunk a chain's sum is the block's length
abbrev pub ChainsSum : Type 0
ChainsSum = (lens : List ℕ) (rs : List ChunkRange) (ts : List XorbReference) (n : ℕ)
    → Ascend 0 (length lens) rs → All (IsSized lens rs) ts
    → chain_sum rs ts ≡ Some n → n ≡ sum (flat_map (λ r. slice_range lens r.start r.end) rs)

-- the size that a plan's terms tell of a block is its length in a store
abbrev pub TellsLength : Store → Shape → Bool → PlanBlock → Type 0
TellsLength s p multi b = (n : ℕ) → known_size (block_ranges b) (references p multi b) ≡ Some n
    → n ≡ length (block_of s b.xorb (block_ranges b)).bytes

-- over a valid store the size that an honest plan's terms tell of a block is its length
abbrev pub KnownSizes : Type 0
KnownSizes = (s : Store) → IsValid s → (f : MerkleHash) (q : FileRange) (multi : Bool)
    → All (TellsLength s (plan_of s f q) multi) (blocks_of (plan_of s f q) multi)

-- terms with chunks tell a sum exactly where some of them lead from the first range's start to the last one's end
abbrev pub ChainsExist : Type 0
ChainsExist = (r : ChunkRange) (rs : List ChunkRange) (ts : List XorbReference)
    → All (λ t. t.term_chunks.start < t.term_chunks.end) ts
    → (IsSome (chain_sum (r ∷ rs) ts) → HasChain (r ∷ rs) ts) × (HasChain (r ∷ rs) ts → IsSome (chain_sum (r ∷ rs) ts))

-- equality of blocks is an equivalence
abbrev pub BlocksEqual : Type 0
BlocksEqual = IsEquivalence same_xorb_block

-- some entry is of this block
abbrev pub IsServedBlock : List Served → PlanBlock → Type 0
IsServedBlock es b = (e : Served) × Contains es e × (e.xorb ≡ b.xorb) × (e.ranges ≡ block_ranges b)

-- some entry is of the block of this term
abbrev pub IsServedTerm : Shape → Bool → List Served → FileTerm → Type 0
IsServedTerm p multi es t = MatchOption (slice_get (blocks_of p multi) t.xorb_block) ⊥ (IsServedBlock es)

-- where the block of each term of a valid store's plan is among the entries, so is each chunk of the file that has a
-- byte in the range
abbrev pub ServedChunks : Type 0
ServedChunks = (s : Store) → IsValid s → (f : MerkleHash) (q : FileRange) (multi : Bool) (es : List Served)
    → All (IsServedTerm (plan_of s f q) multi es) (terms_of (plan_of s f q) q multi) → AllServed s f q es
