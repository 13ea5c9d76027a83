-- Refreshes of a table of URLs: their tests, and what one may do.
use Rattle.std.specs.Prelude.{ℕ, suc, ◌≡◌, ◌+◌, ◌-◌, ◌^◌, ◌≤◌, Bool, ◌&&◌, cond, List, [], ◌∷◌, length, map, min}
use Rattle.std.specs.Prelude.{nat_eq, Option, Some, None, option_map, Result, Ok, IfOk, IfErr, OnOk, OnErr, IsErrOf}
use lib.Pointwise.{pointwise}
use Rattle.xet_base.specs.declared.cas_types.ChunkRange.{ChunkRange}
use Rattle.xet_base.specs.declared.cas_types.FileRange.{FileRange}
use Rattle.xet_base.specs.declared.merklehash.MerkleHash.{MerkleHash}
use Rattle.xet_base.specs.declared.unique_id.UniqueId.{UniqueId}
use Rattle.xet_base.specs.Hashes.{hash_eq}
use Rattle.xet_base.specs.Lists.{first_some}
use Rattle.xet_outside.specs.declared.plan.Plan.{Plan}
use Rattle.xet_outside.specs.declared.plan.PlanAnswer.{PlanAnswer}
use Rattle.xet_outside.specs.declared.plan.PlanAnswer.TheVariants.{Found, PastEnd, NoFile}
use Rattle.xet_outside.specs.Plan.{Shape, shape}
use Rattle.xet_outside.specs.Told.{ClientTold, Rose}
use Rattle.xet_error.specs.declared.error.Corruption.{Corruption}
use Rattle.xet_error.specs.declared.error.Corruption.TheVariants.{RefreshPastEnd, RefreshRange, RefreshBlocks}
use Rattle.xet_error.specs.declared.error.FileReconstructionError.{FileReconstructionError}
use Rattle.xet_error.specs.declared.error.FileReconstructionError.TheVariants as error
use Rattle.xet_offers.specs.declared.reconstruction_terms.retrieval_urls.RetrievalUrl.{RetrievalUrl}
use Rattle.xet_offers.specs.declared.reconstruction_terms.retrieval_urls.TermBlockRetrievalURLs.{TermBlockRetrievalURLs}
use Rattle.xet_offers.specs.declared.reconstruction_terms.xorb_block.XorbBlock.{XorbBlock}
use Rattle.xet_offers.specs.Blocks.{block_ranges, blocks_of, range_eq}
use Rattle.xet_offers.specs.PlanChecks.{covered, failed_test}
use Rattle.xet_blocks.specs.TermBlocks.{urls_of}
use Rattle.xet_blocks.specs.TermBlockCalls.{AskedAtMostOnce, QueryAnswered}

-- ---- tests

-- what of a xorb a block has: the xorb and the chunk ranges
abbrev pub Extent : Type 0
Extent = MerkleHash × List ChunkRange

abbrev pub extent_of : XorbBlock → Extent
extent_of x = (x.xorb_hash, x.chunk_ranges)

abbrev pub plan_extents : Shape → Bool → List Extent
plan_extents p multi = map (λ b. (b.xorb, block_ranges b)) (blocks_of p multi)

abbrev pub same_extent : Extent → Extent → Bool
same_extent a b = hash_eq a.0 b.0 && pointwise range_eq a.1 b.1

-- the first index at which two lists of blocks differ; where one is a part of the other, that of its end
abbrev pub first_difference : List Extent → List Extent → Option ℕ
first_difference [] [] = None
first_difference [] (y ∷ ys) = Some 0
first_difference (x ∷ xs) [] = Some 0
first_difference (x ∷ xs) (y ∷ ys) = cond (same_extent x y) (option_map (λ k. suc k) (first_difference xs ys)) (Some 0)

-- a refresh covers the bytes that were asked for
abbrev pub range_test : FileRange → FileRange → Option Corruption
range_test q returned =
    cond (nat_eq returned.start q.start && nat_eq returned.end q.end) None (Some (RefreshRange returned))

-- a refresh has the blocks that were there before
abbrev pub blocks_test : List Extent → List Extent → Option Corruption
blocks_test before now = option_map (λ k. RefreshBlocks k) (first_difference before now)

-- the first test that a refresh by a plan with terms fails, over the blocks from before
abbrev pub failed_refresh : FileRange → Bool → List Extent → Shape → Option Corruption
failed_refresh q multi before p =
    first_some (failed_test p q multi ∷ range_test q (covered p q) ∷ blocks_test before (plan_extents p multi) ∷ [])

-- why a refresh by a connection's answer is refused, where it is
abbrev pub refusal_of : FileRange → Bool → List Extent → PlanAnswer → Option FileReconstructionError
refusal_of q multi before NoFile = Some error.FileNotFound
refusal_of q multi before PastEnd = Some (error.CorruptedReconstruction RefreshPastEnd)
refusal_of q multi before (Found p) =
    cond (nat_eq (length p.terms) 0)
    (Some (error.CorruptedReconstruction RefreshPastEnd))
    (option_map (λ k. error.CorruptedReconstruction k) (failed_refresh q multi before (shape p)))

-- ---- calls

-- what is asked again: a file, a range of it, how blocks are made, and the blocks from before
pub record Refresh : Type 0 where
  pub file : MerkleHash
  pub range : FileRange
  pub multirange : Bool
  pub blocks : List Extent

-- a connection was asked and gave this answer, which is what it said and that of the store that it tells
abbrev pub Answered : Refresh → ClientTold → ClientTold → PlanAnswer → Type 0
Answered r before after answer = QueryAnswered before after (r.file, r.range) answer

-- URLs came with a plan that passes all tests
pub record IsRefreshed (r : Refresh) (before after : ClientTold) (us : List RetrievalUrl) : Type 0 where
  pub plan : Plan
  pub answered : Answered r before after (Found plan)
  pub passes : refusal_of r.range r.multirange r.blocks (Found plan) ≡ None
  pub urls : us ≡ urls_of plan r.multirange

-- an answer came that is refused with this error
pub record IsRefused (r : Refresh) (before after : ClientTold) (e : FileReconstructionError) : Type 0 where
  pub answer : PlanAnswer
  pub answered : Answered r before after answer
  pub refused : refusal_of r.range r.multirange r.blocks answer ≡ Some e

-- the cause of each error
abbrev pub RefreshCause : Refresh → ClientTold → ClientTold → FileReconstructionError → Type 0
RefreshCause r before after error.OutOfMemory = Unit {0}
RefreshCause r before after error.ClientError = Rose before.faults after.faults
RefreshCause r before after error.FileNotFound = IsRefused r before after error.FileNotFound
RefreshCause r before after error.UrlExpired = ⊥
RefreshCause r before after error.IoError = ⊥
RefreshCause r before after (error.CorruptedReconstruction k) =
    IsRefused r before after (error.CorruptedReconstruction k)
RefreshCause r before after (error.ConfigurationError s) = ⊥
RefreshCause r before after error.Cancelled = ⊥
RefreshCause r before after (error.InternalWriterError w) = ⊥

-- what a query may do to a connection, whatever it answers
pub record MayAsk (r : Refresh) (before after : ClientTold) : Type 0 where
  pub store : after.store ≡ before.store
  pub asks : AskedAtMostOnce before after (r.file, r.range)
  pub served : after.served ≡ before.served
  pub faults : before.faults ≤ after.faults
  pub expiries : before.expiries ≤ after.expiries
  pub link : after.link ≡ before.link

-- the query of a refresh, and the URLs that it gives
pub record FreshCall (r : Refresh) (before after : ClientTold)
    (answer : Result (List RetrievalUrl) FileReconstructionError) : Type 0 where
  pub may : MayAsk r before after
  pub unsaid : IsErrOf answer error.ClientError → after.said ≡ before.said
  pub refreshed : IfOk answer (IsRefreshed r before after)
  pub cause : IfErr answer (RefreshCause r before after)

abbrev pub next_id : UniqueId → UniqueId
next_id id = record id { refresh = min (id.refresh + 1) (2 ^ 128 - 1) }

-- what a table asks again, for these blocks
abbrev pub refresh_of : TermBlockRetrievalURLs → Bool → List XorbBlock → Refresh
refresh_of t multi xs =
    record { file = t.file_hash; range = t.byte_range; multirange = multi; blocks = map extent_of xs }

-- one call of `refresh_retrieval_urls` on a table, by an id
pub record RefreshCall (t u : TermBlockRetrievalURLs) (before after : ClientTold) (id : UniqueId)
    (xs : List XorbBlock) (multi : Bool) (answer : Result (Unit {0}) FileReconstructionError) : Type 0 where
  -- another id than the table's: nothing is asked and nothing changes
  pub stale : (t.acquisition_id ≡ id → ⊥) → (answer ≡ Ok tt) × (u ≡ t) × (after ≡ before)
  pub may : MayAsk (refresh_of t multi xs) before after
  pub unsaid : IsErrOf answer error.ClientError → after.said ≡ before.said
  -- on Ok the table has the id that follows and the plan's URLs
  pub renewed : t.acquisition_id ≡ id → OnOk answer (IsRefreshed (refresh_of t multi xs) before after u.retrieval_urls
      × (u ≡ record t { acquisition_id = next_id t.acquisition_id; retrieval_urls = u.retrieval_urls }))
  -- a refusal leaves it
  pub kept : OnErr answer (u ≡ t)
  pub cause : IfErr answer (RefreshCause (refresh_of t multi xs) before after)
