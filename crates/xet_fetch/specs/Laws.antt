-- Laws of refreshes and cached entries.
use Rattle.std.specs.Prelude.{ℕ, ◌≡◌, ◌<◌, Bool, true, List, ◌++◌, length, All, None, Some, Option, IfOk, IsSome}
use Rattle.std.specs.Prelude.{slice_get}
use Rattle.xet_base.specs.declared.cas_types.ChunkRange.{ChunkRange}
use Rattle.xet_base.specs.declared.cas_types.FileRange.{FileRange}
use Rattle.xet_base.specs.declared.merklehash.MerkleHash.{MerkleHash}
use Rattle.xet_base.specs.Store.{Store, IsValid}
use Rattle.xet_outside.specs.declared.block.BlockBytes.{BlockBytes}
use Rattle.xet_outside.specs.declared.plan.Plan.{Plan}
use Rattle.xet_outside.specs.declared.plan.PlanAnswer.TheVariants.{Found}
use Rattle.xet_outside.specs.Plan.{Shape, block_of, plan_of}
use Rattle.xet_outside.specs.declared.said.Said.{Said}
use Rattle.xet_outside.specs.declared.served.Served.{Served}
use Rattle.xet_outside.specs.Answers.{AnswerToQuery}
use Rattle.xet_outside.specs.Told.{Holds, IsHonest, Query}
use Rattle.xet_blocks.specs.declared.reconstruction_terms.file_term.FileTerm.{FileTerm}
use Rattle.xet_blocks.specs.declared.reconstruction_terms.file_term.TermBlock.{TermBlock}
use Rattle.xet_offers.specs.declared.reconstruction_terms.retrieval_urls.TermBlockRetrievalURLs.{TermBlockRetrievalURLs}
use Rattle.xet_offers.specs.declared.reconstruction_terms.xorb_block.XorbBlock.{XorbBlock}
use Rattle.xet_blocks.specs.PlanQuery.{PlanQuery}
use Rattle.xet_offers.specs.Blocks.{PlanBlock, block_ranges, blocks_of}
use Rattle.xet_offers.specs.BlockCalls.{RequestCall, Requested}
use Rattle.xet_offers.specs.BlockChecks.{block_data}
use Rattle.xet_fetch.specs.CachedBlocks.{entry_of, is_sound}
use Rattle.xet_blocks.specs.Extracts.{failed_term_test}
use Rattle.xet_requests.specs.Refreshes.{Refresh, refresh_of}
use Rattle.xet_fetch.specs.Fetches.{IsHonestFor, TableKeeps, refresh_queries, refresh_query, refreshed}
use Rattle.xet_offers.specs.Chain.{known_size}
use Rattle.xet_blocks.specs.TermBlocks.{IsTermBlock, references}
use Rattle.xet_blocks.specs.Terms.{terms_of}
use Rattle.xet_offers.specs.PlanChecks.{IsAccepted}

-- a term passes its test in any entry that passes the tests of its block
abbrev pub PassesIn : Shape → Bool → BlockBytes → FileTerm → Type 0
PassesIn p multi e t =
    (b : PlanBlock) (size : Option ℕ) → slice_get (blocks_of p multi) t.xorb_block ≡ Some b
    → is_sound (block_ranges b) size (references p multi b) e ≡ true
    → failed_term_test t (block_data (block_ranges b) e) ≡ None

-- so does each term of an accepted plan
abbrev pub CachedTermsPass : Type 0
CachedTermsPass = (p : Shape) (q : FileRange) (multi : Bool) (e : BlockBytes) → IsAccepted p q multi
    → All (PassesIn p multi e) (terms_of p q multi)

-- an honest entry of a block of an honest plan passes the block's tests
abbrev pub HonestEntriesPass : Type 0
HonestEntriesPass = (s : Store) → IsValid s → (f : MerkleHash) (q : FileRange) (multi : Bool) (k : ℕ) (b : PlanBlock)
    → slice_get (blocks_of (plan_of s f q) multi) k ≡ Some b
    → is_sound (block_ranges b) (known_size (block_ranges b) (references (plan_of s f q) multi b))
    (references (plan_of s f q) multi b) (block_of s b.xorb (block_ranges b)) ≡ true

-- an honest block's data is an entry again
abbrev pub EntriesReturn : Type 0
EntriesReturn = (s : Store) → IsValid s → (x : MerkleHash) (rs : List ChunkRange) → Holds s x rs
    → entry_of (block_data rs (block_of s x rs)) ≡ block_of s x rs

-- the plan of a query is the plan of the bytes that its terms cover, so honest answers to a refresh pass its tests, and
-- honest blocks theirs
abbrev pub HonestTables : Type 0
HonestTables = (s : Store) → IsValid s → (p : Plan) (query : PlanQuery) (b : TermBlock)
    → IsTermBlock p query b → IsHonest s query.file query.range (Found p) → 0 < length p.terms
    → All (IsHonestFor s (refresh_of b.urls query.multirange b.blocks)) b.blocks

-- each plan by which a table was refreshed was said to the query of its refresh, whatever was asked and said afterwards
abbrev pub RefreshesAnswered : Type 0
RefreshesAnswered = (r : Refresh) (e : Served) (plans : List Plan) (asked : List Query) (all : List Said) (k : ℕ)
    (p : Plan) → slice_get plans k ≡ Some p
    → AnswerToQuery (refresh_queries r plans ++ asked) (refreshed e plans ++ all) (refresh_query r) (Found p)

-- a call of `request` for the block by this table never answers that there is none
abbrev pub CanBeRequested : TermBlockRetrievalURLs → XorbBlock → Type 0
CanBeRequested t x = (answer : Requested) → RequestCall x t answer → IfOk answer IsSome

-- each block of a plan that was accepted can be requested, by the plan's table and by what refreshes leave of it
abbrev pub FetchableBlocks : Type 0
FetchableBlocks = (p : Plan) (query : PlanQuery) (b : TermBlock) → IsTermBlock p query b
    → All (CanBeRequested b.urls) b.blocks
    × ((u : TermBlockRetrievalURLs) → TableKeeps (refresh_of b.urls query.multirange b.blocks) b.urls u
    → All (CanBeRequested u) b.blocks)
