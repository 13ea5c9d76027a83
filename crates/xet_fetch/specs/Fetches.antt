-- What the fetches of a block do to a connection and to a table of URLs: tries that expired, each with its refresh, and
-- a last one.
use Rattle.std.specs.Prelude.{ℕ, ◌≡◌, ◌⊎◌, ◌+◌, ◌-◌, ◌^◌, ◌<◌, ◌≤◌, Bool, List, [], ◌∷◌, ◌++◌, length, map, min, All}
use Rattle.std.specs.Prelude.{Some, None, Result, Ok, Err}
use Rattle.std.specs.List.{flat_map}
use Rattle.xet_base.specs.Store.{Store}
use Rattle.xet_outside.specs.declared.block.BlockBytes.{BlockBytes}
use Rattle.xet_outside.specs.declared.plan.Plan.{Plan}
use Rattle.xet_outside.specs.declared.plan.PlanAnswer.{PlanAnswer}
use Rattle.xet_outside.specs.declared.plan.PlanAnswer.TheVariants.{Found}
use Rattle.xet_outside.specs.declared.said.Said.{Said}
use Rattle.xet_outside.specs.declared.said.Said.TheVariants as said
use Rattle.xet_outside.specs.declared.served.Served.{Served}
use Rattle.xet_outside.specs.Answers.{AnswerTo, AnswerToQuery}
use Rattle.xet_outside.specs.Plan.{block_of}
use Rattle.xet_outside.specs.Told.{Added, ClientTold, Holds, IsHonest, Query, Rose}
use Rattle.xet_error.specs.declared.error.Corruption.{Corruption}
use Rattle.xet_error.specs.declared.error.FileReconstructionError.{FileReconstructionError}
use Rattle.xet_error.specs.declared.error.FileReconstructionError.TheVariants as error
use Rattle.xet_error.specs.declared.error.Setting.TheVariants as setting
use Rattle.xet_offers.specs.declared.reconstruction_terms.retrieval_urls.TermBlockRetrievalURLs.{TermBlockRetrievalURLs}
use Rattle.xet_offers.specs.declared.reconstruction_terms.xorb_block.XorbBlock.{XorbBlock}
use Rattle.xet_offers.specs.BlockCalls.{failed_check}
use Rattle.xet_offers.specs.BlockChecks.{block_data}
use Rattle.xet_blocks.specs.TermBlocks.{urls_of}
use Rattle.xet_requests.specs.declared.fetched_block.Fetched.{Fetched}
use Rattle.xet_requests.specs.Refreshes.{Refresh, next_id, refusal_of}

-- ---- refreshes

-- a plan passes all tests of a refresh
abbrev pub PassesRefresh : Refresh → Plan → Type 0
PassesRefresh r p = refusal_of r.range r.multirange r.blocks (Found p) ≡ None

-- a table after a refresh by this plan
abbrev pub renewed_by : Bool → TermBlockRetrievalURLs → Plan → TermBlockRetrievalURLs
renewed_by multi t p = record t { acquisition_id = next_id t.acquisition_id; retrieval_urls = urls_of p multi }

-- and after refreshes by these plans, in order
abbrev pub renewed : Bool → TermBlockRetrievalURLs → List Plan → TermBlockRetrievalURLs
renewed multi t [] = t
renewed multi t (p ∷ ps) = renewed multi (renewed_by multi t p) ps

-- the query of a refresh, and those of refreshes by these plans
abbrev pub refresh_query : Refresh → Query
refresh_query r = (r.file, r.range)

abbrev pub refresh_queries : Refresh → List Plan → List Query
refresh_queries r ps = map (λ p. refresh_query r) ps

-- the entry of a block of this table, as a connection tells it
abbrev pub own_entry : TermBlockRetrievalURLs → XorbBlock → Served
own_entry t x = record {
  plan = t.acquisition_id.plan;
  index = x.xorb_block_index;
  xorb = x.xorb_hash;
  ranges = x.chunk_ranges;
}

-- expired answers to requests for a block, each with the plan that was then said to the query of its refresh
abbrev pub refreshed : Served → List Plan → List Said
refreshed e ps = flat_map (λ p. said.Expired e ∷ said.Plan (Found p) ∷ []) ps

-- ---- what fetches leave

-- the count has risen by so many in a call, or stands at its last value
abbrev pub RoseBy : ℕ → ℕ → ℕ → Type 0
RoseBy k before now = min (before + k) (2 ^ 64 - 1) ≤ now

pub record FetchesKeep (before after : ClientTold) : Type 0 where
  pub store : after.store ≡ before.store
  pub faults : before.faults ≤ after.faults
  pub expiries : before.expiries ≤ after.expiries
  pub link : after.link ≡ before.link

-- the table's file, bytes and plan stay, and it has a URL for each of the blocks for which it had one
pub record TableKeeps (r : Refresh) (t u : TermBlockRetrievalURLs) : Type 0 where
  pub file : u.file_hash ≡ t.file_hash
  pub range : u.byte_range ≡ t.byte_range
  pub plan : u.acquisition_id.plan ≡ t.acquisition_id.plan
  pub in_table : (k : ℕ) → k < length r.blocks → k < length t.retrieval_urls → k < length u.retrieval_urls

-- ---- tries

-- tries of this block that expired, each followed by a refresh by one of these plans, which passed its tests and gave
-- the table its URLs; and then one more, in which these were asked, said and served
pub record Tried (r : Refresh) (x : XorbBlock) (t u : TermBlockRetrievalURLs) (before after : ClientTold)
    (plans : List Plan) (asked : List Query) (all : List Said) (served : List Served) : Type 0 where
  pub keeps : FetchesKeep before after
  pub passes : All (PassesRefresh r) plans
  pub honest : (s : Store) → before.store ≡ Some s → All (λ p. IsHonest s r.file r.range (Found p)) plans
  pub table : u ≡ renewed r.multirange t plans
  pub asks : Added before.asked after.asked (refresh_queries r plans ++ asked)
  pub says : Added before.said after.said (refreshed (own_entry t x) plans ++ all)
  pub serves : Added before.served after.served served
  pub rose : RoseBy (length plans) before.expiries after.expiries

-- the last request has no answer
abbrev pub Unanswered : Refresh → XorbBlock → TermBlockRetrievalURLs → TermBlockRetrievalURLs → ClientTold → ClientTold
    → List Plan → Type 0
Unanswered r x t u before after plans = Tried r x t u before after plans [] [] []

-- these bytes were said to the block's own request, and over a store they are the block's
pub record GaveBytes (r : Refresh) (x : XorbBlock) (t u : TermBlockRetrievalURLs) (before after : ClientTold)
    (plans : List Plan) (bytes : BlockBytes) : Type 0 where
  pub tried : Tried r x t u before after plans [] (said.Block bytes ∷ []) (own_entry t x ∷ [])
  pub answer : AnswerTo (own_entry t x ∷ []) (refreshed (own_entry t x) plans ++ said.Block bytes ∷ [])
      (own_entry t x) bytes
  pub honest : (s : Store) → before.store ≡ Some s → Holds s x.xorb_hash x.chunk_ranges
      → bytes ≡ block_of s x.xorb_hash x.chunk_ranges

-- they pass the block's tests, and give its data
pub record GaveData (r : Refresh) (x : XorbBlock) (t u : TermBlockRetrievalURLs) (before after : ClientTold)
    (plans : List Plan) (fetched : Fetched) : Type 0 where
  pub gave : GaveBytes r x t u before after plans fetched.bytes
  pub passes : failed_check x fetched.bytes ≡ None
  pub made : fetched.found ≡ block_data x.chunk_ranges fetched.bytes

-- they fail this test
pub record GaveBad (r : Refresh) (x : XorbBlock) (t u : TermBlockRetrievalURLs) (before after : ClientTold)
    (plans : List Plan) (test : Corruption) : Type 0 where
  pub bytes : BlockBytes
  pub gave : GaveBytes r x t u before after plans bytes
  pub fails : failed_check x bytes ≡ Some test

-- the last answer expired, and no other was asked for
pub record Lapsed (r : Refresh) (x : XorbBlock) (t u : TermBlockRetrievalURLs) (before after : ClientTold)
    (plans : List Plan) : Type 0 where
  pub tried : Tried r x t u before after plans [] (said.Expired (own_entry t x) ∷ []) []
  pub rose : RoseBy (length plans + 1) before.expiries after.expiries

-- the last answer expired, and its refresh, which found no memory or met a fault, was told nothing: its query may have
-- been asked, and the table is that of the refreshes before
pub record Unrefreshed (r : Refresh) (x : XorbBlock) (t u : TermBlockRetrievalURLs) (before after : ClientTold)
    (plans : List Plan) : Type 0 where
  pub asked : List Query
  pub may : (asked ≡ []) ⊎ (asked ≡ refresh_query r ∷ [])
  pub tried : Tried r x t u before after plans asked (said.Expired (own_entry t x) ∷ []) []

-- the last answer expired, and this was said to the query of its refresh: the table is that of the refreshes before
pub record Replied (r : Refresh) (x : XorbBlock) (t u : TermBlockRetrievalURLs) (before after : ClientTold)
    (plans : List Plan) (answer : PlanAnswer) : Type 0 where
  pub tried : Tried r x t u before after plans (refresh_query r ∷ [])
      (said.Expired (own_entry t x) ∷ said.Plan answer ∷ []) []
  pub own : AnswerToQuery (refresh_queries r plans ++ refresh_query r ∷ [])
      (refreshed (own_entry t x) plans ++ said.Expired (own_entry t x) ∷ said.Plan answer ∷ []) (refresh_query r) answer
  pub honest : (s : Store) → before.store ≡ Some s → IsHonest s r.file r.range answer

-- what was said to the query of the last refresh is refused with this error
pub record Refused (r : Refresh) (x : XorbBlock) (t u : TermBlockRetrievalURLs) (before after : ClientTold)
    (plans : List Plan) (e : FileReconstructionError) : Type 0 where
  pub answer : PlanAnswer
  pub replied : Replied r x t u before after plans answer
  pub refused : refusal_of r.range r.multirange r.blocks answer ≡ Some e

-- ---- errors

-- what honest answers of a store to a block's requests and to a table's refreshes pass
pub record IsHonestFor (s : Store) (r : Refresh) (x : XorbBlock) : Type 0 where
  pub holds : Holds s x.xorb_hash x.chunk_ranges
  pub passes : failed_check x (block_of s x.xorb_hash x.chunk_ranges) ≡ None
  pub refreshes : (a : PlanAnswer) → IsHonest s r.file r.range a → refusal_of r.range r.multirange r.blocks a ≡ None

-- the connection tells no store that is honest for the block
abbrev pub IsDishonest : Refresh → XorbBlock → ClientTold → Type 0
IsDishonest r x before = (s : Store) → before.store ≡ Some s → IsHonestFor s r x → ⊥

-- how fetches with so many tries ended for want of memory: at a request or its answer, or at a refresh or its answer,
-- which one more try could follow
abbrev pub FoundNoMemory : Refresh → XorbBlock → ℕ → TermBlockRetrievalURLs → TermBlockRetrievalURLs → ClientTold
    → ClientTold → List Plan → Type 0
FoundNoMemory r x tries t u before after plans =
    ((length plans < tries) × (Unanswered r x t u before after plans
    ⊎ ((bytes : BlockBytes) × GaveBytes r x t u before after plans bytes)))
    ⊎ ((length plans + 1 < tries) × (Unrefreshed r x t u before after plans
    ⊎ ((answer : PlanAnswer) × Replied r x t u before after plans answer)))

-- how fetches with so many tries ended in an error, after tries that expired and were refreshed by these plans
abbrev pub FetchesFail : Refresh → XorbBlock → ℕ → TermBlockRetrievalURLs → TermBlockRetrievalURLs → ClientTold
    → ClientTold → List Plan → FileReconstructionError → Type 0
FetchesFail r x tries t u before after plans error.OutOfMemory = FoundNoMemory r x tries t u before after plans
FetchesFail r x tries t u before after plans error.ClientError =
    Rose before.faults after.faults × (((length plans < tries) × Unanswered r x t u before after plans)
    ⊎ ((length plans + 1 < tries) × Unrefreshed r x t u before after plans))
FetchesFail r x tries t u before after plans error.FileNotFound =
    IsDishonest r x before × (length plans + 1 < tries) × Refused r x t u before after plans error.FileNotFound
FetchesFail r x tries t u before after plans error.UrlExpired =
    (length plans + 1 ≡ tries) × Lapsed r x t u before after plans
FetchesFail r x tries t u before after plans (error.CorruptedReconstruction k) =
    IsDishonest r x before × (((length plans < tries) × GaveBad r x t u before after plans k)
    ⊎ ((length plans + 1 < tries) × Refused r x t u before after plans (error.CorruptedReconstruction k)))
FetchesFail r x tries t u before after plans (error.ConfigurationError e) =
    (e ≡ setting.NoTries) × (tries ≡ 0) × (u ≡ t) × (after ≡ before)
FetchesFail r x tries t u before after plans error.IoError = ⊥
FetchesFail r x tries t u before after plans error.Cancelled = ⊥
FetchesFail r x tries t u before after plans (error.InternalWriterError w) = ⊥

-- how fetches of a block with so many tries ended
abbrev pub FetchesEnd : Refresh → XorbBlock → ℕ → TermBlockRetrievalURLs → TermBlockRetrievalURLs → ClientTold
    → ClientTold → Result Fetched FileReconstructionError → Type 0
FetchesEnd r x tries t u before after (Ok fetched) =
    (plans : List Plan) × (length plans < tries) × GaveData r x t u before after plans fetched
FetchesEnd r x tries t u before after (Err e) = (plans : List Plan) × FetchesFail r x tries t u before after plans e

pub record FetchesCall (r : Refresh) (x : XorbBlock) (tries : ℕ) (t u : TermBlockRetrievalURLs)
    (before after : ClientTold) (answer : Result Fetched FileReconstructionError) : Type 0 where
  pub keeps : FetchesKeep before after
  pub table : TableKeeps r t u
  pub ends : FetchesEnd r x tries t u before after answer
