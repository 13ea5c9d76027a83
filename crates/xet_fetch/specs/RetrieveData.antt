-- What `retrieve_data` keeps, and what it does to a connection, a cache and a table of URLs.
use Rattle.std.specs.Prelude.{ℕ, ◌≡◌, ◌⊎◌, ◌<◌, true, List, length, Option, Some, None, IsSome, Result, Ok, Err}
use Rattle.std.specs.Prelude.{slice_get}
use Rattle.std.proofs.Common.{get_or, set}
use Rattle.xet_outside.specs.declared.block.BlockBytes.{BlockBytes}
use Rattle.xet_outside.specs.Told.{CacheTold, ClientTold}
use Rattle.xet_error.specs.declared.error.FileReconstructionError.{FileReconstructionError}
use Rattle.xet_error.specs.declared.error.FileReconstructionError.TheVariants as error
use Rattle.xet_offers.specs.declared.reconstruction_terms.retrieval_urls.TermBlockRetrievalURLs.{TermBlockRetrievalURLs}
use Rattle.xet_offers.specs.declared.reconstruction_terms.xorb_block.XorbBlock.{XorbBlock}
use Rattle.xet_offers.specs.declared.reconstruction_terms.xorb_block.XorbBlockData.{XorbBlockData}
use Rattle.xet_offers.specs.BlockChecks.{block_data}
use Rattle.xet_requests.specs.declared.fetched_block.Fetched.{Fetched}
use Rattle.xet_fetch.specs.declared.fetch_settings.FetchSettings.{FetchSettings}
use Rattle.xet_fetch.specs.CachedBlocks.{FoundIn, IsOffered, LookKeeps, LookedFor, MaybeLooked, passes_cached}
use Rattle.xet_fetch.specs.Fetches.{FetchesCall}
use Rattle.xet_requests.specs.Refreshes.{Refresh, refresh_of}

-- ---- data

pub record FetchTold : Type 0 where
  pub client : ClientTold
  pub cache : CacheTold

-- the look gave an entry that passes its tests
pub record FromCache (x : XorbBlock) (t u : TermBlockRetrievalURLs) (before after : FetchTold)
    (d : XorbBlockData) : Type 0 where
  pub entry : BlockBytes
  pub looked : LookedFor x x.chunk_ranges before.cache after.cache (Some entry)
  pub passes : passes_cached x entry ≡ true
  pub made : d ≡ block_data x.chunk_ranges entry
  pub unasked : after.client ≡ before.client
  pub table : u ≡ t

-- it gave none, and the block was fetched and offered
pub record FromClient (r : Refresh) (x : XorbBlock) (tries : ℕ) (t u : TermBlockRetrievalURLs)
    (before after : FetchTold) (d : XorbBlockData) : Type 0 where
  pub given : Option BlockBytes
  pub middle : CacheTold
  pub looked : LookedFor x x.chunk_ranges before.cache middle given
  pub missed : FoundIn x given None
  pub fetched : Fetched
  pub call : FetchesCall r x tries t u before.client after.client (Ok fetched)
  pub made : d ≡ fetched.found
  pub offered : IsOffered x x.chunk_ranges middle after.cache fetched.bytes

-- it gave none, and the fetches failed
pub record FetchFailed (r : Refresh) (x : XorbBlock) (tries : ℕ) (t u : TermBlockRetrievalURLs)
    (before after : FetchTold) (e : FileReconstructionError) : Type 0 where
  pub given : Option BlockBytes
  pub looked : LookedFor x x.chunk_ranges before.cache after.cache given
  pub missed : FoundIn x given None
  pub call : FetchesCall r x tries t u before.client after.client (Err e)

-- the look found no memory
pub record LookFailed (x : XorbBlock) (t u : TermBlockRetrievalURLs) (before after : FetchTold)
    (e : FileReconstructionError) : Type 0 where
  pub keeps : LookKeeps before.cache after.cache
  pub unlooked : MaybeLooked x x.chunk_ranges before.cache after.cache
  pub memory : e ≡ error.OutOfMemory
  pub unasked : after.client ≡ before.client
  pub table : u ≡ t

-- the data of a block of which none is kept
abbrev pub DataCall : Refresh → XorbBlock → ℕ → TermBlockRetrievalURLs → TermBlockRetrievalURLs → FetchTold
    → FetchTold → Result XorbBlockData FileReconstructionError → Type 0
DataCall r x tries t u before after (Ok d) = FromCache x t u before after d ⊎ FromClient r x tries t u before after d
DataCall r x tries t u before after (Err e) = LookFailed x t u before after e ⊎ FetchFailed r x tries t u before after e

-- the block of this number keeps its data, or none keeps anything new
abbrev pub KeepsData : List XorbBlock → List XorbBlock → ℕ → XorbBlock → Result XorbBlockData FileReconstructionError
    → Result (Unit {0}) FileReconstructionError → Type 0
KeepsData xs ys index x (Ok d) answer = (ys ≡ set xs index (record x { kept = Some d })) × (answer ≡ Ok tt)
KeepsData xs ys index x (Err e) answer = (ys ≡ xs) × (answer ≡ Err e)

-- the blocks have this number, and the table has it too
pub record IsFetchable (xs : List XorbBlock) (index : ℕ) (t : TermBlockRetrievalURLs) : Type 0 where
  pub within : index < length xs
  pub numbered : (d : XorbBlock) → (get_or xs index d).xorb_block_index ≡ index
  pub in_table : index < length t.retrieval_urls

-- the call on a block without data
pub record GotData (xs ys : List XorbBlock) (index : ℕ) (x : XorbBlock) (r : Refresh) (tries : ℕ)
    (t u : TermBlockRetrievalURLs) (before after : FetchTold)
    (answer : Result (Unit {0}) FileReconstructionError) : Type 0 where
  pub got : Result XorbBlockData FileReconstructionError
  pub call : DataCall r x tries t u before after got
  pub keeps : KeepsData xs ys index x got answer

-- one call of `retrieve_data`
pub record RetrieveCall (xs ys : List XorbBlock) (index : ℕ) (c : FetchSettings) (t u : TermBlockRetrievalURLs)
    (before after : FetchTold) (answer : Result (Unit {0}) FileReconstructionError) : Type 0 where
  -- a kept block asks nobody and stays
  pub kept : (x : XorbBlock) → slice_get xs index ≡ Some x → IsSome x.kept → (answer ≡ Ok tt) × (ys ≡ xs) × (u ≡ t)
      × (after ≡ before)
  pub got : (x : XorbBlock) → slice_get xs index ≡ Some x → x.kept ≡ None
      → GotData xs ys index x (refresh_of t c.multirange xs) c.tries t u before after answer
