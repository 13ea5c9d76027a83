-- The parts of a legal answer, each by what is told before a run and after it.
use Rattle.std.specs.Prelude.{ℕ, ◌≡◌, ◌⊎◌, ◌<◌, ◌≤◌, List, [], length, drop, count_by, All, Some, IsSome, IfOk, OnOk}
use Rattle.std.specs.Prelude.{Result, Err, option_map}
use Rattle.xet_base.specs.Store.{Store, file_of, window}
use Rattle.xet_outside.specs.Told.{Added, CacheTold, ClientTold, SinkTold, TookPrefix}
use Rattle.xet_error.specs.declared.error.FileReconstructionError.{FileReconstructionError}
use Rattle.xet_error.specs.declared.error.FileReconstructionError.TheVariants as error
use Rattle.xet_error.specs.declared.error.Setting.{Setting}
use Rattle.xet_blocks.specs.ServedChunks.{AllServed}
use Rattle.xet_ties.specs.Causes.{refused_setting}
use Rattle.xet_ties.specs.Gains.{GainedServed, OffersFew, one_range}
use Rattle.xet_ties.specs.InCall.{EachExchange, Exchange, Look, served_of_all}
use Rattle.xet_ties.specs.LegalWords.{AllPlanned, CacheGoesOn, EachCounted, FirstAsks, FirstAsksFew, FirstPlansAll}
use Rattle.xet_ties.specs.LegalWords.{IsExact, NonePast, NoneSpent, ServedOnce, SignalGoesOn, TookTested, TookWhole}
use Rattle.xet_ties.specs.RunCalls.{DidNothing, IsCancelled, IsUnspent, Unfailed, stop_of}
use Rattle.xet_ties.specs.Saids.{AllPassed}
use Rattle.xet_ties.specs.Setup.{AllTell, CacheTells, EachGoesOn, IsEmptyRange, IsOver, RunTold, Setup, most_lanes}
use Rattle.xet_ties.specs.Ties.{EachUnfailed, IsEntryOf, IsFaultless}

-- there are lists of what each connection was asked, served and said, and of the looks into the cache, which are the
-- told ones where these are told
pub record Told (before after : List ClientTold) (cache cache_after : CacheTold) : Type 0 where
  pub heard : List Exchange
  pub exchanges : EachExchange before after heard
  pub looks : List Look
  pub looked : Added cache.looked cache_after.looked looks
  -- a look gives only entries that the cache has afterwards, so none over a cache that has none
  pub given : All (IsEntryOf cache_after.entries) looks

-- over connections and a cache that tell one valid store, Ok means that the writer took exactly the window, and
-- whatever the answer it took a prefix of that
pub record Exact (g : Setup) (clients : List ClientTold) (cache : CacheTold) (before after : SinkTold)
    (answer : Result ℕ FileReconstructionError) : Type 0 where
  pub exact : (s : Store) → IsOver s clients → CacheTells s cache → IfOk answer (IsExact s g before after)
  pub prefix : (s : Store) → IsOver s clients → CacheTells s cache
      → TookPrefix before.took after.took (window s g.file g.range)
  -- over connections that tell any one store, an unknown file with a nonempty range is never Ok
  pub stored : (s : Store) → AllTell s clients → IfOk answer (λ _. IsSome (file_of s g.file) ⊎ IsEmptyRange g.range)

-- a failing setting is told before all else, and then nothing is touched
pub record First (g : Setup) (before after : RunTold) (answer : Result ℕ FileReconstructionError) : Type 0 where
  pub settings : (e : Setting) → refused_setting g before.clients ≡ Some e
      → (answer ≡ Err (error.ConfigurationError e)) × (after ≡ before)
  -- over an empty range nothing is asked, taken and counted, and an error needs no connection
  pub empty : IsEmptyRange g.range → DidNothing before after answer

-- over any connections and cache, only bytes that pass the tests of their block and term are written
pub record Written (g : Setup) (xs : List Exchange) (looks : List Look) (before after : SinkTold)
    (answer : Result ℕ FileReconstructionError) : Type 0 where
  pub tested : TookTested g xs looks before after
  -- on Ok they are those of all terms of all plans, to the range's end or one that was told, and they are counted
  pub whole : IfOk answer (TookWhole g xs looks before after)
  pub flushed : OnOk answer (after.flushed ≡ option_map length after.took)

-- a yes of the signal is told as Cancelled, and a fault of the writer as its error, or as want of memory
pub record Faults (before after : RunTold) (answer : Result ℕ FileReconstructionError) : Type 0 where
  pub cancelled : before.signal.yes < after.signal.yes → IsCancelled answer
  pub unfailed : Unfailed before.sink.faults after.sink.faults answer
  -- unless the answer is want of memory, a failed call or a failed test, no call of a connection failed
  pub clients_unfailed : IsFaultless (stop_of answer) → EachUnfailed before.clients after.clients

-- the first connection alone is asked for plans, by short queries that cut the range in order; each other one lies in
-- one of those before it
pub record Queries (g : Setup) (xs : List Exchange) (before after : List ClientTold)
    (answer : Result ℕ FileReconstructionError) : Type 0 where
  pub asked : FirstAsks g before after
  -- on Ok the range was planned to its end or the file's
  pub all_asked : OnOk answer (FirstPlansAll g before after)
  -- refreshes are no more than expired answers came
  pub few : FirstAsksFew g xs

-- no block of a plan is served twice, and each answered request is for one of a plan that was said
pub record Blocks (g : Setup) (xs : List Exchange) (clients : List ClientTold) (cache : CacheTold)
    (answer : Result ℕ FileReconstructionError) : Type 0 where
  pub served : ServedOnce (served_of_all xs)
  pub planned : AllPlanned g xs
  -- unless the answer is want of memory, a failed call or a failed test, each answer passes its block's tests
  pub passed : IsFaultless (stop_of answer) → AllPassed g xs
  -- on Ok over one valid store and a cache without entries, each chunk with a byte in the window lies in a served block
  pub chunks : (s : Store) → IsOver s clients → cache.entries ≡ Some []
      → OnOk answer (AllServed s g.file g.range (served_of_all xs))

-- no block's requests expire more often than it may be asked for
pub record Tries (g : Setup) (xs : List Exchange) (before after : List ClientTold)
    (answer : Result ℕ FileReconstructionError) : Type 0 where
  pub at_most : NonePast g xs
  -- on Ok, and with FileNotFound and Cancelled, none's as often
  pub under : IsUnspent (stop_of answer) → NoneSpent g xs
  -- no more expired answers were heard than the connections count
  pub counted : EachCounted before after xs

-- a cache loses no entry, and gains only tested blocks of this call
pub record Cached (g : Setup) (xs : List Exchange) (before after : CacheTold)
    (answer : Result ℕ FileReconstructionError) : Type 0 where
  pub gained : GainedServed g xs before after
  -- it was offered as many entries at most as blocks of one range were served, and on Ok as many
  pub offers : OffersFew xs before after
  pub all_offered : OnOk answer (offers.puts ≡ count_by one_range (served_of_all xs))

-- connections go on telling their store, a cache over a valid one too, and no count falls
pub record Later (before after : RunTold) : Type 0 where
  pub goes_on : EachGoesOn before.clients after.clients
  -- connections past the first 65,536 are as before
  pub past : drop most_lanes after.clients ≡ drop most_lanes before.clients
  pub cache_later : (s : Store) → IsOver s before.clients → CacheTells s before.cache → CacheTells s after.cache
  pub sink_later : before.sink.faults ≤ after.sink.faults
  pub signal_later : SignalGoesOn before.signal after.signal
  pub counts_later : CacheGoesOn before.cache after.cache
  -- the writer works through what it did
  pub link : after.sink.link ≡ before.sink.link
