-- What the run of one range says.
use Rattle.std.specs.Prelude.{ℕ, ◌≡◌, ◌⊎◌, ◌++◌, List, [], ◌∷◌, None, Some, IfOk, IsNone, IsSome, IsTrue, Result}
use Rattle.xet_base.specs.declared.cas_types.FileRange.{FileRange}
use Rattle.xet_base.specs.declared.error.OutOfMemory.{OutOfMemory}
use Rattle.xet_base.specs.declared.merklehash.MerkleHash.{MerkleHash}
use Rattle.xet_base.specs.Store.{Store, file_of}
use Rattle.xet_outside.specs.Told.{CacheTold, ClientTold, SinkTold}
use Rattle.xet_error.specs.declared.error.FileReconstructionError.{FileReconstructionError}
use Rattle.xet_error.specs.declared.error.FileReconstructionError.TheVariants as error
use Rattle.xet_reconstruct.specs.Lent.{no_limits}
use Rattle.xet_ties.specs.Setup.{CacheTells, EachGoesOn, IsEmptyRange, IsOver, RunTold}
use Rattle.xet_serve.specs.declared.fetch.Fetched.{Fetched}
use Rattle.xet_serve.specs.declared.fetch.Fetched.TheVariants as fetched
use Rattle.xet_serve.specs.Replies.{has_bytes, range_text}
use Rattle.xet_serve.specs.Sessions.{FewFail}

-- the connections and the cache at one moment
pub record Lent : Type 0 where
  pub clients : List ClientTold
  pub cache : CacheTold

-- what the arguments of a run tell that no signal stops
abbrev pub run_told : Lent → SinkTold → RunTold
run_told b sink = record {
  clients = b.clients;
  cache = b.cache;
  signal = record { asks = None; yes = 0 };
  sink = sink;
  limits = no_limits;
}

-- what a writer tells that took nothing yet
abbrev pub new_sink : SinkTold
new_sink = record { took = Some []; flushed = Some 0; faults = 0; link = [] }

-- connections go on, and a cache that tells their store goes on telling it
pub record GoesOn (b n : Lent) : Type 0 where
  pub clients : EachGoesOn b.clients n.clients
  pub cache : (s : Store) → IsOver s b.clients → CacheTells s b.cache → CacheTells s n.cache

-- over each valid store that they tell
abbrev pub OverStore : Lent → (Store → Type 0) → Type 0
OverStore b P = (s : Store) → IsOver s b.clients → CacheTells s b.cache → P s

-- the number of a connections' error: a fault or expired URLs
abbrev pub IsConnectionError : ℕ → Type 0
IsConnectionError k = (k ≡ 2) ⊎ (k ≡ 4)

-- what an error of a run comes to, but for want of memory
abbrev pub FailedAs : FileReconstructionError → Fetched → Type 0
FailedAs error.OutOfMemory f = ⊥
FailedAs error.ClientError f = f ≡ fetched.Failed 2
FailedAs error.FileNotFound f = f ≡ fetched.Missing
FailedAs error.UrlExpired f = f ≡ fetched.Failed 4
FailedAs _ f = (k : ℕ) × (f ≡ fetched.Failed k)

-- the file is stored, or the range has no bytes
abbrev pub IsGiven : Store → MerkleHash → FileRange → Type 0
IsGiven s file r = IsSome (file_of s file) ⊎ IsEmptyRange r

-- how a range was fetched over a store, with the reply before it and after it
abbrev pub RangeDone : (s : Store) (tries : ℕ) (file : MerkleHash) (r : FileRange) (b n : Lent) (text now : List ℕ)
    → Fetched → Type 0
RangeDone s tries file r b n text now fetched.Whole = IsGiven s file r × (now ≡ text ++ range_text s file r)
RangeDone s tries file r b n text now fetched.Missing = IsTrue (has_bytes r) × IsNone (file_of s file)
RangeDone s tries file r b n text now (fetched.Failed k) =
    IsConnectionError k × FewFail tries (k ∷ []) b.clients n.clients

-- one fetch of a range
pub record RangeCall (tries : ℕ) (file : MerkleHash) (r : FileRange) (b n : Lent) (text now : List ℕ)
    (answer : Result Fetched OutOfMemory) : Type 0 where
  pub goes_on : GoesOn b n
  pub done : OverStore b (λ s. IfOk answer (RangeDone s tries file r b n text now))
