-- What a run is for, and what its arguments tell at one moment.
use Rattle.std.specs.Prelude.{ℕ, ◌≡◌, ◌≤◌, Bool, List, [], ◌∷◌, map, Some, All, MatchOption}
use Rattle.xet_base.specs.declared.cas_types.FileRange.{FileRange}
use Rattle.xet_base.specs.declared.merklehash.MerkleHash.{MerkleHash}
use Rattle.xet_base.specs.Store.{Store, IsValid}
use Rattle.xet_outside.specs.Plan.{block_of}
use Rattle.xet_outside.specs.Told.{CacheEntry, CacheTold, ClientTold, Holds, SignalTold, SinkTold}
use Rattle.xet_events.specs.Limits.{LimitTold}
use Rattle.xet_terms.specs.declared.reconstruction_config.ReconstructionConfig.{ReconstructionConfig}
use Rattle.xet_history.specs.TrueHistory.{Download}

-- ---- what a run is for

-- a range of a file's bytes, and the settings: the sizes of queries, whether a fetch entry is one block of all its
-- ranges, and how often a block is asked for at most
pub record Setup : Type 0 where
  pub file : MerkleHash
  pub range : FileRange
  pub least : ℕ
  pub greatest : ℕ
  pub multirange : Bool
  pub tries : ℕ

-- what a run of this file, these bytes of it and these settings is for
abbrev pub setup_of : MerkleHash → FileRange → ReconstructionConfig → Setup
setup_of file range config = record {
  file = file;
  range = range;
  least = config.min_reconstruction_fetch_size;
  greatest = config.max_reconstruction_fetch_size;
  multirange = config.enable_multirange_fetching;
  tries = config.tries;
}

-- the range has no bytes
abbrev pub IsEmptyRange : FileRange → Type 0
IsEmptyRange r = r.end ≤ r.start

-- what a run downloads
abbrev pub download_of : Setup → Download
download_of g = record {
  file = g.file;
  range = g.range;
  least = g.least;
  greatest = g.greatest;
  multirange = g.multirange;
}

-- ---- what its arguments tell

-- connections, cache, cancel signal, writer and source of limits at one moment
pub record RunTold : Type 0 where
  pub clients : List ClientTold
  pub cache : CacheTold
  pub signal : SignalTold
  pub sink : SinkTold
  pub limits : LimitTold

-- what these arguments tell
abbrev pub told_of : {C K X S B : Type 0} → (C → ClientTold) → (K → CacheTold) → (X → SignalTold) → (S → SinkTold)
    → (B → LimitTold) → List C → K → X → S → B → RunTold
told_of c k x s l clients cache signal sink limits = record {
  clients = map c clients;
  cache = k cache;
  signal = x signal;
  sink = s sink;
  limits = l limits;
}

-- ---- stores

-- each of these connections tells this store
abbrev pub AllTell : Store → List ClientTold → Type 0
AllTell s [] = Unit {0}
AllTell s (c ∷ cs) = (c.store ≡ Some s) × AllTell s cs

-- the connections tell one valid store
pub record IsOver (s : Store) (clients : List ClientTold) : Type 0 where
  pub tell : AllTell s clients
  pub valid : IsValid s

-- an entry of a cache whose chunks the store holds is the store's block
abbrev pub IsHonestEntry : Store → CacheEntry → Type 0
IsHonestEntry s e = Holds s e.0 (e.1 ∷ []) → e.2 ≡ block_of s e.0 (e.1 ∷ [])

-- a cache tells a store: its entries are told, and each is honest
abbrev pub CacheTells : Store → CacheTold → Type 0
CacheTells s c = MatchOption c.entries ⊥ (λ es. All (IsHonestEntry s) es)

-- ---- how connections go on

-- so many connections are used at most; those past them stay as they are
abbrev pub most_lanes : ℕ
most_lanes = 65536

-- a connection tells the store that it told and works through what it did, and its counts don't fall
pub record ClientGoesOn (before after : ClientTold) : Type 0 where
  pub store : after.store ≡ before.store
  pub link : after.link ≡ before.link
  pub faults : before.faults ≤ after.faults
  pub expiries : before.expiries ≤ after.expiries

-- each connection goes on
abbrev pub EachGoesOn : List ClientTold → List ClientTold → Type 0
EachGoesOn [] [] = Unit {0}
EachGoesOn [] (n ∷ ns) = ⊥
EachGoesOn (b ∷ bs) [] = ⊥
EachGoesOn (b ∷ bs) (n ∷ ns) = ClientGoesOn b n × EachGoesOn bs ns
