-- What the objects of the outside tell, and what one call of each may do to it.
use Rattle.std.specs.Prelude.{ℕ, ◌≡◌, ◌⊎◌, ◌+◌, ◌^◌, ◌<◌, ◌≤◌, ◌-◌, min, List, [], ◌∷◌, ◌++◌, length, take, Option}
use Rattle.std.specs.Prelude.{Some, None, IsSome, IsNone, IfSome, option_map, Result, Ok, IfOk, OnOk, OnErr, IsErrOf}
use Rattle.std.specs.Prelude.{Bool, false, IsTrue, Contains}
use Rattle.std.proofs.Common.{inl, inr}
use Rattle.xet_base.specs.declared.cas_types.ChunkRange.{ChunkRange}
use Rattle.xet_base.specs.declared.cas_types.FileRange.{FileRange}
use Rattle.xet_base.specs.declared.merklehash.MerkleHash.{MerkleHash}
use Rattle.xet_base.specs.Ranges.{Ascend}
use Rattle.xet_base.specs.Store.{Store, xorb_of, chunks_of, file_of, bytes_of}
use Rattle.xet_outside.specs.declared.block.BlockAnswer.{BlockAnswer}
use Rattle.xet_outside.specs.declared.block.BlockAnswer.TheVariants.{Bytes, Expired}
use Rattle.xet_outside.specs.declared.block.BlockBytes.{BlockBytes}
use Rattle.xet_outside.specs.declared.block.BlockRequest.{BlockRequest}
use Rattle.xet_outside.specs.declared.chunk_cache.CacheError.{CacheError}
use Rattle.xet_outside.specs.declared.chunk_cache.CacheError.TheVariants as cache_error
use Rattle.xet_outside.specs.declared.client.ClientError.{ClientError}
use Rattle.xet_outside.specs.declared.client.ClientError.TheVariants as client_error
use Rattle.xet_outside.specs.declared.plan.PlanAnswer.{PlanAnswer}
use Rattle.xet_outside.specs.declared.plan.PlanAnswer.TheVariants.{Found, PastEnd, NoFile}
use Rattle.xet_outside.specs.declared.said.Said.{Said}
use Rattle.xet_outside.specs.declared.said.Said.TheVariants as said
use Rattle.xet_outside.specs.declared.served.Served.{Served}
use Rattle.xet_outside.specs.declared.sink.SinkError.{SinkError}
use Rattle.xet_outside.specs.declared.sink.SinkError.TheVariants as sink_error
use Rattle.xet_outside.specs.Plan.{shape, plan_of, block_of}

-- ---- counts and lists

-- the count has risen in a call, or stands at its last value
abbrev pub Rose : ℕ → ℕ → Type 0
Rose before after = min (before + 1) (2 ^ 64 - 1) ≤ after

-- the list, where it is told, has grown by one
abbrev pub Grew : {A : Type 0} → Option (List A) → Option (List A) → A → Type 0
Grew before after x = after ≡ option_map (λ xs. xs ++ x ∷ []) before

-- it has grown by these
abbrev pub Added : {A : Type 0} → Option (List A) → Option (List A) → List A → Type 0
Added before after new = after ≡ option_map (λ xs. xs ++ new) before

-- the number, where it is told, is one more, or stands at its last value
abbrev pub Counted : Option ℕ → Option ℕ → Type 0
Counted before after = after ≡ option_map (λ n. min (n + 1) (2 ^ 64 - 1)) before

-- ---- links

-- how the place of a sink was last set: the content and the place then, and how many bytes had been taken
pub record PlaceSet : Type 0 where
  pub content : List ℕ
  pub place : ℕ
  pub taken : ℕ

-- what a sink works through, the outermost first: references, by their ghost names, adapters, by what the sink below
-- had taken when they were made, and last the place where it writes, if it has one. No call but those that set the
-- place changes it
abbrev pub Link : Type 0
Link = List (ℕ ⊎ (Option (List ℕ) ⊎ PlaceSet))

abbrev pub through : ℕ → Link → Link
through name l = inl name ∷ l

abbrev pub over : Option (List ℕ) → Link → Link
over start l = inr (inl start) ∷ l

abbrev pub into_place : PlaceSet → Link
into_place p = inr (inr p) ∷ []

-- ---- connections

-- what a connection works through, the outermost first: references, by their ghost names, and the store below. No call
-- changes it
abbrev pub ClientLink : Type 0
ClientLink = List (ℕ ⊎ Store)

abbrev pub through_tap : ℕ → ClientLink → ClientLink
through_tap name l = inl name ∷ l

abbrev pub to_store : Store → ClientLink
to_store s = inr s ∷ []

-- a query: the file and the range
abbrev pub Query : Type 0
Query = MerkleHash × FileRange

-- a block that was answered, by its request
abbrev pub served_of : BlockRequest → Served
served_of r = record { plan = r.acquisition.plan; index = r.index; xorb = r.xorb; ranges = r.chunks }

-- what is said by an answer to this request: an expired one names it
abbrev pub said_to : BlockRequest → BlockAnswer → Said
said_to r (Bytes b) = said.Block b
said_to r Expired = said.Expired (served_of r)

pub record ClientTold : Type 0 where
  pub store : Option Store
  pub asked : Option (List Query)
  pub said : Option (List Said)
  pub served : Option (List Served)
  pub faults : ℕ
  pub expiries : ℕ
  pub link : ClientLink

-- the answer to a query is that of the store
abbrev pub IsHonest : Store → MerkleHash → FileRange → PlanAnswer → Type 0
IsHonest s f q (Found p) = IsSome (file_of s f) × (q.start < length (bytes_of s f)) × (shape p ≡ plan_of s f q)
IsHonest s f q PastEnd = IsSome (file_of s f) × (length (bytes_of s f) ≤ q.start)
IsHonest s f q NoFile = IsNone (file_of s f)

-- the xorb is stored and holds the ranges, which are nonempty and ascend
abbrev pub Holds : Store → MerkleHash → List ChunkRange → Type 0
Holds s x rs = IsSome (xorb_of s x) × Ascend 0 (length (chunks_of s x)) rs

-- the answer to a block request is that of the store
abbrev pub IsHonestBlock : Store → BlockRequest → BlockAnswer → Type 0
IsHonestBlock s r (Bytes b) = Holds s r.xorb r.chunks → b ≡ block_of s r.xorb r.chunks
IsHonestBlock s r Expired = Unit {0}

-- one call of `plan`
pub record PlanCall (before after : ClientTold) (file : MerkleHash) (range : FileRange)
    (answer : Result PlanAnswer ClientError) : Type 0 where
  pub store : after.store ≡ before.store
  pub honest : (s : Store) → before.store ≡ Some s → IfOk answer (IsHonest s file range)
  pub asked : OnOk answer (Grew before.asked after.asked (file, range))
  pub maybe_asked : OnErr answer ((after.asked ≡ before.asked) ⊎ Grew before.asked after.asked (file, range))
  pub said : IfOk answer (λ a. Grew before.said after.said (said.Plan a))
  pub unsaid : OnErr answer (after.said ≡ before.said)
  pub served : after.served ≡ before.served
  pub faults : before.faults ≤ after.faults
  pub failed : IsErrOf answer client_error.Failed → Rose before.faults after.faults
  pub unfailed : OnOk answer (after.faults ≡ before.faults)
  pub expiries : before.expiries ≤ after.expiries
  pub link : after.link ≡ before.link

-- how the list of served blocks changes by an answer
abbrev pub ServedBy : ClientTold → ClientTold → BlockRequest → BlockAnswer → Type 0
ServedBy before after r (Bytes b) = Grew before.served after.served (served_of r)
ServedBy before after r Expired = after.served ≡ before.served

-- one call of `block`
pub record BlockCall (before after : ClientTold) (request : BlockRequest)
    (answer : Result BlockAnswer ClientError) : Type 0 where
  pub store : after.store ≡ before.store
  pub honest : (s : Store) → before.store ≡ Some s → IfOk answer (IsHonestBlock s request)
  pub asked : after.asked ≡ before.asked
  pub said : IfOk answer (λ a. Grew before.said after.said (said_to request a))
  pub unsaid : OnErr answer (after.said ≡ before.said)
  pub served : IfOk answer (ServedBy before after request)
  pub unserved : OnErr answer (after.served ≡ before.served)
  pub faults : before.faults ≤ after.faults
  pub failed : IsErrOf answer client_error.Failed → Rose before.faults after.faults
  pub unfailed : OnOk answer (after.faults ≡ before.faults)
  pub expiries : before.expiries ≤ after.expiries
  pub link : after.link ≡ before.link
  pub expired : IfOk answer (λ a. a ≡ Expired → Rose before.expiries after.expiries)

-- ---- caches

-- an entry: the xorb, the range of its chunks, and the block
abbrev pub CacheEntry : Type 0
CacheEntry = MerkleHash × ChunkRange × BlockBytes

pub record CacheTold : Type 0 where
  pub entries : Option (List CacheEntry)
  -- each look-up with the entry that was given, or nothing
  pub looked : Option (List (MerkleHash × ChunkRange × Option BlockBytes))
  pub offers : Option ℕ
  pub faults : ℕ

-- what became of the looks by one for which memory was wanting: it may be among them, as one that gave nothing
abbrev pub MayLook : CacheTold → CacheTold → MerkleHash → ChunkRange → Type 0
MayLook before after x r = (after.looked ≡ before.looked) ⊎ Grew before.looked after.looked (x, r, None)

-- one call of `get`
pub record GetCall (before after : CacheTold) (xorb : MerkleHash) (range : ChunkRange)
    (answer : Result (Option BlockBytes) CacheError) : Type 0 where
  pub entries : after.entries ≡ before.entries
  pub found : IfOk answer (λ o. IfSome o (λ b. IfSome before.entries (λ es. Contains es (xorb, range, b))))
  pub looked : IfOk answer (λ o. Grew before.looked after.looked (xorb, range, o))
  pub looked_failed : IsErrOf answer cache_error.Failed → Grew before.looked after.looked (xorb, range, None)
  pub maybe_looked : IsErrOf answer cache_error.OutOfMemory → MayLook before after xorb range
  pub offers : after.offers ≡ before.offers
  pub faults : before.faults ≤ after.faults
  pub failed : IsErrOf answer cache_error.Failed → Rose before.faults after.faults

-- one call of `put`
pub record PutCall (before after : CacheTold) (xorb : MerkleHash) (range : ChunkRange) (block : BlockBytes)
    (answer : Result (Unit {0}) CacheError) : Type 0 where
  pub entries : (after.entries ≡ before.entries) ⊎ Grew before.entries after.entries (xorb, range, block)
  pub looked : after.looked ≡ before.looked
  pub offers : Counted before.offers after.offers
  pub faults : before.faults ≤ after.faults
  pub failed : IsErrOf answer cache_error.Failed → Rose before.faults after.faults

-- ---- sinks

pub record SinkTold : Type 0 where
  pub took : Option (List ℕ)
  -- how many of the taken bytes are flushed
  pub flushed : Option ℕ
  pub faults : ℕ
  pub link : Link

-- what was taken, where it is told, has grown by these bytes
abbrev pub Took : Option (List ℕ) → Option (List ℕ) → List ℕ → Type 0
Took before after bytes = after ≡ option_map (λ xs. xs ++ bytes) before

-- it has grown by a prefix of these bytes
pub record TookPrefix (before after : Option (List ℕ)) (whole : List ℕ) : Type 0 where
  pub count : ℕ
  pub within : count ≤ length whole
  pub took : Took before after (take count whole)

-- one call of `write`
pub record WriteCall (before after : SinkTold) (piece : List ℕ) (answer : Result ℕ SinkError) : Type 0 where
  pub count : IfOk answer (λ k. k ≤ length piece)
  pub some : 0 < length piece → IfOk answer (λ k. 0 < k)
  pub took : IfOk answer (λ k. Took before.took after.took (take k piece))
  pub prefix : IsErrOf answer sink_error.Failed → TookPrefix before.took after.took piece
  pub memory : IsErrOf answer sink_error.OutOfMemory → after.took ≡ before.took
  pub flushed : after.flushed ≡ before.flushed
  pub link : after.link ≡ before.link
  pub faults : before.faults ≤ after.faults
  pub failed : IsErrOf answer sink_error.Failed → Rose before.faults after.faults
  pub unfailed : OnOk answer (after.faults ≡ before.faults)
  pub short : IsErrOf answer sink_error.OutOfMemory → after.faults ≡ before.faults

-- one call of `flush`
pub record FlushCall (before after : SinkTold) (answer : Result (Unit {0}) SinkError) : Type 0 where
  pub took : after.took ≡ before.took
  pub flushed : OnOk answer (after.flushed ≡ option_map length after.took)
  pub unflushed : OnErr answer (after.flushed ≡ before.flushed)
  pub link : after.link ≡ before.link
  pub faults : before.faults ≤ after.faults
  pub failed : IsErrOf answer sink_error.Failed → Rose before.faults after.faults
  pub unfailed : OnOk answer (after.faults ≡ before.faults)
  pub short : IsErrOf answer sink_error.OutOfMemory → after.faults ≡ before.faults

-- ---- signals

pub record SignalTold : Type 0 where
  pub asks : Option ℕ
  pub yes : ℕ

-- one ask
pub record AskCall (before after : SignalTold) (answer : Bool) : Type 0 where
  pub counted : Counted before.asks after.asks
  pub yes : IsTrue answer → Rose before.yes after.yes
  pub no : answer ≡ false → after.yes ≡ before.yes
  pub later : before.yes ≤ after.yes

-- ---- sources

pub record SourceTold : Type 0 where
  pub left : Option (List ℕ)
  pub faults : ℕ

-- one read, with what the buffer holds afterwards
pub record ReadCall {E : Type 0} (before after : SourceTold) (into : List ℕ) (answer : Result ℕ E) : Type 0 where
  pub count : IfOk answer (λ k. k ≤ length into)
  pub took : IfOk answer (λ k. before.left ≡ option_map (λ rest. take k into ++ rest) after.left)
  pub end : 0 < length into → answer ≡ Ok 0 → IfSome before.left (λ xs. xs ≡ [])
  pub kept : OnErr answer (after.left ≡ before.left)
  pub faults : before.faults ≤ after.faults
  pub failed : OnErr answer (Rose before.faults after.faults)
  pub unfailed : OnOk answer (after.faults ≡ before.faults)
