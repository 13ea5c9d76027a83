-- What a search of a session finds: a record that has the chunk at a place.
use Rattle.std.proofs.Common.{◌≡◌, ℕ, ◌⊎◌, inl, inr, Bool, true, false, List, [], ◌∷◌, ◌++◌, refl, sym, ◌∙◌, ap, subst, arith}
use Rattle.std.specs.Prelude.{Contains, Option, Some, None, Result, Ok, Err, if◌then◌else◌, is_some}
use Rattle.std.specs.Option.{option_or}
use Rattle.std.proofs.lemmas.Bool.{false≢true}
use Rattle.std.proofs.lemmas.List.Elements.{Contains-append_left, Contains-append_right}
use Rattle.xet_base.specs.declared.invalid.Invalid.{Invalid}
use Rattle.xet_base.specs.declared.merklehash.MerkleHash.{MerkleHash}
use Rattle.xet_base.specs.declared.mdb_shard.FileDataSequenceEntry.{FileDataSequenceEntry}
use Rattle.xet_base.specs.declared.mdb_shard.MDBXorbInfo.{MDBXorbInfo}
use Rattle.xet_shards.specs.Runs.{find_in}
use Rattle.xet_shards.proofs.CallerLemmas.{FoundAt, find_in-at}
use Rattle.xet_shard_interface.specs.Interfaces.{InterfaceTold, SearchFails, SearchTells, StoreFails, found_in, noted, records_of, resumed_faults, resumed_records, resumed_xorbs, searched_resumed}
use Rattle.xet_upload.specs.declared.data_error.DataError.{DataError}
use Rattle.xet_upload.specs.declared.data_error.DataError.TheVariants as data_error
use Rattle.xet_upload_session.specs.Calls.{Backs, IsOnList, Queries}
use Rattle.xet_upload_session.specs.Sessions.{SessionTold, Tells, log_of}
use Rattle.xet_upload_session.specs.Sounds.{searched}
use Rattle.xet_clean_parts.specs.Cleanings.{ChunkFails, FoundChunk, IsAt, Leaves}
use Rattle.xet_clean_parts.proofs.Cleaning.{counts-none}

-- a call's search tells where the session's stores do
searches-tell : (b : SessionTold) → Tells b → SearchTells b.shards
searches-tell b t = record { resumed = λ d. t.shards.resumed; session = t.shards.session; cache = t.shards.cache }

at-found : (rs all : List MDBXorbInfo) (h : MerkleHash) (f : ℕ × FileDataSequenceEntry) → ((r : MDBXorbInfo)
    → Contains rs r → Contains all r) → FoundAt rs h f → IsAt all h f.1.xorb f.1.from
at-found rs all h f sub a = record {
  holder = a.holder;
  is_there = sub a.holder a.is_there;
  named = a.named;
  within =
      a.within;
  hash_is = a.hash;
}

module _ (b : SessionTold) (h : MerkleHash) (f : ℕ × FileDataSequenceEntry × Bool) where
  abbrev R : List MDBXorbInfo
  R = resumed_xorbs (resumed_records b.shards.resumed)

  abbrev S : List MDBXorbInfo
  S = (records_of b.shards.session).xorbs

  abbrev C : List MDBXorbInfo
  C = (records_of b.shards.cache).xorbs

  in-resumed : (r : MDBXorbInfo) → Contains (searched_resumed b.shards) r → Contains (searched b) r
  in-resumed r c = Contains-append_right S (R ++ C) r (Contains-append_left R C r (go b.shards.rules.dry_run c))
    where
      go : (d : Bool) → Contains (if d then [] else R) r → Contains R r
      go true e = absurd (let lt = e.1 in omega arith)
      go false e = e

  in-cache : (r : MDBXorbInfo) → Contains C r → Contains (searched b) r
  in-cache r c = Contains-append_right S (R ++ C) r (Contains-append_right R C r c)

  in-session : (r : MDBXorbInfo) → Contains S r → Contains (searched b) r
  in-session r c = Contains-append_left S (R ++ C) r c

  module _ (rs : List MDBXorbInfo) (sub : (r : MDBXorbInfo) → Contains rs r → Contains (searched b) r) where
    -- a run that was found in these records, or what is found later
    or-found : (known : Bool) (o : Option (ℕ × FileDataSequenceEntry)) (later : Option (ℕ × FileDataSequenceEntry
        × Bool)) → find_in rs (h ∷ []) ≡ o → Some f ≡ option_or (noted known o) later
        → (Some f ≡ later → IsAt (searched b) h f.1.xorb f.1.from) → IsAt (searched b) h f.1.xorb f.1.from
    or-found known (Some g) later found is next =
        let whole : f ≡ (g.0, g.1, known) = cc in
        let same : f.1 ≡ g.1 = ap (λ (z : ℕ × FileDataSequenceEntry × Bool). z.1) whole in
        let at = at-found rs (searched b) h g sub (find_in-at rs h [] g found) in
        subst (λ (e : FileDataSequenceEntry). IsAt (searched b) h e.xorb e.from) (sym same) at
    or-found known None later found is next = next is

  pub found-at : Some f ≡ found_in b.shards (h ∷ []) → IsAt (searched b) h f.1.xorb f.1.from
  found-at e =
      or-found (searched_resumed b.shards) in-resumed true (find_in (searched_resumed b.shards) (h ∷ [])) _ refl e
      (λ d. or-found S in-session false (find_in S (h ∷ [])) _ refl d
      (λ c. or-found C in-cache true (find_in C (h ∷ [])) None refl (c ∙ sym (or-none (noted true (find_in C
      (h ∷ []))))) (λ x. absurd (false≢true (sym (ap (λ (o : Option (ℕ × FileDataSequenceEntry
      × Bool)). is_some o) x))))))
    where
      or-none : {A : Type 0} (o : Option A) → option_or o None ≡ o
      or-none None = refl
      or-none (Some x) = refl

-- ---- the answers of a search

queries-log : (b n : SessionTold) (hs : List MerkleHash) (answer : Result (Option (ℕ × FileDataSequenceEntry
    × Bool)) DataError) → Queries b n hs answer → log_of n ≡ log_of b
queries-log b n hs answer q = ap log_of q.same

pub queries-leaves : (b n : SessionTold) (hs : List MerkleHash) (answer : Result (Option (ℕ × FileDataSequenceEntry
    × Bool)) DataError) → Queries b n hs answer → Backs b n → Leaves b n
queries-leaves b n hs answer q k = record {
  keeps = q.keeps;
  backs = λ h. k;
  waiting = ap (λ (t : SessionTold). t.waiting) q.same;
  finished = ap (λ (t : SessionTold). t.finished) q.same;
  thresholds = ap (λ (t : SessionTold). t.thresholds) q.same;
  counts = counts-none b n (ap (λ (t : SessionTold). t.metrics) q.same);
}

same-lists : (b n : SessionTold) → n.listed ≡ b.listed → (h : MerkleHash) → Contains b.listed h → Contains n.listed h
same-lists b n e h c = subst (λ (l : List MerkleHash). Contains l h) (sym e) c

pub found-some : (b n : SessionTold) (h : MerkleHash) (f : ℕ × FileDataSequenceEntry × Bool) → Queries b n (h ∷ [])
    (Ok (Some f)) → FoundChunk b n h (Ok (Some f.1))
found-some b n h f q =
    let on : IsOnList b n f.1.xorb = q.on_list in
    record {
      log = queries-log b n (h ∷ []) (Ok (Some f)) q;
      repeated = ap (λ (t : SessionTold). t.repeated) q.same;
      failed = ap (λ (t : SessionTold). t.failed) q.same;
      found = λ t. found-at b h f (q.found (searches-tell b t));
      one = let run = q.run in omega (arith, run.some, run.most, run.count);
      on_list = on.is_there;
      lists = λ x c. go x c on.listed;
    }
  where
    go : (x : MerkleHash) → Contains b.listed x → (n.listed ≡ b.listed) ⊎ (n.listed ≡ b.listed ++ f.1.xorb ∷ [])
        → Contains n.listed x
    go x c (inl e) = same-lists b n e x c
    go x c (inr e) = subst (λ (l : List MerkleHash). Contains l x) (sym e) (Contains-append_left b.listed
        (f.1.xorb ∷ []) x c)

pub found-none : (b n : SessionTold) (h : MerkleHash) → Queries b n (h ∷ []) (Ok None) → FoundChunk b n h (Ok None)
found-none b n h q = record {
  log = queries-log b n (h ∷ []) (Ok None) q;
  repeated = ap (λ (t : SessionTold). t.repeated) q.same;
  failed = ap (λ (t : SessionTold). t.failed) q.same;
  found = λ t. tt;
  one = tt;
  on_list = tt;
  lists = same-lists b n (q.none refl);
}

pub found-err : (b n : SessionTold) (h : MerkleHash) (d e : DataError) → Queries b n (h ∷ []) (Err d)
    → FoundChunk b n h (Err e)
found-err b n h d e q = record {
  log = queries-log b n (h ∷ []) (Err d) q;
  repeated = ap (λ (t : SessionTold). t.repeated) q.same;
  failed = ap (λ (t : SessionTold). t.failed) q.same;
  found = λ t. tt;
  one = tt;
  on_list = tt;
  lists = same-lists b n q.err;
}

-- why a search fails is why a call fails that makes it
pub fails-search : (b n : SessionTold) (e : DataError) → SearchFails b.shards n.shards e → ChunkFails b n e
fails-search b n e (inl r) = inl (inr (inl (inl r.1)))
fails-search b n e (inr (inl s)) = inl (inr (inl (inr (inl s))))
fails-search b n e (inr (inr c)) = inl (inr (inl (inr (inr (inl c)))))

-- it is no invalid operation
store-valid : {P : Type 0} (x y : ℕ) (e : DataError) → StoreFails x y e → (why : Invalid)
    → e ≡ data_error.InvalidOperation why → P
store-valid x y e (inl p) why q = absurd (let r = sym p ∙ q in cc)
store-valid x y e (inr p) why q = absurd (let r = sym p.0 ∙ q in cc)

pub search-valid : {P : Type 0} (b n : InterfaceTold) (e : DataError) → SearchFails b n e → (why : Invalid)
    → e ≡ data_error.InvalidOperation why → P
search-valid b n e (inl r) why q = store-valid (resumed_faults b.resumed) (resumed_faults n.resumed) e r.1 why q
search-valid b n e (inr (inl s)) why q = store-valid b.session.faults n.session.faults e s why q
search-valid b n e (inr (inr c)) why q = store-valid b.cache.faults n.cache.faults e c why q

-- a failure after a search changes nothing of what it found
pub found-failed : (b n : SessionTold) (h : MerkleHash) (o : Option FileDataSequenceEntry) (e : DataError)
    → FoundChunk b n h (Ok o) → FoundChunk b n h (Err e)
found-failed b n h o e f = record {
  log = f.log;
  repeated = f.repeated;
  failed = f.failed;
  found = λ t. tt;
  one = tt;
  on_list = tt;
  lists = f.lists;
}

-- what is told beside the session's words changes none of them
pub found-told : (b m n : SessionTold) (h : MerkleHash) (answer : Result (Option FileDataSequenceEntry) DataError)
    → n ≡ m → FoundChunk b m h answer → FoundChunk b n h answer
found-told b m n h answer e f = subst (λ (t : SessionTold). FoundChunk b t h answer) (sym e) f

pub leaves-told : (b m n : SessionTold) → n ≡ m → Leaves b m → Leaves b n
leaves-told b m n e l = subst (λ (t : SessionTold). Leaves b t) (sym e) l
