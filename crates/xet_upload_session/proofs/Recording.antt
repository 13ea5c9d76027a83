-- What the record of a xorb leaves of the stores.
use Rattle.std.proofs.Common.{◌≡◌, ℕ, ◌⊎◌, inl, inr, refl, sym, ◌∙◌, ap, subst, arith}
use Rattle.std.specs.Prelude.{Option, Some, None, IsSome, option_map, Result, Ok, Err, IfErr}
use Rattle.std.proofs.lemmas.Bool.{false≢true}
use Rattle.xet_base.specs.declared.mdb_shard.MDBXorbInfo.{MDBXorbInfo}
use Rattle.xet_base.specs.declared.mdb_shard.ShardRecord.{ShardRecord}
use Rattle.xet_base.specs.declared.mdb_shard.Xorb.{Xorb}
use Rattle.xet_base.specs.declared.merklehash.MerkleHash.{MerkleHash}
use Rattle.xet_base.specs.Records.{Describes}
use Rattle.xet_shards.specs.Shards.{with_records}
use Rattle.xet_shard_interface.specs.Interfaces.{AddsRecords, InterfaceTold, LaterFaults, StagesXorb, StoreFails, StoresTell, known_told}
use Rattle.xet_upload.specs.declared.data_error.DataError.{DataError}
use Rattle.xet_upload.specs.declared.data_error.DataError.TheVariants as data_error
use Rattle.xet_upload_session.specs.Calls.{Recorded, Records, StoresFail, one_xorb, record_of_xorb, xorb_bytes}

-- a record that describes a xorb is its record
pub described-is : (r : MDBXorbInfo) (x : Xorb) → Describes r x → r ≡ record_of_xorb x
described-is r x d =
    ap (λ (h : MerkleHash). record r { hash = h }) d.hash ∙ ap (λ (k : ℕ). record r { hash = x.hash; num_bytes = k }) d.num_bytes
    ∙ ap (λ cs. record r { hash = x.hash; num_bytes = xorb_bytes x; chunks = cs }) d.chunks

abbrev refusal : DataError → Result (Unit {0}) DataError
refusal e = Err e

-- what is left of the stores, whatever the answer
pub record IsRecorded (b n : InterfaceTold) (x : MDBXorbInfo) (answer : Result (Unit {0}) DataError) : Type 0 where
  pub tells : StoresTell b → StoresTell n
  pub known : known_told n ≡ known_told b
  pub rules : n.rules ≡ b.rules
  pub added : (n.session.records ≡ b.session.records)
      ⊎ (n.session.records ≡ option_map (λ r. with_records r (one_xorb x)) b.session.records)
  pub stores : LaterFaults b n
  pub why : IfErr answer (StoresFail b n)

pub map-some : {A B : Type 0} (f : A → B) (o : Option A) → IsSome o → IsSome (option_map f o)
map-some f (Some x) s = refl
map-some f None s = absurd (false≢true s)

module _ (b n : InterfaceTold) (x : MDBXorbInfo) where
  -- the session's store refused it
  recorded-not : (e : DataError) → AddsRecords b n (one_xorb x) (Err e) → IsRecorded b n x (Err e)
  recorded-not e a =
      let T : InterfaceTold → Type 0 = λ i. StoresTell i in
      let L : InterfaceTold → Type 0 = λ i. LaterFaults b i in
      record {
        tells = λ t. subst T (sym a.same) (record { resumed = t.resumed; session = subst (λ (o : Option ShardRecord). IsSome o) (sym a.kept) t.session; cache = t.cache; staging = t.staging });
        known = ap known_told a.same;
        rules = ap (λ (i : InterfaceTold). i.rules) a.same;
        added = inl a.kept;
        stores = subst L (sym a.same) (record { resumed = omega arith; session = a.faults; cache = omega arith; staging = omega arith });
        why = inr (inl a.why);
      }

  -- it was added, and staged or not
  recorded-so : (now : ℕ) (answer : Result (Unit {0}) DataError) → Records b n x now answer → IsRecorded b n x answer
  recorded-so now answer r =
      let same = r.stages.same in
      let T : InterfaceTold → Type 0 = λ i. StoresTell i in
      let L : InterfaceTold → Type 0 = λ i. LaterFaults b i in
      record {
        tells = λ t. subst T (sym same) (record {
          resumed = t.resumed;
          session = subst (λ (o : Option ShardRecord). IsSome o) (sym r.adds.added) (map-some (λ (s : ShardRecord). with_records s (one_xorb x)) b.session.records t.session);
          cache = t.cache;
          staging = r.stages.tells t.staging;
        });
        known = ap known_told same;
        rules = ap (λ (i : InterfaceTold). i.rules) same;
        added = inr (ap (λ (i : InterfaceTold). i.session.records) same ∙ r.adds.added);
        stores = subst L (sym same) (record { resumed = omega arith; session = r.adds.faults; cache = omega arith; staging = r.stages.faults });
        why = go answer r.stages.why;
      }
    where
      go : (a : Result (Unit {0}) DataError) → IfErr a (StoreFails b.staging.faults n.staging.faults) → IfErr a (StoresFail b n)
      go (Ok u) q = tt
      go (Err e) q = inr (inr (inr q))

  pub recorded-is : (now : ℕ) (answer : Result (Unit {0}) DataError) → Recorded b n x now answer → IsRecorded b n x answer
  recorded-is now (Ok u) k = recorded-so now (Ok u) k.ok
  recorded-is now (Err e) k = go k.err
    where
      go : AddsRecords b n (one_xorb x) (Err e) ⊎ Records b n x now (Err e) ⊎ ((refusal e ≡ refusal data_error.OutOfMemory) × Records b n x now (Ok tt)) → IsRecorded b n x (Err e)
      go (inl a) = recorded-not e a
      go (inr (inl r)) = recorded-so now (Err e) r
      go (inr (inr r)) =
          let all = recorded-so now (Ok tt) r.1 in
          let was = r.0 in
          let one : e ≡ data_error.OutOfMemory = cc in
          record { tells = all.tells; known = all.known; rules = all.rules; added = all.added; stores = all.stores; why = inl (inl one) }

  -- ---- how a record is recorded

  pub record-refused : (now : ℕ) (e : DataError) → AddsRecords b n (one_xorb x) (Err e) → Recorded b n x now (Err e)
  record-refused now e a = record { ok = tt; err = inl a }

  pub record-added : (m : InterfaceTold) (now : ℕ) (u : Unit {0}) (answer : Result (Unit {0}) DataError) → AddsRecords b m (one_xorb x) (Ok u) → StagesXorb m n x now answer → Recorded b n x now answer
  record-added m now u answer a s = go answer one
    where
      A : InterfaceTold → Type 0
      A i = AddsRecords b i (one_xorb x) (Ok tt)

      S : InterfaceTold → Type 0
      S i = StagesXorb i n x now answer

      one : Records b n x now answer
      one = record { session = m.session; adds = subst A a.same a; stages = subst S a.same s }

      go : (r : Result (Unit {0}) DataError) → Records b n x now r → Recorded b n x now r
      go (Ok v) k = record { ok = k; err = tt }
      go (Err e) k = record { ok = tt; err = inr (inl k) }

  -- and then the tracker had no memory
  pub record-unnoted : (now : ℕ) (u : Unit {0}) → Recorded b n x now (Ok u) → Recorded b n x now (Err data_error.OutOfMemory)
  record-unnoted now u k = record { ok = tt; err = inr (inr (refl, k.ok)) }
