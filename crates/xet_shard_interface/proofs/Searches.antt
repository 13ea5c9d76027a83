-- A search of the resumed records, then of those of the session, then of those of the cache.
use Rattle.std.proofs.Common.{◌≡◌, ℕ, ◌⊎◌, inl, inr, Bool, true, false, List, refl, sym, ◌∙◌, ap, subst, arith}
use Rattle.std.specs.Prelude.{Option, Some, None, IfSome, IsSome, Ok, Err}
use Rattle.std.specs.Option.{option_or}
use Rattle.std.proofs.lemmas.Bool.{false≢true}
use Rattle.xet_base.specs.declared.merklehash.MerkleHash.{MerkleHash}
use Rattle.xet_base.specs.declared.mdb_shard.FileDataSequenceEntry.{FileDataSequenceEntry}
use Rattle.xet_shards.specs.Runs.{IsRun, find_in}
use Rattle.xet_shards.specs.Shards.{FindCall, ShardsTold}
use Rattle.xet_shards.specs.declared.shard_store.ShardError.{ShardError}
use Rattle.xet_upload.specs.DataErrors.{of_shard_error}
use Rattle.xet_upload.specs.declared.data_error.DataError.{DataError}
use Rattle.xet_shard_interface.specs.Interfaces.{InterfaceTold, LooksResumed, SearchTells, Searches, noted, records_of, searched_resumed}
use Rattle.xet_shard_interface.proofs.StoreCalls.{of-told, store-fails}

none-some : {A : Type 0} (o : Option A) → None ≡ o → IsSome o → ⊥
none-some None e s = false≢true s
none-some (Some x) e s = cc

neither : {A B : Type 0} (o : Option A) (p : Option B) → None ≡ o → None ≡ p → IsSome o ⊎ IsSome p → ⊥
neither o p e f (inl s) = none-some o e s
neither o p e f (inr s) = none-some p f s

noted-run : (k : Bool) (hs : List MerkleHash) (o : Option (ℕ × FileDataSequenceEntry)) → IfSome o (λ f. IsRun hs f.0 f.1) → IfSome (noted k o) (λ f. IsRun hs f.0 f.1)
noted-run k hs None h = tt
noted-run k hs (Some f) h = h

module _ (b : InterfaceTold) (hs : List MerkleHash) where
  abbrev Found : Type 0
  Found = Option (ℕ × FileDataSequenceEntry)

  abbrev in_resumed : Found
  in_resumed = find_in (searched_resumed b) hs

  abbrev in_session : Found
  in_session = find_in (records_of b.session).xorbs hs

  abbrev in_cache : Found
  in_cache = find_in (records_of b.cache).xorbs hs

  module _ (m : InterfaceTold) where
    -- the resumed records could not be searched
    pub resumed-failed : (e : DataError) → LooksResumed b m hs (Err e) → Searches b m hs (Err e)
    resumed-failed e h =
        let P : InterfaceTold → Type 0 = λ n. Searches b n hs (Err e) in
        subst P (sym h.same) (record {
          looks = record { same = refl; known = λ i. (h.records i, b.cache.records); session = refl };
          dry = λ d. ap (λ (j : InterfaceTold). j.resumed) (h.dry d);
          found = λ t. tt;
          run = tt;
          faults = record { resumed = h.faults; session = omega arith; cache = omega arith; staging = omega arith };
          why = inl h.why;
          order = λ t. inr (inl h.why);
          asks = λ t. record { session = λ s. refl; cache = λ s. refl };
        })

    -- they have such a run
    pub resumed-found : (f : ℕ × FileDataSequenceEntry) → LooksResumed b m hs (Ok (Some f)) → Searches b m hs (Ok (Some (f.0, f.1, true)))
    resumed-found f h =
        let P : InterfaceTold → Type 0 = λ n. Searches b n hs (Ok (Some (f.0, f.1, true))) in
        subst P (sym h.same) (record {
          looks = record { same = refl; known = λ i. (h.records i, b.cache.records); session = refl };
          dry = λ d. ap (λ (j : InterfaceTold). j.resumed) (h.dry d);
          found = λ t. ap (λ (o : Found). option_or (noted true o) (option_or (noted false in_session) (noted true in_cache))) (h.found t);
          run = h.run;
          faults = record { resumed = h.faults; session = omega arith; cache = omega arith; staging = omega arith };
          why = tt;
          order = λ t. tt;
          asks = λ t. record { session = λ s. refl; cache = λ s. refl };
        })

    -- they have none
    module _ (h : LooksResumed b m hs (Ok None)) (s : ShardsTold) where
      not_resumed : (t : SearchTells b) → option_or (noted false in_session) (noted true in_cache) ≡ option_or (noted true in_resumed) (option_or (noted false in_session) (noted true in_cache))
      not_resumed t = ap (λ (o : Found). option_or (noted true o) (option_or (noted false in_session) (noted true in_cache))) (h.found t)

      -- those of the session could not be searched
      pub session-failed : (e : ShardError) → FindCall m.session s hs (Err e) → Searches b (record m { session = s }) hs (Err (of_shard_error e))
      session-failed e call =
          let P : InterfaceTold → Type 0 = λ n. FindCall n.session s hs (Err e) → Searches b (record n { session = s }) hs (Err (of_shard_error e)) in
          subst P (sym h.same) (λ k. record {
            looks = record { same = refl; known = λ i. (h.records i, b.cache.records); session = k.reads.records };
            dry = λ d. ap (λ (j : InterfaceTold). j.resumed) (h.dry d);
            found = λ t. tt;
            run = tt;
            faults = record { resumed = h.faults; session = k.reads.faults; cache = omega arith; staging = omega arith };
            why = inr (inl (store-fails b.session.faults s.faults e k.reads.failed));
            order = λ t. inr (inr (inl (sym (h.found t), store-fails b.session.faults s.faults e k.reads.failed)));
            asks = λ t. record { session = λ q. absurd (none-some in_resumed (h.found t) q); cache = λ q. refl };
          }) call

      -- they have such a run
      pub session-found : (f : ℕ × FileDataSequenceEntry) → FindCall m.session s hs (Ok (Some f)) → Searches b (record m { session = s }) hs (Ok (Some (f.0, f.1, false)))
      session-found f call =
          let P : InterfaceTold → Type 0 = λ n. FindCall n.session s hs (Ok (Some f)) → Searches b (record n { session = s }) hs (Ok (Some (f.0, f.1, false))) in
          subst P (sym h.same) (λ k. record {
            looks = record { same = refl; known = λ i. (h.records i, b.cache.records); session = k.reads.records };
            dry = λ d. ap (λ (j : InterfaceTold). j.resumed) (h.dry d);
            found = λ t. ap (λ (o : Found). option_or (noted false o) (noted true in_cache)) (of-told b.session.records (λ r. Some f ≡ find_in r.xorbs hs) t.session k.found) ∙ not_resumed t;
            run = k.run;
            faults = record { resumed = h.faults; session = k.reads.faults; cache = omega arith; staging = omega arith };
            why = tt;
            order = λ t. tt;
            asks = λ t. record { session = λ q. absurd (none-some in_resumed (h.found t) q); cache = λ q. refl };
          }) call

      -- they have none
      module _ (call : FindCall m.session s hs (Ok None)) (c : ShardsTold) where
        -- those of the cache could not be searched
        pub cache-failed : (e : ShardError) → FindCall m.cache c hs (Err e) → Searches b (record m { session = s; cache = c }) hs (Err (of_shard_error e))
        cache-failed e last =
            let P : InterfaceTold → Type 0 = λ n. FindCall n.session s hs (Ok None) → FindCall n.cache c hs (Err e) → Searches b (record n { session = s; cache = c }) hs (Err (of_shard_error e)) in
            subst P (sym h.same) (λ k l.
            let none : SearchTells b → None ≡ in_session = λ t. of-told b.session.records (λ r. None ≡ find_in r.xorbs hs) t.session k.found in
            record {
              looks = record { same = refl; known = λ i. (h.records i, l.reads.records i); session = k.reads.records };
              dry = λ d. ap (λ (j : InterfaceTold). j.resumed) (h.dry d);
              found = λ t. tt;
              run = tt;
              faults = record { resumed = h.faults; session = k.reads.faults; cache = l.reads.faults; staging = omega arith };
              why = inr (inr (store-fails b.cache.faults c.faults e l.reads.failed));
              order = λ t. inr (inr (inr (sym (h.found t), sym (none t), store-fails b.cache.faults c.faults e l.reads.failed)));
              asks = λ t. record { session = λ q. absurd (none-some in_resumed (h.found t) q); cache = λ q. absurd (neither in_resumed in_session (h.found t) (none t) q) };
            }) call last

        -- what they have
        pub cache-answered : (o : Found) → FindCall m.cache c hs (Ok o) → Searches b (record m { session = s; cache = c }) hs (Ok (noted true o))
        cache-answered o last =
            let P : InterfaceTold → Type 0 = λ n. FindCall n.session s hs (Ok None) → FindCall n.cache c hs (Ok o) → Searches b (record n { session = s; cache = c }) hs (Ok (noted true o)) in
            subst P (sym h.same) (λ k l.
            let none : SearchTells b → None ≡ in_session = λ t. of-told b.session.records (λ r. None ≡ find_in r.xorbs hs) t.session k.found in
            record {
              looks = record { same = refl; known = λ i. (h.records i, l.reads.records i); session = k.reads.records };
              dry = λ d. ap (λ (j : InterfaceTold). j.resumed) (h.dry d);
              found = λ t.
                  ap (noted true) (of-told b.cache.records (λ r. o ≡ find_in r.xorbs hs) t.cache l.found)
                  ∙ ap (λ (p : Found). option_or (noted false p) (noted true in_cache)) (none t) ∙ not_resumed t;
              run = noted-run true hs o l.run;
              faults = record { resumed = h.faults; session = k.reads.faults; cache = l.reads.faults; staging = omega arith };
              why = tt;
              order = λ t. tt;
              asks = λ t. record { session = λ q. absurd (none-some in_resumed (h.found t) q); cache = λ q. absurd (neither in_resumed in_session (h.found t) (none t) q) };
            }) call last
