-- What one call of a store, or of the uploader and a store, makes of the stores of a session.
use Rattle.std.proofs.Common.{◌≡◌, ℕ, inl, inr, true, false, List, refl, ◌∙◌, ap, arith}
use Rattle.std.specs.Prelude.{Option, Some, None, IfSome, IsErrOf, IsSome, Ok, Err, unwrap_or}
use Rattle.std.proofs.lemmas.Bool.{false≢true, true≢false}
use Rattle.xet_base.specs.declared.merklehash.MerkleHash.{MerkleHash}
use Rattle.xet_base.specs.declared.mdb_shard.ShardRecord.{ShardRecord}
use Rattle.xet_outside.specs.Told.{Rose}
use Rattle.xet_outside.specs.declared.client.ClientError.{ClientError}
use Rattle.xet_outside.specs.declared.client.ClientError.TheVariants as client_error
use Rattle.xet_shards.specs.Shards.{AddCall, AllCall, ShardsTold, no_records}
use Rattle.xet_shards.specs.declared.shard_store.ShardError.{ShardError}
use Rattle.xet_shards.specs.declared.shard_store.ShardError.TheVariants as shard_error
use Rattle.xet_uploader.specs.Uploads.{PutShardCall, QueryShardCall, UploaderTold}
use Rattle.xet_upload.specs.DataErrors.{of_client_error, of_shard_error}
use Rattle.xet_upload.specs.declared.data_error.DataError.TheVariants as data_error
use Rattle.xet_shard_interface.specs.Fillings.{shards_in}
use Rattle.xet_shard_interface.specs.Interfaces.{AddsRecords, InterfaceTold, StoreFails}
use Rattle.xet_shard_interface.specs.Puts.{Answered, Asks, Learned, MakesShards, PutsShard}

-- a store's error, as a session tells it
pub store-fails : {T : Type 0} (before after : ℕ) (e : ShardError) → (IsErrOf {T = T} (Err e) shard_error.Failed → Rose before after) → StoreFails before after (of_shard_error e)
store-fails before after shard_error.OutOfMemory h = inl refl
store-fails before after shard_error.Failed h = inr (refl, h refl)

-- what is so of the records of a store that tells them
pub of-told : (o : Option ShardRecord) (P : ShardRecord → Type 0) → IsSome o → IfSome o P → P (unwrap_or o no_records)
of-told None P s h = absurd (false≢true s)
of-told (Some r) P s h = h

-- ---- records that are added to those of the session

module _ (b : InterfaceTold) (r : ShardRecord) where
  module _ (s : ShardsTold) where
    pub adds-failed : (e : ShardError) → AddCall b.session s r (Err e) → AddsRecords b (record b { session = s }) r (Err (of_shard_error e))
    adds-failed e h = record { same = refl; added = tt; kept = h.kept; faults = h.faults; why = store-fails b.session.faults s.faults e h.failed }

    pub adds-done : (w : Unit {0}) → AddCall b.session s r (Ok w) → AddsRecords b (record b { session = s }) r (Ok w)
    adds-done w h = record { same = refl; added = h.added; kept = tt; faults = h.faults; why = tt }

-- ---- the shards that the records of the session become

module _ (b : InterfaceTold) (s : ShardsTold) where
  pub makes-failed : (e : ShardError) → AllCall b.session s (Err e) → MakesShards b (record b { session = s }) (Err (of_shard_error e))
  makes-failed e h = record { same = refl; records = h.reads.records; shards = λ t. tt; faults = h.reads.faults; why = store-fails b.session.faults s.faults e h.reads.failed }

  module _ (r : ShardRecord) (h : AllCall b.session s (Ok r)) where
    pub makes-memory : MakesShards b (record b { session = s }) (Err data_error.OutOfMemory)
    makes-memory = record { same = refl; records = h.reads.records; shards = λ t. tt; faults = h.reads.faults; why = inl refl }

    pub makes-done : (ss : List ShardRecord) → ss ≡ shards_in b.rules.shard_max_target_size r → MakesShards b (record b { session = s }) (Ok ss)
    makes-done ss e = record {
      same = refl;
      records = h.reads.records;
      shards = λ t. e ∙ ap (shards_in b.rules.shard_max_target_size) (of-told b.session.records (λ q. r ≡ q) t h.whole);
      faults = h.reads.faults;
      why = tt;
    }

-- ---- one shard is put, and then the cache has it

module _ (u v : UploaderTold) (b : InterfaceTold) (x : Option ClientError) (r : ShardRecord) where
  pub put-refused : (e : ClientError) → PutShardCall u v r (Err e) → PutsShard u v b b x (Some e) r (Err (of_client_error e))
  put-refused e h = record {
    same = refl;
    ok = tt;
    err = (refl, inl h.refused);
    unput = inr h.refused;
    asked = h.asked;
    first = h.first;
    answered = h.answered;
    failure = record {
      ok = tt;
      unfailed = tt;
      err = inr (record { error = e; kept = refl; told = refl; rose = λ q. h.failed (ap Err q); memory = λ q. h.memory (ap Err q) });
      faults = h.faults;
    };
    cache = omega arith;
  }

  module _ (k : ℕ) (h : PutShardCall u v r (Ok k)) (s : ShardsTold) where
    pub put-added : (w : Unit {0}) → AddCall b.cache s r (Ok w) → PutsShard u v b (record b { cache = s }) x x r (Ok w)
    put-added w a = record {
      same = refl;
      ok = (h.accepted, a.added);
      err = tt;
      unput = inl refl;
      asked = h.asked;
      first = h.first;
      answered = h.answered;
      failure = record { ok = refl; unfailed = h.unfailed; err = tt; faults = h.faults };
      cache = a.faults;
    }

    pub put-unkept : (e : ShardError) → AddCall b.cache s r (Err e) → PutsShard u v b (record b { cache = s }) x x r (Err (of_shard_error e))
    put-unkept e a = record {
      same = refl;
      ok = tt;
      err = (a.kept, inr h.accepted);
      unput = inl refl;
      asked = h.asked;
      first = h.first;
      answered = h.answered;
      failure = record { ok = tt; unfailed = tt; err = inl (refl, h.unfailed, store-fails b.cache.faults s.faults e a.failed); faults = h.faults };
      cache = a.faults;
    }

-- ---- records that know a chunk are asked for, and then the cache has them

module _ (u v : UploaderTold) (b : InterfaceTold) (chunk : MerkleHash) where
  -- there are none
  pub asks-none : QueryShardCall u v chunk (Ok None) → Asks u v b b chunk (Ok false)
  asks-none q =
      let a : Answered u v chunk None = record { asked = q.asked; answered = q.answered } in
      record {
        same = refl;
        puts = q.puts;
        asked = inr (None, a);
        learned = inl refl;
        yes = λ w. absurd (false≢true w);
        no = λ w. (refl, inl a);
        faults = q.faults;
        cache = omega arith;
        why = tt;
      }

  -- the uploader failed, and knows none
  pub asks-failed : QueryShardCall u v chunk (Err client_error.Failed) → Asks u v b b chunk (Ok false)
  asks-failed q = record {
    same = refl;
    puts = q.puts;
    asked = inl (q.unanswered, q.unasked);
    learned = inl refl;
    yes = λ w. absurd (false≢true w);
    no = λ w. (refl, inr ((q.unanswered, q.unasked), q.failed refl));
    faults = q.faults;
    cache = omega arith;
    why = tt;
  }

  -- memory was wanting
  pub asks-memory : QueryShardCall u v chunk (Err client_error.OutOfMemory) → Asks u v b b chunk (Err data_error.OutOfMemory)
  asks-memory q = record {
    same = refl;
    puts = q.puts;
    asked = inl (q.unanswered, q.unasked);
    learned = inl refl;
    yes = tt;
    no = tt;
    faults = q.faults;
    cache = omega arith;
    why = inl refl;
  }

  module _ (r : ShardRecord) (q : QueryShardCall u v chunk (Ok (Some r))) (s : ShardsTold) where
    is-answered : Answered u v chunk (Some r)
    is-answered = record { asked = q.asked; answered = q.answered }

    pub asks-added : (w : Unit {0}) → AddCall b.cache s r (Ok w) → Asks u v b (record b { cache = s }) chunk (Ok true)
    asks-added w a =
        let learned : Learned u v b (record b { cache = s }) chunk = (r, is-answered, a.added) in
        record {
          same = refl;
          puts = q.puts;
          asked = inr (Some r, is-answered);
          learned = inr learned;
          yes = λ y. learned;
          no = λ y. absurd (true≢false y);
          faults = q.faults;
          cache = a.faults;
          why = tt;
        }

    -- the cache failed
    pub asks-unkept : (e : ShardError) → AddCall b.cache s r (Err e) → Asks u v b (record b { cache = s }) chunk (Err (of_shard_error e))
    asks-unkept e a = record {
      same = refl;
      puts = q.puts;
      asked = inr (Some r, is-answered);
      learned = inl a.kept;
      yes = tt;
      no = tt;
      faults = q.faults;
      cache = a.faults;
      why = store-fails b.cache.faults s.faults e a.failed;
    }
