-- The puts of several shards, and what they leave in the log and in the cache.
use Rattle.std.proofs.Common.{◌≡◌, ℕ, ◌+◌, ◌<◌, ◌≤◌, ◌⊎◌, inl, inr, true, false, List, [], ◌∷◌, ◌++◌, length, map, take, refl, sym, ◌∙◌, ap, subst, arith, get_or}
use Rattle.std.specs.Prelude.{Option, Some, None, option_map, IsSome, IfOk, Result, Ok, Err, OnOk, OnErr}
use Rattle.std.proofs.lemmas.Result.{IfErr-weaker}
use Rattle.std.proofs.lemmas.Bool.{false≢true}
use Rattle.std.proofs.lemmas.List.{append-nil, append_assoc, map-append, take_more, take-take}
use Rattle.xet_base.specs.declared.mdb_shard.ShardRecord.{ShardRecord}
use Rattle.xet_outside.specs.declared.client.ClientError.{ClientError}
use Rattle.xet_uploader.specs.declared.uploader.Put.{Put}
use Rattle.xet_uploader.specs.declared.uploader.Put.TheVariants as put
use Rattle.xet_uploader.specs.Uploads.{UploaderTold}
use Rattle.xet_shards.specs.Shards.{ShardsTold, with_records}
use Rattle.xet_upload.specs.declared.data_error.DataError.{DataError}
use Rattle.xet_shard_interface.specs.Interfaces.{InterfaceTold, StoreFails, resumed_faults, resumed_records}
use Rattle.xet_shard_interface.specs.Puts.{with_shards, with_puts, all_with_shards, forgotten, PutFailed, Fails, FailsSo, PutsShard, PutsShards, Forgets, Forgot, MakesShards, StopsAtFailure, UploadFails, Uploads, shards_of, sizes}

with_shards-push : (r : ShardRecord) (ss : List ShardRecord) (s : ShardRecord) → with_shards r (ss ++ s ∷ []) ≡ with_records (with_shards r ss) s
with_shards-push r [] s = refl
with_shards-push r (t ∷ ss) s = with_shards-push (with_records r t) ss s

log-push : (o : Option (List Put)) (ss : List ShardRecord) (s : ShardRecord) → with_puts (with_puts o ss) (s ∷ []) ≡ with_puts o (ss ++ s ∷ [])
log-push None ss s = refl
log-push (Some ps) ss s = ap (λ (qs : List Put). Some qs) (append_assoc ps (map put.Shard ss) (put.Shard s ∷ []) ∙ ap (λ (qs : List Put). ps ++ qs) (sym (map-append put.Shard ss (s ∷ []))))

cache-push : (o : Option ShardRecord) (ss : List ShardRecord) (s : ShardRecord) → option_map (λ (r : ShardRecord). with_records r s) (all_with_shards o ss) ≡ all_with_shards o (ss ++ s ∷ [])
cache-push None ss s = refl
cache-push (Some r) ss s = ap (λ (q : ShardRecord). Some q) (sym (with_shards-push r ss s))

log-none : (o : Option (List Put)) → o ≡ with_puts o []
log-none None = refl
log-none (Some ps) = ap (λ (qs : List Put). Some qs) (sym (append-nil ps))

cache-none : (o : Option ShardRecord) → o ≡ all_with_shards o []
cache-none None = refl
cache-none (Some r) = refl

-- ---- failures

failure-none : {A : Type 0} (u : UploaderTold) (x : Option ClientError) (O : DataError → Type 0) (w : A) → Fails u u x x O (Ok w)
failure-none u x O w = record { ok = refl; unfailed = refl; err = tt; faults = omega arith }

failed-later : (u m v : UploaderTold) (z : Option ClientError) (e : DataError) → m.faults ≡ u.faults → PutFailed m v z e → PutFailed u v z e
failed-later u m v z e same p = record { error = p.error; kept = p.kept; told = p.told; rose = λ q. omega (arith, same, p.rose q); memory = λ q. p.memory q ∙ same }

pub store-later : (a b c : ℕ) (e : DataError) → a ≤ b → StoreFails b c e → StoreFails a c e
store-later a b c e low (inl q) = inl q
store-later a b c e low (inr q) = inr (q.0, omega (arith, low, q.1))

module _ (u m v : UploaderTold) (x y z : Option ClientError) (w : Unit {0}) (O P Q : DataError → Type 0) (less : (e : DataError) → P e → O e) (h : Fails u m x y Q (Ok w)) where
  so : (e : DataError) → FailsSo m v y z P e → FailsSo u v x z O e
  so e (inl q) = inl (q.0 ∙ h.ok, q.1 ∙ h.unfailed, less e q.2)
  so e (inr f) = inr (failed-later u m v z e h.unfailed f)

  failure-both : (a : Result (Unit {0}) DataError) → Fails m v y z P a → Fails u v x z O a
  failure-both a p = record { ok = okay a p.ok; unfailed = stayed a p.unfailed; err = IfErr-weaker a (FailsSo m v y z P) (FailsSo u v x z O) so p.err; faults = omega (arith, h.faults, p.faults) }
    where
      okay : (r : Result (Unit {0}) DataError) → OnOk r (z ≡ y) → OnOk r (z ≡ x)
      okay (Ok k) q = q ∙ h.ok
      okay (Err e) q = tt

      stayed : (r : Result (Unit {0}) DataError) → OnOk r (v.faults ≡ m.faults) → OnOk r (v.faults ≡ u.faults)
      stayed (Ok k) q = q ∙ h.unfailed
      stayed (Err e) q = tt

pub puts-none : (u : UploaderTold) (b : InterfaceTold) (x : Option ClientError) → PutsShards u u b b x x [] (Ok tt)
puts-none u b x = record {
  same = refl;
  ok = (log-none u.puts, cache-none b.cache.records);
  count = 0;
  some = log-none u.puts;
  kept = 0;
  fewer = omega arith;
  close = omega arith;
  cached = cache-none b.cache.records;
  unput = inl refl;
  asked = refl;
  first = refl;
  answered = refl;
  failure = failure-none u x (StoreFails b.cache.faults b.cache.faults) tt;
  cache = omega arith;
}

-- so many of the shards were put, and then the next one
module _ (u m v : UploaderTold) (b c n : InterfaceTold) (x y z : Option ClientError) (ss : List ShardRecord) (i : ℕ) (d : ShardRecord) (low : i < length ss) (w : Unit {0}) (h : PutsShards u m b c x y (take i ss) (Ok w)) where
  more : take (i + 1) ss ≡ take i ss ++ get_or ss i d ∷ []
  more = take_more ss i d low

  module _ (s : ShardRecord) (is : s ≡ get_or ss i d) where
    next : take i ss ++ s ∷ [] ≡ take (i + 1) ss
    next = ap (λ (t : ShardRecord). take i ss ++ t ∷ []) is ∙ sym more

    log-next : v.puts ≡ with_puts m.puts (s ∷ []) → v.puts ≡ with_puts u.puts (take (i + 1) ss)
    log-next e =
        e ∙ ap (λ (o : Option (List Put)). with_puts o (s ∷ [])) h.ok.0 ∙ log-push u.puts (take i ss) s
        ∙ ap (with_puts u.puts) next

    whole : n ≡ record c { cache = n.cache } → n ≡ record b { cache = n.cache }
    whole e = e ∙ ap (λ (j : InterfaceTold). record j { cache = n.cache }) h.same

    pub puts-more : (t : Unit {0}) → PutsShard m v c n y z s (Ok t) → PutsShards u v b n x z (take (i + 1) ss) (Ok tt)
    puts-more t p =
        let ok = p.ok in
        let log = log-next ok.0 in
        let cached : n.cache.records ≡ all_with_shards b.cache.records (take (i + 1) ss) =
        ok.1 ∙ ap (λ (o : Option ShardRecord). option_map (λ (r : ShardRecord). with_records r s) o) h.ok.1 ∙ cache-push b.cache.records (take i ss) s
        ∙ ap (all_with_shards b.cache.records) next in
        let all : take (i + 1) (take (i + 1) ss) ≡ take (i + 1) ss = take-take (i + 1) (i + 1) ss (omega arith) in
        record {
          same = whole p.same;
          ok = (log, cached);
          count = i + 1;
          some = log ∙ ap (with_puts u.puts) (sym all);
          kept = i + 1;
          fewer = omega arith;
          close = omega arith;
          cached = cached ∙ ap (all_with_shards b.cache.records) (sym all);
          unput = inl (p.failure.ok ∙ h.failure.ok);
          asked = p.asked ∙ h.asked;
          first = p.first ∙ h.first;
          answered = p.answered ∙ h.answered;
          failure = record { ok = p.failure.ok ∙ h.failure.ok; unfailed = p.failure.unfailed ∙ h.failure.unfailed; err = tt; faults = omega (arith, h.failure.faults, p.failure.faults) };
          cache = omega (arith, h.cache, p.cache);
        }

    pub puts-stopped : (e : DataError) → PutsShard m v c n y z s (Err e) → PutsShards u v b n x z ss (Err e)
    puts-stopped e p = stopped p.unput p.err.1
      where
        failure : Fails {A = Unit {0}} u v x z (StoreFails b.cache.faults n.cache.faults) (Err e)
        failure = failure-both u m v x y z w (StoreFails b.cache.faults n.cache.faults) (StoreFails c.cache.faults n.cache.faults) (StoreFails b.cache.faults c.cache.faults) (λ f q. store-later b.cache.faults c.cache.faults n.cache.faults f h.cache q) h.failure (Err e) p.failure

        -- the shard is not in the log
        unput : v.puts ≡ m.puts → PutsShards u v b n x z ss (Err e)
        unput q = record {
          same = whole p.same;
          ok = tt;
          count = i;
          some = q ∙ h.ok.0;
          kept = i;
          fewer = omega arith;
          close = omega arith;
          cached = p.err.0 ∙ h.ok.1;
          unput = inr (refl, low);
          asked = p.asked ∙ h.asked;
          first = p.first ∙ h.first;
          answered = p.answered ∙ h.answered;
          failure = failure;
          cache = omega (arith, h.cache, p.cache);
        }

        -- the shard is in the log, and the cache failed
        unkept : z ≡ y → v.puts ≡ with_puts m.puts (s ∷ []) → PutsShards u v b n x z ss (Err e)
        unkept f q = record {
          same = whole p.same;
          ok = tt;
          count = i + 1;
          some = log-next q;
          kept = i;
          fewer = omega arith;
          close = omega arith;
          cached = p.err.0 ∙ h.ok.1;
          unput = inl (f ∙ h.failure.ok);
          asked = p.asked ∙ h.asked;
          first = p.first ∙ h.first;
          answered = p.answered ∙ h.answered;
          failure = failure;
          cache = omega (arith, h.cache, p.cache);
        }

        stopped : (z ≡ y) ⊎ (v.puts ≡ m.puts) → (v.puts ≡ m.puts) ⊎ (v.puts ≡ with_puts m.puts (s ∷ [])) → PutsShards u v b n x z ss (Err e)
        stopped (inr q) r = unput q
        stopped (inl f) (inl q) = unput q
        stopped (inl f) (inr q) = unkept f q

-- ---- all records of the session

-- the shards could not be made
pub uploads-refused : (u : UploaderTold) (b n : InterfaceTold) (x : Option ClientError) (e : DataError) → MakesShards b n (Err e) → Uploads u u b n x x (Err e)
uploads-refused u b n x e m =
    let P : InterfaceTold → Type 0 = λ t. Uploads u u b t x x (Err e) in
    subst P (sym m.same) (record {
      same = refl;
      session = m.records;
      dry = λ d. (refl, refl);
      count = 0;
      some = λ s. log-none u.puts;
      ok = λ s d. tt;
      learned = λ s d. tt;
      sum = λ s. tt;
      kept = 0;
      fewer = omega arith;
      close = omega arith;
      cached = λ s. cache-none b.cache.records;
      unput = λ s. inl refl;
      resumed = inl refl;
      unforgotten = refl;
      forgot = λ d. tt;
      asked = refl;
      first = refl;
      answered = refl;
      faults = record { resumed = omega arith; session = m.faults; cache = omega arith; staging = omega arith };
      failure = record { ok = tt; unfailed = tt; err = inl (refl, refl, inl m.why); faults = omega arith };
    })

module _ (u : UploaderTold) (b c : InterfaceTold) (x : Option ClientError) (ss : List ShardRecord) (m : MakesShards b c (Ok ss)) where
  rules-same : c.rules.dry_run ≡ b.rules.dry_run
  rules-same = ap (λ (j : InterfaceTold). j.rules.dry_run) m.same

  -- a dry run
  pub uploads-dry : (k : ℕ) → k ≡ sizes ss → c.rules.dry_run ≡ true → Uploads u u b c x x (Ok k)
  uploads-dry k e d =
      let P : InterfaceTold → Type 0 = λ t. Uploads u u b t x x (Ok k) in
      subst P (sym m.same) (record {
        same = refl;
        session = m.records;
        dry = λ q. (refl, refl);
        count = 0;
        some = λ s. log-none u.puts;
        ok = λ s q. absurd (false≢true (sym q ∙ sym rules-same ∙ d));
        learned = λ s q. absurd (false≢true (sym q ∙ sym rules-same ∙ d));
        sum = λ s. e ∙ ap sizes (m.shards s);
        kept = 0;
        fewer = omega arith;
        close = omega arith;
        cached = λ s. cache-none b.cache.records;
        unput = λ s. inl refl;
        resumed = inl refl;
        unforgotten = tt;
        forgot = λ q. absurd (false≢true (sym q ∙ sym rules-same ∙ d));
        asked = refl;
        first = refl;
        answered = refl;
        faults = record { resumed = omega arith; session = m.faults; cache = omega arith; staging = omega arith };
        failure = failure-none u x (UploadFails b (record b { session = c.session })) k;
      })

  module _ (v : UploaderTold) (z : Option ClientError) (d n : InterfaceTold) (live : c.rules.dry_run ≡ false) where
    joined : d ≡ record c { cache = d.cache } → n ≡ record d { resumed = n.resumed } → n ≡ record b { resumed = n.resumed; session = c.session; cache = d.cache }
    joined p q = q ∙ ap (λ (j : InterfaceTold). record j { resumed = n.resumed }) p ∙ ap (λ (j : InterfaceTold). record j { resumed = n.resumed; cache = d.cache }) m.same

    resumed-is : d ≡ record c { cache = d.cache } → d.resumed ≡ b.resumed
    resumed-is p = ap (λ (j : InterfaceTold). j.resumed) p ∙ ap (λ (j : InterfaceTold). j.resumed) m.same

    resumed-same : d ≡ record c { cache = d.cache } → resumed_records d.resumed ≡ resumed_records b.resumed
    resumed-same p = ap (λ (j : InterfaceTold). resumed_records j.resumed) p ∙ ap (λ (j : InterfaceTold). resumed_records j.resumed) m.same

    cache-same : c.cache.records ≡ b.cache.records
    cache-same = ap (λ (j : InterfaceTold). j.cache.records) m.same

    cache-faults : c.cache.faults ≡ b.cache.faults
    cache-faults = ap (λ (j : InterfaceTold). j.cache.faults) m.same

    lost : resumed_records d.resumed ≡ resumed_records b.resumed
        → (resumed_records n.resumed ≡ resumed_records d.resumed) ⊎ (resumed_records n.resumed ≡ forgotten (resumed_records d.resumed))
        → (resumed_records n.resumed ≡ resumed_records b.resumed) ⊎ (resumed_records n.resumed ≡ forgotten (resumed_records b.resumed))
    lost e (inl p) = inl (p ∙ e)
    lost e (inr p) = inr (p ∙ ap forgotten e)

    -- the puts, and then the resumed records are forgotten where they were all accepted
    done : (answer : Result (Unit {0}) DataError) (said : Result ℕ DataError) → PutsShards u v c d x z ss answer → Forgets d n
        → (IsSome b.session.records → OnOk said (v.puts ≡ with_puts u.puts (shards_of b)))
        → (IsSome b.session.records → OnOk said (d.cache.records ≡ all_with_shards c.cache.records (shards_of b)))
        → (IsSome b.session.records → IfOk said (λ k. k ≡ sizes (shards_of b)))
        → OnErr said (n ≡ d) → OnOk said (Forgot d.resumed n.resumed)
        → Fails u v x z (StoreFails c.cache.faults d.cache.faults) said → Uploads u v b n x z said
    done answer said p f ok learned sum kept forgot failure =
        let e = joined p.same f.same in
        let cached : n.cache ≡ d.cache = ap (λ (j : InterfaceTold). j.cache) e in
        record {
          same = e ∙ ap (λ (j : InterfaceTold). record b { resumed = n.resumed; session = j.session; cache = j.cache }) (sym e);
          session = ap (λ (j : InterfaceTold). j.session.records) e ∙ m.records;
          dry = λ q. absurd (false≢true (sym live ∙ rules-same ∙ q));
          count = p.count;
          some = λ s. p.some ∙ ap (λ (ts : List ShardRecord). with_puts u.puts (take p.count ts)) (m.shards s);
          ok = λ s q. ok s;
          learned = λ s q. later said cached (learned s);
          sum = sum;
          kept = p.kept;
          fewer = p.fewer;
          close = p.close;
          cached = λ s.
              ap (λ (j : InterfaceTold). j.cache.records) e ∙ p.cached ∙ ap (λ (o : Option ShardRecord). all_with_shards o (take p.kept ss)) cache-same
              ∙ ap (λ (ts : List ShardRecord). all_with_shards b.cache.records (take p.kept ts)) (m.shards s);
          unput = λ s. subst (λ (ts : List ShardRecord). StopsAtFailure x z p.count p.kept ts) (m.shards s) p.unput;
          resumed = lost (resumed-same p.same) f.resumed;
          unforgotten = unforgotten said p.same kept;
          forgot = λ q. subst (λ (o : Option ShardsTold). OnOk said (Forgot o n.resumed)) (resumed-is p.same) forgot;
          asked = p.asked;
          first = p.first;
          answered = p.answered;
          failure = record { ok = failure.ok; unfailed = failure.unfailed; err = IfErr-weaker said (FailsSo u v x z (StoreFails c.cache.faults d.cache.faults)) (FailsSo u v x z (UploadFails b n)) (so-too e) failure.err; faults = failure.faults };
          faults = record {
            resumed = subst (λ (j : ℕ). j ≤ resumed_faults n.resumed) (ap (λ (j : InterfaceTold). resumed_faults j.resumed) p.same ∙ ap (λ (j : InterfaceTold). resumed_faults j.resumed) m.same) f.faults;
            session = subst (λ (j : InterfaceTold). b.session.faults ≤ j.session.faults) (sym e) m.faults;
            cache = omega (arith, cache-faults, p.cache, ap (λ (j : InterfaceTold). j.cache.faults) e);
            staging = subst (λ (j : InterfaceTold). b.staging.faults ≤ j.staging.faults) (sym e) (omega arith);
          };
        }
      where
        so-too : n ≡ record b { resumed = n.resumed; session = c.session; cache = d.cache } → (g : DataError) → FailsSo u v x z (StoreFails c.cache.faults d.cache.faults) g → FailsSo u v x z (UploadFails b n) g
        so-too e g (inr q) = inr q
        so-too e g (inl q) = inl (q.0, q.1, inr (subst (λ (j : ℕ). StoreFails j n.cache.faults g) cache-faults (subst (λ (j : ℕ). StoreFails c.cache.faults j g) (sym (ap (λ (j : InterfaceTold). j.cache.faults) e)) q.2)))

        unforgotten : (r : Result ℕ DataError) → d ≡ record c { cache = d.cache } → OnErr r (n ≡ d) → OnErr r (resumed_records n.resumed ≡ resumed_records b.resumed)
        unforgotten (Ok k) q is = tt
        unforgotten (Err g) q is = ap (λ (j : InterfaceTold). resumed_records j.resumed) is ∙ resumed-same q

        later : (r : Result ℕ DataError) → n.cache ≡ d.cache → OnOk r (d.cache.records ≡ all_with_shards c.cache.records (shards_of b)) → OnOk r (n.cache.records ≡ all_with_shards b.cache.records (shards_of b))
        later (Ok k) e h = ap (λ j. j.records) e ∙ h ∙ ap (λ (o : Option ShardRecord). all_with_shards o (shards_of b)) cache-same
        later (Err g) e h = tt

    pub uploads-done : (k : ℕ) (w : Unit {0}) → k ≡ sizes ss → PutsShards u v c d x z ss (Ok w) → Forgets d n → Forgot d.resumed n.resumed → Uploads u v b n x z (Ok k)
    uploads-done k w e p f forgot =
        let ok = p.ok in
        done (Ok w) (Ok k) p f (λ s. ok.0 ∙ ap (with_puts u.puts) (m.shards s)) (λ s. ok.1 ∙ ap (all_with_shards c.cache.records) (m.shards s))
        (λ s. e ∙ ap sizes (m.shards s)) tt forgot (record { ok = p.failure.ok; unfailed = p.failure.unfailed; err = tt; faults = p.failure.faults })

    pub uploads-stopped : (e : DataError) → n ≡ d → PutsShards u v c d x z ss (Err e) → Uploads u v b n x z (Err e)
    uploads-stopped e is p =
        let P : InterfaceTold → Type 0 = λ t. Forgets d t in
        let f = subst P (sym is) (record { same = refl; resumed = inl refl; faults = omega arith }) in
        done (Err e) (Err e) p f (λ s. tt) (λ s. tt) (λ s. tt) is tt (record { ok = tt; unfailed = tt; err = p.failure.err; faults = p.failure.faults })
