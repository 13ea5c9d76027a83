-- Runs of the whole made file, over connections that never fail.
use Rattle.std.proofs.Common.{◌≡◌, ℕ, zero, suc, ◌+◌, ◌-◌, ◌^◌, ◌<◌, true, false, cond, Bool, List, [], ◌∷◌, ◌++◌, length}
use Rattle.std.proofs.Common.{map, Option, None, Some, Ok, Err, refl, sym, ap, ◌∙◌, subst, arith, inl, ⊎_elim}
use Rattle.std.specs.Prelude.{All, IsSome, MatchOption, Result, nat_eq, replicate}
use Rattle.std.proofs.lemmas.Bool.{eqb-false}
use Rattle.std.proofs.lemmas.List.{length-replicate, map-append, replicate_more, take_all}
use Rattle.std.proofs.lemmas.List.Elements.{All-head, All-nil}
use Rattle.std.proofs.lemmas.Option.{none-some}
use Rattle.xet_base.specs.declared.stored.StoredFile.{StoredFile}
use Rattle.xet_base.specs.Store.{IsValid, Store, bytes_of, file_of, window}
use Rattle.xet_outside.specs.Told.{CacheEntry, CacheTold, ClientTold, Rose, SinkTold}
use Rattle.xet_store.specs.declared.client_log.ClientLog.{ClientLog}
use Rattle.xet_error.specs.declared.error.FileReconstructionError.{FileReconstructionError}
use Rattle.xet_error.specs.declared.error.FileReconstructionError.TheVariants as error
use Rattle.xet_error.specs.declared.error.Setting.{Setting}
use Rattle.xet_error.specs.declared.error.Setting.TheVariants.{NoConnection, NoTries}
use Rattle.xet_reconstruct.specs.Completeness.{LegalIsComplete, NothingFails}
use Rattle.xet_terms.specs.Settings.{failing_setting, failing_size}
use Rattle.xet_ties.specs.Causes.{NoneAtEnd, SomeRose, refused_setting, total_expiries}
use Rattle.xet_ties.specs.Legal.{Legal}
use Rattle.xet_ties.specs.LegalWords.{IsExact}
use Rattle.xet_ties.specs.Setup.{AllTell, CacheTells, IsHonestEntry, IsOver}
use Rattle.xet_bench.specs.declared.running.Bench.{Bench}
use Rattle.xet_bench.specs.Bench.{bench_bytes, bench_file, bench_store, file_of_terms}
use Rattle.xet_bench.specs.Running.{unmet_by}
use Rattle.xet_bench.specs.steps.Fetches.{Fetched, IsRefusal, new_client, new_sink, told_of, whole_setup}

-- ---- connections

-- what a connection to this store tells that did this
abbrev pub told_client : Store → ClientLog → ClientTold
told_client s log = record {
  store = Some s;
  asked = Some log.asked;
  said = Some log.said;
  served = Some log.served;
  faults = 0;
  expiries = 0;
  link = [];
}

-- one more
pub clients_more : {X : Type 0} (told : X → ClientTold) (c : ClientTold) (xs : List X) (x : X) (n : ℕ)
    → map told xs ≡ replicate n c → told x ≡ c → map told (xs ++ x ∷ []) ≡ replicate (n + 1) c
clients_more told c xs x n h e =
    map-append told xs (x ∷ []) ∙ ap (λ (ys : List ClientTold). ys ++ told x ∷ []) h
    ∙ ap (λ (y : ClientTold). replicate n c ++ y ∷ []) e ∙ replicate_more n c

all_tell : (s : Store) (n : ℕ) → AllTell s (replicate n (new_client s))
all_tell s zero = tt
all_tell s (suc n) = (refl, all_tell s n)

-- they told no fault and no expired answer
abbrev pub AreCalm : List ClientTold → Type 0
AreCalm [] = Unit {0}
AreCalm (c ∷ cs) = (c.faults ≡ 0) × (c.expiries ≡ 0) × AreCalm cs

pub all_calm : {X : Type 0} (told : X → ClientTold) → ((x : X) → (told x).faults ≡ 0)
    → ((x : X) → (told x).expiries ≡ 0) → (xs : List X) → AreCalm (map told xs)
all_calm told f e [] = tt
all_calm told f e (x ∷ xs) = (f x, e x, all_calm told f e xs)

none_rose : (cs ds : List ClientTold) → AreCalm ds → SomeRose cs ds → ⊥
none_rose [] ds calm h = h
none_rose (c ∷ cs) [] calm h = h
none_rose (c ∷ cs) (d ∷ ds) calm h = ⊎_elim
    (λ (r : Rose c.faults d.faults). let z = calm.0 in absurd (omega (arith, z, r)))
    (λ (r : SomeRose cs ds). none_rose cs ds calm.2 r) h

none_at_end : (ds : List ClientTold) → AreCalm ds → NoneAtEnd ds
none_at_end [] calm = tt
none_at_end (d ∷ ds) calm = (let z = calm.1 in omega (arith, z), none_at_end ds calm.2)

none_expired : (ds : List ClientTold) → AreCalm ds → total_expiries ds ≡ 0
none_expired [] calm = refl
none_expired (d ∷ ds) calm = let z = calm.1 in let n = none_expired ds calm.2 in omega (arith, z, n)

-- ---- settings

positive : (n : ℕ) → (n ≡ 0 → ⊥) → 0 < n
positive zero differs = absurd (differs refl)
positive (suc n) differs = omega arith

-- where none fails a block is asked for at least once
some_tries : (lanes tries least greatest : ℕ) → failing_setting lanes tries least greatest ≡ None → 0 < tries
some_tries lanes tries least greatest h = go (nat_eq lanes 0) (nat_eq tries 0) refl refl
  where
    go : (a b : Bool) → nat_eq lanes 0 ≡ a → nat_eq tries 0 ≡ b → 0 < tries
    go true b e f = absurd (none-some NoConnection
        (sym h ∙ ap (λ (v : Bool). cond v (Some NoConnection) (cond (nat_eq tries 0) (Some NoTries)
        (failing_size least greatest))) e))
    go false true e f = absurd (none-some NoTries
        (sym h ∙ ap (λ (v : Bool). cond v (Some NoConnection) (cond (nat_eq tries 0) (Some NoTries)
        (failing_size least greatest))) e
        ∙ ap (λ (v : Bool). cond v (Some NoTries) (failing_size least greatest)) f))
    go false false e f = positive tries (eqb-false tries 0 f)

-- ---- the run

module _ (complete : LegalIsComplete) (bench : Bench) (valid : IsValid (bench_store bench.terms))
    (cs ds : List ClientTold) (k l : CacheTold) (b n : SinkTold)
    (made : cs ≡ replicate bench.lanes (new_client (bench_store bench.terms))) (none : k.entries ≡ Some [])
    (new : b ≡ new_sink) (calm : AreCalm ds) (unfailed : n.faults ≡ 0) where
  over : IsOver (bench_store bench.terms) cs
  over = record {
    tell = subst (AllTell (bench_store bench.terms)) (sym made) (all_tell (bench_store bench.terms) bench.lanes);
    valid = valid;
  }

  tells : CacheTells (bench_store bench.terms) k
  tells = subst (λ (o : Option (List CacheEntry)). MatchOption o ⊥ (λ es. All (IsHonestEntry (bench_store bench.terms)) es))
      (sym none) (All-nil (IsHonestEntry (bench_store bench.terms)))

  stored : IsSome (file_of (bench_store bench.terms) bench_file)
  stored = refl

  same : refused_setting (whole_setup bench.config) cs ≡ unmet_by bench
  same = ap (λ (m : ℕ). failing_setting m bench.config.tries bench.config.min_reconstruction_fetch_size
      bench.config.max_reconstruction_fetch_size)
      (ap length made ∙ length-replicate bench.lanes (new_client (bench_store bench.terms)))

  whole : window (bench_store bench.terms) bench_file (record { start = 0; end = 2 ^ 64 - 1 }) ≡ bench_bytes bench.terms
  whole =
      let short = All-head (λ (f : StoredFile). length (bytes_of (bench_store bench.terms) f.hash) < 2 ^ 64)
      (file_of_terms bench.terms) [] valid.lengths in
      take_all (2 ^ 64 - 1) (bench_bytes bench.terms) (omega (arith, short))

  nothing : unmet_by bench ≡ None → NothingFails (whole_setup bench.config) (told_of cs k b) (told_of ds l n)
  nothing u = record {
    settings = same ∙ u;
    stored = inl (record { store = bench_store bench.terms; over = over; stored = stored });
    clients = none_rose cs ds calm;
    sink = λ r. absurd (omega (arith, unfailed, r));
    signal = λ r. absurd (omega (arith, r));
    counts = none_at_end ds calm;
    expiries =
        let some = some_tries bench.lanes bench.config.tries bench.config.min_reconstruction_fetch_size
        bench.config.max_reconstruction_fetch_size u in
        let zero = none_expired ds calm in
        omega (arith, some, zero);
  }

  took_all : (m : ℕ) → IsExact (bench_store bench.terms) (whole_setup bench.config) b n m
      → n.took ≡ Some (bench_bytes bench.terms)
  took_all m h = rw new at h.took ∙ ap (λ (xs : List ℕ). Some xs) whole

  -- a setting that fails is the answer
  refused : (answer : Result ℕ FileReconstructionError)
      → Legal (whole_setup bench.config) (told_of cs k b) (told_of ds l n) answer
      → (e : Setting) → unmet_by bench ≡ Some e → answer ≡ Err (error.ConfigurationError e)
  refused answer h e u = (h.first.settings e (same ∙ u)).0

  pub fetched : (answer : Result ℕ FileReconstructionError)
      → Legal (whole_setup bench.config) (told_of cs k b) (told_of ds l n) answer → Fetched bench n answer
  fetched (Ok m) h = record {
    met = by (unmet_by bench) refl;
    took = took_all m (h.exact.exact (bench_store bench.terms) over tells);
    cause = tt;
  }
    where
      by : (o : Option Setting) → unmet_by bench ≡ o → unmet_by bench ≡ None
      by None u = u
      by (Some e) u = let same = refused (Ok m) h e u in absurd (cc)
  fetched (Err e) h = record { met = tt; took = tt; cause = by (unmet_by bench) refl }
    where
      by : (o : Option Setting) → unmet_by bench ≡ o → IsRefusal bench e
      by None u = subst (IsRefusal bench) (sym (complete _ _ _ (Err e) h (nothing u))) tt
      by (Some s) u =
          let own : e ≡ error.ConfigurationError s = let same = refused (Err e) h s u in cc in
          subst (IsRefusal bench) (sym own) u
