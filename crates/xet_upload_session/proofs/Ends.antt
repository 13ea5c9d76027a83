-- The exits of the end of a session, and the order of its log.
use Rattle.std.proofs.Common.{◌≡◌, ℕ, ◌≤◌, ◌⊎◌, inl, inr, Bool, true, false, List, [], ◌∷◌, ◌++◌, length, map, take, refl, sym, ◌∙◌, ap, subst, arith}
use Rattle.std.specs.Prelude.{All, Contains, Option, Some, None, IsSome, IfSome, is_some, option_map, unwrap_or, Result, Ok, Err, OnOk, OnErr, IfOk, IfErr}
use Rattle.std.proofs.lemmas.Bool.{false≢true}
use Rattle.std.proofs.lemmas.List.{append-nil, append_assoc, length-map, get_or-map, take-take}
use Rattle.std.proofs.lemmas.List.Concat.{flat_map-append}
use Rattle.std.proofs.lemmas.List.Elements.{All-nil, All-append, All-same, All-weaker, All-contains, Contains-append_right}
use Rattle.xet_base.specs.declared.merklehash.MerkleHash.{MerkleHash}
use Rattle.xet_base.specs.declared.mdb_shard.Xorb.{Xorb}
use Rattle.xet_base.specs.declared.mdb_shard.MDBFileInfo.{MDBFileInfo}
use Rattle.xet_base.specs.declared.mdb_shard.MDBXorbInfo.{MDBXorbInfo}
use Rattle.xet_base.specs.declared.mdb_shard.ShardRecord.{ShardRecord}
use Rattle.xet_outside.specs.declared.client.ClientError.{ClientError}
use Rattle.xet_outside.specs.declared.client.ClientError.TheVariants as client_error
use Rattle.xet_outside.specs.Told.{Rose}
use Rattle.xet_uploader.specs.declared.uploader.Put.{Put}
use Rattle.xet_uploader.specs.declared.uploader.Put.TheVariants as put
use Rattle.xet_uploader.specs.Uploads.{UploaderTold}
use Rattle.xet_shards.specs.Shards.{ShardsTold, no_records, with_records}
use Rattle.xet_shard_interface.specs.Fillings.{shards_in}
use Rattle.xet_session_end.specs.Ends.{CountsBehind, EndTold, EndsAdded, EndsBehind, EndsUnadded, end_counts}
use Rattle.xet_shard_interface.specs.Interfaces.{AddsRecords, InterfaceTold, LaterFaults, ListsFiles, StoreFails, StoresTell, known_told, known_xorbs, records_of, resumed_records}
use Rattle.xet_shard_interface.specs.Puts.{all_with_shards, FailsSo, Forgot, StopsAtFailure, UploadFails, Uploads, forgotten, puts_of, shards_of, sizes, with_puts, with_shards}
use Rattle.xet_shard_interface.specs.declared.shard_interface.ShardRules.{ShardRules}
use Rattle.xet_shard_interface.proofs.CallerLemmas.{files-in, files_of, in-shard, log-grown, names-take, ordered-shards}
use Rattle.xet_upload.specs.DataErrors.{of_client_error}
use Rattle.xet_upload.specs.Orders.{IsOrdered, IsThere, names_of}
use Rattle.xet_upload.specs.Waitings.{Waiting, no_waiting}
use Rattle.xet_upload.specs.declared.data_error.DataError.{DataError}
use Rattle.xet_upload.specs.declared.metrics.DeduplicationMetrics.{DeduplicationMetrics}
use Rattle.xet_upload.proofs.CallerLemmas.{ordered-none, ordered-xorb}
use Rattle.xet_upload_parts.specs.declared.cut_thresholds.CutThresholds.{CutThresholds}
use Rattle.xet_upload_session.specs.Calls.{AllPut, Backs, Counted, Cut, EndsCut, EndsSo, EndsUncut, Finalizes, GrewByXorbs, GrewToEnd, HasFiles, IsPut, Keeps, KeepsFailed, NoQueries, PutsFail, ResumedKept, Says, SomePut, StoresFail, RepeatsGrow, as_finalized, finalized_error, finished_records, new_session, waiting_records}
use Rattle.xet_upload_session.specs.Sessions.{HasListed, IsBackedSession, IsListed, SessionTold, Stands, Tells, known_of, log_of, waiting_names}
use Rattle.xet_upload_parts.specs.Storable.{IsStorable}
use Rattle.xet_upload_session.proofs.Keeping.{failed-same, keeps-refl, later-both, later-same, queries-same, repeats-same, stores-later}
use Rattle.xet_upload_session.proofs.Recording.{map-some}
use Rattle.xet_upload_session.proofs.Tests.{tested-storable, waits-empty}

-- ---- the order

ordered-xorbs : (xs : List Xorb) (log : List Put) (first : ℕ) (known : List MerkleHash) → IsOrdered log first known → IsOrdered (log ++ map put.Xorb xs) first known
ordered-xorbs [] log first known h = let P : List Put → Type 0 = λ ps. IsOrdered ps first known in subst P (sym (append-nil log)) h
ordered-xorbs (x ∷ xs) log first known h =
    let P : List Put → Type 0 = λ ps. IsOrdered ps first known in
    subst P (append_assoc log (put.Xorb x ∷ []) (map put.Xorb xs)) (ordered-xorbs xs (log ++ put.Xorb x ∷ []) first known (ordered-xorb log first known x h))

-- after xorbs alone the log is ordered
pub ordered-grown : (b n : SessionTold) (known : List MerkleHash) → GrewByXorbs b n → IsOrdered (log_of n) (length (log_of b)) known
ordered-grown b n known g =
    let P : List Put → Type 0 = λ ps. IsOrdered ps (length (log_of b)) known in
    subst P (sym g.grown) (ordered-xorbs g.xorbs (log_of b) (length (log_of b)) known (ordered-none (log_of b) known))

-- and after the shards whose file records name what stands
ordered-records : (b n1 n2 n : SessionTold) → Tells b → Stands b → Keeps b n1 → IsListed n1 → (records_of n2.shards.session).files ≡ (records_of n1.shards.session).files ++ n1.finished → log_of n2 ≡ log_of n1
    → (k : ℕ) → log_of n ≡ log_of n2 ++ map put.Shard (take k (shards_of n2.shards)) → IsOrdered (log_of n) (length (log_of b)) (known_of b)
ordered-records b n1 n2 n t s k l files same i e = go
  where
    P : List Put → Type 0
    P ps = IsOrdered ps (length (log_of b)) (known_of b)

    first : IsOrdered (log_of n1) (length (log_of b)) (known_of b)
    first = ordered-grown b n1 (known_of b) (k.grew t)

    now : Stands n1
    now = k.stands t s

    known : known_of n1 ≡ known_of b
    known = ap (λ (k : Option (Option ShardRecord) × Option ShardRecord). map (λ (r : MDBXorbInfo). r.hash) (known_xorbs k)) k.known

    Q : MerkleHash → Type 0
    Q = IsThere (log_of n1) (known_of n1)

    listed : All Q (names_of n1.finished)
    listed = All-weaker (Contains n1.listed) Q (λ h c. All-contains Q n1.listed h now.on_list c) (names_of n1.finished) l.finished

    both : All Q (names_of (records_of n2.shards.session).files)
    both = All-same Q (names_of (records_of n2.shards.session).files) (names_of (records_of n1.shards.session).files ++ names_of n1.finished)
        (ap names_of files ∙ flat_map-append (λ (f : MDBFileInfo). map (λ e. e.xorb) f.entries) (records_of n1.shards.session).files n1.finished)
        (All-append Q (names_of (records_of n1.shards.session).files) (names_of n1.finished) now.named listed)

    at : All (IsThere (log_of n1) (known_of b)) (names_of (files_of (take i (shards_of n2.shards))))
    at = names-take (IsThere (log_of n1) (known_of b)) i (shards_of n2.shards)
        (subst (λ (fs : List MDBFileInfo). All (IsThere (log_of n1) (known_of b)) (names_of fs)) (sym (files-in n2.shards.rules.shard_max_target_size (records_of n2.shards.session)))
        (subst (λ (ks : List MerkleHash). All (IsThere (log_of n1) ks) (names_of (records_of n2.shards.session).files)) known both))

    go : IsOrdered (log_of n) (length (log_of b)) (known_of b)
    go =
        let f : log_of n ≡ log_of n1 ++ map put.Shard (take i (shards_of n2.shards)) = e ∙ ap (λ (ps : List Put). ps ++ map put.Shard (take i (shards_of n2.shards))) same in
        subst P (sym f) (ordered-shards (take i (shards_of n2.shards)) (log_of n1) (length (log_of b)) (known_of b) first at)

Contains-shards : (ss : List ShardRecord) (s : ShardRecord) → Contains ss s → Contains (map put.Shard ss) (put.Shard s)
Contains-shards ss s c =
    let lt = c.1 in
    let size = length-map ss put.Shard in
    (c.0, omega (arith, lt, size), get_or-map put.Shard ss c.0 s (put.Shard s) lt ∙ ap put.Shard c.2)

-- ---- stores that tell

forgotten-tells : (o : Option (Option ShardRecord)) → IfSome o (λ r. IsSome r) → IfSome (forgotten o) (λ r. IsSome r)
forgotten-tells None t = tt
forgotten-tells (Some r) t = map-some (λ (s : ShardRecord). no_records) r t

-- what tells goes on telling where records are put
uploads-tell : (u v : UploaderTold) (b n : InterfaceTold) (x z : Option ClientError) (a : Result ℕ DataError) → Uploads u v b n x z a → IsSome u.puts → StoresTell b → IsSome v.puts × StoresTell n
uploads-tell u v b n x z a h puts t = (
  subst (λ (o : Option (List Put)). IsSome o) (sym (h.some t.session)) (map-some (λ (ps : List Put). ps ++ map put.Shard (take h.count (shards_of b))) u.puts puts),
  record {
    resumed = go h.resumed;
    session = subst (λ (o : Option ShardRecord). IsSome o) (sym h.session) t.session;
    cache = subst (λ (o : Option ShardRecord). IsSome o) (sym (h.cached t.session)) (map-some (λ (r : ShardRecord). with_shards r (take h.kept (shards_of b))) b.cache.records t.cache);
    staging = subst (λ (i : InterfaceTold). IsSome i.staging.records) (sym h.same) t.staging;
  },
)
  where
    P : Option (Option ShardRecord) → Type 0
    P o = IfSome o (λ r. IsSome r)

    go : (resumed_records n.resumed ≡ resumed_records b.resumed) ⊎ (resumed_records n.resumed ≡ forgotten (resumed_records b.resumed)) → P (resumed_records n.resumed)
    go (inl e) = subst P (sym e) t.resumed
    go (inr e) = subst P (sym e) (forgotten-tells (resumed_records b.resumed) t.resumed)

-- ---- what comes behind the cut

-- the records of the finished files were added to those of the session
record AddedFinished (b n : SessionTold) (answer : Result (Unit {0}) DataError) : Type 0 where
  same : n ≡ record b { shards = n.shards }
  tells : Tells b → StoresTell n.shards
  known : known_told n.shards ≡ known_told b.shards
  rules : n.shards.rules ≡ b.shards.rules
  files : Tells b → OnOk answer ((records_of n.shards.session).files ≡ (records_of b.shards.session).files ++ b.finished)
  stores : n.shards ≡ record b.shards { session = n.shards.session }
  recorded : OnOk answer (n.shards.session.records ≡ option_map (λ r. with_records r (finished_records b)) b.shards.session.records)
  kept : OnErr answer (n.shards.session.records ≡ b.shards.session.records)
  faults : LaterFaults b.shards n.shards
  why : IfErr answer (StoresFail b.shards n.shards)

-- the records of the session were put as shards, or some of the first of these
record PutRecords (b n : SessionTold) (answer : Result ℕ DataError) : Type 0 where
  same : n ≡ record b { uploader = n.uploader; shards = n.shards; failed = n.failed }
  uploads : Uploads b.uploader n.uploader b.shards n.shards b.failed n.failed answer

-- what came behind the records of the session, or was refused
module _ (b : SessionTold) (i : InterfaceTold) (answer : Result (Unit {0}) DataError) (a : AddsRecords b.shards i (finished_records b) answer) where
  added-some : IsSome b.shards.session.records → IsSome i.session.records
  added-some s = go answer a.added a.kept
    where
      go : (r : Result (Unit {0}) DataError) → OnOk r (i.session.records ≡ option_map (λ t. with_records t (finished_records b)) b.shards.session.records) → OnErr r (i.session.records ≡ b.shards.session.records) → IsSome i.session.records
      go (Ok u) e k = subst (λ (o : Option ShardRecord). IsSome o) (sym e) (map-some (λ (t : ShardRecord). with_records t (finished_records b)) b.shards.session.records s)
      go (Err x) e k = subst (λ (o : Option ShardRecord). IsSome o) (sym k) s

  added-tells : Tells b → StoresTell i
  added-tells t =
      let P : InterfaceTold → Type 0 = λ j. StoresTell j in
      subst P (sym a.same) (record { resumed = t.shards.resumed; session = added-some t.shards.session; cache = t.shards.cache; staging = t.shards.staging })

  added-files : Tells b → OnOk answer ((records_of i.session).files ≡ (records_of b.shards.session).files ++ b.finished)
  added-files t = go answer a.added
    where
      some : (o : Option ShardRecord) → IsSome o → (unwrap_or (option_map (λ r. with_records r (finished_records b)) o) no_records).files ≡ (unwrap_or o no_records).files ++ b.finished
      some (Some r) s = refl
      some None s = absurd (false≢true s)

      go : (r : Result (Unit {0}) DataError) → OnOk r (i.session.records ≡ option_map (λ t. with_records t (finished_records b)) b.shards.session.records) → OnOk r ((records_of i.session).files ≡ (records_of b.shards.session).files ++ b.finished)
      go (Ok u) e = ap (λ (o : Option ShardRecord). (unwrap_or o no_records).files) e ∙ some b.shards.session.records t.shards.session
      go (Err x) e = tt

  added-later : LaterFaults b.shards i
  added-later =
      let P : InterfaceTold → Type 0 = λ j. LaterFaults b.shards j in
      subst P (sym a.same) (record { resumed = omega arith; session = a.faults; cache = omega arith; staging = omega arith })

  added-why : IfErr answer (StoresFail b.shards i)
  added-why = go answer a.why
    where
      go : (r : Result (Unit {0}) DataError) → IfErr r (StoreFails b.shards.session.faults i.session.faults) → IfErr r (StoresFail b.shards i)
      go (Ok u) w = tt
      go (Err e) w = inr (inl w)

  added : AddedFinished b (record b { shards = i }) answer
  added = record {
    same = refl;
    tells = added-tells;
    known = ap known_told a.same;
    rules = ap (λ (j : InterfaceTold). j.rules) a.same;
    files = added-files;
    stores = a.same;
    recorded = a.added;
    kept = a.kept;
    faults = added-later;
    why = added-why;
  }

-- ---- the exits

-- no failure is kept
pub says-none : {A : Type 0} (n : SessionTold) (answer : Result A DataError) → n.failed ≡ None → Says n answer
says-none n answer none e q = absurd (false≢true (ap (λ (o : Option ClientError). is_some o) (sym none ∙ q)))

-- a failure that is kept is answered, by an answer of another kind too
says-err : {A B : Type 0} (n : SessionTold) (e : DataError) → Says {A = A} n (Err e) → Says {A = B} n (Err e)
says-err n e s g q = let h = s g q in let d : e ≡ of_client_error g = cc in ap (λ (x : DataError). Err x) d

cache-none : (o : Option ShardRecord) → o ≡ all_with_shards o []
cache-none None = refl
cache-none (Some r) = refl

-- the second call
pub finalizes-again : {A : Type 0} (b : SessionTold) (now : ℕ) → b.finalized ≡ true → Finalizes {A = A} b b now (Err finalized_error)
finalizes-again b now e = record {
  ends = λ f. absurd (false≢true (sym f ∙ e));
  tells = λ t. t;
  ordered = λ t s l. ordered-none (log_of b) (known_of b);
  finalized = e;
  unfailed = tt;
  finished = tt;
  recorded = λ t. tt;
  put = λ t d. tt;
  grew = λ t. record { xorbs = []; shards = []; grown = sym (append-nil (log_of b)); kept = 0; cached = cache-none b.shards.cache.records; resumed = inl refl; sent = λ few. omega (arith, few) };
  repeated = repeats-same b b refl;
  dry = λ t d. record { xorbs = []; grown = sym (append-nil (log_of b)); sent = λ few. omega (arith, few) };
  quiet = λ f. refl;
  queries = queries-same b b refl;
  failed = failed-same b b refl refl;
  steady = λ q. refl;
  stores = later-same b.shards b.shards refl;
  again = λ f. (refl, refl);
  said = λ f. absurd (false≢true (sym f ∙ e));
  refused = λ f g q. absurd (false≢true (sym f ∙ e));
  why = inl (refl, e);
}

module _ (b n1 : SessionTold) (now : ℕ) (first : b.finalized ≡ false) where
  begun : Tells b → Tells (record b { finalized = true })
  begun t = record { puts = t.puts; shards = t.shards }

  never : {P : Type 0} → b.finalized ≡ true → P
  never h = absurd (false≢true (sym first ∙ h))

  -- the same states, before and after xorbs alone
  grew-so : (n : SessionTold) → log_of n ≡ log_of n1 → n.metrics.xorb_bytes_uploaded ≡ n1.metrics.xorb_bytes_uploaded → GrewByXorbs (record b { finalized = true }) n1 → GrewByXorbs b n
  grew-so n log m g = record { xorbs = g.xorbs; grown = log ∙ g.grown; sent = λ few. m ∙ g.sent few }

  -- the cache of a state with the same known records has none of the shards yet
  cached-none : (n : SessionTold) → known_told n.shards ≡ known_told b.shards → n.shards.cache.records ≡ all_with_shards b.shards.cache.records []
  cached-none n e = ap (λ (k : Option (Option ShardRecord) × Option ShardRecord). k.1) e ∙ cache-none b.shards.cache.records

  resumed-same : (n : SessionTold) → known_told n.shards ≡ known_told b.shards → resumed_records n.shards.resumed ≡ resumed_records b.shards.resumed
  resumed-same n e = ap (λ (k : Option (Option ShardRecord) × Option ShardRecord). k.0) e

  grew-end : (n : SessionTold) (ss : List ShardRecord) → log_of n ≡ log_of n1 ++ map put.Shard ss → n.metrics.xorb_bytes_uploaded ≡ n1.metrics.xorb_bytes_uploaded
      → (kept : ℕ) → n.shards.cache.records ≡ all_with_shards b.shards.cache.records (take kept ss) → ResumedKept b.shards n.shards → GrewByXorbs (record b { finalized = true }) n1 → GrewToEnd b n
  grew-end n ss log m kept cached resumed g = record {
    xorbs = g.xorbs;
    shards = ss;
    grown = log ∙ ap (λ (ps : List Put). ps ++ map put.Shard ss) g.grown ∙ append_assoc (log_of b) (map put.Xorb g.xorbs) (map put.Shard ss);
    kept = kept;
    cached = cached;
    resumed = resumed;
    sent = λ few. m ∙ g.sent few;
  }

  failed-so : (n : SessionTold) → n.failed ≡ n1.failed → n.uploader ≡ n1.uploader → KeepsFailed (record b { finalized = true }) n1 → KeepsFailed b n
  failed-so n e u k = record {
    stays = λ f. e ∙ k.stays f;
    met = λ q. subst (λ (v : UploaderTold). (b.failed ≡ Some client_error.Failed) ⊎ Rose b.uploader.faults v.faults) (sym u) (k.met (sym e ∙ q));
    faults = subst (λ (v : UploaderTold). b.uploader.faults ≤ v.faults) (sym u) k.faults;
  }

  -- the cut failed
  finalizes-cut : {A : Type 0} (e : DataError) → Cut (record b { finalized = true }) n1 now (Err e) → Finalizes {A = A} b n1 now (Err e)
  finalizes-cut e c = record {
    ends = λ f. inl (e, refl, c);
    tells = λ t. c.keeps.tells (begun t);
    ordered = λ t s l. ordered-grown b n1 (known_of b) (grew-so n1 refl refl (c.keeps.grew (begun t)));
    finalized = c.keeps.finalized;
    unfailed = tt;
    finished = tt;
    recorded = λ t. tt;
    put = λ t d. tt;
    grew = λ t. grew-end n1 [] (sym (append-nil (log_of n1))) refl 0 (cached-none n1 c.keeps.known) (inl (resumed-same n1 c.keeps.known)) (c.keeps.grew (begun t));
    repeated = c.keeps.repeated;
    dry = λ t d. grew-so n1 refl refl (c.keeps.grew (begun t));
    quiet = c.keeps.quiet;
    queries = record { first = c.keeps.queries.first; asked = c.keeps.queries.asked; answered = c.keeps.queries.answered };
    failed = failed-so n1 refl refl c.keeps.failed;
    steady = c.keeps.steady;
    stores = c.keeps.stores;
    again = never;
    said = λ f. says-err n1 e c.said;
    refused = λ f g q. let same = c.refused g q in let d : e ≡ of_client_error g = cc in ap (λ (x : DataError). Err x) d;
    why = inr c.why;
  }

  module _ (n2 : SessionTold) (u : Unit {0}) (cut : Cut (record b { finalized = true }) n1 now (Ok u)) where
    unfailed1 : n1.failed ≡ None
    unfailed1 = cut.unfailed

    -- no put had failed, since the cut was done
    sound : {P : Type 0} → is_some b.failed ≡ true → P
    sound f = absurd (false≢true (sym (ap (λ (o : Option ClientError). is_some o) unfailed1) ∙ ap (λ (o : Option ClientError). is_some o) (cut.keeps.failed.stays f) ∙ f))

    queries-so : (n : SessionTold) → n.uploader ≡ n1.uploader → NoQueries b n
    queries-so n u = record {
      first = ap (λ (v : UploaderTold). v.first) u ∙ cut.keeps.queries.first;
      asked = ap (λ (v : UploaderTold). v.asked) u ∙ cut.keeps.queries.asked;
      answered = ap (λ (v : UploaderTold). v.answered) u ∙ cut.keeps.queries.answered;
    }

    unrefused : {P : Type 0} (e : ClientError) → b.failed ≡ Some e → P
    unrefused e q = absurd (let f = cut.refused e q in cc)

    -- no failure was kept before
    none-before : b.failed ≡ None
    none-before = go b.failed refl
      where
        go : (o : Option ClientError) → b.failed ≡ o → b.failed ≡ None
        go None e = e
        go (Some f) e = unrefused f e

    -- no put failed in the cut
    stayed1 : n1.uploader.faults ≡ b.uploader.faults
    stayed1 = cut.keeps.steady (inl (unfailed1 ∙ sym none-before))

    -- what came after the cut repeats no xorb
    repeats-so : (n : SessionTold) → n.repeated ≡ n1.repeated → RepeatsGrow b n
    repeats-so n e = (cut.keeps.repeated.0, e ∙ cut.keeps.repeated.1)

    -- the records could not be added
    finalizes-added : {A : Type 0} (e : DataError) → AddedFinished n1 n2 (Err e) → Finalizes {A = A} b n2 now (Err e)
    finalizes-added {A = A} e a =
        let same = a.same in
        let uncached : EndsCut {A = A} n1 n2 (Err e) = record {
          same = same ∙ ap (λ (z : SessionTold). record n1 { uploader = z.uploader; shards = z.shards; metrics = z.metrics; failed = z.failed }) (sym same);
          stores = a.stores ∙ ap (λ (i : InterfaceTold). record n1.shards { resumed = i.resumed; session = i.session; cache = i.cache }) (sym a.stores);
          all = tt;
          some = λ t. record {
            count = 0;
            kept = 0;
            log = ap log_of same ∙ sym (append-nil (log_of n1));
            cached = ap (λ (i : InterfaceTold). i.cache.records) a.stores ∙ cache-none n1.shards.cache.records;
            fewer = omega arith;
            close = omega arith;
            unput = inl (ap (λ (z : SessionTold). z.failed) same);
          };
          recorded = tt;
          records = inl (same ∙ ap (λ (i : InterfaceTold). record n1 { shards = i }) a.stores, a.kept);
          dry = λ d. a.known;
          resumed = inl (ap (λ (i : InterfaceTold). resumed_records i.resumed) a.stores);
          forgot = λ d. tt;
        } in
        let log : log_of n2 ≡ log_of n1 = ap log_of same in
        let m = ap (λ (z : SessionTold). z.metrics.xorb_bytes_uploaded) same in
        record {
          ends = λ f. inr (n1, cut, uncached);
          tells = λ t.
              let told1 = cut.keeps.tells (begun t) in
              record { puts = subst (λ (s : SessionTold). IsSome s.uploader.puts) (sym same) told1.puts; shards = a.tells told1 };
          ordered = λ t s l. ordered-grown b n2 (known_of b) (grew-so n2 log m (cut.keeps.grew (begun t)));
          finalized = ap (λ (z : SessionTold). z.finalized) same ∙ cut.keeps.finalized;
          unfailed = tt;
          finished = tt;
          recorded = λ t. tt;
          put = λ t d. tt;
          grew = λ t. grew-end n2 [] (log ∙ sym (append-nil (log_of n1))) m 0 (cached-none n2 (a.known ∙ cut.keeps.known)) (inl (resumed-same n2 (a.known ∙ cut.keeps.known))) (cut.keeps.grew (begun t));
          repeated = repeats-so n2 (ap (λ (z : SessionTold). z.repeated) same);
          dry = λ t d. grew-so n2 log m (cut.keeps.grew (begun t));
          quiet = sound;
          queries = queries-so n2 (ap (λ (z : SessionTold). z.uploader) same);
          said = λ f. says-none n2 (Err e) (ap (λ (z : SessionTold). z.failed) same ∙ unfailed1);
          failed = failed-so n2 (ap (λ (z : SessionTold). z.failed) same) (ap (λ (z : SessionTold). z.uploader) same) cut.keeps.failed;
          steady = λ q. ap (λ (z : SessionTold). z.uploader.faults) same ∙ stayed1;
          stores = later-both b.shards n1.shards n2.shards cut.keeps.stores a.faults;
          again = never;
          refused = λ f g q. unrefused g q;
          why = inr (inl (stores-later b.shards n1.shards n2.shards e cut.keeps.stores a.why));
        }

    module _ (v : Unit {0}) (a : AddedFinished n1 n2 (Ok v)) (n z : SessionTold) (answer : Result ℕ DataError) (p : PutRecords n2 n answer) (ends : z ≡ record n { metrics = z.metrics }) (sent : z.metrics.xorb_bytes_uploaded ≡ n.metrics.xorb_bytes_uploaded) where
      from1 : Tells n1 → Tells n2
      from1 told1 =
          record { puts = subst (λ (s : SessionTold). IsSome s.uploader.puts) (sym a.same) told1.puts; shards = a.tells told1 }

      told2 : Tells b → Tells n2
      told2 t = from1 (cut.keeps.tells (begun t))

      told-end : Tells b → Tells z
      told-end t =
          let told = uploads-tell n2.uploader n.uploader n2.shards n.shards n2.failed n.failed answer p.uploads (told2 t).puts (told2 t).shards in
          subst (λ (s : SessionTold). Tells s) (sym ends) (record { puts = told.0; shards = told.1 })

      uploader : z.uploader ≡ n.uploader
      uploader = ap (λ (s : SessionTold). s.uploader) ends

      log2 : log_of n2 ≡ log_of n1
      log2 = ap log_of a.same

      log-put : (ss : List ShardRecord) → Tells n2 → n.uploader.puts ≡ with_puts n2.uploader.puts ss → log_of z ≡ log_of n2 ++ map put.Shard ss
      log-put ss t e = ap puts_of uploader ∙ ap (λ (o : Option (List Put)). unwrap_or o []) e ∙ log-grown n2.uploader.puts (map put.Shard ss) t.puts

      rules : n2.shards.rules ≡ b.shards.rules
      rules = a.rules ∙ cut.keeps.rules

      finished : z.finished ≡ n1.finished
      finished = ap (λ (s : SessionTold). s.finished) ends ∙ ap (λ (s : SessionTold). s.finished) p.same ∙ ap (λ (s : SessionTold). s.finished) a.same

      repeated : RepeatsGrow b z
      repeated = repeats-so z (ap (λ (s : SessionTold). s.repeated) ends ∙ ap (λ (s : SessionTold). s.repeated) p.same ∙ ap (λ (s : SessionTold). s.repeated) a.same)

      metrics : z.metrics.xorb_bytes_uploaded ≡ n1.metrics.xorb_bytes_uploaded
      metrics = sent ∙ ap (λ (s : SessionTold). s.metrics.xorb_bytes_uploaded) p.same ∙ ap (λ (s : SessionTold). s.metrics.xorb_bytes_uploaded) a.same

      failed2 : n2.failed ≡ None
      failed2 = ap (λ (s : SessionTold). s.failed) a.same ∙ unfailed1

      some : Tells b → log_of z ≡ log_of n2 ++ map put.Shard (take p.uploads.count (shards_of n2.shards))
      some t = log-put (take p.uploads.count (shards_of n2.shards)) (told2 t) (p.uploads.some (told2 t).shards.session)

      ordered : Tells b → Stands b → IsListed b → IsOrdered (log_of z) (length (log_of b)) (known_of b)
      ordered t s l =
          ordered-records (record b { finalized = true }) n1 n2 z (begun t) s cut.keeps
          (cut.listed (record { finished = l.finished; waiting = l.waiting; put = l.put }) unfailed1) (a.files (cut.keeps.tells (begun t))) log2
          p.uploads.count (some t)

      finalized : z.finalized ≡ true
      finalized = ap (λ (s : SessionTold). s.finalized) ends ∙ ap (λ (s : SessionTold). s.finalized) p.same ∙ ap (λ (s : SessionTold). s.finalized) a.same ∙ cut.keeps.finalized

      known2 : known_told n2.shards ≡ known_told b.shards
      known2 = a.known ∙ cut.keeps.known

      cached-end : Tells b → z.shards.cache.records ≡ all_with_shards b.shards.cache.records (take p.uploads.kept (take p.uploads.count (shards_of n2.shards)))
      cached-end t =
          ap (λ (s : SessionTold). s.shards.cache.records) ends ∙ p.uploads.cached (told2 t).shards.session
          ∙ ap (λ (o : Option ShardRecord). all_with_shards o (take p.uploads.kept (shards_of n2.shards))) (ap (λ (k : Option (Option ShardRecord) × Option ShardRecord). k.1) known2)
          ∙ ap (all_with_shards b.shards.cache.records) (sym (take-take p.uploads.kept p.uploads.count (shards_of n2.shards) p.uploads.fewer))

      resumed-end : ResumedKept b.shards z.shards
      resumed-end =
          let P : InterfaceTold → Type 0 = λ i. ResumedKept b.shards i in
          subst P (sym (ap (λ (s : SessionTold). s.shards) ends)) (subst (λ (o : Option (Option ShardRecord)). (resumed_records n.shards.resumed ≡ o) ⊎ (resumed_records n.shards.resumed ≡ forgotten o)) (resumed-same n2 known2) p.uploads.resumed)

      grew : Tells b → GrewToEnd b z
      grew t =
          let ss = shards_of n2.shards in
          let few = take p.uploads.count ss in
          grew-end z few (some t ∙ ap (λ (ps : List Put). ps ++ map put.Shard few) log2) metrics p.uploads.kept (cached-end t) resumed-end (cut.keeps.grew (begun t))

      dry : Tells b → b.shards.rules.dry_run ≡ true → GrewByXorbs b z
      dry t d =
          let quiet : n.uploader ≡ n2.uploader = (p.uploads.dry (ap (λ (r : ShardRules). r.dry_run) rules ∙ d)).0 in
          grew-so z (ap puts_of uploader ∙ ap puts_of quiet ∙ log2) metrics (cut.keeps.grew (begun t))

      stores : LaterFaults b.shards z.shards
      stores =
          let ended : LaterFaults n2.shards z.shards = subst (λ (i : InterfaceTold). LaterFaults n2.shards i) (sym (ap (λ (s : SessionTold). s.shards) ends)) p.uploads.faults in
          later-both b.shards n2.shards z.shards (later-both b.shards n1.shards n2.shards cut.keeps.stores a.faults) ended

      queries : NoQueries b z
      queries =
          let before = queries-so n2 (ap (λ (s : SessionTold). s.uploader) a.same) in
          record {
            first = ap (λ (v : UploaderTold). v.first) uploader ∙ p.uploads.first ∙ before.first;
            asked = ap (λ (v : UploaderTold). v.asked) uploader ∙ p.uploads.asked ∙ before.asked;
            answered = ap (λ (v : UploaderTold). v.answered) uploader ∙ p.uploads.answered ∙ before.answered;
          }

      faults : b.uploader.faults ≤ n2.uploader.faults
      faults = subst (λ (w : UploaderTold). b.uploader.faults ≤ w.faults) (sym (ap (λ (s : SessionTold). s.uploader) a.same)) cut.keeps.failed.faults

      steady-end : n.uploader.faults ≡ n2.uploader.faults → z.uploader.faults ≡ b.uploader.faults
      steady-end e = ap (λ (w : UploaderTold). w.faults) uploader ∙ e ∙ ap (λ (s : SessionTold). s.uploader.faults) a.same ∙ stayed1

      failed-end : ((n.failed ≡ n2.failed) ⊎ (n.failed ≡ Some client_error.Failed → Rose n2.uploader.faults n.uploader.faults)) → KeepsFailed b z
      failed-end m =
          let P : UploaderTold → Type 0 = λ w. (b.failed ≡ Some client_error.Failed) ⊎ Rose b.uploader.faults w.faults in
          record {
            stays = sound;
            met = λ q. subst P (sym uploader) (met m (sym (ap (λ (s : SessionTold). s.failed) ends) ∙ q));
            faults = subst (λ (w : UploaderTold). b.uploader.faults ≤ w.faults) (sym uploader) (omega (arith, faults, p.uploads.failure.faults));
          }
        where
          met : ((n.failed ≡ n2.failed) ⊎ (n.failed ≡ Some client_error.Failed → Rose n2.uploader.faults n.uploader.faults)) → n.failed ≡ Some client_error.Failed → (b.failed ≡ Some client_error.Failed) ⊎ Rose b.uploader.faults n.uploader.faults
          met (inl e) q = absurd (false≢true (ap (λ (o : Option ClientError). is_some o) (sym failed2 ∙ sym e ∙ q)))
          met (inr f) q = inr (omega (arith, faults, f q))

      is-put : log_of z ≡ log_of n2 ++ map put.Shard (shards_of n2.shards) → (records_of n2.shards.session).files ≡ (records_of n1.shards.session).files ++ n1.finished → (f : MDBFileInfo) → Contains z.finished f → IsPut (log_of z) f
      is-put e files f c =
          let C : List MDBFileInfo → Type 0 = λ fs. Contains fs f in
          let there = Contains-append_right (records_of n1.shards.session).files n1.finished f (subst C finished c) in
          let one = in-shard (shards_of n2.shards) f (subst C (sym (files-in n2.shards.rules.shard_max_target_size (records_of n2.shards.session))) (subst C (sym files) there)) in
          let E : List Put → Type 0 = λ ps. Contains ps (put.Shard one.0) in
          record { shard = one.0; is_there = subst E (sym e) (Contains-append_right (log_of n2) (map put.Shard (shards_of n2.shards)) (put.Shard one.0) (Contains-shards (shards_of n2.shards) one.0 one.1)); has = one.2 }

      session-same : z.shards.session.records ≡ n2.shards.session.records
      session-same = ap (λ (s : SessionTold). s.shards.session.records) ends ∙ p.uploads.session

      records-same : records_of z.shards.session ≡ records_of n2.shards.session
      records-same = ap (λ (o : Option ShardRecord). unwrap_or o no_records) session-same

      rules-same : z.shards.rules ≡ n2.shards.rules
      rules-same = ap (λ (s : SessionTold). s.shards.rules) ends ∙ ap (λ (i : InterfaceTold). i.rules) p.uploads.same

      shards-same : shards_of n2.shards ≡ shards_of z.shards
      shards-same =
          ap (λ (r : ShardRules). shards_in r.shard_max_target_size (records_of n2.shards.session)) (sym rules-same)
          ∙ ap (shards_in z.shards.rules.shard_max_target_size) (sym records-same)

      recorded : Tells b → (records_of z.shards.session).files ≡ (records_of b.shards.session).files ++ z.finished
      recorded t = ap (λ (r : ShardRecord). r.files) records-same ∙ a.files (cut.keeps.tells (begun t)) ∙ ap (λ (fs : List MDBFileInfo). fs ++ n1.finished) cut.keeps.files ∙ ap (λ (fs : List MDBFileInfo). (records_of b.shards.session).files ++ fs) (sym finished)

      -- what the end left of the stores after the cut
      end-same : z ≡ record n1 { uploader = z.uploader; shards = z.shards; metrics = z.metrics; failed = z.failed }
      end-same =
          let whole = ends ∙ ap (λ (s : SessionTold). record s { metrics = z.metrics }) p.same ∙ ap (λ (s : SessionTold). record s { uploader = n.uploader; shards = n.shards; failed = n.failed; metrics = z.metrics }) a.same in
          whole ∙ ap (λ (s : SessionTold). record n1 { uploader = s.uploader; shards = s.shards; metrics = s.metrics; failed = s.failed }) (sym whole)

      end-stores : z.shards ≡ record n1.shards { resumed = z.shards.resumed; session = z.shards.session; cache = z.shards.cache }
      end-stores =
          let whole = ap (λ (s : SessionTold). s.shards) ends ∙ p.uploads.same ∙ ap (λ (i : InterfaceTold). record i { resumed = n.shards.resumed; session = n.shards.session; cache = n.shards.cache }) a.stores in
          whole ∙ ap (λ (i : InterfaceTold). record n1.shards { resumed = i.resumed; session = i.session; cache = i.cache }) (sym whole)

      known-dry : n1.shards.rules.dry_run ≡ true → known_told z.shards ≡ known_told n1.shards
      known-dry d = ap (λ (s : SessionTold). known_told s.shards) ends ∙ (p.uploads.dry (ap (λ (r : ShardRules). r.dry_run) a.rules ∙ d)).1 ∙ a.known

      resumed2 : resumed_records n2.shards.resumed ≡ resumed_records n1.shards.resumed
      resumed2 = ap (λ (i : InterfaceTold). resumed_records i.resumed) a.stores

      cache2 : n2.shards.cache.records ≡ n1.shards.cache.records
      cache2 = ap (λ (i : InterfaceTold). i.cache.records) a.stores

      resumed-so : (resumed_records n.shards.resumed ≡ resumed_records n2.shards.resumed) ⊎ (resumed_records n.shards.resumed ≡ forgotten (resumed_records n2.shards.resumed)) → AllPut n1 z
          → (resumed_records z.shards.resumed ≡ resumed_records n1.shards.resumed) ⊎ ((resumed_records z.shards.resumed ≡ forgotten (resumed_records n1.shards.resumed)) × AllPut n1 z)
      resumed-so (inl e) all = inl (ap (λ (s : SessionTold). resumed_records s.shards.resumed) ends ∙ e ∙ resumed2)
      resumed-so (inr e) all = inr (ap (λ (s : SessionTold). resumed_records s.shards.resumed) ends ∙ e ∙ ap forgotten resumed2, all)

      all-put : (k : ℕ) → answer ≡ Ok k → AllPut n1 z
      all-put k is t d =
          let t2 = from1 t in
          let live : n2.shards.rules.dry_run ≡ false = ap (λ (r : ShardRules). r.dry_run) a.rules ∙ d in
          let sent-all = subst (λ (r : Result ℕ DataError). OnOk r (n.uploader.puts ≡ with_puts n2.uploader.puts (shards_of n2.shards))) is (p.uploads.ok t2.shards.session live) in
          let learned = subst (λ (r : Result ℕ DataError). OnOk r (n.shards.cache.records ≡ all_with_shards n2.shards.cache.records (shards_of n2.shards))) is (p.uploads.learned t2.shards.session live) in (
            log-put (shards_of n2.shards) t2 sent-all ∙ ap (λ (ps : List Put). ps ++ map put.Shard (shards_of n2.shards)) log2 ∙ ap (λ (ss : List ShardRecord). log_of n1 ++ map put.Shard ss) shards-same,
            ap (λ (s : SessionTold). s.shards.cache.records) ends ∙ learned ∙ ap (λ (o : Option ShardRecord). all_with_shards o (shards_of n2.shards)) cache2 ∙ ap (all_with_shards n1.shards.cache.records) shards-same,
          )

      -- the first shards were put
      some-put : Tells n1 → SomePut n1 z
      some-put t =
          let t2 = from1 t in
          let k = p.uploads.count in
          let l = p.uploads.kept in
          record {
            count = k;
            kept = l;
            log =
                log-put (take k (shards_of n2.shards)) t2 (p.uploads.some t2.shards.session) ∙ ap (λ (ps : List Put). ps ++ map put.Shard (take k (shards_of n2.shards))) log2
                ∙ ap (λ (ss : List ShardRecord). log_of n1 ++ map put.Shard (take k ss)) shards-same;
            cached =
                ap (λ (s : SessionTold). s.shards.cache.records) ends ∙ p.uploads.cached t2.shards.session ∙ ap (λ (o : Option ShardRecord). all_with_shards o (take l (shards_of n2.shards))) cache2
                ∙ ap (λ (ss : List ShardRecord). all_with_shards n1.shards.cache.records (take l ss)) shards-same;
            fewer = p.uploads.fewer;
            close = p.uploads.close;
            unput =
                let stops = subst (λ (ss : List ShardRecord). StopsAtFailure n2.failed n.failed k l ss) shards-same (p.uploads.unput t2.shards.session) in
                subst (λ (o : Option ClientError). StopsAtFailure n1.failed o k l (shards_of z.shards)) (sym (ap (λ (s : SessionTold). s.failed) ends))
                (subst (λ (o : Option ClientError). StopsAtFailure o n.failed k l (shards_of z.shards)) (ap (λ (s : SessionTold). s.failed) a.same) stops);
          }

      -- the resumed records were forgotten, or their store failed
      forgot-end : (k : ℕ) → answer ≡ Ok k → n1.shards.rules.dry_run ≡ false → Forgot n1.shards.resumed z.shards.resumed
      forgot-end k is d =
          let done = subst (λ (r : Result ℕ DataError). OnOk r (Forgot n2.shards.resumed n.shards.resumed)) is (p.uploads.forgot (ap (λ (r : ShardRules). r.dry_run) a.rules ∙ d)) in
          subst (λ (o : Option ShardsTold). Forgot n1.shards.resumed o) (sym (ap (λ (s : SessionTold). s.shards.resumed) ends))
          (subst (λ (o : Option ShardsTold). Forgot o n.shards.resumed) (ap (λ (i : InterfaceTold). i.resumed) a.stores) done)

      -- all was put
      finalizes-ok : {A : Type 0} (m : A) (k : ℕ) → answer ≡ Ok k → Finalizes b z now (Ok m)
      finalizes-ok {A = A} m k is =
          let all : AllPut n1 z = all-put k is in
          let end : EndsCut {A = A} n1 z (Ok m) = record {
            same = end-same;
            stores = end-stores;
            all = all;
            some = some-put;
            recorded = session-same ∙ a.recorded;
            records = inr (session-same ∙ a.recorded);
            dry = known-dry;
            resumed = resumed-so p.uploads.resumed all;
            forgot = forgot-end k is;
          } in
          let same : n.failed ≡ n2.failed = subst (λ (r : Result ℕ DataError). OnOk r (n.failed ≡ n2.failed)) is p.uploads.failure.ok in
          record {
            ends = λ f. inr (n1, cut, end);
            tells = told-end;
            ordered = ordered;
            finalized = finalized;
            unfailed = ap (λ (s : SessionTold). s.failed) ends ∙ same ∙ failed2;
            finished = finished ∙ cut.finished;
            recorded = recorded;
            put = λ t d. is-put (log-put (shards_of n2.shards) (told2 t) (subst (λ (r : Result ℕ DataError). OnOk r (n.uploader.puts ≡ with_puts n2.uploader.puts (shards_of n2.shards))) is (p.uploads.ok (told2 t).shards.session (ap (λ (r : ShardRules). r.dry_run) rules ∙ d)))) (a.files (cut.keeps.tells (begun t)));
            grew = grew;
            repeated = repeated;
            dry = dry;
            quiet = sound;
            queries = queries;
            said = λ f. says-none z (Ok m) (ap (λ (s : SessionTold). s.failed) ends ∙ same ∙ failed2);
            failed = failed-end (inl same);
            steady = λ q. steady-end (subst (λ (r : Result ℕ DataError). OnOk r (n.uploader.faults ≡ n2.uploader.faults)) is p.uploads.failure.unfailed);
            stores = stores;
            again = never;
            refused = λ f g q. unrefused g q;
            why = tt;
          }

      -- a put failed, or a store
      finalizes-err : {A : Type 0} (e : DataError) → answer ≡ Err e → Finalizes {A = A} b z now (Err e)
      finalizes-err {A = A} e is = record {
        ends = λ f. inr (n1, cut, stopped);
        tells = told-end;
        ordered = ordered;
        finalized = finalized;
        unfailed = tt;
        finished = tt;
        recorded = λ t. tt;
        put = λ t d. tt;
        grew = grew;
        repeated = repeated;
        dry = dry;
        quiet = sound;
        queries = queries;
        said = λ f. says so;
        failed = failed-end (kept so);
        steady = λ q. steady-end (stayed so (subst (λ (o : Option ClientError). (o ≡ b.failed) ⊎ (o ≡ Some client_error.OutOfMemory)) failed-same-end q));
        stores = stores;
        again = never;
        refused = λ f g q. unrefused g q;
        why = inr (why so);
      }
        where
          stopped : EndsCut {A = A} n1 z (Err e)
          stopped =
              let unforgotten : resumed_records n.shards.resumed ≡ resumed_records n2.shards.resumed = subst (λ (r : Result ℕ DataError). OnErr r (resumed_records n.shards.resumed ≡ resumed_records n2.shards.resumed)) is p.uploads.unforgotten in
              record {
                same = end-same;
                stores = end-stores;
                all = tt;
                some = some-put;
                recorded = tt;
                records = inr (session-same ∙ a.recorded);
                dry = known-dry;
                resumed = inl (ap (λ (s : SessionTold). resumed_records s.shards.resumed) ends ∙ unforgotten ∙ resumed2);
                forgot = λ d. tt;
              }

          so : FailsSo n2.uploader n.uploader n2.failed n.failed (UploadFails n2.shards n.shards) e
          so = subst (λ (r : Result ℕ DataError). IfErr r (FailsSo n2.uploader n.uploader n2.failed n.failed (UploadFails n2.shards n.shards))) is p.uploads.failure.err

          kept : FailsSo n2.uploader n.uploader n2.failed n.failed (UploadFails n2.shards n.shards) e → (n.failed ≡ n2.failed) ⊎ (n.failed ≡ Some client_error.Failed → Rose n2.uploader.faults n.uploader.faults)
          kept (inl q) = inl q.0
          kept (inr f) = inr (λ q. f.rose (let both : Some f.error ≡ Some client_error.Failed = sym f.kept ∙ q in cc))

          failed-same-end : z.failed ≡ n.failed
          failed-same-end = ap (λ (s : SessionTold). s.failed) ends

          says : FailsSo n2.uploader n.uploader n2.failed n.failed (UploadFails n2.shards n.shards) e → Says {A = A} z (Err e)
          says (inl q) = says-none z (Err e) (failed-same-end ∙ q.0 ∙ failed2)
          says (inr f) = λ g h. let both : Some f.error ≡ Some g = sym f.kept ∙ sym failed-same-end ∙ h in let one : f.error ≡ g = cc in ap (λ (x : DataError). Err x) (f.told ∙ ap of_client_error one)

          stayed : FailsSo n2.uploader n.uploader n2.failed n.failed (UploadFails n2.shards n.shards) e → (n.failed ≡ b.failed) ⊎ (n.failed ≡ Some client_error.OutOfMemory) → n.uploader.faults ≡ n2.uploader.faults
          stayed (inl q) r = q.1
          stayed (inr f) (inl r) = absurd (false≢true (ap (λ (o : Option ClientError). is_some o) (sym none-before ∙ sym r ∙ f.kept)))
          stayed (inr f) (inr r) = f.memory (let both : Some f.error ≡ Some client_error.OutOfMemory = sym f.kept ∙ r in cc)

          shards : z.shards ≡ n.shards
          shards = ap (λ (s : SessionTold). s.shards) ends

          store : UploadFails n2.shards n.shards e → StoresFail n2.shards n.shards e
          store (inl q) = inr (inl q)
          store (inr q) = inr (inr (inl q))

          why : FailsSo n2.uploader n.uploader n2.failed n.failed (UploadFails n2.shards n.shards) e → PutsFail b z e
          why (inl q) = inl (stores-later b.shards n2.shards z.shards e (later-both b.shards n1.shards n2.shards cut.keeps.stores a.faults) (subst (λ (i : InterfaceTold). StoresFail n2.shards i e) (sym shards) (store q.2)))
          why (inr f) = inr (f.error, ap (λ (s : SessionTold). s.failed) ends ∙ f.kept, f.told)

    module _ (v : Unit {0}) (a : AddedFinished n1 n2 (Ok v)) (n : SessionTold) where
      -- a put of records failed
      finalizes-unput : {A : Type 0} (e : DataError) → PutRecords n2 n (Err e) → Finalizes {A = A} b n now (Err e)
      finalizes-unput e p = finalizes-err v a n n (Err e) p refl refl e refl

      -- all was put, and then the counts were taken
      finalizes-put : (z : SessionTold) (k : ℕ) → PutRecords n2 n (Ok k) → z ≡ record n { metrics = end_counts n.metrics k } → (m : DeduplicationMetrics) → m ≡ z.metrics → Finalizes b z now (Ok m) × Counted b z m
      finalizes-put z k p is m taken =
          let counts : z.metrics ≡ end_counts n.metrics k = ap (λ (s : SessionTold). s.metrics) is in
          let ends : z ≡ record n { metrics = z.metrics } = is ∙ ap (λ (c : DeduplicationMetrics). record n { metrics = c }) (sym counts) in
          let sent : z.metrics.xorb_bytes_uploaded ≡ n.metrics.xorb_bytes_uploaded = ap (λ (c : DeduplicationMetrics). c.xorb_bytes_uploaded) counts in
          let whole : m ≡ end_counts n.metrics k = taken ∙ counts in
          let before : n.metrics ≡ n1.metrics = ap (λ (s : SessionTold). s.metrics) p.same ∙ ap (λ (s : SessionTold). s.metrics) a.same in (
            finalizes-ok v a n z (Ok k) p ends sent m k refl,
            record {
              counts = taken;
              same = rest m k (before ∙ cut.counts) whole;
              shards = λ t.
                  let size : k ≡ sizes (shards_of z.shards) = p.uploads.sum (told2 v a n z (Ok k) p ends sent t).shards.session ∙ ap sizes (shards-same v a n z (Ok k) p ends sent) in
                  whole ∙ ap (end_counts n.metrics) size ∙ sym (ap (λ (c : DeduplicationMetrics). end_counts c (sizes (shards_of z.shards))) whole);
            },
          )
        where
          rest : (m : DeduplicationMetrics) (k : ℕ) → n.metrics ≡ record b.metrics { xorb_bytes_uploaded = n1.metrics.xorb_bytes_uploaded } → m ≡ end_counts n.metrics k
              → m ≡ record b.metrics { xorb_bytes_uploaded = m.xorb_bytes_uploaded; shard_bytes_uploaded = m.shard_bytes_uploaded; total_bytes_uploaded = m.total_bytes_uploaded }
          rest m k e w =
              let f = w ∙ ap (λ (c : DeduplicationMetrics). end_counts c k) e in
              f ∙ sym (ap (λ (c : DeduplicationMetrics). record b.metrics { xorb_bytes_uploaded = c.xorb_bytes_uploaded; shard_bytes_uploaded = c.shard_bytes_uploaded; total_bytes_uploaded = c.total_bytes_uploaded }) f)

-- what the end reads and changes of a session
abbrev pub end_of : SessionTold → EndTold
end_of t = record { uploader = t.uploader; shards = t.shards; metrics = t.metrics; failed = t.failed }

-- a session of which the end changed this much
abbrev with_end : SessionTold → EndTold → SessionTold
with_end t e = record t { uploader = e.uploader; shards = e.shards; metrics = e.metrics; failed = e.failed }

-- the end behind the cut, by the answer of both
module _ (b m n : SessionTold) (now : ℕ) (first : b.finalized ≡ false) (is : n ≡ with_end m (end_of n)) (answer : Result DeduplicationMetrics DataError) where
  abbrev Ends : SessionTold → Result DeduplicationMetrics DataError → Type 0
  Ends z r = Finalizes b z now r × IfOk r (Counted b z)

  -- the same of these
  ends-at : (z : SessionTold) (r : Result DeduplicationMetrics DataError) → n ≡ z → answer ≡ r → Ends z r → Ends n answer
  ends-at z r e said h = subst (λ (s : SessionTold). Ends s answer) (sym e) (subst (λ (t : Result DeduplicationMetrics DataError). Ends z t) (sym said) h)

  -- the cut failed
  behind-uncut : (e : DataError) → Cut (as_finalized b) m now (Err e) → end_of n ≡ end_of m → answer ≡ Err e → Ends n answer
  behind-uncut e cut same said = ends-at m (Err e) (is ∙ ap (with_end m) same) said (finalizes-cut b m now first e cut, tt)

  module _ (u : Unit {0}) (cut : Cut (as_finalized b) m now (Ok u)) where
    -- the records of the files were refused
    behind-unadded : EndsUnadded (end_of m) (end_of n) m.finished answer → Ends n answer
    behind-unadded (e, said, same, adds) =
        let z : SessionTold = record m { shards = n.shards } in
        ends-at z (Err e) (is ∙ ap (with_end m) same) said (finalizes-added b m now first z u cut e (added m n.shards (Err e) adds), tt)

    -- they were added, and all records were put, or a put failed
    module _ (i : InterfaceTold) (adds : AddsRecords m.shards i (finished_records m) (Ok tt)) where
      abbrev second : SessionTold
      second = record m { shards = i }

      abbrev third : SessionTold
      third = record m { uploader = n.uploader; shards = n.shards; failed = n.failed }

      behind-put : (put : Result ℕ DataError) → Uploads m.uploader n.uploader i n.shards m.failed n.failed put → CountsBehind put (end_of m) (end_of n) answer → Ends n answer
      behind-put (Ok bytes) up (counts, said) =
          let p : PutRecords second third (Ok bytes) = record { same = refl; uploads = up } in
          let whole : n ≡ record third { metrics = end_counts m.metrics bytes } = is ∙ ap (λ (c : DeduplicationMetrics). record third { metrics = c }) counts in
          ends-at n (Ok n.metrics) refl said (finalizes-put b m now first second u cut tt (added m i (Ok tt) adds) third n bytes p whole n.metrics refl)
      behind-put (Err e) up (counts, said) =
          let p : PutRecords second third (Err e) = record { same = refl; uploads = up } in
          let whole : n ≡ third = is ∙ ap (λ (c : DeduplicationMetrics). record third { metrics = c }) counts in
          ends-at third (Err e) whole said (finalizes-unput b m now first second u cut tt (added m i (Ok tt) adds) third e p, tt)

    behind-cut : EndsUnadded (end_of m) (end_of n) m.finished answer ⊎ EndsAdded (end_of m) (end_of n) m.finished answer → Ends n answer
    behind-cut (inl h) = behind-unadded h
    behind-cut (inr h) = behind-put h.added h.adds h.put h.uploads h.counts

pub finalizes-behind : (b m n : SessionTold) (now : ℕ) (cut : Result (Unit {0}) DataError) (answer : Result DeduplicationMetrics DataError) → b.finalized ≡ false → n ≡ with_end m (end_of n) → Cut (as_finalized b) m now cut → EndsBehind (end_of m) (end_of n) m.finished cut answer
    → Finalizes b n now answer × IfOk answer (Counted b n)
finalizes-behind b m n now (Ok u) answer first is cut h = behind-cut b m n now first is answer u cut h.so
finalizes-behind b m n now (Err e) answer first is cut h = behind-uncut b m n now first is answer e cut h.uncut.0 h.uncut.1

-- the same error, of an answer of another kind
pub retold : {A B : Type 0} (b n : SessionTold) (now : ℕ) (e : DataError) → Finalizes {A = A} b n now (Err e) → Finalizes {A = B} b n now (Err e)
retold {A = A} {B = B} b n now e k = record {
  ends = λ f. go (k.ends f);
  tells = k.tells;
  ordered = k.ordered;
  finalized = k.finalized;
  unfailed = tt;
  finished = tt;
  recorded = λ t. tt;
  put = λ t d. tt;
  grew = k.grew;
  repeated = k.repeated;
  dry = k.dry;
  quiet = k.quiet;
  queries = k.queries;
  failed = k.failed;
  steady = k.steady;
  stores = k.stores;
  again = λ f. let h = (k.again f).0 in let d : e ≡ finalized_error = cc in (ap (λ (x : DataError). Err x) d, (k.again f).1);
  said = λ f. says-err n e (k.said f);
  refused = λ f g q. let h = k.refused f g q in let d : e ≡ of_client_error g = cc in ap (λ (x : DataError). Err x) d;
  why = k.why;
}
  where
    go : EndsUncut {A = A} b n now (Err e) ⊎ EndsSo {A = A} b n now (Err e) → EndsUncut {A = B} b n now (Err e) ⊎ EndsSo {A = B} b n now (Err e)
    go (inl (d, is, c)) = inl (d, ap (λ (x : DataError). Err x) (let h : Err e ≡ Err d = is in cc), c)
    go (inr (m, c, s)) = inr (m, c, record { same = s.same; stores = s.stores; all = tt; some = s.some; recorded = tt; records = s.records; dry = s.dry; resumed = s.resumed; forgot = λ d. tt })

-- the same end, of an answer of another kind
pub retold-ok : {A B : Type 0} (b n : SessionTold) (now : ℕ) (x : A) (y : B) → Finalizes b n now (Ok x) → Finalizes b n now (Ok y)
retold-ok {A = A} {B = B} b n now x y k = record {
  ends = λ f. go (k.ends f);
  tells = k.tells;
  ordered = k.ordered;
  finalized = k.finalized;
  unfailed = k.unfailed;
  finished = k.finished;
  recorded = k.recorded;
  put = k.put;
  grew = k.grew;
  repeated = k.repeated;
  dry = k.dry;
  quiet = k.quiet;
  queries = k.queries;
  failed = k.failed;
  steady = k.steady;
  stores = k.stores;
  again = λ f. let e = (k.again f).0 in absurd cc;
  said = λ f. says-none n (Ok y) k.unfailed;
  refused = λ f g q. let e = k.refused f g q in absurd cc;
  why = tt;
}
  where
    go : EndsUncut b n now (Ok x) ⊎ EndsSo b n now (Ok x) → EndsUncut b n now (Ok y) ⊎ EndsSo b n now (Ok y)
    go (inl (d, is, c)) = absurd (let h : Ok x ≡ Err d = is in cc)
    go (inr (m, c, s)) = inr (m, c, record { same = s.same; stores = s.stores; all = s.all; some = s.some; recorded = s.recorded; records = s.records; dry = s.dry; resumed = s.resumed; forgot = s.forgot })

-- ---- the file records after the end

module _ (b m n : SessionTold) (now : ℕ) (x : DeduplicationMetrics) (k : Finalizes b m now (Ok x)) (same : n ≡ record m { shards = n.shards }) (answer : Result (List MDBFileInfo) DataError) (l : ListsFiles m.shards n.shards answer) where
  log-listed : log_of n ≡ log_of m
  log-listed = ap log_of same

  rules-listed : n.shards.rules ≡ m.shards.rules
  rules-listed = ap (λ (i : InterfaceTold). i.rules) l.same

  records-listed : records_of n.shards.session ≡ records_of m.shards.session
  records-listed = ap (λ (o : Option ShardRecord). unwrap_or o no_records) l.records

  cache-listed : n.shards.cache.records ≡ m.shards.cache.records
  cache-listed = ap (λ (i : InterfaceTold). i.cache.records) l.same

  resumed-listed : ResumedKept b.shards m.shards → ResumedKept b.shards n.shards
  resumed-listed r =
      let P : Option (Option ShardRecord) → Type 0 = λ o. (o ≡ resumed_records b.shards.resumed) ⊎ (o ≡ forgotten (resumed_records b.shards.resumed)) in
      subst P (sym (ap (λ (i : InterfaceTold). resumed_records i.resumed) l.same)) r

  stores-listed : LaterFaults m.shards n.shards
  stores-listed =
      let P : InterfaceTold → Type 0 = λ i. LaterFaults m.shards i in
      subst P (sym l.same) (record { resumed = omega arith; session = l.faults; cache = omega arith; staging = omega arith })

  told-listed : Tells m → Tells n
  told-listed t =
      let I : InterfaceTold → Type 0 = λ i. StoresTell i in
      record {
        puts = subst (λ (z : SessionTold). IsSome z.uploader.puts) (sym same) t.puts;
        shards = subst I (sym l.same) (record { resumed = t.shards.resumed; session = subst (λ (o : Option ShardRecord). IsSome o) (sym l.records) t.shards.session; cache = t.shards.cache; staging = t.shards.staging });
      }

  grew-listed : GrewByXorbs b m → GrewByXorbs b n
  grew-listed g = record { xorbs = g.xorbs; grown = log-listed ∙ g.grown; sent = λ few. ap (λ (z : SessionTold). z.metrics.xorb_bytes_uploaded) same ∙ g.sent few }

  failed-listed : KeepsFailed b n
  failed-listed =
      let P : UploaderTold → Type 0 = λ v. (b.failed ≡ Some client_error.Failed) ⊎ Rose b.uploader.faults v.faults in
      let u = ap (λ (z : SessionTold). z.uploader) same in
      let f = ap (λ (z : SessionTold). z.failed) same in
      record {
        stays = λ q. f ∙ k.failed.stays q;
        met = λ q. subst P (sym u) (k.failed.met (sym f ∙ q));
        faults = subst (λ (v : UploaderTold). b.uploader.faults ≤ v.faults) (sym u) k.failed.faults;
      }

  shards-listed : shards_of m.shards ≡ shards_of n.shards
  shards-listed =
      ap (λ (r : ShardRules). shards_in r.shard_max_target_size (records_of m.shards.session)) (sym rules-listed)
      ∙ ap (shards_in n.shards.rules.shard_max_target_size) (sym records-listed)

  -- the end came, since it was answered
  ends-listed : {A : Type 0} (said : Result A DataError) → EndsUncut b m now (Ok x) ⊎ EndsSo b m now (Ok x) → EndsSo b n now said
  ends-listed said (inl (d, is, c)) = absurd (let h : Ok x ≡ Err d = is in cc)
  ends-listed {A = A} said (inr (c, cut, s)) = (
    c,
    cut,
    record {
      same = whole ∙ ap (λ (z : SessionTold). record c { uploader = z.uploader; shards = z.shards; metrics = z.metrics; failed = z.failed }) (sym whole);
      stores = stores ∙ ap (λ (i : InterfaceTold). record c.shards { resumed = i.resumed; session = i.session; cache = i.cache }) (sym stores);
      all = on_ok said all;
      some = λ t. some (s.some t);
      recorded = on_ok said (l.records ∙ s.recorded);
      records = inr (l.records ∙ s.recorded);
      dry = λ d. ap known_told l.same ∙ s.dry d;
      resumed = resumed s.resumed;
      forgot = λ d. on_ok said (subst (λ (o : Option ShardsTold). Forgot c.shards.resumed o) (sym (ap (λ (i : InterfaceTold). i.resumed) l.same)) (s.forgot d));
    },
  )
    where
      on_ok : {P : Type 0} (r : Result A DataError) → P → OnOk r P
      on_ok (Ok y) p = p
      on_ok (Err e) p = tt

      whole : n ≡ record c { uploader = m.uploader; shards = n.shards; metrics = m.metrics; failed = m.failed }
      whole = same ∙ ap (λ (z : SessionTold). record z { shards = n.shards }) s.same

      stores : n.shards ≡ record c.shards { resumed = m.shards.resumed; session = n.shards.session; cache = m.shards.cache }
      stores = l.same ∙ ap (λ (i : InterfaceTold). record i { session = n.shards.session }) s.stores

      some : SomePut c m → SomePut c n
      some h = record {
        count = h.count;
        kept = h.kept;
        log = log-listed ∙ h.log ∙ ap (λ (ss : List ShardRecord). log_of c ++ map put.Shard (take h.count ss)) shards-listed;
        cached = cache-listed ∙ h.cached ∙ ap (λ (ss : List ShardRecord). all_with_shards c.shards.cache.records (take h.kept ss)) shards-listed;
        fewer = h.fewer;
        close = h.close;
        unput =
            subst (λ (ss : List ShardRecord). StopsAtFailure c.failed n.failed h.count h.kept ss) shards-listed
            (subst (λ (o : Option ClientError). StopsAtFailure c.failed o h.count h.kept (shards_of m.shards)) (sym (ap (λ (z : SessionTold). z.failed) same)) h.unput);
      }

      all : AllPut c n
      all t d =
          let h = s.all t d in (
            log-listed ∙ h.0 ∙ ap (λ (ss : List ShardRecord). log_of c ++ map put.Shard ss) shards-listed,
            cache-listed ∙ h.1 ∙ ap (all_with_shards c.shards.cache.records) shards-listed,
          )

      resumed : (resumed_records m.shards.resumed ≡ resumed_records c.shards.resumed) ⊎ ((resumed_records m.shards.resumed ≡ forgotten (resumed_records c.shards.resumed)) × AllPut c m)
          → (resumed_records n.shards.resumed ≡ resumed_records c.shards.resumed) ⊎ ((resumed_records n.shards.resumed ≡ forgotten (resumed_records c.shards.resumed)) × AllPut c n)
      resumed (inl e) = inl (ap (λ (i : InterfaceTold). resumed_records i.resumed) l.same ∙ e)
      resumed (inr e) = inr (ap (λ (i : InterfaceTold). resumed_records i.resumed) l.same ∙ e.0, all)

  ended : {A : Type 0} (said : Result A DataError) → OnOk said (n.failed ≡ None) → OnOk said (n.finished ≡ b.finished ++ waiting_records b)
      → (Tells b → OnOk said ((records_of n.shards.session).files ≡ (records_of b.shards.session).files ++ n.finished))
      → (Tells b → b.shards.rules.dry_run ≡ false → OnOk said ((f : MDBFileInfo) → Contains n.finished f → IsPut (log_of n) f))
      → IfErr said (λ e. ((e ≡ finalized_error) × (b.finalized ≡ true)) ⊎ PutsFail b n e)
      → (b.finalized ≡ true → ⊥) → ((e : ClientError) → b.failed ≡ Some e → ⊥) → Finalizes b n now said
  ended said unfailed finished recorded put why never kept =
      let P : List Put → Type 0 = λ ps. IsOrdered ps (length (log_of b)) (known_of b) in
      record {
        ends = λ f. inr (ends-listed said (k.ends f));
        tells = λ t. told-listed (k.tells t);
        ordered = λ t s i. subst P (sym log-listed) (k.ordered t s i);
        finalized = ap (λ (z : SessionTold). z.finalized) same ∙ k.finalized;
        unfailed = unfailed;
        finished = finished;
        recorded = recorded;
        put = put;
        grew = λ t. let g = k.grew t in record { xorbs = g.xorbs; shards = g.shards; grown = log-listed ∙ g.grown; kept = g.kept; cached = cache-listed ∙ g.cached; resumed = resumed-listed g.resumed; sent = λ few. ap (λ (z : SessionTold). z.metrics.xorb_bytes_uploaded) same ∙ g.sent few };
        repeated = (k.repeated.0, ap (λ (z : SessionTold). z.repeated) same ∙ k.repeated.1);
        dry = λ t d. grew-listed (k.dry t d);
        quiet = λ f. log-listed ∙ k.quiet f;
        queries = record { first = ap (λ (z : SessionTold). z.uploader.first) same ∙ k.queries.first; asked = ap (λ (z : SessionTold). z.uploader.asked) same ∙ k.queries.asked; answered = ap (λ (z : SessionTold). z.uploader.answered) same ∙ k.queries.answered };
        said = λ f. says-none n said (ap (λ (z : SessionTold). z.failed) same ∙ k.unfailed);
        failed = failed-listed;
        steady = λ q. ap (λ (z : SessionTold). z.uploader.faults) same ∙ k.steady (subst (λ (o : Option ClientError). (o ≡ b.failed) ⊎ (o ≡ Some client_error.OutOfMemory)) (ap (λ (z : SessionTold). z.failed) same) q);
        stores = later-both b.shards m.shards n.shards k.stores stores-listed;
        again = λ f. absurd (never f);
        refused = λ f e q. absurd (kept e q);
        why = why;
      }

  once : b.finalized ≡ true → ⊥
  once f = let e = (k.again f).0 in absurd cc

  unkept : (e : ClientError) → b.failed ≡ Some e → ⊥
  unkept e q =
      let none : m.failed ≡ None = k.unfailed in
      let stays = k.failed.stays (ap (λ (o : Option ClientError). is_some o) q) in
      false≢true (ap (λ (o : Option ClientError). is_some o) (sym none ∙ stays ∙ q))

  finished-listed : n.finished ≡ m.finished
  finished-listed = ap (λ (z : SessionTold). z.finished) same

  pub listed-ok : (fs : List MDBFileInfo) → answer ≡ Ok fs → Finalizes {A = DeduplicationMetrics × List MDBFileInfo} b n now (Ok (x, fs))
  listed-ok fs is =
      let D : List Put → Type 0 = λ ps. (f : MDBFileInfo) → Contains n.finished f → IsPut ps f in
      let F : List MDBFileInfo → Type 0 = λ gs. (f : MDBFileInfo) → Contains gs f → IsPut (log_of m) f in
      let said : Result (DeduplicationMetrics × List MDBFileInfo) DataError = Ok (x, fs) in
      ended said (ap (λ (z : SessionTold). z.failed) same ∙ k.unfailed) (finished-listed ∙ k.finished)
      (λ t. ap (λ (r : ShardRecord). r.files) records-listed ∙ k.recorded t ∙ ap (λ (gs : List MDBFileInfo). (records_of b.shards.session).files ++ gs) (sym finished-listed))
      (λ t d. subst D (sym log-listed) (subst F (sym finished-listed) (k.put t d)))
      tt once unkept

  pub listed-err : {A : Type 0} (e : DataError) → answer ≡ Err e → Finalizes {A = A} b n now (Err e)
  listed-err e is =
      let why : StoreFails m.shards.session.faults n.shards.session.faults e = subst (λ (r : Result (List MDBFileInfo) DataError). IfErr r (StoreFails m.shards.session.faults n.shards.session.faults)) is l.why in
      ended (Err e) tt tt (λ t. tt) (λ t d. tt) (inr (inl (stores-later b.shards m.shards n.shards e k.stores (inr (inl why))))) once unkept

  pub listed-counted : Counted b m x → Counted b n x
  listed-counted c =
      record {
        counts = c.counts ∙ sym (ap (λ (z : SessionTold). z.metrics) same);
        same = c.same;
        shards = λ t. c.shards t ∙ ap (λ (ss : List ShardRecord). end_counts x (sizes ss)) shards-listed;
      }

  pub listed-files : (fs : List MDBFileInfo) → answer ≡ Ok fs → HasFiles b n fs
  listed-files fs is t =
      let of : IfSome m.shards.session.records (λ r. fs ≡ r.files) = subst (λ (a : Result (List MDBFileInfo) DataError). IfSome m.shards.session.records (λ r. IfOk a (λ gs. gs ≡ r.files))) is l.files in
      some m.shards.session.records (k.tells t).shards.session of ∙ ap (λ (r : ShardRecord). r.files) (sym records-listed)
    where
      some : (o : Option ShardRecord) → IsSome o → IfSome o (λ r. fs ≡ r.files) → fs ≡ (unwrap_or o no_records).files
      some (Some r) s e = e
      some None s e = absurd (false≢true s)

-- ---- backed sessions

case : (o : Option ClientError) → (is_some o ≡ true) ⊎ (o ≡ None)
case (Some e) = inl refl
case None = inr refl

case-bool : (x : Bool) → (x ≡ true) ⊎ (x ≡ false)
case-bool true = inl refl
case-bool false = inr refl

-- a call that puts xorbs alone
pub backs-kept : (b n : SessionTold) → HasListed b → Keeps b n → (IsListed b → n.failed ≡ None → IsListed n) → IsStorable n.waiting.chunks → Backs b n
backs-kept b n h k keep w = record {
  listed = record { all = λ f g. keep (h.all (sound f (case b.failed)) (sym k.finalized ∙ g)) f; waits = w };
  backed = λ t s f g. k.stands t (s (sound f (case b.failed)) (sym k.finalized ∙ g));
  ordered = λ t s. ordered-grown b n (known_of b) (k.grew t);
}
  where
    -- no put had failed, since none has now
    sound : n.failed ≡ None → (is_some b.failed ≡ true) ⊎ (b.failed ≡ None) → b.failed ≡ None
    sound f (inr e) = e
    sound f (inl e) = absurd (false≢true (ap (λ (o : Option ClientError). is_some o) (sym f ∙ k.failed.stays e) ∙ e))

-- the same waits
pub waits-same : (b n : SessionTold) → HasListed b → n.waiting ≡ b.waiting → IsStorable n.waiting.chunks
waits-same b n h e = subst (λ (w : Waiting). IsStorable w.chunks) (sym e) h.waits

-- a call that changed nothing
pub backs-same : (b n : SessionTold) → n ≡ b → HasListed b → Backs b n
backs-same b n e h = backs-kept b n h (keeps-refl b n e) (λ l f. subst (λ (t : SessionTold). IsListed t) (sym e) l) (waits-same b n h (ap (λ (t : SessionTold). t.waiting) e))

-- the end of a session
pub backs-finalized : {A : Type 0} (b n : SessionTold) (now : ℕ) (answer : Result A DataError) → HasListed b → Finalizes b n now answer → IsStorable n.waiting.chunks → Backs b n
backs-finalized b n now answer l k w = record {
  listed = record { all = λ f g. absurd (false≢true (sym g ∙ k.finalized)); waits = w };
  backed = λ t s f g. absurd (false≢true (sym g ∙ k.finalized));
  ordered = λ t s. go (case b.failed) (case-bool b.finalized) t l s;
}
  where
    P : List Put → Type 0
    P ps = IsOrdered ps (length (log_of b)) (known_of b)

    go : (is_some b.failed ≡ true) ⊎ (b.failed ≡ None) → (b.finalized ≡ true) ⊎ (b.finalized ≡ false) → Tells b → HasListed b → IsBackedSession b → IsOrdered (log_of n) (length (log_of b)) (known_of b)
    go (inl e) g t l s = subst P (sym (k.quiet e)) (ordered-none (log_of b) (known_of b))
    go (inr e) (inl g) t l s = subst P (sym (ap log_of (k.again g).1)) (ordered-none (log_of b) (known_of b))
    go (inr e) (inr g) t l s = k.ordered t (s e g) (l.all e g)

-- a new session over a store without records is backed
pub new-backed : (t : SessionTold) → t.listed ≡ [] → records_of t.shards.session ≡ no_records → IsBackedSession t
new-backed t l r p q =
    let L : List MerkleHash → Type 0 = λ hs. All (IsThere (log_of t) (known_of t)) hs in
    let X : ShardRecord → Type 0 = λ s. All (λ (x : MDBXorbInfo). IsThere (log_of t) (known_of t) x.hash) s.xorbs in
    let F : ShardRecord → Type 0 = λ s. All (IsThere (log_of t) (known_of t)) (names_of s.files) in
    record {
      on_list = subst L (sym l) (All-nil (IsThere (log_of t) (known_of t)));
      described = subst X (sym r) (All-nil (λ (x : MDBXorbInfo). IsThere (log_of t) (known_of t) x.hash));
      named = subst F (sym r) (All-nil (IsThere (log_of t) (known_of t)));
    }

-- the session that a call made is backed, if its store has no records
pub made-backed : {A E : Type 0} (told : A → SessionTold) (u : UploaderTold) (i j : InterfaceTold) (q : Bool) (c : CutThresholds) (r : Result A E) → i ≡ j → IfOk r (λ s. told s ≡ new_session u i q c) → IfOk r (λ s. records_of j.session ≡ no_records → IsBackedSession (told s))
made-backed told u i j q c (Ok s) same e =
    let P : SessionTold → Type 0 = λ t. IsBackedSession t in
    λ none. subst P (sym e) (new-backed (new_session u i q c) refl (ap (λ (k : InterfaceTold). records_of k.session) same ∙ none))
made-backed told u i j q c (Err x) same e = tt

-- a new session
pub new-listed : (t : SessionTold) → t.finished ≡ [] → t.waiting ≡ no_waiting → t.registered ≡ [] → HasListed t
new-listed t f w r =
    let A : List MDBFileInfo → Type 0 = λ fs. All (Contains t.listed) (names_of fs) in
    let W : Waiting → Type 0 = λ v. All (Contains t.listed) (waiting_names v.files) in
    let R : List MerkleHash → Type 0 = λ hs. All (Contains t.listed) hs in
    record {
      all = λ p q. record { finished = subst A (sym f) (All-nil (Contains t.listed)); waiting = subst W (sym w) (All-nil (Contains t.listed)); put = subst R (sym r) (All-nil (Contains t.listed)) };
      waits = subst (λ (v : Waiting). IsStorable v.chunks) (sym w) (tested-storable [] waits-empty);
    }
