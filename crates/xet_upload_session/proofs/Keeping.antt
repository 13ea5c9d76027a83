-- What the steps of a session keep.
use Rattle.std.proofs.Common.{◌≡◌, ◌-◌, ◌^◌, ◌<◌, ◌≤◌, ◌⊎◌, inl, inr, min, true, List, [], ◌∷◌, ◌++◌, map, refl, sym, ◌∙◌, ap, subst, arith}
use Rattle.std.specs.Prelude.{All, Contains, Option, Some, None, IsSome, is_some, option_map, unwrap_or, Result, Ok, Err}
use Rattle.std.proofs.lemmas.Bool.{false≢true}
use Rattle.std.proofs.lemmas.List.{append-nil, append_assoc, map-append}
use Rattle.std.proofs.lemmas.List.Sums.{sum_by-append}
use Rattle.std.proofs.lemmas.List.Elements.{All-nil, All-cons, All-append, All-same, All-contains}
use Rattle.xet_base.specs.declared.merklehash.MerkleHash.{MerkleHash}
use Rattle.xet_base.specs.declared.mdb_shard.Xorb.{Xorb}
use Rattle.xet_base.specs.declared.mdb_shard.MDBFileInfo.{MDBFileInfo}
use Rattle.xet_base.specs.declared.mdb_shard.MDBXorbInfo.{MDBXorbInfo}
use Rattle.xet_base.specs.declared.mdb_shard.ShardRecord.{ShardRecord}
use Rattle.xet_base.specs.Records.{Describes}
use Rattle.xet_outside.specs.declared.client.ClientError.{ClientError}
use Rattle.xet_outside.specs.declared.client.ClientError.TheVariants as client_error
use Rattle.xet_outside.specs.Told.{Rose}
use Rattle.xet_uploader.specs.declared.uploader.Put.{Put}
use Rattle.xet_uploader.specs.declared.uploader.Put.TheVariants as put
use Rattle.xet_uploader.specs.Uploads.{UploaderTold, xorbs_in}
use Rattle.xet_shards.specs.Shards.{no_records, with_records}
use Rattle.xet_session_end.specs.Puts.{KeepsRefusal}
use Rattle.xet_shard_interface.specs.Interfaces.{InterfaceTold, LaterFaults, StoresTell, known_told, known_xorbs, records_of, resumed_faults}
use Rattle.xet_shard_interface.specs.Puts.{PutFailed, puts_of}
use Rattle.xet_shard_interface.proofs.CallerLemmas.{store-later}
use Rattle.xet_upload.specs.Orders.{IsBacked, IsThere, names_of}
use Rattle.xet_upload.specs.declared.data_error.DataError.{DataError}
use Rattle.xet_upload.specs.declared.metrics.DeduplicationMetrics.{DeduplicationMetrics}
use Rattle.xet_upload.proofs.CallerLemmas.{backed-more, put-there}
use Rattle.xet_upload_session.specs.Calls.{FaultsStay, GrewByXorbs, Keeps, KeepsFailed, NoQueries, PutsFail, RepeatsGrow, StoresFail, one_xorb, xorb_bytes}
use Rattle.xet_upload_session.specs.Sessions.{SessionTold, Stands, Tells, known_of, log_of}
use Rattle.xet_upload_session.specs.steps.SessionSteps.{MaybeAdded, PutRaw, with_sent}
use Rattle.xet_upload_session.proofs.Recording.{IsRecorded}
use Rattle.xet_upload_session.proofs.Sounding.{agree-before, searched-same, sound-added, sound-grown, sound-same}

-- ---- failures

-- what rose later rose
pub stores-later : (a b c : InterfaceTold) (e : DataError) → LaterFaults a b → StoresFail b c e → StoresFail a c e
stores-later a b c e h (inl q) = inl (store-later (resumed_faults a.resumed) (resumed_faults b.resumed) (resumed_faults c.resumed) e h.resumed q)
stores-later a b c e h (inr (inl q)) = inr (inl (store-later a.session.faults b.session.faults c.session.faults e h.session q))
stores-later a b c e h (inr (inr (inl q))) = inr (inr (inl (store-later a.cache.faults b.cache.faults c.cache.faults e h.cache q)))
stores-later a b c e h (inr (inr (inr q))) = inr (inr (inr (store-later a.staging.faults b.staging.faults c.staging.faults e h.staging q)))

pub later-both : (a b c : InterfaceTold) → LaterFaults a b → LaterFaults b c → LaterFaults a c
later-both a b c h k = record {
  resumed = omega (arith, h.resumed, k.resumed);
  session = omega (arith, h.session, k.session);
  cache = omega (arith, h.cache, k.cache);
  staging = omega (arith, h.staging, k.staging);
}

pub later-same : (a b : InterfaceTold) → b ≡ a → LaterFaults a b
later-same a b e =
    let P : InterfaceTold → Type 0 = λ i. LaterFaults a i in
    subst P (sym e) (record { resumed = omega arith; session = omega arith; cache = omega arith; staging = omega arith })

pub failed-both : (b m n : SessionTold) → KeepsFailed b m → KeepsFailed m n → KeepsFailed b n
failed-both b m n h k = record {
  stays = λ f. let e = h.stays f in k.stays (ap (λ (o : Option ClientError). is_some o) e ∙ f) ∙ e;
  met = λ q. go (k.met q);
  faults = omega (arith, h.faults, k.faults);
}
  where
    before : (m.failed ≡ Some client_error.Failed) → (b.failed ≡ Some client_error.Failed) ⊎ Rose b.uploader.faults n.uploader.faults
    before q = last (h.met q)
      where
        last : (b.failed ≡ Some client_error.Failed) ⊎ Rose b.uploader.faults m.uploader.faults → (b.failed ≡ Some client_error.Failed) ⊎ Rose b.uploader.faults n.uploader.faults
        last (inl p) = inl p
        last (inr r) = inr (omega (arith, r, k.faults))

    go : (m.failed ≡ Some client_error.Failed) ⊎ Rose m.uploader.faults n.uploader.faults → (b.failed ≡ Some client_error.Failed) ⊎ Rose b.uploader.faults n.uploader.faults
    go (inl q) = before q
    go (inr r) = inr (omega (arith, r, h.faults))

pub failed-same : (b n : SessionTold) → n.failed ≡ b.failed → n.uploader ≡ b.uploader → KeepsFailed b n
failed-same b n e u = record {
  stays = λ f. e;
  met = λ q. inl (sym e ∙ q);
  faults = subst (λ (v : UploaderTold). b.uploader.faults ≤ v.faults) (sym u) (omega arith);
}

pub steady-same : (b n : SessionTold) → n.uploader ≡ b.uploader → FaultsStay b n
steady-same b n u q = ap (λ (v : UploaderTold). v.faults) u

-- faults that stay in two calls stay in both
steady-both : (b m n : SessionTold) → KeepsFailed b m → KeepsFailed m n → FaultsStay b m → FaultsStay m n → FaultsStay b n
steady-both b m n h k x y q = go m.failed refl
  where
    some-at : (t : SessionTold) (f : ClientError) → t.failed ≡ Some f → is_some t.failed ≡ true
    some-at t f e = ap (λ (z : Option ClientError). is_some z) e

    before : (o : Option ClientError) → b.failed ≡ o → m.failed ≡ None → m.failed ≡ b.failed
    before None e none = none ∙ sym e
    before (Some f) e none = h.stays (some-at b f e)

    go : (o : Option ClientError) → m.failed ≡ o → n.uploader.faults ≡ b.uploader.faults
    go None none =
        let same = before b.failed refl none in
        y (or-memory same q) ∙ x (inl same)
      where
        or-memory : m.failed ≡ b.failed → (n.failed ≡ b.failed) ⊎ (n.failed ≡ Some client_error.OutOfMemory) → (n.failed ≡ m.failed) ⊎ (n.failed ≡ Some client_error.OutOfMemory)
        or-memory same (inl e) = inl (e ∙ sym same)
        or-memory same (inr e) = inr e
    go (Some f) e =
        let same = k.stays (some-at m f e) in
        y (inl same) ∙ x (at same q)
      where
        at : n.failed ≡ m.failed → (n.failed ≡ b.failed) ⊎ (n.failed ≡ Some client_error.OutOfMemory) → (m.failed ≡ b.failed) ⊎ (m.failed ≡ Some client_error.OutOfMemory)
        at same (inl g) = inl (sym same ∙ g)
        at same (inr g) = inr (sym same ∙ g)

pub queries-same : (b n : SessionTold) → n.uploader ≡ b.uploader → NoQueries b n
queries-same b n u = record { first = ap (λ (v : UploaderTold). v.first) u; asked = ap (λ (v : UploaderTold). v.asked) u; answered = ap (λ (v : UploaderTold). v.answered) u }

-- ---- the log and the list

pub stands-at : (t : SessionTold) (log : List Put) (known listed : List MerkleHash) (r : ShardRecord) → log_of t ≡ log → known_of t ≡ known → t.listed ≡ listed → records_of t.shards.session ≡ r
    → IsBacked log known listed r → Stands t
stands-at t log known listed r a b c d h =
    subst (λ (z : List Put). IsBacked z (known_of t) t.listed (records_of t.shards.session)) (sym a)
    (subst (λ (z : List MerkleHash). IsBacked log z t.listed (records_of t.shards.session)) (sym b)
    (subst (λ (z : List MerkleHash). IsBacked log known z (records_of t.shards.session)) (sym c)
    (subst (λ (z : ShardRecord). IsBacked log known listed z) (sym d) h)))

backed-grown : (log more : List Put) (known listed extra : List MerkleHash) (r s : ShardRecord) (news : List MDBXorbInfo) → s.xorbs ≡ r.xorbs ++ news → s.files ≡ r.files
    → All (IsThere (log ++ more) known) extra → All (λ (x : MDBXorbInfo). IsThere (log ++ more) known x.hash) news → IsBacked log known listed r → IsBacked (log ++ more) known (listed ++ extra) s
backed-grown log more known listed extra r s news ex ef e n k =
    let h = backed-more log more known listed r k in
    let P : MDBXorbInfo → Type 0 = λ x. IsThere (log ++ more) known x.hash in
    let Q : List MDBFileInfo → Type 0 = λ fs. All (IsThere (log ++ more) known) (names_of fs) in
    record {
      on_list = All-append (IsThere (log ++ more) known) listed extra h.on_list e;
      described = All-same P s.xorbs (r.xorbs ++ news) ex (All-append P r.xorbs news h.described n);
      named = subst Q (sym ef) h.named;
    }

pub none-put : (b n : SessionTold) → n.uploader ≡ b.uploader → n.metrics.xorb_bytes_uploaded ≡ b.metrics.xorb_bytes_uploaded → GrewByXorbs b n
none-put b n u m = record {
  xorbs = [];
  grown = ap puts_of u ∙ sym (append-nil (log_of b));
  sent = λ few. m ∙ omega (arith, few);
}

-- no xorb more was left out as a repeated one
pub repeats-same : (b n : SessionTold) → n.repeated ≡ b.repeated → RepeatsGrow b n
repeats-same b n e = ([], e ∙ sym (append-nil b.repeated))

pub repeats-both : (b m n : SessionTold) → RepeatsGrow b m → RepeatsGrow m n → RepeatsGrow b n
repeats-both b m n h k = (h.0 ++ k.0, k.1 ∙ ap (λ (xs : List Xorb). xs ++ k.0) h.1 ∙ append_assoc b.repeated h.0 k.0)

-- nothing but the files, what waits, the repeated xorbs, and counts of chunks changed
pub keeps-counted : (b n : SessionTold) → n.uploader ≡ b.uploader → n.shards ≡ b.shards → n.listed ≡ b.listed → n.metrics.xorb_bytes_uploaded ≡ b.metrics.xorb_bytes_uploaded → n.failed ≡ b.failed → n.finalized ≡ b.finalized → RepeatsGrow b n → Keeps b n
keeps-counted b n u i l m f z r = record {
  tells = λ t. record { puts = subst (λ (v : UploaderTold). IsSome v.puts) (sym u) t.puts; shards = subst (λ (j : InterfaceTold). StoresTell j) (sym i) t.shards };
  grew = λ t. none-put b n u m;
  repeated = r;
  stands = λ t s. stands-at n (log_of b) (known_of b) b.listed (records_of b.shards.session) (ap puts_of u) (ap (λ (j : InterfaceTold). map (λ (r : MDBXorbInfo). r.hash) (known_xorbs (known_told j))) i) l (ap (λ (j : InterfaceTold). records_of j.session) i) s;
  sound = λ k t a s. sound-same k b n (ap puts_of u) (searched-same b n i) s;
  known = ap known_told i;
  rules = ap (λ (j : InterfaceTold). j.rules) i;
  files = ap (λ (j : InterfaceTold). (records_of j.session).files) i;
  quiet = λ q. ap puts_of u;
  queries = queries-same b n u;
  failed = failed-same b n f u;
  steady = steady-same b n u;
  stores = later-same b.shards n.shards i;
  finalized = z;
}

-- nothing but the files, what waits and the repeated xorbs changed
pub keeps-still : (b n : SessionTold) → n.uploader ≡ b.uploader → n.shards ≡ b.shards → n.listed ≡ b.listed → n.metrics ≡ b.metrics → n.failed ≡ b.failed → n.finalized ≡ b.finalized → RepeatsGrow b n → Keeps b n
keeps-still b n u i l m f z r = keeps-counted b n u i l (ap (λ (c : DeduplicationMetrics). c.xorb_bytes_uploaded) m) f z r

pub keeps-refl : (b n : SessionTold) → n ≡ b → Keeps b n
keeps-refl b n e =
    keeps-still b n (ap (λ (t : SessionTold). t.uploader) e) (ap (λ (t : SessionTold). t.shards) e) (ap (λ (t : SessionTold). t.listed) e) (ap (λ (t : SessionTold). t.metrics) e) (ap (λ (t : SessionTold). t.failed) e) (ap (λ (t : SessionTold). t.finalized) e) (repeats-same b n (ap (λ (t : SessionTold). t.repeated) e))

-- ---- two calls

grew-both : (b m n : SessionTold) → GrewByXorbs b m → GrewByXorbs m n → GrewByXorbs b n
grew-both b m n one two = record {
  xorbs = one.xorbs ++ two.xorbs;
  grown = two.grown ∙ ap (λ (ps : List Put). ps ++ map put.Xorb two.xorbs) one.grown ∙ append_assoc (log_of b) (map put.Xorb one.xorbs) (map put.Xorb two.xorbs)
      ∙ ap (λ (ps : List Put). log_of b ++ ps) (sym (map-append put.Xorb one.xorbs two.xorbs));
  sent = λ few.
      let a = one.sent few in
      let low : m.metrics.xorb_bytes_uploaded < 2 ^ 64 = omega (arith, a) in
      let c = two.sent low in
      let sums = sum_by-append xorb_bytes one.xorbs two.xorbs in
      omega (arith, a, c, sums);
}

pub keeps-both : (b m n : SessionTold) → Keeps b m → Keeps m n → Keeps b n
keeps-both b m n h k = record {
  tells = λ t. k.tells (h.tells t);
  grew = λ t. grew-both b m n (h.grew t) (k.grew (h.tells t));
  repeated = repeats-both b m n h.repeated k.repeated;
  stands = λ t s. k.stands (h.tells t) (h.stands t s);
  sound = λ w t a s. let g = k.grew (h.tells t) in k.sound w (h.tells t) a (h.sound w t (agree-before w (log_of m) (log_of n) (map put.Xorb g.xorbs) g.grown a) s);
  known = k.known ∙ h.known;
  rules = k.rules ∙ h.rules;
  files = k.files ∙ h.files;
  quiet = λ f. k.quiet (ap (λ (o : Option ClientError). is_some o) (h.failed.stays f) ∙ f) ∙ h.quiet f;
  queries = record { first = k.queries.first ∙ h.queries.first; asked = k.queries.asked ∙ h.queries.asked; answered = k.queries.answered ∙ h.queries.answered };
  failed = failed-both b m n h.failed k.failed;
  steady = steady-both b m n h.failed k.failed h.steady k.steady;
  stores = later-both b.shards m.shards n.shards h.stores k.stores;
  finalized = k.finalized ∙ h.finalized;
}

-- ---- the put of a xorb

never-kept : {P : Type 0} (o : Option ClientError) → o ≡ None → is_some o ≡ true → P
never-kept o e f = absurd (false≢true (sym (ap (λ (z : Option ClientError). is_some z) e) ∙ f))

pub keeps-put : (b n : SessionTold) (x : Xorb) (u : Unit {0}) → PutRaw b n x (Ok u) → Keeps b n
keeps-put b n x u r =
    let is : n ≡ record b { uploader = n.uploader; listed = b.listed ++ x.hash ∷ []; registered = b.registered ++ x.hash ∷ []; metrics = with_sent b.metrics r.sent } = r.ok in
    let none : records_of b.shards.session ≡ records_of b.shards.session = refl in
    record {
      tells = r.tells;
      grew = λ t. record {
        xorbs = x ∷ [];
        grown = r.put t;
        sent = λ few.
            let a = ap (λ (z : SessionTold). z.metrics.xorb_bytes_uploaded) is in
            let bytes : r.sent ≡ min (xorb_bytes x) (2 ^ 64 - 1) = r.bytes t in
            a ∙ omega (arith, few, bytes);
      };
      repeated = repeats-same b n (ap (λ (z : SessionTold). z.repeated) is);
      stands = λ t s. stands-at n (log_of b ++ put.Xorb x ∷ []) (known_of b) (b.listed ++ x.hash ∷ []) (records_of b.shards.session) (r.put t) (ap known_of is) (ap (λ (z : SessionTold). z.listed) is) (ap (λ (z : SessionTold). records_of z.shards.session) is)
          (backed-grown (log_of b) (put.Xorb x ∷ []) (known_of b) b.listed (x.hash ∷ []) (records_of b.shards.session) (records_of b.shards.session) [] (sym (append-nil (records_of b.shards.session).xorbs)) refl
          (All-cons (IsThere (log_of b ++ put.Xorb x ∷ []) (known_of b)) x.hash [] (put-there (log_of b) (known_of b) x) (All-nil _)) (All-nil _) s);
      sound = λ k t a s. sound-grown k b n (put.Xorb x ∷ []) (r.put t) (searched-same b n (ap (λ (z : SessionTold). z.shards) is)) s;
      known = ap (λ (z : SessionTold). known_told z.shards) is;
      rules = ap (λ (z : SessionTold). z.shards.rules) is;
      files = ap (λ (z : SessionTold). (records_of z.shards.session).files) is;
      quiet = λ f. never-kept b.failed r.unfailed f;
      queries = r.queries;
      failed = record { stays = λ f. never-kept b.failed r.unfailed f; met = λ q. inl (sym (ap (λ (z : SessionTold). z.failed) is) ∙ q); faults = r.faults };
      steady = λ q. r.steady;
      stores = later-same b.shards n.shards (ap (λ (z : SessionTold). z.shards) is);
      finalized = ap (λ (z : SessionTold). z.finalized) is;
    }

-- a put that failed
pub keeps-unput : (b n : SessionTold) (x : Xorb) (e : DataError) → PutRaw b n x (Err e) → Keeps b n
keeps-unput b n x e r =
    let is : n ≡ record b { uploader = n.uploader; failed = n.failed } = r.err in
    let log : log_of n ≡ log_of b = r.unput in
    record {
      tells = r.tells;
      grew = λ t. record { xorbs = []; grown = log ∙ sym (append-nil (log_of b)); sent = λ few. ap (λ (z : SessionTold). z.metrics.xorb_bytes_uploaded) is ∙ omega (arith, few) };
      repeated = repeats-same b n (ap (λ (z : SessionTold). z.repeated) is);
      stands = λ t s. stands-at n (log_of b) (known_of b) b.listed (records_of b.shards.session) log (ap known_of is) (ap (λ (z : SessionTold). z.listed) is) (ap (λ (z : SessionTold). records_of z.shards.session) is) s;
      sound = λ k t a s. sound-same k b n log (searched-same b n (ap (λ (z : SessionTold). z.shards) is)) s;
      known = ap (λ (z : SessionTold). known_told z.shards) is;
      rules = ap (λ (z : SessionTold). z.shards.rules) is;
      files = ap (λ (z : SessionTold). (records_of z.shards.session).files) is;
      quiet = λ f. log;
      queries = r.queries;
      failed = record { stays = λ f. never-kept b.failed r.unfailed f; met = λ q. inr (rose r.failed q); faults = r.faults };
      steady = λ q. stayed r.failed q;
      stores = later-same b.shards n.shards (ap (λ (z : SessionTold). z.shards) is);
      finalized = ap (λ (z : SessionTold). z.finalized) is;
    }
  where
    rose : PutFailed b.uploader n.uploader n.failed e → n.failed ≡ Some client_error.Failed → Rose b.uploader.faults n.uploader.faults
    rose p q = p.rose (let both : Some p.error ≡ Some client_error.Failed = sym p.kept ∙ q in cc)

    stayed : PutFailed b.uploader n.uploader n.failed e → (n.failed ≡ b.failed) ⊎ (n.failed ≡ Some client_error.OutOfMemory) → n.uploader.faults ≡ b.uploader.faults
    stayed p (inl q) = never-kept n.failed (q ∙ r.unfailed) (ap (λ (z : Option ClientError). is_some z) p.kept)
    stayed p (inr q) = p.memory (let both : Some p.error ≡ Some client_error.OutOfMemory = sym p.kept ∙ q in cc)

-- the uploader refused it, which is kept
pub put-refused : (b n : SessionTold) (x : Xorb) (e : DataError) → KeepsRefusal b.uploader n.uploader n.failed x e → n ≡ record b { uploader = n.uploader; failed = n.failed } → b.failed ≡ None → PutRaw b n x (Err e)
put-refused b n x e k is none =
    let c = k.call in
    let refused : n.uploader.puts ≡ b.uploader.puts = c.refused in
    record {
      tells = λ t. record { puts = subst (λ (o : Option (List Put)). IsSome o) (sym refused) t.puts; shards = subst (λ (i : InterfaceTold). StoresTell i) (sym (ap (λ (z : SessionTold). z.shards) is)) t.shards };
      sent = 0;
      ok = tt;
      bytes = λ t. tt;
      err = is;
      grew = tt;
      put = λ t. tt;
      queries = record { first = c.first; asked = c.asked; answered = c.answered };
      unput = ap (λ (o : Option (List Put)). unwrap_or o []) refused;
      unfailed = none;
      faults = c.faults;
      steady = tt;
      failed = record { error = k.refusal; kept = k.kept; told = k.told; rose = λ q. c.failed (ap (λ (g : ClientError). Err g) q); memory = λ q. c.memory (ap (λ (g : ClientError). Err g) q) };
    }

pub put-why : (b n : SessionTold) (x : Xorb) (e : DataError) → PutRaw b n x (Err e) → PutsFail b n e
put-why b n x e r =
    let p : PutFailed b.uploader n.uploader n.failed e = r.failed in
    inr (p.error, p.kept, p.told)

-- ---- the record of a xorb on the list

-- one record of a xorb more, or none
grown-files : (o p : Option ShardRecord) (x : MDBXorbInfo) → (p ≡ o) ⊎ (p ≡ option_map (λ r. with_records r (one_xorb x)) o) → (unwrap_or p no_records).files ≡ (unwrap_or o no_records).files
grown-files o p x (inl e) = ap (λ (z : Option ShardRecord). (unwrap_or z no_records).files) e
grown-files None p x (inr e) = ap (λ (z : Option ShardRecord). (unwrap_or z no_records).files) e
grown-files (Some r) p x (inr e) = ap (λ (z : Option ShardRecord). (unwrap_or z no_records).files) e ∙ append-nil r.files

pub keeps-added : (b n : SessionTold) (x : Xorb) (h : MDBXorbInfo) (answer : Result (Unit {0}) DataError) → n ≡ record b { shards = n.shards } → IsRecorded b.shards n.shards h answer → Contains b.listed h.hash
    → (IsSome b.uploader.puts → Contains (xorbs_in (log_of b)) x) → Describes h x → Keeps b n
keeps-added b n x h answer is a there was-put describes =
    let u : n.uploader ≡ b.uploader = ap (λ (z : SessionTold). z.uploader) is in
    let log : log_of n ≡ log_of b = ap log_of is in
    record {
      tells = λ t. record { puts = subst (λ (v : UploaderTold). IsSome v.puts) (sym u) t.puts; shards = a.tells t.shards };
      grew = λ t. none-put b n u (ap (λ (z : SessionTold). z.metrics.xorb_bytes_uploaded) is);
      repeated = repeats-same b n (ap (λ (z : SessionTold). z.repeated) is);
      stands = λ t s. go a.added t s;
      sound = λ k t agree s. sound-added k b n x h log (was-put t.puts) describes agree a.known a.added s;
      known = a.known;
      rules = a.rules;
      files = grown-files b.shards.session.records n.shards.session.records h a.added;
      quiet = λ f. log;
      queries = queries-same b n u;
      failed = failed-same b n (ap (λ (z : SessionTold). z.failed) is) u;
      steady = steady-same b n u;
      stores = a.stores;
      finalized = ap (λ (z : SessionTold). z.finalized) is;
    }
  where
    known : known_of n ≡ known_of b
    known = ap (λ (k : Option (Option ShardRecord) × Option ShardRecord). map (λ (r : MDBXorbInfo). r.hash) (known_xorbs k)) a.known

    with-one : (o p : Option ShardRecord) → IsSome o → p ≡ option_map (λ r. with_records r (one_xorb h)) o → unwrap_or p no_records ≡ with_records (unwrap_or o no_records) (one_xorb h)
    with-one None p s e = absurd (false≢true s)
    with-one (Some r) p s e = ap (λ (z : Option ShardRecord). unwrap_or z no_records) e

    go : MaybeAdded b n h → Tells b → Stands b → Stands n
    go (inl e) t s = stands-at n (log_of b) (known_of b) b.listed (records_of b.shards.session) (ap log_of is) known (ap (λ (z : SessionTold). z.listed) is) (ap (λ (o : Option ShardRecord). unwrap_or o no_records) e) s
    go (inr e) t s =
        let r = records_of b.shards.session in
        let one : IsThere (log_of b) (known_of b) h.hash = All-contains (IsThere (log_of b) (known_of b)) b.listed h.hash s.on_list there in
        let P : List Put → Type 0 = λ ps. IsThere ps (known_of b) h.hash in
        let same : log_of b ++ [] ≡ log_of b = append-nil (log_of b) in
        let new : IsBacked (log_of b ++ []) (known_of b) (b.listed ++ []) (with_records r (one_xorb h)) =
        backed-grown (log_of b) [] (known_of b) b.listed [] r (with_records r (one_xorb h)) (h ∷ []) refl (append-nil r.files) (All-nil _)
        (All-cons (λ (x : MDBXorbInfo). IsThere (log_of b ++ []) (known_of b) x.hash) h [] (subst P (sym same) one) (All-nil _)) s in
        stands-at n (log_of b ++ []) (known_of b) (b.listed ++ []) (with_records r (one_xorb h)) (ap log_of is ∙ sym same) known (ap (λ (z : SessionTold). z.listed) is ∙ sym (append-nil b.listed))
        (with-one b.shards.session.records n.shards.session.records t.shards.session e) new
