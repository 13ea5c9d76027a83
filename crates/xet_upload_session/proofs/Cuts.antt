-- The exits of a cut, and those of a call that is given a xorb.
use Rattle.std.proofs.Common.{◌≡◌, ℕ, zero, suc, ◌<◌, ◌⊎◌, inl, inr, true, false, List, [], ◌∷◌, ◌++◌, length, map, refl, sym, ◌∙◌, ap, subst, arith}
use Rattle.std.specs.Prelude.{All, Contains, Option, Some, None, IfSome, IsSome, is_some, Result, Ok, Err, IfErr, OnOk, OnErr}
use Rattle.std.specs.List.{AllZip}
use Rattle.std.proofs.lemmas.Bool.{false≢true}
use Rattle.std.proofs.lemmas.List.{append-nil, nil_from_length}
use Rattle.std.proofs.lemmas.List.Elements.{All-nil, All-cons, All-contains, All-weaker, Contains-append_left, Contains-push}
use Rattle.xet_base.specs.declared.error.OutOfMemory.{OutOfMemory}
use Rattle.xet_base.specs.declared.invalid.Invalid.{Invalid}
use Rattle.xet_base.specs.declared.merklehash.MerkleHash.{MerkleHash}
use Rattle.xet_base.specs.declared.mdb_shard.Xorb.{Xorb}
use Rattle.xet_base.specs.declared.mdb_shard.MDBFileInfo.{MDBFileInfo}
use Rattle.xet_base.specs.declared.mdb_shard.MDBXorbInfo.{MDBXorbInfo}
use Rattle.xet_base.specs.Records.{Describes}
use Rattle.xet_outside.specs.declared.client.ClientError.{ClientError}
use Rattle.xet_uploader.specs.Uploads.{UploaderTold, xorbs_in}
use Rattle.xet_shard_interface.specs.Interfaces.{InterfaceTold}
use Rattle.xet_shard_interface.specs.Puts.{PutFailed, puts_of}
use Rattle.xet_upload.specs.DataErrors.{of_client_error}
use Rattle.xet_upload.specs.Orders.{names_of}
use Rattle.xet_upload.specs.Waitings.{AreCounted, IsPending, no_waiting, record_of_file, xorb_of_chunks}
use Rattle.xet_upload.specs.declared.data_error.DataError.{DataError}
use Rattle.xet_upload.specs.declared.data_error.DataError.TheVariants as data_error
use Rattle.xet_waiting.specs.declared.raw_xorb.PendingFile.{PendingFile}
use Rattle.xet_waiting.specs.declared.raw_xorb.RawXorbData.{RawXorbData}
use Rattle.xet_waiting.specs.declared.waiting.WaitingFile.{WaitingFile}
use Rattle.xet_upload_session.specs.Calls.{CountsSent, Cut, CutPut, CutRepeated, Keeps, PutsFail, Recorded, Refuses, RegisterStopped, Registers, RepeatsGrow, Says, StoresFail, WasPut, WasRefused, finalized_error, record_of_xorb, waiting_hash, waiting_records, with_repeated, without_waiting}
use Rattle.xet_upload_session.specs.Trackings.{IsRefusal}
use Rattle.xet_upload_session.specs.Sessions.{HasListed, IsListed, SessionTold, log_of, waiting_names}
use Rattle.xet_upload_session.specs.steps.SessionSteps.{AddedRecord, PutFinished, PutGiven, PutRaw, Repeats, TookWaiting, with_sent}
use Rattle.xet_upload_parts.specs.Storable.{IsStorable}
use Rattle.xet_upload_session.proofs.Keeping.{keeps-added, keeps-both, keeps-put, keeps-refl, keeps-still, keeps-unput, put-why, repeats-same}
use Rattle.xet_upload_session.proofs.Recording.{described-is, record-unnoted, recorded-is}
use Rattle.xet_upload_session.proofs.Sounding.{put-contained}
use Rattle.xet_upload_session.proofs.Listing.{AreFine, fine-empty, fine-known, listed-after, listed-more, names-listed}

pub map-infos : (h : MerkleHash) (fs : List WaitingFile) (ps : List PendingFile) → AllZip (IsPending h) fs ps → map (λ p. p.info) ps ≡ map (record_of_file h) fs
map-infos h [] [] z = refl
map-infos h [] (p ∷ ps) z = absurd z
map-infos h (f ∷ fs) [] z = absurd z
map-infos h (f ∷ fs) (p ∷ ps) z = let head = z.0.info in let tail = map-infos h fs ps z.1 in cc

pub count-infos : (h : MerkleHash) (fs : List WaitingFile) (ps : List PendingFile) → AllZip (IsPending h) fs ps → length ps ≡ length fs
count-infos h [] [] z = refl
count-infos h [] (p ∷ ps) z = absurd z
count-infos h (f ∷ fs) [] z = absurd z
count-infos h (f ∷ fs) (p ∷ ps) z = let tail = count-infos h fs ps z.1 in cc

counts-same : (b n : SessionTold) → n.metrics ≡ b.metrics → CountsSent b n
counts-same b n e = e ∙ sym (ap (λ m. record b.metrics { xorb_bytes_uploaded = m.xorb_bytes_uploaded }) e)

not-both : {P : Type 0} (o : Option ClientError) (e : ClientError) → o ≡ None → o ≡ Some e → P
not-both o e a q = absurd (false≢true (ap (λ (z : Option ClientError). is_some z) (sym a ∙ q)))

none-more : {A : Type 0} (xs : List A) → xs ≡ xs ++ []
none-more xs = sym (append-nil xs)

-- no failure is kept
says-none : {A : Type 0} (n : SessionTold) (answer : Result A DataError) → n.failed ≡ None → Says n answer
says-none n answer none e q = not-both n.failed e none q

-- no failure was kept before
not-idle : {P : Type 0} (b : SessionTold) → b.failed ≡ None → is_some b.failed ≡ true → P
not-idle b none q = absurd (false≢true (ap (λ (o : Option ClientError). is_some o) (sym none) ∙ q))

-- the same, of an answer of another kind
says-err : {A B : Type 0} (n : SessionTold) (e : DataError) → Says {A = A} n (Err e) → Says {A = B} n (Err e)
says-err n e s g q = let h = s g q in let d : e ≡ of_client_error g = cc in ap (λ (x : DataError). Err x) d

-- ---- a put, after which the files are finished and the record is added or not

kept-some : (o : Option ClientError) (e : ClientError) → o ≡ Some e → is_some o ≡ true
kept-some o e q = ap (λ (z : Option ClientError). is_some z) q

-- the put failed, and nothing is finished
pub put-failed : (b n : SessionTold) (x : Xorb) (fs : List MDBFileInfo) (now : ℕ) (e : DataError) → PutRaw b n x (Err e) → PutFinished b n x fs now (Err e)
put-failed b n x fs now e r =
    let is : n ≡ record b { uploader = n.uploader; failed = n.failed } = r.err in
    let p : PutFailed b.uploader n.uploader n.failed e = r.failed in
    record {
      keeps = keeps-unput b n x e r;
      ok = tt;
      err = inl (record { same = is; log = r.unput; kept = kept-some n.failed p.error p.kept });
      said = λ g q. let both : Some p.error ≡ Some g = sym p.kept ∙ q in let one : p.error ≡ g = cc in ap (λ (x : DataError). Err x) (p.told ∙ ap of_client_error one);
      counts = counts-same b n (ap (λ (z : SessionTold). z.metrics) is);
      why = put-why b n x e r;
    }

module _ (b n1 n2 n : SessionTold) (x : Xorb) (h : MDBXorbInfo) (fs : List MDBFileInfo) (now : ℕ) (u : Unit {0}) (r : PutRaw b n1 x (Ok u)) (finishes : n2 ≡ record n1 { finished = n1.finished ++ fs }) (describes : Describes h x) where
  is : n1 ≡ record b { uploader = n1.uploader; listed = b.listed ++ x.hash ∷ []; registered = b.registered ++ x.hash ∷ []; metrics = with_sent b.metrics r.sent }
  is = r.ok

  listed2 : n2.listed ≡ b.listed ++ x.hash ∷ []
  listed2 = ap (λ (z : SessionTold). z.listed) finishes ∙ ap (λ (z : SessionTold). z.listed) is

  there : Contains n2.listed h.hash
  there =
      let P : List MerkleHash → Type 0 = λ l. Contains l h.hash in
      let Q : MerkleHash → Type 0 = λ z. Contains (b.listed ++ x.hash ∷ []) z in
      subst P (sym listed2) (subst Q (sym describes.hash) (Contains-push b.listed x.hash))

  metrics2 : n2.metrics ≡ with_sent b.metrics r.sent
  metrics2 = ap (λ (z : SessionTold). z.metrics) finishes ∙ ap (λ (z : SessionTold). z.metrics) is

  shards2 : n2.shards ≡ b.shards
  shards2 = ap (λ (z : SessionTold). z.shards) finishes ∙ ap (λ (z : SessionTold). z.shards) is

  was-put : IsSome n2.uploader.puts → Contains (xorbs_in (log_of n2)) x
  was-put =
      let P : UploaderTold → Type 0 = λ v. IsSome v.puts → Contains (xorbs_in (puts_of v)) x in
      subst P (sym (ap (λ (z : SessionTold). z.uploader) finishes)) (put-contained b.uploader.puts n1.uploader.puts x r.grew)

  module _ (answer : Result (Unit {0}) DataError) (a : AddedRecord n2 n h now answer) where
    recorded : Recorded b.shards n.shards (record_of_xorb x) now answer
    recorded =
        let P : MDBXorbInfo → Type 0 = λ z. Recorded b.shards n.shards z now answer in
        let Q : InterfaceTold → Type 0 = λ i. Recorded i n.shards h now answer in
        subst P (described-is h x describes) (subst Q shards2 a.recorded)

    log : log_of n ≡ log_of n1
    log = ap log_of a.same ∙ ap log_of finishes

    -- all that changed
    all : SessionTold → SessionTold
    all z = record b { uploader = z.uploader; shards = z.shards; finished = b.finished ++ fs; listed = b.listed ++ x.hash ∷ []; registered = b.registered ++ x.hash ∷ []; metrics = z.metrics }

    changed : n ≡ record b { uploader = n1.uploader; shards = n.shards; finished = b.finished ++ fs; listed = b.listed ++ x.hash ∷ []; registered = b.registered ++ x.hash ∷ []; metrics = with_sent b.metrics r.sent }
    changed = a.same ∙ ap (λ (z : SessionTold). record z { shards = n.shards }) finishes ∙ ap (λ (z : SessionTold). record z { finished = z.finished ++ fs; shards = n.shards }) is

    was : WasPut b n x fs now answer
    was = record { same = whole; log = λ t. log ∙ r.put t; recorded = recorded }
      where
        whole : n ≡ record b { uploader = n.uploader; shards = n.shards; finished = b.finished ++ fs; listed = b.listed ++ x.hash ∷ []; registered = b.registered ++ x.hash ∷ []; metrics = n.metrics }
        whole = changed ∙ ap (λ (z : SessionTold). record b { uploader = z.uploader; shards = z.shards; finished = b.finished ++ fs; listed = b.listed ++ x.hash ∷ []; registered = b.registered ++ x.hash ∷ []; metrics = z.metrics }) (sym changed)

    pub put-finished : PutFinished b n x fs now answer
    put-finished =
        let stored = recorded-is n2.shards n.shards h now answer a.recorded in
        let one = keeps-put b n1 x u r in
        let two = keeps-still n1 n2 (ap (λ (z : SessionTold). z.uploader) finishes) (ap (λ (z : SessionTold). z.shards) finishes) (ap (λ (z : SessionTold). z.listed) finishes) (ap (λ (z : SessionTold). z.metrics) finishes) (ap (λ (z : SessionTold). z.failed) finishes) (ap (λ (z : SessionTold). z.finalized) finishes) (repeats-same n1 n2 (ap (λ (z : SessionTold). z.repeated) finishes)) in
        record {
          keeps = keeps-both b n1 n one (keeps-both n1 n2 n two (keeps-added n2 n x h answer a.same stored there was-put describes));
          ok = on_ok answer was;
          err = on_err answer (inr was);
          said = says-none n answer (ap (λ (z : SessionTold). z.failed) changed ∙ r.unfailed);
          counts = counted (ap (λ (z : SessionTold). z.metrics) a.same ∙ metrics2);
          why = so answer shards2 stored.why;
        }
      where
        on_ok : {P : Type 0} (z : Result (Unit {0}) DataError) → P → OnOk z P
        on_ok (Ok t) p = p
        on_ok (Err e) p = tt

        on_err : {P : Type 0} (z : Result (Unit {0}) DataError) → P → OnErr z P
        on_err (Ok t) p = tt
        on_err (Err e) p = p

        counted : n.metrics ≡ with_sent b.metrics r.sent → CountsSent b n
        counted e = e ∙ sym (ap (λ m. record b.metrics { xorb_bytes_uploaded = m.xorb_bytes_uploaded }) e)

        so : (z : Result (Unit {0}) DataError) → n2.shards ≡ b.shards → IfErr z (StoresFail n2.shards n.shards) → IfErr z (PutsFail b n)
        so (Ok t) e q = tt
        so (Err d) e q = inl (subst (λ (i : InterfaceTold). StoresFail i n.shards d) e q)

-- a xorb is put, and its files are finished
pub registered-put : (b n1 n2 : SessionTold) (x : Xorb) (fs : List MDBFileInfo) (u : Unit {0}) → PutRaw b n1 x (Ok u) → n2 ≡ record n1 { finished = n1.finished ++ fs } → n2.registered ≡ b.registered ++ x.hash ∷ []
registered-put b n1 n2 x fs u r finishes =
    let is : n1 ≡ record b { uploader = n1.uploader; listed = b.listed ++ x.hash ∷ []; registered = b.registered ++ x.hash ∷ []; metrics = with_sent b.metrics r.sent } = r.ok in
    ap (λ (z : SessionTold). z.registered) finishes ∙ ap (λ (z : SessionTold). z.registered) is

-- nothing came behind the session's records
pub unadded : (n : SessionTold) (h : MDBXorbInfo) (now : ℕ) → AddedRecord n n h now (Err data_error.OutOfMemory)
unadded n h now = record { same = refl; recorded = record { ok = tt; err = inl (record { same = refl; added = tt; kept = refl; faults = omega arith; why = inl refl }) } }

-- a put that failed leaves the list of those that were put
pub registered-unput : (b n : SessionTold) (x : Xorb) (e : DataError) → PutRaw b n x (Err e) → (n.registered ≡ b.registered) × (is_some n.failed ≡ true)
registered-unput b n x e r =
    let is : n ≡ record b { uploader = n.uploader; failed = n.failed } = r.err in
    let p : PutFailed b.uploader n.uploader n.failed e = r.failed in
    (ap (λ (z : SessionTold). z.registered) is, kept-some n.failed p.error p.kept)

-- a xorb was put, and then the tracker had no memory for it
put-unnoted : (b n : SessionTold) (x : Xorb) (fs : List MDBFileInfo) (now : ℕ) (u : Unit {0}) → PutFinished b n x fs now (Ok u) → PutFinished b n x fs now (Err data_error.OutOfMemory)
put-unnoted b n x fs now u k =
    let put : WasPut b n x fs now (Ok u) = k.ok in
    record {
      keeps = k.keeps;
      ok = tt;
      err = inr (record { same = put.same; log = put.log; recorded = record-unnoted b.shards n.shards (record_of_xorb x) now u put.recorded });
      said = λ e q. absurd (let was = k.said e q in cc);
      counts = k.counts;
      why = inl (inl (inl refl));
    }

-- a xorb was put, and the tracker was told of it before, or there was no memory for that
pub put-noted : (b n : SessionTold) (x : Xorb) (fs : List MDBFileInfo) (now : ℕ) (u : Unit {0}) (noted : Result (Unit {0}) DataError) → IfErr noted (λ e. e ≡ data_error.OutOfMemory) → PutFinished b n x fs now (Ok u) → PutFinished b n x fs now noted
put-noted b n x fs now u (Ok v) memory k = k
put-noted b n x fs now u (Err e) memory k = subst (λ (z : DataError). PutFinished b n x fs now (Err z)) (sym memory) (put-unnoted b n x fs now u k)

-- ---- what a put leaves of lists and files

pub record FinishedAll (b n : SessionTold) (x : Xorb) (fs : List MDBFileInfo) : Type 0 where
  pub finished : n.finished ≡ b.finished ++ fs
  pub listed : n.listed ≡ b.listed ++ x.hash ∷ []
  pub registered : n.registered ≡ b.registered ++ x.hash ∷ []
  pub waiting : n.waiting ≡ b.waiting
  pub failed : n.failed ≡ b.failed

module _ (b n : SessionTold) (x : Xorb) (fs : List MDBFileInfo) (now : ℕ) where
  pub was-finished : (answer : Result (Unit {0}) DataError) → WasPut b n x fs now answer → FinishedAll b n x fs
  was-finished answer p = record {
    finished = ap (λ (z : SessionTold). z.finished) p.same;
    listed = ap (λ (z : SessionTold). z.listed) p.same;
    registered = ap (λ (z : SessionTold). z.registered) p.same;
    waiting = ap (λ (z : SessionTold). z.waiting) p.same;
    failed = ap (λ (z : SessionTold). z.failed) p.same;
  }

  -- no put failed
  pub finished-all : (answer : Result (Unit {0}) DataError) → PutFinished b n x fs now answer → n.failed ≡ None → FinishedAll b n x fs
  finished-all (Ok u) k none = was-finished (Ok u) k.ok
  finished-all (Err e) k none = go k.err
    where
      go : WasRefused b n ⊎ WasPut b n x fs now (Err e) → FinishedAll b n x fs
      go (inl w) = absurd (false≢true (sym (ap (λ (z : Option ClientError). is_some z) none) ∙ w.kept))
      go (inr p) = was-finished (Err e) p

-- ---- the exits of a cut

-- why nothing was put
abbrev Still : SessionTold → SessionTold → Type 0
Still b n = ((b.waiting.chunks ≡ []) × (n.repeated ≡ b.repeated)) ⊎ CutRepeated b n

-- a put had failed
pub cut-failed : (b : SessionTold) (now : ℕ) (e : ClientError) → IsStorable b.waiting.chunks → b.failed ≡ Some e → Cut b b now (Err (of_client_error e))
cut-failed b now e s f = record {
  keeps = keeps-refl b b refl;
  storable = s;
  listed = λ l q. l;
  ok = tt;
  err = inl refl;
  emptied = tt;
  finished = tt;
  counts = refl;
  unfailed = tt;
  idle = λ q. refl;
  said = λ g q. ap (λ (z : ClientError). Err (of_client_error z)) (let both : Some e ≡ Some g = sym f ∙ q in cc);
  refused = λ g q. ap (λ (z : ClientError). Err (of_client_error z)) (let both : Some e ≡ Some g = sym f ∙ q in cc);
  why = inr (e, f, refl);
}

-- there was no memory to take what waits
pub cut-same : (b n : SessionTold) (now : ℕ) (e : OutOfMemory) → IsStorable b.waiting.chunks → b.failed ≡ None → TookWaiting b n (Err e) → Cut b n now (Err data_error.OutOfMemory)
cut-same b n now e s sound took = record {
  keeps = keeps-refl b n took.err;
  storable = s;
  listed = λ l q. subst (λ (z : SessionTold). IsListed z) (sym took.err) l;
  ok = tt;
  err = inl took.err;
  emptied = tt;
  finished = tt;
  counts = counts-same b n (ap (λ (z : SessionTold). z.metrics) took.err);
  unfailed = tt;
  idle = λ q. took.err;
  said = says-none n (Err data_error.OutOfMemory) (ap (λ (z : SessionTold). z.failed) took.err ∙ sound);
  refused = λ g q. not-both b.failed g sound q;
  why = inl (inl (inl refl));
}

module _ (b t n : SessionTold) (now : ℕ) (r : RawXorbData × List PendingFile) (storable : IsStorable b.waiting.chunks) (took : TookWaiting b t (Ok r)) (sound : b.failed ≡ None) where
  taken : t ≡ without_waiting b
  taken = took.ok

  xorb : r.0.xorb ≡ xorb_of_chunks b.waiting.chunks
  xorb = took.xorb

  hash : r.0.xorb.hash ≡ waiting_hash b
  hash = ap (λ (x : Xorb). x.hash) xorb

  files : map (λ p. p.info) r.1 ≡ waiting_records b
  files = took.files

  old : Contains t.registered r.0.xorb.hash → Contains b.registered (waiting_hash b)
  old c =
      let P : List MerkleHash → Type 0 = λ l. Contains l r.0.xorb.hash in
      subst (λ (z : MerkleHash). Contains b.registered z) hash (subst P (ap (λ (z : SessionTold). z.registered) taken) c)

  -- nothing was put
  pub cut-still : (k : ℕ) → k ≡ length b.waiting.chunks → AreCounted (length b.waiting.chunks) b.waiting.files → (m : SessionTold) → m ≡ record t { finished = t.finished ++ map (λ p. p.info) r.1 } → Repeats m n r.0.xorb → (k ≡ 0) ⊎ Contains t.registered r.0.xorb.hash → Cut b n now (Ok tt)
  cut-still k count counted m is told why = made (because (length b.waiting.chunks) refl (reason why))
    where
      reason : (k ≡ 0) ⊎ Contains t.registered r.0.xorb.hash → (b.waiting.chunks ≡ []) ⊎ Contains b.registered (waiting_hash b)
      reason (inl e) = inl (nil_from_length b.waiting.chunks (sym count ∙ e))
      reason (inr c) = inr (old c)

      middle : m ≡ record (without_waiting b) { finished = b.finished ++ waiting_records b }
      middle = is ∙ ap (λ (z : SessionTold). record z { finished = z.finished ++ map (λ p. p.info) r.1 }) taken ∙ ap (λ (fs : List MDBFileInfo). record b { waiting = no_waiting; finished = b.finished ++ fs }) files

      size : length r.0.xorb.chunks ≡ length b.waiting.chunks
      size = ap (λ (x : Xorb). length x.chunks) xorb

      whole : n ≡ record (without_waiting b) { finished = b.finished ++ waiting_records b; repeated = n.repeated }
      whole = told.same ∙ ap (λ (z : SessionTold). record z { repeated = n.repeated }) middle

      before : m.repeated ≡ b.repeated
      before = ap (λ (z : SessionTold). z.repeated) middle

      none : b.waiting.chunks ≡ [] → Still b n
      none e = inl (e, told.none (size ∙ ap length e) ∙ before)

      some : Contains b.registered (waiting_hash b) → 0 < length b.waiting.chunks → Still b n
      some c low = inr (record {
        some = low;
        before = c;
        told = told.some (omega (arith, low, size)) ∙ ap (λ (xs : List Xorb). xs ++ r.0.xorb ∷ []) before ∙ ap (λ (x : Xorb). b.repeated ++ x ∷ []) xorb;
      })

      because : (j : ℕ) → length b.waiting.chunks ≡ j → (b.waiting.chunks ≡ []) ⊎ Contains b.registered (waiting_hash b) → Still b n
      because j q (inl e) = none e
      because zero q (inr c) = none (nil_from_length b.waiting.chunks q)
      because (suc j) q (inr c) = some c (omega (arith, q))

      grown : Still b n → RepeatsGrow b n
      grown (inl h) = repeats-same b n h.1
      grown (inr h) = (xorb_of_chunks b.waiting.chunks ∷ [], h.told)

      fine : (k ≡ 0) ⊎ Contains t.registered r.0.xorb.hash → IsListed b → n.listed ≡ b.listed → AreFine n.listed (waiting_hash b) b.waiting.files
      fine (inl e) l q = fine-empty n.listed (waiting_hash b) b.waiting.files (subst (λ (j : ℕ). AreCounted j b.waiting.files) (sym count ∙ e) counted)
      fine (inr c) l q = fine-known n.listed (waiting_hash b) (subst (λ (z : List MerkleHash). Contains z (waiting_hash b)) (sym q) (All-contains (Contains b.listed) b.registered (waiting_hash b) l.put (old c))) b.waiting.files

      made : Still b n → Cut b n now (Ok tt)
      made h =
          let listed : n.listed ≡ b.listed ++ [] = ap (λ (z : SessionTold). z.listed) whole ∙ none-more b.listed in
          let registered : n.registered ≡ b.registered ++ [] = ap (λ (z : SessionTold). z.registered) whole ∙ none-more b.registered in
          let finished : n.finished ≡ b.finished ++ waiting_records b = ap (λ (z : SessionTold). z.finished) whole in
          let waiting : n.waiting ≡ no_waiting = ap (λ (z : SessionTold). z.waiting) whole in
          record {
            keeps = keeps-still b n (ap (λ (z : SessionTold). z.uploader) whole) (ap (λ (z : SessionTold). z.shards) whole) (ap (λ (z : SessionTold). z.listed) whole) (ap (λ (z : SessionTold). z.metrics) whole) (ap (λ (z : SessionTold). z.failed) whole) (ap (λ (z : SessionTold). z.finalized) whole) (grown h);
            storable = storable;
            listed = λ l q. listed-after b n [] listed (waiting_hash b) [] waiting finished (fine why l (ap (λ (z : SessionTold). z.listed) whole)) registered (All-nil (Contains n.listed)) l;
            ok = inl (record { same = whole; reason = h });
            err = tt;
            emptied = waiting;
            finished = finished;
            counts = counts-same b n (ap (λ (z : SessionTold). z.metrics) whole);
            unfailed = ap (λ (z : SessionTold). z.failed) whole ∙ sound;
            idle = not-idle b sound;
            said = says-none n (Ok tt) (ap (λ (z : SessionTold). z.failed) whole ∙ sound);
            refused = λ g q. not-both b.failed g sound q;
            why = tt;
          }

  -- the xorb was put, or its put failed
  pub cut-put : (k : ℕ) → k ≡ length b.waiting.chunks → 0 < k → (Contains t.registered r.0.xorb.hash → ⊥) → (answer : Result (Unit {0}) DataError) → PutFinished t n r.0.xorb (map (λ p. p.info) r.1) now answer → Cut b n now answer
  cut-put k count low new answer p = go answer put
    where
      h : MerkleHash
      h = waiting_hash b

      x : Xorb
      x = xorb_of_chunks b.waiting.chunks

      put : PutFinished (without_waiting b) n (xorb_of_chunks b.waiting.chunks) (waiting_records b) now answer
      put =
          let P : SessionTold → Type 0 = λ z. PutFinished z n r.0.xorb (map (λ p. p.info) r.1) now answer in
          let Q : Xorb → Type 0 = λ z. PutFinished (without_waiting b) n z (map (λ p. p.info) r.1) now answer in
          let R : List MDBFileInfo → Type 0 = λ fs. PutFinished (without_waiting b) n (xorb_of_chunks b.waiting.chunks) fs now answer in
          subst R files (subst Q xorb (subst P taken p))

      some : 0 < length b.waiting.chunks
      some = omega (arith, count, low)

      fresh : Contains b.registered (waiting_hash b) → ⊥
      fresh c =
          let P : List MerkleHash → Type 0 = λ l. Contains l r.0.xorb.hash in
          new (subst P (sym (ap (λ (z : SessionTold). z.registered) taken)) (subst (λ (z : MerkleHash). Contains b.registered z) (sym hash) c))

      keeps : Keeps (without_waiting b) n → Keeps b n
      keeps q = keeps-both b (without_waiting b) n (keeps-still b (without_waiting b) refl refl refl refl refl refl (repeats-same b (without_waiting b) refl)) q

      listed : FinishedAll (without_waiting b) n (xorb_of_chunks b.waiting.chunks) (waiting_records b) → IsListed b → IsListed n
      listed d l =
          let there : Contains n.listed (waiting_hash b) = subst (λ (l : List MerkleHash). Contains l (waiting_hash b)) (sym d.listed) (Contains-push b.listed (waiting_hash b)) in
          listed-after b n (waiting_hash b ∷ []) d.listed (waiting_hash b) (waiting_hash b ∷ []) d.waiting d.finished (fine-known n.listed (waiting_hash b) there b.waiting.files) d.registered (All-cons (Contains n.listed) (waiting_hash b) [] there (All-nil (Contains n.listed))) l

      cut-so : (a : Result (Unit {0}) DataError) → WasPut (without_waiting b) n (xorb_of_chunks b.waiting.chunks) (waiting_records b) now a → CutPut b n now a
      cut-so a w = record { put = w; some = some; new = fresh }

      go : (a : Result (Unit {0}) DataError) → PutFinished (without_waiting b) n (xorb_of_chunks b.waiting.chunks) (waiting_records b) now a → Cut b n now a
      go (Err e) w = record {
        keeps = keeps w.keeps;
        storable = storable;
        listed = λ l none. listed (finished-all (without_waiting b) n (xorb_of_chunks b.waiting.chunks) (waiting_records b) now (Err e) w none) l;
        ok = tt;
        err = inr (stopped w.err);
        emptied = tt;
        finished = tt;
        counts = w.counts;
        unfailed = tt;
        idle = not-idle b sound;
        said = w.said;
        refused = λ g q. not-both b.failed g sound q;
        why = w.why;
      }
        where
          stopped : WasRefused (without_waiting b) n ⊎ WasPut (without_waiting b) n (xorb_of_chunks b.waiting.chunks) (waiting_records b) now (Err e) → WasRefused (without_waiting b) n ⊎ CutPut b n now (Err e)
          stopped (inl q) = inl q
          stopped (inr q) = inr (cut-so (Err e) q)
      go (Ok u) w =
          let d = was-finished (without_waiting b) n (xorb_of_chunks b.waiting.chunks) (waiting_records b) now (Ok u) w.ok in
          record {
            keeps = keeps w.keeps;
            storable = storable;
            listed = λ l none. listed d l;
            ok = inr (cut-so (Ok u) w.ok);
            err = tt;
            emptied = d.waiting;
            finished = d.finished;
            counts = w.counts;
            unfailed = d.failed ∙ sound;
            idle = not-idle b sound;
            said = w.said;
            refused = λ g q. not-both b.failed g sound q;
            why = tt;
          }

-- ---- a xorb that is given

pub given-put : (b n : SessionTold) (x : Xorb) (now : ℕ) (a : Result (Unit {0}) DataError) → PutFinished b n x [] now a → PutGiven b n x now a
given-put b n x now a p = go a p
  where
    listed : FinishedAll b n x [] → IsListed b → IsListed n
    listed d l =
        let there : Contains n.listed x.hash = subst (λ (l : List MerkleHash). Contains l x.hash) (sym d.listed) (Contains-push b.listed x.hash) in
        listed-more b n (x.hash ∷ []) d.listed (x.hash ∷ []) d.waiting (d.finished ∙ append-nil b.finished) d.registered (All-cons (Contains n.listed) x.hash [] there (All-nil (Contains n.listed))) l

    go : (r : Result (Unit {0}) DataError) → PutFinished b n x [] now r → PutGiven b n x now r
    go (Ok u) k = record { keeps = k.keeps; listed = λ l none. listed (was-finished b n x [] now (Ok u) k.ok) l; ok = k.ok; err = tt; said = λ none. k.said; counts = k.counts; why = tt }
    go (Err e) k = record { keeps = k.keeps; listed = λ l none. listed (finished-all b n x [] now (Err e) k none) l; ok = tt; err = inr k.err; said = λ none. k.said; counts = k.counts; why = k.why }

-- what a call changes that is given a xorb
abbrev Changed : SessionTold → SessionTold → Type 0
Changed b n = n ≡ record b { uploader = n.uploader; shards = n.shards; listed = n.listed; registered = n.registered; repeated = n.repeated; metrics = n.metrics; failed = n.failed }

changed-same : (b n : SessionTold) → n ≡ b → Changed b n
changed-same b n e =
    e ∙ ap (λ (z : SessionTold). record b { uploader = z.uploader; shards = z.shards; listed = z.listed; registered = z.registered; repeated = z.repeated; metrics = z.metrics; failed = z.failed }) (sym e)

changed-put : (b n : SessionTold) (x : Xorb) (now : ℕ) (a : Result (Unit {0}) DataError) → WasPut b n x [] now a → Changed b n
changed-put b n x now a p =
    let none : b.finished ++ [] ≡ b.finished = append-nil b.finished in
    let whole = p.same ∙ ap (λ (fs : List MDBFileInfo). record b { uploader = n.uploader; shards = n.shards; finished = fs; listed = b.listed ++ x.hash ∷ []; registered = b.registered ++ x.hash ∷ []; metrics = n.metrics }) none in
    whole ∙ ap (λ (z : SessionTold). record b { uploader = z.uploader; shards = z.shards; listed = z.listed; registered = z.registered; repeated = z.repeated; metrics = z.metrics; failed = z.failed }) (sym whole)

changed-refused : (b n : SessionTold) → WasRefused b n → Changed b n
changed-refused b n w =
    w.same ∙ ap (λ (z : SessionTold). record b { uploader = z.uploader; shards = z.shards; listed = z.listed; registered = z.registered; repeated = z.repeated; metrics = z.metrics; failed = z.failed }) (sym w.same)

-- a xorb that has chunks and is new is put
pub put-nothing : {P C : Type 0} (chunks : ℕ) → (chunks ≡ 0) ⊎ C → (C → ⊥) → 0 < chunks → P
put-nothing chunks (inl none) fresh low = absurd (omega (arith, none, low))
put-nothing chunks (inr old) fresh low = absurd (fresh old)

-- the failure that is kept, where a xorb would be put
pub kept-so : {P Q : Type 0} (o : Option ClientError) → P → Q → IfSome o (λ e. (o ≡ Some e) × P × Q)
kept-so (Some e) p q = (refl, p, q)
kept-so None p q = tt

module _ (b : SessionTold) (x : Xorb) (now : ℕ) where
  pub registers-finalized : b.finalized ≡ true → Registers b b x now (Err finalized_error)
  registers-finalized f = record {
    keeps = keeps-refl b b refl;
    listed = λ l q. l;
    same = refl;
    again = tt;
    new = tt;
    err = inl refl;
    counts = refl;
    finalized = λ q. (refl, refl);
    unfailed = tt;
    said = λ none. says-none b (Err finalized_error) none;
    refused = λ q. absurd (false≢true (sym q ∙ f));
    idle = λ q. absurd (false≢true (sym q ∙ f));
    why = inl (refl, f);
  }

  module _ (first : b.finalized ≡ false) where
    never : {P : Type 0} → b.finalized ≡ true → P
    never h = absurd (false≢true (sym first ∙ h))

    -- a failure is kept
    pub registers-kept : (e : ClientError) → (b.failed ≡ Some e) × (0 < length x.chunks) × (Contains b.registered x.hash → ⊥) → Registers b b x now (Err (of_client_error e))
    registers-kept e kept = record {
      keeps = keeps-refl b b refl;
      listed = λ l q. l;
      same = refl;
      again = tt;
      new = tt;
      err = inl refl;
      counts = refl;
      finalized = never;
      unfailed = tt;
      said = λ none. says-none b (Err (of_client_error e)) none;
      refused = λ q new low g h. let one : e ≡ g = let both : Some e ≡ Some g = sym kept.0 ∙ h in cc in ap (λ (f : ClientError). Err (of_client_error f)) one;
      idle = λ q r. put-nothing (length x.chunks) r kept.2 kept.1;
      why = inr (inl (inr (e, kept.0, refl)));
    }

    -- the tracker refused it, or had no memory for it
    pub registers-refused : (e : DataError) → (o : Option Invalid) → IsRefusal o e → ((Contains b.registered x.hash → ⊥) → 0 < length x.chunks → b.failed ≡ None) → Registers b b x now (Err e)
    registers-refused e o r sound = record {
      keeps = keeps-refl b b refl;
      listed = λ l q. l;
      same = refl;
      again = tt;
      new = tt;
      err = inl refl;
      counts = refl;
      finalized = never;
      unfailed = tt;
      said = λ none. says-none b (Err e) none;
      refused = λ q new low g h. not-both b.failed g (sound new low) h;
      idle = λ q nothing. still r;
      why = inr (go r);
    }
      where
        go : IsRefusal o e → PutsFail b b e ⊎ Refuses b b e
        go (inl q) = inl (inl (inr (inl (inl q))))
        go (inr q) = inr ((q.0, q.2), refl)

        still : IsRefusal o e → (e ≡ data_error.OutOfMemory) ⊎ Refuses b b e
        still (inl q) = inl q
        still (inr q) = inr ((q.0, q.2), refl)

    pub registers-again : Contains b.registered x.hash → Registers b (with_repeated b x) x now (Ok false)
    registers-again old = record {
      keeps = keeps-still b (with_repeated b x) refl refl refl refl refl refl (x ∷ [], refl);
      listed = λ l q. record { finished = l.finished; waiting = l.waiting; put = l.put };
      same = refl;
      again = λ q. (old, refl);
      new = λ q. absurd (false≢true q);
      err = tt;
      counts = refl;
      finalized = never;
      unfailed = λ q. absurd (false≢true q);
      said = λ none. says-none (with_repeated b x) (Ok false) none;
      refused = λ q new. absurd (new old);
      idle = λ q r. tt;
      why = tt;
    }

    module _ (fresh : Contains b.registered x.hash → ⊥) where
      pub registers-empty : length x.chunks ≡ 0 → Registers b b x now (Ok true)
      registers-empty none = record {
        keeps = keeps-refl b b refl;
        listed = λ l q. l;
        same = refl;
        again = λ q. absurd (false≢true (sym q));
        new = λ q. record { new = fresh; put = inl (nil_from_length x.chunks none, refl) };
        err = tt;
        counts = refl;
        finalized = never;
        unfailed = λ q some. absurd (omega (arith, none, some));
        said = λ sound. says-none b (Ok true) sound;
        refused = λ q new some. absurd (omega (arith, none, some));
        idle = λ q r. tt;
        why = tt;
      }

      module _ (sound : b.failed ≡ None) where
        pub registers-err : (n : SessionTold) (e : DataError) → 0 < length x.chunks → PutGiven b n x now (Err e) → Registers b n x now (Err e)
        registers-err n e some p = record {
          keeps = p.keeps;
          listed = p.listed;
          same = go p.err;
          again = tt;
          new = tt;
          err = p.err;
          counts = p.counts;
          finalized = never;
          unfailed = tt;
          said = λ none. says-err n e (p.said none);
          refused = λ q new low g h. not-both b.failed g sound h;
          idle = λ q r. put-nothing (length x.chunks) r fresh some;
          why = inr (inl p.why);
        }
          where
            go : RegisterStopped b n x now e → Changed b n
            go (inl q) = changed-same b n q
            go (inr (inl w)) = changed-refused b n w
            go (inr (inr w)) = changed-put b n x now (Err e) w

        pub registers-put : (n : SessionTold) (u : Unit {0}) → 0 < length x.chunks → PutGiven b n x now (Ok u) → Registers b n x now (Ok true)
        registers-put n u some p =
            let put : WasPut b n x [] now (Ok tt) = p.ok in
            record {
              keeps = p.keeps;
              listed = p.listed;
              same = changed-put b n x now (Ok tt) put;
              again = λ q. absurd (false≢true (sym q));
              new = λ q. record { new = fresh; put = inr (some, put) };
              err = tt;
              counts = p.counts;
              finalized = never;
              unfailed = λ q low. ap (λ (z : SessionTold). z.failed) put.same ∙ sound;
              said = λ none. says-none n (Ok true) (ap (λ (z : SessionTold). z.failed) put.same ∙ sound);
              refused = λ q new low g h. not-both b.failed g sound h;
              idle = λ q r. tt;
              why = tt;
            }

-- ---- the names of the files that are finished

-- a xorb was put, and its files name it or what is listed
pub named-put : (b n : SessionTold) (x : Xorb) (u : Unit {0}) → PutRaw b n x (Ok u) → (hs : List MerkleHash) → (b.finalized ≡ false → All (Contains (b.listed ++ x.hash ∷ [])) hs) → n.failed ≡ None → n.finalized ≡ false → All (Contains n.listed) hs
named-put b n x u r hs named f z =
    let is : n ≡ record b { uploader = n.uploader; listed = b.listed ++ x.hash ∷ []; registered = b.registered ++ x.hash ∷ []; metrics = with_sent b.metrics r.sent } = r.ok in
    let P : List MerkleHash → Type 0 = λ l. All (Contains l) hs in
    subst P (sym (ap (λ (t : SessionTold). t.listed) is)) (named (sym (ap (λ (t : SessionTold). t.finalized) is) ∙ z))

module _ (b t : SessionTold) (r : RawXorbData × List PendingFile) (took : TookWaiting b t (Ok r)) (sound : b.failed ≡ None) (has : HasListed b) where
  took-same : t ≡ without_waiting b
  took-same = took.ok

  took-hash : r.0.xorb.hash ≡ waiting_hash b
  took-hash = let xorb : r.0.xorb ≡ xorb_of_chunks b.waiting.chunks = took.xorb in ap (λ (x : Xorb). x.hash) xorb

  took-files : map (λ p. p.info) r.1 ≡ waiting_records b
  took-files = took.files

  listed-before : t.finalized ≡ false → IsListed b
  listed-before z = has.all sound (sym (ap (λ (s : SessionTold). s.finalized) took-same) ∙ z)

  same-list : t.listed ≡ b.listed
  same-list = ap (λ (s : SessionTold). s.listed) took-same

  -- what waits is to be put
  pub names-cut : t.finalized ≡ false → All (Contains (t.listed ++ r.0.xorb.hash ∷ [])) (names_of (map (λ p. p.info) r.1))
  names-cut z =
      let l = b.listed ++ waiting_hash b ∷ [] in
      let waits = All-weaker (Contains b.listed) (Contains l) (λ h c. Contains-append_left b.listed (waiting_hash b ∷ []) h c) (waiting_names b.waiting.files) (listed-before z).waiting in
      let all = names-listed l (waiting_hash b) b.waiting.files (fine-known l (waiting_hash b) (Contains-push b.listed (waiting_hash b)) b.waiting.files) waits in
      let P : List MDBFileInfo → Type 0 = λ fs. All (Contains (t.listed ++ r.0.xorb.hash ∷ [])) (names_of fs) in
      let Q : MerkleHash → Type 0 = λ h. All (Contains (t.listed ++ h ∷ [])) (names_of (waiting_records b)) in
      let R : List MerkleHash → Type 0 = λ hs. All (Contains (hs ++ waiting_hash b ∷ [])) (names_of (waiting_records b)) in
      subst P (sym took-files) (subst Q (sym took-hash) (subst R (sym same-list) all))

  -- nothing is to be put
  pub names-still : (k : ℕ) → k ≡ length b.waiting.chunks → AreCounted (length b.waiting.chunks) b.waiting.files → (k ≡ 0) ⊎ Contains t.registered r.0.xorb.hash → t.failed ≡ None → t.finalized ≡ false → All (Contains t.listed) (names_of (map (λ p. p.info) r.1))
  names-still k count counted why f z =
      let all = names-listed b.listed (waiting_hash b) b.waiting.files (fine why) (listed-before z).waiting in
      let P : List MDBFileInfo → Type 0 = λ fs. All (Contains t.listed) (names_of fs) in
      let R : List MerkleHash → Type 0 = λ hs. All (Contains hs) (names_of (waiting_records b)) in
      subst P (sym took-files) (subst R (sym same-list) all)
    where
      known : Contains t.registered r.0.xorb.hash → Contains b.registered (waiting_hash b)
      known c =
          let P : List MerkleHash → Type 0 = λ l. Contains l r.0.xorb.hash in
          subst (λ (h : MerkleHash). Contains b.registered h) took-hash (subst P (ap (λ (s : SessionTold). s.registered) took-same) c)

      fine : (k ≡ 0) ⊎ Contains t.registered r.0.xorb.hash → AreFine b.listed (waiting_hash b) b.waiting.files
      fine (inl e) = fine-empty b.listed (waiting_hash b) b.waiting.files (subst (λ (j : ℕ). AreCounted j b.waiting.files) (sym count ∙ e) counted)
      fine (inr c) = fine-known b.listed (waiting_hash b) (All-contains (Contains b.listed) b.registered (waiting_hash b) (listed-before z).put (known c)) b.waiting.files
