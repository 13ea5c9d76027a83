-- What uploads tell the tracker, and the calls of the session that they make.
use Rattle.std.proofs.Common.{All, ◌≡◌, ℕ, ◌+◌, ◌-◌, ◌<◌, ◌^◌, ◌⊎◌, inl, inr, Bool, true, false, eqb, List, [], ◌∷◌, refl, sym, ◌∙◌, ap, subst, ◌++◌}
use Rattle.std.specs.Prelude.{Option, Some, None, is_some, Result, Ok, Err, OnOk, OnErr}
use Rattle.std.proofs.lemmas.Bool.{false≢true}
use Rattle.std.proofs.lemmas.Bool.Decides.{eqb_tells}
use Rattle.std.proofs.lemmas.List.{append-nil}
use Rattle.std.proofs.lemmas.List.Concat.{flat_map-append}
use Rattle.std.proofs.lemmas.List.Elements.{All-weaker, All-head, All-tail}
use Rattle.xet_base.specs.declared.invalid.Invalid.{Invalid}
use Rattle.xet_base.specs.declared.item_id.UniqueID.{UniqueID}
use Rattle.xet_base.specs.declared.merklehash.MerkleHash.{MerkleHash}
use Rattle.xet_pointer.specs.declared.xet_file_info.XetFileInfo.{XetFileInfo}
use Rattle.xet_progress_state.specs.Counts.{new_file, sizes}
use Rattle.xet_progress_state.specs.declared.step.TrackerStep.{TrackerStep}
use Rattle.xet_progress_state.specs.declared.step.TrackerStep.TheVariants.{AssertComplete, IncrementFileSize, IsComplete, RegisterDependencies, RegisterNewFile, RegisterNewXorb, RegisterXorbUploadCompletion, RegisterXorbUploadProgress, RegisterXorbUploadProgressBackground, Status}
use Rattle.xet_outside.specs.Told.{SourceTold}
use Rattle.xet_upload.specs.declared.data_error.DataError.{DataError}
use Rattle.xet_upload.specs.declared.data_error.DataError.TheVariants as data_error
use Rattle.xet_upload.specs.declared.metrics.DeduplicationMetrics.{DeduplicationMetrics}
use Rattle.xet_upload_session.specs.Calls.{finalized_error}
use Rattle.xet_upload_session.specs.Sessions.{HasListed, SessionTold}
use Rattle.xet_upload_session.specs.Trackings.{StartsFile, ids_used_up}
use Rattle.xet_upload.specs.declared.sha256_policy.Sha256Policy.{Sha256Policy}
use Rattle.xet_clean.specs.Cleaners.{Cleaner, Finishes, IsEndError, IsNewCleaner, IsOwnError, PassesTotal}
use Rattle.xet_clean_parts.specs.Cleanings.{IsFirstUnlisted}
use Rattle.xet_clean_parts.specs.FileCalls.{IsFor, IsLate, IsPartOf, IsUploadCall, RefusedOf, RefusesFor, TellsOf, IsXorbCall}
use Rattle.xet_clean_parts.specs.Places.{Telling}
use Rattle.xet_clean_parts.specs.Premises.{IsOpen}
use Rattle.xet_clean_parts.specs.SessionCalls.{Calls, CallsAll, CallsOf, CallsOnce, UploadsOnce}
use Rattle.xet_clean.specs.FileEnds.{CutsAndTakes, EndsFile, IsSame, TookFile, unit_of}
use Rattle.xet_upload_files.specs.Uploads.{FileTold, IsFileError, IsUploadError}
use Rattle.xet_upload_files.specs.steps.Uploading.{Pours}
use Rattle.xet_upload_files.proofs.EndCalls.{ends-tells, part-xorb, ends-calls}
use Rattle.xet_clean.proofs.CallerLemmas.{never-failed}
use Rattle.xet_clean_parts.proofs.CallerLemmas.{refuses-wider, tells-both, tells-none, tracks-tells, tells-wider}
use Rattle.xet_clean_parts.proofs.CallerLemmas.{of-both}
use Rattle.xet_upload_files.proofs.Uploading.{file-unlisted}
use Rattle.xet_clean_parts.proofs.CallerLemmas.{ok-err}

-- ---- answers

-- after an Ok no error is left to tell of
pub tells-any : {A B : Type 0} (K : TrackerStep → Type 0) (own more : DataError → Type 0) (b n : List TrackerStep)
    (x : A) (y : B) → TellsOf K own b n (Ok x) → TellsOf K more b n (Ok y)
tells-any K own more b n x y t = record { calls = t.calls; accepted = t.accepted; are = t.are; refused = tt }

-- an error that is no invalid operation
pub tells-stopped : {A B : Type 0} (K : TrackerStep → Type 0) (own more : DataError → Type 0) (b n : List TrackerStep)
    (x : A) (e : DataError) → TellsOf K own b n (Ok x) → ((why : Invalid) → e ≡ data_error.InvalidOperation why → ⊥)
    → TellsOf {A = B} K more b n (Err e)
tells-stopped K own more b n x e t f = record {
  calls = t.calls;
  accepted = t.accepted;
  are = t.are;
  refused = λ why q. absurd (f why q);
}

pub io-valid : (why : Invalid) → data_error.IOError ≡ data_error.InvalidOperation why → ⊥
io-valid why q = cc

pub ended-valid : (m n : ℕ) (why : Invalid) → data_error.SourceEnded m n ≡ data_error.InvalidOperation why → ⊥
ended-valid m n why q = cc

-- a call that tells of xorbs is one of an upload
pub xorb-upload : (c : TrackerStep) → IsXorbCall c → IsUploadCall c
xorb-upload (RegisterNewFile s) p = absurd p
xorb-upload (IncrementFileSize f k) p = absurd p
xorb-upload (RegisterDependencies ds) p = tt
xorb-upload (RegisterNewXorb h k) p = tt
xorb-upload (RegisterXorbUploadCompletion h) p = tt
xorb-upload (RegisterXorbUploadProgress h k) p = absurd p
xorb-upload (RegisterXorbUploadProgressBackground h k) p = absurd p
xorb-upload Status p = absurd p
xorb-upload IsComplete p = absurd p
xorb-upload AssertComplete p = absurd p

-- ---- bytes of a source

-- a call for a file of a fixed size
for-upload : (file : ℕ) (size : Option ℕ) (n total : ℕ) → size ≡ Some total → (c : TrackerStep)
    → IsFor file size n c → IsXorbCall c
for-upload file size n total e (RegisterNewFile s) p = absurd p
for-upload file size n total e (IncrementFileSize f k) p =
    absurd (false≢true (ap (λ (o : Option ℕ). is_some o) (sym p.2 ∙ e)))
for-upload file size n total e (RegisterDependencies ds) p = tt
for-upload file size n total e (RegisterNewXorb h k) p = tt
for-upload file size n total e (RegisterXorbUploadCompletion h) p = tt
for-upload file size n total e (RegisterXorbUploadProgress h k) p = absurd p
for-upload file size n total e (RegisterXorbUploadProgressBackground h k) p = absurd p
for-upload file size n total e Status p = absurd p
for-upload file size n total e IsComplete p = absurd p
for-upload file size n total e AssertComplete p = absurd p

module _ (file n total : ℕ) (size : Option ℕ) (fixed : size ≡ Some total) (b after : List TrackerStep)
    (own more : DataError → Type 0) where
  pub piece-tells : {A B : Type 0} (x : A) (y : B) → TellsOf (IsFor file size n) own b after (Ok x)
      → TellsOf IsXorbCall more b after (Ok y)
  piece-tells x y t = record {
    calls = t.calls;
    accepted = t.accepted;
    are = All-weaker (IsFor file size n) IsXorbCall (for-upload file size n total fixed) t.calls t.are;
    refused = tt;
  }

  pub piece-refused : {A B : Type 0} (e : DataError) → (own e → more e)
      → TellsOf {A = A} (IsFor file size n) own b after (Err e) → TellsOf {A = B} IsXorbCall more b after (Err e)
  piece-refused e f t = record {
    calls = t.calls;
    accepted = t.accepted;
    are = All-weaker (IsFor file size n) IsXorbCall (for-upload file size n total fixed) t.calls t.are;
    refused = λ why q. side why (t.refused why q);
  }
    where
      side : (why : Invalid) → own e ⊎ RefusesFor (IsFor file size n) b after why
          → more e ⊎ RefusesFor IsXorbCall b after why
      side why (inl p) = inl (f p)
      side why (inr r) = inr (refuses-wider (IsFor file size n) IsXorbCall (for-upload file size n total fixed)
          b after why r)

-- a cleaner that has not failed, and whose size isn't passed, has no error of its own
pub own-late : (x y : Bool) (c : Cleaner) (bytes : List ℕ) (e : DataError) → x ≡ y → c.failed ≡ None
    → (PassesTotal c bytes → ⊥) → IsOwnError x c bytes e → IsLate y e
own-late x y c bytes e same none fits (inl l) = (l.0, sym same ∙ l.1)
own-late x y c bytes e same none fits (inr (inl k)) = never-failed c.failed e none k
own-late x y c bytes e same none fits (inr (inr q)) = absurd (fits q.1)

-- ---- the begin of a file

pub start-tells : (own : DataError → Type 0) (before after : List TrackerStep) (i j : ℕ) (fin : Bool) (size : ℕ)
    (answer : Result (UniqueID × ℕ) DataError) → ((e : DataError) → IsLate fin e → own e)
    → ((e : DataError) → i ≡ 2 ^ 64 - 1 → e ≡ ids_used_up → own e)
    → StartsFile before after i j fin (Some size) answer → TellsOf IsUploadCall own before after answer
start-tells own before after i j fin size answer late used s = go fin refl
  where
    P : Result (UniqueID × ℕ) DataError → Type 0
    P a = TellsOf IsUploadCall own before after a

    begun : fin ≡ false → ((eqb i (2 ^ 64 - 1) ≡ true) × (i ≡ 2 ^ 64 - 1))
        ⊎ ((eqb i (2 ^ 64 - 1) ≡ false) × (i ≡ 2 ^ 64 - 1 → ⊥)) → P answer
    begun f (inl q) =
        let r = s.used_up f q.1 in
        subst P (sym r.0) (tells-none IsUploadCall own before after (Err ids_used_up) r.1
        (λ why z. inl (used ids_used_up q.1 refl)))
    begun f (inr q) = tracks-tells IsUploadCall own before after (RegisterNewFile (Some size)) answer tt tt
        (s.tracks f q.1)

    go : (v : Bool) → fin ≡ v → P answer
    go true f =
        let r = s.finalized f in
        subst P (sym r.0) (tells-none IsUploadCall own before after (Err finalized_error) r.1
        (λ why z. inl (late finalized_error (refl, f))))
    go false f = begun f (eqb_tells i (2 ^ 64 - 1))

-- ---- one file

-- why the end of a file refuses, where its cleaner has not failed
pub end-error : {A : Type 0} (b m n : SessionTold) (d : Cleaner) (ids : ℕ) (answer : Result A DataError)
    (file : ℕ) (before after : List TrackerStep) → m.finalized ≡ b.finalized → d.failed ≡ None
    → ((h : MerkleHash) → IsFirstUnlisted m.listed d.parts.terms h → IsOpen n → ⊥)
    → RefusedOf (IsPartOf file) (IsEndError m d) before after answer
    → RefusedOf IsXorbCall (IsFileError b n ids) before after answer
end-error b m n d ids (Ok x) file before after fin none open_now r = tt
end-error b m n d ids (Err e) file before after fin none open_now r = λ why q. side why (r why q)
  where
    side : (why : Invalid) → IsEndError m d e ⊎ RefusesFor (IsPartOf file) before after why
        → IsFileError b n ids e ⊎ RefusesFor IsXorbCall before after why
    side why (inl (inl l)) = inl (inl (l.0, sym fin ∙ l.1))
    side why (inl (inr (inl k))) = never-failed d.failed e none k
    side why (inl (inr (inr u))) = inl (inr (inr (u.0, u.2, open_now u.0 u.1)))
    side why (inr z) = inr (refuses-wider (IsPartOf file) IsXorbCall (part-xorb file) before after why z)

-- a file from its begin to its end: `a` is told before, `b` after the begin
pub file-tells : (a b m n : SessionTold) (before t1 t2 after : List TrackerStep) (i j : ℕ) {size now : ℕ}
    {policy : Sha256Policy} {tell : Telling} {source s : SourceTold} {c d : Cleaner} {r : UniqueID × ℕ}
    {answer : Result (XetFileInfo × DeduplicationMetrics) DataError} → b ≡ a → HasListed a
    → StartsFile before t1 i j a.finalized (Some size) (Ok r) → (u : Unit {0})
    → TellsOf IsXorbCall (IsLate b.finalized) t1 t2 (Ok u) → IsNewCleaner c (Some size) policy tell
    → Pours b m source s c d size (Ok u) → Finishes m n d answer
    → RefusedOf (IsPartOf d.file_id) (IsEndError m d) t2 after answer → EndsFile m n d now t2 after answer
    → TellsOf IsUploadCall (IsFileError a n i) before after answer
file-tells a b m n before t1 t2 after i j {size} {now} {policy} {tell} {source} {s} {c} {d} {r} {answer}
    same listed start u poured new p z refused e =
    let f : FileTold = record {
      name = [];
      source = source;
      size = size;
      policy = policy;
      tell = tell;
    } in
    let fin = p.leaves.keeps.finalized ∙ ap (λ (t : SessionTold). t.finalized) same in
    let here : HasListed b = subst (λ (t : SessionTold). HasListed t) (sym same) listed in
    let own = IsFileError a n i in
    let ended = ends-tells m n d _ t2 after own answer e (end-error a m n d i answer d.file_id t2 after fin p.unfailed
    (file-unlisted b m n f s c d u new p answer z here) refused) in
    let first = start-tells own before t1 i j a.finalized size (Ok _) (λ x l. inl l)
    (λ x k q. inr (inl (k, q))) start in
    let later = tells-both IsXorbCall own t1 t2 after u (tells-any IsXorbCall (IsLate b.finalized) own t1 t2 u u poured)
    answer ended in
    let all = tells-wider IsXorbCall IsUploadCall xorb-upload own t1 after answer later in
    tells-both IsUploadCall own before t1 after _ first answer all

-- ---- the files that the tracker knows

-- calls that tell of xorbs begin no file
no-files : (c : TrackerStep) → IsXorbCall c → new_file c ≡ []
no-files (RegisterNewFile s) p = absurd p
no-files (IncrementFileSize f k) p = absurd p
no-files (RegisterDependencies ds) p = refl
no-files (RegisterNewXorb h k) p = refl
no-files (RegisterXorbUploadCompletion h) p = refl
no-files (RegisterXorbUploadProgress h k) p = absurd p
no-files (RegisterXorbUploadProgressBackground h k) p = absurd p
no-files Status p = absurd p
no-files IsComplete p = absurd p
no-files AssertComplete p = absurd p

sizes-none : (calls : List TrackerStep) → All IsXorbCall calls → sizes calls ≡ []
sizes-none [] a = refl
sizes-none (c ∷ cs) a =
    let one = no-files c (All-head IsXorbCall c cs a) in
    ap (λ (l : List (Option ℕ)). l ++ sizes cs) one ∙ sizes-none cs (All-tail IsXorbCall c cs a)

sizes-same : (before after calls : List TrackerStep) → after ≡ before ++ calls → All IsXorbCall calls
    → sizes after ≡ sizes before
sizes-same before after calls e a = ap sizes e ∙ flat_map-append new_file before calls
    ∙ ap (λ (l : List (Option ℕ)). sizes before ++ l) (sizes-none calls a) ∙ append-nil (sizes before)

-- a file that was begun
start-told : (before after : List TrackerStep) (i j : ℕ) (fin : Bool) (size : ℕ) (r : UniqueID × ℕ)
    → StartsFile before after i j fin (Some size) (Ok r) → after ≡ before ++ RegisterNewFile (Some size) ∷ []
start-told before after i j fin size r s = go fin refl
  where
    begun : fin ≡ false → ((eqb i (2 ^ 64 - 1) ≡ true) × (i ≡ 2 ^ 64 - 1))
        ⊎ ((eqb i (2 ^ 64 - 1) ≡ false) × (i ≡ 2 ^ 64 - 1 → ⊥)) → after ≡ before ++ RegisterNewFile (Some size) ∷ []
    begun f (inl q) = let u = s.used_up f q.1 in ok-err r ids_used_up u.0
    begun f (inr q) = let t = s.tracks f q.1 in t.ok.1

    go : (v : Bool) → fin ≡ v → after ≡ before ++ RegisterNewFile (Some size) ∷ []
    go true f = let u = s.finalized f in ok-err r finalized_error u.0
    go false f = begun f (eqb_tells i (2 ^ 64 - 1))

pub file-sizes : {A : Type 0} {B : Type 0} (before t1 t2 after : List TrackerStep) (i j : ℕ) (fin : Bool) (size : ℕ)
    (r : UniqueID × ℕ) (own : DataError → Type 0) (x : B) (m n : SessionTold) (d : Cleaner) (now : ℕ)
    (answer : Result A DataError) → StartsFile before t1 i j fin (Some size) (Ok r)
    → TellsOf IsXorbCall own t1 t2 (Ok x) → EndsFile m n d now t2 after answer
    → sizes after ≡ sizes before ++ Some size ∷ []
file-sizes before t1 t2 after i j fin size r own x m n d now answer start poured e =
    let ended = ends-calls m n d now t2 after answer e in
    sizes-same t2 after ended.0 ended.1 ended.2 ∙ sizes-same t1 t2 poured.calls poured.accepted poured.are
    ∙ ap sizes (start-told before t1 i j fin size r start)
    ∙ flat_map-append new_file before (RegisterNewFile (Some size) ∷ [])

-- ---- several files

-- an error of one file is one of the call
file-error : (a b n : SessionTold) (ids at k count : ℕ) (e : DataError) → b.finalized ≡ a.finalized → at ≡ ids + k
    → k < count → IsFileError b n at e → IsUploadError a n ids count e
file-error a b n ids at k count e fin is lt (inl l) = inl (l.0, sym fin ∙ l.1)
file-error a b n ids at k count e fin is lt (inr (inl q)) = inr (inl (k, lt, sym is ∙ q.0, q.1))
file-error a b n ids at k count e fin is lt (inr (inr u)) = inr (inr u)

pub file-errors : {A : Type 0} (a b n : SessionTold) (ids at k count : ℕ) (e : DataError)
    (before after : List TrackerStep)
    → b.finalized ≡ a.finalized → at ≡ ids + k → k < count
    → TellsOf {A = A} IsUploadCall (IsFileError b n at) before after (Err e)
    → TellsOf {A = A} IsUploadCall (IsUploadError a n ids count) before after (Err e)
file-errors a b n ids at k count e before after fin is lt t = record {
  calls = t.calls;
  accepted = t.accepted;
  are = t.are;
  refused = λ why q. side why (t.refused why q);
}
  where
    side : (why : Invalid) → IsFileError b n at e ⊎ RefusesFor IsUploadCall before after why
        → IsUploadError a n ids count e ⊎ RefusesFor IsUploadCall before after why
    side why (inl p) = inl (file-error a b n ids at k count e fin is lt p)
    side why (inr r) = inr r

-- ---- calls of the session

module _ (now : ℕ) where
  calls-wider : (ms : List SessionTold) (b n : SessionTold) → CallsAll (CallsOnce now) ms b n
      → CallsAll (UploadsOnce now) ms b n
  calls-wider [] b n c = c
  calls-wider (m ∷ ms) b n c = (inl c.0, calls-wider ms m n c.1)

  pub calls-upload : (b n : SessionTold) → Calls now b n → CallsOf (UploadsOnce now) b n
  calls-upload b n c = (c.0, calls-wider c.0 b n c.1)

  pub uploads-same : (b n : SessionTold) → n ≡ b → CallsOf (UploadsOnce now) b n
  uploads-same b n e = ([], e)

  pub uploads-both : (b m n : SessionTold) → CallsOf (UploadsOnce now) b m → CallsOf (UploadsOnce now) m n
      → CallsOf (UploadsOnce now) b n
  uploads-both b m n one two = of-both (UploadsOnce now) b m n one two

  pub uploads-from : (a b n : SessionTold) → b ≡ a → CallsOf (UploadsOnce now) b n → CallsOf (UploadsOnce now) a n
  uploads-from a b n e c = subst (λ (t : SessionTold). CallsOf (UploadsOnce now) t n) e c

  took-once : {A : Type 0} (b n : SessionTold) (d : Cleaner) (before after : List TrackerStep)
      (answer : Result A DataError) → TookFile b n d now before after answer → CallsOf (UploadsOnce now) b n
  took-once b n d before after (Ok x) t = (
    t.later ∷ n ∷ [],
    (inr (inl (t.taken, unit_of (Ok x), t.takes)), (inr (inr (d.counts, t.counted)), refl)),
  )
  took-once b n d before after (Err e) t =
      (t.later ∷ [], (inr (inl (t.taken, Err e, t.takes)), t.uncounted))

  pub ends-once : {A : Type 0} (b n : SessionTold) (d : Cleaner) (before after : List TrackerStep)
      (answer : Result A DataError) → EndsFile b n d now before after answer → CallsOf (UploadsOnce now) b n
  ends-once {A = A} b n d before after answer e =
      uploads-both b e.middle n (calls-upload b e.middle e.calls) (rest answer e.ok e.err)
    where
      rest : (a : Result A DataError) → OnOk a (CutsAndTakes b e.middle n d e.ended now e.told after a)
          → OnErr a (IsSame e.middle n e.told after ⊎ CutsAndTakes b e.middle n d e.ended now e.told after a)
          → CallsOf (UploadsOnce now) e.middle n
      rest (Ok x) t u = took-once e.middle n e.ended e.told after (Ok x) t.took
      rest (Err x) t (inl u) = uploads-same e.middle n u.0
      rest (Err x) t (inr u) = took-once e.middle n e.ended e.told after (Err x) u.took
