-- What a session's tracker is told of a cut.
use Rattle.std.proofs.Common.{◌≡◌, ℕ, ◌+◌, ◌<◌, ◌≤◌, ◌⊎◌, inl, inr, Bool, true, false, List, [], ◌∷◌, ◌++◌, length, map, refl, sym, ◌∙◌, ap, subst, arith}
use Rattle.std.specs.Prelude.{Option, None, is_some, ltb, Result, Ok, Err, IfOk, IfErr, OnOk, OnErr}
use Rattle.std.specs.List.{AllZip, concat, filter}
use Rattle.std.proofs.lemmas.Bool.{false≢true}
use Rattle.xet_base.specs.declared.error.OutOfMemory.{OutOfMemory}
use Rattle.xet_base.specs.declared.merklehash.MerkleHash.{MerkleHash}
use Rattle.xet_base.specs.declared.mdb_shard.Xorb.{Xorb}
use Rattle.xet_base.specs.declared.mdb_shard.MDBFileInfo.{MDBFileInfo}
use Rattle.xet_base.specs.Records.{Describes}
use Rattle.xet_outside.specs.declared.client.ClientError.{ClientError}
use Rattle.xet_progress_state.specs.declared.step.FileXorbDependency.{FileXorbDependency}
use Rattle.xet_progress_state.specs.declared.step.TrackerStep.{TrackerStep}
use Rattle.xet_progress_state.specs.declared.step.TrackerStep.TheVariants.{RegisterDependencies, RegisterNewXorb}
use Rattle.xet_upload.specs.Waitings.{IsPending, Waiting, no_waiting, xorb_of_chunks}
use Rattle.xet_upload.specs.declared.data_error.DataError.{DataError}
use Rattle.xet_upload.specs.declared.data_error.DataError.TheVariants as data_error
use Rattle.xet_upload.specs.declared.metrics.DeduplicationMetrics.{DeduplicationMetrics}
use Rattle.xet_session_end.specs.Ends.{EndsBehind}
use Rattle.xet_waiting.specs.declared.raw_xorb.PendingFile.{PendingFile}
use Rattle.xet_waiting.specs.declared.raw_xorb.RawXorbData.{RawXorbData}
use Rattle.xet_waiting.specs.declared.waiting.WaitingFile.{WaitingFile}
use Rattle.xet_upload_session.specs.Calls.{as_finalized, waiting_hash}
use Rattle.xet_upload_parts.specs.Thresholds.{FitTogether, waiting_bytes}
use Rattle.xet_upload_session.specs.Completions.{with_waiting}
use Rattle.xet_upload_session.specs.Sessions.{SessionTold}
use Rattle.xet_upload_parts.specs.TrackerCalls.{CalledSome, with_calls}
use Rattle.xet_upload_session.specs.Trackings.{CountsPut, TracksCut, TracksFile, cut_calls, own_part}
use Rattle.xet_upload_parts.specs.CutNotes.{NotesCut, note_calls, part_of, parts_of}
use Rattle.xet_upload_session.specs.steps.SessionSteps.{PutCounted, TookWaiting}
use Rattle.xet_upload_parts.proofs.CallerLemmas.{called-none}
use Rattle.xet_upload_session.proofs.Cuts.{count-infos, map-infos}
use Rattle.xet_upload_session.proofs.Ends.{end_of}
use Rattle.xet_upload_session.proofs.Tracking.{counts-err, counts-ok, not-longer}

-- ---- what a tracker is told of a xorb that is cut

-- ---- the waiting data's calls

pub map-parts : (h : MerkleHash) (fs : List WaitingFile) (ps : List PendingFile) → AllZip (IsPending h) fs ps → map (part_of h) ps ≡ map (own_part h) fs
map-parts h [] [] z = refl
map-parts h [] (p ∷ ps) z = absurd z
map-parts h (f ∷ fs) [] z = absurd z
map-parts h (f ∷ fs) (p ∷ ps) z =
    let id = z.0.file_id in
    let bytes = z.0.bytes in
    let tail = map-parts h fs ps z.1 in
    let head : part_of h p ≡ own_part h f = ap (λ (k : ℕ). record { file_id = k; xorb_hash = h; n_bytes = p.bytes_in_xorb; is_external = false }) id ∙ ap (λ (k : ℕ). record { file_id = f.file_id; xorb_hash = h; n_bytes = k; is_external = false }) bytes in
    ap (λ (d : FileXorbDependency). d ∷ map (part_of h) ps) head ∙ ap (λ (ds : List FileXorbDependency). own_part h f ∷ ds) tail

-- what waits is taken where there was memory
pub took-so : (b m : SessionTold) → m ≡ b → (w : Waiting) (answer : Result (RawXorbData × List PendingFile) OutOfMemory) → IfOk answer (λ r. r.0.xorb ≡ xorb_of_chunks m.waiting.chunks) → IfOk answer (λ r. Describes r.0.xorb_info r.0.xorb)
    → IfOk answer (λ r. AllZip (IsPending (waiting_hash m)) m.waiting.files r.1) → OnOk answer (w ≡ no_waiting) → OnErr answer (w ≡ m.waiting) → TookWaiting b (record m { waiting = w }) answer
took-so b m e w answer xorb describes files emptied kept =
    subst (λ (z : SessionTold). TookWaiting z (record m { waiting = w }) answer) e (go answer xorb describes files emptied kept)
  where
    go : (a : Result (RawXorbData × List PendingFile) OutOfMemory) → IfOk a (λ r. r.0.xorb ≡ xorb_of_chunks m.waiting.chunks) → IfOk a (λ r. Describes r.0.xorb_info r.0.xorb) → IfOk a (λ r. AllZip (IsPending (waiting_hash m)) m.waiting.files r.1) → OnOk a (w ≡ no_waiting)
        → OnErr a (w ≡ m.waiting) → TookWaiting m (record m { waiting = w }) a
    go (Ok r) x d f q k = record {
      ok = ap (λ (v : Waiting). record m { waiting = v }) q;
      err = tt;
      xorb = x;
      describes = d;
      files = map-infos (waiting_hash m) m.waiting.files r.1 f;
      parts = map-parts (waiting_hash m) m.waiting.files r.1 f;
    }
    go (Err y) x d f q k = record { ok = tt; err = ap (λ (v : Waiting). record m { waiting = v }) k; xorb = tt; describes = tt; files = tt; parts = tt }

-- there is room for its files
pub took-space : (h : MerkleHash) (fs : List WaitingFile) (have room count : ℕ) (answer : Result (RawXorbData × List PendingFile) OutOfMemory) → IfOk answer (λ r. AllZip (IsPending h) fs r.1) → count ≡ length fs → have + count ≤ room → IfOk answer (λ r. have + length r.1 ≤ room)
took-space h fs have room count (Ok r) z is low = omega (arith, low, is, count-infos h fs r.1 z)
took-space h fs have room count (Err e) z is low = tt

-- what was taken is told as what waited
took-calls : (b t : SessionTold) (r : RawXorbData × List PendingFile) → TookWaiting b t (Ok r) → note_calls r.0 r.1 ≡ cut_calls b
took-calls b t r took =
    let xorb : r.0.xorb ≡ xorb_of_chunks b.waiting.chunks = took.xorb in
    let hash : r.0.xorb.hash ≡ waiting_hash b = ap (λ (x : Xorb). x.hash) xorb in
    let bytes : r.0.xorb_info.num_bytes ≡ waiting_bytes b.waiting = took.describes.num_bytes ∙ ap (λ (x : Xorb). length (concat x.chunks)) xorb in
    let parts : map (part_of (waiting_hash b)) r.1 ≡ map (own_part (waiting_hash b)) b.waiting.files = took.parts in
    ap (λ (h : MerkleHash). RegisterNewXorb h r.0.xorb_info.num_bytes ∷ RegisterDependencies (parts_of h r.1) ∷ []) hash
    ∙ ap (λ (k : ℕ). RegisterNewXorb (waiting_hash b) k ∷ RegisterDependencies (parts_of (waiting_hash b) r.1) ∷ []) bytes
    ∙ ap (λ (ds : List FileXorbDependency). RegisterNewXorb (waiting_hash b) (waiting_bytes b.waiting) ∷ RegisterDependencies (filter (λ d. ltb 0 d.n_bytes) ds) ∷ []) parts

-- ---- the exits of a cut

pub on_ok : {A E P : Type 0} (z : Result A E) → P → OnOk z P
on_ok (Ok t) p = p
on_ok (Err e) p = tt

-- nothing was told and put
pub cut-untold : {A : Type 0} (b n : SessionTold) (before after : List TrackerStep) (answer : Result A DataError) → n.registered ≡ b.registered → after ≡ before → TracksCut b n before after answer
cut-untold b n before after answer put same = record {
  told = before;
  some = called-none before (cut_calls b);
  all = on_ok answer (λ q. not-longer b.registered (waiting_hash b) (sym put ∙ q));
  unput = λ q. same;
  put = λ q. not-longer b.registered (waiting_hash b) (sym put ∙ q);
  kept = λ q. same;
  empty = λ q. same;
}

module _ {E : Type 0} (b t n : SessionTold) (r : RawXorbData × List PendingFile) (took : TookWaiting b t (Ok r)) (sound : b.failed ≡ None) (before told : List TrackerStep) (noted : Result (Unit {0}) E) (notes : NotesCut before told r.0 r.1 noted) where
  same_xorb : r.0.xorb ≡ xorb_of_chunks b.waiting.chunks
  same_xorb = took.xorb

  not-kept : {P : Type 0} → is_some b.failed ≡ true → P
  not-kept q = absurd (false≢true (ap (λ (o : Option ClientError). is_some o) (sym sound) ∙ q))

  some : CalledSome before told (cut_calls b)
  some = subst (λ (cs : List TrackerStep). CalledSome before told cs) (took-calls b t r took) notes.some

  empty : b.waiting.chunks ≡ [] → told ≡ before
  empty q = notes.empty (ap (λ (x : Xorb). length x.chunks) same_xorb ∙ ap length q)

  -- nothing was put
  pub cut-noted : (u : Unit {0}) → n.registered ≡ b.registered → TracksCut b n before told (Ok u)
  cut-noted u put = record {
    told = told;
    some = some;
    all = λ q. not-longer b.registered (waiting_hash b) (sym put ∙ q);
    unput = λ q. refl;
    put = λ q. not-longer b.registered (waiting_hash b) (sym put ∙ q);
    kept = λ q. not-kept q;
    empty = empty;
  }

  same_hash : r.0.xorb.hash ≡ waiting_hash b
  same_hash = ap (λ (x : Xorb). x.hash) same_xorb

  same_registered : t.registered ≡ b.registered
  same_registered = let is : t ≡ record b { waiting = record { chunks = []; files = [] } } = took.ok in ap (λ (z : SessionTold). z.registered) is

  module _ (after : List TrackerStep) (count : ℕ) (is : count ≡ length b.waiting.chunks) (low : 0 < count) where
    has-chunks : {P : Type 0} → b.waiting.chunks ≡ [] → P
    has-chunks q = absurd (omega (arith, is, low, ap length q))

    -- the xorb is on the list of those that were put
    registered-so : n.registered ≡ t.registered ++ r.0.xorb.hash ∷ [] → n.registered ≡ b.registered ++ waiting_hash b ∷ []
    registered-so q = q ∙ ap (λ (l : List MerkleHash). l ++ r.0.xorb.hash ∷ []) same_registered ∙ ap (λ (h : MerkleHash). b.registered ++ h ∷ []) same_hash

    counts-so : {A : Type 0} (answer : Result A DataError) → CountsPut told after r.0.xorb.hash answer → CountsPut told after (waiting_hash b) answer
    counts-so answer q = subst (λ (h : MerkleHash). CountsPut told after h answer) same_hash q

    -- the xorb was put, and was noted or there was no memory for it
    cut-counted : (u v : Unit {0}) → PutCounted t n told after r.0.xorb.hash (Ok u) → noted ≡ Ok v → TracksCut {A = Unit {0}} b n before after (Ok u)
    cut-counted u v p ok = record {
      told = told;
      some = some;
      all = λ q. ((subst (λ (z : Result (Unit {0}) E). OnOk z (0 < length r.0.xorb.chunks → told ≡ with_calls before (note_calls r.0 r.1))) ok notes.ok) chunks) ∙ ap (with_calls before) (took-calls b t r took);
      unput = λ q. not-longer b.registered (waiting_hash b) (sym q ∙ registered-so p.ok.0);
      put = λ q. counts-so {A = Unit {0}} (Ok u) (inl p.ok.1);
      kept = λ q. not-kept q;
      empty = λ q. has-chunks q;
    }
      where
        chunks : 0 < length r.0.xorb.chunks
        chunks = omega (arith, is, low, ap (λ (x : Xorb). length x.chunks) same_xorb)

    cut-unnoted : (u : Unit {0}) → PutCounted t n told after r.0.xorb.hash (Ok u) → TracksCut {A = Unit {0}} b n before after (Err data_error.OutOfMemory)
    cut-unnoted u p = record {
      told = told;
      some = some;
      all = tt;
      unput = λ q. not-longer b.registered (waiting_hash b) (sym q ∙ registered-so p.ok.0);
      put = λ q. counts-so {A = Unit {0}} (Err data_error.OutOfMemory) (inl p.ok.1);
      kept = λ q. not-kept q;
      empty = λ q. has-chunks q;
    }

    -- its put failed, or a store refused its record
    pub cut-stopped : (e : DataError) → PutCounted t n told after r.0.xorb.hash (Err e) → TracksCut {A = Unit {0}} b n before after (Err e)
    cut-stopped e p = go p.err
      where
        go : ((n.registered ≡ t.registered ++ r.0.xorb.hash ∷ []) × CountsPut {A = Unit {0}} told after r.0.xorb.hash (Err e)) ⊎ ((n.registered ≡ t.registered) × (is_some n.failed ≡ true) × (after ≡ told)) → TracksCut {A = Unit {0}} b n before after (Err e)
        go (inl q) = record {
          told = told;
          some = some;
          all = tt;
          unput = λ z. not-longer b.registered (waiting_hash b) (sym z ∙ registered-so q.0);
          put = λ z. counts-so (Err e) q.1;
          kept = λ z. not-kept z;
          empty = λ z. has-chunks z;
        }
        go (inr q) = record {
          told = told;
          some = some;
          all = tt;
          unput = λ z. q.2;
          put = λ z. not-longer b.registered (waiting_hash b) (sym same_registered ∙ sym q.0 ∙ z);
          kept = λ z. not-kept z;
          empty = λ z. has-chunks z;
        }

-- the xorb was put, and was noted before or there was no memory for that
pub cut-told : (b t n : SessionTold) (r : RawXorbData × List PendingFile) (took : TookWaiting b t (Ok r)) (sound : b.failed ≡ None) (before told : List TrackerStep) (noted : Result (Unit {0}) DataError) (notes : NotesCut before told r.0 r.1 noted) (after : List TrackerStep) (count : ℕ) (is : count ≡ length b.waiting.chunks) (low : 0 < count)
    → IfErr noted (λ e. e ≡ data_error.OutOfMemory) → (u : Unit {0}) → PutCounted t n told after r.0.xorb.hash (Ok u) → TracksCut b n before after noted
cut-told b t n r took sound before told (Ok v) notes after count is low memory u p = cut-counted b t n r took sound before told (Ok v) notes after count is low u v p refl
cut-told b t n r took sound before told (Err e) notes after count is low memory u p =
    subst (λ (z : DataError). TracksCut {A = Unit {0}} b n before after (Err z)) (sym memory) (cut-unnoted b t n r took sound before told (Err e) notes after count is low u p)

-- ---- the end of a session

-- the session wasn't finalized
pub first-end : {P : Type 0} (ended : Bool) → ended ≡ false → ended ≡ true → P
first-end ended first again = absurd (false≢true (sym first ∙ again))

-- the end behind the cut put no xorb, and answers the cut's error
pub ends-tracked : (b m n : SessionTold) (fs : List MDBFileInfo) (before after : List TrackerStep) (cut : Result (Unit {0}) DataError) (answer : Result DeduplicationMetrics DataError) → n.registered ≡ m.registered → EndsBehind (end_of m) (end_of n) fs cut answer → TracksCut (as_finalized b) m before after cut → TracksCut b n before after answer
ends-tracked b m n fs before after (Ok u) answer put h t = record {
  told = t.told;
  some = t.some;
  all = on_ok answer (λ q. t.all (sym put ∙ q));
  unput = λ q. t.unput (sym put ∙ q);
  put = λ q. counts-ok t.told after (waiting_hash b) u answer (t.put (sym put ∙ q));
  kept = t.kept;
  empty = t.empty;
}
ends-tracked b m n fs before after (Err e) answer put h t =
    let P : Result DeduplicationMetrics DataError → Type 0 = λ r. TracksCut b n before after r in
    subst P (sym h.uncut.1) (record {
      told = t.told;
      some = t.some;
      all = tt;
      unput = λ q. t.unput (sym put ∙ q);
      put = λ q. counts-err t.told after (waiting_hash b) e (t.put (sym put ∙ q));
      kept = t.kept;
      empty = t.empty;
    })

module _ (b n : SessionTold) (before after : List TrackerStep) where
  -- the same, of an answer of another kind
  pub tracks-err : {A B : Type 0} (e : DataError) → TracksCut {A = A} b n before after (Err e) → TracksCut {A = B} b n before after (Err e)
  tracks-err e t = record {
    told = t.told;
    some = t.some;
    all = tt;
    unput = t.unput;
    put = λ q. counts-err t.told after (waiting_hash b) e (t.put q);
    kept = t.kept;
    empty = t.empty;
  }

-- and more came, which put no xorb
pub tracks-later : {A B : Type 0} (b m n : SessionTold) (before after : List TrackerStep) (y : A) (answer : Result B DataError) → n.registered ≡ m.registered → TracksCut b m before after (Ok y) → TracksCut b n before after answer
tracks-later b m n before after y answer put t = record {
  told = t.told;
  some = t.some;
  all = on_ok answer (λ q. t.all (sym put ∙ q));
  unput = λ q. t.unput (sym put ∙ q);
  put = λ q. counts-ok t.told after (waiting_hash b) y answer (t.put (sym put ∙ q));
  kept = t.kept;
  empty = t.empty;
}

-- ---- the end of a file

module _ (b n : SessionTold) (w : Waiting) (before after : List TrackerStep) (answer : Result (Unit {0}) DataError) where
  pub file-joined : FitTogether b.thresholds b.waiting w → after ≡ before → TracksFile b n w before after answer
  file-joined fits same = record { joins = λ q. same; cuts_file = λ passes larger. absurd (passes fits); cuts_waiting = λ passes larger. absurd (passes fits) }

  module _ (passes : FitTogether b.thresholds b.waiting w → ⊥) where
    -- the file's data was cut
    pub file-cut : (a m : SessionTold) (v : Waiting) → waiting_bytes b.waiting ≤ waiting_bytes w → a ≡ with_waiting b w → n ≡ with_waiting m v → TracksCut a m before after answer → TracksFile b n w before after answer
    file-cut a m v larger is same t = record { joins = λ q. absurd (passes q); cuts_file = λ p l. cut; cuts_waiting = λ p l. absurd (omega (arith, l, larger)) }
      where
        cut : TracksCut (with_waiting b w) n before after answer
        cut = subst (λ (z : SessionTold). TracksCut (with_waiting b w) z before after answer) (sym same) (aside (subst (λ (z : SessionTold). TracksCut z m before after answer) is t))
          where
            aside : TracksCut (with_waiting b w) m before after answer → TracksCut (with_waiting b w) (with_waiting m v) before after answer
            aside k = record { told = k.told; some = k.some; all = k.all; unput = k.unput; put = k.put; kept = k.kept; empty = k.empty }

    -- what waited was cut
    pub file-waits : (m : SessionTold) → waiting_bytes w < waiting_bytes b.waiting → n.registered ≡ m.registered → TracksCut b m before after answer → TracksFile b n w before after answer
    file-waits m larger same t = record { joins = λ q. absurd (passes q); cuts_file = λ p l. absurd (omega (arith, l, larger)); cuts_waiting = λ p l. cut }
      where
        cut : TracksCut b n before after answer
        cut = record { told = t.told; some = t.some; all = all; unput = λ q. t.unput (sym same ∙ q); put = λ q. t.put (sym same ∙ q); kept = t.kept; empty = t.empty }
          where
            all : OnOk answer (n.registered ≡ b.registered ++ waiting_hash b ∷ [] → t.told ≡ with_calls before (cut_calls b))
            all = subst (λ (l : List MerkleHash). OnOk answer (l ≡ b.registered ++ waiting_hash b ∷ [] → t.told ≡ with_calls before (cut_calls b))) (sym same) t.all

-- it was cut, and then the file's data waits
pub file-waits-ok : (b m n : SessionTold) (w : Waiting) (before after : List TrackerStep) (u : Unit {0}) → (FitTogether b.thresholds b.waiting w → ⊥) → waiting_bytes w < waiting_bytes b.waiting → n.registered ≡ m.registered → TracksCut b m before after (Ok u) → TracksFile b n w before after (Ok tt)
file-waits-ok b m n w before after u passes larger same t =
    file-waits b n w before after (Ok tt) passes n larger refl (tracks-later b m n before after u (Ok tt) same t)
