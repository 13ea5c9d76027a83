-- A cleaner's end, and uploads of files, keep that what a session holds stands.
use Rattle.std.proofs.Common.{◌≡◌, ℕ, zero, suc, ◌<◌, ◌^◌, ◌⊎◌, inl, inr, Bool, true, List, [], ◌∷◌, ◌++◌, length, map, refl, sym, ◌∙◌, ap, subst, arith}
use Rattle.std.specs.Prelude.{All, Contains, None, Result, Ok, Err, OnOk, OnErr, slice_index_or}
use Rattle.std.specs.List.{concat}
use Rattle.std.proofs.lemmas.List.{append_assoc}
use Rattle.std.proofs.lemmas.List.Elements.{All-cons, All-head, All-nil, All-tail, All-weaker}
use Rattle.xet_base.specs.Store.{Store}
use Rattle.xet_progress_state.specs.declared.step.TrackerStep.{TrackerStep}
use Rattle.xet_uploader.specs.declared.uploader.Put.TheVariants as put
use Rattle.xet_upload.specs.Standing.{world}
use Rattle.xet_upload.specs.Waitings.{Waiting}
use Rattle.xet_upload.specs.declared.data_error.DataError.{DataError}
use Rattle.xet_waiting.specs.declared.waiting.WaitingFile.{WaitingFile}
use Rattle.xet_upload_parts.specs.Storable.{IsStorable}
use Rattle.xet_upload_session.specs.Calls.{Backs, Keeps}
use Rattle.xet_upload_session.specs.Sessions.{IsListed, SessionTold, Tells, log_of}
use Rattle.xet_upload_session.proofs.CallerLemmas.{keeps-both, keeps-refl, unfailed}
use Rattle.xet_clean_parts.specs.Premises.{HashesAgree, IsOpen, IsSteady, NoClash}
use Rattle.xet_clean_parts.specs.SessionCalls.{Calls, CallsAll, CallsOnce, with_counts}
use Rattle.xet_clean_parts.proofs.CallerLemmas.{agree-alone, opened, world-has}
use Rattle.xet_clean.specs.Cleaners.{Cleaner, CleanerStands, CutsChunks, IsFed, cleaned_file}
use Rattle.xet_clean.specs.FileEnds.{CutsAndTakes, EndsFile, IsSame, TookFile, unit_of}
use Rattle.xet_clean.specs.Records.{CleanedFile, WaitsFor}
use Rattle.xet_upload_files.specs.Uploads.{EndsUpload, EndsUploads, FileTold, Upload}
use Rattle.xet_upload_laws.specs.AllStand.{HoldsRecords}
use Rattle.xet_upload_laws.specs.Clashes.{PartsAgree}
use Rattle.xet_upload_laws.specs.RecordsStand.{AreWaiting, IsWaiting}
use Rattle.xet_upload_laws.proofs.Cuts.{held-grown, hashes-before}
use Rattle.xet_upload_laws.proofs.Takes.{take-held}

-- ---- parts of bytes

-- a chunk that came off the front of bytes is a part of them
pub record IsPart (bytes c : List ℕ) : Type 0 where
  pub front : List ℕ
  pub rest : List ℕ
  pub is : bytes ≡ front ++ (c ++ rest)

pub part-of-cut : (cut : List (List ℕ)) (c rest : List ℕ) → Contains cut c → IsPart (concat cut ++ rest) c
part-of-cut [] c rest d = absurd (let lt = d.1 in omega arith)
part-of-cut (x ∷ xs) c rest d = go d.0 d.1 d.2 (λ e. part-of-cut xs c rest e)
  where
    go : (i : ℕ) → i < suc (length xs) → slice_index_or (x ∷ xs) i c ≡ c
        → (Contains xs c → IsPart (concat xs ++ rest) c) → IsPart (concat (x ∷ xs) ++ rest) c
    go zero lt is next = record {
      front = [];
      rest = concat xs ++ rest;
      is = append_assoc x (concat xs) rest ∙ ap (λ (y : List ℕ). y ++ (concat xs ++ rest)) is;
    }
    go (suc i) lt is next =
        let p = next (i, omega arith, is) in
        record {
          front = x ++ p.front;
          rest = p.rest;
          is = append_assoc x (concat xs) rest ∙ ap (λ (y : List ℕ). x ++ y) p.is
              ∙ sym (append_assoc x p.front (c ++ p.rest));
        }

-- what is so of bytes is so of those behind a front
parts-behind : (s : Store) (bytes front rest : List ℕ) → bytes ≡ front ++ rest → PartsAgree s bytes → PartsAgree s rest
parts-behind s bytes front rest e a x c f r there is =
    a x c (front ++ f) r there (e ∙ ap (λ (y : List ℕ). front ++ y) is ∙ sym (append_assoc front f (c ++ r)))

-- ---- a session later

-- what was told of hashes later is so of what was there before
module _ (k : Store) (m n : SessionTold) (tells : Tells m) (keeps : Keeps m n) where
  pub hashes-kept : HashesAgree k n → HashesAgree k m
  hashes-kept a =
      let g = keeps.grew tells in
      hashes-before k m n (map put.Xorb g.xorbs) keeps.repeated.0 g.grown keeps.repeated.1 a

  pub parts-kept : (bytes : List ℕ) → PartsAgree (world k (log_of n)) bytes → PartsAgree (world k (log_of m)) bytes
  parts-kept bytes a x c front rest there is =
      let g = keeps.grew tells in
      a x c front rest (world-has k (log_of m) (log_of n) (map put.Xorb g.xorbs) g.grown x there) is

-- a session stays steady
pub steady-kept : (k : Store) (b n : SessionTold) → Keeps b n → Backs b n → HashesAgree k n → IsSteady k b
    → IsSteady k n
steady-kept k b n keeps backs agree s = record {
  tells = keeps.tells s.tells;
  backed = backs.backed s.tells s.backed;
  listed = backs.listed;
  sound = keeps.sound k s.tells (agree-alone (world k (log_of n)) n.repeated agree) s.sound;
}

-- ---- searches and given xorbs

-- a call that leaves what waits and what is finished
pub record StillHeld (b n : SessionTold) : Type 0 where
  pub keeps : Keeps b n
  pub waiting : n.waiting ≡ b.waiting
  pub finished : n.finished ≡ b.finished
  pub listed : IsListed b → n.failed ≡ None → IsListed n

once-still : (now : ℕ) (b n : SessionTold) → CallsOnce now b n → StillHeld b n
once-still now b n (inl q) = record {
  keeps = q.2.keeps;
  waiting = ap (λ (t : SessionTold). t.waiting) q.2.same;
  finished = ap (λ (t : SessionTold). t.finished) q.2.same;
  listed = q.2.listed;
}
once-still now b n (inr r) = record {
  keeps = r.2.keeps;
  waiting = ap (λ (t : SessionTold). t.waiting) r.2.same;
  finished = ap (λ (t : SessionTold). t.finished) r.2.same;
  listed = r.2.listed;
}

pub all-still : (now : ℕ) (after : List SessionTold) (b n : SessionTold) → CallsAll (CallsOnce now) after b n
    → StillHeld b n
all-still now [] b n e = record {
  keeps = keeps-refl b n e;
  waiting = ap (λ (t : SessionTold). t.waiting) e;
  finished = ap (λ (t : SessionTold). t.finished) e;
  listed = λ l f. subst (λ (t : SessionTold). IsListed t) (sym e) l;
}
all-still now (m ∷ ms) b n c =
    let one = once-still now b m c.0 in
    let rest = all-still now ms m n c.1 in
    record {
      keeps = keeps-both b m n one.keeps rest.keeps;
      waiting = rest.waiting ∙ one.waiting;
      finished = rest.finished ∙ one.finished;
      listed = λ l f. rest.listed (one.listed l (unfailed m n rest.keeps.failed f)) f;
    }

pub calls-keep : (now : ℕ) (b m : SessionTold) → Calls now b m → Keeps b m
calls-keep now b m calls = (all-still now calls.0 b m calls.1).keeps

module _ (k : Store) (b m : SessionTold) (now : ℕ) (calls : Calls now b m) (s : IsSteady k b) where
  still : StillHeld b m
  still = all-still now calls.0 b m calls.1

  pub calls-held : HoldsRecords k b → HoldsRecords k m
  calls-held h =
      let g = still.keeps.grew s.tells in
      held-grown k b m (map put.Xorb g.xorbs) g.grown still.waiting still.finished still.keeps.files h

  pub calls-steady : IsOpen m → HashesAgree k m → IsSteady k m
  calls-steady o agree =
      let was = opened b m still.keeps o in
      record {
        tells = still.keeps.tells s.tells;
        backed = λ f u. still.keeps.stands s.tells (s.backed was.unfailed was.unfinished);
        listed = record {
          all = λ f u. still.listed (s.listed.all was.unfailed was.unfinished) f;
          waits = subst (λ (w : Waiting). IsStorable w.chunks) (sym still.waiting) s.listed.waits;
        };
        sound = still.keeps.sound k s.tells (agree-alone (world k (log_of m)) m.repeated agree) s.sound;
      }

-- ---- the end of a file

-- a cleaner stands for the same bytes after chunks were cut
cleaner-cut : (k : Store) (last : Bool) (b m : SessionTold) (c d : Cleaner) (bytes : List ℕ) (z : CutsChunks last b m c d)
    → IsSteady k b → IsOpen m → NoClash k m z.cut → CleanerStands (world k (log_of b)) c bytes
    → CleanerStands (world k (log_of m)) d bytes
cleaner-cut k last b m c d bytes z s o clash a = record {
  front = a.front ++ concat z.cut;
  parts = z.cleans.stands k a.front s o clash a.parts;
  bytes_are = a.bytes_are ∙ ap (λ (p : List ℕ). a.front ++ p) z.pending
      ∙ sym (append_assoc a.front (concat z.cut) d.pending);
  fed = subst (λ (y : Cleaner). IsFed y bytes) (sym z.same) (record { count = a.fed.count; hashed = a.fed.hashed });
}

-- data of one file, which stands for its bytes
one-waits : (s : Store) (w : Waiting) (one : WaitingFile) (f : CleanedFile) → w.files ≡ one ∷ []
    → length f.bytes < 2 ^ 64 → WaitsFor s w f → AreWaiting s w
one-waits s w one f files short a = subst (λ (fs : List WaitingFile). All (IsWaiting s w.chunks) fs) (sym files)
    (All-cons (IsWaiting s w.chunks) one [] (subst (IsWaiting s w.chunks) same waits) (All-nil (IsWaiting s w.chunks)))
  where
    there : Contains (one ∷ []) a.file
    there = subst (λ (fs : List WaitingFile). Contains fs a.file) files a.is_there

    same : a.file ≡ one
    same = only there.0 there.1 there.2
      where
        only : (i : ℕ) → i < 1 → slice_index_or (one ∷ []) i a.file ≡ a.file → a.file ≡ one
        only zero lt e = sym e
        only (suc i) lt e = absurd (omega (arith, lt))

    waits : IsWaiting s w.chunks a.file
    waits = record {
      chunks = a.chunks;
      hash = a.hash ∙ a.has.hash;
      stand = a.stand;
      short = subst (λ (bs : List ℕ). length bs < 2 ^ 64) a.has.bytes short;
    }

-- the session that took the data of a file differs from the later one in its counts alone
pub same-counts : {A : Type 0} (m n : SessionTold) (d : Cleaner) (now : ℕ) (told after : List TrackerStep)
    (answer : Result A DataError) (t : TookFile m n d now told after answer)
    → n ≡ record t.later { metrics = n.metrics }
same-counts {A} m n d now told after answer t = go answer t.counted t.uncounted
  where
    by : (z : SessionTold) → n ≡ z → z ≡ record t.later { metrics = z.metrics }
        → n ≡ record t.later { metrics = n.metrics }
    by z e f = e ∙ f ∙ ap (λ (y : SessionTold). record t.later { metrics = y.metrics }) (sym e)

    go : (a : Result A DataError) → OnOk a (n ≡ with_counts t.later d.counts) → OnErr a (n ≡ t.later)
        → n ≡ record t.later { metrics = n.metrics }
    go (Ok x) e f = by (with_counts t.later d.counts) e refl
    go (Err x) e f = by t.later f refl

module _ {A : Type 0} (k : Store) (m n : SessionTold) (d : Cleaner) (now : ℕ) (told after : List TrackerStep)
    (answer : Result A DataError) (t : TookFile m n d now told after answer) (bytes : List ℕ)
    (short : length bytes < 2 ^ 64) (o : IsOpen n) (agree : HashesAgree k n) where
  abbrev counted : SessionTold
  counted = record t.later { metrics = n.metrics }

  same : n ≡ counted
  same = same-counts m n d now told after answer t

  later-agree : HashesAgree k t.later
  later-agree = subst (λ (z : SessionTold). HashesAgree k z) same agree

  later-open : IsOpen t.later
  later-open = record {
    unfailed = sym (ap (λ (z : SessionTold). z.failed) same) ∙ o.unfailed;
    unfinished = sym (ap (λ (z : SessionTold). z.finalized) same) ∙ o.unfinished;
  }

  took-parts : (bs : List ℕ) → PartsAgree (world k (log_of n)) bs → PartsAgree (world k (log_of t.later)) bs
  took-parts bs a = subst (λ (z : SessionTold). PartsAgree (world k (log_of z)) bs) same a

  -- the session before, which was open
  took-open : IsOpen m
  took-open = opened m t.later t.takes.keeps later-open

  -- what it holds, with the file
  took-held : IsSteady k m → CleanerStands (world k (log_of m)) d bytes → HoldsRecords k m → HoldsRecords k n
  took-held s stands h =
      let waits = one-waits (world k (log_of m)) t.taken t.one (cleaned_file d t.one.hash bytes) t.files short
      (t.stands (world k (log_of m)) bytes stands) in
      let held = take-held k m t.later t.taken now s.tells later-agree s.sound
      (s.backed took-open.unfailed took-open.unfinished) (s.listed.all took-open.unfailed took-open.unfinished).put
      later-open.unfailed h waits (unit_of answer) t.takes in
      subst (λ (z : SessionTold). HoldsRecords k z) (sym same) (record {
        waiting = held.waiting;
        finished = held.finished;
        recorded = held.recorded;
      })

module _ {A : Type 0} (k : Store) (b n : SessionTold) (c : Cleaner) (now : ℕ) (before after : List TrackerStep)
    (bytes : List ℕ) (s : IsSteady k b) (o : IsOpen n) (agree : HashesAgree k n)
    (parts : PartsAgree (world k (log_of n)) c.pending) (stands : CleanerStands (world k (log_of b)) c bytes)
    (short : length bytes < 2 ^ 64) (h : HoldsRecords k b) where
  -- chunks were cut, and the data was taken
  taken-held : (m : SessionTold) (d : Cleaner) (told : List TrackerStep) (answer : Result A DataError) → Calls now b m
      → CutsAndTakes b m n c d now told after answer → HoldsRecords k n
  taken-held m d told answer calls t =
      let tells = (calls-keep now b m calls).tells s.tells in
      let later = later-agree k m n d now told after answer t.took bytes short o agree in
      let is_open = took-open k m n d now told after answer t.took bytes short o agree in
      let middle = hashes-kept k m t.took.later tells t.took.takes.keeps later in
      let steady = calls-steady k b m now calls s is_open middle in
      let parts_middle = parts-kept k m t.took.later tells t.took.takes.keeps c.pending
      (took-parts k m n d now told after answer t.took bytes short o agree c.pending parts) in
      let clash : NoClash k m t.cuts.cut = record {
        xorbs = middle;
        chunks = λ x y there cut.
            let p = part-of-cut t.cuts.cut y d.pending cut in
            parts_middle x y p.front p.rest there (t.cuts.pending ∙ p.is);
      } in
      took-held k m n d now told after answer t.took bytes short o agree steady
      (cleaner-cut k true b m c d bytes t.cuts s is_open clash stands) (calls-held k b m now calls s h)

  pub ends-held : (answer : Result A DataError) → EndsFile b n c now before after answer → HoldsRecords k n
  ends-held answer e = go answer e.ok e.err
    where
      go : (a : Result A DataError) → OnOk a (CutsAndTakes b e.middle n c e.ended now e.told after a)
          → OnErr a (IsSame e.middle n e.told after ⊎ CutsAndTakes b e.middle n c e.ended now e.told after a)
          → HoldsRecords k n
      go (Ok x) t u = taken-held e.middle e.ended e.told (Ok x) e.calls t
      go (Err x) t (inl u) = subst (λ (z : SessionTold). HoldsRecords k z) (sym u.0)
          (calls-held k b e.middle now e.calls s h)
      go (Err x) t (inr u) = taken-held e.middle e.ended e.told (Err x) e.calls u

-- what is so at the end of a file was so where it began
pub record Before (k : Store) (b : SessionTold) (bytes : List ℕ) : Type 0 where
  pub hashes : HashesAgree k b
  pub is_open : IsOpen b
  pub parts : PartsAgree (world k (log_of b)) bytes

before-keeps : (k : Store) (b m : SessionTold) (bytes : List ℕ) → Tells b → Keeps b m → Before k m bytes
    → Before k b bytes
before-keeps k b m bytes tells keeps a = record {
  hashes = hashes-kept k b m tells keeps a.hashes;
  is_open = opened b m keeps a.is_open;
  parts = parts-kept k b m tells keeps bytes a.parts;
}

module _ {A : Type 0} (k : Store) (b n : SessionTold) (c : Cleaner) (now : ℕ) (before after : List TrackerStep)
    (bytes : List ℕ) (tells : Tells b) (a : Before k n bytes) where
  took-before : (m : SessionTold) (d : Cleaner) (told : List TrackerStep) (answer : Result A DataError) → Calls now b m
      → TookFile m n d now told after answer → Before k b bytes
  took-before m d told answer calls t =
      let same = same-counts m n d now told after answer t in
      let later : Before k t.later bytes = record {
        hashes = subst (λ (z : SessionTold). HashesAgree k z) same a.hashes;
        is_open = record {
          unfailed = sym (ap (λ (z : SessionTold). z.failed) same) ∙ a.is_open.unfailed;
          unfinished = sym (ap (λ (z : SessionTold). z.finalized) same) ∙ a.is_open.unfinished;
        };
        parts = subst (λ (z : SessionTold). PartsAgree (world k (log_of z)) bytes) same a.parts;
      } in
      let keeps = calls-keep now b m calls in
      before-keeps k b m bytes tells keeps (before-keeps k m t.later bytes (keeps.tells tells) t.takes.keeps later)

  ends-before : (answer : Result A DataError) → EndsFile b n c now before after answer → Before k b bytes
  ends-before answer e = go answer e.ok e.err
    where
      go : (x : Result A DataError) → OnOk x (CutsAndTakes b e.middle n c e.ended now e.told after x)
          → OnErr x (IsSame e.middle n e.told after ⊎ CutsAndTakes b e.middle n c e.ended now e.told after x)
          → Before k b bytes
      go (Ok x) t u = took-before e.middle e.ended e.told (Ok x) e.calls t.took
      go (Err x) t (inl u) = before-keeps k b e.middle bytes tells (calls-keep now b e.middle e.calls)
          (subst (λ (z : SessionTold). Before k z bytes) u.0 a)
      go (Err x) t (inr u) = took-before e.middle e.ended e.told (Err x) e.calls u.took

-- ---- uploads

-- the calls of one file keep what is held
module _ (k : Store) (b n : SessionTold) (now : ℕ) (s : IsSteady k b) (h : HoldsRecords k b) (f : FileTold)
    (bytes : List ℕ) (short : length bytes < 2 ^ 64) (a : Before k n bytes) where
  pub upload-held : (answer : Result (Unit {0}) DataError) → EndsUpload now b n f bytes answer → HoldsRecords k n
  upload-held answer e =
      ends-held k m n e.fed now e.told e.after bytes steady a.is_open a.hashes left stood short
      (calls-held k b m now e.calls s h) answer e.ends
    where
      m : SessionTold
      m = e.middle

      start : Before k m bytes
      start = ends-before k m n e.fed now e.told e.after bytes ((calls-keep now b m e.calls).tells s.tells) a answer e.ends

      steady : IsSteady k m
      steady = calls-steady k b m now e.calls s start.is_open start.hashes

      fed_bytes : bytes ≡ concat e.feeds.cut ++ e.fed.pending
      fed_bytes = subst (λ (p : List ℕ). p ++ bytes ≡ concat e.feeds.cut ++ e.fed.pending) e.is_new.pending
          e.feeds.pending

      left : PartsAgree (world k (log_of n)) e.fed.pending
      left = parts-behind (world k (log_of n)) bytes (concat e.feeds.cut) e.fed.pending fed_bytes a.parts

      clash : NoClash k m e.feeds.cut
      clash = record {
        xorbs = start.hashes;
        chunks = λ x y there cut.
            let p = part-of-cut e.feeds.cut y e.fed.pending cut in
            start.parts x y p.front p.rest there (fed_bytes ∙ p.is);
      }

      stood : CleanerStands (world k (log_of m)) e.fed bytes
      stood = e.feeds.stands k [] s start.is_open clash (e.is_new.stands (world k (log_of b)))

-- what is so of all bytes that were read
abbrev pub AllBefore : Store → SessionTold → List (List ℕ) → Type 0
AllBefore k n reads = HashesAgree k n × IsOpen n × All (PartsAgree (world k (log_of n))) reads

abbrev pub AreShort : List (List ℕ) → Type 0
AreShort reads = All (λ (bytes : List ℕ). length bytes < 2 ^ 64) reads

pub uploads-keep : (now : ℕ) (us : List Upload) (b n : SessionTold) → EndsUploads now us b n → Keeps b n
uploads-keep now [] b n e = keeps-refl b n e
uploads-keep now (u ∷ us) b n e = keeps-both b e.0 n e.1.keeps (uploads-keep now us e.0 n e.3)

pub all-before : (k : Store) (b m : SessionTold) (reads : List (List ℕ)) → Tells b → Keeps b m → AllBefore k m reads
    → AllBefore k b reads
all-before k b m reads tells keeps a = (
  hashes-kept k b m tells keeps a.0,
  opened b m keeps a.1,
  All-weaker (PartsAgree (world k (log_of m))) (PartsAgree (world k (log_of b)))
      (λ bytes p. parts-kept k b m tells keeps bytes p) reads a.2,
)

-- what is so after some uploads
pub record AfterUploads (k : Store) (n : SessionTold) : Type 0 where
  pub steady : IsSteady k n
  pub held : HoldsRecords k n

pub uploads-held : (k : Store) (n : SessionTold) (now : ℕ) (us : List Upload) (b : SessionTold) → IsSteady k b
    → HoldsRecords k b → AllBefore k n (map (λ (u : Upload). u.bytes) us)
    → AreShort (map (λ (u : Upload). u.bytes) us) → EndsUploads now us b n → AfterUploads k n
uploads-held k n now [] b s h a short e = record {
  steady = subst (λ (t : SessionTold). IsSteady k t) (sym e) s;
  held = subst (λ (t : SessionTold). HoldsRecords k t) (sym e) h;
}
uploads-held k n now (u ∷ us) b s h a short e =
    let m = e.0 in
    let more = map (λ (v : Upload). v.bytes) us in
    let one = e.1 in
    let keeps = uploads-keep now us m n e.3 in
    let tells = one.keeps.tells s.tells in
    let middle = all-before k m n (u.bytes ∷ more) tells keeps a in
    let first : Before k m u.bytes = record {
      hashes = middle.0;
      is_open = middle.1;
      parts = All-head (PartsAgree (world k (log_of m))) u.bytes more middle.2;
    } in
    let held = upload-held k b m now s h u.file u.bytes
    (All-head (λ (bytes : List ℕ). length bytes < 2 ^ 64) u.bytes more short) first (Ok tt) one in
    uploads-held k n now us m (steady-kept k b m one.keeps (one.backs s.listed) middle.0 s) held
    (a.0, a.1, All-tail (PartsAgree (world k (log_of n))) u.bytes more a.2)
    (All-tail (λ (bytes : List ℕ). length bytes < 2 ^ 64) u.bytes more short) e.3
