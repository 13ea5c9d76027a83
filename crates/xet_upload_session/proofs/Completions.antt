-- The exits of a file's end.
use Rattle.std.proofs.Common.{◌≡◌, ℕ, ◌<◌, ◌≤◌, ◌⊎◌, inl, inr, false, List, [], ◌∷◌, refl, sym, ◌∙◌, ap, subst}
use Rattle.std.specs.Prelude.{All, Contains, Option, None, Some, Result, Ok, Err, OnOk, is_some}
use Rattle.std.proofs.lemmas.Bool.{false≢true}
use Rattle.std.proofs.lemmas.List.Elements.{All-weaker, Contains-append_left}
use Rattle.xet_base.specs.declared.merklehash.MerkleHash.{MerkleHash}
use Rattle.xet_base.specs.declared.mdb_shard.Xorb.{Xorb}
use Rattle.xet_base.specs.declared.mdb_shard.MDBFileInfo.{MDBFileInfo}
use Rattle.xet_outside.specs.declared.client.ClientError.{ClientError}
use Rattle.xet_upload.specs.Waitings.{Waiting, merged}
use Rattle.xet_upload.specs.declared.data_error.DataError.{DataError}
use Rattle.xet_upload.specs.declared.data_error.DataError.TheVariants as data_error
use Rattle.xet_upload.specs.declared.metrics.DeduplicationMetrics.{DeduplicationMetrics}
use Rattle.xet_upload_session.specs.Calls.{Backs, CountsSent, Cut, CutPut, CutStill, CutStopped, Keeps, KeepsFailed, WasPut, without_waiting}
use Rattle.xet_upload_parts.specs.Thresholds.{FitTogether, waiting_bytes}
use Rattle.xet_upload_session.specs.Completions.{TakesFile, with_file_counts, with_waiting}
use Rattle.xet_upload_session.specs.Sessions.{HasListed, IsListed, SessionTold, known_of, waiting_names}
use Rattle.xet_upload_session.proofs.Ends.{backs-kept, ordered-grown, says-none, waits-same}
use Rattle.xet_upload_parts.specs.Storable.{IsStorable}
use Rattle.xet_upload_session.proofs.Keeping.{keeps-both, keeps-counted, keeps-refl, keeps-still, repeats-same}
use Rattle.xet_upload_session.proofs.Listing.{names-merged}

-- a failure that is kept stays, so none was kept before
pub unfailed : (b n : SessionTold) → KeepsFailed b n → n.failed ≡ None → b.failed ≡ None
unfailed b n k f = go b.failed refl
  where
    go : (o : Option ClientError) → b.failed ≡ o → b.failed ≡ None
    go None e = e
    go (Some x) e =
        let some = ap (λ (z : Option ClientError). is_some z) e in
        absurd (false≢true (ap (λ (z : Option ClientError). is_some z) (sym f ∙ k.stays some) ∙ some))

-- ---- the list grows

put-lists : (b n : SessionTold) (x : Xorb) (fs : List MDBFileInfo) (now : ℕ) (answer : Result (Unit {0}) DataError) → WasPut b n x fs now answer → (h : MerkleHash) → Contains b.listed h → Contains n.listed h
put-lists b n x fs now answer p h c = subst (λ (l : List MerkleHash). Contains l h) (sym (ap (λ (z : SessionTold). z.listed) p.same)) (Contains-append_left b.listed (x.hash ∷ []) h c)

same-lists : (b n : SessionTold) → n.listed ≡ b.listed → (h : MerkleHash) → Contains b.listed h → Contains n.listed h
same-lists b n e h c = subst (λ (l : List MerkleHash). Contains l h) (sym e) c

-- what was on the list before a cut is on it afterwards
pub cut-lists : (b n : SessionTold) (now : ℕ) (answer : Result (Unit {0}) DataError) → Cut b n now answer → (h : MerkleHash) → Contains b.listed h → Contains n.listed h
cut-lists b n now (Ok u) k h c = go k.ok
  where
    go : CutStill b n ⊎ CutPut b n now (Ok u) → Contains n.listed h
    go (inl s) = same-lists b n (ap (λ (z : SessionTold). z.listed) s.same) h c
    go (inr p) = put-lists (without_waiting b) n _ _ now (Ok u) p.put h c
cut-lists b n now (Err e) k h c = go k.err
  where
    go : CutStopped b n now (Err e) → Contains n.listed h
    go (inl s) = same-lists b n (ap (λ (z : SessionTold). z.listed) s) h c
    go (inr (inl s)) = same-lists b n (ap (λ (z : SessionTold). z.listed) s.same) h c
    go (inr (inr p)) = put-lists (without_waiting b) n _ _ now (Err e) p.put h c

all-lists : (b n : SessionTold) → ((h : MerkleHash) → Contains b.listed h → Contains n.listed h) → (hs : List MerkleHash) → All (Contains b.listed) hs → All (Contains n.listed) hs
all-lists b n f hs a = All-weaker (Contains b.listed) (Contains n.listed) f hs a

-- what waited aside is still listed
pub names-aside : (b a m : SessionTold) (w v : Waiting) (now : ℕ) (answer : Result (Unit {0}) DataError) → HasListed b → a ≡ with_waiting b w → v ≡ b.waiting → Cut a m now answer → m.failed ≡ None → m.finalized ≡ false → All (Contains m.listed) (waiting_names v.files)
names-aside b a m w v now answer h e is k f g =
    let P : SessionTold → Type 0 = λ z. Cut z m now answer in
    let cut : Cut (with_waiting b w) m now answer = subst P e k in
    let before = unfailed (with_waiting b w) m cut.keeps.failed f in
    let listed = h.all before (sym cut.keeps.finalized ∙ g) in
    let Q : Waiting → Type 0 = λ z. All (Contains m.listed) (waiting_names z.files) in
    subst Q (sym is) (all-lists b m (cut-lists (with_waiting b w) m now answer cut) (waiting_names b.waiting.files) listed.waiting)

-- the names of the data are still listed after a cut
pub names-after : (b m : SessionTold) (w : Waiting) (now : ℕ) (answer : Result (Unit {0}) DataError) → (b.failed ≡ None → b.finalized ≡ false → All (Contains b.listed) (waiting_names w.files)) → Cut b m now answer → m.failed ≡ None → m.finalized ≡ false → All (Contains m.listed) (waiting_names w.files)
names-after b m w now answer h k f g =
    all-lists b m (cut-lists b m now answer k) (waiting_names w.files) (h (unfailed b m k.keeps.failed f) (sym k.keeps.finalized ∙ g))

-- ---- the exits

keeps-waiting : (b : SessionTold) (w : Waiting) → Keeps b (with_waiting b w)
keeps-waiting b w = keeps-still b (with_waiting b w) refl refl refl refl refl refl (repeats-same b (with_waiting b w) refl)

counts-none : (b n : SessionTold) → n.metrics ≡ b.metrics → CountsSent b n
counts-none b n e = e ∙ sym (ap (λ (m : DeduplicationMetrics). record b.metrics { xorb_bytes_uploaded = m.xorb_bytes_uploaded }) e)

-- a cut that answers Ok had no failure before it, and has none after it
cut-unfailed : (b m : SessionTold) (now : ℕ) (answer : Result (Unit {0}) DataError) → Cut b m now answer → OnOk answer (m.failed ≡ b.failed)
cut-unfailed b m now (Ok u) k = k.unfailed ∙ sym (unfailed b m k.keeps.failed k.unfailed)
cut-unfailed b m now (Err e) k = tt

-- both fit
pub took-joined : (b n : SessionTold) (w : Waiting) (now : ℕ) → IsStorable w.chunks → FitTogether b.thresholds b.waiting w → n ≡ with_waiting b (merged b.waiting w) → TakesFile b n w now (Ok tt)
took-joined b n w now s fits e =
    let P : SessionTold → Type 0 = λ z. TakesFile b z w now (Ok tt) in
    subst P (sym e) (record {
      keeps = keeps-waiting b (merged b.waiting w);
      storable = s;
      listed = λ a l f. record { finished = l.finished; waiting = names-merged b.listed b.waiting w l.waiting a; put = l.put };
      exits = inl (record { fits = fits; ok = refl; err = tt });
      counts = refl;
      unfailed = refl;
      said = λ none. says-none (with_waiting b (merged b.waiting w)) (Ok tt) none;
      why = tt;
    })

pub took-unjoined : (b n : SessionTold) (w : Waiting) (now : ℕ) (e : DataError) → IsStorable w.chunks → FitTogether b.thresholds b.waiting w → n ≡ b → e ≡ data_error.OutOfMemory → TakesFile b n w now (Err e)
took-unjoined b n w now e s fits is why = record {
  keeps = keeps-refl b n is;
  storable = s;
  listed = λ a l f. subst (λ (z : SessionTold). IsListed z) (sym is) l;
  exits = inl (record { fits = fits; ok = tt; err = is });
  counts = counts-none b n (ap (λ (z : SessionTold). z.metrics) is);
  unfailed = tt;
  said = λ none. says-none n (Err e) (ap (λ (z : SessionTold). z.failed) is ∙ none);
  why = inl (inl (inl why));
}

-- the file's data was cut, and what waited waits on
pub took-cut : (b a m n : SessionTold) (w v : Waiting) (now : ℕ) (answer : Result (Unit {0}) DataError) → IsStorable w.chunks → (FitTogether b.thresholds b.waiting w → ⊥) → waiting_bytes b.waiting ≤ waiting_bytes w → a ≡ with_waiting b w → Cut a m now answer → n ≡ with_waiting m v → v ≡ b.waiting → TakesFile b n w now answer
took-cut b a m n w v now answer s passes larger before k same is =
    let C : SessionTold → Type 0 = λ z. Cut z m now answer in
    let cut : Cut (with_waiting b w) m now answer = subst C before k in
    let now_is : n ≡ with_waiting m b.waiting = same ∙ ap (with_waiting m) is in
    let P : SessionTold → Type 0 = λ z. TakesFile b z w now answer in
    subst P (sym now_is) (record {
      keeps = keeps-both b m (with_waiting m b.waiting) (keeps-both b (with_waiting b w) m (keeps-waiting b w) cut.keeps) (keeps-waiting m b.waiting);
      storable = s;
      listed = λ a l f.
          let after = cut.listed (record { finished = l.finished; waiting = a; put = l.put }) f in
          record { finished = after.finished; waiting = all-lists b m (cut-lists (with_waiting b w) m now answer cut) (waiting_names b.waiting.files) l.waiting; put = after.put };
      exits = inr (inl (record { passes = passes; larger = larger; middle = m; cut = cut; same = refl }));
      counts = cut.counts;
      unfailed = cut-unfailed (with_waiting b w) m now answer cut;
      said = λ none. cut.said;
      why = cut.why;
    })

-- what waited was cut, and the file's data waits
pub took-after : (b m n : SessionTold) (w : Waiting) (now : ℕ) (u : Unit {0}) → IsStorable w.chunks → (FitTogether b.thresholds b.waiting w → ⊥) → waiting_bytes w < waiting_bytes b.waiting → Cut b m now (Ok u) → n ≡ with_waiting m w → TakesFile b n w now (Ok tt)
took-after b m n w now u s passes larger cut same =
    let P : SessionTold → Type 0 = λ z. TakesFile b z w now (Ok tt) in
    subst P (sym same) (record {
      keeps = keeps-both b m (with_waiting m w) cut.keeps (keeps-waiting m w);
      storable = s;
      listed = λ a l f.
          let after = cut.listed l f in
          record { finished = after.finished; waiting = all-lists b m (cut-lists b m now (Ok u) cut) (waiting_names w.files) a; put = after.put };
      exits = inr (inr (record { passes = passes; larger = larger; middle = m; cut = cut; ok = refl; err = tt }));
      counts = cut.counts;
      unfailed = cut-unfailed b m now (Ok u) cut;
      said = λ none. cut.said;
      why = tt;
    })

-- the cut of what waited failed
pub took-uncut : (b n : SessionTold) (w : Waiting) (now : ℕ) (e : DataError) → IsStorable w.chunks → (FitTogether b.thresholds b.waiting w → ⊥) → waiting_bytes w < waiting_bytes b.waiting → Cut b n now (Err e) → TakesFile b n w now (Err e)
took-uncut b n w now e s passes larger cut = record {
  keeps = cut.keeps;
  storable = s;
  listed = λ a l f. cut.listed l f;
  exits = inr (inr (record { passes = passes; larger = larger; middle = n; cut = cut; ok = tt; err = refl }));
  counts = cut.counts;
  unfailed = tt;
  said = λ none. cut.said;
  why = cut.why;
}

-- a backed session stays backed
pub backs-taken : (b n : SessionTold) (w : Waiting) (now : ℕ) (answer : Result (Unit {0}) DataError) → HasListed b → (b.failed ≡ None → b.finalized ≡ false → All (Contains b.listed) (waiting_names w.files)) → TakesFile b n w now answer → IsStorable n.waiting.chunks → Backs b n
backs-taken b n w now answer h named k s = record {
  listed = record {
    all = λ f g.
        let e = unfailed b n k.keeps.failed f in
        let d = sym k.keeps.finalized ∙ g in
        k.listed (named e d) (h.all e d) f;
    waits = s;
  };
  backed = λ t s f g. k.keeps.stands t (s (unfailed b n k.keeps.failed f) (sym k.keeps.finalized ∙ g));
  ordered = λ t s. ordered-grown b n (known_of b) (k.keeps.grew t);
}

-- ---- counts of a file

pub keeps-merged : (b n : SessionTold) (c : DeduplicationMetrics) → n ≡ record b { metrics = with_file_counts b.metrics c } → Keeps b n
keeps-merged b n c e =
    let P : SessionTold → Type 0 = λ z. Keeps b z in
    subst P (sym e) (keeps-counted b (record b { metrics = with_file_counts b.metrics c }) refl refl refl refl refl refl (repeats-same b (record b { metrics = with_file_counts b.metrics c }) refl))

pub backs-merged : (b n : SessionTold) (c : DeduplicationMetrics) → HasListed b → n ≡ record b { metrics = with_file_counts b.metrics c } → Backs b n
backs-merged b n c h e =
    let P : SessionTold → Type 0 = λ z. IsListed z in
    backs-kept b n h (keeps-merged b n c e) (λ l f. subst P (sym e) (record { finished = l.finished; waiting = l.waiting; put = l.put })) (waits-same b n h (ap (λ (t : SessionTold). t.waiting) e))
