-- What the end of a file refuses.
use Rattle.std.proofs.Common.{◌≡◌, ℕ, ◌⊎◌, inl, inr, true, List, [], ◌∷◌, ◌++◌, refl, sym, ◌∙◌, ap, subst}
use Rattle.std.specs.Prelude.{Option, Result, Ok, Err, IfErr, OnOk, OnErr}
use Rattle.std.proofs.lemmas.List.{append-nil}
use Rattle.std.proofs.lemmas.List.Elements.{All-nil}
use Rattle.sha2.specs.Hashers.{Holds256}
use Rattle.xet_base.specs.declared.invalid.Invalid.{Invalid}
use Rattle.xet_base.specs.declared.merklehash.MerkleHash.{MerkleHash}
use Rattle.xet_base.specs.Digests.{file_hash_of}
use Rattle.xet_base.specs.Store.{Store}
use Rattle.xet_progress_state.specs.declared.step.TrackerStep.{TrackerStep}
use Rattle.xet_upload.specs.FileDatas.{Parts, with_file}
use Rattle.xet_upload.specs.Waitings.{Waiting}
use Rattle.xet_upload.specs.declared.data_error.DataError.{DataError}
use Rattle.xet_upload.specs.declared.data_error.DataError.TheVariants as data_error
use Rattle.xet_upload.specs.declared.sha256_policy.Sha256Policy.TheVariants.{Compute}
use Rattle.xet_waiting.specs.declared.waiting.WaitingFile.{WaitingFile}
use Rattle.xet_upload_session.specs.Completions.{TakesFile}
use Rattle.xet_upload_session.specs.Sessions.{SessionTold}
use Rattle.xet_upload_session.specs.Trackings.{TracksFile}
use Rattle.xet_clean.specs.Cleaners.{Cleaner, CleanerStands, CutsChunks, EndRefused, IsEndError, cleaned_file}
use Rattle.xet_clean_parts.specs.Pointers.{recorded_sha256}
use Rattle.xet_clean_parts.specs.Cleanings.{CleanFails}
use Rattle.xet_clean_parts.specs.FileCalls.{IsLate, IsPartOf, RefusedOf, RefusesFor, TellsOf}
use Rattle.xet_clean.specs.Records.{WaitsFor}
use Rattle.xet_clean_parts.specs.SessionCalls.{Calls, with_counts}
use Rattle.xet_clean.specs.FileEnds.{CutsAndTakes, EndsFile, IsSame, TookFile}
use Rattle.xet_clean.proofs.Completing.{file-waits}
use Rattle.xet_clean_parts.proofs.CallerLemmas.{end-refused}
use Rattle.xet_clean_parts.proofs.CallerLemmas.{calls-none}

-- the end was refused, with nothing cut
pub end-early : (b : SessionTold) (c : Cleaner) (e : DataError) → EndRefused b c e → IsEndError b c e
end-early b c e (inl r) = inl (r.1, r.0)
end-early b c e (inr (inl r)) = inr (inl r.1)
end-early b c e (inr (inr (fin, none, h, first, is))) = inr (inr (h, first, is))

-- a chunk of the bytes that waited was refused
pub end-uncut : (K : TrackerStep → Type 0) (b : SessionTold) (c : Cleaner) (before after : List TrackerStep)
    (e : DataError) → TellsOf {A = Unit {0}} K (IsLate b.finalized) before after (Err e)
    → (why : Invalid) → e ≡ data_error.InvalidOperation why → IsEndError b c e ⊎ RefusesFor K before after why
end-uncut K b c before after e t = λ why q. side why (t.refused why q)
  where
    side : (why : Invalid) → IsLate b.finalized e ⊎ RefusesFor K before after why
        → IsEndError b c e ⊎ RefusesFor K before after why
    side why (inl l) = inl (inl l)
    side why (inr r) = inr r

-- the session took the data or refused it, which was finalized exactly if it is
pub end-taken : {A : Type 0} (K : TrackerStep → Type 0) (b : SessionTold) (c : Cleaner)
    (before after : List TrackerStep) (m n : SessionTold) (answer : Result A DataError)
    → m.finalized ≡ b.finalized → IfErr answer (CleanFails m n) → RefusedOf K (IsEndError b c) before after answer
end-taken K b c before after m n answer f w = end-refused K (IsEndError b c) before m n after answer
    (λ e l. inl (l.0, sym f ∙ l.1)) w

-- ---- what the end of a file calls, and tells the tracker

-- the data of one file
data-alone : (p : Parts) (w : Waiting) (id : ℕ) (h : MerkleHash) (sha : Option MerkleHash) → w ≡ with_file p id h sha
    → p.own.files ≡ [] → w.files ≡ record { file_id = id; hash = h; terms = p.terms; sha256 = sha } ∷ []
data-alone p w id h sha is alone =
    let f : WaitingFile = record { file_id = id; hash = h; terms = p.terms; sha256 = sha } in
    ap (λ (z : Waiting). z.files) is ∙ ap (λ (fs : List WaitingFile). fs ++ f ∷ []) alone

module _ (b m : SessionTold) (c : Cleaner) (w : Waiting) (h : MerkleHash) (sha : Option MerkleHash)
    (ended : c.pending ≡ []) (hash_is : h ≡ file_hash_of c.parts.infos)
    (recorded : (bytes : List ℕ) → (c.policy ≡ Compute → Holds256 c.hasher bytes)
    → sha ≡ recorded_sha256 c.policy bytes)
    (is : w ≡ with_file c.parts c.file_id h sha) (alone : c.parts.own.files ≡ []) (now : ℕ)
    (before told : List TrackerStep) where
  waits : (s : Store) (bytes : List ℕ) → CleanerStands s c bytes → WaitsFor s w (cleaned_file c h bytes)
  waits s bytes a =
      let P : Waiting → Type 0 = λ z. WaitsFor s z (cleaned_file c h bytes) in
      subst P (sym is) (file-waits s c bytes c.file_id h sha ended hash_is (recorded bytes a.fed.hashed) a)

  -- the session refused the data
  pub took-err : {A : Type 0} (e : DataError) → TakesFile b m w now (Err e) → TracksFile b m w before told (Err e)
      → TookFile {A = A} b m c now before told (Err e)
  took-err e t k = record {
    taken = w;
    one = record { file_id = c.file_id; hash = h; terms = c.parts.terms; sha256 = sha };
    chunks = ap (λ (z : Waiting). z.chunks) is;
    files = data-alone c.parts w c.file_id h sha is alone;
    number = refl;
    hash = hash_is;
    sha256 = λ bytes a. recorded bytes a.hashed;
    stands = waits;
    later = m;
    takes = t;
    tracks = k;
    counted = tt;
    uncounted = refl;
  }

  -- it took them, and the counts were added
  pub took-ok : {A : Type 0} (n : SessionTold) (after : List TrackerStep) (r : A) → TakesFile b m w now (Ok tt)
      → TracksFile b m w before told (Ok tt) → n ≡ with_counts m c.counts → after ≡ told
      → TookFile b n c now before after (Ok r)
  took-ok n after r t k same untold =
      let P : List TrackerStep → Type 0 = λ l. TracksFile b m w before l (Ok tt) in
      record {
        taken = w;
        one = record { file_id = c.file_id; hash = h; terms = c.parts.terms; sha256 = sha };
        chunks = ap (λ (z : Waiting). z.chunks) is;
        files = data-alone c.parts w c.file_id h sha is alone;
        number = refl;
        hash = hash_is;
        sha256 = λ bytes a. recorded bytes a.hashed;
        stands = waits;
        later = m;
        takes = t;
        tracks = subst P (sym untold) k;
        counted = same;
        uncounted = tt;
      }

module _ {A : Type 0} (b : SessionTold) (c : Cleaner) (now : ℕ) (before : List TrackerStep) where
  -- nothing was done
  pub ends-early : (n : SessionTold) (after : List TrackerStep) (e : DataError) → n ≡ b → after ≡ before
      → EndsFile {A = A} b n c now before after (Err e)
  ends-early n after e same untold = record {
    middle = n;
    ended = c;
    calls = calls-none now b n same;
    told = after;
    parts = [];
    accepted = untold ∙ sym (append-nil before);
    are_parts = All-nil (IsPartOf c.file_id);
    ok = tt;
    err = inl (refl, refl);
  }

  -- a chunk was refused
  pub ends-uncut : {B : Type 0} (n : SessionTold) (after : List TrackerStep) (own : DataError → Type 0) (e : DataError)
      → Calls now b n → TellsOf {A = B} (IsPartOf c.file_id) own before after (Err e)
      → EndsFile {A = A} b n c now before after (Err e)
  ends-uncut n after own e calls t = record {
    middle = n;
    ended = c;
    calls = calls;
    told = after;
    parts = t.calls;
    accepted = t.accepted;
    are_parts = t.are;
    ok = tt;
    err = inl (refl, refl);
  }

  -- all were cut
  pub ends-so : {B : Type 0} (m n : SessionTold) (d : Cleaner) (told after : List TrackerStep)
      (own : DataError → Type 0) (x : B) (answer : Result A DataError) → CutsChunks true b m c d → Calls now b m
      → TellsOf (IsPartOf c.file_id) own before told (Ok x)
      → OnOk answer (TookFile m n d now told after answer)
      → OnErr answer (IsSame m n told after ⊎ TookFile m n d now told after answer)
      → EndsFile b n c now before after answer
  ends-so m n d told after own x answer cuts calls t ok err = record {
    middle = m;
    ended = d;
    calls = calls;
    told = told;
    parts = t.calls;
    accepted = t.accepted;
    are_parts = t.are;
    ok = all answer ok;
    err = none answer err;
  }
    where
      all : (a : Result A DataError) → OnOk a (TookFile m n d now told after a)
          → OnOk a (CutsAndTakes b m n c d now told after a)
      all (Ok r) t = record { cuts = cuts; took = t }
      all (Err e) t = tt

      none : (a : Result A DataError) → OnErr a (IsSame m n told after ⊎ TookFile m n d now told after a)
          → OnErr a (IsSame m n told after ⊎ CutsAndTakes b m n c d now told after a)
      none (Ok r) t = tt
      none (Err e) (inl same) = inl same
      none (Err e) (inr t) = inr (record { cuts = cuts; took = t })
