-- What records stand for is kept by a cut and by the end of a file.
use Rattle.std.proofs.Common.{◌≡◌, ℕ, ◌<◌, ◌^◌, ◌⊎◌, inl, inr, List, [], ◌∷◌, ◌++◌, length, map, refl, sym, ◌∙◌, ap, subst, arith}
use Rattle.std.specs.Prelude.{All, Contains, Option, None, is_some, Result, Ok, Err}
use Rattle.std.proofs.lemmas.Bool.{false≢true}
use Rattle.std.proofs.lemmas.List.{append-nil}
use Rattle.std.proofs.lemmas.List.Elements.{All-contains, Contains-append_left, Contains-append_right}
use Rattle.xet_base.specs.declared.merklehash.MerkleHash.{MerkleHash}
use Rattle.xet_base.specs.declared.mdb_shard.MDBFileInfo.{MDBFileInfo}
use Rattle.xet_base.specs.Store.{Store, chunks_of}
use Rattle.xet_outside.specs.declared.client.ClientError.{ClientError}
use Rattle.xet_uploader.specs.declared.uploader.Put.{Put}
use Rattle.xet_uploader.specs.declared.uploader.Put.TheVariants as put
use Rattle.xet_uploader.specs.Uploads.{xorbs_in}
use Rattle.xet_upload.specs.Standing.{AgreeOn, Stand, named, term_of, world}
use Rattle.xet_upload.specs.Waitings.{IsWithin, Waiting, file_shifted, merged, record_of_file, xorb_of_chunks}
use Rattle.xet_upload.specs.declared.data_error.DataError.{DataError}
use Rattle.xet_waiting.specs.declared.waiting.WaitingFile.{WaitingFile}
use Rattle.xet_waiting.specs.declared.waiting.WaitingTerm.{WaitingTerm}
use Rattle.xet_upload.proofs.CallerLemmas.{cut_stands, stand-before, stand-behind, stand-grown, stand-named}
use Rattle.xet_upload_session.specs.Calls.{Cut, CutPut, CutRepeated, CutStill, CutStopped, Keeps, waiting_hash, waiting_records}
use Rattle.xet_upload_session.specs.Completions.{CutsFile, CutsWaiting, Joins, TakesFile, with_waiting}
use Rattle.xet_upload_session.specs.Sessions.{SessionTold, Stands, Tells, log_of}
use Rattle.xet_upload_session.specs.Sounds.{IsSound}
use Rattle.xet_clean_parts.specs.Premises.{HashesAgree, IsOpen, IsSteady, waiting_xorb}
use Rattle.xet_clean.specs.Records.{CleanedFile, HasRecord, IsRecorded, WaitsFor}
use Rattle.xet_clean_parts.proofs.CallerLemmas.{Contains-map, agree-again, agree-put, found-agrees, listed-stored, opened, world-grew}

-- ---- a world that grows

module _ (k : Store) (log after more : List Put) (grown : after ≡ log ++ more) where
  pub waits-grown : (w : Waiting) (f : CleanedFile) → WaitsFor (world k log) w f → WaitsFor (world k after) w f
  waits-grown w f a = record {
    file = a.file;
    is_there = a.is_there;
    hash = a.hash;
    sha256 = a.sha256;
    chunks = a.chunks;
    has = a.has;
    stand = stand-grown (world k log) (world k after) (xorbs_in more)
        (world-grew k log after more grown) w.chunks a.file.terms a.chunks a.stand;
  }

  pub recorded-grown : (fs gs : List MDBFileInfo) (f : CleanedFile) → ((g : MDBFileInfo) → Contains fs g
      → Contains gs g) → IsRecorded (world k log) fs f → IsRecorded (world k after) gs f
  recorded-grown fs gs f sub a = record {
    info = a.info;
    is_there = sub a.info a.is_there;
    hash = a.hash;
    sha256 = a.sha256;
    chunks = a.chunks;
    has = a.has;
    stand = stand-grown (world k log) (world k after) (xorbs_in more) (world-grew k log after more grown) []
        (map term_of a.info.entries) a.chunks a.stand;
  }

-- ---- waiting files that become records

-- the terms of data without chunks name the xorb of any hash, since none counts in the data
stand-nameless : (s : Store) (h : MerkleHash) (ts : List WaitingTerm) (cs : List (List ℕ)) → Stand s [] ts cs
    → Stand s [] (map term_of (map (named h) ts)) cs
stand-nameless s h ts cs a = stand-named s (chunks_of s h) h refl ts cs (stand-behind s [] (chunks_of s h) ts cs a)

module _ (s : Store) (w : Waiting) (h : MerkleHash) (fs : List MDBFileInfo) (f : CleanedFile) (sub : (g : WaitingFile)
    → Contains w.files g → Contains fs (record_of_file h g)) where
  record-of : (a : WaitsFor s w f) (t : Store) → Stand t [] (map term_of (map (named h) a.file.terms)) a.chunks
      → IsRecorded t fs f
  record-of a t stand = record {
    info = record_of_file h a.file;
    is_there = sub a.file a.is_there;
    hash = a.hash;
    sha256 = a.sha256;
    chunks = a.chunks;
    has = a.has;
    stand = stand;
  }

  -- no chunk waits
  recorded-empty : w.chunks ≡ [] → WaitsFor s w f → IsRecorded s fs f
  recorded-empty none a =
      let P : List (List ℕ) → Type 0 = λ cs. Stand s cs a.file.terms a.chunks in
      record-of a s (stand-nameless s h a.file.terms a.chunks (subst P none a.stand))

  -- a xorb of the hash is there, and has these chunks
  recorded-old : chunks_of s h ≡ w.chunks → WaitsFor s w f → IsRecorded s fs f
  recorded-old is a = record-of a s (stand-named s w.chunks h is a.file.terms a.chunks a.stand)

-- the chunks were put as a xorb
recorded-put : (k : Store) (log after : List Put) (w : Waiting) (fs : List MDBFileInfo) (f : CleanedFile)
    → after ≡ log ++ put.Xorb (xorb_of_chunks w.chunks) ∷ []
    → AgreeOn (world k after).xorbs (xorb_of_chunks w.chunks).hash w.chunks
    → ((g : WaitingFile) → Contains w.files g → Contains fs (record_of_file (xorb_of_chunks w.chunks).hash g))
    → WaitsFor (world k log) w f → IsRecorded (world k after) fs f
recorded-put k log after w fs f grown agree sub a =
    record-of (world k log) w (xorb_of_chunks w.chunks).hash fs f sub a (world k after)
    (cut_stands k log after (xorb_of_chunks w.chunks) a.file.terms a.chunks grown agree a.stand)

-- ---- the records of a session that grows

module _ (b n : SessionTold) (extra : List MDBFileInfo) (finished : n.finished ≡ b.finished ++ extra) where
  sub-kept : (g : MDBFileInfo) → Contains b.finished g → Contains n.finished g
  sub-kept g c = subst (λ (fs : List MDBFileInfo). Contains fs g) (sym finished)
      (Contains-append_left b.finished extra g c)

  sub-new : (g : MDBFileInfo) → Contains extra g → Contains n.finished g
  sub-new g c = subst (λ (fs : List MDBFileInfo). Contains fs g) (sym finished)
      (Contains-append_right b.finished extra g c)

-- ---- a cut

none-more : (b n : SessionTold) → n.finished ≡ b.finished → n.finished ≡ b.finished ++ []
none-more b n e = e ∙ sym (append-nil b.finished)

-- the files that a cut adds to the finished ones
cut-finishes : (b n : SessionTold) (now : ℕ) (answer : Result (Unit {0}) DataError) → Cut b n now answer
    → (extra : List MDBFileInfo) × (n.finished ≡ b.finished ++ extra)
cut-finishes b n now (Ok u) c = (waiting_records b, c.finished)
cut-finishes b n now (Err e) c = go c.err
  where
    go : CutStopped b n now (Err e) → (extra : List MDBFileInfo) × (n.finished ≡ b.finished ++ extra)
    go (inl s) = ([], none-more b n (ap (λ (z : SessionTold). z.finished) s))
    go (inr (inl s)) = ([], none-more b n (ap (λ (z : SessionTold). z.finished) s.same))
    go (inr (inr p)) = (waiting_records b, ap (λ (z : SessionTold). z.finished) p.put.same)

module _ (k : Store) (b n : SessionTold) (now : ℕ) (tells : Tells b) (f : CleanedFile) where
  -- what was recorded stays recorded
  pub cut-recorded : (answer : Result (Unit {0}) DataError) → Cut b n now answer → IsRecorded (world k
      (log_of b)) b.finished f → IsRecorded (world k (log_of n)) n.finished f
  cut-recorded answer c a =
      let g = c.keeps.grew tells in
      let e = cut-finishes b n now answer c in
      recorded-grown k (log_of b) (log_of n) (map put.Xorb g.xorbs) g.grown b.finished n.finished f
      (sub-kept b n e.0 e.1) a

  module _ (sound : IsSound k b) (stands : Stands b) (listed : All (Contains b.listed) b.registered)
      (agree : HashesAgree k n) where
    sub-waiting : n.finished ≡ b.finished ++ waiting_records b → (g : WaitingFile) → Contains b.waiting.files g
        → Contains n.finished (record_of_file (waiting_hash b) g)
    sub-waiting finished g d =
        sub-new b n (waiting_records b) finished (record_of_file (waiting_hash b) g) (Contains-map (record_of_file
        (waiting_hash b)) b.waiting.files g d)

    -- what waited was put
    waited-put : (answer : Result (Unit {0}) DataError) → CutPut b n now answer → WaitsFor (world k
        (log_of b)) b.waiting f → IsRecorded (world k (log_of n)) n.finished f
    waited-put answer p a =
        let grown : log_of n ≡ log_of b ++ put.Xorb (waiting_xorb b) ∷ [] = p.put.log (record {
          puts =
              tells.puts;
          shards = tells.shards;
        }) in
        let finished : n.finished ≡ b.finished ++ waiting_records b = ap (λ
        (z : SessionTold). z.finished) p.put.same in
        recorded-put k (log_of b) (log_of n) b.waiting n.finished f grown
        (agree-put k n (log_of b) (waiting_xorb b) grown agree) (sub-waiting finished) a

    -- nothing was put
    waited-still : CutStill b n → WaitsFor (world k (log_of b)) b.waiting f → IsRecorded (world k
        (log_of n)) n.finished f
    waited-still s a = go s.reason
      where
        finished : n.finished ≡ b.finished ++ waiting_records b
        finished = ap (λ (z : SessionTold). z.finished) s.same

        log : log_of n ≡ log_of b
        log = ap log_of s.same

        P : List Put → Type 0
        P ps = IsRecorded (world k ps) n.finished f

        go : ((b.waiting.chunks ≡ []) × (n.repeated ≡ b.repeated)) ⊎ CutRepeated b n → IsRecorded (world k
            (log_of n)) n.finished f
        go (inl e) = subst P (sym log) (recorded-empty (world k (log_of b)) b.waiting (waiting_hash b) n.finished f
            (sub-waiting finished) e.0 a)
        go (inr c) =
            let there = All-contains (Contains b.listed) b.registered (waiting_hash b) listed c.before in
            let stored = listed-stored k b (waiting_hash b) sound stands there in
            let Q : List Put → Type 0 = λ ps. AgreeOn (world k ps).xorbs (waiting_hash b) b.waiting.chunks in
            let is = found-agrees (world k (log_of b)).xorbs (waiting_hash b) b.waiting.chunks stored
            (subst Q log (agree-again k n b.repeated (waiting_xorb b) c.told agree)) in
            subst P (sym log) (recorded-old (world k (log_of b)) b.waiting (waiting_hash b) n.finished f
            (sub-waiting finished) is a)

    -- what waited is recorded
    pub cut-waited : (u : Unit {0}) → Cut b n now (Ok u) → WaitsFor (world k (log_of b)) b.waiting f → IsRecorded
        (world k (log_of n)) n.finished f
    cut-waited u c a = go c.ok
      where
        go : CutStill b n ⊎ CutPut b n now (Ok u) → IsRecorded (world k (log_of n)) n.finished f
        go (inl s) = waited-still s a
        go (inr p) = waited-put (Ok u) p a

    -- where the cut failed, and no failed put is kept, it is recorded or waits on
    pub uncut-waited : (e : DataError) → Cut b n now (Err e) → n.failed ≡ None → WaitsFor (world k
        (log_of b)) b.waiting f → HasRecord k n f
    uncut-waited e c none a = go c.err
      where
        go : CutStopped b n now (Err e) → HasRecord k n f
        go (inl s) = subst (λ (z : SessionTold). HasRecord k z f) (sym s) (inl a)
        go (inr (inl r)) = absurd (false≢true (ap (λ (o : Option ClientError). is_some o) (sym none) ∙ r.kept))
        go (inr (inr p)) = inr (waited-put (Err e) p a)

    -- a cut keeps what records stand for
    pub cut-holds : (answer : Result (Unit {0}) DataError) → Cut b n now answer → n.failed ≡ None → HasRecord k b f
        → HasRecord k n f
    cut-holds (Ok u) c none (inr a) = inr (cut-recorded (Ok u) c a)
    cut-holds (Err e) c none (inr a) = inr (cut-recorded (Err e) c a)
    cut-holds (Ok u) c none (inl a) = inr (cut-waited u c a)
    cut-holds (Err e) c none (inl a) = uncut-waited e c none a

-- ---- a merge

pub waits-first : (s : Store) (v w : Waiting) (f : CleanedFile) → WaitsFor s v f → WaitsFor s (merged v w) f
waits-first s v w f a = record {
  file = a.file;
  is_there = Contains-append_left v.files (map (file_shifted (length v.chunks)) w.files) a.file a.is_there;
  hash = a.hash;
  sha256 = a.sha256;
  chunks = a.chunks;
  has = a.has;
  stand = stand-behind s v.chunks w.chunks a.file.terms a.chunks a.stand;
}

pub waits-second : (s : Store) (v w : Waiting) (f : CleanedFile) → IsWithin (v.chunks ++ w.chunks) → WaitsFor s w f
    → WaitsFor s (merged v w) f
waits-second s v w f within a =
    let count = within.0 in
    let few : length (v.chunks ++ w.chunks) < 2 ^ 32 = omega arith in
    record {
      file = file_shifted (length v.chunks) a.file;
      is_there = Contains-append_right v.files (map (file_shifted (length v.chunks)) w.files) (file_shifted
          (length v.chunks) a.file) (Contains-map (file_shifted (length v.chunks)) w.files a.file a.is_there);
      hash = a.hash;
      sha256 = a.sha256;
      chunks = a.chunks;
      has = a.has;
      stand = stand-before s v.chunks w.chunks few a.file.terms a.chunks a.stand;
    }

-- ---- the end of a file

module _ (k : Store) (b n : SessionTold) (w : Waiting) (now : ℕ) (steady : IsSteady k b) (open_now : IsOpen n)
    (f : CleanedFile) where
  module _ (keeps : Keeps b n) where
    was_open : IsOpen b
    was_open = opened b n keeps open_now

    stood : Stands b
    stood = steady.backed was_open.unfailed was_open.unfinished

    puts : All (Contains b.listed) b.registered
    puts = (steady.listed.all was_open.unfailed was_open.unfinished).put

  -- what waits goes on waiting, after a call that leaves it
  waits-on : Keeps b n → n.waiting ≡ b.waiting → WaitsFor (world k (log_of b)) b.waiting f → HasRecord k n f
  waits-on keeps same a =
      let g = keeps.grew steady.tells in
      let P : Waiting → Type 0 = λ v. WaitsFor (world k (log_of n)) v f in
      inl (subst P (sym same) (waits-grown k (log_of b) (log_of n) (map put.Xorb g.xorbs) g.grown b.waiting f a))

  -- a call that leaves what waits and what is finished keeps what records stand for
  pub left-holds : Keeps b n → n.waiting ≡ b.waiting → n.finished ≡ b.finished → HasRecord k b f → HasRecord k n f
  left-holds keeps same files (inl a) = waits-on keeps same a
  left-holds keeps same files (inr a) =
      let g = keeps.grew steady.tells in
      inr (recorded-grown k (log_of b) (log_of n) (map put.Xorb g.xorbs) g.grown b.finished n.finished f
      (sub-kept b n [] (none-more b n files)) a)

  -- both fit
  joins-holds : (answer : Result (Unit {0}) DataError) → Joins b n w answer → HasRecord k b f → HasRecord k n f
  joins-holds (Err e) j a = subst (λ (z : SessionTold). HasRecord k z f) (sym j.err) a
  joins-holds (Ok u) j a = subst (λ (z : SessionTold). HasRecord k z f) (sym j.ok) (go a)
    where
      go : HasRecord k b f → HasRecord k (with_waiting b (merged b.waiting w)) f
      go (inl a) = inl (waits-first (world k (log_of b)) b.waiting w f a)
      go (inr a) = inr a

  joins-taken : (u : Unit {0}) → Joins b n w (Ok u) → WaitsFor (world k (log_of b)) w f → HasRecord k n f
  joins-taken u j a = subst (λ (z : SessionTold). HasRecord k z f) (sym j.ok) (inl (waits-second (world k
      (log_of b)) b.waiting w f j.fits.within a))

  -- the file's data was cut, and what waited waits on
  module _ (keeps : Keeps b n) (answer : Result (Unit {0}) DataError) (c : CutsFile b n w now answer) where
    aside_tells : Tells (with_waiting b w)
    aside_tells = record { puts = steady.tells.puts; shards = steady.tells.shards }

    from-middle : IsRecorded (world k (log_of c.middle)) c.middle.finished f → HasRecord k n f
    from-middle a = subst (λ (z : SessionTold). HasRecord k z f) (sym c.same) (inr a)

    file-holds : HasRecord k b f → HasRecord k n f
    file-holds (inl a) = waits-on keeps (ap (λ (z : SessionTold). z.waiting) c.same) a
    file-holds (inr a) = from-middle (cut-recorded k (with_waiting b w) c.middle now aside_tells f answer c.cut a)

  file-taken : (keeps : Keeps b n) (u : Unit {0}) (c : CutsFile b n w now (Ok u)) → HashesAgree k n
      → WaitsFor (world k (log_of b)) w f → HasRecord k n f
  file-taken keeps u c agree a =
      from-middle keeps (Ok u) c (cut-waited k (with_waiting b w) c.middle now (aside_tells keeps
      (Ok u) c) f steady.sound (stood keeps) (puts keeps) (subst (λ (z : SessionTold). HashesAgree k z) c.same agree)
      u c.cut a)

  -- what waited was cut, and the file's data waits
  module _ (keeps : Keeps b n) (agree : HashesAgree k n) where
    waiting-holds : (answer : Result (Unit {0}) DataError) → CutsWaiting b n w now answer → HasRecord k b f
        → HasRecord k n f
    waiting-holds (Ok u) c (inl a) =
        let P : SessionTold → Type 0 = λ z. HashesAgree k z in
        let e : n ≡ with_waiting c.middle w = c.ok in
        subst (λ (z : SessionTold). HasRecord k z f) (sym e) (inr
        (cut-waited k b c.middle now steady.tells f steady.sound (stood keeps) (puts keeps) (subst P e agree) u c.cut a))
    waiting-holds (Ok u) c (inr a) =
        let e : n ≡ with_waiting c.middle w = c.ok in
        subst (λ (z : SessionTold). HasRecord k z f) (sym e) (inr (cut-recorded k b c.middle now steady.tells f
        (Ok u) c.cut a))
    waiting-holds (Err d) c a =
        let P : SessionTold → Type 0 = λ z. HashesAgree k z in
        let e : n ≡ c.middle = c.err in
        let none : c.middle.failed ≡ None = sym (ap (λ (z : SessionTold). z.failed) e) ∙ open_now.unfailed in
        subst (λ (z : SessionTold). HasRecord k z f) (sym e) (cut-holds k b c.middle now steady.tells f steady.sound
        (stood keeps) (puts keeps) (subst P e agree) (Err d) c.cut none a)

  waiting-taken : (u : Unit {0}) → CutsWaiting b n w now (Ok u) → WaitsFor (world k (log_of b)) w f → HasRecord k n f
  waiting-taken u c a =
      let e : n ≡ with_waiting c.middle w = c.ok in
      let g = c.cut.keeps.grew steady.tells in
      subst (λ (z : SessionTold). HasRecord k z f) (sym e) (inl (waits-grown k (log_of b) (log_of c.middle)
      (map put.Xorb g.xorbs) g.grown w f a))

  module _ (agree : HashesAgree k n) where
    -- the end of a file keeps what other records stand for
    pub takes-holds : (answer : Result (Unit {0}) DataError) → TakesFile b n w now answer → HasRecord k b f
        → HasRecord k n f
    takes-holds answer t a = go t.exits
      where
        go : Joins b n w answer ⊎ CutsFile b n w now answer ⊎ CutsWaiting b n w now answer → HasRecord k n f
        go (inl j) = joins-holds answer j a
        go (inr (inl c)) = file-holds t.keeps answer c a
        go (inr (inr c)) = waiting-holds t.keeps agree answer c a

    -- and what was taken stands for what it stood for
    pub takes-taken : (u : Unit {0}) → TakesFile b n w now (Ok u) → WaitsFor (world k (log_of b)) w f
        → HasRecord k n f
    takes-taken u t a = go t.exits
      where
        go : Joins b n w (Ok u) ⊎ CutsFile b n w now (Ok u) ⊎ CutsWaiting b n w now (Ok u) → HasRecord k n f
        go (inl j) = joins-taken u j a
        go (inr (inl c)) = file-taken t.keeps u c agree a
        go (inr (inr c)) = waiting-taken u c a
