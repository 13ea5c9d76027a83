-- What a cut leaves of the log, and of the records that a session holds.
use Rattle.std.proofs.Common.{◌≡◌, ℕ, ◌⊎◌, inl, inr, List, [], ◌∷◌, ◌++◌, sym, ◌∙◌, ap, subst, arith}
use Rattle.std.specs.Prelude.{All, Contains, Option, None, is_some, Result, Ok, Err}
use Rattle.std.proofs.lemmas.Bool.{false≢true}
use Rattle.std.proofs.lemmas.List.{append-nil}
use Rattle.std.proofs.lemmas.List.Elements.{All-append, All-cons, All-contains, All-nil, Contains-append_cases, Contains-append_left, Contains-append_right, Contains-push}
use Rattle.xet_base.specs.declared.mdb_shard.MDBFileInfo.{MDBFileInfo}
use Rattle.xet_base.specs.declared.mdb_shard.Xorb.{Xorb}
use Rattle.xet_base.specs.Store.{IsValidXorb, Store, chunks_of}
use Rattle.xet_outside.specs.declared.client.ClientError.{ClientError}
use Rattle.xet_uploader.specs.declared.uploader.Put.{Put}
use Rattle.xet_uploader.specs.declared.uploader.Put.TheVariants as put
use Rattle.xet_uploader.specs.StoresAfter.{files_in}
use Rattle.xet_shard_interface.specs.Interfaces.{records_of}
use Rattle.xet_upload.specs.Standing.{AgreeOn, world}
use Rattle.xet_upload.specs.Waitings.{Waiting, no_waiting, xorb_of_chunks}
use Rattle.xet_upload.specs.declared.data_error.DataError.{DataError}
use Rattle.xet_upload_parts.specs.Storable.{IsStorable}
use Rattle.xet_upload_session.specs.Calls.{Cut, CutPut, CutRepeated, CutStill, CutStopped, Keeps, waiting_hash, waiting_records}
use Rattle.xet_upload_session.specs.Sessions.{SessionTold, Stands, Tells, log_of}
use Rattle.xet_upload_session.specs.Sounds.{IsSound}
use Rattle.xet_clean_parts.specs.Premises.{HashesAgree, waiting_xorb}
use Rattle.xet_clean_parts.proofs.CallerLemmas.{found-agrees, listed-stored, world-grew, world-has}
use Rattle.xet_upload_laws.specs.AllStand.{HoldsRecords}
use Rattle.xet_upload_laws.specs.RecordsStand.{AreRecords, AreWaiting, IsRecord, IsWaiting}
use Rattle.xet_upload_laws.specs.StoreAfter.{HasStore}
use Rattle.xet_upload_laws.proofs.Records.{logged-xorbs, records-empty, records-grown, records-old, records-put, waiting-grown}
use Rattle.xet_upload_laws.proofs.Stores.{store-xorbs}

-- ---- premises

-- a xorb of chunks that can be stored is valid
pub storable-valid : (cs : List (List ℕ)) → IsStorable cs → IsValidXorb (xorb_of_chunks cs)
storable-valid cs s =
    let count = s.within.0 in
    let bytes = s.within.1 in
    record { nonempty = s.some; chunk_count = omega arith; byte_count = omega arith }

-- what is told of hashes at the end of a call is so of what was there before
pub hashes-before : (k : Store) (m n : SessionTold) (more : List Put) (xs : List Xorb)
    → log_of n ≡ log_of m ++ more → n.repeated ≡ m.repeated ++ xs → HashesAgree k n → HashesAgree k m
hashes-before k m n more xs grown again a x y c d e = a x y (has x c) (has y d) e
  where
    has : (z : Xorb) → Contains ((world k (log_of m)).xorbs ++ m.repeated) z
        → Contains ((world k (log_of n)).xorbs ++ n.repeated) z
    has z c = go (Contains-append_cases (world k (log_of m)).xorbs m.repeated z c)
      where
        go : Contains (world k (log_of m)).xorbs z ⊎ Contains m.repeated z
            → Contains ((world k (log_of n)).xorbs ++ n.repeated) z
        go (inl h) = Contains-append_left (world k (log_of n)).xorbs n.repeated z
            (world-has k (log_of m) (log_of n) more grown z h)
        go (inr h) = Contains-append_right (world k (log_of n)).xorbs n.repeated z
            (subst (λ (l : List Xorb). Contains l z) (sym again) (Contains-append_left m.repeated xs z h))

-- a xorb that is told agrees with each of the world
agree-told : (k : Store) (n : SessionTold) (x : Xorb) → HashesAgree k n
    → Contains ((world k (log_of n)).xorbs ++ n.repeated) x → AgreeOn (world k (log_of n)).xorbs x.hash x.chunks
agree-told k n x a d y c e = a y x (Contains-append_left (world k (log_of n)).xorbs n.repeated y c) d e

-- ---- the log

-- the log is as it was, or has one more xorb
abbrev pub GrewByOne : SessionTold → SessionTold → Xorb → Type 0
GrewByOne b n x = (log_of n ≡ log_of b) ⊎ (log_of n ≡ log_of b ++ put.Xorb x ∷ [])

pub cut-log : (b n : SessionTold) (now : ℕ) (answer : Result (Unit {0}) DataError) → Tells b → Cut b n now answer
    → GrewByOne b n (waiting_xorb b)
cut-log b n now (Ok u) tells c = go c.ok
  where
    go : CutStill b n ⊎ CutPut b n now (Ok u) → GrewByOne b n (waiting_xorb b)
    go (inl s) = inl (ap log_of s.same)
    go (inr p) = inr (p.put.log (record { puts = tells.puts; shards = tells.shards }))
cut-log b n now (Err e) tells c = go c.err
  where
    go : CutStopped b n now (Err e) → GrewByOne b n (waiting_xorb b)
    go (inl s) = inl (ap log_of s)
    go (inr (inl r)) = inl r.log
    go (inr (inr p)) = inr (p.put.log (record { puts = tells.puts; shards = tells.shards }))

-- a log that grew by one such xorb goes on to have its store, and its records stand
pub stored-one : (k : Store) (b n : SessionTold) (x : Xorb) → IsValidXorb x → GrewByOne b n x → HasStore k (log_of b)
    → HasStore k (log_of n)
stored-one k b n x valid (inl e) h = subst (λ (log : List Put). HasStore k log) (sym e) h
stored-one k b n x valid (inr e) h = subst (λ (log : List Put). HasStore k log) (sym e)
    (store-xorbs k (log_of b) (x ∷ []) h (All-cons IsValidXorb x [] valid (All-nil IsValidXorb)))

pub logged-one : (k : Store) (b n : SessionTold) (x : Xorb) → GrewByOne b n x
    → AreRecords (world k (log_of b)) (files_in (log_of b)) → AreRecords (world k (log_of n)) (files_in (log_of n))
logged-one k b n x (inl e) a =
    subst (λ (log : List Put). AreRecords (world k log) (files_in log)) (sym e) a
logged-one k b n x (inr e) a = logged-xorbs k (log_of b) (log_of n) (x ∷ []) e a

-- ---- what is held

-- the log grew, and nothing else of what is held changed
module _ (k : Store) (b n : SessionTold) (more : List Put) (grown : log_of n ≡ log_of b ++ more) where
  pub held-waiting : n.waiting ≡ b.waiting → AreWaiting (world k (log_of b)) b.waiting
      → AreWaiting (world k (log_of n)) n.waiting
  held-waiting same a = subst (λ (w : Waiting). AreWaiting (world k (log_of n)) w) (sym same)
      (waiting-grown k (log_of b) (log_of n) more grown b.waiting a)

  pub held-finished : n.finished ≡ b.finished → AreRecords (world k (log_of b)) b.finished
      → AreRecords (world k (log_of n)) n.finished
  held-finished same a = subst (λ (fs : List MDBFileInfo). AreRecords (world k (log_of n)) fs) (sym same)
      (records-grown k (log_of b) (log_of n) more grown b.finished a)

  pub held-recorded : (records_of n.shards.session).files ≡ (records_of b.shards.session).files
      → AreRecords (world k (log_of b)) (records_of b.shards.session).files
      → AreRecords (world k (log_of n)) (records_of n.shards.session).files
  held-recorded same a = subst (λ (fs : List MDBFileInfo). AreRecords (world k (log_of n)) fs) (sym same)
      (records-grown k (log_of b) (log_of n) more grown (records_of b.shards.session).files a)

  pub held-grown : n.waiting ≡ b.waiting → n.finished ≡ b.finished
      → (records_of n.shards.session).files ≡ (records_of b.shards.session).files → HoldsRecords k b
      → HoldsRecords k n
  held-grown waiting finished recorded h = record {
    waiting = held-waiting waiting h.waiting;
    finished = held-finished finished h.finished;
    recorded = held-recorded recorded h.recorded;
  }

none-waits : (s : Store) (w : Waiting) → w ≡ no_waiting → AreWaiting s w
none-waits s w e = subst (λ (v : Waiting). AreWaiting s v) (sym e) (All-nil (IsWaiting s []))

-- ---- a cut

module _ (k : Store) (b n : SessionTold) (now : ℕ) (tells : Tells b) (keeps : Keeps b n)
    (agree : HashesAgree k n) (h : HoldsRecords k b) where
  -- the files that waited are finished
  module _ (more : List Put) (grown : log_of n ≡ log_of b ++ more) (waiting : n.waiting ≡ no_waiting)
      (finished : n.finished ≡ b.finished ++ waiting_records b)
      (records : AreRecords (world k (log_of n)) (waiting_records b)) where
    all-finished : AreRecords (world k (log_of n)) n.finished
    all-finished = subst (λ (fs : List MDBFileInfo). AreRecords (world k (log_of n)) fs) (sym finished)
        (All-append (IsRecord (world k (log_of n))) b.finished (waiting_records b)
        (records-grown k (log_of b) (log_of n) more grown b.finished h.finished) records)

    pub cut-held : HoldsRecords k n
    cut-held = record {
      waiting = none-waits (world k (log_of n)) n.waiting waiting;
      finished = all-finished;
      recorded = held-recorded k b n more grown keeps.files h.recorded;
    }

  -- what waited was put
  put-held : (answer : Result (Unit {0}) DataError) → CutPut b n now answer → HoldsRecords k n
  put-held answer p =
      let x = waiting_xorb b in
      let grown : log_of n ≡ log_of b ++ put.Xorb x ∷ []
      = p.put.log (record { puts = tells.puts; shards = tells.shards }) in
      let there : Contains (world k (log_of n)).xorbs x = subst (λ (xs : List Xorb). Contains xs x)
      (sym (world-grew k (log_of b) (log_of n) (put.Xorb x ∷ []) grown))
      (Contains-push (world k (log_of b)).xorbs x) in
      let on = agree-told k n x agree (Contains-append_left (world k (log_of n)).xorbs n.repeated x there) in
      cut-held (put.Xorb x ∷ []) grown (ap (λ (t : SessionTold). t.waiting) p.put.same)
      (ap (λ (t : SessionTold). t.finished) p.put.same)
      (records-put k (log_of b) (log_of n) b.waiting grown on h.waiting)

  -- nothing was put
  module _ (sound : IsSound k b) (stands : Stands b) (listed : All (Contains b.listed) b.registered)
      (s : CutStill b n) where
    log-still : log_of n ≡ log_of b
    log-still = ap log_of s.same

    old : Contains b.registered (waiting_hash b) → n.repeated ≡ b.repeated ++ waiting_xorb b ∷ []
        → chunks_of (world k (log_of b)) (waiting_hash b) ≡ b.waiting.chunks
    old c again =
        let there = All-contains (Contains b.listed) b.registered (waiting_hash b) listed c in
        let stored = listed-stored k b (waiting_hash b) sound stands there in
        let told : Contains ((world k (log_of n)).xorbs ++ n.repeated) (waiting_xorb b) = Contains-append_right
        (world k (log_of n)).xorbs n.repeated (waiting_xorb b) (subst (λ (l : List Xorb). Contains l (waiting_xorb b))
        (sym again) (Contains-push b.repeated (waiting_xorb b))) in
        let on = subst (λ (ps : List Put). AgreeOn (world k ps).xorbs (waiting_hash b) b.waiting.chunks) log-still
        (agree-told k n (waiting_xorb b) agree told) in
        found-agrees (world k (log_of b)).xorbs (waiting_hash b) b.waiting.chunks stored on

    records-still : AreRecords (world k (log_of b)) (waiting_records b)
    records-still = go s.reason
      where
        go : ((b.waiting.chunks ≡ []) × (n.repeated ≡ b.repeated)) ⊎ CutRepeated b n
            → AreRecords (world k (log_of b)) (waiting_records b)
        go (inl e) = records-empty (world k (log_of b)) (waiting_hash b) b.waiting e.0 h.waiting
        go (inr c) = records-old (world k (log_of b)) (waiting_hash b) b.waiting (old c.before c.told) h.waiting

    still-held : HoldsRecords k n
    still-held =
        let grown : log_of n ≡ log_of b ++ [] = log-still ∙ sym (append-nil (log_of b)) in
        cut-held [] grown (ap (λ (t : SessionTold). t.waiting) s.same) (ap (λ (t : SessionTold). t.finished) s.same)
        (records-grown k (log_of b) (log_of n) [] grown (waiting_records b) records-still)

  -- a cut keeps what is held, where no failed put is kept
  module _ (sound : IsSound k b) (stands : Stands b) (listed : All (Contains b.listed) b.registered) where
    pub cut-ok-held : (u : Unit {0}) → Cut b n now (Ok u) → HoldsRecords k n
    cut-ok-held u c = go c.ok
      where
        go : CutStill b n ⊎ CutPut b n now (Ok u) → HoldsRecords k n
        go (inl s) = still-held sound stands listed s
        go (inr p) = put-held (Ok u) p

    cut-err-held : (e : DataError) → n.failed ≡ None → Cut b n now (Err e) → HoldsRecords k n
    cut-err-held e none c = go c.err
      where
        go : CutStopped b n now (Err e) → HoldsRecords k n
        go (inl s) = subst (λ (t : SessionTold). HoldsRecords k t) (sym s) h
        go (inr (inl r)) = absurd (false≢true (ap (λ (o : Option ClientError). is_some o) (sym none) ∙ r.kept))
        go (inr (inr p)) = put-held (Err e) p

    pub cut-any-held : (answer : Result (Unit {0}) DataError) → n.failed ≡ None → Cut b n now answer
        → HoldsRecords k n
    cut-any-held (Ok u) none c = cut-ok-held u c
    cut-any-held (Err e) none c = cut-err-held e none c
