-- What the end of a session leaves of its log.
use Rattle.std.proofs.Common.{◌≡◌, ℕ, zero, suc, ◌⊎◌, inl, inr, Bool, true, false, List, [], ◌∷◌, map, take, refl, sym, ◌∙◌, ap, subst}
use Rattle.std.specs.Prelude.{All, Option, Some, None, is_some, option_map, unwrap_or, Result, Ok, Err}
use Rattle.std.proofs.lemmas.Bool.{false≢true}
use Rattle.std.proofs.lemmas.List.{append-nil}
use Rattle.std.proofs.lemmas.List.Elements.{All-append, All-nil}
use Rattle.xet_base.specs.declared.mdb_shard.MDBFileInfo.{MDBFileInfo}
use Rattle.xet_base.specs.declared.mdb_shard.ShardRecord.{ShardRecord}
use Rattle.xet_base.specs.Store.{Store}
use Rattle.xet_outside.specs.declared.client.ClientError.{ClientError}
use Rattle.xet_uploader.specs.declared.uploader.Put.{Put}
use Rattle.xet_uploader.specs.declared.uploader.Put.TheVariants as put
use Rattle.xet_uploader.specs.StoresAfter.{files_in}
use Rattle.xet_shards.specs.Shards.{no_records, with_records}
use Rattle.xet_shard_interface.specs.Interfaces.{records_of}
use Rattle.xet_shard_interface.specs.Puts.{shards_of}
use Rattle.xet_shard_interface.proofs.CallerLemmas.{All-append_left, All-append_right, files-in, files_of}
use Rattle.xet_upload.specs.Standing.{world}
use Rattle.xet_upload.specs.declared.data_error.DataError.{DataError}
use Rattle.xet_upload_session.specs.Calls.{Cut, EndsCut, EndsSo, EndsUncut, Finalizes, SomePut, Unadded, as_finalized, finished_records}
use Rattle.xet_upload_session.specs.Sessions.{SessionTold, Tells, log_of}
use Rattle.xet_clean_parts.specs.Premises.{HashesAgree, IsOpen, IsSteady, waiting_xorb}
use Rattle.xet_upload_laws.specs.AllStand.{AllStand, HoldsRecords}
use Rattle.xet_upload_laws.specs.Laws.{EndStands}
use Rattle.xet_upload_laws.specs.RecordsStand.{AreRecords, IsRecord}
use Rattle.xet_upload_laws.specs.StoreAfter.{HasStore}
use Rattle.xet_upload_laws.proofs.Cuts.{cut-log, cut-ok-held, hashes-before, logged-one, storable-valid, stored-one}
use Rattle.xet_upload_laws.proofs.Records.{files_in-shards, logged-shards}
use Rattle.xet_upload_laws.proofs.Stores.{store-shards}

-- the first of several shards have no other files than all of them
files-take : (P : MDBFileInfo → Type 0) (c : ℕ) (ss : List ShardRecord) → All P (files_of ss)
    → All P (files_of (take c ss))
files-take P zero ss a = All-nil P
files-take P (suc c) [] a = All-nil P
files-take P (suc c) (s ∷ ss) a = All-append P s.files (files_of (take c ss)) (All-append_left P s.files (files_of ss) a)
    (files-take P c ss (All-append_right P s.files (files_of ss) a))

-- what a store and a log have once some of the session's records were put
pub record LogStands (k : Store) (log : List Put) : Type 0 where
  pub stored : HasStore k log
  pub logged : AreRecords (world k log) (files_in log)

-- ---- the end after the cut

module _ {A : Type 0} (k : Store) (m n : SessionTold) (answer : Result A DataError) (tells : Tells m)
    (ends : EndsCut m n answer) (h : HoldsRecords k m) where
  -- the records that the session has then
  with-finished : (o p : Option ShardRecord) → p ≡ option_map (λ (r : ShardRecord). with_records r (finished_records m)) o
      → AreRecords (world k (log_of m)) (unwrap_or o no_records).files
      → AreRecords (world k (log_of m)) (unwrap_or p no_records).files
  with-finished None p e a = subst (λ (q : Option ShardRecord). AreRecords (world k (log_of m)) (unwrap_or q
      no_records).files) (sym e) a
  with-finished (Some r) p e a = subst (λ (q : Option ShardRecord). AreRecords (world k (log_of m)) (unwrap_or q
      no_records).files) (sym e) (All-append (IsRecord (world k (log_of m))) r.files m.finished a h.finished)

  now-recorded : AreRecords (world k (log_of m)) (records_of n.shards.session).files
  now-recorded = go ends.records
    where
      go : Unadded m n ⊎ (n.shards.session.records ≡ option_map (λ (r : ShardRecord). with_records r
          (finished_records m)) m.shards.session.records)
          → AreRecords (world k (log_of m)) (records_of n.shards.session).files
      go (inl u) = subst (λ (q : Option ShardRecord). AreRecords (world k (log_of m)) (unwrap_or q no_records).files)
          (sym u.1) h.recorded
      go (inr e) = with-finished m.shards.session.records n.shards.session.records e h.recorded

  some-put : SomePut m n
  some-put = ends.some tells

  put-records : AreRecords (world k (log_of m)) (files_of (take some-put.count (shards_of n.shards)))
  put-records = files-take (IsRecord (world k (log_of m))) some-put.count (shards_of n.shards)
      (subst (λ (fs : List MDBFileInfo). AreRecords (world k (log_of m)) fs)
      (sym (files-in n.shards.rules.shard_max_target_size (records_of n.shards.session))) now-recorded)

  pub ended-log : LogStands k (log_of m) → LogStands k (log_of n)
  ended-log l =
      let ss = take some-put.count (shards_of n.shards) in
      record {
        stored = subst (λ (log : List Put). HasStore k log) (sym some-put.log) (store-shards k (log_of m) ss l.stored
            (subst (λ (fs : List MDBFileInfo). AreRecords (world k (log_of m)) fs) (sym (files_in-shards ss))
            put-records));
        logged = logged-shards k (log_of m) (log_of n) ss some-put.log put-records l.logged;
      }

-- ---- the end

-- a log that grew by what waited
cut-log-stands : (k : Store) (b n : SessionTold) (now : ℕ) (answer : Result (Unit {0}) DataError) → Tells b
    → Cut b n now answer → LogStands k (log_of b) → LogStands k (log_of n)
cut-log-stands k b n now answer tells c l =
    let grew = cut-log b n now answer tells c in
    record {
      stored = stored-one k b n (waiting_xorb b) (storable-valid b.waiting.chunks c.storable) grew l.stored;
      logged = logged-one k b n (waiting_xorb b) grew l.logged;
    }

module _ {A : Type 0} (k : Store) (b n : SessionTold) (now : ℕ) (answer : Result A DataError)
    (z : Finalizes b n now answer) (s : IsSteady k b) (agree : HashesAgree k n) (a : AllStand k b) where
  log-stood : LogStands k (log_of b)
  log-stood = record { stored = a.stored; logged = a.logged }

  begun : Tells (as_finalized b)
  begun = record { puts = s.tells.puts; shards = s.tells.shards }

  -- the session was open, what waits was cut, and then came the end
  module _ (was : IsOpen b) (m : SessionTold) (cut : Cut (as_finalized b) m now (Ok tt)) (ends : EndsCut m n answer) where
    tells_middle : Tells m
    tells_middle = cut.keeps.tells begun

    agree_middle : HashesAgree k m
    agree_middle =
        let p = ends.some tells_middle in
        hashes-before k m n (map put.Shard (take p.count (shards_of n.shards))) [] p.log
        (ap (λ (t : SessionTold). t.repeated) ends.same ∙ sym (append-nil m.repeated)) agree

    held_middle : HoldsRecords k m
    held_middle =
        let h = a.held was in
        let begins : HoldsRecords k (as_finalized b) = record {
          waiting = h.waiting;
          finished = h.finished;
          recorded = h.recorded;
        } in
        cut-ok-held k (as_finalized b) m now begun cut.keeps agree_middle begins s.sound
        (s.backed was.unfailed was.unfinished) (s.listed.all was.unfailed was.unfinished).put tt cut

    ended-stands : LogStands k (log_of n)
    ended-stands = ended-log k m n answer tells_middle ends held_middle
        (cut-log-stands k (as_finalized b) m now (Ok tt) begun cut log-stood)

  same-log : log_of n ≡ log_of b → LogStands k (log_of n)
  same-log e = subst (λ (log : List Put). LogStands k log) (sym e) log-stood

  unfinished-stands : b.finalized ≡ false → LogStands k (log_of n)
  unfinished-stands first = go b.failed refl
    where
      ends : b.failed ≡ None → EndsUncut b n now answer ⊎ EndsSo b n now answer → LogStands k (log_of n)
      ends none (inl u) = cut-log-stands k (as_finalized b) n now (Err u.0) begun u.2 log-stood
      ends none (inr e) = ended-stands (record { unfailed = none; unfinished = first }) e.0 e.1 e.2

      go : (o : Option ClientError) → b.failed ≡ o → LogStands k (log_of n)
      go None e = ends e (z.ends first)
      go (Some x) e = same-log (z.quiet (ap (λ (o : Option ClientError). is_some o) e))

  end-stands : LogStands k (log_of n)
  end-stands = go b.finalized refl
    where
      go : (f : Bool) → b.finalized ≡ f → LogStands k (log_of n)
      go false e = unfinished-stands e
      go true e = same-log (ap log_of (z.again e).1)

  -- the store after the log is there, and its records stand, whatever the end answers
  pub end-stood : AllStand k n
  end-stood = record {
    stored = end-stands.stored;
    logged = end-stands.logged;
    held = λ o. absurd (false≢true (sym o.unfinished ∙ z.finalized));
  }

pub end-all-stand : {A : Type 0} → EndStands A
end-all-stand k b n now answer z s clash a = end-stood k b n now answer z s clash.xorbs a
