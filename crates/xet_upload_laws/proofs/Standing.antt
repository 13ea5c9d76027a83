-- All records stand after a file's end, and after uploads of files.
use Rattle.std.proofs.Common.{◌≡◌, ℕ, ◌<◌, ◌^◌, ◌⊎◌, inl, inr, List, [], ◌∷◌, ◌++◌, length, map, sym, subst}
use Rattle.std.specs.Prelude.{All, Result, Ok, Err}
use Rattle.std.proofs.lemmas.List.Elements.{All-head}
use Rattle.xet_base.specs.Store.{Store}
use Rattle.xet_pointer.specs.declared.xet_file_info.XetFileInfo.{XetFileInfo}
use Rattle.xet_uploader.specs.declared.uploader.Put.{Put}
use Rattle.xet_shard_interface.proofs.CallerLemmas.{All-append_left, All-append_right}
use Rattle.xet_upload.specs.Standing.{world}
use Rattle.xet_upload.specs.declared.data_error.DataError.{DataError}
use Rattle.xet_upload_session.specs.Calls.{Keeps}
use Rattle.xet_upload_session.specs.Sessions.{SessionTold, log_of}
use Rattle.xet_clean_parts.specs.Made.{PutsMade}
use Rattle.xet_clean_parts.specs.Premises.{HashesAgree, IsOpen, IsSteady}
use Rattle.xet_clean_parts.proofs.CallerLemmas.{opened}
use Rattle.xet_upload_files.specs.Uploads.{EndsUploads, FailsAt, FailsFirst, FileTold, StopsBehind, StopsUpload, Upload, UploadsFiles}
use Rattle.xet_upload_laws.specs.AllStand.{AllStand, HoldsRecords}
use Rattle.xet_upload_laws.specs.Clashes.{PartsAgree}
use Rattle.xet_upload_laws.specs.Laws.{FinishStands, UploadStands, failed_bytes, read_bytes}
use Rattle.xet_upload_laws.specs.StoreAfter.{HasStore}
use Rattle.xet_upload_laws.proofs.Records.{logged-xorbs}
use Rattle.xet_upload_laws.proofs.Steps.{made-valid}
use Rattle.xet_upload_laws.proofs.Stores.{store-xorbs}
use Rattle.xet_upload_laws.proofs.Uploads.{AfterUploads, AllBefore, AreShort, all-before, calls-held, calls-keep, ends-held, upload-held, uploads-held, uploads-keep}

-- the log grew by xorbs that can be stored
made-stand : (k : Store) (b n : SessionTold) (chunks left : List (List ℕ)) → PutsMade b n chunks left → AllStand k b
    → (IsOpen n → HoldsRecords k n) → AllStand k n
made-stand k b n chunks left p a held = record {
  stored = subst (λ (log : List Put). HasStore k log) (sym p.grown) (store-xorbs k (log_of b) p.xorbs a.stored
      (made-valid chunks p.xorbs p.put_made));
  logged = logged-xorbs k (log_of b) (log_of n) p.xorbs p.grown a.logged;
  held = held;
}

pub finish-stands : FinishStands
finish-stands k b n c now before after answer bytes z e s clash stands short a =
    let parts = All-head (PartsAgree (world k (log_of n))) c.pending [] clash.parts in
    made-stand k b n _ _ (z.puts s.tells) a (λ o. ends-held k b n c now before after bytes s o clash.xorbs parts stands
    short (a.held (opened b n z.keeps o)) answer e)

-- ---- uploads

module _ (k : Store) (b n : SessionTold) (now : ℕ) (s : IsSteady k b) (o : IsOpen n) (agree : HashesAgree k n)
    (h : HoldsRecords k b) where
  -- all were uploaded
  all-held : (reached : SessionTold) (done : List Upload) → n ≡ reached
      → All (PartsAgree (world k (log_of n))) (map (λ (u : Upload). u.bytes) done)
      → AreShort (map (λ (u : Upload). u.bytes) done) → EndsUploads now done b reached → HoldsRecords k n
  all-held reached done same parts few ended = subst (λ (t : SessionTold). HoldsRecords k t) (sym same)
      (uploads-held k reached now done b s h (subst (λ (t : SessionTold). AllBefore k t
      (map (λ (u : Upload). u.bytes) done)) same (agree, o, parts)) few ended).held

  -- one failed behind those that were uploaded
  module _ (reached : SessionTold) (done : List Upload) (ended : EndsUploads now done b reached) (f : FileTold)
      (bytes : List ℕ) (e : DataError) (few : AreShort (map (λ (u : Upload). u.bytes) done ++ bytes ∷ []))
      (parts : All (PartsAgree (world k (log_of n))) (map (λ (u : Upload). u.bytes) done ++ bytes ∷ [])) where
    abbrev reads : List (List ℕ)
    reads = map (λ (u : Upload). u.bytes) done

    first : Keeps reached n → AfterUploads k reached
    first keeps =
        let tells = (uploads-keep now done b reached ended).tells s.tells in
        uploads-held k reached now done b s h (all-before k reached n reads tells keeps (
          agree,
          o,
          All-append_left (PartsAgree (world k (log_of n))) reads (bytes ∷ []) parts,
        ))
        (All-append_left (λ (bs : List ℕ). length bs < 2 ^ 64) reads (bytes ∷ []) few) ended

    stopped-held : StopsUpload now reached n f bytes e → HoldsRecords k n
    stopped-held (inl calls) =
        let r = first (calls-keep now reached n calls) in
        calls-held k reached n now calls r.steady r.held
    stopped-held (inr u) =
        let r = first u.keeps in
        upload-held k reached n now r.steady r.held f bytes
        (All-head (λ (bs : List ℕ). length bs < 2 ^ 64) bytes [] (All-append_right (λ (bs : List ℕ). length bs < 2 ^ 64)
        reads (bytes ∷ []) few)) (record {
          hashes = agree;
          is_open = o;
          parts = All-head (PartsAgree (world k (log_of n))) bytes [] (All-append_right
              (PartsAgree (world k (log_of n))) reads (bytes ∷ []) parts);
        }) (Err e) u

  files-held : (before after : List FileTold) (answer : Result (List XetFileInfo) DataError)
      (c : UploadsFiles now b n before after answer) → All (PartsAgree (world k (log_of n))) (read_bytes answer c)
      → AreShort (read_bytes answer c) → HoldsRecords k n
  files-held before after (Ok infos) c parts few = all-held c.reached c.done c.no_more parts few c.ended
  files-held before after (Err e) c parts few = go c.why.why parts few
    where
      st : StopsBehind now b c.reached n c.done c.last before after e
      st = c.why

      go : (w : FailsAt now b c.reached n st.rest st.left c.last e
          ⊎ (FailsFirst b e × (n ≡ b) × (after ≡ before)))
          → All (PartsAgree (world k (log_of n))) (map (λ (u : Upload). u.bytes) c.done ++ failed_bytes w ∷ [])
          → AreShort (map (λ (u : Upload). u.bytes) c.done ++ failed_bytes w ∷ []) → HoldsRecords k n
      go (inl f) p q = stopped-held c.reached c.done c.ended f.file f.bytes e q p f.calls
      go (inr u) p q = subst (λ (t : SessionTold). HoldsRecords k t) (sym u.1) h

pub upload-stands : UploadStands
upload-stands k b n now before after answer c s clash few a =
    made-stand k b n _ _ (c.has.puts s.tells) a (λ o. files-held k b n now s o clash.xorbs
    (a.held (opened b n c.has.keeps o)) before after answer c clash.parts few)
