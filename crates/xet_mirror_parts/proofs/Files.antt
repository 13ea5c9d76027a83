-- One file that is copied: its terms, and then its record.
use Rattle.std.proofs.Common.{◌≡◌, ℕ, ◌+◌, List, [], ◌∷◌, ◌++◌, inr, Bool, map, refl, sym, ◌∙◌, ap, subst, arith, append_assoc}
use Rattle.std.specs.Prelude.{Some, None, Result, Ok, Err, IfErr, OnOk, All, Contains}
use Rattle.std.proofs.lemmas.List.Elements.{All-nil, Contains-append_right, All-weaker, All-contains_itself}
use Rattle.std.proofs.lemmas.List.{get_or-map, length-map}
use Rattle.xet_base.specs.declared.merklehash.MerkleHash.{MerkleHash}
use Rattle.xet_base.specs.declared.mdb_shard.FileDataSequenceEntry.{FileDataSequenceEntry}
use Rattle.xet_base.specs.declared.mdb_shard.MDBFileInfo.{MDBFileInfo}
use Rattle.xet_base.specs.declared.mdb_shard.ShardRecord.{ShardRecord}
use Rattle.xet_base.specs.Hashes.{hash_eq}
use Rattle.xet_base.specs.Lists.{firsts}
use Rattle.xet_base.specs.Store.{Store}
use Rattle.xet_uploader.specs.declared.uploader.Put.{Put}
use Rattle.xet_uploader.specs.declared.uploader.Put.TheVariants as put
use Rattle.xet_uploader.specs.StoresAfter.{files_in}
use Rattle.xet_uploader.specs.Uploads.{UploaderTold, xorbs_in}
use Rattle.xet_shelves.specs.Shelves.{ShelfTold}
use Rattle.xet_mirror_parts.specs.declared.copied.Copied.{Copied}
use Rattle.xet_mirror_parts.specs.declared.report.MirrorError.{MirrorError}
use Rattle.xet_mirror_parts.specs.declared.report.MirrorError.TheVariants as mirror_error
use Rattle.xet_mirror_parts.specs.Looked.{IsWholeXorb, counted, looked_hashes}
use Rattle.xet_mirror_parts.specs.Moments.{Moment, OnlyTests, Step}
use Rattle.xet_mirror_parts.specs.Copying.{CopyCall, CopyCause, CopyTold, IsCopying, IsLogOf, IsLookedFrom, IsNewFile, LookCause, NeverLost, TermsCall}
use Rattle.xet_mirror_parts.specs.steps.Kept.{IsPlain, RecordCall, put_on, shard_with}
use Rattle.xet_shelves.proofs.CallerLemmas.{files_in-append}
use Rattle.xet_mirror_parts.proofs.Afters.{after-file-same}
use Rattle.xet_mirror_parts.proofs.Copyings.{copying-recorded, shard-of}
use Rattle.xet_mirror_parts.proofs.Finds.{contained-firsts}
use Rattle.xet_mirror_parts.proofs.LookCalls.{log-same}
use Rattle.xet_mirror_parts.proofs.Moments.{moment-more, step-answer, step-err, step-then}

-- the record's put as a step
step-recorded : (verify : Bool) (file : MDBFileInfo) (sb : ShelfTold) (tb ta : UploaderTold) (cb ca : Copied) (r : Result (Unit {0}) MirrorError)
    → RecordCall file tb ta cb ca r → Step verify sb sb tb ta (put_on r (put.Shard (shard_with cb.xorbs file))) r
step-recorded verify file sb tb ta cb ca r h = record {
  added = h.added;
  store = refl;
  first = h.first;
  faults = (omega arith, h.faults);
  unfailed = unfailed r h.unfailed;
  client = λ e. inr (h.client e);
  whole = whole r;
  tests = tests r h.cause;
}
  where
    whole : (r : Result (Unit {0}) MirrorError) → All (IsWholeXorb verify) (xorbs_in (put_on r (put.Shard (shard_with cb.xorbs file))))
    whole (Ok y) = All-nil (IsWholeXorb verify)
    whole (Err e) = All-nil (IsWholeXorb verify)

    tests : (r : Result (Unit {0}) MirrorError) → IfErr r IsPlain → IfErr r (OnlyTests verify)
    tests (Ok y) c = tt
    tests (Err mirror_error.OutOfMemory) c = tt
    tests (Err mirror_error.ClientError) c = tt
    tests (Err (mirror_error.HashDiffers g)) c = absurd c
    tests (Err (mirror_error.FileMissing p)) c = tt
    tests (Err (mirror_error.XorbMissing g)) c = tt
    tests (Err (mirror_error.BadTerm p n)) c = tt

    unfailed : (r : Result (Unit {0}) MirrorError) → OnOk r (ta.faults ≡ tb.faults) → OnOk r ((sb.faults ≡ sb.faults) × (ta.faults ≡ tb.faults))
    unfailed (Ok y) u = (refl, u)
    unfailed (Err e) u = tt

module _ (verify : Bool) (place : ℕ) (file : MDBFileInfo) (sb sm sa : ShelfTold) (tb tm ta : UploaderTold) (cb cm ca : Copied) where
  -- looking at its xorbs failed
  pub copy-failed : (e : MirrorError) → TermsCall verify file.entries sb sa tb ta cb ca (Err e) → CopyCall verify place file sb sa tb ta cb ca (Err e)
  copy-failed e h = record {
    puts = h.puts;
    step = step-err verify sb sa tb ta h.puts e h.step;
    recorded = tt;
    files = tt;
    looked = tt;
    told = λ s t ps m k is. let u = h.told s t ps m k in record { log = u.log; copying = tt; terms = tt; cause = cause s t e u.cause };
    alone = λ s m k. record { records = tt; cause = (h.alone s m k).cause };
  }
    where
      cause : (s t : Store) (e : MirrorError) → LookCause s t (Contains (map (λ e. e.xorb) file.entries)) e → CopyCause s t place file e
      cause s t mirror_error.OutOfMemory c = tt
      cause s t mirror_error.ClientError c = tt
      cause s t (mirror_error.XorbMissing g) c = c
      cause s t (mirror_error.HashDiffers g) c = c
      cause s t (mirror_error.FileMissing p) c = absurd c
      cause s t (mirror_error.BadTerm p n) c = absurd c

  -- a term isn't good
  pub copy-bad : (entry : ℕ) → TermsCall verify file.entries sb sa tb ta cb ca (Ok (Some entry))
      → CopyCall verify place file sb sa tb ta cb ca (Err (mirror_error.BadTerm place entry))
  copy-bad entry h = record {
    puts = h.puts;
    step = step-answer verify sb sa tb ta h.puts (Some entry) (Err (mirror_error.BadTerm place entry)) h.step
        (λ e. cc) tt;
    recorded = tt;
    files = tt;
    looked = tt;
    told = λ s t ps m k is. let u = h.told s t ps m k in record { log = u.log; copying = tt; terms = tt; cause = (refl, u.is) };
    alone = λ s m k. record { records = tt; cause = λ a. absurd (let f : Some entry ≡ None = (h.alone s m k).is a in cc) };
  }

  -- its xorbs are there, and its record is put
  module _ (h : TermsCall verify file.entries sb sm tb tm cb cm (Ok None)) where
    next : (s t : Store) (ps : List Put) → Moment s t ps sb tb → Moment s t (ps ++ h.puts) sm tm
    next s t ps m = moment-more s t ps h.puts sb sm tb tm m h.step.added h.step.store h.step.first

    pub copy-unrecorded : (e : MirrorError) → RecordCall file tm ta cm ca (Err e) → CopyCall verify place file sb sm tb ta cb ca (Err e)
    copy-unrecorded e r = record {
      puts = h.puts ++ [];
      step = step-then verify sb sm sm tb tm ta h.puts [] None (Err e) h.step (step-recorded verify file sm tm ta cm ca (Err e) r);
      recorded = tt;
      files = tt;
      looked = tt;
      told = λ s t ps m k is.
          let u = h.told s t ps m k in
          let P : List Put → Type 0 = IsLogOf s t in
          record { log = subst P (append_assoc ps h.puts []) (log-same s t (ps ++ h.puts) u.log); copying = tt; terms = tt; cause = cause s t e r.cause };
      alone = λ s m k. record { records = tt; cause = λ a. plain e r.cause };
    }
      where
        plain : (e : MirrorError) → IsPlain e → NeverLost e
        plain mirror_error.OutOfMemory c = tt
        plain mirror_error.ClientError c = tt
        plain (mirror_error.XorbMissing g) c = c
        plain (mirror_error.HashDiffers g) c = tt
        plain (mirror_error.FileMissing p) c = tt
        plain (mirror_error.BadTerm p n) c = c

        cause : (s t : Store) (e : MirrorError) → IsPlain e → CopyCause s t place file e
        cause s t mirror_error.OutOfMemory c = tt
        cause s t mirror_error.ClientError c = tt
        cause s t (mirror_error.XorbMissing g) c = absurd c
        cause s t (mirror_error.HashDiffers g) c = absurd c
        cause s t (mirror_error.FileMissing p) c = absurd c
        cause s t (mirror_error.BadTerm p n) c = absurd c

    pub copy-recorded : RecordCall file tm ta cm ca (Ok tt) → CopyCall verify place file sb sm tb ta cb ca (Ok tt)
    copy-recorded r = record {
      puts = h.puts ++ p ∷ [];
      step = step-then verify sb sm sm tb tm ta h.puts (p ∷ []) None (Ok tt) h.step (step-recorded verify file sm tm ta cm ca (Ok tt) r);
      recorded = files_in-append h.puts (p ∷ []) ∙ ap (λ fs. fs ++ files_in (p ∷ [])) h.xorbs_only;
      files = (
        ap (λ (c : Copied). c.report.files_copied) r.counted ∙ ap (λ n. counted (n + 1)) h.files.0,
        ap (λ (c : Copied). c.report.files_present) r.counted ∙ h.files.1,
      );
      looked = λ hs same. ap (λ (c : Copied). looked_hashes c.xorbs) r.counted ∙ h.looked refl hs same;
      told = told;
      alone = λ s m k.
          let P : Copied → Type 0 = λ c. All (IsLookedFrom s) c.xorbs in
          record { records = subst P (sym r.counted) (h.alone s m k).records; cause = λ a. tt };
    }
      where
        shard : ShardRecord
        shard = shard_with cm.xorbs file

        p : Put
        p = put.Shard shard

        told : (s t : Store) (ps : List Put) → Moment s t ps sb tb → IsCopying s t ps cb → IsNewFile s t ps file
            → CopyTold s t ps (h.puts ++ p ∷ []) place file ca (Ok tt)
        told s t ps m k is =
            let u = h.told s t ps m k in
            let hs = looked_hashes cb.xorbs in
            let P : List MerkleHash → Type 0 = λ gs. All (Contains gs) (map (λ e. e.xorb) file.entries) in
            let all : All (Contains (looked_hashes cm.xorbs)) (map (λ e. e.xorb) file.entries) =
            subst P (sym (h.looked refl hs k.apart))
            (All-weaker (Contains (map (λ e. e.xorb) file.entries)) (Contains (firsts hash_eq (hs ++ map (λ e. e.xorb) file.entries)))
            (λ g c. contained-firsts (hs ++ map (λ e. e.xorb) file.entries) g (Contains-append_right hs (map (λ e. e.xorb) file.entries) g c))
            (map (λ e. e.xorb) file.entries) (All-contains_itself (map (λ e. e.xorb) file.entries))) in
            let named : All (λ e. Contains (looked_hashes cm.xorbs) e.xorb) file.entries = All-unmap (Contains (looked_hashes cm.xorbs)) file.entries all in
            let fresh : IsNewFile s t (ps ++ h.puts) file = record { stored = is.stored; new = after-file-same t ps h.puts file.hash h.xorbs_only ∙ is.new } in
            let made = copying-recorded s t (ps ++ h.puts) cm u.copying file fresh u.is named shard refl
            (shard-of s cm.xorbs file u.copying.records all is.stored) in
            let Q : Copied → Type 0 = IsCopying s t ((ps ++ h.puts) ++ p ∷ []) in
            let R : List Put → Type 0 = λ qs. IsCopying s t qs ca in
            let now = subst R (append_assoc ps h.puts (p ∷ [])) (subst Q (sym r.counted) made) in
            record { log = now.log; copying = now; terms = u.is; cause = tt }
          where
            All-unmap : (P : MerkleHash → Type 0) (es : List FileDataSequenceEntry) → All P (map (λ e. e.xorb) es) → All (λ e. P e.xorb) es
            All-unmap P es a n d l =
                let e = get_or-map (λ (e : FileDataSequenceEntry). e.xorb) es n d d.xorb l in
                subst P e (a n d.xorb (omega (arith, l, length-map es (λ (e : FileDataSequenceEntry). e.xorb))))

-- whatever the put answered
pub copy-put : (verify : Bool) (place : ℕ) (file : MDBFileInfo) (sb sm : ShelfTold) (tb tm ta : UploaderTold) (cb cm ca : Copied)
    → TermsCall verify file.entries sb sm tb tm cb cm (Ok None) → (r : Result (Unit {0}) MirrorError) → RecordCall file tm ta cm ca r
    → CopyCall verify place file sb sm tb ta cb ca r
copy-put verify place file sb sm tb tm ta cb cm ca h (Ok tt) k = copy-recorded verify place file sb sm sm tb tm ta cb cm ca h k
copy-put verify place file sb sm tb tm ta cb cm ca h (Err e) k = copy-unrecorded verify place file sb sm sm tb tm ta cb cm ca h e k
