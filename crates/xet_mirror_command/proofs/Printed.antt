-- What is printed of a run, and of the text that asks for it.
use Rattle.std.proofs.Common.{◌≡◌, ℕ, Bool, true, List, Err, get_or, refl, subst, inl, inr}
use Rattle.std.specs.Prelude.{Result}
use Rattle.std.proofs.lemmas.Option.{get_or_from_slice_get}
use Rattle.xet_outside.specs.Told.{SinkTold}
use Rattle.xet_base.specs.declared.merklehash.MerkleHash.{MerkleHash}
use Rattle.xet_base.specs.Store.{Store}
use Rattle.xet_mirror_parts.specs.declared.report.MirrorError.{MirrorError}
use Rattle.xet_mirror_parts.specs.declared.report.MirrorError.TheVariants as mirror_error
use Rattle.xet_mirror_parts.specs.declared.report.MirrorReport.{MirrorReport}
use Rattle.xet_mirror.specs.Calls.{IsMisnamed, IsMissingFile}
use Rattle.xet_room.specs.declared.status.Status.{Status}
use Rattle.xet_room.specs.declared.status.Status.TheVariants.{BadHash, BadStore, Done, NoSource}
use Rattle.xet_room.specs.Inputs.{SomePrinted, TextPrinted}
use Rattle.xet_room.specs.Outcome.{Finished}
use Rattle.xet_room.specs.Texts.{hash_line, line}
use Rattle.xet_mirror_command.specs.Mirror.{MirrorPrints, StoresPrint, mirror_text, missing_line}
use Rattle.xet_mirror_command.specs.MirrorInput.{HasMirror, NoMirror}
use Rattle.xet_mirror_command.specs.steps.Ends.{Copied, Ends}
use Rattle.xet_mirror_command.specs.steps.Printing.{OnePrinted, text_of_report}

module _ (verify : Bool) (s t : Store) (files : List MerkleHash) (b n : SinkTold) (status : Status) where
  -- a report
  pub report_printed : (report : MirrorReport) → Copied verify s t files report
      → OnePrinted (text_of_report report) Done b n status → SomePrinted (StoresPrint verify s t files) b n status
  report_printed report copied (inr h) = inr h
  report_printed report copied (inl h) =
      inl (Done, text_of_report report, record { present = copied.present; verified = copied.verified; whole_is = same }, h)
    where
      same : text_of_report report ≡ mirror_text s t files
      same = rw (
        copied.files_copied,
        copied.files_present,
        copied.xorbs_sent,
        copied.xorbs_present,
        copied.bytes_sent,
      ) refl

  -- a file that neither store has
  pub missing_printed : (place : ℕ) (missing : IsMissingFile s t files place) → OnePrinted (missing_line missing.file.0) NoSource b n status
      → SomePrinted (StoresPrint verify s t files) b n status
  missing_printed place missing (inr h) = inr h
  missing_printed place missing (inl h) =
      inl (NoSource, missing_line missing.file.0, record { place = place; missing = missing; whole_is = refl }, h)

  -- the same, by the place that an error names
  pub place_printed : (place : ℕ) (answer : Result MirrorReport MirrorError) (d : MerkleHash) → Ends verify s t files answer
      → answer ≡ Err (mirror_error.FileMissing place) → OnePrinted (missing_line (get_or files place d).0) NoSource b n status
      → SomePrinted (StoresPrint verify s t files) b n status
  place_printed place answer d ends e h =
      let missing : IsMissingFile s t files place = subst (λ (a : Result MirrorReport MirrorError). Ends verify s t files a) e ends in
      missing_printed place missing
      (subst (λ (x : MerkleHash). OnePrinted (missing_line x.0) NoSource b n status)
      (get_or_from_slice_get files place missing.file d missing.at) h)

  -- a xorb whose hash isn't that of its chunks
  pub misnamed_printed : (xorb : MerkleHash) → verify ≡ true → IsMisnamed s t files xorb → OnePrinted (hash_line xorb.0) BadHash b n status
      → SomePrinted (StoresPrint verify s t files) b n status
  misnamed_printed xorb asked misnamed (inr h) = inr h
  misnamed_printed xorb asked misnamed (inl h) =
      inl (BadHash, hash_line xorb.0, record { asked = asked; xorb = xorb; misnamed = misnamed; whole_is = refl }, h)

module _ (verify : Bool) (text : List ℕ) (b n : SinkTold) (status : Status) where
  -- the text asks for files of two stores that agree
  pub stores_printed : (s t : Store) (files : List MerkleHash) → HasMirror text s t files
      → SomePrinted (StoresPrint verify s t files) b n status → TextPrinted (MirrorPrints verify) text b n status
  stores_printed s t files has (inr h) = inr h
  stores_printed s t files has (inl h) = inl (h.0, h.1, by_status h.0 h.2, h.3)
    where
      by_status : (own : Status) → StoresPrint verify s t files own h.1 → MirrorPrints verify text own h.1
      by_status Done p = (s, t, files, has, p)
      by_status NoSource p = (s, t, files, has, p)
      by_status BadHash p = (s, t, files, has, p)
      by_status _ p = absurd p

  -- it asks for none
  pub none_printed : NoMirror text → Finished (line BadStore) BadStore b n status → TextPrinted (MirrorPrints verify) text b n status
  none_printed none h = inl (BadStore, line BadStore, (none, refl), h)
