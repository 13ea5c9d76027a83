-- How copying files between two stores in memory ends.
use Rattle.std.specs.Prelude.{◌≡◌, ◌⊎◌, ◌-◌, All, Bool, IsSome, List, Result, Ok, Err, length, true}
use Rattle.xet_base.specs.declared.merklehash.MerkleHash.{MerkleHash}
use Rattle.xet_base.specs.Digests.{infos_of, xorb_hash_of}
use Rattle.xet_base.specs.Store.{Store, chunks_of, file_of}
use Rattle.xet_mirror_parts.specs.declared.report.MirrorError.{MirrorError}
use Rattle.xet_mirror_parts.specs.declared.report.MirrorError.TheVariants as mirror_error
use Rattle.xet_mirror_parts.specs.declared.report.MirrorReport.{MirrorReport}
use Rattle.xet_mirror.specs.Calls.{IsMisnamed, IsMissingFile}
use Rattle.xet_mirror.specs.Mirrored.{copied_files, held_hashes, sent_hashes}
use Rattle.xet_mirror_parts.specs.Looked.{counted}
use Rattle.xet_mirror_command.specs.Mirror.{bytes_of_xorbs}

-- all was copied: a report with its counts
pub record Copied (verify : Bool) (s t : Store) (files : List MerkleHash) (report : MirrorReport) : Type 0 where
  pub present : All (λ f. IsSome (file_of s f) ⊎ IsSome (file_of t f)) files
  pub verified : verify ≡ true
      → All (λ h. xorb_hash_of (infos_of (chunks_of s h)) ≡ h) (sent_hashes s t files)
  pub files_copied : report.files_copied ≡ counted (length (copied_files t files))
  pub files_present : report.files_present ≡ counted (length files - length (copied_files t files))
  pub xorbs_sent : report.xorbs_sent ≡ counted (length (sent_hashes s t files))
  pub xorbs_present : report.xorbs_present ≡ counted (length (held_hashes s t files))
  pub bytes_sent : report.bytes_sent ≡ counted (bytes_of_xorbs s (sent_hashes s t files))

-- by the answer; a valid store has no missing xorb and no bad term, and want of memory is free
abbrev pub Ends : Bool → Store → Store → List MerkleHash → Result MirrorReport MirrorError → Type 0
Ends verify s t files (Ok report) = Copied verify s t files report
Ends verify s t files (Err (mirror_error.FileMissing place)) = IsMissingFile s t files place
Ends verify s t files (Err (mirror_error.HashDiffers xorb)) = (verify ≡ true) × IsMisnamed s t files xorb
Ends verify s t files (Err _) = Unit {0}
