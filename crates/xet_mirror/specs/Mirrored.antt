-- What it means that files of one store were copied to another.
use Rattle.std.specs.Prelude.{◌≡◌, ◌-◌, List, map, length, filter, All, IsSome, IsNone, is_none, is_some}
use Rattle.std.specs.List.{concat, flat_map, sum_by}
use Rattle.xet_base.specs.declared.merklehash.MerkleHash.{MerkleHash}
use Rattle.xet_base.specs.Hashes.{hash_eq}
use Rattle.xet_base.specs.Lists.{firsts}
use Rattle.xet_base.specs.Store.{IsValid, Store, bytes_of, file_of, terms_of_file, xorb_of}
use Rattle.xet_uploader.specs.StoresAfter.{files_in}
use Rattle.xet_uploader.specs.Uploads.{xorbs_in}
use Rattle.xet_uploader.specs.declared.uploader.Put.{Put}
use Rattle.xet_shelves.specs.After.{after}
use Rattle.xet_mirror_parts.specs.declared.report.MirrorReport.{MirrorReport}
use Rattle.xet_mirror_parts.specs.Looked.{counted}

-- ---- what is to be copied from `s` to `t`

-- the listed files that `t` lacks, each once
abbrev pub copied_files : Store → List MerkleHash → List MerkleHash
copied_files t files = firsts hash_eq (filter (λ f. is_none (file_of t f)) files)

-- the xorbs that a file names, in the order of its terms
abbrev pub names_of_file : Store → MerkleHash → List MerkleHash
names_of_file s f = map (λ t. t.xorb) (terms_of_file s f)

-- the xorbs that files name, each once, in the order of their first naming
abbrev pub named_xorbs : Store → List MerkleHash → List MerkleHash
named_xorbs s files = firsts hash_eq (flat_map (names_of_file s) files)

-- those that copied files name and `t` lacks, and those that it has
abbrev pub sent_hashes : Store → Store → List MerkleHash → List MerkleHash
sent_hashes s t files = filter (λ h. is_none (xorb_of t h)) (named_xorbs s (copied_files t files))

abbrev pub held_hashes : Store → Store → List MerkleHash → List MerkleHash
held_hashes s t files = filter (λ h. is_some (xorb_of t h)) (named_xorbs s (copied_files t files))

-- ---- a mirrored list of files

-- `t` with the puts is valid and has each listed file: one that `s` has with its bytes, another as `t` had it; what was
-- put are the copied files' records, the xorbs that these name and `t` lacked, and the report has the counts
pub record IsMirrored (s t : Store) (files : List MerkleHash) (puts : List Put) (report : MirrorReport) : Type 0 where
  pub valid : IsValid (after t puts)
  pub has : All (λ f. IsSome (file_of (after t puts) f)) files
  pub bytes : All (λ f. IsSome (file_of s f) → bytes_of (after t puts) f ≡ bytes_of s f) files
  pub left : All (λ f. IsNone (file_of s f) → file_of (after t puts) f ≡ file_of t f) files
  pub recorded : map (λ f. f.hash) (files_in puts) ≡ copied_files t files
  pub sent : map (λ x. x.hash) (xorbs_in puts) ≡ sent_hashes s t files
  pub files_copied : report.files_copied ≡ counted (length (copied_files t files))
  pub files_present : report.files_present ≡ counted (length files - length (copied_files t files))
  pub xorbs_sent : report.xorbs_sent ≡ counted (length (sent_hashes s t files))
  pub xorbs_present : report.xorbs_present ≡ counted (length (held_hashes s t files))
  pub bytes_sent : report.bytes_sent ≡ counted (sum_by (λ x. length (concat x.chunks)) (xorbs_in puts))
