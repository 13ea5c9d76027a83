-- What the command `mirror` prints.
use Rattle.std.specs.Prelude.{ℕ, ◌≡◌, ◌⊎◌, ◌-◌, ◌++◌, All, Bool, IsSome, List, Option, Some, None, [], ◌∷◌, codes}
use Rattle.std.specs.Prelude.{cond, false, length, true}
use Rattle.std.specs.Fmt.{decimal}
use Rattle.std.specs.List.{concat, sum_by}
use Rattle.std.specs.Str.{bytes_eq}
use Rattle.hex.specs.Hex.{encode_lower}
use Rattle.xet_base.specs.declared.merklehash.MerkleHash.{MerkleHash}
use Rattle.xet_base.specs.Digests.{infos_of, xorb_hash_of}
use Rattle.xet_base.specs.Store.{Store, chunks_of, file_of}
use Rattle.xet_mirror.specs.Calls.{IsMisnamed, IsMissingFile}
use Rattle.xet_mirror.specs.Mirrored.{copied_files, held_hashes, sent_hashes}
use Rattle.xet_mirror_parts.specs.Looked.{counted}
use Rattle.xet_room.specs.declared.status.Status.{Status}
use Rattle.xet_room.specs.declared.status.Status.TheVariants.{BadHash, BadStore, Done, NoSource}
use Rattle.xet_room.specs.Texts.{hash_line, line}
use Rattle.xet_mirror_command.specs.MirrorInput.{HasMirror, NoMirror}

-- ---- the words

-- the word `verify`
abbrev pub word_of : List ℕ → Option Bool
word_of w = cond (bytes_eq w (codes "verify")) (Some true) None

-- the words after `mirror`: none, or that word
abbrev pub verify_of : List (List ℕ) → Option Bool
verify_of [] = Some false
verify_of (w ∷ []) = word_of w
verify_of _ = None

-- ---- the texts

-- how many files were copied, and how many the target had
abbrev pub files_line : ℕ → ℕ → List ℕ
files_line copied present = codes "files " ++ decimal copied ++ codes " " ++ decimal present ++ 10 ∷ []

-- the same of xorbs
abbrev pub xorbs_line : ℕ → ℕ → List ℕ
xorbs_line sent held = codes "xorbs " ++ decimal sent ++ codes " " ++ decimal held ++ 10 ∷ []

-- how many bytes the xorbs have that were sent
abbrev pub bytes_line : ℕ → List ℕ
bytes_line bytes = codes "bytes " ++ decimal bytes ++ 10 ∷ []

-- the counts of a report, and `ok`
abbrev pub counts_text : ℕ → ℕ → ℕ → ℕ → ℕ → List ℕ
counts_text copied present sent held bytes =
    files_line copied present ++ xorbs_line sent held ++ bytes_line bytes ++ codes "ok\n"

-- how many bytes the xorbs with these hashes have
abbrev pub bytes_of_xorbs : Store → List MerkleHash → ℕ
bytes_of_xorbs s hs = sum_by (λ h. length (concat (chunks_of s h))) hs

-- what copying the files from one store to the other comes to: the listed files that are copied and that the second
-- store has, the xorbs that it gets and that it has, and the bytes of those that it gets; each number is at most
-- u64::MAX
abbrev pub mirror_text : Store → Store → List MerkleHash → List ℕ
mirror_text s t files =
    counts_text (counted (length (copied_files t files))) (counted (length files - length (copied_files t files)))
    (counted (length (sent_hashes s t files))) (counted (length (held_hashes s t files)))
    (counted (bytes_of_xorbs s (sent_hashes s t files)))

-- the line of a file that neither store has
abbrev pub missing_line : List ℕ → List ℕ
missing_line hash = codes "missing " ++ encode_lower hash ++ 10 ∷ []

-- ---- by the status

-- 0: one of the stores has each listed file; with `verify` each xorb that the target gets has its chunks' hash; and
-- this is the text of the counts
pub record MirrorDone (verify : Bool) (s t : Store) (files : List MerkleHash) (whole : List ℕ) : Type 0 where
  pub present : All (λ f. IsSome (file_of s f) ⊎ IsSome (file_of t f)) files
  pub verified : verify ≡ true
      → All (λ h. xorb_hash_of (infos_of (chunks_of s h)) ≡ h) (sent_hashes s t files)
  pub whole_is : whole ≡ mirror_text s t files

-- 3: neither store has this listed file, and one has each before it
pub record MirrorMissing (s t : Store) (files : List MerkleHash) (whole : List ℕ) : Type 0 where
  pub place : ℕ
  pub missing : IsMissingFile s t files place
  pub whole_is : whole ≡ missing_line missing.file.0

-- 2, `error hash`: with `verify`, the target would get this xorb, whose hash isn't its chunks'
pub record MirrorMisnamed (verify : Bool) (s t : Store) (files : List MerkleHash) (whole : List ℕ) : Type 0 where
  pub asked : verify ≡ true
  pub xorb : MerkleHash
  pub misnamed : IsMisnamed s t files xorb
  pub whole_is : whole ≡ hash_line xorb.0

-- what there is to print of two stores that agree and a list of files
abbrev pub StoresPrint : Bool → Store → Store → List MerkleHash → Status → List ℕ → Type 0
StoresPrint verify s t files Done whole = MirrorDone verify s t files whole
StoresPrint verify s t files NoSource whole = MirrorMissing s t files whole
StoresPrint verify s t files BadHash whole = MirrorMisnamed verify s t files whole
StoresPrint verify s t files _ whole = ⊥

-- 0, 2 and 3: by the stores and files of the input, or 2 with `error store` where it has no stores that agree or no
-- list of files
abbrev pub MirrorPrints : Bool → List ℕ → Status → List ℕ → Type 0
MirrorPrints verify text BadStore whole = NoMirror text × (whole ≡ line BadStore)
MirrorPrints verify text status whole =
    (s : Store) × (t : Store) × (files : List MerkleHash) × HasMirror text s t files
    × StoresPrint verify s t files status whole
