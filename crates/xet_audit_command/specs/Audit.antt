-- What the command `audit` prints.
use Rattle.std.specs.Prelude.{ℕ, ◌≡◌, ◌<◌, ◌++◌, Bool, cond, true, false, List, [], ◌∷◌, length, Option, Some, None}
use Rattle.std.specs.Prelude.{codes}
use Rattle.std.specs.Str.{bytes_eq}
use Rattle.std.specs.Fmt.{decimal}
use Rattle.std.specs.List.{flat_map}
use Rattle.hex.specs.Hex.{encode_lower}
use Rattle.xet_base.specs.declared.merklehash.MerkleHash.{MerkleHash}
use Rattle.xet_base.specs.Store.{Store}
use Rattle.xet_findings.specs.declared.finding.Finding.{Finding}
use Rattle.xet_audit.specs.Findings.{AreSpare, findings}
use Rattle.xet_audit.specs.Raws.{HasRaw, NoRaw}
use Rattle.xet_room.specs.declared.status.Status.{Status}
use Rattle.xet_room.specs.declared.status.Status.TheVariants.{BadStore, Done, Faulty}
use Rattle.xet_room.specs.Texts.{bad_line, line}

-- ---- the words

-- the word `hashes`
abbrev pub word_of : List ℕ → Option Bool
word_of w = cond (bytes_eq w (codes "hashes")) (Some true) None

-- the words after `audit`: none, or that word
abbrev pub hashes_of : List (List ℕ) → Option Bool
hashes_of [] = Some false
hashes_of (w ∷ []) = word_of w
hashes_of _ = None

-- ---- the lines

-- the line of a finding: its kind and its two places
abbrev pub finding_line : Finding → List ℕ
finding_line f =
    codes "finding " ++ decimal f.kind ++ codes " " ++ decimal f.a ++ codes " " ++ decimal f.b ++ 10 ∷ []

-- the line of the hash of a xorb that no file names
abbrev pub spare_line : MerkleHash → List ℕ
spare_line h = codes "spare " ++ encode_lower h.0 ++ 10 ∷ []

-- the lines of all findings, and of the spare xorbs behind them
abbrev pub report_text : List Finding → List MerkleHash → List ℕ
report_text fs hs = flat_map finding_line fs ++ flat_map spare_line hs

-- the last line where nothing is wrong: how many files and how many xorbs there are
abbrev pub good_line : Store → List ℕ
good_line s = codes "ok " ++ decimal (length s.files) ++ codes " " ++ decimal (length s.xorbs) ++ 10 ∷ []

-- ---- by the status

-- 0: nothing is wrong, and this is the text of the spare xorbs and the last line
pub record AuditGood (hashes : Bool) (s : Store) (whole : List ℕ) : Type 0 where
  pub none : findings s hashes ≡ []
  pub spare : List MerkleHash
  pub are : AreSpare s spare
  pub whole_is : whole ≡ report_text [] spare ++ good_line s

-- 10: so many things are wrong, and this is the text of them, of the spare xorbs and the last line
pub record AuditBad (hashes : Bool) (s : Store) (n : ℕ) (whole : List ℕ) : Type 0 where
  pub some : 0 < n
  pub count : length (findings s hashes) ≡ n
  pub spare : List MerkleHash
  pub are : AreSpare s spare
  pub whole_is : whole ≡ report_text (findings s hashes) spare ++ bad_line n

-- 0, 2 and 10: by the store that the text lists, valid or not, or where it lists none
abbrev pub AuditPrints : Bool → List ℕ → Status → List ℕ → Type 0
AuditPrints hashes text Done whole = (s : Store) × HasRaw text s × AuditGood hashes s whole
AuditPrints hashes text (Faulty n) whole = (s : Store) × HasRaw text s × AuditBad hashes s n whole
AuditPrints hashes text BadStore whole = NoRaw text × (whole ≡ line BadStore)
AuditPrints hashes text _ whole = ⊥
