-- Laws of findings.
use Rattle.std.specs.Prelude.{◌≡◌, []}
use Rattle.serde_json.specs.Data.{Data}
use Rattle.xet_base.specs.Store.{IsValid, Store}
use Rattle.xet_document.specs.Document.{IsDocumentOf}
use Rattle.xet_audit.specs.Findings.{faults}
use Rattle.xet_audit.specs.Raws.{Lists}

-- a store without findings of kinds 1 to 7 is valid
abbrev pub FaultlessIsValid : Type 0
FaultlessIsValid = (s : Store) → faults s ≡ [] → IsValid s

-- a valid store has none
abbrev pub ValidIsFaultless : Type 0
ValidIsFaultless = (s : Store) → IsValid s → faults s ≡ []

-- so a value that lists a store without them is a document of it
abbrev pub FaultlessIsDocument : Type 0
FaultlessIsDocument = (d : Data) (s : Store) → Lists d s → faults s ≡ [] → IsDocumentOf d s
