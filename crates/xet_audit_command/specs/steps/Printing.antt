-- What is printed of a store.
use Rattle.std.specs.Prelude.{ℕ, ◌⊎◌, ◌++◌, Bool, List, [], ◌∷◌, length, codes}
use Rattle.std.specs.Fmt.{decimal}
use Rattle.xet_outside.specs.Told.{SinkTold}
use Rattle.xet_base.specs.Store.{Store}
use Rattle.xet_findings.specs.declared.finding.AuditReport.{AuditReport}
use Rattle.xet_audit.specs.declared.raw_store.RawStore.{RawStore}
use Rattle.xet_room.specs.declared.status.Status.{Status}
use Rattle.xet_room.specs.declared.status.Status.TheVariants.{Done, Faulty}
use Rattle.xet_room.specs.Inputs.{MemoryPrinted}
use Rattle.xet_room.specs.Outcome.{Finished}
use Rattle.xet_audit_command.specs.Audit.{AuditBad, AuditGood, report_text}

-- the last line where nothing is wrong
abbrev pub counts_line : RawStore → List ℕ
counts_line raw = codes "ok " ++ decimal (length raw.files) ++ codes " " ++ decimal (length raw.xorbs) ++ 10 ∷ []

-- what there is to print of a store, valid or not
abbrev pub StorePrints : Bool → Store → Status → List ℕ → Type 0
StorePrints hashes s Done whole = AuditGood hashes s whole
StorePrints hashes s (Faulty n) whole = AuditBad hashes s n whole
StorePrints hashes s _ whole = ⊥

-- the lines of a report and a last line were printed, or `error memory`
abbrev pub ReportPrinted : AuditReport → List ℕ → Status → SinkTold → SinkTold → Status → Type 0
ReportPrinted report last end b n status =
    Finished (report_text report.findings report.spare ++ last) end b n status ⊎ MemoryPrinted b n status
