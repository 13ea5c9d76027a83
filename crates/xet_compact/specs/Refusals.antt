-- Why a store is not compacted.
use Rattle.std.specs.Prelude.{◌≡◌, ◌≢◌, []}
use Rattle.xet_base.specs.Store.{Store}
use Rattle.xet_compact.specs.declared.compaction.CompactError.{CompactError}
use Rattle.xet_compact.specs.declared.compaction.CompactError.TheVariants as compact_error
use Rattle.xet_compact.specs.Compacts.{Clashes}
use Rattle.xet_audit.specs.Findings.{faults}

-- it isn't valid, or valid with a clash
abbrev pub CompactCause : Store → CompactError → Type 0
CompactCause s compact_error.OutOfMemory = Unit {0}
CompactCause s compact_error.NotValid = faults s ≢ []
CompactCause s (compact_error.Clash h) = (faults s ≡ []) × Clashes s h
