use Rattle.std.proofs.Common.{◌≡◌, ℕ, ◌+◌, ◌<◌, Less, get_or}
use Rattle.xet_audit.specs.declared.raw_store.RawFile.{RawFile}
use Rattle.xet_audit.specs.Findings.{hash_cmp}
use Rattle.xet_compact.proofs.order.files_ascend.Given as goal

abbrev pub invariant-loop-i : goal.invariant-loop-i
invariant-loop-i l = (k : ℕ) (d : RawFile) → k + 1 < l.i → hash_cmp (get_or l.files k d).hash (get_or l.files (k + 1) d).hash ≡ Less
