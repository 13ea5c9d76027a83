use Rattle.std.proofs.Common.{◌≡◌, ◌++◌, take}
use Rattle.xet_audit.specs.Findings.{each_at, is_misnamed}
use Rattle.xet_audit.specs.Raws.{store_of_raw}
use Rattle.xet_audit.proofs.hash_faults.find_misnamed_files.Given as goal

abbrev pub invariant-loop-a : goal.invariant-loop-a
invariant-loop-a l =
    let s = store_of_raw l.table.raw.now in
    l.found.items ≡ l.initial.found.items ++ each_at 9 (λ i f. is_misnamed s f) (take l.a s.files)
