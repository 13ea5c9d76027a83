use Rattle.std.proofs.Common.{◌≡◌, map, take}
use Rattle.xet_audit.specs.Raws.{store_of_raw}
use Rattle.xet_compact.specs.steps.Kept.{kept_of}
use Rattle.xet_compact.proofs.kept_store.keep_xorbs.Given as goal

abbrev pub invariant-loop-i : goal.invariant-loop-i
invariant-loop-i l = l.kept ≡ map (kept_of (store_of_raw l.raw)) (take l.i l.raw.xorbs)
