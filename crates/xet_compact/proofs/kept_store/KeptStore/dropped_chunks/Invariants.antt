use Rattle.std.proofs.Common.{◌≡◌, ◌≤◌, length, take}
use Rattle.xet_audit.specs.Raws.{store_of_raw}
use Rattle.xet_compact.proofs.KeptXorbs.{dropped_of}
use Rattle.xet_compact.proofs.kept_store.KeptStore.dropped_chunks.Given as goal

abbrev pub invariant-loop-i : goal.invariant-loop-i
invariant-loop-i l =
    (l.i ≤ length l.self.raw.now.xorbs) × (l.dropped ≡ dropped_of (store_of_raw l.self.raw.now) (take l.i l.self.raw.now.xorbs))
