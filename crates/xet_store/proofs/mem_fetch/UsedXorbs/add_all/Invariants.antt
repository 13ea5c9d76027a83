use Rattle.std.proofs.Common.{take}
use Rattle.xet_store.specs.steps.UsedXorbs.{IsUsed}
use Rattle.xet_store.proofs.mem_fetch.UsedXorbs.add_all.Given as goal

abbrev pub invariant-loop-i : goal.invariant-loop-i
invariant-loop-i l = IsUsed l.store (take l.i l.terms) l.self.hashes l.self.touched.items
