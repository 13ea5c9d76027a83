use Rattle.std.proofs.Common.{map, take}
use Rattle.xet_store.specs.Refusals.{stored_term}
use Rattle.xet_held.specs.Reaches.{Extends}
use Rattle.xet_held.proofs.reaches.extend_all.Given as goal

abbrev pub invariant-loop-term : goal.invariant-loop-term
invariant-loop-term l = Extends l.index l.initial.reaches.items l.reaches.items (map stored_term (take l.term-index l.terms))
