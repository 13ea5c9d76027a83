use Rattle.std.proofs.Common.{◌≡◌, ◌∷◌, take}
use Rattle.xet_store.proofs.stored_xorb.short_places.Given as goal

abbrev pub invariant-loop-end : goal.invariant-loop-end
invariant-loop-end l = l.short.items ≡ 0 ∷ take l.end-index l.ends
