use Rattle.std.proofs.Common.{◌≡◌, map, take}
use Rattle.xet_store.proofs.worked.chunks.Given as goal

abbrev pub invariant-loop-text : goal.invariant-loop-text
invariant-loop-text l = l.chunks ≡ map (λ t. t.now) (take l.text-index l.texts)
