use Rattle.std.proofs.Common.{take}
use Rattle.xet_base.specs.contracts.merklehash.MerkleHashOrd.TheImpl.{ghosts}
use Rattle.xet_shelves.specs.steps.HashPlaces.{Kept, Noted}
use Rattle.xet_shelves.proofs.put_hashes.note_all.Given as goal

abbrev pub invariant-loop-place : goal.invariant-loop-place
invariant-loop-place l =
    Kept ghosts.cmp l.hashes l.initial.numbers l.numbers
    × Noted ghosts.cmp l.hashes (take l.place l.more) l.initial.numbers l.numbers
