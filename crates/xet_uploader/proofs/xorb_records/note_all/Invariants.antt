use Rattle.std.proofs.Common.{◌-◌, length}
use Rattle.xet_base.specs.contracts.merklehash.MerkleHashOrd.TheImpl.{ghosts}
use Rattle.xet_uploader.specs.steps.ChunkPlaces.{NotedFrom}
use Rattle.xet_uploader.proofs.xorb_records.note_all.Given as goal

abbrev pub invariant-loop-noted : goal.invariant-loop-noted
invariant-loop-noted l = NotedFrom ghosts.cmp l.records l.chunks (length l.chunks - l.noted) l.initial.places l.places
