use Rattle.std.proofs.Common.{◌≡◌, List, take}
use Rattle.std.specs.Prelude.{filter}
use Rattle.xet_base.specs.declared.merklehash.MerkleHash.{MerkleHash}
use Rattle.xet_audit.specs.steps.Tables.{IsMarked}
use Rattle.xet_audit.proofs.Unnamed.{unseen}
use Rattle.xet_audit.proofs.spare.unmarked.Given as goal

abbrev pub invariant-loop-n : goal.invariant-loop-n
invariant-loop-n l = (seen : List MerkleHash) → IsMarked l.hashes seen l.marks → l.left.items ≡ filter (unseen seen) (take l.n l.hashes)
