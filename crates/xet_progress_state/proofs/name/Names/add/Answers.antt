use Rattle.std.proofs.Common.{rules, ◌∷◌}
use Rattle.std.specs.Prelude.{IsPermutation}
use Rattle.std.specs.BinaryHeap.{heap_items}
use Rattle.xet_base.specs.declared.merklehash.MerkleHash.{MerkleHash}
use Rattle.std.specs.declared.cmp.Reverse.{Reverse}
use Rattle.xet_progress_state.proofs.Unfinished.{has_moved}
use Rattle.xet_progress_state.proofs.name.Names.add.Goals as goal

pub returns-clause-ok : goal.returns-clause-ok
returns-clause-ok c =
    let top : Reverse MerkleHash = record { 0 = c.args.hash } in
    let p : IsPermutation (top ∷ heap_items c.self.inside.heap) (heap_items c.push.new.self) = search rules in
    rw (← c.self.view_is) (λ h. has_moved (λ (x : Reverse MerkleHash). x.0) top (heap_items c.self.inside.heap) (heap_items c.push.new.self) p h)
