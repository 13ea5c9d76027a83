use Rattle.std.proofs.Common.{◌∙◌}
use Rattle.xet_shelves.proofs.LogIndexes.{looked-xorb}
use Rattle.xet_shelves.proofs.put_index.PutIndex.has_xorb.Goals as goal

pub returns : goal.returns
returns c =
    let inside = c.self.inside in
    let view = c.self.view_is in
    c.has.ensures
    ∙ looked-xorb c.args.self.now inside.xorbs inside.files (rw (← view) c.self.invariant) c.args.hash.now
