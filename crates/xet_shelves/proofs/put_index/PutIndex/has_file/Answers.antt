use Rattle.std.proofs.Common.{◌∙◌}
use Rattle.xet_shelves.proofs.LogIndexes.{looked-file}
use Rattle.xet_shelves.proofs.put_index.PutIndex.has_file.Goals as goal

pub returns : goal.returns
returns c =
    let inside = c.self.inside in
    let view = c.self.view_is in
    c.has.ensures
    ∙ looked-file c.args.self.now inside.xorbs inside.files (rw (← view) c.self.invariant) c.args.hash.now
