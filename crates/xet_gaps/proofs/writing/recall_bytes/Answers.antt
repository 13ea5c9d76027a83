use Rattle.std.proofs.Common.{◌<◌, arith}
use Rattle.std.proofs.lemmas.List.{get_or_default}
use Rattle.xet_gaps.proofs.writing.recall_bytes.Goals as goal

pub returns : goal.returns
returns c k d inside =
    let fits = c.type_inv.bytes k in
    rw (get_or_default c.args.bytes.now k d 0 inside) (omega (arith, fits))
