use Rattle.std.proofs.Common.{◌≡◌, ◌∙◌, get_or}
use Rattle.std.proofs.lemmas.List.{get_or_default}
use Rattle.xet_queue.proofs.Joined.{whole_again}
use Rattle.xet_queue.proofs.pieces.write_rest.Goals as goal

pub returns-clause-pieces : goal.returns-clause-pieces
returns-clause-pieces g c =
    let ps = c.args.pieces.now in
    let at = c.args.place.piece in
    let p = c.replace-whole.result in
    let e : p ≡ get_or ps at p = c.replace-whole.ensures.value ∙ get_or_default ps at c.index-pieces-piece-2.result p c.requires.within in
    whole_again ps at p c.replace-whole.new.dest c.requires.within e
