use Rattle.std.proofs.Common.{sym, ◌∙◌}
use Rattle.xet_mirror_parts.proofs.LookCalls.{look-again, looked-contained}
use Rattle.xet_mirror_parts.proofs.Terms.{look-within}
use Rattle.xet_mirror_parts.proofs.looks.look_at_term.Goals as goal

pub returns-then-has : goal.returns-then-has
returns-then-has g c =
    let sb = g.H.Shelf.told c.args.shelf.now in
    let tb = g.T.Uploader.told c.args.target.now in
    let cb = c.args.copied.now in
    let has = sym c.has.ensures ∙ c.if-has.true in
    rw c.has_term.ensures (look-within c.args.verify c.args.term.now sb sb tb tb cb cb
    (looked-contained cb c.args.term.now.xorb has) (look-again c.args.verify c.args.term.now.xorb sb tb cb has))
