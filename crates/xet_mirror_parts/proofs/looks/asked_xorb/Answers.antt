use Rattle.std.proofs.Common.{sym, ◌∙◌}
use Rattle.xet_mirror_parts.proofs.LookCalls.{asked-other}
use Rattle.xet_mirror_parts.proofs.looks.asked_xorb.Goals as goal

pub returns-then-not-is_same-clause-call : goal.returns-then-not-is_same-clause-call
returns-then-not-is_same-clause-call g c =
    asked-other (g.H.Shelf.told c.args.shelf.now) (g.H.Shelf.told c.xorb.new.self) c.args.xorb.now c.in-Some.found
    (rw (c.in_ok-found.was, c.in-Some.is) at c.xorb.ensures) (sym c.is_same.ensures ∙ c.if-not-is_same.true)
