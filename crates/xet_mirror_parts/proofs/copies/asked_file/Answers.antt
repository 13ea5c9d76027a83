use Rattle.std.proofs.Common.{sym, ◌∙◌}
use Rattle.xet_mirror_parts.proofs.LookCalls.{file-other}
use Rattle.xet_mirror_parts.proofs.copies.asked_file.Goals as goal

pub returns-then-not-is_same-clause-call : goal.returns-then-not-is_same-clause-call
returns-then-not-is_same-clause-call g c =
    file-other (g.H.Shelf.told c.args.shelf.now) (g.H.Shelf.told c.file.new.self) c.args.file.now c.in-Some.found
    (rw (c.in_ok-found.was, c.in-Some.is) at c.file.ensures) (sym c.is_same.ensures ∙ c.if-not-is_same.true)
