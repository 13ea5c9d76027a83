use Rattle.std.proofs.Common.{take}
use Rattle.std.specs.Prelude.{None, Ok}
use Rattle.xet_mirror_parts.specs.Copying.{TermsCall}
use Rattle.xet_mirror_parts.proofs.looks.look_at_terms.Given as goal

abbrev pub invariant-loop-entry : goal.invariant-loop-entry
invariant-loop-entry g l =
    TermsCall l.verify (take l.entry l.terms) (g.H.Shelf.told l.fn.shelf) (g.H.Shelf.told l.shelf) (g.T.Uploader.told l.fn.target) (g.T.Uploader.told l.target) l.fn.copied l.copied (Ok None)
