use Rattle.xet_serve.proofs.Shorts.{term_found, term_unasked, term_untold}
use Rattle.xet_serve.proofs.short_range.fetch_term.Goals as goal

pub returns-then-is_none : goal.returns-then-is_none
returns-then-is_none g c = term_unasked c.args.block.now c.args.term.now c.args.start _ _

pub returns-in-Ok : goal.returns-in-Ok
returns-in-Ok g c =
    term_found c.args.block.now c.args.urls.now c.args.term.now c.args.start _ _ c.in-Ok.found _ _ _
    c.in-Ok.ensures c.add_found.ensures

pub returns-in-Err : goal.returns-in-Err
returns-in-Err g c =
    term_untold c.args.block.now c.args.urls.now c.args.term.now c.args.start _ _ c.in-Err.error _ _
    c.in-Err.ensures c.untold.ensures
