use Rattle.std.proofs.Common.{◌≡◌}
use Rattle.std.specs.Prelude.{Err}
use Rattle.xet_base.proofs.CallerLemmas.{err-of}
use Rattle.xet_serve.proofs.Shorts.{added_none, added_short, added_whole}
use Rattle.xet_serve.proofs.short_range.add_term.Goals as goal

pub returns-in_err-add_range-in-Ok : goal.returns-in_err-add_range-in-Ok
returns-in_err-add_range-in-Ok c =
    let e : c.from_residual.result ≡ Err c.in_err-add_range-in-Ok.field-0.0 = err-of _ _ c.from_residual.ensures in
    rw e (added_short c.args.term.now c.args.found.now c.args.start _ _ _)

pub returns-in_ok-add_range-in-Ok : goal.returns-in_ok-add_range-in-Ok
returns-in_ok-add_range-in-Ok c =
    added_whole c.args.term.now c.args.found.now c.args.start _ _ c.in-Ok.bytes c.in-Ok.ensures
    (rw c.as_slice.ensures at c.in_ok-add_range-in-Ok.ensures)

pub returns-in-Err : goal.returns-in-Err
returns-in-Err c = added_none c.args.term.now c.args.found.now c.args.start _
