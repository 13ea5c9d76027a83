use Rattle.std.proofs.Common.{◌≡◌, refl}
use Rattle.std.specs.Prelude.{Err}
use Rattle.xet_base.proofs.CallerLemmas.{err-of}
use Rattle.xet_serve.proofs.Fetches.{range_failed, range_short, range_whole}
use Rattle.xet_serve.proofs.fetch.fetch_by.Goals as goal

pub returns-in_err-add_range-in-Ok : goal.returns-in_err-add_range-in-Ok
returns-in_err-add_range-in-Ok g c =
    let e : c.from_residual.result ≡ Err c.in_err-add_range-in-Ok.field-0.0 = err-of _ _ c.from_residual.ensures in
    rw e (range_short c.args.config.now c.args.file c.args.range _ _ _ _ c.requires.empty refl _ _ _ _
    c.in-Ok.ensures)

pub returns-in_ok-add_range-in-Ok : goal.returns-in_ok-add_range-in-Ok
returns-in_ok-add_range-in-Ok g c =
    range_whole c.args.config.now c.args.file c.args.range _ _ _ _ c.requires.empty refl _ c.taken.result.now _ _ c.in-Ok.ensures
    c.taken.ensures c.in_ok-add_range-in-Ok.ensures

pub returns-in-Err : goal.returns-in-Err
returns-in-Err g c =
    range_failed c.args.config.now c.args.file c.args.range _ _ _ _ c.requires.empty refl _ _ _ _ c.in-Err.ensures
    c.failed.ensures c.requires.settings
