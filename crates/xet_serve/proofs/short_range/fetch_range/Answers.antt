use Rattle.std.proofs.Common.{◌≡◌}
use Rattle.std.specs.Prelude.{Err}
use Rattle.xet_base.proofs.CallerLemmas.{err-of}
use Rattle.xet_serve.proofs.Ranges.{settings_stay}
use Rattle.xet_serve.proofs.Shorts.{range_told, range_untold, then_run}
use Rattle.xet_serve.proofs.short_range.fetch_range.Goals as goal
use Rattle.xet_serve.specs.Sessions.{any_setup}

pub returns-in_err-fetched : goal.returns-in_err-fetched
returns-in_err-fetched g c =
    let e : c.from_residual.result ≡ Err c.in_err-fetched.field-0.0 = err-of _ _ c.from_residual.ensures in
    rw e (range_untold c.args.config.now.tries c.args.file c.args.range _ _ _ _ _
    (rw c.in_err-fetched.was at (c.fetch_shortly.ensures (g.K.ChunkCache.told c.args.cache.now))))

pub returns-in-Some : goal.returns-in-Some
returns-in-Some g c =
    range_told c.args.config.now.tries c.args.file c.args.range _ _ _ _ c.in-Some.fetched
    (rw (c.in_ok-fetched.was, c.in-Some.is) at (c.fetch_shortly.ensures (g.K.ChunkCache.told c.args.cache.now)))

pub fetch_by_run-requires-clause-settings : goal.fetch_by_run-requires-clause-settings
fetch_by_run-requires-clause-settings g c κs within =
    settings_stay (any_setup c.args.config.now) _ _
    (c.fetch_shortly.ensures (g.K.ChunkCache.told c.args.cache.now)).goes_on.clients c.requires

pub returns-in-None : goal.returns-in-None
returns-in-None g c =
    then_run c.args.config.now.tries c.args.file c.args.range _ _ _ _ _ _
    (rw (c.in_ok-fetched.was, c.in-None.is) at (c.fetch_shortly.ensures (g.K.ChunkCache.told c.args.cache.now))) _
    c.fetch_by_run.ensures
