use Rattle.std.proofs.Common.{inl, inr, refl}
use Rattle.xet_leader.proofs.settling.settle_both.Goals as goal

pub refresh_stale-requires-clause-running : goal.refresh_stale-requires-clause-running
refresh_stale-requires-clause-running g c = c.requires.running

pub refresh_stale-requires-clause-stale : goal.refresh_stale-requires-clause-stale
refresh_stale-requires-clause-stale g c = c.requires.stale

pub returns-in-Ok : goal.returns-in-Ok
returns-in-Ok g c = inl (record { offered = c.in-Ok.ensures.turn; refreshed = c.refresh_stale.ensures.turn })

pub returns-in-Err : goal.returns-in-Err
returns-in-Err g c =
    inr (record { error = c.in-Err.error; is = refl; offered = c.in-Err.ensures.turn; rest = refl })
