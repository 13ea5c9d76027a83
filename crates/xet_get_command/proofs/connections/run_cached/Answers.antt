use Rattle.std.proofs.Common.{ap}
use Rattle.xet_outside.specs.Told.{CacheTold}
use Rattle.xet_get_command.proofs.TapLanes.{tapped, true_not}
use Rattle.xet_get_command.proofs.connections.run_cached.Goals as goal

pub returns : goal.returns
returns g c =
    tapped _ _ _ _ _ _ _ _ c.run_behind.result c.run_behind.ensures
    (ap (λ (k : CacheTold). k.entries) c.new-cache.ensures.told)
    (λ w. absurd (true_not _ c.requires.cache w))
