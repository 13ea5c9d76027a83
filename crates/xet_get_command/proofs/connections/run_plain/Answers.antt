use Rattle.std.proofs.Common.{refl}
use Rattle.xet_get_command.proofs.TapLanes.{tapped}
use Rattle.xet_get_command.proofs.connections.run_plain.Goals as goal

pub returns : goal.returns
returns g c = tapped _ _ _ _ _ _ _ _ c.run_behind.result c.run_behind.ensures refl (λ w. refl)
