use Rattle.std.proofs.Common.{◌≡◌, drop}
use Rattle.std.specs.List.{list_any}
use Rattle.xet_connections.specs.Scripts.{says}
use Rattle.xet_connections.proofs.script_client.speak.Given as goal

abbrev pub invariant-loop-step : goal.invariant-loop-step
invariant-loop-step l = list_any says (drop l.step-index l.steps) ≡ list_any says l.steps
