use Rattle.std.proofs.Common.{◌≡◌, map, drop}
use Rattle.xet_base.specs.Lists.{first_some}
use Rattle.xet_progress_state.specs.steps.Depends.{unknown_in}
use Rattle.xet_progress_state.proofs.depend.unknown_file.Given as goal

abbrev pub invariant-loop-dependency : goal.invariant-loop-dependency
invariant-loop-dependency l = first_some (map (unknown_in l.count) l.dependencies) ≡ first_some (map (unknown_in l.count) (drop l.dependency-index l.dependencies))
