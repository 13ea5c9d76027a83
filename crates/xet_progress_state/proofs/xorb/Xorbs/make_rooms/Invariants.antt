use Rattle.std.proofs.Common.{◌≡◌, ◌<◌, ℕ, true, get_or}
use Rattle.xet_progress_state.specs.declared.step.FileXorbDependency.{FileXorbDependency}
use Rattle.xet_progress_state.specs.steps.Depends.{StandAlike, has_room}
use Rattle.xet_progress_state.proofs.xorb.Xorbs.make_rooms.Given as goal

abbrev pub invariant-loop-dependency : goal.invariant-loop-dependency
invariant-loop-dependency l = record {
  alike : StandAlike l.count l.initial.self l.self;
  room : (k : ℕ) (d : FileXorbDependency) → k < l.dependency-index → has_room l.self (get_or l.dependencies k d) ≡ true;
}
