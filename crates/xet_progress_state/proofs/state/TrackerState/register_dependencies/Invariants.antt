use Rattle.std.proofs.Common.{◌≡◌, ◌<◌, ◌++◌, ℕ, [], None, true, length, take, drop, get_or}
use Rattle.xet_progress_state.specs.declared.step.FileXorbDependency.{FileXorbDependency}
use Rattle.xet_progress_state.specs.steps.Kept.{IsKept}
use Rattle.xet_progress_state.specs.steps.Depends.{has_room, pasts_in}
use Rattle.xet_progress_state.specs.steps.Open.{Risen}
use Rattle.xet_progress_state.proofs.Joined.{singles}
use Rattle.xet_progress_state.proofs.state.TrackerState.register_dependencies.Given as goal

abbrev pub invariant-loop-dependency : goal.invariant-loop-dependency
invariant-loop-dependency l = record {
  kept : IsKept (l.self-inside.calls.items ++ singles (take l.dependency-index l.dependencies)) l.self-inside.files.items l.self-inside.xorbs l.self-inside.total l.self-inside.completed l.self-inside.sizes;
  fits : pasts_in l.self-inside.files.items [] (drop l.dependency-index l.dependencies) ≡ None;
  total : l.self-inside.total ≡ l.initial.self-inside.total;
  names : l.self-inside.names ≡ l.initial.self-inside.names;
  marks : l.self-inside.marks ≡ l.initial.self-inside.marks;
  risen : Risen l.initial.self-inside.files.items l.self-inside.files.items;
  count : length l.self-inside.files.items ≡ length l.initial.self-inside.files.items;
  same : l.self-inside.calls.items ≡ l.initial.self-inside.calls.items;
  room : (k : ℕ) (d : FileXorbDependency) → k < length l.dependencies → has_room l.self-inside.xorbs (get_or l.dependencies k d) ≡ true;
}
