use Rattle.std.proofs.Common.{◌<◌, ◌≤◌, ℕ, length, take, drop, get_or}
use Rattle.std.specs.List.{sum_by}
use Rattle.xet_progress_state.specs.declared.file.TrackedFile.{TrackedFile}
use Rattle.xet_progress_state.specs.Counts.{of_file}
use Rattle.xet_progress_state.specs.steps.Depends.{CountedIn}
use Rattle.xet_progress_state.proofs.depend.take_back.Given as goal

abbrev pub invariant-loop-dependency : goal.invariant-loop-dependency
invariant-loop-dependency l = record {
  taken : CountedIn l.files.items l.initial.files.items (take l.dependency-index l.dependencies);
  rest : (f : ℕ) (e : TrackedFile) → f < length l.files.items → sum_by (of_file f) (drop l.dependency-index l.dependencies) ≤ (get_or l.files.items f e).registered;
}
