use Rattle.std.proofs.Common.{◌≡◌, ◌≤◌, [], take, drop}
use Rattle.std.specs.Prelude.{All}
use Rattle.xet_progress_state.specs.steps.Depends.{CountedIn, pasts_in}
use Rattle.xet_progress_state.proofs.depend.count_in.Given as goal

abbrev pub invariant-loop-at : goal.invariant-loop-at
invariant-loop-at l = record {
  counted : CountedIn l.initial.files.items l.files.items (take l.at l.dependencies);
  rest : pasts_in l.initial.files.items [] l.dependencies ≡ pasts_in l.initial.files.items (take l.at l.dependencies) (drop l.at l.dependencies);
  within : All (λ f. f.registered ≤ f.total) l.files.items;
}
