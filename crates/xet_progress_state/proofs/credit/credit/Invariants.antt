use Rattle.std.proofs.Common.{◌≡◌, ◌++◌, map, length, take, drop}
use Rattle.xet_progress_state.specs.steps.Credits.{Credited, completed_in, with_share}
use Rattle.xet_progress_state.proofs.credit.credit.Given as goal

abbrev pub invariant-loop-part : goal.invariant-loop-part
invariant-loop-part l = record {
  parts : l.parts ≡ map (with_share l.sent l.size) (take l.part-index l.initial.parts) ++ drop l.part-index l.initial.parts;
  files : Credited l.initial.files.items l.files.items (take l.part-index l.initial.parts) l.sent l.size;
  count : length l.files.items ≡ length l.initial.files.items;
  sum : l.completed ≡ completed_in l.files.items;
}
