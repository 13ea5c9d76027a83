use Rattle.std.proofs.Common.{◌≡◌, ◌+◌, ◌++◌, length, map}
use Rattle.std.specs.Prelude.{All, vec_capacity}
use Rattle.std.specs.Vec.Iter.{into_iter_items, into_iter_len}
use Rattle.xet_lane.specs.Ends.{ended}
use Rattle.xet_lanes.specs.steps.Drawn.{claims_of, ends_of, work}
use Rattle.xet_lanes.proofs.jobs.take_apart.Given as goal

abbrev pub invariant-loop-job : goal.invariant-loop-job
invariant-loop-job g l = record {
  passes : l.passes.items ≡ claims_of (map (λ j. work j.claim j.run.share.parts j.steps.items j.short) l.yielded);
  ends : map ended l.ends.items ≡ ends_of (map (λ j. work j.claim j.run.share.parts j.steps.items j.short) l.yielded);
  room : (vec_capacity l.passes ≡ vec_capacity l.fn.passes) × (vec_capacity l.ends ≡ vec_capacity l.fn.ends);
  parts : l.pass.share.parts ≡ l.fn.pass.share.parts + length l.yielded;
  taken : l.yielded ++ into_iter_items l.job-iterator ≡ into_iter_items l.initial.job-iterator;
  one : All (λ j. j.run.share.parts ≡ 1) (into_iter_items l.job-iterator);
  left : into_iter_len l.job-iterator ≡ length (into_iter_items l.job-iterator);
}
