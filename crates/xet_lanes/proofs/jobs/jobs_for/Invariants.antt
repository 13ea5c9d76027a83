use Rattle.std.proofs.Common.{◌≡◌, ◌+◌, ◌≤◌, map}
use Rattle.std.specs.Prelude.{All, vec_len, vec_capacity}
use Rattle.xet_claims.specs.ClaimPasses.{IsPassOf, pass_view}
use Rattle.xet_claims.specs.ClaimViews.{newcomer}
use Rattle.xet_lanes.specs.steps.Drawn.{AllReady, work}
use Rattle.xet_lanes.proofs.jobs.jobs_for.Given as goal

abbrev pub invariant-loop-claim : goal.invariant-loop-claim
invariant-loop-claim g l = record {
  left : All (λ p. IsPassOf l.claims p × (pass_view p ≡ newcomer 1 l.claims.count)) l.passes.items;
  ready : AllReady l.claims (map (λ j. work j.claim j.run.share.parts j.steps.items j.short) l.jobs.items);
  len : vec_len l.jobs + vec_len l.passes ≡ vec_len l.fn.passes;
  room : vec_len l.fn.passes ≤ vec_capacity l.jobs;
  kept : vec_capacity l.passes ≡ vec_capacity l.fn.passes;
  parts : l.pass.share.parts + vec_len l.jobs ≡ l.fn.pass.share.parts;
}

abbrev pub decreases-loop-claim : goal.decreases-loop-claim
decreases-loop-claim g l = vec_len l.passes
