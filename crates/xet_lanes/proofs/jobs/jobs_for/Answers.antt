use Rattle.std.proofs.Common.{rules}
use Rattle.xet_lanes.proofs.NewJobs.{jobs_more, left_ready}
use Rattle.xet_lanes.proofs.jobs.jobs_for.Goals as goal

pub loop-claim-preserved : goal.loop-claim-preserved
loop-claim-preserved g c =
    let p = left_ready c.args.claims.now _ _ _ c.in-Some.ensures.items c.loop-claim.invariant.left in
    record {
      left = p.0;
      ready = jobs_more _ c.args.claims.now _ _ _ c.push_reserved.ensures.items c.loop-claim.invariant.ready p.1
          c.split-run.ensures.parts.0 c.new.ensures.items;
      len = search rules;
      room = search rules;
      kept = search rules;
      parts = search rules;
    }
