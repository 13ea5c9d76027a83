use Rattle.std.proofs.Common.{◌≡◌, ◌∙◌, ◌∷◌, [], length, map, refl, sym, ap, arith, length-append}
use Rattle.std.specs.Vec.Iter.{into_iter_items}
use Rattle.xet_lane.specs.Ends.{ended}
use Rattle.xet_lanes.proofs.Apart.{all_taken, claims_all, claims_length, claims_more, ends_all, ends_length, ends_more, one_taken, taken_more}
use Rattle.xet_lanes.proofs.jobs.take_apart.Goals as goal

pub loop-job-init : goal.loop-job-init
loop-job-init g c =
    let b = c.into_iter-job-iterator.ensures.into_iter_gives in
    record {
      passes = c.requires.empty.0;
      ends = ap (map ended) c.requires.empty.1;
      room = (refl, refl);
      parts = omega arith;
      taken = refl;
      one = rw b.0 c.requires.one;
      left = b.1 ∙ (c.args.jobs.ok.0 ∙ sym (ap length b.0));
    }

pub push_reserved-requires : goal.push_reserved-requires
push_reserved-requires g c =
    let i = c.loop-job.invariant in
    let n = claims_length _ _ _ i.passes in
    let t = ap length i.taken in
    let l = length-append c.loop-job.yielded (into_iter_items c.loop-job.job-iterator) in
    let s = ap length c.in-Some.ensures.steps.0 in
    let b = c.into_iter-job-iterator.ensures.into_iter_gives in
    let j = ap length b.0 in
    let k = c.loop-job.passes.ok.0 in
    let m = c.args.jobs.ok.0 in
    let r = c.requires.room.0 in
    let q = i.room.0 in
    omega arith

pub push_reserved-requires-in-loop-job : goal.push_reserved-requires-in-loop-job
push_reserved-requires-in-loop-job g c =
    let i = c.loop-job.invariant in
    let n = ends_length _ _ _ i.ends in
    let t = ap length i.taken in
    let l = length-append c.loop-job.yielded (into_iter_items c.loop-job.job-iterator) in
    let s = ap length c.in-Some.ensures.steps.0 in
    let b = c.into_iter-job-iterator.ensures.into_iter_gives in
    let j = ap length b.0 in
    let k = c.loop-job.ends.ok.0 in
    let m = c.args.jobs.ok.0 in
    let r = c.requires.room.1 in
    let q = i.room.1 in
    omega arith

pub loop-job-preserved : goal.loop-job-preserved
loop-job-preserved g c =
    let i = c.loop-job.invariant in
    let s = c.in-Some.ensures.steps in
    let n = length-append c.loop-job.yielded (c.in-Some.job ∷ []) in
    let p = c.gather.ensures.parts in
    let q = i.parts in
    let l = i.left in
    let t = s.1 in
    let k = ap length s.0 in
    let o = one_taken _ _ _ _ c.in-Some.job _ i.passes i.one s.0 in
    let m : c.in-Some.job.run.share.parts ≡ 1 = o.0 in
    record {
      passes = claims_more _ _ c.in-Some.job _ _ i.passes c.push_reserved.ensures.items;
      ends = ends_more _ _ c.in-Some.job _ _ _ i.ends c.push_reserved-in-loop-job.ensures.items refl;
      room = (c.push_reserved.ensures.capacity ∙ i.room.0, c.push_reserved-in-loop-job.ensures.capacity ∙ i.room.1);
      parts = omega arith;
      taken = taken_more _ _ _ _ c.in-Some.job i.taken s.0;
      one = o.1;
      left = omega arith;
    }

pub returns : goal.returns
returns g c =
    let i = c.loop-job.invariant in
    let b = c.into_iter-job-iterator.ensures.into_iter_gives in
    let e = all_taken _ _ _ i.taken (sym i.left ∙ c.in-None.ensures.steps.0) ∙ b.0 in
    let n = ap length e in
    let m = c.args.jobs.ok.0 in
    let p = i.parts in
    record {
      passes = claims_all _ _ _ _ i.passes e;
      ends = ends_all _ _ _ _ i.ends e;
      parts = omega arith;
    }
