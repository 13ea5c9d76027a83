use Rattle.std.proofs.Common.{◌+◌, ◌-◌, ◌/◌, arith}
use Rattle.xet_store.proofs.JoinedChunks.{place-le}
use Rattle.xet_store.proofs.mem_cut.first_past.Goals as goal

pub loop-low-preserved : goal.loop-low-preserved
loop-low-preserved c =
    let cs = c.args.xorb.now.chunks in
    let middle = c.loop-low.low + (c.loop-low.high - c.loop-low.low) / 2 in
    let i = c.loop-low.invariant in
    record {
      low = omega arith;
      ordered = omega arith;
      high = i.high;
      before = λ k l h. let a = place-le cs k middle (omega arith) in omega (arith, a);
      past = i.past;
    }
