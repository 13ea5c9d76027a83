use Rattle.std.proofs.Common.{rules, ◌-◌, arith, length, take, drop}
use Rattle.std.proofs.lemmas.Grind.{common_steps}
use Rattle.xet_outside.specs.Told.{Took}
use Rattle.xet_outside.proofs.CallerLemmas.{took_more, rest_is}
use Rattle.xet_sinks.proofs.PieceLoop.{pushed_fault}
use Rattle.xet_sinks.proofs.pushing.push.Goals as goal

pub loop-at-preserved : goal.loop-at-preserved
loop-at-preserved g c =
    let w : Took (g.S.Sink.told c.loop-at.sink).took (g.S.Sink.told c.write.new.self).took
    (take c.in-Ok.count (take (length c.args.piece.now - c.loop-at.at) (drop c.loop-at.at c.args.piece.now)))
    = search rules in
    record {
      in_range = grind (arith, common_steps);
      took = took_more _ (g.S.Sink.told c.loop-at.sink).took (g.S.Sink.told c.write.new.self).took c.args.piece.now
          c.loop-at.at c.in-Ok.count c.loop-at.invariant.took (rw rest_is at w);
      flushed = search rules;
      link = search rules;
      faults = search rules;
    }

pub returns-in-Err-Failed : goal.returns-in-Err-Failed
returns-in-Err-Failed g c =
    let i = c.loop-at.invariant in
    pushed_fault _ (g.S.Sink.told c.loop-at.sink) _ _ c.loop-at.at i.in_range i.took i.flushed i.link i.faults
    (rw (← c.in-Err-Failed.field-0-is) (rw c.in-Err-Failed.is at c.write.ensures))
