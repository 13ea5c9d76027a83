use Rattle.std.proofs.Common.{rules, ◌≡◌, ◌-◌, arith, length, take, drop, Err}
use Rattle.std.proofs.lemmas.Grind.{common_steps}
use Rattle.xet_base.proofs.CallerLemmas.{err-of}
use Rattle.xet_outside.proofs.CallerLemmas.{rest_is, took_more}
use Rattle.xet_outside.specs.Told.{Took}
use Rattle.xet_queue.proofs.Joined.{piece_err}
use Rattle.xet_queue.proofs.pieces.write_piece.Goals as goal

pub returns-in_err-at : goal.returns-in_err-at
returns-in_err-at g c =
    let i = c.loop-at.invariant in
    let e : c.from_residual.result ≡ Err c.in_err-at.field-0.0 = err-of _ _ c.from_residual.ensures in
    rw e (piece_err _ (g.S.Sink.told c.loop-at.sink) _ _ c.loop-at.at _ c.loop-at-test.true i.took i.flushed i.link i.faults (rw c.in_err-at.was at c.write.ensures))

pub loop-at-preserved : goal.loop-at-preserved
loop-at-preserved g c =
    let w : Took (g.S.Sink.told c.loop-at.sink).took (g.S.Sink.told c.write.new.self).took (take c.in_ok-at.field-0 (take (length c.args.piece.now - c.loop-at.at) (drop c.loop-at.at c.args.piece.now))) = search rules in
    record {
      in_range = grind (arith, common_steps);
      took = took_more _ (g.S.Sink.told c.loop-at.sink).took (g.S.Sink.told c.write.new.self).took c.args.piece.now c.loop-at.at c.in_ok-at.field-0 c.loop-at.invariant.took (rw rest_is at w);
      flushed = search rules;
      link = search rules;
      faults = search rules;
    }
