use Rattle.std.proofs.Common.{rules, ◌≡◌, ◌+◌, ◌-◌, subst, arith}
use Rattle.xet_queue.specs.steps.Lending.{Lends}
use Rattle.xet_queue.proofs.Lent.{lends_back, lends_less}
use Rattle.xet_queue.proofs.lending.put_back.Goals as goal

pub loop-i-preserved : goal.loop-i-preserved
loop-i-preserved c =
    let i = c.loop-i.invariant in
    let t = c.loop-i-test.true in
    let e : c.loop-i.i ≡ c.loop-i.i - 1 + 1 = omega arith in
    record {
      within = search (rules, arith);
      back = λ ts l. lends_less 0 (c.loop-i.i - 1) ts c.loop-i.queue.items c.put_one.new.queue.items c.loop-i.pieces.items c.put_one.new.pieces.items (omega arith) (subst (λ j. Lends 0 j ts c.loop-i.queue.items c.loop-i.pieces.items) e (i.back ts l)) c.put_one.ensures.back;
      len = search rules;
      capacity = search rules;
    }

pub returns-clause-back : goal.returns-clause-back
returns-clause-back c ts l = lends_back 0 c.loop-i.i ts c.loop-i.queue.items c.loop-i.pieces.items c.loop-i-test.false (c.loop-i.invariant.back ts l)
