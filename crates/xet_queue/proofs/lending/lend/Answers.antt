use Rattle.std.proofs.Common.{rules, ◌≡◌, ◌<◌, ◌≤◌, true, false, get_or, length, sym, ◌∙◌, arith}
use Rattle.std.specs.Prelude.{is_some}
use Rattle.xet_queue.proofs.Lent.{lends_all, lends_end, lends_more, lends_stay, no_term}
use Rattle.xet_queue.proofs.lending.lend.Goals as goal

pub returns-then-not-lend_one-clause-lent : goal.returns-then-not-lend_one-clause-lent
returns-then-not-lend_one-clause-lent c =
    let r : c.lend_one.result ≡ false = search rules in
    let s : is_some (get_or c.loop-end.queue.items c.loop-end.end no_term).bytes ≡ false = sym (c.lend_one.ensures.ready no_term) ∙ r in
    lends_stay 0 c.loop-end.end c.args.queue.now.items c.loop-end.queue.items c.lend_one.new.queue.items c.loop-end.pieces.items c.lend_one.new.pieces.items no_term c.loop-end.invariant.lends s c.lend_one.ensures.queue (c.lend_one.ensures.pieces no_term)

pub returns-then-not-lend_one-clause-some : goal.returns-then-not-lend_one-clause-some
returns-then-not-lend_one-clause-some c h =
    let r : c.lend_one.result ≡ false = search rules in
    let s : is_some (get_or c.loop-end.queue.items c.loop-end.end no_term).bytes ≡ false = sym (c.lend_one.ensures.ready no_term) ∙ r in
    let z = lends_all 0 c.loop-end.end c.args.queue.now.items c.loop-end.queue.items c.loop-end.pieces.items no_term c.loop-end.invariant.lends s in
    omega arith

pub loop-end-preserved : goal.loop-end-preserved
loop-end-preserved c =
    let r : c.lend_one.result ≡ true = search rules in
    let s : is_some (get_or c.loop-end.queue.items c.loop-end.end no_term).bytes ≡ true = sym (c.lend_one.ensures.ready no_term) ∙ r in
    let n = c.loop-end.invariant.count in
    let k = c.lend_one.ensures.count in
    let t : c.loop-end.end < length c.loop-end.queue.items = search rules in
    record {
      lends = lends_more 0 c.loop-end.end c.args.queue.now.items c.loop-end.queue.items c.lend_one.new.queue.items c.loop-end.pieces.items c.lend_one.new.pieces.items no_term c.loop-end.invariant.lends t s c.lend_one.ensures.queue (c.lend_one.ensures.pieces no_term);
      count = omega arith;
      len = search rules;
      capacity = search rules;
    }

pub returns-clause-some : goal.returns-clause-some
returns-clause-some c h =
    let t : length c.loop-end.queue.items ≤ c.loop-end.end = search rules in
    let z = lends_end 0 c.loop-end.end c.args.queue.now.items c.loop-end.queue.items c.loop-end.pieces.items c.loop-end.invariant.lends t in
    omega arith
