use Rattle.std.proofs.Common.{◌≡◌, ◌∙◌, refl, get_or}
use Rattle.xet_held.proofs.HeldWalk.{held_all, held_more, held_none}
use Rattle.xet_held.proofs.held.held_chunks.Goals as goal

pub loop-i-init : goal.loop-i-init
loop-i-init c = rw (c.new-held.ensures, c.in_ok-numbers.ensures) (held_none c.args.ends.now c.args.chunks.now)

pub loop-i-preserved : goal.loop-i-preserved
loop-i-preserved c =
    let w = c.loop-i in
    rw (c.in_ok-push_held.ensures, c.in_ok-push.ensures.ok, c.len.ensures, c.max-end.ensures)
    (held_more c.args.ends.now c.args.chunks.now w.i w.end w.held w.numbers c.index-chunks-i.result (get_or c.args.ends.now w.i 0)
    c.requires.long w.invariant c.loop-i-test.true c.index-chunks-i.is refl)

pub returns : goal.returns
returns c =
    let w = c.loop-i in
    let all = held_all c.args.ends.now c.args.chunks.now w.i w.end w.held w.numbers w.invariant c.loop-i-test.false in
    record {
      chunks = all.0;
      numbers = rw (c.in_ok-push-2.ensures.ok, c.len-2.ensures) all.1;
    }
