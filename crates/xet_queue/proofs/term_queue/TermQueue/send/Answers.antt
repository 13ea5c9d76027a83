use Rattle.std.proofs.Common.{rules, ◌<◌, ◌^◌, length, arith, subst}
use Rattle.xet_queue.specs.Queues.{ready_bytes}
use Rattle.xet_queue.specs.Sequential.{Sequential}
use Rattle.xet_queue.proofs.Terms.{chain_room}
use Rattle.xet_queue.proofs.term_queue.TermQueue.send.Goals as goal

pub send_together-requires : goal.send_together-requires
send_together-requires g c =
    let w = c.self.inside in
    let r = chain_room w.delivered w.queue.items w.expected c.self.invariant.0 in
    let f : w.expected < 2 ^ 64 = search rules in
    let h : length (ready_bytes w.queue.items) < 2 ^ 64 = omega arith in
    subst (λ (v : Sequential g.row.S.Denot). length (ready_bytes v.queue) < 2 ^ 64) c.self.view_is h

pub send_each-requires : goal.send_each-requires
send_each-requires g c =
    let w = c.self.inside in
    let r = chain_room w.delivered w.queue.items w.expected c.self.invariant.0 in
    let f : w.expected < 2 ^ 64 = search rules in
    let h : length (ready_bytes w.queue.items) < 2 ^ 64 = omega arith in
    subst (λ (v : Sequential g.row.S.Denot). length (ready_bytes v.queue) < 2 ^ 64) c.self.view_is h
