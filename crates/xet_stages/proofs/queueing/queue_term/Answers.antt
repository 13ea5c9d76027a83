use Rattle.std.proofs.Common.{rules, ◌≡◌, ◌≢◌, ◌<◌, None, arith}
use Rattle.xet_writers.specs.Calls.{closed_by}
use Rattle.xet_writers.specs.Sequential.{told_of}
use Rattle.xet_leader.specs.LedTerms.{IsPieceIn, of_plan, size_in}
use Rattle.xet_stages.specs.Windows.{with_piece}
use Rattle.xet_stages.proofs.WindowSteps.{none_given, one_queued}
use Rattle.xet_stages.proofs.queueing.queue_term.Goals as goal

pub returns-in-Ok : goal.returns-in-Ok
returns-in-Ok g c =
    let t = of_plan c.args.plan.now c.args.term in
    let v = c.args.writer.now in
    let w = c.queue_bytes.new.writer in
    let p = c.in-Ok-Some.bytes in
    let n : c.saturating_sub-length.result ≡ size_in t = search rules in
    let z : c.saturating_sub-length.result ≢ 0 = c.if-length-eq0.false in
    let h : 0 < size_in t = omega arith in
    let i : IsPieceIn t p = search rules in
    let q : closed_by (told_of v) ≡ None → w ≡ with_piece v p =
    λ o. rw c.in-Ok.is at (c.queue_bytes.ensures.done o) in
    (n, one_queued t v w p h i q)

pub returns-in-Ok-None : goal.returns-in-Ok-None
returns-in-Ok-None g c =
    let t = of_plan c.args.plan.now c.args.term in
    let n : c.saturating_sub-length.result ≡ size_in t = search rules in
    let z : c.saturating_sub-length.result ≢ 0 = c.if-length-eq0.false in
    let h : 0 < size_in t = omega arith in
    none_given t c.args.writer.now h (rw (c.in-Ok-None.is, c.in-Ok-None.field-0-is) at c.bytes_of.ensures)
