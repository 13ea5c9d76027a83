use Rattle.std.proofs.Common.{◌≡◌, ◌+◌, ◌-◌, ◌^◌, ◌∙◌, ap, min, sym}
use Rattle.xet_leader.specs.Led.{Led}
use Rattle.xet_unordered_streams.specs.Placing.{is_early}
use Rattle.xet_unordered_streams.specs.steps.Pulling.{number_of}
use Rattle.xet_unordered_streams.proofs.Going.{early_here, unearly_here}
use Rattle.xet_unordered_streams.proofs.pulling.early_of.Goals as goal

pub returns-then-has : goal.returns-then-has
returns-then-has g c =
    let is : c.saturating_add.result ≡ number_of c.args.leader.now c.in-Some.next = c.saturating_add.ensures
    ∙ ap (λ (l : Led). min (l.finished + c.in-Some.next.empties) (2 ^ 64 - 1)) c.leader.view_is in
    early_here c.args.leader.now (is_early c.args.early.now) c.in-Some.next c.in-Some.ensures c.saturating_add.result is
    (sym c.has.ensures ∙ c.if-has.true)

pub returns : goal.returns
returns g c =
    let is : c.saturating_add.result ≡ number_of c.args.leader.now c.in-Some.next = c.saturating_add.ensures
    ∙ ap (λ (l : Led). min (l.finished + c.in-Some.next.empties) (2 ^ 64 - 1)) c.leader.view_is in
    unearly_here c.args.leader.now (is_early c.args.early.now) c.in-Some.next c.in-Some.ensures c.saturating_add.result is
    (sym c.has.ensures ∙ c.if-has.false)
