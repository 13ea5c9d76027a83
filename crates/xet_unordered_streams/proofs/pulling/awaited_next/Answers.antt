use Rattle.std.proofs.Common.{◌∙◌, ap, sym}
use Rattle.std.specs.Prelude.{option_map}
use Rattle.xet_unordered_streams.proofs.Ordered.{awaited_view}
use Rattle.xet_unordered_streams.proofs.pulling.awaited_next.Goals as goal

pub returns-in-Some : goal.returns-in-Some
returns-in-Some g c = awaited_view c.args.stepper.now c.in-Some.leader.now
    (sym c.leader.ensures ∙ ap (option_map (λ l. l.now)) c.in-Some.is) c.next_awaited.result c.next_awaited.ensures
