use Rattle.std.proofs.Common.{◌∙◌, ap, sym}
use Rattle.std.specs.Prelude.{option_map}
use Rattle.xet_unordered_streams.specs.Placing.{is_early}
use Rattle.xet_unordered_streams.proofs.Gives.{hint_view}
use Rattle.xet_unordered_streams.proofs.giving.known_due.Goals as goal

pub returns-in-Some : goal.returns-in-Some
returns-in-Some g c = hint_view c.args.stepper.now (is_early c.args.early.now) c.in-Some.leader.now
    (sym c.leader.ensures ∙ ap (option_map (λ l. l.now)) c.in-Some.is) c.range_start-from.result c.range_start-from.ensures c.hinted_due.result c.hinted_due.ensures
