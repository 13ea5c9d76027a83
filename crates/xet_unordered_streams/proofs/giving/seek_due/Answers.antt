use Rattle.std.proofs.Common.{◌∙◌, ap, sym}
use Rattle.std.specs.Prelude.{option_map}
use Rattle.xet_unordered_streams.specs.Placing.{is_early}
use Rattle.xet_unordered_streams.proofs.Gives.{any_none, any_view}
use Rattle.xet_unordered_streams.proofs.giving.seek_due.Goals as goal

pub returns-in-Some : goal.returns-in-Some
returns-in-Some g c = any_view c.args.stepper.now (is_early c.args.early.now) c.in-Some.leader.now
    (sym c.leader.ensures ∙ ap (option_map (λ l. l.now)) c.in-Some.is) c.range_start-from.result c.range_start-from.ensures c.first_due.result c.first_due.ensures

pub returns-in-None : goal.returns-in-None
returns-in-None g c = any_none c.args.stepper.now (is_early c.args.early.now)
    (sym c.leader.ensures ∙ ap (option_map (λ l. l.now)) c.in-None.is)
    (c.check_open.ensures.begun (sym c.leader.ensures ∙ ap (option_map (λ l. l.now)) c.in-None.is))
