use Rattle.std.proofs.Common.{◌∙◌, ap, sym}
use Rattle.std.specs.Prelude.{option_map}
use Rattle.xet_unordered_streams.specs.Placing.{is_early}
use Rattle.xet_unordered_streams.proofs.Going.{early_none, early_view}
use Rattle.xet_unordered_streams.proofs.pulling.early_next.Goals as goal

pub returns-in-Some : goal.returns-in-Some
returns-in-Some g c = early_view c.args.stepper.now (is_early c.args.early.now) c.in-Some.leader.now
    (sym c.leader.ensures ∙ ap (option_map (λ l. l.now)) c.in-Some.is) c.early_of.result c.early_of.ensures

pub returns-in-None : goal.returns-in-None
returns-in-None g c = early_none c.args.stepper.now (is_early c.args.early.now)
    (sym c.leader.ensures ∙ ap (option_map (λ l. l.now)) c.in-None.is)
