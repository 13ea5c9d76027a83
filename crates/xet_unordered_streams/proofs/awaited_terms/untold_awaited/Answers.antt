use Rattle.std.proofs.Common.{◌∙◌, ap, refl, sym}
use Rattle.std.specs.Prelude.{option_map}
use Rattle.xet_unordered_streams.proofs.Awaiting.{counted_led, counted_unled}
use Rattle.xet_unordered_streams.proofs.awaited_terms.untold_awaited.Goals as goal

pub returns-in-Some : goal.returns-in-Some
returns-in-Some g c =
    counted_led c.args.stepper.now c.in-Some.leader.now c.led_awaited.result
    (sym c.leader.ensures ∙ ap (option_map (λ l. l.now)) c.in-Some.is) c.check_open.ensures.carries c.led_awaited.ensures

pub returns-in-None : goal.returns-in-None
returns-in-None g c =
    counted_unled c.args.stepper.now.events _
    (c.check_open.ensures.begun (sym c.leader.ensures ∙ ap (option_map (λ l. l.now)) c.in-None.is)) refl refl
