use Rattle.std.proofs.Common.{◌≡◌, inl, inr, refl, rules}
use Rattle.std.specs.Prelude.{string_bytes}
use Rattle.xet_roundtrip_command.proofs.command.roundtrip.Goals as goal

pub returns-in-Ok-clause-outcome : goal.returns-in-Ok-clause-outcome
returns-in-Ok-clause-outcome g c source taps =
    let text : c.as_bytes.result.now ≡ string_bytes c.in-Ok.text = search rules in
    record {
      unread = refl;
      unasked = refl;
      printed = inl (string_bytes c.in-Ok.text, c.in-Ok.ensures, rw text at c.print_text.ensures.text);
    }

pub returns-in-Err-clause-outcome : goal.returns-in-Err-clause-outcome
returns-in-Err-clause-outcome g c source taps =
    record { unread = refl; unasked = refl; printed = inr c.say.ensures.text }
