use Rattle.std.proofs.Common.{◌<◌, ◌+◌, ◌*◌, ◌≡◌, ◌∙◌, ap, arith, length, refl, slice_index, sym}
use Rattle.std.specs.Prelude.{nat_lt}
use Rattle.hex.specs.Hex.{is_hex_digit}
use Rattle.xet_document.proofs.DigitPairs.{all_decoded, pair_decoded, pair_more, value_test}
use Rattle.xet_document.proofs.hex_digits.decode_digits.Goals as goal

pub bytes-preserved : goal.bytes-preserved
bytes-preserved c =
    let text = c.args.text.now in
    let i = c.bytes.i in
    let fits : 2 * i + 1 < length text = omega (arith, c.requires, c.bytes-test.true, c.bytes.auto) in
    let high : nat_lt c.value-high.result 16 ≡ is_hex_digit (slice_index text (2 * i)) = ap (λ v. nat_lt v 16) c.value-high.ensures ∙ value_test (slice_index text (2 * i)) in
    let low : nat_lt c.value-low.result 16 ≡ is_hex_digit (slice_index text (2 * i + 1)) = ap (λ v. nat_lt v 16) c.value-low.ensures ∙ value_test (slice_index text (2 * i + 1)) in
    record {
      digits = rw (c.bytes.invariant.digits, high, low) (sym (pair_more text i fits));
      decoded = λ h. pair_decoded text c.bytes.bytes i c.bytes.all _ _ _ fits (omega arith) high low (rw (c.value-high.ensures, c.value-low.ensures) refl) c.bytes.invariant.decoded h;
    }

pub returns : goal.returns
returns c = all_decoded c.args.text.now c.bytes.bytes c.bytes.i c.bytes.all (omega (arith, c.bytes.auto, c.bytes-test.false)) (omega (arith, c.requires, c.bytes.auto)) (omega (arith, c.requires, c.bytes.auto, c.bytes-test.false)) c.bytes.invariant.digits c.bytes.invariant.decoded
