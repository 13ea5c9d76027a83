use Rattle.std.proofs.Common.{rules, ◌≤◌, ◌<◌, arith, length}
use Rattle.hex.proofs.Pairs.{encode_done, encode_step}
use Rattle.hex.specs.Hex.{lower_digits}
use Rattle.xet_sinks.proofs.hex_digits.write_digits.Goals as goal

pub loop-i-preserved : goal.loop-i-preserved
loop-i-preserved c =
    let v = c.loop-i.invariant in
    let h : c.loop-i.i < length c.args.bytes.now = search rules in
    let s = v.size in
    record {
      size = search rules;
      front = encode_step lower_digits c.args.bytes.now c.loop-i.digits c.loop-i.i _ _ h (omega arith) c.digit.ensures
          c.digit-in-loop-i.ensures v.front;
    }

pub returns : goal.returns
returns c =
    let v = c.loop-i.invariant in
    let h : length c.args.bytes.now ≤ c.loop-i.i = search rules in
    encode_done lower_digits c.args.bytes.now c.loop-i.digits c.loop-i.i h v.size v.front
