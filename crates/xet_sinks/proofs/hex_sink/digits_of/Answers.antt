use Rattle.std.proofs.Common.{rules, ◌≡◌, arith, refl}
use Rattle.hex.specs.Hex.{IsBytes, encode_lower}
use Rattle.xet_sinks.proofs.WholePiece.{filled}
use Rattle.xet_sinks.proofs.hex_sink.digits_of.Goals as goal

pub returns : goal.returns
returns c =
    let b : IsBytes c.args.bytes.now = λ i. let f = c.type_inv.bytes i in omega arith in
    let w : c.write_digits.new.digits ≡ encode_lower c.args.bytes.now = search rules in
    filled c.args.bytes.now c.write_digits.new.digits _ b c.requires w refl
