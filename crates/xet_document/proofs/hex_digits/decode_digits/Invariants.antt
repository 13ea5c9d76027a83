use Rattle.std.proofs.Common.{◌≡◌, ◌*◌, take, drop, true}
use Rattle.std.specs.List.{list_all}
use Rattle.hex.specs.Hex.{decode_pairs, is_hex_digit}
use Rattle.hex.proofs.Pairs.{prepend}
use Rattle.xet_document.proofs.hex_digits.decode_digits.Given as goal

abbrev pub invariant-bytes : goal.invariant-bytes
invariant-bytes l = record {
  digits : l.all ≡ list_all is_hex_digit (take (2 * l.i) l.text);
  decoded : l.all ≡ true → decode_pairs 0 l.text ≡ prepend (take l.i l.bytes) (decode_pairs (2 * l.i) (drop (2 * l.i) l.text));
}
