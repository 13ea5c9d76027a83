use Rattle.std.proofs.Common.{◌≡◌, drop}
use Rattle.xet_track.specs.Numbers.{number_after, number_of_text}
use Rattle.xet_track.proofs.word.number.Given as goal

abbrev pub invariant-loop-byte : goal.invariant-loop-byte
invariant-loop-byte l = number_of_text l.text ≡ number_after l.found (drop l.byte-index l.text)
