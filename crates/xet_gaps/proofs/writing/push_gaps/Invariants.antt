use Rattle.std.proofs.Common.{◌≡◌, ◌++◌, string_bytes, take}
use Rattle.std.specs.List.{flat_map}
use Rattle.xet_gaps.specs.Texts.{gap_line}
use Rattle.xet_gaps.proofs.writing.push_gaps.Given as goal

abbrev pub invariant-loop-gap : goal.invariant-loop-gap
invariant-loop-gap l =
    string_bytes l.text ≡ string_bytes l.initial.text ++ flat_map gap_line (take l.gap-index l.gaps)
