use Rattle.std.proofs.Common.{◌≡◌, ◌+◌, ◌-◌, ◌++◌, vec_len}
use Rattle.std.specs.Prelude.{option_map}
use Rattle.xet_room.proofs.reading.read_to_end.Given as goal

abbrev pub invariant-pieces : goal.invariant-pieces
invariant-pieces g l =
    let told = g.I.Source.told in
    record {
      left : (told l.fn.input).left ≡ option_map (λ rest. l.all.items ++ rest) (told l.input).left;
      faults : (told l.input).faults ≡ (told l.fn.input).faults;
    }

abbrev pub decreases-pieces : goal.decreases-pieces
decreases-pieces g l = l.limit + 1 - vec_len l.all
