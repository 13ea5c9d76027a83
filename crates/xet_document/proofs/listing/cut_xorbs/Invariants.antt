use Rattle.std.proofs.Common.{◌≡◌, ◌++◌, map}
use Rattle.std.specs.Prelude.{All}
use Rattle.xet_document.specs.steps.Placed.{IsPlaced, placed_xorb}
use Rattle.xet_document.proofs.listing.cut_xorbs.Given as goal

abbrev pub invariant-loop-place : goal.invariant-loop-place
invariant-loop-place l =
    let own = l.fn.xorbs in record {
      can : (goal.iterator-loop-place).can_next l.place-iterator;
      ends : (goal.iterator-loop-place).is_finite l.place-iterator;
      placed : All (λ e. IsPlaced own.joined.bytes.items own.joined.ends.items e.1) l.place-iterator;
      left : map (λ e. placed_xorb own.joined.bytes.items own.joined.ends.items e.1) own.places.entries
          ≡ l.made ++ map (λ e. placed_xorb own.joined.bytes.items own.joined.ends.items e.1) l.place-iterator;
    }
