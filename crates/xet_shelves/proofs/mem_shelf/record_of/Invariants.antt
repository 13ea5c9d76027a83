use Rattle.std.proofs.Common.{◌≡◌, map, take}
use Rattle.std.specs.Prelude.{All}
use Rattle.xet_store.specs.Refusals.{stored_term, term_length}
use Rattle.xet_shelves.proofs.mem_shelf.record_of.Given as goal

abbrev pub invariant-loop-term : goal.invariant-loop-term
invariant-loop-term l =
    (map stored_term l.entries ≡ take l.term-index l.kept.terms)
    × All (λ e. e.bytes ≡ term_length l.store (stored_term e)) l.entries
