use Rattle.std.proofs.Common.{◌≡◌, map, take, true}
use Rattle.std.specs.List.{list_all}
use Rattle.xet_store.specs.Refusals.{is_term_in, stored_term}
use Rattle.xet_audit.specs.Raws.{store_of_raw}
use Rattle.xet_audit.proofs.hash_faults.resolves.Given as goal

abbrev pub invariant-loop-term : goal.invariant-loop-term
invariant-loop-term l = list_all (is_term_in (store_of_raw l.table.raw.now)) (take l.term-index (map stored_term l.terms)) ≡ true
