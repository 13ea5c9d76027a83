use Rattle.std.proofs.Common.{◌≡◌, ◌^◌, ◌-◌, true, map, take, min}
use Rattle.std.specs.List.{list_all, sum_by}
use Rattle.xet_store.specs.Refusals.{is_term_in, stored_term, term_length}
use Rattle.xet_store.proofs.mem_store.MemStore.find_all.Given as goal

abbrev pub invariant-loop-term : goal.invariant-loop-term
invariant-loop-term l = record {
  terms : l.found.terms ≡ map stored_term (take l.term-index l.terms);
  good : list_all (λ t. is_term_in l.self (stored_term t)) (take l.term-index l.terms) ≡ true;
  summed : l.length ≡ min (sum_by (λ t. term_length l.self (stored_term t)) (take l.term-index l.terms)) (2 ^ 128 - 1);
}
