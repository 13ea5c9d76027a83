use Rattle.std.proofs.Common.{All, flat_map, map, take}
use Rattle.xet_store.specs.Refusals.{stored_term}
use Rattle.xet_compact.specs.Documents.{IsListableTerm}
use Rattle.xet_compact.specs.steps.Writes.{Adds, term_tokens}
use Rattle.xet_compact.proofs.writing.write_terms.Given as goal

abbrev pub invariant-loop-term : goal.invariant-loop-term
invariant-loop-term l = record {
  written : Adds l.initial.out l.out (flat_map (λ t. term_tokens (stored_term t)) (take l.term-index l.terms));
  told : All (λ t. IsListableTerm (stored_term t)) (take l.term-index l.terms);
}
