use Rattle.std.proofs.Common.{◌≡◌, All, map, take}
use Rattle.serde_json.specs.View.{view}
use Rattle.xet_store.specs.Refusals.{stored_term}
use Rattle.xet_compact.specs.Documents.{IsListableTerm, term_data}
use Rattle.xet_compact.proofs.documents.terms_value.Given as goal

abbrev pub invariant-loop-term : goal.invariant-loop-term
invariant-loop-term l = record {
  values : map view l.items.items ≡ map term_data (map stored_term (take l.term-index l.terms));
  told : All (λ t. IsListableTerm (stored_term t)) (take l.term-index l.terms);
}
