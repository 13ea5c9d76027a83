use Rattle.std.proofs.Common.{◌≡◌, ◌++◌, drop, map}
use Rattle.std.specs.Prelude.{All, option_map}
use Rattle.serde_json.specs.View.{items_view}
use Rattle.xet_store.specs.Refusals.{stored_term}
use Rattle.xet_document.specs.Document.{terms_of_items}
use Rattle.xet_document.proofs.value_store.terms_of.Given as goal

abbrev pub invariant-loop-item : goal.invariant-loop-item
invariant-loop-item l = record {
  left : terms_of_items (items_view l.item-items) ≡ option_map (λ rest. map stored_term l.terms ++ rest) (terms_of_items (items_view (drop l.item-index l.item-items)));
  uncounted : All (λ t. t.bytes ≡ 0) l.terms;
}
