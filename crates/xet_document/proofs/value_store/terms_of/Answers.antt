use Rattle.std.proofs.Common.{◌≡◌, ◌++◌, ◌∷◌, [], ◌∙◌, List, Some, ap, map, sym}
use Rattle.std.specs.Prelude.{option_and_then}
use Rattle.std.proofs.lemmas.List.{map-append}
use Rattle.std.proofs.lemmas.List.Elements.{All-push, All-same}
use Rattle.serde_json.specs.Find.{as_array}
use Rattle.serde_json.specs.View.{items_view, view}
use Rattle.serde_json.specs.declared.value.Value.{Value}
use Rattle.xet_store.specs.Refusals.{stored_term}
use Rattle.xet_document.specs.Document.{term_of_items, terms_of_items}
use Rattle.xet_document.proofs.DocumentTerms.{terms_end, terms_more}
use Rattle.xet_document.proofs.value_store.terms_of.Goals as goal

pub loop-item-preserved : goal.loop-item-preserved
loop-item-preserved c =
    let l = c.loop-item in
    let term = c.in-Some-term_of.term in
    let some : Some (stored_term term) ≡ option_and_then term_of_items (as_array (view c.item-item.result)) = rw c.in-Some-term_of.is at c.term_of.ensures.term in
    let none : term.bytes ≡ 0 = rw c.in-Some-term_of.is at c.term_of.ensures.uncounted in
    let pushed : map stored_term c.push.new.self ≡ map stored_term l.terms ++ stored_term term ∷ [] =
    ap (map stored_term) c.in_ok-push.ensures.ok ∙ map-append stored_term l.terms (term ∷ []) in
    record {
      left = rw pushed (terms_more _ l.item-index (map stored_term l.terms) _ l.invariant.left c.item-item.result c.loop-item-test.true c.item-item.is (stored_term term) some);
      uncounted = All-same (λ t. t.bytes ≡ 0) c.push.new.self (l.terms ++ term ∷ []) c.in_ok-push.ensures.ok (All-push (λ t. t.bytes ≡ 0) l.terms term l.invariant.uncounted none);
    }

pub returns-clause-terms : goal.returns-clause-terms
returns-clause-terms c =
    let l = c.loop-item in
    sym (terms_end _ l.item-index _ _ l.invariant.left c.loop-item-test.false) ∙ ap (λ (vs : List Value). terms_of_items (items_view vs)) c.deref-item-items.ensures.value
    ∙ ap (option_and_then terms_of_items) c.in-Some.ensures
