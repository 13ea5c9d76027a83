use Rattle.std.proofs.Common.{◌≡◌, ◌∷◌, ◌++◌, [], Some, None, length, map, refl, sym, ap, ◌∙◌, arith}
use Rattle.std.proofs.lemmas.List.{map-append}
use Rattle.std.proofs.lemmas.List.Elements.{All-nil, All-push, All-same}
use Rattle.json.specs.Json.{after_end_array}
use Rattle.json.proofs.Grammar.{after_end_array-shorter}
use Rattle.serde_json.specs.Data.{no_items}
use Rattle.xet_store.specs.Refusals.{stored_term}
use Rattle.xet_document.proofs.Arrays.{behind, item_more, items_read, no_items_yet, terms_so_far}
use Rattle.xet_document.proofs.plain_files.read_terms.Goals as goal

pub terms-init : goal.terms-init
terms-init c = ([], no_items_yet 124 c.args.reader.now, rw c.new-terms.ensures refl, rw c.new-terms.ensures (All-nil (λ t. t.bytes ≡ 0)))

pub terms-preserved : goal.terms-preserved
terms-preserved c =
    let l = c.terms in
    let term = c.in_ok-read_term.field-0 in
    let read = c.in_ok-read_term.ensures in
    let going : (after_end_array l.reader ≡ None) × (c.take_end_array.new.self ≡ l.reader) = grind arith in
    let value = rw going.1 at read.term.1 in
    let pushed : map stored_term c.push.new.self ≡ map stored_term l.terms ++ stored_term term ∷ [] =
    ap (map stored_term) c.in_ok-push.ensures.ok ∙ map-append stored_term l.terms (term ∷ []) in (
      l.invariant.0 ++ read.term.0 ∷ [],
      item_more 124 c.args.reader.now l.reader c.read_term.new.reader l.invariant.0 read.term.0 l.invariant.1 going.0 (omega (arith, read.shorter, ap length going.1)) value,
      terms_so_far l.invariant.0 read.term.0 (map stored_term l.terms) (stored_term term) l.invariant.2 read.term.2 ∙ ap Some (sym pushed),
      All-same (λ t. t.bytes ≡ 0) c.push.new.self (l.terms ++ term ∷ []) c.in_ok-push.ensures.ok (All-push (λ t. t.bytes ≡ 0) l.terms term l.invariant.3 read.uncounted),
    )

pub returns-clause-terms : goal.returns-clause-terms
returns-clause-terms c =
    let l = c.terms in
    let over = c.terms-test.ensures in
    (behind l.invariant.0 no_items, items_read 124 c.args.reader.now l.reader c.take_end_array.new.self l.invariant.0 l.invariant.1 over, l.invariant.2)

pub returns-clause-uncounted : goal.returns-clause-uncounted
returns-clause-uncounted c = c.terms.invariant.3

pub returns-clause-shorter : goal.returns-clause-shorter
returns-clause-shorter c =
    let one = after_end_array-shorter c.terms.reader c.take_end_array.new.self c.terms-test.ensures in
    omega (arith, one, c.terms.invariant.1.shorter)
