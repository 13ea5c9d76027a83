use Rattle.std.proofs.Common.{◌≡◌, ◌∙◌, ap, sym, subst, List, ℕ, ◌<◌, ◌++◌, ◌∷◌, [], All, map, take, get_or}
use Rattle.std.proofs.lemmas.List.{map_more, map_push, take_all, take_more}
use Rattle.std.proofs.lemmas.List.Elements.{All-push}
use Rattle.serde_json.specs.Data.{Data, array}
use Rattle.serde_json.specs.View.{items_of, view}
use Rattle.serde_json.proofs.Views.{view-Array}
use Rattle.xet_base.specs.declared.mdb_shard.FileDataSequenceEntry.{FileDataSequenceEntry}
use Rattle.xet_base.specs.declared.stored.StoredTerm.{StoredTerm}
use Rattle.xet_store.specs.Refusals.{stored_term}
use Rattle.xet_compact.specs.Documents.{IsListableTerm, term_data}
use Rattle.xet_compact.proofs.DocumentValues.{term_items-map}
use Rattle.xet_compact.proofs.documents.terms_value.Goals as goal

-- the default of a read
abbrev no_term : FileDataSequenceEntry
no_term = record { xorb = record { 0 = [] }; from = 0; to = 0; bytes = 0 }

pub loop-term-preserved : goal.loop-term-preserved
loop-term-preserved c =
    let ts = c.args.terms.now in
    let i = c.loop-term.term-index in
    let t = get_or ts i no_term in
    let w = c.loop-term.invariant in
    let v = c.in_ok-term_value.field-0 in
    let more = take_more ts i no_term c.loop-term-test.true in
    rw c.in_ok-push.ensures.items (record {
      values = map_push view c.loop-term.items.items v
          ∙ ap (λ (l : List Data). l ++ view v ∷ []) w.values
          ∙ ap (λ (d : Data). map term_data (map stored_term (take i ts)) ++ d ∷ []) c.in_ok-term_value.ensures.value
          ∙ sym (map_push term_data (map stored_term (take i ts)) (stored_term t))
          ∙ sym (ap (map term_data) (map_more stored_term ts i no_term c.loop-term-test.true));
      told = subst (λ (l : List FileDataSequenceEntry). All (λ r. IsListableTerm (stored_term r)) l) (sym more) (All-push
          (λ (r : FileDataSequenceEntry). IsListableTerm (stored_term r)) (take i ts) t w.told c.term_value.ensures.told);
    })

pub returns : goal.returns
returns c =
    let ts = c.args.terms.now in
    let w = c.loop-term.invariant in
    let all = take_all c.loop-term.term-index ts c.loop-term-test.false in
    record {
      value = view-Array c.loop-term.items ∙ ap (λ (l : List Data). array (items_of l)) (w.values ∙ ap
          (λ (l : List FileDataSequenceEntry). map term_data (map stored_term l)) all)
          ∙ ap array (term_items-map (map stored_term ts));
      told = subst (λ (l : List FileDataSequenceEntry). All (λ r. IsListableTerm (stored_term r)) l) all w.told;
    }
