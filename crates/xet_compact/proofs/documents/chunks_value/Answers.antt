use Rattle.std.proofs.Common.{◌≡◌, ◌∙◌, ap, sym, subst, List, ℕ, ◌<◌, ◌++◌, ◌∷◌, [], All, map, take, get_or}
use Rattle.std.proofs.lemmas.List.{map_more, map_push, take_all, take_more}
use Rattle.std.proofs.lemmas.List.Elements.{All-push}
use Rattle.serde_json.specs.Data.{Data, array}
use Rattle.serde_json.specs.View.{items_of, view}
use Rattle.serde_json.proofs.Views.{view-Array}
use Rattle.xet_compact.specs.Documents.{digits}
use Rattle.xet_compact.proofs.DocumentValues.{chunk_items-map}
use Rattle.xet_compact.proofs.documents.chunks_value.Goals as goal

pub loop-chunk-preserved : goal.loop-chunk-preserved
loop-chunk-preserved c =
    let cs = c.args.chunks.now in
    let i = c.loop-chunk.chunk-index in
    let b = c.chunk-item.result in
    let w = c.loop-chunk.invariant in
    let v = c.in_ok-digits_value.field-0 in
    let more = take_more cs i b c.loop-chunk-test.true ∙ ap (λ (d : List ℕ). take i cs ++ d ∷ []) (sym c.chunk-item.is) in
    let all_bytes = subst (λ (d : List ℕ). All (λ n. n < 256) d) c.as_slice.ensures c.digits_value.ensures.told in
    rw c.in_ok-push.ensures.items (record {
      values = map_push view c.loop-chunk.items.items v
          ∙ ap (λ (l : List Data). l ++ view v ∷ []) w.values
          ∙ ap (λ (d : Data). map digits (take i cs) ++ d ∷ []) (c.in_ok-digits_value.ensures.value ∙ ap digits c.as_slice.ensures)
          ∙ sym (map_push digits (take i cs) b)
          ∙ sym (ap (map digits) more);
      told = subst (λ (l : List (List ℕ)). All (λ d. All (λ n. n < 256) d) l) (sym more) (All-push (λ (d : List ℕ).
          All (λ n. n < 256) d) (take i cs) b w.told all_bytes);
    })

pub returns : goal.returns
returns c =
    let cs = c.args.chunks.now in
    let w = c.loop-chunk.invariant in
    let all = take_all c.loop-chunk.chunk-index cs c.loop-chunk-test.false in
    record {
      value = view-Array c.loop-chunk.items ∙ ap (λ (l : List Data). array (items_of l)) (w.values ∙ ap (map digits) all)
          ∙ ap array (chunk_items-map cs);
      told = subst (λ (l : List (List ℕ)). All (λ d. All (λ n. n < 256) d) l) all w.told;
    }
