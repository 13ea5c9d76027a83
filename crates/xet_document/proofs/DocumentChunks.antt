-- The chunks of a xorb in a document.
use Rattle.std.proofs.Common.{◌≡◌, ℕ, ◌+◌, ◌%◌, ◌<◌, ◌≤◌, Bool, true, false, List, [], ◌∷◌, ◌++◌, length, drop, get_or, refl, sym, ◌∙◌, ap, subst, append_assoc, append-nil, length-append, arith}
use Rattle.std.specs.Prelude.{Option, Some, None, option_and_then, option_map}
use Rattle.std.proofs.lemmas.Bool.{false≢true}
use Rattle.std.proofs.lemmas.List.{drop_all, drop_more}
use Rattle.hex.specs.Hex.{decode_pairs}
use Rattle.hex.proofs.HexLemmas.{decode_of-odd}
use Rattle.serde_json.specs.View.{view, items_view}
use Rattle.serde_json.specs.declared.value.Value.{Value}
use Rattle.xet_store.specs.Parts.{AreEnds, parts}
use Rattle.xet_document.specs.steps.ChunkEnds.{AddsChunk}
use Rattle.xet_document.specs.Document.{chunk_of, chunk_of_text, chunks_of_items}
use Rattle.xet_document.proofs.ChunkEnds.{ends-push, parts-push}

-- no digits are no chunk
pub chunk_of-empty : (text : List ℕ) → length text ≡ 0 → chunk_of_text text ≡ None
unfolding decode_pairs
chunk_of-empty [] e = refl
chunk_of-empty (x ∷ xs) e = absurd (omega arith)

-- nor is an odd number of digits
pub chunk_of-odd : (text : List ℕ) → length text % 2 ≡ 1 → chunk_of_text text ≡ None
chunk_of-odd text odd = rw (decode_of-odd text odd) refl

pub chunk_added : (o : Option (List ℕ)) (added : Bool) (old now : List ℕ) → AddsChunk o added old now → added ≡ true → (chunk : List ℕ) × (o ≡ Some chunk) × (now ≡ old ++ chunk)
chunk_added None added old now h e = absurd (false≢true (sym h ∙ e))
chunk_added (Some chunk) added old now h e = (chunk, refl, h.1)

-- the chunks so far and those that are left, where one more is added
pub chunks_more : (vs : List Value) (i : ℕ) (v : Value) (added : Bool) (old now es more : List ℕ) (whole : Option (List (List ℕ))) → i < length vs → v ≡ get_or vs i v
    → AddsChunk (chunk_of (view v)) added old now → added ≡ true → more ≡ es ++ length now ∷ [] → AreEnds 0 es (length old)
    → whole ≡ option_map (λ rest. parts old 0 es ++ rest) (chunks_of_items (items_view (drop i vs)))
    → AreEnds 0 more (length now) × (whole ≡ option_map (λ rest. parts now 0 more ++ rest) (chunks_of_items (items_view (drop (i + 1) vs))))
chunks_more vs i v added old now es more whole within is adds e push ends left =
    let a = chunk_added (chunk_of (view v)) added old now adds e in go a.0 a.1 a.2
  where
    rest_of : Option (List (List ℕ))
    rest_of = chunks_of_items (items_view (drop (i + 1) vs))

    by_rest : (found : List (List ℕ)) (chunk : List ℕ) (o : Option (List (List ℕ))) → option_map (λ rest. found ++ rest) (option_map (λ cs. chunk ∷ cs) o) ≡ option_map (λ rest. (found ++ chunk ∷ []) ++ rest) o
    by_rest found chunk None = refl
    by_rest found chunk (Some cs) = ap Some (sym (append_assoc found (chunk ∷ []) cs))

    go : (chunk : List ℕ) → chunk_of (view v) ≡ Some chunk → now ≡ old ++ chunk
        → AreEnds 0 more (length now) × (whole ≡ option_map (λ rest. parts now 0 more ++ rest) (chunks_of_items (items_view (drop (i + 1) vs))))
    go chunk some grown =
        let size : length now ≡ length old + length chunk = ap length grown ∙ length-append old chunk in
        let next : AreEnds 0 (es ++ length now ∷ []) (length now) = ends-push 0 es (length old) (length now) ends (omega arith) in
        let split : drop i vs ≡ v ∷ drop (i + 1) vs = drop_more vs i v within ∙ ap (λ (x : Value). x ∷ drop (i + 1) vs) (sym is) in
        let cut : parts now 0 more ≡ parts old 0 es ++ chunk ∷ [] = rw (push, size, grown) (parts-push old chunk 0 es ends) in (
          subst (λ (xs : List ℕ). AreEnds 0 xs (length now)) (sym push) next,
          left ∙ ap (λ (xs : List Value). option_map (λ rest. parts old 0 es ++ rest) (chunks_of_items (items_view xs))) split
              ∙ ap (λ (o : Option (List ℕ)). option_map (λ rest. parts old 0 es ++ rest) (option_and_then (λ c. option_map (λ cs. c ∷ cs) rest_of) o)) some
              ∙ by_rest (parts old 0 es) chunk rest_of
              ∙ ap (λ (cs : List (List ℕ)). option_map (λ rest. cs ++ rest) rest_of) (sym cut),
        )

not_added : (o : Option (List ℕ)) (added : Bool) (old now : List ℕ) → AddsChunk o added old now → added ≡ false → o ≡ None
not_added None added old now h e = refl
not_added (Some chunk) added old now h e = absurd (false≢true (sym e ∙ h.0))

-- where one is no chunk, there are no chunks
pub chunks_stop : (vs : List Value) (i : ℕ) (v : Value) (added : Bool) (old now : List ℕ) (front : List (List ℕ)) (whole : Option (List (List ℕ))) → i < length vs → v ≡ get_or vs i v
    → AddsChunk (chunk_of (view v)) added old now → added ≡ false
    → whole ≡ option_map (λ rest. front ++ rest) (chunks_of_items (items_view (drop i vs))) → whole ≡ None
chunks_stop vs i v added old now front whole within is adds e left =
    let none = not_added (chunk_of (view v)) added old now adds e in
    let split : drop i vs ≡ v ∷ drop (i + 1) vs = drop_more vs i v within ∙ ap (λ (x : Value). x ∷ drop (i + 1) vs) (sym is) in
    left ∙ ap (λ (xs : List Value). option_map (λ rest. front ++ rest) (chunks_of_items (items_view xs))) split
    ∙ ap (λ (o : Option (List ℕ)). option_map (λ rest. front ++ rest) (option_and_then (λ c. option_map (λ cs. c ∷ cs) (chunks_of_items (items_view (drop (i + 1) vs)))) o)) none

-- where none is left, these are all
pub chunks_end : (vs : List Value) (i : ℕ) (front : List (List ℕ)) (whole : Option (List (List ℕ))) → length vs ≤ i
    → whole ≡ option_map (λ rest. front ++ rest) (chunks_of_items (items_view (drop i vs))) → whole ≡ Some front
chunks_end vs i front whole past left =
    left ∙ ap (λ (xs : List Value). option_map (λ rest. front ++ rest) (chunks_of_items (items_view xs))) (drop_all i vs past) ∙ ap Some (append-nil front)
