-- Hashes of a list that is read an item at a time.
use Rattle.std.proofs.Common.{◌≡◌, ℕ, ◌+◌, ◌<◌, ◌≤◌, List, [], ◌∷◌, ◌++◌, length, drop, get_or, refl, sym, ap, ◌∙◌, append_assoc, append-nil}
use Rattle.std.specs.Prelude.{Option, Some, None, option_and_then, option_map}
use Rattle.std.proofs.lemmas.List.{drop_all, drop_more}
use Rattle.serde_json.specs.Find.{as_str}
use Rattle.serde_json.specs.View.{items_view, view}
use Rattle.serde_json.specs.declared.value.Value.{Value}
use Rattle.xet_base.specs.declared.merklehash.MerkleHash.{MerkleHash}
use Rattle.xet_base.specs.HashText.{hash_of_text}
use Rattle.xet_mirror_command.specs.MirrorInput.{hashes_of_items}

-- the hashes so far and those that are left
module _ (vs : List Value) (i : ℕ) (front : List MerkleHash) (whole : Option (List MerkleHash))
    (left : whole ≡ option_map (λ rest. front ++ rest) (hashes_of_items (items_view (drop i vs)))) where
  -- none is left
  pub hashes_end : length vs ≤ i → whole ≡ Some front
  hashes_end past =
      left
      ∙ ap (λ (xs : List Value). option_map (λ rest. front ++ rest) (hashes_of_items (items_view xs))) (drop_all i vs past)
      ∙ ap Some (append-nil front)

  module _ (v : Value) (within : i < length vs) (is : v ≡ get_or vs i v) where
    next : whole ≡ option_map (λ rest. front ++ rest) (option_and_then (λ h. option_map (λ hs. h ∷ hs)
        (hashes_of_items (items_view (drop (i + 1) vs)))) (option_and_then hash_of_text (as_str (view v))))
    next =
        let split : drop i vs ≡ v ∷ drop (i + 1) vs = drop_more vs i v within
        ∙ ap (λ (x : Value). x ∷ drop (i + 1) vs) (sym is) in
        left ∙ ap (λ (xs : List Value). option_map (λ rest. front ++ rest) (hashes_of_items (items_view xs))) split

    -- one spells this hash
    pub hashes_more : (h : MerkleHash) → Some h ≡ option_and_then hash_of_text (as_str (view v))
        → whole ≡ option_map (λ rest. (front ++ h ∷ []) ++ rest) (hashes_of_items (items_view (drop (i + 1) vs)))
    hashes_more h some =
        next
        ∙ ap (λ (o : Option MerkleHash). option_map (λ rest. front ++ rest) (option_and_then (λ g. option_map (λ hs. g ∷ hs)
        (hashes_of_items (items_view (drop (i + 1) vs)))) o)) (sym some)
        ∙ joined (hashes_of_items (items_view (drop (i + 1) vs)))
      where
        joined : (o : Option (List MerkleHash)) → option_map (λ rest. front ++ rest) (option_map (λ hs. h ∷ hs) o)
            ≡ option_map (λ rest. (front ++ h ∷ []) ++ rest) o
        joined None = refl
        joined (Some hs) = ap Some (sym (append_assoc front (h ∷ []) hs))

    -- one spells none
    pub hashes_stop : None ≡ option_and_then hash_of_text (as_str (view v)) → whole ≡ None
    hashes_stop none =
        next
        ∙ ap (λ (o : Option MerkleHash). option_map (λ rest. front ++ rest) (option_and_then (λ g. option_map (λ hs. g ∷ hs)
        (hashes_of_items (items_view (drop (i + 1) vs)))) o)) (sym none)
