-- Members beside the entries that they list.
use Rattle.std.proofs.Common.{◌≡◌, ℕ, List, [], ◌∷◌, Ordering, Less, Equal, Greater, nat_cmp, refl, sym, ◌∙◌, ap, subst}
use Rattle.std.specs.Prelude.{All}
use Rattle.std.proofs.lemmas.List.Elements.{All-cons, All-nil}
use Rattle.std.proofs.lemmas.Map.Text.{is_eq-slice_cmp}
use Rattle.std.proofs.lemmas.Slice.Eq.{bytes_eq-Decides}
use Rattle.std.specs.Cmp.Lexicographic.{slice_cmp}
use Rattle.std.specs.Ordering.{is_eq, match_ordering}
use Rattle.std.specs.BTreeMap.{insert_entry}
use Rattle.serde_json.specs.Data.{Data, Members, no_members, member, put}
use Rattle.xet_document.specs.steps.Reads.{Lists}

module _ {K V : Type 0} (text_of : K → List ℕ) where
  -- what each entry is implies what it is said to be
  pub lists_weaker : (R S : List ℕ → Data → V → Type 0) → ((k : List ℕ) (d : Data) (v : V) → R k d v → S k d v)
      → (ms : Members) (es : List (K × V)) → Lists text_of R ms es → Lists text_of S ms es
  lists_weaker R S f no_members [] h = tt
  lists_weaker R S f no_members (e ∷ es) h = absurd h
  lists_weaker R S f (member k d ms) [] h = absurd h
  lists_weaker R S f (member k d ms) (e ∷ es) h = (h.0, f k d e.1 h.1, lists_weaker R S f ms es h.2)

  -- a member is put where its entry is
  pub lists_put : (R : List ℕ → Data → V → Type 0) (ms : Members) (es : List (K × V)) (key : K) (d : Data) (v : V)
      → Lists text_of R ms es → R (text_of key) d v
      → Lists text_of R (put (text_of key) d ms) (insert_entry (λ a b. slice_cmp nat_cmp (text_of a) (text_of b)) es key v)
  lists_put R no_members [] key d v h r = (refl, r, tt)
  lists_put R no_members (e ∷ es) key d v h r = absurd h
  lists_put R (member k c ms) [] key d v h r = absurd h
  lists_put R (member k c ms) (e ∷ es) key d v h r =
      let same : slice_cmp nat_cmp (text_of key) (text_of e.0) ≡ slice_cmp nat_cmp (text_of key) k = ap (slice_cmp nat_cmp (text_of key)) (sym h.0) in
      rw same (go (slice_cmp nat_cmp (text_of key) k) refl (lists_put R ms es key d v h.2 r))
    where
      go : (o : Ordering) → slice_cmp nat_cmp (text_of key) k ≡ o
          → Lists text_of R (put (text_of key) d ms) (insert_entry (λ a b. slice_cmp nat_cmp (text_of a) (text_of b)) es key v)
          → Lists text_of R (match_ordering o (member (text_of key) d (member k c ms)) (member k d ms) (member k c (put (text_of key) d ms)))
          (match_ordering o ((key, v) ∷ e ∷ es) ((e.0, v) ∷ es) (e ∷ insert_entry (λ a b. slice_cmp nat_cmp (text_of a) (text_of b)) es key v))
      go Less is rest = (refl, r, h)
      go Equal is rest =
          let equal : text_of key ≡ k = (bytes_eq-Decides (text_of key) k).0 (sym (is_eq-slice_cmp (text_of key) k) ∙ ap is_eq is) in
          (h.0, subst (λ t. R t d v) equal r, h.2)
      go Greater is rest = (h.0, h.1, rest)

  -- what is so of each listed entry
  pub lists_all : (R : List ℕ → Data → V → Type 0) (P : K × V → Type 0) → ((k : List ℕ) (d : Data) (e : K × V) → R k d e.1 → P e)
      → (ms : Members) (es : List (K × V)) → Lists text_of R ms es → All P es
  lists_all R P f no_members [] h = All-nil P
  lists_all R P f no_members (e ∷ es) h = absurd h
  lists_all R P f (member k d ms) [] h = absurd h
  lists_all R P f (member k d ms) (e ∷ es) h = All-cons P e es (f k d e h.1) (lists_all R P f ms es h.2)
