-- The sums at the chunks that terms reach, one term after another.
use Rattle.std.proofs.Common.{◌≡◌, inl, inr, ℕ, zero, suc, ◌+◌, ◌-◌, ◌^◌, ◌<◌, ◌≤◌, Bool, true, false, cond, ◌&&◌, ◌||◌, List, [], ◌∷◌, ◌++◌, drop, take, get_or, length, map, eqb, ltb, refl, sym, ◌∙◌, ap, arith, Some, None, ⊎_elim}
use Rattle.std.specs.Prelude.{All, Option, option_and_then, option_map, slice_get, sum}
use Rattle.std.specs.List.Sorted.{IsNonDecreasingBy, IsPartitionPoint, IsPartitionedBy}
use Rattle.std.proofs.lemmas.Bool.{cases_Bool, eqb-true, false≢true, lt-ltb, ltb-false, ltb-true, or_cases, and_parts}
use Rattle.std.proofs.lemmas.Bool.Decides.{nat_tests}
use Rattle.std.proofs.lemmas.List.{take-append-drop, get_or-drop, get_or_default, length-drop, map-append, take_all, take_more}
use Rattle.std.proofs.lemmas.List.Elements.{All-head, All-tail, All-drop}
use Rattle.std.proofs.lemmas.List.Sums.{sum_by-cons, sum_by-append}
use Rattle.std.proofs.lemmas.List.Sorted.{IsPartitionedBy-ltb}
use Rattle.std.proofs.lemmas.Option.{same_Some}
use Rattle.xet_base.specs.declared.cas_types.ChunkRange.{ChunkRange}
use Rattle.xet_base.specs.Lists.{first_some}
use Rattle.xet_base.specs.Ranges.{Ascend}
use Rattle.xet_offers.specs.declared.reconstruction_terms.xorb_block.XorbReference.{XorbReference}
use Rattle.xet_offers.specs.Chain.{bridges, chain_sum, first_start, known_size, last_end, leads, sum_at, sum_by_term}
use Rattle.xet_offers.specs.steps.Reached.{bridge_of, reached_here}

abbrev pub size : XorbReference → ℕ
size t = t.uncompressed_size

-- a choice whose other part waits
abbrev pub pick : Bool → Option ℕ → Option ℕ → Option ℕ
pick b x y = elim b [ true ↦ x | false ↦ y ]

abbrev pub IsSome_term : XorbReference → Type 0
IsSome_term t = t.term_chunks.start < t.term_chunks.end

-- ---- ends rise

low_end : (low high : ℕ) (rs : List ChunkRange) → Ascend low high rs → (k : ℕ) (d : ChunkRange) → k < length rs → low ≤ (get_or rs k d).end
low_end low high [] h k d l = absurd (omega arith)
low_end low high (r ∷ rs) h zero d l = let x : low ≤ r.start = h.0 in let y : r.start < r.end = h.1 in omega (arith, x, y)
low_end low high (r ∷ rs) h (suc k) d l =
    let x : low ≤ r.start = h.0 in let y : r.start < r.end = h.1 in
    omega (arith, x, y, low_end r.end high rs h.3 k d (omega arith))

pub ends_rise : (low high : ℕ) (rs : List ChunkRange) → Ascend low high rs → IsNonDecreasingBy (λ r. r.end) rs
ends_rise low high [] h i j d l m = absurd (omega arith)
ends_rise low high (r ∷ rs) h zero zero d l m = omega arith
ends_rise low high (r ∷ rs) h zero (suc j) d l m = low_end r.end high rs h.3 j d (omega arith)
ends_rise low high (r ∷ rs) h (suc i) zero d l m = absurd (omega arith)
ends_rise low high (r ∷ rs) h (suc i) (suc j) d l m = ends_rise r.end high rs h.3 i j d (omega arith) (omega arith)

pub ends_part : (low high : ℕ) (rs : List ChunkRange) (a : ℕ) → Ascend low high rs → IsPartitionedBy (λ r. ltb r.end a) rs
ends_part low high rs a h = IsPartitionedBy-ltb (λ r. r.end) rs a (ends_rise low high rs h)

-- ---- bridges

no_bridge : (low high a : ℕ) (rs : List ChunkRange) → Ascend low high rs → a ≤ low → bridge_of rs a ≡ None
no_bridge low high a [] h l = refl
no_bridge low high a (r ∷ []) h l = refl
no_bridge low high a (r ∷ s ∷ rs) h l =
    let x : low ≤ r.start = h.0 in let y : r.start < r.end = h.1 in
    let apart : eqb r.end a ≡ false = let m : a < r.end = omega (arith, x, y, l) in grind (arith, nat_tests) in
    ap (λ b. cond (b && ltb a s.start) (Some s.start) (bridge_of (s ∷ rs) a)) apart
    ∙ no_bridge r.end high a (s ∷ rs) h.3 (omega (arith, x, y, l))

abbrev pub bridge_in : ℕ → Option ChunkRange → Option ChunkRange → Option ℕ
bridge_in a f g = option_and_then (λ (r : ChunkRange). option_and_then (λ (s : ChunkRange). cond (eqb r.end a && ltb a s.start) (Some s.start) None) g) f

-- the bridge is at the first range that does not end before
pub bridge_at : (low high a : ℕ) (rs : List ChunkRange) (i : ℕ) → Ascend low high rs → ((k : ℕ) (d : ChunkRange) → k < i → k < length rs → (get_or rs k d).end < a) → ((k : ℕ) (d : ChunkRange) → i ≤ k → k < length rs → a ≤ (get_or rs k d).end)
    → bridge_of rs a ≡ bridge_in a (slice_get rs i) (slice_get rs (suc i))
bridge_at low high a [] i h before after = refl
bridge_at low high a (r ∷ []) zero h before after = refl
bridge_at low high a (r ∷ []) (suc i) h before after = refl
bridge_at low high a (r ∷ s ∷ rs) zero h before after =
    let here : a ≤ r.end = after 0 r (omega arith) (omega arith) in
    ap (λ o. cond (eqb r.end a && ltb a s.start) (Some s.start) o) (no_bridge r.end high a (s ∷ rs) h.3 here)
bridge_at low high a (r ∷ s ∷ rs) (suc i) h before after =
    let here : r.end < a = before 0 r (omega arith) (omega arith) in
    let apart : eqb r.end a ≡ false = grind (arith, nat_tests) in
    ap (λ b. cond (b && ltb a s.start) (Some s.start) (bridge_of (s ∷ rs) a)) apart
    ∙ bridge_at r.end high a (s ∷ rs) i h.3 (λ k d l m. before (suc k) d (omega arith) (omega arith)) (λ k d l m. after (suc k) d (omega arith) (omega arith))

pub bridge_found : (rs : List ChunkRange) (a i : ℕ) → Ascend 0 (last_end rs) rs → IsPartitionPoint (λ r. ltb r.end a ≡ true) (λ r. ltb r.end a ≡ false) rs i → bridge_of rs a ≡ bridge_in a (slice_get rs i) (slice_get rs (suc i))
bridge_found rs a i h part = bridge_at 0 (last_end rs) a rs i h
    (λ k d l m. ltb-true (get_or rs k d).end a (part.0 k d (omega arith) l))
    (λ k d l m. ltb-false (get_or rs k d).end a (part.1 k d l m))

-- to bridge is to lead further on
bridges_on : (rs : List ChunkRange) (a b : ℕ) → bridges rs a b ≡ true → a < b
bridges_on [] a b h = absurd (false≢true h)
bridges_on (r ∷ []) a b h = absurd (false≢true h)
bridges_on (r ∷ s ∷ rs) a b h = ⊎_elim
    (λ (w : (eqb r.end a && (eqb s.start b && ltb a b)) ≡ true).
    ltb-true a b (and_parts (eqb s.start b) (ltb a b) (and_parts (eqb r.end a) (eqb s.start b && ltb a b) w).1).1)
    (λ (w : bridges (s ∷ rs) a b ≡ true). bridges_on (s ∷ rs) a b w)
    (or_cases (eqb r.end a && (eqb s.start b && ltb a b)) (bridges (s ∷ rs) a b) h)

pub leads_on : (rs : List ChunkRange) (a p : ℕ) → leads rs a p ≡ true → a ≤ p
leads_on rs a p h = ⊎_elim
    (λ (w : eqb a p ≡ true). let e = eqb-true a p w in omega (arith, e))
    (λ (w : bridges rs a p ≡ true). let l = bridges_on rs a p w in omega (arith, l))
    (or_cases (eqb a p) (bridges rs a p) h)

abbrev pub hits : Option ℕ → ℕ → Bool
hits None b = false
hits (Some n) b = eqb n b

or_false : (b : Bool) → (b || false) ≡ b
or_false true = refl
or_false false = refl

-- over ascending ranges a place bridges to one other alone
pub bridges_to : (low high : ℕ) (rs : List ChunkRange) (a b : ℕ) → Ascend low high rs → bridges rs a b ≡ hits (bridge_of rs a) b
bridges_to low high [] a b h = refl
bridges_to low high (r ∷ []) a b h = refl
bridges_to low high (r ∷ s ∷ rs) a b h =
    elim (cases_Bool (eqb r.end a)) [
      | inl same ↦
          let e : r.end ≡ a = eqb-true r.end a same in
          let none = no_bridge r.end high a (s ∷ rs) h.3 (omega (arith, e)) in
          let rest : bridges (s ∷ rs) a b ≡ false = bridges_to r.end high (s ∷ rs) a b h.3 ∙ ap (λ o. hits o b) none in
          let left : bridges (r ∷ s ∷ rs) a b ≡ (eqb s.start b && ltb a b) =
          (λ i. (same i && (eqb s.start b && ltb a b)) || rest i) ∙ or_false (eqb s.start b && ltb a b) in
          let right : hits (bridge_of (r ∷ s ∷ rs) a) b ≡ hits (cond (ltb a s.start) (Some s.start) None) b =
          (λ i. hits (cond (same i && ltb a s.start) (Some s.start) (none i)) b) in
          left ∙ at (eqb s.start b) refl (ltb a s.start) refl ∙ sym right
      | inr other ↦
          ap (λ x. (x && (eqb s.start b && ltb a b)) || bridges (s ∷ rs) a b) other
          ∙ bridges_to r.end high (s ∷ rs) a b h.3
          ∙ sym (ap (λ x. hits (cond (x && ltb a s.start) (Some s.start) (bridge_of (s ∷ rs) a)) b) other)
    ]
  where
    at : (x : Bool) → eqb s.start b ≡ x → (y : Bool) → ltb a s.start ≡ y → (eqb s.start b && ltb a b) ≡ hits (cond y (Some s.start) None) b
    at true e y f =
        let same : s.start ≡ b = eqb-true s.start b e in
        let turned : ltb a b ≡ y = ap (λ (n : ℕ). ltb a n) (sym same) ∙ f in
        (λ i. e i && turned i) ∙ go y
      where
        go : (y : Bool) → y ≡ hits (cond y (Some s.start) None) b
        go true = sym e
        go false = refl
    at false e true f = ap (λ x. x && ltb a b) e ∙ sym e
    at false e false f = ap (λ x. x && ltb a b) e

-- ---- one term more

first_some_none : {A : Type 0} (o : Option A) → first_some (o ∷ None ∷ []) ≡ o
first_some_none None = refl
first_some_none (Some x) = refl

-- one whose start is reached reaches its end, and where that bridges to
follow_some : (rs : List ChunkRange) (t : XorbReference) (old : ℕ → Option ℕ) (p n : ℕ) → Ascend 0 (last_end rs) rs → old t.term_chunks.start ≡ Some n → (f : Option ℕ) → bridge_of rs t.term_chunks.end ≡ f
    → first_some (reached_here t.term_chunks.end (size t + n) p ∷ cond (hits f p) (Some (size t + n)) None ∷ []) ≡ sum_by_term rs old p t
follow_some rs t old p n h some f e =
    go (eqb t.term_chunks.end p) (bridges rs t.term_chunks.end p) (bridges_to 0 (last_end rs) rs t.term_chunks.end p h ∙ ap (λ o. hits o p) e)
    ∙ sym (by (leads rs t.term_chunks.end p))
  where
    by : (b : Bool) → pick b (option_map (λ n. size t + n) (old t.term_chunks.start)) None ≡ cond b (Some (size t + n)) None
    by true = ap (λ o. option_map (λ n. size t + n) o) some
    by false = refl

    go : (x y : Bool) → y ≡ hits f p → first_some (cond x (Some (size t + n)) None ∷ cond (hits f p) (Some (size t + n)) None ∷ []) ≡ cond (x || y) (Some (size t + n)) None
    go true y e = refl
    go false y e = ap (λ b. first_some (None ∷ cond b (Some (size t + n)) None ∷ [])) (sym e) ∙ only (cond y (Some (size t + n)) None)
      where
        only : (o : Option ℕ) → first_some (None ∷ o ∷ []) ≡ o
        only None = refl
        only (Some x) = refl

-- without a bridge
pub follow_end : (rs : List ChunkRange) (t : XorbReference) (old new : ℕ → Option ℕ) (n s : ℕ) → Ascend 0 (last_end rs) rs → Some n ≡ old t.term_chunks.start → None ≡ bridge_of rs t.term_chunks.end → s ≡ size t + n
    → ((p : ℕ) → new p ≡ first_some (old p ∷ reached_here t.term_chunks.end s p ∷ [])) → (p : ℕ) → new p ≡ first_some (old p ∷ sum_by_term rs old p t ∷ [])
follow_end rs t old new n s h some none e made p =
    made p ∙ ap (λ (k : ℕ). first_some (old p ∷ reached_here t.term_chunks.end k p ∷ [])) e
    ∙ ap (λ o. first_some (old p ∷ o ∷ [])) (sym (first_some_none (reached_here t.term_chunks.end (size t + n) p)) ∙ follow_some rs t old p n h (sym some) None (sym none))

-- with one
pub follow_bridge : (rs : List ChunkRange) (t : XorbReference) (old mid new : ℕ → Option ℕ) (n s m : ℕ) → Ascend 0 (last_end rs) rs → Some n ≡ old t.term_chunks.start → Some m ≡ bridge_of rs t.term_chunks.end → s ≡ size t + n
    → ((p : ℕ) → mid p ≡ first_some (old p ∷ reached_here t.term_chunks.end s p ∷ [])) → ((p : ℕ) → new p ≡ first_some (mid p ∷ reached_here m s p ∷ [])) → (p : ℕ) → new p ≡ first_some (old p ∷ sum_by_term rs old p t ∷ [])
follow_bridge rs t old mid new n s m h some bridge e made more p =
    more p ∙ ap (λ (o : Option ℕ). first_some (o ∷ reached_here m s p ∷ [])) (made p)
    ∙ nested (old p) (reached_here t.term_chunks.end s p) (reached_here m s p)
    ∙ ap (λ (k : ℕ). first_some (old p ∷ first_some (reached_here t.term_chunks.end k p ∷ reached_here m k p ∷ []) ∷ [])) e
    ∙ ap (λ o. first_some (old p ∷ o ∷ [])) (follow_some rs t old p n h (sym some) (Some m) (sym bridge))
  where
    nested : (o x y : Option ℕ) → first_some (first_some (o ∷ x ∷ []) ∷ y ∷ []) ≡ first_some (o ∷ first_some (x ∷ y ∷ []) ∷ [])
    nested None None None = refl
    nested None None (Some y) = refl
    nested None (Some x) y = refl
    nested (Some o) x y = refl

-- ---- all terms

module _ (rs : List ChunkRange) (all : List XorbReference) (first : ℕ) where
  -- the sum at a place by all terms
  abbrev pub final : ℕ → Option ℕ
  final p = sum_at rs all first (suc p) p

  abbrev pub by_terms : (ℕ → Option ℕ) → List XorbReference → ℕ → Option ℕ
  by_terms before ts p = elim (eqb first p) [ true ↦ Some 0 | false ↦ first_some (map (sum_by_term rs before p) ts) ]

  -- terms that lead here look back to their starts alone
  same_sums : (f g : ℕ → Option ℕ) (p : ℕ) (ts : List XorbReference) → All IsSome_term ts → ((q : ℕ) → q < p → f q ≡ g q) → first_some (map (sum_by_term rs f p) ts) ≡ first_some (map (sum_by_term rs g p) ts)
  same_sums f g p [] some h = refl
  same_sums f g p (t ∷ ts) some h =
      let here : IsSome_term t = All-head IsSome_term t ts some in
      let one : sum_by_term rs f p t ≡ sum_by_term rs g p t = go (leads rs t.term_chunks.end p) refl here in
      let rest = same_sums f g p ts (All-tail IsSome_term t ts some) h in
      first_of (sum_by_term rs f p t) (sum_by_term rs g p t) one rest
    where
      go : (b : Bool) → leads rs t.term_chunks.end p ≡ b → IsSome_term t
          → (pick b (option_map (λ n. size t + n) (f t.term_chunks.start)) (None)) ≡ (pick b (option_map (λ n. size t + n) (g t.term_chunks.start)) (None))
      go true e l = let on = leads_on rs t.term_chunks.end p e in ap (λ o. option_map (λ n. size t + n) o) (h t.term_chunks.start (omega (arith, l, on)))
      go false e l = refl

      first_of : (x y : Option ℕ) → x ≡ y → first_some (map (sum_by_term rs f p) ts) ≡ first_some (map (sum_by_term rs g p) ts) → first_some (x ∷ map (sum_by_term rs f p) ts) ≡ first_some (y ∷ map (sum_by_term rs g p) ts)
      first_of None None e k = k
      first_of None (Some y) e k = cc
      first_of (Some x) None e k = cc
      first_of (Some x) (Some y) e k = e

  -- more steps than places give the same
  stable : All IsSome_term all → (n m q : ℕ) → q < n → q < m → sum_at rs all first n q ≡ sum_at rs all first m q
  stable some zero m q l k = absurd (omega arith)
  stable some (suc n) zero q l k = absurd (omega arith)
  stable some (suc n) (suc m) q l k = go (eqb first q) (same_sums (sum_at rs all first n) (sum_at rs all first m) q all some (λ p o. stable some n m p (omega arith) (omega arith)))
    where
      go : (b : Bool) → first_some (map (sum_by_term rs (sum_at rs all first n) q) all) ≡ first_some (map (sum_by_term rs (sum_at rs all first m) q) all)
          → (pick b (Some 0) (first_some (map (sum_by_term rs (sum_at rs all first n) q) all))) ≡ (pick b (Some 0) (first_some (map (sum_by_term rs (sum_at rs all first m) q) all)))
      go true e = refl
      go false e = e

  pub final_is : All IsSome_term all → (p : ℕ) → final p ≡ by_terms final all p
  final_is some p = go (eqb first p) (same_sums (sum_at rs all first p) final p all some (λ q l. stable some p (suc q) q l (omega arith)))
    where
      go : (b : Bool) → first_some (map (sum_by_term rs (sum_at rs all first p) p) all) ≡ first_some (map (sum_by_term rs final p) all)
          → (pick b (Some 0) (first_some (map (sum_by_term rs (sum_at rs all first p) p) all))) ≡ (pick b (Some 0) (first_some (map (sum_by_term rs final p) all)))
      go true e = refl
      go false e = e

  -- terms that start at a place or after it do not lead there
  none_lead : (p : ℕ) (ts : List XorbReference) → All IsSome_term ts → All (λ t. p ≤ t.term_chunks.start) ts → first_some (map (sum_by_term rs final p) ts) ≡ None
  none_lead p [] some h = refl
  none_lead p (t ∷ ts) some h =
      let here : IsSome_term t = All-head IsSome_term t ts some in
      let from : p ≤ t.term_chunks.start = All-head (λ t. p ≤ t.term_chunks.start) t ts h in
      go (leads rs t.term_chunks.end p) refl here from (none_lead p ts (All-tail IsSome_term t ts some) (All-tail (λ t. p ≤ t.term_chunks.start) t ts h))
    where
      go : (b : Bool) → leads rs t.term_chunks.end p ≡ b → IsSome_term t → p ≤ t.term_chunks.start → first_some (map (sum_by_term rs final p) ts) ≡ None
          → first_some ((pick b (option_map (λ n. size t + n) (final t.term_chunks.start)) (None)) ∷ map (sum_by_term rs final p) ts) ≡ None
      go true e l m k = let on = leads_on rs t.term_chunks.end p e in absurd (omega (arith, l, m, on))
      go false e l m k = k

  first_some_append : {A : Type 0} (xs ys : List (Option A)) → first_some (xs ++ ys) ≡ first_some (first_some xs ∷ first_some ys ∷ [])
  first_some_append [] ys = only (first_some ys)
    where
      only : {B : Type 0} (o : Option B) → o ≡ first_some (o ∷ [])
      only None = refl
      only (Some x) = refl
  first_some_append (None ∷ xs) ys = first_some_append xs ys
  first_some_append (Some x ∷ xs) ys = refl

  by_terms-append : (ts us : List XorbReference) (p : ℕ) → by_terms final (ts ++ us) p ≡ first_some (by_terms final ts p ∷ first_some (map (sum_by_term rs final p) us) ∷ [])
  by_terms-append ts us p = go (eqb first p)
    where
      go : (b : Bool) → (pick b (Some 0) (first_some (map (sum_by_term rs final p) (ts ++ us))))
          ≡ first_some ((pick b (Some 0) (first_some (map (sum_by_term rs final p) ts))) ∷ first_some (map (sum_by_term rs final p) us) ∷ [])
      go true = refl
      go false = ap first_some (map-append (sum_by_term rs final p) ts us) ∙ first_some_append (map (sum_by_term rs final p) ts) (map (sum_by_term rs final p) us)

  -- where a term starts, the terms before it have told the sum
  pub told_before : (i : ℕ) (d : XorbReference) → All IsSome_term all → IsNonDecreasingBy (λ t. t.term_chunks.start) all → i < length all
      → by_terms final (take i all) (get_or all i d).term_chunks.start ≡ final (get_or all i d).term_chunks.start
  told_before i d some sorted l =
      let p = (get_or all i d).term_chunks.start in
      let from : All (λ t. p ≤ t.term_chunks.start) (drop i all) = λ k e m.
      let n : k < length (drop i all) = m in
      let at : get_or (drop i all) k e ≡ get_or all (i + k) e = get_or-drop i all k e in
      let high : i + k < length all = omega (arith, n, length-drop i all) in
      let le = sorted i (i + k) e (omega arith) high in
      let same : get_or all i e ≡ get_or all i d = get_or_default all i e d l in
      omega (arith, le, ap (λ (t : XorbReference). t.term_chunks.start) same, ap (λ (t : XorbReference). t.term_chunks.start) at) in
      let none = none_lead p (drop i all) (All-drop IsSome_term i all some) from in
      sym (final_is some p ∙ ap (λ (ts : List XorbReference). by_terms final ts p) (sym (take-append-drop i all))
      ∙ by_terms-append (take i all) (drop i all) p ∙ ap (λ o. first_some (by_terms final (take i all) p ∷ o ∷ [])) none ∙ first_some_none (by_terms final (take i all) p))

  -- what is reached after so many terms
  pub record IsReached (told : ℕ → Option ℕ) (i : ℕ) : Type 0 where
    pub sums : (p : ℕ) → told p ≡ by_terms final (take i all) p
    pub bound : (p n : ℕ) → told p ≡ Some n → n ≤ sum (map size (take i all))

  sum_of_more : (i : ℕ) (d : XorbReference) → i < length all → sum (map size (take (i + 1) all)) ≡ sum (map size (take i all)) + size (get_or all i d)
  sum_of_more i d l =
      let x = get_or all i d in
      let more : map size (take (i + 1) all) ≡ map size (take i all) ++ size x ∷ [] = ap (map size) (take_more all i d l) ∙ map-append size (take i all) (x ∷ []) in
      let two = sum_by-append (λ (n : ℕ). n) (map size (take i all)) (size x ∷ []) in
      let one = sum_by-cons (λ (n : ℕ). n) (size x) [] in
      ap sum more ∙ omega (arith, two, one)

  pub reached_more : (sums new : ℕ → Option ℕ) (i : ℕ) (d : XorbReference) → All IsSome_term all → IsNonDecreasingBy (λ t. t.term_chunks.start) all → i < length all → IsReached sums i
      → ((p : ℕ) → new p ≡ first_some (sums p ∷ sum_by_term rs sums p (get_or all i d) ∷ [])) → IsReached new (i + 1)
  reached_more old new i d some sorted l w h =
      let t = get_or all i d in
      let at : old t.term_chunks.start ≡ final t.term_chunks.start = w.sums t.term_chunks.start ∙ told_before i d some sorted l in
      record {
        sums = λ p. h p ∙ (λ j. first_some (w.sums p j ∷ by_final p at j ∷ []))
            ∙ only (by_terms final (take i all) p) (sum_by_term rs final p t)
            ∙ sym (ap (λ (ts : List XorbReference). by_terms final ts p) (take_more all i d l) ∙ by_terms-append (take i all) (t ∷ []) p);
        bound = λ p n e. bound p n (old p) refl (sym (h p) ∙ e) (sum_of_more i d l);
      }
    where
      by_final : (p : ℕ) → old (get_or all i d).term_chunks.start ≡ final (get_or all i d).term_chunks.start → sum_by_term rs old p (get_or all i d) ≡ sum_by_term rs final p (get_or all i d)
      by_final p e = go (leads rs (get_or all i d).term_chunks.end p)
        where
          go : (b : Bool) → (pick b (option_map (λ n. size (get_or all i d) + n) (old (get_or all i d).term_chunks.start)) (None))
              ≡ (pick b (option_map (λ n. size (get_or all i d) + n) (final (get_or all i d).term_chunks.start)) (None))
          go true = ap (λ o. option_map (λ n. size (get_or all i d) + n) o) e
          go false = refl

      only : (f g : Option ℕ) → first_some (f ∷ g ∷ []) ≡ first_some (f ∷ first_some (g ∷ []) ∷ [])
      only None None = refl
      only None (Some x) = refl
      only (Some x) g = refl

      bound : (p n : ℕ) (f : Option ℕ) → old p ≡ f → first_some (old p ∷ sum_by_term rs old p (get_or all i d) ∷ []) ≡ Some n
          → sum (map size (take (i + 1) all)) ≡ sum (map size (take i all)) + size (get_or all i d) → n ≤ sum (map size (take (i + 1) all))
      bound p n (Some m) e k more =
          let same : m ≡ n = same_Some m n (sym (ap (λ o. first_some (o ∷ sum_by_term rs old p (get_or all i d) ∷ [])) e) ∙ k) in
          let b = w.bound p m e in
          omega (arith, b, same, more)
      bound p n None e k more = at (leads rs (get_or all i d).term_chunks.end p) (old (get_or all i d).term_chunks.start) refl (sym (ap (λ o. first_some (o ∷ sum_by_term rs old p (get_or all i d) ∷ [])) e) ∙ k)
        where
          at : (b : Bool) (o : Option ℕ) → old (get_or all i d).term_chunks.start ≡ o
              → first_some (None ∷ (pick b (option_map (λ n. size (get_or all i d) + n) (old (get_or all i d).term_chunks.start)) (None)) ∷ []) ≡ Some n → n ≤ sum (map size (take (i + 1) all))
          at false o f k = cc
          at true None f k =
              let clash : first_some (None ∷ None ∷ []) ≡ Some n = sym (ap (λ o. first_some (None ∷ option_map (λ n. size (get_or all i d) + n) o ∷ [])) f) ∙ k in cc
          at true (Some m) f k =
              let same : size (get_or all i d) + m ≡ n = same_Some _ _ (sym (ap (λ o. first_some (None ∷ option_map (λ n. size (get_or all i d) + n) o ∷ [])) f) ∙ k) in
              let b = w.bound (get_or all i d).term_chunks.start m f in
              omega (arith, b, same, more)

  -- a sum so far, with one size more, is no more than all
  pub fits_more : (sums : ℕ → Option ℕ) (i p n : ℕ) (d : XorbReference) → i < length all → IsReached sums i → sum (map size all) < 2 ^ 64 → sums p ≡ Some n → size (get_or all i d) + n < 2 ^ 64
  fits_more sums i p n d l w total e =
      let b = w.bound p n e in
      let more = sum_of_more i d l in
      let parts = sum_by-append (λ (n : ℕ). n) (map size (take (i + 1) all)) (map size (drop (i + 1) all)) in
      let joined : map size (take (i + 1) all) ++ map size (drop (i + 1) all) ≡ map size all = sym (map-append size (take (i + 1) all) (drop (i + 1) all)) ∙ ap (map size) (take-append-drop (i + 1) all) in
      omega (arith, b, more, parts, ap sum joined, total)

-- after all terms the sum at the last end is the chain's
pub reached_all : (rs : List ChunkRange) (all : List XorbReference) (told : ℕ → Option ℕ) (i : ℕ) → 0 < length rs → All IsSome_term all → length all ≤ i → IsReached rs all (first_start rs) told i
    → told (last_end rs) ≡ chain_sum rs all
reached_all [] all told i some l m w = absurd (omega arith)
reached_all (r ∷ rs) all told i has some l w =
    w.sums (last_end (r ∷ rs)) ∙ ap (λ (ts : List XorbReference). by_terms (r ∷ rs) all r.start (final (r ∷ rs) all r.start) ts (last_end (r ∷ rs))) (take_all i all l)
    ∙ sym (final_is (r ∷ rs) all r.start some (last_end (r ∷ rs)))

pub known_is : (rs : List ChunkRange) (all : List XorbReference) → 0 < length rs → sum (map size all) < 2 ^ 64 → known_size rs all ≡ chain_sum rs all
known_is [] all l m = absurd (omega arith)
known_is (r ∷ rs) all l m = ap (λ b. cond b (chain_sum (r ∷ rs) all) None) (lt-ltb (sum (map size all)) (2 ^ 64) m)

pub last_end_is : (rs : List ChunkRange) (d : ChunkRange) → 0 < length rs → (get_or rs (length rs - 1) d).end ≡ last_end rs
last_end_is [] d l = absurd (omega arith)
last_end_is (r ∷ []) d l = refl
last_end_is (r ∷ s ∷ rs) d l =
    let e : suc (suc (length rs)) - 1 ≡ suc (length rs) = omega arith in
    let f : suc (length rs) - 1 ≡ length rs = omega arith in
    ap (λ (n : ℕ). (get_or (r ∷ s ∷ rs) n d).end) e ∙ sym (ap (λ (n : ℕ). (get_or (s ∷ rs) n d).end) f) ∙ last_end_is (s ∷ rs) d (omega arith)
