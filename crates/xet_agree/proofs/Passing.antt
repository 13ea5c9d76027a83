-- Steps of two walks side by side.
use Rattle.std.proofs.Common.{◌≡◌, ◌≢◌, ◌⊎◌, ℕ, ◌+◌, ◌<◌, ◌≤◌, List, [], ◌++◌, length, get_or, take, drop, refl, sym, ◌∙◌, ap, arith, append_assoc, inl, inr, subst, Some, All, Bool, true, false, not, eqb}
use lib.Pointwise.{pointwise}
use Rattle.std.specs.Prelude.{slice_get}
use Rattle.std.proofs.lemmas.Bool.{cases_lt, false≢true, true≢false}
use Rattle.std.proofs.lemmas.Bool.Decides.{Decides-eqb}
use Rattle.std.proofs.lemmas.Slice.Eq.{slice_eq-Decides}
use Rattle.std.proofs.lemmas.List.{append_cancel_left, drop_all, length-append, nil_from_length, take-append-drop, take-append-le}
use Rattle.std.proofs.lemmas.Option.{get_or_from_slice_get, slice_get_within}
use Rattle.std.specs.List.{concat}
use Rattle.xet_base.specs.declared.stored.StoredTerm.{StoredTerm}
use Rattle.xet_base.specs.Store.{IsTermIn, Store, chunks_of_term}
use Rattle.xet_agree.specs.declared.walks.Walk.{Walk}
use Rattle.xet_agree.specs.steps.Alike.{XorbsAgree, bytes_in}
use Rattle.xet_agree.specs.steps.Walks.{AreAtSame, PassSame, left_of, to_do}
use Rattle.xet_agree.proofs.Chunks.{bytes_more, same_term}

-- nothing is passed
pub pass_none : (a c : List ℕ) → PassSame a a c c
pass_none a c = record { passed = []; first_is = refl; second_is = refl }

-- what is passed first, and then more
pub pass_more : (a b c d e f : List ℕ) → PassSame a b d e → PassSame b c e f → PassSame a c d f
pass_more a b c d e f p q = record {
  passed = p.passed ++ q.passed;
  first_is = p.first_is ∙ ap (λ (l : List ℕ). p.passed ++ l) q.first_is ∙ sym (append_assoc p.passed q.passed c);
  second_is = p.second_is ∙ ap (λ (l : List ℕ). p.passed ++ l) q.second_is ∙ sym (append_assoc p.passed q.passed f);
}

-- with more behind both
pub pass_before : (a b c d x y : List ℕ) → PassSame a b c d → PassSame (a ++ x) (b ++ x) (c ++ y) (d ++ y)
pass_before a b c d x y p = record {
  passed = p.passed;
  first_is = ap (λ (l : List ℕ). l ++ x) p.first_is ∙ append_assoc p.passed b x;
  second_is = ap (λ (l : List ℕ). l ++ y) p.second_is ∙ append_assoc p.passed d y;
}

-- of texts of which the same was passed what is left is equal where they are, and as long where they are
pub pass_left : (a b c d : List ℕ) → PassSame a b c d → a ≡ c → b ≡ d
pass_left a b c d p e = append_cancel_left p.passed b d (sym p.first_is ∙ e ∙ p.second_is)

pub pass_long : (a b c d : List ℕ) → PassSame a b c d → length a ≡ length c → length b ≡ length d
pass_long a b c d p e =
    let first = ap length p.first_is ∙ length-append p.passed b in
    let second = ap length p.second_is ∙ length-append p.passed d in
    omega (arith, e, first, second)

-- texts of which nothing is left are equal
pub pass_all : (a b c d : List ℕ) → PassSame a b c d → length a ≡ length c → length b ≡ 0 → a ≡ c
pass_all a b c d p e none =
    let same = pass_long a b c d p e in
    p.first_is ∙ ap (λ (l : List ℕ). p.passed ++ l) (nil_from_length b none ∙ sym (nil_from_length d (omega (arith, same, none)))) ∙ sym p.second_is

-- ---- a step over bytes

-- the first bytes of both are equal
pub take_same : (a c : List ℕ) (n : ℕ) → take n a ≡ take n c → PassSame a (drop n a) c (drop n c)
take_same a c n e = record {
  passed = take n a;
  first_is = sym (take-append-drop n a);
  second_is = sym (take-append-drop n c) ∙ ap (λ (l : List ℕ). l ++ drop n c) (sym e);
}

-- they aren't
pub take_other : (a c x y : List ℕ) (n : ℕ) → n ≤ length a → n ≤ length c → take n a ≢ take n c → a ++ x ≢ c ++ y
take_other a c x y n p q other e =
    other (sym (take-append-le n a x p) ∙ ap (λ (l : List ℕ). take n l) e ∙ take-append-le n c y q)

-- what `!=` says of two parts
pub other_of : (xs ys : List ℕ) → true ≡ not (pointwise eqb xs ys) → xs ≢ ys
other_of xs ys h e =
    absurd (true≢false (h ∙ ap not ((slice_eq-Decides Decides-eqb xs ys (pointwise eqb xs ys) refl).1 e)))

pub same_of : (xs ys : List ℕ) → false ≡ not (pointwise eqb xs ys) → xs ≡ ys
same_of xs ys h = (slice_eq-Decides Decides-eqb xs ys (pointwise eqb xs ys) refl).0 (go (pointwise eqb xs ys) h)
  where
    go : (b : Bool) → false ≡ not b → b ≡ true
    go true e = refl
    go false e = absurd (false≢true e)

-- ---- what is left

-- nothing is left where all terms were begun
pub left_none : (s : Store) (ts : List StoredTerm) (w : Walk) → length ts ≤ w.begun → length w.rest ≡ 0 → left_of s ts w ≡ []
left_none s ts w all none =
    ap (λ (l : List ℕ). l ++ bytes_in s (drop w.begun ts)) (nil_from_length w.rest none)
    ∙ ap (λ (l : List StoredTerm). bytes_in s l) (drop_all w.begun ts all)

-- and then there is nothing to do
pub done_none : (s : Store) (ts : List StoredTerm) (w : Walk) → length ts ≤ w.begun → length w.rest ≡ 0 → to_do s ts w ≡ 0
done_none s ts w all none = let e = ap length (left_none s ts w all none) in omega (arith, e, all)

-- where a walk isn't done there is something to do
pub undone_some : (s : Store) (ts : List StoredTerm) (w : Walk) → ((length ts ≤ w.begun) × (length w.rest ≡ 0) → ⊥) → 0 < to_do s ts w
undone_some s ts w undone = go (cases_lt 0 (to_do s ts w))
  where
    long : length (left_of s ts w) ≡ length w.rest + length (bytes_in s (drop w.begun ts))
    long = length-append w.rest (bytes_in s (drop w.begun ts))

    go : (0 < to_do s ts w) ⊎ (to_do s ts w ≤ 0) → 0 < to_do s ts w
    go (inl h) = h
    go (inr h) = absurd (undone (omega (arith, h), omega (arith, h, long)))

-- a term that is about to begin, and what is left behind it
pub left_term : (s : Store) (ts : List StoredTerm) (w : Walk) (u : StoredTerm) → slice_get ts w.begun ≡ Some u → w.rest ≡ []
    → left_of s ts w ≡ concat (chunks_of_term s u) ++ left_of s ts (record w { begun = w.begun + 1 })
left_term s ts w u at none =
    let within = slice_get_within ts w.begun u at in
    let is : get_or ts w.begun u ≡ u = get_or_from_slice_get ts w.begun u u at in
    ap (λ (l : List ℕ). l ++ bytes_in s (drop w.begun ts)) none
    ∙ bytes_more s ts w.begun u within
    ∙ ap (λ (v : StoredTerm). concat (chunks_of_term s v) ++ bytes_in s (drop (w.begun + 1) ts)) is
    ∙ sym (ap (λ (l : List ℕ). concat (chunks_of_term s u) ++ (l ++ bytes_in s (drop (w.begun + 1) ts))) none)

-- ---- a step goes on

module _ (s t : Store) (a b : List StoredTerm) where
  -- both begin a term
  pub both_go : (x y x' y' : Walk) → x.begun < length a → y.begun < length b → x'.begun ≡ x.begun + 1 → y'.begun ≡ y.begun + 1
      → PassSame (left_of s a x) (left_of s a x') (left_of t b y) (left_of t b y')
      → to_do s a x' + to_do t b y' < to_do s a x + to_do t b y
  both_go x y x' y' l m e f p =
      let first = ap length p.first_is ∙ length-append p.passed (left_of s a x') in
      let second = ap length p.second_is ∙ length-append p.passed (left_of t b y') in
      omega (arith, l, m, e, f, first, second)

  -- what a walk did that was to begin a term
  abbrev pub Begins : Store → List StoredTerm → Walk → Walk → Type 0
  Begins r ts w v = (v.begun ≡ w.begun + 1) ⊎ ((v ≡ w) × (0 < length v.rest)) ⊎ ((v ≡ w) × (to_do r ts w ≡ 0))

  -- both were to begin one, and passed bytes
  pub one_goes : (x y v w x' y' : Walk) → v.begun ≤ length a → w.begun ≤ length b
      → left_of s a v ≡ left_of s a x → left_of t b w ≡ left_of t b y → Begins s a x v → Begins t b y w
      → (x'.begun ≡ v.begun) × (y'.begun ≡ w.begun) → PassSame v.rest x'.rest w.rest y'.rest
      → (length v.rest ≡ 0) ⊎ (length w.rest ≡ 0) ⊎ (length x'.rest < length v.rest)
      → 0 < to_do s a x → length (left_of s a x) ≡ length (left_of t b y)
      → to_do s a x' + to_do t b y' < to_do s a x + to_do t b y
  one_goes x y v w x' y' l m e f p q same pass count some equal = go p q count
    where
      A : ℕ
      A = length (bytes_in s (drop v.begun a))

      B : ℕ
      B = length (bytes_in t (drop w.begun b))

      at_v : length (left_of s a x) ≡ length v.rest + A
      at_v = sym (ap length e) ∙ length-append v.rest (bytes_in s (drop v.begun a))

      at_w : length (left_of t b y) ≡ length w.rest + B
      at_w = sym (ap length f) ∙ length-append w.rest (bytes_in t (drop w.begun b))

      at_x' : length (left_of s a x') ≡ length x'.rest + A
      at_x' = length-append x'.rest (bytes_in s (drop x'.begun a))
          ∙ ap (λ (n : ℕ). length x'.rest + length (bytes_in s (drop n a))) same.0

      at_y' : length (left_of t b y') ≡ length y'.rest + B
      at_y' = length-append y'.rest (bytes_in t (drop y'.begun b))
          ∙ ap (λ (n : ℕ). length y'.rest + length (bytes_in t (drop n b))) same.1

      first : length v.rest ≡ length pass.passed + length x'.rest
      first = ap length pass.first_is ∙ length-append pass.passed x'.rest

      second : length w.rest ≡ length pass.passed + length y'.rest
      second = ap length pass.second_is ∙ length-append pass.passed y'.rest

      up : (r : Store) (ts : List StoredTerm) (i j : Walk) → Begins r ts i j → i.begun ≤ j.begun
      up r ts i j (inl h) = omega (arith, h)
      up r ts i j (inr (inl h)) = let k = ap (λ (z : Walk). z.begun) h.0 in omega (arith, k)
      up r ts i j (inr (inr h)) = let k = ap (λ (z : Walk). z.begun) h.0 in omega (arith, k)

      go : Begins s a x v → Begins t b y w
          → (length v.rest ≡ 0) ⊎ (length w.rest ≡ 0) ⊎ (length x'.rest < length v.rest)
          → to_do s a x' + to_do t b y' < to_do s a x + to_do t b y
      go (inl h) k c =
          let ub = up t b y w k in
          let sa = same.0 in
          let sb = same.1 in
          omega (arith, at_v, at_w, at_x', at_y', first, second, l, m, h, ub, sa, sb)
      go (inr (inl h)) (inl k) c =
          let ua = up s a x v (inr (inl h)) in
          let sa = same.0 in
          let sb = same.1 in
          omega (arith, at_v, at_w, at_x', at_y', first, second, l, m, k, ua, sa, sb)
      go (inr (inl h)) (inr (inl k)) (inl c) = let z = h.1 in absurd (omega (arith, z, c))
      go (inr (inl h)) (inr (inl k)) (inr (inl c)) = let z = k.1 in absurd (omega (arith, z, c))
      go (inr (inl h)) (inr (inl k)) (inr (inr c)) =
          let ua = up s a x v (inr (inl h)) in
          let ub = up t b y w (inr (inl k)) in
          let sa = same.0 in
          let sb = same.1 in
          omega (arith, at_v, at_w, at_x', at_y', first, second, l, m, c, ua, ub, sa, sb)
      go (inr (inl h)) (inr (inr k)) c =
          let z = h.1 in
          let none = k.1 in
          absurd (omega (arith, z, none, equal, at_v))
      go (inr (inr h)) k c = let none = h.1 in absurd (omega (arith, none, some))

-- ---- the functions' goals

-- a walk that began a term
pub begin_left : (s : Store) (ts : List StoredTerm) (w : Walk) (d : StoredTerm) (bytes : List ℕ) → w.begun < length ts
    → length w.rest ≡ 0 → bytes ≡ concat (chunks_of_term s (get_or ts w.begun d))
    → left_of s ts (record { begun = w.begun + 1; rest = bytes }) ≡ left_of s ts w
begin_left s ts w d bytes within none is =
    ap (λ (l : List ℕ). l ++ bytes_in s (drop (w.begun + 1) ts)) is
    ∙ sym (bytes_more s ts w.begun d within)
    ∙ sym (ap (λ (l : List ℕ). l ++ bytes_in s (drop w.begun ts)) (nil_from_length w.rest none))

module _ (s t : Store) (a b : List StoredTerm) (x y : Walk) (at : AreAtSame a b x y) where
  pub first_more : x.begun < length a
  first_more = slice_get_within a x.begun at.term at.first

  pub second_more : y.begun < length b
  second_more = slice_get_within b y.begun at.term at.second

  pub pass_term : XorbsAgree s t → All (IsTermIn s) a → All (IsTermIn t) b
      → PassSame (left_of s a x) (left_of s a (record x { begun = x.begun + 1 })) (left_of t b y)
      (left_of t b (record y { begun = y.begun + 1 }))
  pass_term agree in_s in_t =
      let u = at.term in
      let here : IsTermIn s u = subst (IsTermIn s) (get_or_from_slice_get a x.begun u u at.first) (in_s x.begun u first_more) in
      let there : IsTermIn t u = subst (IsTermIn t) (get_or_from_slice_get b y.begun u u at.second) (in_t y.begun u second_more) in
      record {
        passed = concat (chunks_of_term s u);
        first_is = left_term s a x u at.first at.first_rest;
        second_is =
            left_term t b y u at.second at.second_rest
            ∙ sym (ap (λ (cs : List (List ℕ)). concat cs ++ left_of t b (record y { begun = y.begun + 1 })) (same_term s t agree u here there));
      }

-- both walks were to begin a term, and passed bytes
pub pass_rests : (s t : Store) (a b : List StoredTerm) (x y v w x' y' : Walk) → left_of s a v ≡ left_of s a x
    → left_of t b w ≡ left_of t b y → (x'.begun ≡ v.begun) × (y'.begun ≡ w.begun)
    → PassSame v.rest x'.rest w.rest y'.rest
    → PassSame (left_of s a x) (left_of s a x') (left_of t b y) (left_of t b y')
pass_rests s t a b x y v w x' y' e f same p =
    let q = pass_before v.rest x'.rest w.rest y'.rest (bytes_in s (drop v.begun a)) (bytes_in t (drop w.begun b)) p in
    record {
      passed = q.passed;
      first_is = sym e ∙ q.first_is ∙ ap (λ (n : ℕ). q.passed ++ (x'.rest ++ bytes_in s (drop n a))) (sym same.0);
      second_is = sym f ∙ q.second_is ∙ ap (λ (n : ℕ). q.passed ++ (y'.rest ++ bytes_in t (drop n b))) (sym same.1);
    }
