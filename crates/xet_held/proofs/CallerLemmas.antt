-- Elements that pass a test of their numbers, and their new numbers.
use Rattle.std.proofs.Common.{◌≡◌, ℕ, zero, suc, ◌+◌, ◌-◌, ◌<◌, ◌≤◌, Bool, true, false, cond, not, List, [], ◌∷◌, ◌++◌, length, map, take, drop, refl, sym, ◌∙◌, ap, subst, arith, All}
use Rattle.std.specs.Prelude.{filter, slice_range, count_by}
use Rattle.std.specs.List.{concat, enumerate_from, range_with_len}
use Rattle.std.proofs.lemmas.Bool.{cond-true}
use Rattle.std.proofs.lemmas.List.{take-append-drop, length-append, length-take-le, length-drop, drop_at, take_at}
use Rattle.std.proofs.lemmas.List.Elements.{All-cons, All-head, All-nil, All-same, All-tail}
use Rattle.std.proofs.lemmas.List.Sums.{sum_by-cons}

-- 1 where a test passes
abbrev pub one_if : Bool → ℕ
one_if b = cond b 1 0

module _ (p : ℕ → Bool) where
  -- how many of these numbers pass
  abbrev pub passed : ℕ → ℕ → ℕ
  passed n m = count_by p (range_with_len n m)

  pub passed-suc : (n m : ℕ) → passed n (suc m) ≡ cond (p n) 1 0 + passed (n + 1) m
  passed-suc n m = sum_by-cons (λ k. cond (p k) 1 0) n (range_with_len (n + 1) m)

  pub passed-split : (n a b : ℕ) → passed n (a + b) ≡ passed n a + passed (n + a) b
  passed-split n zero b =
      let e : zero + b ≡ b = omega arith in
      let f : n ≡ n + zero = omega arith in
      let g : passed n (zero + b) ≡ passed (n + zero) b = ap (λ (m : ℕ). passed n m) e ∙ ap (λ (m : ℕ). passed m b) f in
      let h : passed n zero ≡ 0 = refl in
      omega (arith, g, h)
  passed-split n (suc a) b =
      let e : suc a + b ≡ suc (a + b) = omega arith in
      let f : n + 1 + a ≡ n + suc a = omega arith in
      let g : passed n (suc a + b) ≡ cond (p n) 1 0 + passed (n + 1) (a + b) = ap (λ (m : ℕ). passed n m) e
      ∙ passed-suc n (a + b) in
      let h = passed-split (n + 1) a b in
      let k : passed (n + 1 + a) b ≡ passed (n + suc a) b = ap (λ (m : ℕ). passed m b) f in
      let l = passed-suc n a in
      omega (arith, g, h, k, l)

  -- where all pass
  pub passed_all : (n m : ℕ) → ((k : ℕ) → n ≤ k → k < n + m → p k ≡ true) → passed n m ≡ m
  passed_all n zero h = refl
  passed_all n (suc m) h =
      let here : p n ≡ true = h n (omega arith) (omega arith) in
      let one : one_if (p n) ≡ 1 = ap one_if here in
      let more = passed_all (n + 1) m (λ k low high. h k (omega arith) (omega arith)) in
      let step = passed-suc n m in
      omega (arith, one, more, step)

  -- where none does
  pub passed_none : (n m : ℕ) → ((k : ℕ) → n ≤ k → k < n + m → p k ≡ false) → passed n m ≡ 0
  passed_none n zero h = refl
  passed_none n (suc m) h =
      let here : p n ≡ false = h n (omega arith) (omega arith) in
      let none : one_if (p n) ≡ 0 = ap one_if here in
      let more = passed_none (n + 1) m (λ k low high. h k (omega arith) (omega arith)) in
      let step = passed-suc n m in
      omega (arith, none, more, step)

  pub passed-le : (n m : ℕ) → passed n m ≤ m
  passed-le n zero = let e : passed n zero ≡ 0 = refl in omega (arith, e)
  passed-le n (suc m) =
      let step = passed-suc n m in
      let more = passed-le (n + 1) m in
      let one = at_most_one (p n) in
      omega (arith, step, more, one)
    where
      at_most_one : (b : Bool) → cond b 1 0 ≤ 1
      at_most_one true = omega arith
      at_most_one false = omega arith

  -- one number more
  pub passed_more : (n m k : ℕ) → n + m ≡ k → passed n (m + 1) ≡ passed n m + cond (p k) 1 0
  passed_more n m k e =
      let split = passed-split n m 1 in
      let one = passed-suc (n + m) 0 in
      let none : passed (n + m + 1) 0 ≡ 0 = refl in
      let same : one_if (p (n + m)) ≡ one_if (p k) = ap (λ (j : ℕ). one_if (p j)) e in
      omega (arith, split, one, none, same)

  module _ {A : Type 0} where
    -- the elements that pass, where the first one's number is n
    abbrev pub kept : ℕ → List A → List A
    kept n xs = map (λ (q : ℕ × A). q.1) (filter (λ (q : ℕ × A). p q.0) (enumerate_from n xs))

    pub kept-cons : (n : ℕ) (x : A) (xs : List A) → kept n (x ∷ xs) ≡ cond (p n) (x ∷ kept (n + 1) xs) (kept (n + 1) xs)
    kept-cons n x xs = go (p n)
      where
        go : (b : Bool) → map (λ (q : ℕ × A). q.1) (cond b ((n, x) ∷ filter (λ (q : ℕ × A). p q.0) (enumerate_from (n + 1) xs)) (filter (λ (q : ℕ × A). p q.0) (enumerate_from (n + 1) xs)))
            ≡ cond b (x ∷ kept (n + 1) xs) (kept (n + 1) xs)
        go true = refl
        go false = refl

    pub kept-append : (n : ℕ) (xs ys : List A) → kept n (xs ++ ys) ≡ kept n xs ++ kept (n + length xs) ys
    kept-append n [] ys = let e : n ≡ n + 0 = omega arith in ap (λ (m : ℕ). kept m ys) e
    kept-append n (x ∷ xs) ys =
        kept-cons n x (xs ++ ys) ∙ go (p n) (kept-append (n + 1) xs ys)
        ∙ sym (ap (λ (l : List A). l ++ kept (n + suc (length xs)) ys) (kept-cons n x xs))
      where
        go : (b : Bool) → kept (n + 1) (xs ++ ys) ≡ kept (n + 1) xs ++ kept (n + 1 + length xs) ys
            → cond b (x ∷ kept (n + 1) (xs ++ ys)) (kept (n + 1) (xs ++ ys))
            ≡ cond b (x ∷ kept (n + 1) xs) (kept (n + 1) xs) ++ kept (n + suc (length xs)) ys
        go true e =
            let s : n + 1 + length xs ≡ n + suc (length xs) = omega arith in
            ap (λ (l : List A). x ∷ l) (e ∙ ap (λ (m : ℕ). kept (n + 1) xs ++ kept m ys) s)
        go false e =
            let s : n + 1 + length xs ≡ n + suc (length xs) = omega arith in
            e ∙ ap (λ (m : ℕ). kept (n + 1) xs ++ kept m ys) s

    pub length-kept : (n : ℕ) (xs : List A) → length (kept n xs) ≡ passed n (length xs)
    length-kept n [] = refl
    length-kept n (x ∷ xs) =
        ap length (kept-cons n x xs) ∙ go (p n) (length-kept (n + 1) xs) ∙ sym (passed-suc n (length xs))
      where
        go : (b : Bool) → length (kept (n + 1) xs) ≡ passed (n + 1) (length xs)
            → length (cond b (x ∷ kept (n + 1) xs) (kept (n + 1) xs)) ≡ cond b 1 0 + passed (n + 1) (length xs)
        go true e = omega (arith, e)
        go false e = omega (arith, e)

    -- where all pass
    pub kept_all : (n : ℕ) (xs : List A) → ((k : ℕ) → n ≤ k → k < n + length xs → p k ≡ true) → kept n xs ≡ xs
    kept_all n [] h = refl
    kept_all n (x ∷ xs) h =
        kept-cons n x xs ∙ cond-true (p n) (x ∷ kept (n + 1) xs) (kept (n + 1) xs) (h n (omega arith) (omega arith))
        ∙ ap (λ (l : List A). x ∷ l) (kept_all (n + 1) xs (λ k low high. h k (omega arith) (omega arith)))

    -- elements that all pass stand from the new number of the first on to before that of the one behind them
    pub kept_between : (xs : List A) (a b : ℕ) → a ≤ b → b ≤ length xs → ((k : ℕ) → a ≤ k → k < b → p k ≡ true)
        → slice_range (kept 0 xs) (passed 0 a) (passed 0 b) ≡ slice_range xs a b
    kept_between xs a b order within held =
        let rest_long = length-drop a xs in
        let front_long : length (take a xs) ≡ a = length-take-le a xs (omega arith) in
        let mid_long : length (take (b - a) (drop a xs)) ≡ b - a = length-take-le (b - a) (drop a xs)
        (omega (arith, rest_long)) in
        let sum : a + (b - a) ≡ b = omega arith in
        let at_b : passed 0 b ≡ passed 0 a + passed (0 + a) (b - a) = ap (λ (m : ℕ). passed 0 m) (sym sum)
        ∙ passed-split 0 a (b - a) in
        let all : passed (0 + a) (b - a) ≡ b - a = passed_all (0 + a) (b - a) (λ k low high.
        held k (omega arith) (omega arith)) in
        let front_kept : length (kept 0 (take a xs)) ≡ passed 0 a = length-kept 0 (take a xs)
        ∙ ap (λ (m : ℕ). passed 0 m) front_long in
        let mid_kept : kept (0 + length (take a xs)) (take (b - a) (drop a xs)) ≡ take (b - a) (drop a xs) = kept_all
        (0 + length (take a xs)) (take (b - a) (drop a xs)) (λ k low high.
        held k (omega (arith, front_long)) (omega (arith, front_long, mid_long))) in
        let parts : take a xs ++ (take (b - a) (drop a xs) ++ drop (b - a) (drop a xs)) ≡ xs = ap
        (λ (l : List A). take a xs ++ l) (take-append-drop (b - a) (drop a xs)) ∙ take-append-drop a xs in
        let cut = ap (λ (l : List A). kept 0 l) (sym parts)
        ∙ kept-append 0 (take a xs) (take (b - a) (drop a xs) ++ drop (b - a) (drop a xs))
        ∙ ap (λ (l : List A). kept 0 (take a xs) ++ l) (kept-append (0 + length (take a xs)) (take (b - a) (drop a xs))
        (drop (b - a) (drop a xs)) ∙ ap (λ (l : List A). l ++ kept (0 + length (take a xs) + length
        (take (b - a) (drop a xs))) (drop (b - a) (drop a xs))) mid_kept) in
        let width : length (take (b - a) (drop a xs)) ≡ passed 0 b - passed 0 a = omega (arith, mid_long, at_b, all) in
        ap (λ (l : List A). take (passed 0 b - passed 0 a) (drop (passed 0 a) l)) cut
        ∙ ap (λ (l : List A). take (passed 0 b - passed 0 a) l) (drop_at (kept 0 (take a xs)) (take (b - a) (drop a xs)
        ++ kept (0 + length (take a xs) + length (take (b - a) (drop a xs))) (drop (b - a) (drop a xs))) (passed 0 a)
        front_kept)
        ∙ take_at (take (b - a) (drop a xs)) (kept (0 + length (take a xs) + length (take (b - a) (drop a xs)))
        (drop (b - a) (drop a xs))) (passed 0 b - passed 0 a) width

  -- a number that passes and has so many before it that pass
  pub record PassedAt (n m k : ℕ) : Type 0 where
    pub number : ℕ
    pub low : n ≤ number
    pub high : number < n + m
    pub passes : p number ≡ true
    pub before : passed n (number - n) ≡ k

  later : (n m k : ℕ) → PassedAt (n + 1) m k → PassedAt n (suc m) (cond (p n) 1 0 + k)
  later n m k at =
      let e : at.number - n ≡ suc (at.number - (n + 1)) = omega (arith, at.low) in
      let f : passed n (at.number - n) ≡ cond (p n) 1 0 + passed (n + 1) (at.number - (n + 1)) = ap
      (λ (j : ℕ). passed n j) e ∙ passed-suc n (at.number - (n + 1)) in
      record {
        number = at.number;
        low = omega (arith, at.low);
        high = omega (arith, at.high);
        passes = at.passes;
        before = omega (arith, f, at.before);
      }

  -- as many numbers pass as are counted
  pub passed_at : (n m k : ℕ) → k < passed n m → PassedAt n m k
  passed_at n zero k h = let e : passed n zero ≡ 0 = refl in absurd (omega (arith, e, h))
  passed_at n (suc m) k h = go (p n) refl k (omega (arith, h, passed-suc n m)) (λ j l. passed_at (n + 1) m j l)
    where
      go : (b : Bool) → p n ≡ b → (k : ℕ) → k < cond (p n) 1 0 + passed (n + 1) m
          → ((j : ℕ) → j < passed (n + 1) m → PassedAt (n + 1) m j) → PassedAt n (suc m) k
      go true e zero l next =
          let none : n - n ≡ 0 = omega arith in
          record {
            number = n;
            low = omega arith;
            high = omega arith;
            passes = e;
            before = ap (λ (j : ℕ). passed n j) none;
          }
      go true e (suc j) l next =
          let one : one_if (p n) ≡ 1 = ap one_if e in
          let sum : cond (p n) 1 0 + j ≡ suc j = omega (arith, one) in
          subst (λ (i : ℕ). PassedAt n (suc m) i) sum (later n m j (next j (omega (arith, l, one))))
      go false e j l next =
          let none : one_if (p n) ≡ 0 = ap one_if e in
          let sum : cond (p n) 1 0 + j ≡ j = omega (arith, none) in
          subst (λ (i : ℕ). PassedAt n (suc m) i) sum (later n m j (next j (omega (arith, l, none))))

-- ---- what else is so of what is kept

module _ (p : ℕ → Bool) {A : Type 0} where
  pub All-kept : (P : A → Type 0) (n : ℕ) (xs : List A) → All P xs → All P (kept p n xs)
  All-kept P n [] all = All-nil P
  All-kept P n (x ∷ xs) all =
      All-same P (kept p n (x ∷ xs)) (cond (p n) (x ∷ kept p (n + 1) xs) (kept p (n + 1) xs)) (kept-cons p n x xs)
      (go (p n) (All-kept P (n + 1) xs (All-tail P x xs all)))
    where
      go : (b : Bool) → All P (kept p (n + 1) xs) → All P (cond b (x ∷ kept p (n + 1) xs) (kept p (n + 1) xs))
      go true rest = All-cons P x (kept p (n + 1) xs) (All-head P x xs all) rest
      go false rest = rest

  -- as many as numbers pass
  pub count_numbered : (n : ℕ) (xs : List A) → count_by (λ (q : ℕ × A). p q.0) (enumerate_from n xs) ≡ passed p n (length xs)
  count_numbered n [] = refl
  count_numbered n (x ∷ xs) =
      sum_by-cons (λ (q : ℕ × A). cond (p q.0) 1 0) (n, x) (enumerate_from (n + 1) xs)
      ∙ ap (λ (m : ℕ). cond (p n) 1 0 + m) (count_numbered (n + 1) xs) ∙ sym (passed-suc p n (length xs))

module _ (p : ℕ → Bool) where
  pub concat_kept-le : (n : ℕ) (xs : List (List ℕ)) → length (concat (kept p n xs)) ≤ length (concat xs)
  concat_kept-le n [] = omega arith
  concat_kept-le n (x ∷ xs) =
      let e = ap (λ (l : List (List ℕ)). length (concat l)) (kept-cons p n x xs) in
      let long = length-append x (concat xs) in
      let less = go (p n) (concat_kept-le (n + 1) xs) in
      omega (arith, e, long, less)
    where
      go : (b : Bool) → length (concat (kept p (n + 1) xs)) ≤ length (concat xs)
          → length (concat (cond b (x ∷ kept p (n + 1) xs) (kept p (n + 1) xs))) ≤ length x + length (concat xs)
      go true h = let long = length-append x (concat (kept p (n + 1) xs)) in omega (arith, h, long)
      go false h = omega (arith, h)

  -- a number passes, or it doesn't
  pub passed-both : (n m : ℕ) → passed p n m + passed (λ k. not (p k)) n m ≡ m
  passed-both n zero = refl
  passed-both n (suc m) =
      let yes_step = passed-suc p n m in
      let no_step = passed-suc (λ k. not (p k)) n m in
      let more = passed-both (n + 1) m in
      let one = one_of (p n) in
      omega (arith, yes_step, no_step, more, one)
    where
      one_of : (b : Bool) → cond b 1 0 + cond (not b) 1 0 ≡ 1
      one_of true = refl
      one_of false = refl

-- tests that agree keep the same
pub kept_same : {A : Type 0} (p q : ℕ → Bool) (n : ℕ) (xs : List A) → ((k : ℕ) → n ≤ k → k < n + length xs → p k ≡ q k)
    → kept p n xs ≡ kept q n xs
kept_same p q n [] h = refl
kept_same {A} p q n (x ∷ xs) h =
    let here = h n (omega arith) (omega arith) in
    let more = kept_same p q (n + 1) xs (λ k low high. h k (omega (arith, low)) (omega (arith, high))) in
    kept-cons p n x xs ∙ (λ i. cond (here i) (x ∷ more i) (more i)) ∙ sym (kept-cons q n x xs)

pub passed_same : (p q : ℕ → Bool) (n m : ℕ) → ((k : ℕ) → n ≤ k → k < n + m → p k ≡ q k) → passed p n m ≡ passed q n m
passed_same p q n zero h = refl
passed_same p q n (suc m) h =
    let here = h n (omega arith) (omega arith) in
    let more = passed_same p q (n + 1) m (λ k low high. h k (omega (arith, low)) (omega (arith, high))) in
    passed-suc p n m ∙ (λ i. cond (here i) 1 0 + more i) ∙ sym (passed-suc q n m)
