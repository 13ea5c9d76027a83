-- Marks on chunks, and the ranges of the marked ones.
use Rattle.std.proofs.Common.{◌≡◌, ℕ, zero, suc, ◌+◌, ◌-◌, ◌≤◌, ◌<◌, Bool, true, false, cond, ◌||◌, ◌&&◌, List, [], ◌∷◌, ◌++◌, length, take, drop, get_or, set, reverse, min, max, inl, inr, refl, sym, ◌∙◌, ap, arith}
use Rattle.std.specs.Prelude.{◌^◌, filter, nat_le, nat_lt, replicate}
use Rattle.std.specs.List.{range_with_len}
use Rattle.std.proofs.lemmas.Bool.{cases_lt, le-leb, le-ltb, lt-leb, lt-ltb, eq-eqb}
use Rattle.std.proofs.lemmas.List.{get_or-set_same, take_more, take_all, reverse-append, length-set, take-set-le, get_or_default}
use Rattle.std.proofs.lemmas.List.{take-append-le, get_or_append_left, get_or-append_right, get_or-take, get_or-drop}
use Rattle.std.proofs.lemmas.List.{get_or-replicate, length-take, length-drop, length-replicate}
use Rattle.xet_base.specs.declared.cas_types.ChunkRange.{ChunkRange}
use Rattle.xet_outside.specs.Plan.{with_number, ranges_of}
use Rattle.xet_store.specs.steps.Marks.{AreMarked, IsMarkedWithin}

-- the number lies from a on and before b
abbrev pub between : ℕ → ℕ → ℕ → Bool
between a b k = nat_le a k && nat_lt k b

-- ---- ranges, kept backwards

last_split : {X : Type 0} (xs : List X) (n : ℕ) (d : X) → n + 1 ≡ length xs → xs ≡ take n xs ++ get_or xs n d ∷ []
last_split {X} xs n d e = sym (take_all (n + 1) xs (omega arith)) ∙ take_more xs n d (omega arith)

reverse_split : {X : Type 0} (xs : List X) (n : ℕ) (d : X) → n + 1 ≡ length xs
    → reverse xs ≡ get_or xs n d ∷ reverse (take n xs)
reverse_split {X} xs n d e = ap reverse (last_split xs n d e) ∙ reverse-append (take n xs) (get_or xs n d ∷ [])

-- a number that adjoins the range that stands last
pub before_joined : (xs : List ChunkRange) (n k : ℕ) (r s : ChunkRange) → 0 < length xs → n ≡ length xs
    → r ≡ get_or xs (n - 1) r → s ≡ get_or xs (n - 1) s → r.start ≡ k + 1
    → reverse (set xs (n - 1) (record { start = k; end = s.end })) ≡ with_number k (reverse xs)
before_joined xs n k r s some e f g joins =
    let l : (n - 1) + 1 ≡ length xs = omega arith in
    let new : ChunkRange = record { start = k; end = s.end } in
    let a = reverse_split (set xs (n - 1) new) (n - 1) s (l ∙ sym (length-set xs (n - 1) new)) in
    let b = get_or-set_same xs (n - 1) new s (omega arith) in
    let c = take-set-le (n - 1) xs (n - 1) new (omega arith) in
    let d = reverse_split xs (n - 1) s l in
    let h : get_or xs (n - 1) s ≡ s = sym g in
    let i : r ≡ s = f ∙ get_or_default xs (n - 1) r s (omega arith) ∙ h in
    let j : s.start ≡ suc k = omega (arith, ap (λ (x : ChunkRange). x.start) i) in
    a ∙ ap (λ (x : ChunkRange). x ∷ reverse (take (n - 1) (set xs (n - 1) new))) b
    ∙ ap (λ (ys : List ChunkRange). new ∷ reverse ys) c
    ∙ sym (ap (λ (ys : List ChunkRange). with_number k ys) (d
    ∙ ap (λ (x : ChunkRange). x ∷ reverse (take (n - 1) xs)) h)
    ∙ ap (λ b. cond b (new ∷ reverse (take (n - 1) xs)) (record {
      start = k;
      end = suc k;
    } ∷ s ∷ reverse (take (n - 1) xs))) (eq-eqb s.start (suc k) j))

-- one marked chunk more, from the last one on down
pub marked_before : (ms : List Bool) (k : ℕ) (b : Bool) (out more : List ChunkRange) → 0 < k → k ≤ length ms → b ≡ true
    → b ≡ get_or ms (k - 1) b → more ≡ with_number (k - 1) out
    → out ≡ ranges_of (filter (λ j. get_or ms j false) (range_with_len k (length ms - k)))
    → more ≡ ranges_of (filter (λ j. get_or ms j false) (range_with_len (k - 1) (length ms - (k - 1))))
marked_before ms k b out more some h marked at e f =
    let p : ℕ → Bool = λ j. get_or ms j false in
    let n : length ms - (k - 1) ≡ suc (length ms - k) = omega arith in
    let m : (k - 1) + 1 ≡ k = omega arith in
    let here : p (k - 1) ≡ true = get_or_default ms (k - 1) false b (omega arith) ∙ sym at ∙ marked in
    e ∙ ap (λ (rs : List ChunkRange). with_number (k - 1) rs) (f
    ∙ ap (λ (i : ℕ). ranges_of (filter p (range_with_len i (length ms - k)))) (sym m))
    ∙ sym (ap (λ (i : ℕ). ranges_of (filter p (range_with_len (k - 1) i))) n
    ∙ ap (λ b. ranges_of (cond b ((k - 1) ∷ filter p (range_with_len ((k - 1) + 1) (length ms - k))) (filter p
    (range_with_len ((k - 1) + 1) (length ms - k))))) here)

-- ---- the chunks before and after the marked ones

between_before : (a b k : ℕ) → k < min a b → between a b k ≡ false
between_before a b k h = ap (λ (c : Bool). c && nat_lt k b) (lt-leb a k (omega (arith, h)))

and_false : (c : Bool) → (c && false) ≡ false
and_false true = refl
and_false false = refl

between_after : (a b k : ℕ) → b ≤ k → between a b k ≡ false
between_after a b k h = ap (λ (c : Bool). nat_le a k && c) (le-ltb k b h) ∙ and_false (nat_le a k)

or_false : (c d : Bool) → c ≡ false → d ≡ false → (c || d) ≡ false
or_false c d e f = ap (λ (x : Bool). x || d) e ∙ f

-- the marks of one range
first_within : (ms : List Bool) (a b n : ℕ) → length ms ≡ n → b ≤ n
    → ((k : ℕ) → get_or ms k false ≡ between a b k) → IsMarkedWithin (min a b) b ms
first_within ms a b n e h is = record {
  order = omega arith;
  inside = omega (arith, e, h);
  before = λ k l. is k ∙ between_before a b k l;
  after = λ k l. is k ∙ between_after a b k l;
}

-- one range more
pub more_within : (ms ns : List Bool) (low high a b : ℕ) → length ns ≡ length ms → b ≤ length ms
    → ((k : ℕ) → get_or ns k false ≡ (get_or ms k false || between a b k)) → IsMarkedWithin low high ms
    → IsMarkedWithin (min low a) (max high b) ns
more_within ms ns low high a b e h is w = record {
  order = let o = w.order in omega (arith, o);
  inside = let i = w.inside in omega (arith, e, h, i);
  before = λ k l. is k
      ∙ or_false (get_or ms k false) (between a b k) (w.before k (omega (arith, l))) (early k (omega (arith, l)));
  after = λ k l. is k
      ∙ or_false (get_or ms k false) (between a b k) (w.after k (omega (arith, l))) (between_after a b k (omega (
        arith,
        l,
      )));
}
  where
    early : (k : ℕ) → k < a → between a b k ≡ false
    early k l = ap (λ (c : Bool). c && nat_lt k b) (lt-leb a k l)

-- of chunks that are not marked none is listed
pub none_marked : (ms : List Bool) (from n : ℕ) → ((k : ℕ) → from ≤ k → get_or ms k false ≡ false)
    → filter (λ j. get_or ms j false) (range_with_len from n) ≡ []
none_marked ms from zero h = refl
none_marked ms from (suc n) h =
    let rest = filter (λ j. get_or ms j false) (range_with_len (from + 1) n) in
    ap (λ b. cond b (from ∷ rest) rest) (h from (omega arith))
    ∙ none_marked ms (from + 1) n (λ k l. h k (omega (arith, l)))

-- the chunks before the first marked one change no list
pub none_before : (ms : List Bool) (low : ℕ) → low ≤ length ms → ((k : ℕ) → k < low → get_or ms k false ≡ false)
    → filter (λ j. get_or ms j false) (range_with_len low (length ms - low))
    ≡ filter (λ j. get_or ms j false) (range_with_len 0 (length ms))
none_before ms zero h is = ap (λ (n : ℕ). filter (λ j. get_or ms j false) (range_with_len 0 n)) (omega arith)
none_before ms (suc l) h is =
    let p : ℕ → Bool = λ j. get_or ms j false in
    let n : length ms - l ≡ suc (length ms - suc l) = omega (arith, h) in
    let m : l + 1 ≡ suc l = omega arith in
    let rest = filter p (range_with_len (l + 1) (length ms - suc l)) in
    let step : filter p (range_with_len l (length ms - l)) ≡ rest =
    ap (λ (i : ℕ). filter p (range_with_len l i)) n ∙ ap (λ b. cond b (l ∷ rest) rest) (is l (omega arith)) in
    ap (λ (i : ℕ). filter p (range_with_len i (length ms - suc l))) (sym m) ∙ sym step
    ∙ none_before ms l (omega (arith, h)) (λ k a. is k (omega (arith, a)))

-- ---- chunks that are all marked

and_true : (b c : Bool) → b ≡ true → c ≡ true → (b && c) ≡ true
and_true b c e f = ap (λ (x : Bool). x && c) e ∙ f

between_inside : (a b k : ℕ) → a ≤ k → k < b → between a b k ≡ true
between_inside a b k h i = and_true (nat_le a k) (nat_lt k b) (le-leb a k h) (lt-ltb k b i)

or_true : (c d : Bool) → d ≡ true → (c || d) ≡ true
or_true true d e = refl
or_true false d e = e

-- the marks of one range
first_marked : (ms : List Bool) (a b : ℕ) → ((k : ℕ) → get_or ms k false ≡ between a b k)
    → AreMarked (min a b) b ms
first_marked ms a b is k low high = is k ∙ between_inside a b k (omega (arith, low, high)) high

-- one range more, which overlaps or adjoins those before it
pub more_marked : (ms ns : List Bool) (low high a b : ℕ)
    → ((k : ℕ) → get_or ns k false ≡ (get_or ms k false || between a b k)) → AreMarked low high ms
    → a ≤ high → low ≤ b → AreMarked (min low a) (max high b) ns
more_marked ms ns low high a b is all i j k l h = is k ∙ elim (cases_lt k low) [
  | inl early ↦ or_true (get_or ms k false) (between a b k)
      (between_inside a b k (omega (arith, l, early)) (omega (arith, early, j)))
  | inr from ↦ elim (cases_lt k high) [
    | inl within ↦ ap (λ (c : Bool). c || between a b k) (all k from within)
    | inr late ↦ or_true (get_or ms k false) (between a b k)
        (between_inside a b k (omega (arith, late, i)) (omega (arith, h, late)))
  ]
]

-- a marked chunk goes before the ranges of those after it
marked_first : (ms : List Bool) (low : ℕ) → low < length ms → get_or ms low false ≡ true
    → ranges_of (filter (λ j. get_or ms j false) (range_with_len low (length ms - low)))
    ≡ with_number low (ranges_of (filter (λ j. get_or ms j false) (range_with_len (low + 1) (length ms - (low + 1)))))
marked_first ms low h is =
    let p : ℕ → Bool = λ j. get_or ms j false in
    let n : length ms - low ≡ suc (length ms - (low + 1)) = omega (arith, h) in
    let rest = filter p (range_with_len (low + 1) (length ms - (low + 1))) in
    ap (λ (i : ℕ). ranges_of (filter p (range_with_len low i))) n ∙ ap (λ b. ranges_of (cond b (low ∷ rest) rest)) is

-- chunks that are all marked are one range
one_range : (ms : List Bool) (m low : ℕ) → low + suc m ≤ length ms → AreMarked low (low + suc m) ms
    → ((k : ℕ) → low + suc m ≤ k → get_or ms k false ≡ false)
    → ranges_of (filter (λ j. get_or ms j false) (range_with_len low (length ms - low)))
    ≡ record { start = low; end = low + suc m } ∷ []
one_range ms zero low h is out =
    let e : suc low ≡ low + 1 = omega arith in
    marked_first ms low (omega (arith, h)) (is low (omega arith) (omega arith))
    ∙ ap (λ (ks : List ℕ). with_number low (ranges_of ks))
    (none_marked ms (low + 1) (length ms - (low + 1)) (λ k l. out k (omega (arith, l))))
    ∙ ap (λ (n : ℕ). record { start = low; end = n } ∷ []) e
one_range ms (suc m) low h is out =
    let s : ChunkRange = record { start = low + 1; end = low + 1 + suc m } in
    let next = one_range ms m (low + 1) (omega (arith, h)) (λ k a b. is k (omega (arith, a)) (omega (arith, b)))
    (λ k a. out k (omega (arith, a))) in
    let e : low + 1 + suc m ≡ low + suc (suc m) = omega arith in
    marked_first ms low (omega (arith, h)) (is low (omega arith) (omega arith))
    ∙ ap (λ (rs : List ChunkRange). with_number low rs) next
    ∙ ap (λ b. cond b (record { start = low; end = s.end } ∷ []) (record { start = low; end = suc low } ∷ s ∷ []))
    (eq-eqb (low + 1) (suc low) (omega arith))
    ∙ ap (λ (n : ℕ). record { start = low; end = n } ∷ []) e

-- the ranges of all marks, where those between the first and the last one are marked
pub whole_ranges : (ms : List Bool) (low high : ℕ) → IsMarkedWithin low high ms → AreMarked low high ms → low < high
    → record { start = low; end = high } ∷ []
    ≡ ranges_of (filter (λ j. get_or ms j false) (range_with_len 0 (length ms)))
whole_ranges ms low high w is some =
    let order = w.order in
    let inside = w.inside in
    let m : ℕ = high - (low + 1) in
    let e : low + suc m ≡ high = omega (arith, some) in
    let one = one_range ms m low (omega (arith, e, inside)) (λ k a b. is k a (omega (arith, b, e)))
    (λ k a. w.after k (omega (arith, a, e))) in
    ap (λ (n : ℕ). record { start = low; end = n } ∷ []) (sym e) ∙ sym one
    ∙ ap ranges_of (none_before ms low (omega (arith, order, inside)) w.before)

-- no ranges, where no chunk is marked
pub no_ranges : (ms : List Bool) (low high : ℕ) → IsMarkedWithin low high ms → high ≤ low
    → [] ≡ ranges_of (filter (λ j. get_or ms j false) (range_with_len 0 (length ms)))
no_ranges ms low high w h =
    let order = w.order in
    let inside = w.inside in
    ap ranges_of (sym (none_marked ms low (length ms - low) (λ k l. w.after k (omega (arith, l, h))))
    ∙ none_before ms low (omega (arith, order, inside)) w.before)

-- ---- what a list of marks is after a change

-- a vector's items after its slice was written as a whole
pub refilled : (n : ℕ) (ms ns : List Bool) → n ≡ length ms → length ns ≡ length ms
    → take n (ns ++ drop (length ns) ms) ≡ ns
refilled n ms ns e f =
    take-append-le n ns (drop (length ns) ms) (omega (arith, e, f)) ∙ take_all n ns (omega (arith, e, f))

unmarked : (n k : ℕ) → get_or (replicate n false) k false ≡ false
unmarked zero k = refl
unmarked (suc n) zero = refl
unmarked (suc n) (suc k) = unmarked n k

-- the marks of a range, where no chunk was marked
pub range_alone : (ms ns : List Bool) (n a b : ℕ) → ms ≡ replicate n false
    → ((k : ℕ) → get_or ns k false ≡ (get_or ms k false || between a b k))
    → (k : ℕ) → get_or ns k false ≡ between a b k
range_alone ms ns n a b e is k =
    is k ∙ ap (λ (xs : List Bool). get_or xs k false || between a b k) e
    ∙ ap (λ (c : Bool). c || between a b k) (unmarked n k)

-- the marks of one range, and the numbers that a xorb's marks keep
pub first_kept : (ms : List Bool) (a b n : ℕ) → length ms ≡ n → n < 2 ^ 32 → b ≤ n
    → ((k : ℕ) → get_or ms k false ≡ between a b k)
    → (length ms < 2 ^ 32) × IsMarkedWithin (min a b) b ms × (true ≡ true → AreMarked (min a b) b ms)
first_kept ms a b n e short h is =
    (omega (arith, e, short), first_within ms a b n e h is, λ t. first_marked ms a b is)

or_no : (c d : Bool) → d ≡ false → (c || d) ≡ c
or_no true d e = refl
or_no false d e = e

-- an empty range marks nothing
pub no_range : (ms : List Bool) (a b : ℕ) → b ≤ a → (k : ℕ) → get_or ms k false ≡ (get_or ms k false || between a b k)
no_range ms a b h k = sym (or_no (get_or ms k false) (between a b k) (elim (cases_lt k a) [
  | inl early ↦ ap (λ (c : Bool). c && nat_lt k b) (lt-leb a k early)
  | inr from ↦ between_after a b k (omega arith)
]))

-- a range that is filled is marked
pub filled : (ms part : List Bool) (a b : ℕ) → a < b → b ≤ length ms
    → part ≡ replicate (length (take (b - a) (drop a ms))) true
    → (k : ℕ) → get_or (take a ms ++ (part ++ drop (b - a) (drop a ms))) k false ≡ (get_or ms k false || between a b k)
filled ms part a b h inside e k =
    let rest = drop (b - a) (drop a ms) in
    let n : length (take (b - a) (drop a ms)) ≡ b - a =
    omega (arith, inside, length-take (b - a) (drop a ms), length-drop a ms) in
    let p : part ≡ replicate (b - a) true = e ∙ ap (λ (m : ℕ). replicate m true) n in
    let l : length part ≡ b - a = ap length p ∙ length-replicate (b - a) true in
    let f : length (take a ms) ≡ a = omega (arith, h, inside, length-take a ms) in
    elim (cases_lt k a) [
      | inl early ↦ get_or_append_left (take a ms) (part ++ rest) false k (omega (arith, f, early))
          ∙ get_or-take a ms k false early
          ∙ sym (or_no (get_or ms k false) (between a b k) (ap (λ (c : Bool). c && nat_lt k b) (lt-leb a k early)))
      | inr from ↦ get_or-append_right (take a ms) (part ++ rest) a k false f from ∙ elim (cases_lt k b) [
        | inl within ↦ get_or_append_left part rest false (k - a) (omega (arith, l, from, within))
            ∙ ap (λ (xs : List Bool). get_or xs (k - a) false) p
            ∙ get_or-replicate (b - a) (k - a) true false (omega (arith, from, within))
            ∙ sym (or_true (get_or ms k false) (between a b k) (between_inside a b k from within))
        | inr late ↦ get_or-append_right part rest (b - a) (k - a) false l (omega (arith, late))
            ∙ get_or-drop (b - a) (drop a ms) ((k - a) - (b - a)) false
            ∙ get_or-drop a ms ((b - a) + ((k - a) - (b - a))) false
            ∙ ap (λ (j : ℕ). get_or ms j false) (omega (arith, h, late))
            ∙ sym (or_no (get_or ms k false) (between a b k) (between_after a b k late))
      ]
    ]
