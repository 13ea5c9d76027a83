-- A walk over a term's chunks by their numbers has the cut term.
use Rattle.std.proofs.Common.{◌≡◌, ℕ, zero, suc, ◌+◌, ◌-◌, ◌≤◌, ◌<◌, Bool, true, false, List, [], ◌∷◌, length, take, drop, min, max, get_or, refl, sym, ◌∙◌, ap, arith}
use Rattle.std.specs.Prelude.{sum, slice_range, count_by}
use Rattle.std.proofs.lemmas.Bool.{lt-ltb, le-ltb, le-leb, lt-leb}
use Rattle.std.proofs.lemmas.List.{length-map, length-take, length-drop, take_all, take-take, take-map}
use Rattle.std.proofs.lemmas.List.Sums.{sum_by-cons, sum_by_more, count_by_more_yes, count_by_more_no}
use Rattle.xet_base.specs.declared.cas_types.FileRange.{FileRange}
use Rattle.xet_base.specs.declared.stored.StoredTerm.{StoredTerm}
use Rattle.xet_base.specs.Lists.{placed}
use Rattle.xet_outside.specs.Plan.{touches, ends_before, lengths, cut_of}
use Rattle.xet_store.proofs.ChunkPlaces.{place_between}

-- what stands at a number of placed lengths
pub placed_at : (p : ℕ) (ns : List ℕ) (i : ℕ) (d : ℕ × ℕ) → i < length ns
    → get_or (placed p ns) i d ≡ (p + sum (take i ns), get_or ns i 0)
placed_at p [] i d h = absurd (omega arith)
placed_at p (n ∷ ns) zero d h = let e : p ≡ p + 0 = omega arith in ap (λ (m : ℕ). let x : ℕ × ℕ = (m, n) in x) e
placed_at p (n ∷ ns) (suc i) d h =
    let e : p + n + sum (take i ns) ≡ p + sum (n ∷ take i ns) = omega (arith, sum_by-cons (λ x. x) n (take i ns)) in
    placed_at (p + n) ns i d (omega arith) ∙ ap (λ (m : ℕ). let x : ℕ × ℕ = (m, get_or ns i 0) in x) e

pub length-placed : (p : ℕ) (ns : List ℕ) → length (placed p ns) ≡ length ns
length-placed p [] = refl
length-placed p (n ∷ ns) = ap suc (length-placed (p + n) ns)

-- a place among some of a xorb's chunks
pub place_in : (cs : List (List ℕ)) (a b k : ℕ) → a + k ≤ b → sum (take a (lengths cs)) + sum (take k (lengths
    (slice_range cs a b))) ≡ sum (take (a + k) (lengths cs))
place_in cs a b k h =
    let e = place_between cs a (a + k) (omega arith) in
    let m : (a + k) - a ≡ k = omega arith in
    let t1 : take ((a + k) - a) (drop a cs) ≡ take k (slice_range cs a b) =
    ap (λ (n : ℕ). take n (drop a cs)) m ∙ sym (take-take k (b - a) (drop a cs) (omega arith)) in
    let t2 : lengths (slice_range cs a (a + k)) ≡ take k (lengths (slice_range cs a b)) = ap lengths t1
    ∙ sym (take-map (λ (c : List ℕ). length c) k (slice_range cs a b)) in
    let t3 = ap sum t2 in
    omega (arith, e, t3)

-- the chunks of a term, each with its place and length
abbrev pub stood : List (List ℕ) → ℕ → StoredTerm → List (ℕ × ℕ)
stood cs p t = placed p (lengths (slice_range cs t.from t.to))

pub length-stood : (cs : List (List ℕ)) (p : ℕ) (t : StoredTerm) → t.from ≤ t.to → t.to ≤ length cs
    → length (stood cs p t) ≡ t.to - t.from
length-stood cs p t h i =
    length-placed p (lengths (slice_range cs t.from t.to)) ∙ length-map (slice_range cs t.from t.to) (λ c. length c)
    ∙ (let a = length-take (t.to - t.from) (drop t.from cs) in let b = length-drop t.from cs in omega (arith, a, b))

-- a walk up to a chunk: how many chunks end before the range, and how many it touches
pub record IsCutTo (cs : List (List ℕ)) (q : FileRange) (p : ℕ) (t : StoredTerm) (k first count : ℕ) : Type 0 where
  pub first_is : first ≡ t.from + count_by (ends_before q) (take (k - t.from) (stood cs p t))
  pub count_is : count ≡ count_by (touches q) (take (k - t.from) (stood cs p t))
  pub within : first + count ≤ k

-- what the walk knows of a chunk
pub record IsChunkAt (cs : List (List ℕ)) (p : ℕ) (t : StoredTerm) (k at end : ℕ) : Type 0 where
  pub low : t.from ≤ k
  pub high : k < t.to
  pub inside : t.to ≤ length cs
  pub at_is : at ≡ p + (sum (take k (lengths cs)) - sum (take t.from (lengths cs)))
  pub end_is : end ≡ p + (sum (take (k + 1) (lengths cs)) - sum (take t.from (lengths cs)))

chunk_is : (cs : List (List ℕ)) (p : ℕ) (t : StoredTerm) (k at end : ℕ) (d : ℕ × ℕ) → IsChunkAt cs p t k at end
    → (n : ℕ) × (get_or (stood cs p t) (k - t.from) d ≡ (at, n)) × (at + n ≡ end)
chunk_is cs p t k at end d c =
    let ns = lengths (slice_range cs t.from t.to) in
    let low : t.from ≤ k = c.low in
    let high : k < t.to = c.high in
    let inside : t.to ≤ length cs = c.inside in
    let a0 = c.at_is in
    let e0 = c.end_is in
    let many : k - t.from < length ns = omega (
      arith,
      length-map (slice_range cs t.from t.to) (λ c. length c),
      length-take (t.to - t.from) (drop t.from cs),
      length-drop t.from cs,
    ) in
    let one = place_in cs t.from t.to (k - t.from) (omega arith) in
    let two = place_in cs t.from t.to ((k - t.from) + 1) (omega arith) in
    let f : t.from + (k - t.from) ≡ k = omega arith in
    let g : t.from + ((k - t.from) + 1) ≡ k + 1 = omega arith in
    let s1 = ap (λ (m : ℕ). sum (take m (lengths cs))) f in
    let s2 = ap (λ (m : ℕ). sum (take m (lengths cs))) g in
    let more = sum_by_more (λ x. x) ns (k - t.from) 0 many in
    let here : p + sum (take (k - t.from) ns) ≡ at = omega (arith, one, s1, a0) in (
      get_or ns (k - t.from) 0,
      placed_at p ns (k - t.from) d many ∙ ap (λ (m : ℕ). let x : ℕ × ℕ = (m, get_or ns (k - t.from) 0) in x) here,
      omega (arith, one, two, s1, s2, more, a0, e0),
    )

pub cut_none : (cs : List (List ℕ)) (q : FileRange) (p : ℕ) (t : StoredTerm) → IsCutTo cs q p t t.from t.from 0
cut_none cs q p t =
    let z : t.from - t.from ≡ 0 = omega arith in
    let a : count_by (ends_before q) (take (t.from - t.from) (stood cs p t)) ≡ 0 = ap (λ (n : ℕ). count_by
    (ends_before q) (take n (stood cs p t))) z in
    record {
      first_is = omega (arith, a);
      count_is = sym (ap (λ (n : ℕ). count_by (touches q) (take n (stood cs p t))) z);
      within = omega arith;
    }

next_number : (k from : ℕ) → from ≤ k → (k - from) + 1 ≡ (k + 1) - from
next_number k from h = omega arith

-- a test's count with one chunk more
count_yes : (test : ℕ × ℕ → Bool) (cs : List (List ℕ)) (p : ℕ) (t : StoredTerm) (k at end : ℕ)
    → IsChunkAt cs p t k at end
    → ((n : ℕ) → at + n ≡ end → test (at, n) ≡ true)
    → count_by test (take ((k + 1) - t.from) (stood cs p t)) ≡ count_by test (take (k - t.from) (stood cs p t)) + 1
count_yes test cs p t k at end c says =
    let is = chunk_is cs p t k at end (0, 0) c in
    let low : t.from ≤ k = c.low in
    let high : k < t.to = c.high in
    let inside : t.to ≤ length cs = c.inside in
    let long : k - t.from < length (stood cs p t) = omega (arith, length-stood cs p t (omega arith) inside) in
    ap (λ (m : ℕ). count_by test (take m (stood cs p t))) (sym (next_number k t.from low))
    ∙ count_by_more_yes test (stood cs p t) (k - t.from) (0, 0) long (ap test is.1 ∙ says is.0 is.2)

count_no : (test : ℕ × ℕ → Bool) (cs : List (List ℕ)) (p : ℕ) (t : StoredTerm) (k at end : ℕ)
    → IsChunkAt cs p t k at end
    → ((n : ℕ) → at + n ≡ end → test (at, n) ≡ false)
    → count_by test (take ((k + 1) - t.from) (stood cs p t)) ≡ count_by test (take (k - t.from) (stood cs p t))
count_no test cs p t k at end c says =
    let is = chunk_is cs p t k at end (0, 0) c in
    let low : t.from ≤ k = c.low in
    let high : k < t.to = c.high in
    let inside : t.to ≤ length cs = c.inside in
    let long : k - t.from < length (stood cs p t) = omega (arith, length-stood cs p t (omega arith) inside) in
    ap (λ (m : ℕ). count_by test (take m (stood cs p t))) (sym (next_number k t.from low))
    ∙ count_by_more_no test (stood cs p t) (k - t.from) (0, 0) long (ap test is.1 ∙ says is.0 is.2)

-- a chunk more that ends before the range, that the range touches, or that it doesn't touch
pub cut_before : (cs : List (List ℕ)) (q : FileRange) (p : ℕ) (t : StoredTerm) (k first count at end : ℕ)
    → IsChunkAt cs p t k at end → IsCutTo cs q p t k first count
    → end ≤ q.start → IsCutTo cs q p t (k + 1) (first + 1) count
cut_before cs q p t k first count at end c w h =
    let f = w.first_is in let n = w.count_is in let i = w.within in
    let a = count_yes (ends_before q) cs p t k at end c (λ n e. le-leb (at + n) q.start (omega arith)) in
    let b = count_no (touches q) cs p t k at end c (λ n e. le-ltb (max at q.start) (min (at + n) q.end)
    (omega arith)) in
    record { first_is = omega (arith, f, a); count_is = n ∙ sym b; within = omega (arith, i) }

pub cut_touched : (cs : List (List ℕ)) (q : FileRange) (p : ℕ) (t : StoredTerm) (k first count at end : ℕ)
    → IsChunkAt cs p t k at end → IsCutTo cs q p t k first count
    → q.start < end → max at q.start < min end q.end → IsCutTo cs q p t (k + 1) first (count + 1)
cut_touched cs q p t k first count at end c w h l =
    let f = w.first_is in let n = w.count_is in let i = w.within in
    let a = count_no (ends_before q) cs p t k at end c (λ n e. lt-leb (at + n) q.start (omega arith)) in
    let b = count_yes (touches q) cs p t k at end c (λ n e. lt-ltb (max at q.start) (min (at + n) q.end)
    (omega arith)) in
    record {
      first_is = f ∙ ap (λ (m : ℕ). t.from + m) (sym a);
      count_is = omega (arith, n, b);
      within = omega (
        arith,
        i,
      );
    }

pub cut_after : (cs : List (List ℕ)) (q : FileRange) (p : ℕ) (t : StoredTerm) (k first count at end : ℕ)
    → IsChunkAt cs p t k at end → IsCutTo cs q p t k first count
    → q.start < end → min end q.end ≤ max at q.start → IsCutTo cs q p t (k + 1) first count
cut_after cs q p t k first count at end c w h l =
    let f = w.first_is in let n = w.count_is in let i = w.within in
    let a = count_no (ends_before q) cs p t k at end c (λ n e. lt-leb (at + n) q.start (omega arith)) in
    let b = count_no (touches q) cs p t k at end c (λ n e. le-ltb (max at q.start) (min (at + n) q.end)
    (omega arith)) in
    record { first_is = f ∙ ap (λ (m : ℕ). t.from + m) (sym a); count_is = n ∙ sym b; within = omega (arith, i) }

-- the walk's end
pub cut_done : (cs : List (List ℕ)) (q : FileRange) (p : ℕ) (t : StoredTerm) (k first count size : ℕ)
    → IsCutTo cs q p t k first count → t.from ≤ t.to → k ≡ t.to → t.to ≤ length cs
    → size ≡ sum (take (first + count) (lengths cs)) - sum (take first (lengths cs))
    → record {
      xorb = t.xorb;
      unpacked_length = size;
      range = record {
        start = first;
        end = first + count;
      };
    } ≡ cut_of cs q p t
cut_done cs q p t k first count size w h e i z =
    let f = w.first_is in let n = w.count_is in
    let whole : take (k - t.from) (stood cs p t) ≡ stood cs p t = take_all (k - t.from) (stood cs p t) (omega (
      arith,
      length-stood cs p t h i,
    )) in
    let a : first ≡ t.from + count_by (ends_before q) (stood cs p t) = f
    ∙ ap (λ (xs : List (ℕ × ℕ)). t.from + count_by (ends_before q) xs) whole in
    let b : count ≡ count_by (touches q) (stood cs p t) = n ∙ ap (λ (xs : List (ℕ × ℕ)). count_by
    (touches q) xs) whole in
    let between = place_between cs first (first + count) (omega arith) in
    let c : size ≡ sum (lengths (slice_range cs first (first + count))) = omega (arith, between, z) in
    done first count size a b c
  where
    done : (first count size : ℕ) → first ≡ t.from + count_by (ends_before q) (stood cs p t)
        → count ≡ count_by (touches q) (stood cs p t) → size ≡ sum (lengths (slice_range cs first (first + count)))
        → record {
          xorb = t.xorb;
          unpacked_length = size;
          range = record {
            start = first;
            end = first + count;
          };
        } ≡ cut_of cs q p t
    done first count size a b c =
        let c' : size ≡ sum (lengths (slice_range cs (t.from + count_by (ends_before q) (stood cs p t))
        (t.from + count_by (ends_before q) (stood cs p t) + count_by (touches q) (stood cs p t)))) =
        c ∙ (λ j. sum (lengths (slice_range cs (a j) (a j + b j)))) in
        λ j. record { xorb = t.xorb; unpacked_length = c' j; range = record { start = a j; end = a j + b j } }
