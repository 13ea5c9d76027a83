-- An honest plan passes each test.
use Rattle.std.proofs.Common.{◌≡◌, ℕ, ◌+◌, ◌-◌, ◌^◌, ◌≤◌, ◌<◌, Bool, true, false, cond, List, [], ◌∷◌, length, take, refl, ◌∙◌, ap, arith, map, leb, ◌⊎◌, inl, inr, ⊎_elim}
use Rattle.std.specs.Prelude.{Some, None, Option, find, option_map, option_and_then, All, position, is_none, sum, nat_lt, nat_le}
use Rattle.std.specs.List.{flat_map, position_or_len, last_or}
use Rattle.std.proofs.lemmas.Bool.{le-ltb, lt-leb}
use Rattle.std.proofs.lemmas.List.{length-append}
use Rattle.std.proofs.lemmas.List.Sums.{sum_by-cons}
use Rattle.std.proofs.lemmas.List.Elements.{All-head, All-tail, All-nil, All-cons}
use Rattle.xet_base.specs.declared.merklehash.MerkleHash.{MerkleHash}
use Rattle.xet_base.specs.declared.cas_types.FileRange.{FileRange}
use Rattle.xet_base.specs.declared.cas_types.ChunkRange.{ChunkRange}
use Rattle.xet_base.specs.Hashes.{hash_eq}
use Rattle.xet_base.specs.Lists.{firsts, first_some}
use Rattle.xet_base.specs.Store.{Store, IsValid, chunks_of}
use Rattle.xet_outside.specs.declared.plan.PlanTerm.{PlanTerm}
use Rattle.xet_outside.specs.declared.plan.FetchRange.{FetchRange}
use Rattle.xet_outside.specs.Plan.{plan_of, plan_terms, plan_offset, plan_xorb, fetch_range, ranges_of, touched_numbers}
use Rattle.xet_base.specs.Ranges.{Ascend}
use Rattle.xet_outside.proofs.CallerLemmas.{FirstFits, IsPlanTerm, last_length, offset_fits, plan_terms_are, plan_within, term_bytes}
use Rattle.xet_error.specs.declared.error.Corruption.TheVariants.{Ranges, NoXorb, NoRange, Offset, Position, Trim}
use Rattle.xet_offers.specs.Blocks.{plan_xorb_of, block_of_term}
use Rattle.xet_offers.specs.PlanChecks.{sizes, sizes_from, ends, unordered, failed_ranges, ranges_test, no_xorb_test, no_range_test, offset_test, position_test, trim_test}
use Rattle.xet_blocks.specs.Laws.{HonestAccepted}
use Rattle.xet_blocks.proofs.HonestBlocks.{xorb_found, block_found, numbers_ascend}

-- where no element passes there is no first one
none_len : {X : Type 0} (p : X → Bool) (xs : List X) → All (λ x. p x ≡ false) xs → position_or_len p xs ≡ length xs
none_len p [] a = refl
none_len p (x ∷ xs) a = let next = none_len p xs (All-tail (λ x. p x ≡ false) x xs a) in rw (All-head (λ x. p x ≡ false) x xs a) (omega (arith, next))

position_none : {X : Type 0} (p : X → Bool) (xs : List X) → All (λ x. p x ≡ false) xs → position p xs ≡ None
position_none p xs a =
    let e = none_len p xs a in
    ap (λ b. cond b (Some (position_or_len p xs)) None) (le-ltb (position_or_len p xs) (length xs) (omega (arith, e)))

-- ---- test 1
ordered : (s : Store) (x : MerkleHash) (low high : ℕ) (rs : List ChunkRange) → Ascend low high rs → unordered low (map (fetch_range s x) rs) ≡ false
ordered s x low high [] a = refl
ordered s x low high (r ∷ rs) a =
    let l : low ≤ r.start = a.0 in let w : r.start < r.end = a.1 in
    rw (lt-leb r.end r.start w, le-ltb r.start low l) (ordered s x r.end high rs a.3)

passes_1 : (s : Store) (ts : List PlanTerm) (hs : List MerkleHash) → first_some (map failed_ranges (map (plan_xorb s ts) hs)) ≡ None
passes_1 s ts [] = refl
passes_1 s ts (x ∷ hs) =
    let e = ordered s x 0 (length (chunks_of s x)) (ranges_of (touched_numbers ts x (length (chunks_of s x)))) (numbers_ascend ts x (length (chunks_of s x))) in
    let entry : List FetchRange = map (fetch_range s x) (ranges_of (touched_numbers ts x (length (chunks_of s x)))) in
    let here : failed_ranges (plan_xorb s ts x) ≡ None = ap (λ (o : Option ℕ). option_map (λ i. Ranges x i) o)
    (position_none (λ (e : List FetchRange). unordered 0 e) (entry ∷ []) (All-cons (λ (e : List FetchRange). unordered 0 e ≡ false) entry [] e (All-nil (λ (e : List FetchRange). unordered 0 e ≡ false)))) in
    ap (λ o. first_some (o ∷ map failed_ranges (map (plan_xorb s ts) hs))) here ∙ passes_1 s ts hs

-- ---- test 5
sum-cons : (n : ℕ) (ns : List ℕ) → sum (n ∷ ns) ≡ n + sum ns
sum-cons n ns = sum_by-cons (λ x. x) n ns

ends_below : (b p : ℕ) (ns : List ℕ) → p + sum ns < b → All (λ e. leb b e ≡ false) (ends p ns)
ends_below b p [] h = All-nil (λ e. leb b e ≡ false)
ends_below b p (n ∷ ns) h =
    let e = sum-cons n ns in
    All-cons (λ e. leb b e ≡ false) (p + n) (ends (p + n) ns) (lt-leb b (p + n) (omega (arith, e))) (ends_below b (p + n) ns (omega (arith, e)))

sum_unpacked : (s : Store) (ts : List PlanTerm) → All (IsPlanTerm s) ts → sum (map (λ t. t.unpacked_length) ts) ≡ length (flat_map (term_bytes s) ts)
sum_unpacked s [] a = refl
sum_unpacked s (t ∷ ts) a =
    let h : t.unpacked_length ≡ length (term_bytes s t) = (All-head (IsPlanTerm s) t ts a).size in
    omega (arith, h, sum-cons t.unpacked_length (map (λ t. t.unpacked_length) ts), sum_unpacked s ts (All-tail (IsPlanTerm s) t ts a), length-append (term_bytes s t) (flat_map (term_bytes s) ts))

sum_sizes : (s : Store) (o : ℕ) (ts : List PlanTerm) → All (IsPlanTerm s) ts → FirstFits o ts → 0 < length ts → sum (sizes_from o ts) + o ≡ length (flat_map (term_bytes s) ts)
sum_sizes s o [] a f h = absurd (omega arith)
sum_sizes s o (t ∷ ts) a f h =
    let k : o ≤ t.unpacked_length = f in
    omega (arith, k, sum_unpacked s (t ∷ ts) a, sum-cons (t.unpacked_length - o) (map (λ t. t.unpacked_length) ts), sum-cons t.unpacked_length (map (λ t. t.unpacked_length) ts))

-- ---- test 6
last_or_map : (n : ℕ) (t : PlanTerm) (ts : List PlanTerm) → last_or (Some n) (map (λ t. t.unpacked_length) (t ∷ ts)) ≡ Some (last_length (t ∷ ts))
last_or_map n t [] = refl
last_or_map n t (u ∷ us) = last_or_map t.unpacked_length u us

-- the last size, and the last term's length
last_size : (o : ℕ) (t : PlanTerm) (ts : List PlanTerm) → (n : ℕ) × (last_or None (sizes_from o (t ∷ ts)) ≡ Some n) × ((n ≡ last_length (t ∷ ts)) ⊎ ((n ≡ t.unpacked_length - o) × (ts ≡ [])))
last_size o t [] = (t.unpacked_length - o, refl, inr (refl, refl))
last_size o t (u ∷ us) = (last_length (u ∷ us), last_or_map (t.unpacked_length - o) u us, inl refl)

-- where terms end, as `plan_within` says it
record EndsWithin (s : Store) (q : FileRange) (o : ℕ) (ts : List PlanTerm) : Type 0 where
  short : q.start + length (flat_map (term_bytes s) ts) < 2 ^ 64 + o
  last : q.start + length (flat_map (term_bytes s) ts) ≤ q.end + o + last_length ts
  forward : q.start < q.end

within : (s : Store) → IsValid s → (f : MerkleHash) (q : FileRange) → 0 < length (plan_terms s f q) → EndsWithin s q (plan_offset s f q) (plan_terms s f q)
within s v f q h = let w = plan_within s v f q h in record { short = w.short; last = w.last; forward = w.forward }

-- ---- all

first_none : {A : Type 0} (a b c d e f : Option A) → a ≡ None → b ≡ None → c ≡ None → d ≡ None → e ≡ None → f ≡ None → first_some (a ∷ b ∷ c ∷ d ∷ e ∷ f ∷ []) ≡ None
first_none a b c d e f p1 p2 p3 p4 p5 p6 = rw (p1, p2, p3, p4, p5, p6)

pub honest_accepted : HonestAccepted
honest_accepted s v f q multi =
    let p = plan_of s f q in
    let ts = plan_terms s f q in
    first_none (ranges_test p multi) (no_xorb_test p) (no_range_test p multi) (offset_test p) (position_test p q) (trim_test p q)
    (one multi)
    (ap (λ (o : Option ℕ). option_map NoXorb o) (position_none (λ t. is_none (plan_xorb_of p t.xorb)) ts (λ k d h. ap is_none (xorb_found s f q k d h))))
    (ap (λ (o : Option ℕ). option_map NoRange o) (position_none (λ t. is_none (block_of_term p multi t)) ts (λ k d h. ap is_none (block_found s f q multi k d h).1)))
    (four ts (offset_fits s v f q))
    (ap (λ (o : Option ℕ). option_map Position o) (position_none (λ e. nat_le (2 ^ 64) e) (ends q.start (sizes p)) (five ts (plan_terms_are s f q) (offset_fits s v f q) (within s v f q))))
    (six ts (plan_terms_are s f q) (offset_fits s v f q) (within s v f q))
  where
    one : (m : Bool) → ranges_test (plan_of s f q) m ≡ None
    one true = passes_1 s (plan_terms s f q) (firsts hash_eq (map (λ t. t.xorb) (plan_terms s f q)))
    one false = refl

    four : (ts : List PlanTerm) → FirstFits (plan_offset s f q) ts → option_map (λ (t : PlanTerm). Offset (plan_offset s f q) t.unpacked_length) (find (λ (t : PlanTerm). nat_lt t.unpacked_length (plan_offset s f q)) (take 1 ts)) ≡ None
    four [] h = refl
    four (t ∷ ts) h = rw (le-ltb t.unpacked_length (plan_offset s f q) h)

    five : (ts : List PlanTerm) → All (IsPlanTerm s) ts → FirstFits (plan_offset s f q) ts → (0 < length ts → EndsWithin s q (plan_offset s f q) ts) → All (λ e. leb (2 ^ 64) e ≡ false) (ends q.start (sizes_from (plan_offset s f q) ts))
    five [] a o w = All-nil (λ e. leb (2 ^ 64) e ≡ false)
    five (t ∷ ts) a o w =
        let n = sum_sizes s (plan_offset s f q) (t ∷ ts) a o (omega arith) in
        let is = (w (omega arith)).short in
        ends_below (2 ^ 64) q.start (sizes_from (plan_offset s f q) (t ∷ ts)) (below (sum (sizes_from (plan_offset s f q) (t ∷ ts))) (plan_offset s f q) (length (flat_map (term_bytes s) (t ∷ ts))) n is)
      where
        below : (x o y : ℕ) → x + o ≡ y → q.start + y < 2 ^ 64 + o → q.start + x < 2 ^ 64
        below x o y e h = omega arith

    six : (ts : List PlanTerm) → All (IsPlanTerm s) ts → FirstFits (plan_offset s f q) ts → (0 < length ts → EndsWithin s q (plan_offset s f q) ts)
        → option_and_then (λ last. cond (nat_lt last (q.start + sum (sizes_from (plan_offset s f q) ts) - q.end)) (Some (Trim (q.start + sum (sizes_from (plan_offset s f q) ts) - q.end) last)) None) (last_or None (sizes_from (plan_offset s f q) ts)) ≡ None
    six [] a o w = refl
    six (t ∷ ts) a o w =
        let n = sum_sizes s (plan_offset s f q) (t ∷ ts) a o (omega arith) in
        let is = w (omega arith) in
        let last = last_size (plan_offset s f q) t ts in
        done (sum (sizes_from (plan_offset s f q) (t ∷ ts))) last.0 (last_or None (sizes_from (plan_offset s f q) (t ∷ ts))) last.1
        (⊎_elim
        (λ (e : last.0 ≡ last_length (t ∷ ts)). first (sum (sizes_from (plan_offset s f q) (t ∷ ts))) (plan_offset s f q) (length (flat_map (term_bytes s) (t ∷ ts))) last.0 (last_length (t ∷ ts)) n is.last e)
        (λ (e : (last.0 ≡ t.unpacked_length - plan_offset s f q) × (ts ≡ [])).
        second (sum (sizes_from (plan_offset s f q) (t ∷ ts))) last.0 (t.unpacked_length - plan_offset s f q) (ap (λ (us : List PlanTerm). sum (sizes_from (plan_offset s f q) (t ∷ us))) e.1) e.0 is.forward)
        last.2)
      where
        first : (x o y n l : ℕ) → x + o ≡ y → q.start + y ≤ q.end + o + l → n ≡ l → q.start + x - q.end ≤ n
        first x o y n l e h k = omega arith

        second : (x n m : ℕ) → x ≡ 0 + m → n ≡ m → q.start < q.end → q.start + x - q.end ≤ n
        second x n m e k h = omega arith

        done : (x n : ℕ) (o : Option ℕ) → o ≡ Some n → q.start + x - q.end ≤ n
            → option_and_then (λ last. cond (nat_lt last (q.start + x - q.end)) (Some (Trim (q.start + x - q.end) last)) None) o ≡ None
        done x n o e h = rw (e, le-ltb n (q.start + x - q.end) h)
