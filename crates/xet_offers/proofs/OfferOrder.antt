-- Offers of one xorb: their numbers tell their blocks apart, and where a term starts in its block.
use Rattle.std.proofs.Common.{◌≡◌, ◌⊎◌, inl, inr, ℕ, ◌+◌, ◌-◌, ◌^◌, ◌<◌, ◌≤◌, min, Bool, true, false, cond, ◌&&◌, ◌||◌, List, [], ◌∷◌, ◌++◌, length, map, eqb, leb, ltb, refl, sym, ◌∙◌, ap, subst, arith, Some, None}
use Rattle.std.specs.Prelude.{find, Option, option_and_then, option_map, position}
use Rattle.std.specs.List.{flat_map, list_any}
use Rattle.std.proofs.lemmas.Bool.{false≢true, and_parts, eq-eqb, leb-true, leb-false, ltb-true, ltb-false, or_parts}
use Rattle.std.proofs.lemmas.Bool.Decides.{nat_tests}
use Rattle.std.proofs.lemmas.Option.{same_Some}
use Rattle.std.proofs.lemmas.List.Sums.{sum_by-cons}
use lib.Pointwise.{pointwise}
use Rattle.xet_base.specs.declared.cas_types.ChunkRange.{ChunkRange}
use Rattle.xet_base.specs.Hashes.{hash_eq}
use Rattle.xet_base.specs.Lists.{first_some}
use Rattle.xet_base.proofs.CallerLemmas.{position_no}
use Rattle.xet_outside.specs.declared.plan.FetchEntry.{FetchEntry}
use Rattle.xet_outside.specs.declared.plan.FetchRange.{FetchRange}
use Rattle.xet_outside.specs.declared.plan.Plan.{Plan}
use Rattle.xet_outside.specs.declared.plan.PlanTerm.{PlanTerm}
use Rattle.xet_outside.specs.declared.plan.PlanXorb.{PlanXorb}
use Rattle.xet_outside.specs.Plan.{shape, xorb_shape}
use Rattle.xet_offers.specs.Blocks.{lies_in, range_eq, start_index}
use Rattle.xet_offers.specs.Offers.{Candidate, Offered, candidates, entry_candidates, offer_of_term, offers_from, ranges_from, xorb_offers}
use Rattle.xet_offers.specs.PlanChecks.{failed_ranges, ranges_test, unordered}
use Rattle.xet_error.specs.declared.error.Corruption.{Corruption}
use Rattle.xet_error.specs.declared.error.Corruption.TheVariants.{Ranges}
use Rattle.xet_offers.proofs.TermOffers.{candidate_of, found_candidate}
use Rattle.xet_offers.proofs.EqualBlocks.{range_decides}
use Rattle.xet_offers.proofs.Lookups.{find-append}
use lib.Pointwise.{pointwise_decides}

abbrev lies : PlanTerm → Offered → Bool
lies t o = lies_in t o.range

abbrev chunks_of : List FetchRange → List ChunkRange
chunks_of rs = map (λ r. r.chunks) rs

abbrev next_before : ℕ → FetchRange → ℕ
next_before before r = min (before + (r.chunks.end - r.chunks.start)) (2 ^ 64 - 1)

-- what is found is in the front, or else in what follows
found_split : {A : Type 0} (p : A → Bool) (xs ys : List A) (o : A) → find p (xs ++ ys) ≡ Some o → (find p xs ≡ Some o) ⊎ ((find p xs ≡ None) × (find p ys ≡ Some o))
found_split p xs ys o h = go (find p xs) (sym (find-append p xs ys) ∙ h)
  where
    go : (f : Option _) → first_some (f ∷ find p ys ∷ []) ≡ Some o → (f ≡ Some o) ⊎ ((f ≡ None) × (find p ys ≡ Some o))
    go (Some x) e = inl e
    go None e = inr (refl, only (find p ys) e)
      where
        only : (f : Option _) → first_some (f ∷ []) ≡ Some o → f ≡ Some o
        only (Some x) e = e
        only None e = e

-- ---- what a found range of a block says

pub record IsFound (t : PlanTerm) (n : ℕ) (b rs : List FetchRange) (o : Offered) : Type 0 where
  pub number : o.number ≡ n
  pub block : o.block ≡ b
  pub any : list_any (lies_in t) rs ≡ true
  pub some : 0 < length rs

found_here : (t : PlanTerm) (n : ℕ) (u : List ℕ) (b : List FetchRange) (before : ℕ) (rs : List FetchRange) (o : Offered) → find (lies t) (ranges_from n u b before rs) ≡ Some o → IsFound t n b rs o
found_here t n u b before [] o h = cc
found_here t n u b before (r ∷ rs) o h = go (lies_in t r) refl h (λ k. found_here t n u b (next_before before r) rs o k)
  where
    first : Offered
    first = record { url = u; range = r; block = b; number = n; before = before }

    go : (x : Bool) → lies_in t r ≡ x → cond x (Some first) (find (lies t) (ranges_from n u b (next_before before r) rs)) ≡ Some o
        → (find (lies t) (ranges_from n u b (next_before before r) rs) ≡ Some o → IsFound t n b rs o) → IsFound t n b (r ∷ rs) o
    go true e k next =
        let same : first ≡ o = same_Some first o k in
        record { number = ap (λ (o : Offered). o.number) (sym same); block = ap (λ (o : Offered). o.block) (sym same); any = ap (λ b. b || list_any (lies_in t) rs) e; some = omega arith }
    go false e k next =
        let f = next k in
        record { number = f.number; block = f.block; any = ap (λ b. b || list_any (lies_in t) rs) e ∙ f.any; some = omega arith }

none_here : (t : PlanTerm) (n : ℕ) (u : List ℕ) (b : List FetchRange) (before : ℕ) (rs : List FetchRange) → find (lies t) (ranges_from n u b before rs) ≡ None → list_any (lies_in t) rs ≡ false
none_here t n u b before [] h = refl
none_here t n u b before (r ∷ rs) h = go (lies_in t r) h (λ k. none_here t n u b (next_before before r) rs k)
  where
    go : (x : Bool) → cond x (Some (record { url = u; range = r; block = b; number = n; before = before })) (find (lies t) (ranges_from n u b (next_before before r) rs)) ≡ None
        → (find (lies t) (ranges_from n u b (next_before before r) rs) ≡ None → list_any (lies_in t) rs ≡ false) → (x || list_any (lies_in t) rs) ≡ false
    go true k next = cc
    go false k next = next k

-- the block of what is found has the term, and its number is at or after the first one's
found_any : (t : PlanTerm) (n : ℕ) (cs : List Candidate) (o : Offered) → find (lies t) (offers_from n cs) ≡ Some o → (list_any (lies_in t) o.block ≡ true) × (n ≤ o.number)
found_any t n [] o h = cc
found_any t n (c ∷ cs) o h = go (found_split (lies t) (ranges_from n c.0 c.1 0 c.1) (offers_from (n + length c.1) cs) o h) (λ k. found_any t (n + length c.1) cs o k)
  where
    go : ((find (lies t) (ranges_from n c.0 c.1 0 c.1) ≡ Some o) ⊎ ((find (lies t) (ranges_from n c.0 c.1 0 c.1) ≡ None) × (find (lies t) (offers_from (n + length c.1) cs) ≡ Some o)))
        → (find (lies t) (offers_from (n + length c.1) cs) ≡ Some o → (list_any (lies_in t) o.block ≡ true) × (n + length c.1 ≤ o.number)) → (list_any (lies_in t) o.block ≡ true) × (n ≤ o.number)
    go (inl k) next =
        let f = found_here t n c.0 c.1 0 c.1 o k in
        (ap (λ l. list_any (lies_in t) l) f.block ∙ f.any, omega (arith, f.number))
    go (inr k) next = let f = next k.1 in (f.0, omega (arith, f.1))

-- ---- numbers tell blocks apart

-- whether a term lies in a block is told by its chunk ranges
pub any_by_chunks : (t : PlanTerm) (rs ss : List FetchRange) → chunks_of rs ≡ chunks_of ss → list_any (lies_in t) rs ≡ list_any (lies_in t) ss
any_by_chunks t rs ss e = sym (by_chunks rs) ∙ ap (λ l. list_any lies_chunks l) e ∙ by_chunks ss
  where
    lies_chunks : ChunkRange → Bool
    lies_chunks r = leb r.start t.range.start && (ltb t.range.start t.range.end && leb t.range.end r.end)

    by_chunks : (rs : List FetchRange) → list_any lies_chunks (chunks_of rs) ≡ list_any (lies_in t) rs
    by_chunks [] = refl
    by_chunks (r ∷ rs) = ap (λ b. lies_in t r || b) (by_chunks rs)

abbrev same_ranges : List FetchRange → List FetchRange → Bool
same_ranges rs ss = pointwise range_eq (chunks_of rs) (chunks_of ss)

pub same_ranges-true : (rs ss : List FetchRange) → same_ranges rs ss ≡ true → chunks_of rs ≡ chunks_of ss
same_ranges-true rs ss h = (pointwise_decides range_decides (chunks_of rs) (chunks_of ss)).0 h

pub eq-same_ranges : (rs ss : List FetchRange) → chunks_of rs ≡ chunks_of ss → same_ranges rs ss ≡ true
eq-same_ranges rs ss h = (pointwise_decides range_decides (chunks_of rs) (chunks_of ss)).1 h

module _ (t u : PlanTerm) where
  -- a block before those where the other term is found is another, by its number and by its ranges
  earlier : (n m : ℕ) (cs : List Candidate) (b : List FetchRange) (o : Offered) → n < m → list_any (lies_in u) b ≡ false → find (lies u) (offers_from m cs) ≡ Some o
      → (eqb n o.number ≡ false) × (same_ranges b o.block ≡ false)
  earlier n m cs b o l none h =
      let f = found_any u m cs o h in
      let low : n < o.number = omega (arith, f.1) in
      (grind (arith, nat_tests), apart (same_ranges b o.block) refl f.0)
    where
      apart : (x : Bool) → same_ranges b o.block ≡ x → list_any (lies_in u) o.block ≡ true → x ≡ false
      apart false e k = refl
      apart true e k = absurd (false≢true (sym none ∙ any_by_chunks u b o.block (same_ranges-true b o.block e) ∙ k))

  later : (n m : ℕ) (cs : List Candidate) (b : List FetchRange) (o : Offered) → n < m → list_any (lies_in u) b ≡ false → find (lies u) (offers_from m cs) ≡ Some o
      → (eqb o.number n ≡ false) × (same_ranges o.block b ≡ false)
  later n m cs b o l none h =
      let f = found_any u m cs o h in
      let low : n < o.number = omega (arith, f.1) in
      (grind (arith, nat_tests), apart (same_ranges o.block b) refl f.0)
    where
      apart : (x : Bool) → same_ranges o.block b ≡ x → list_any (lies_in u) o.block ≡ true → x ≡ false
      apart false e k = refl
      apart true e k = absurd (false≢true (sym none ∙ sym (any_by_chunks u o.block b (same_ranges-true o.block b e)) ∙ k))

  same_block_of : (b : List FetchRange) (o v : Offered) (n : ℕ) → o.number ≡ n → v.number ≡ n → o.block ≡ b → v.block ≡ b → eqb o.number v.number ≡ same_ranges o.block v.block
  same_block_of b o v n e f g h =
      let numbers : eqb o.number v.number ≡ true = eq-eqb o.number v.number (e ∙ sym f) in
      numbers ∙ sym (eq-same_ranges o.block v.block (ap chunks_of (g ∙ sym h)))

-- of two offers in which two terms are found the numbers are equal exactly where the blocks' ranges are
pub numbers_tell : (t u : PlanTerm) (n : ℕ) (cs : List Candidate) (o v : Offered) → find (lies t) (offers_from n cs) ≡ Some o → find (lies u) (offers_from n cs) ≡ Some v
    → eqb o.number v.number ≡ same_ranges o.block v.block
numbers_tell t u n [] o v h k = cc
numbers_tell t u n (c ∷ cs) o v h k =
    go (found_split (lies t) head tail o h) (found_split (lies u) head tail v k) (λ a b. numbers_tell t u (n + length c.1) cs o v a b)
  where
    head : List Offered
    head = ranges_from n c.0 c.1 0 c.1

    tail : List Offered
    tail = offers_from (n + length c.1) cs

    go : ((find (lies t) head ≡ Some o) ⊎ ((find (lies t) head ≡ None) × (find (lies t) tail ≡ Some o))) → ((find (lies u) head ≡ Some v) ⊎ ((find (lies u) head ≡ None) × (find (lies u) tail ≡ Some v)))
        → (find (lies t) tail ≡ Some o → find (lies u) tail ≡ Some v → eqb o.number v.number ≡ same_ranges o.block v.block)
        → eqb o.number v.number ≡ same_ranges o.block v.block
    go (inl a) (inl b) next =
        let f = found_here t n c.0 c.1 0 c.1 o a in
        let g = found_here u n c.0 c.1 0 c.1 v b in
        same_block_of t u c.1 o v n f.number g.number f.block g.block
    go (inl a) (inr b) next =
        let f = found_here t n c.0 c.1 0 c.1 o a in
        let apart = earlier t u n (n + length c.1) cs c.1 v (omega (arith, f.some)) (none_here u n c.0 c.1 0 c.1 b.0) b.1 in
        ap (λ (k : ℕ). eqb k v.number) f.number ∙ apart.0 ∙ sym (ap (λ l. same_ranges l v.block) f.block ∙ apart.1)
    go (inr a) (inl b) next =
        let g = found_here u n c.0 c.1 0 c.1 v b in
        let apart = later u t n (n + length c.1) cs c.1 o (omega (arith, g.some)) (none_here t n c.0 c.1 0 c.1 a.0) a.1 in
        ap (λ (k : ℕ). eqb o.number k) g.number ∙ apart.0 ∙ sym (ap (λ l. same_ranges o.block l) g.block ∙ apart.1)
    go (inr a) (inr b) next = next a.1 b.1

-- ---- the ranges of a found block ascend

abbrev AllAre : {A : Type 0} → (A → Type 0) → List A → Type 0
AllAre P [] = Unit {0}
AllAre P (x ∷ xs) = P x × AllAre P xs

found_is : {A : Type 0} (P : A → Type 0) (p : A → Bool) (xs : List A) (y : A) → AllAre P xs → find p xs ≡ Some y → P y × (p y ≡ true)
found_is P p [] y all h = cc
found_is {A} P p (x ∷ xs) y all h = go (p x) refl h (λ k. found_is P p xs y all.1 k)
  where
    go : (b : Bool) → p x ≡ b → cond b (Some x) (find p xs) ≡ Some y → (find p xs ≡ Some y → P y × (p y ≡ true)) → P y × (p y ≡ true)
    go true e k next = let same : x ≡ y = same_Some x y k in (subst P same all.0, subst (λ (z : A). p z ≡ true) same e)
    go false e k next = next k

all_append : {A : Type 0} (P : A → Type 0) (xs ys : List A) → AllAre P xs → AllAre P ys → AllAre P (xs ++ ys)
all_append P [] ys h k = k
all_append P (x ∷ xs) ys h k = (h.0, all_append P xs ys h.1 k)

-- a range in which a term lies is no empty one
some_range : (t : PlanTerm) (r : FetchRange) → lies_in t r ≡ true → unordered 0 (r ∷ []) ≡ false
some_range t r h =
    let low = and_parts (leb r.chunks.start t.range.start) (ltb t.range.start t.range.end && leb t.range.end r.chunks.end) h in
    let high = and_parts (ltb t.range.start t.range.end) (leb t.range.end r.chunks.end) low.1 in
    let a : r.chunks.start ≤ t.range.start = leb-true r.chunks.start t.range.start low.0 in
    let b : t.range.start < t.range.end = ltb-true t.range.start t.range.end high.0 in
    let c : t.range.end ≤ r.chunks.end = leb-true t.range.end r.chunks.end high.1 in
    let m : r.chunks.start < r.chunks.end = omega (arith, a, b, c) in
    grind (arith, nat_tests)

abbrev IsOrdered : PlanTerm → Candidate → Type 0
IsOrdered t c = list_any (lies_in t) c.1 ≡ true → unordered 0 c.1 ≡ false

entry_ordered : (t : PlanTerm) (multi : Bool) (e : FetchEntry) → (multi ≡ true → unordered 0 e.ranges ≡ false) → AllAre (IsOrdered t) (entry_candidates multi e)
entry_ordered t true e h = (λ any. h refl, tt)
entry_ordered t false e h = go e.ranges
  where
    or_false : (b : Bool) → (b || false) ≡ true → b ≡ true
    or_false true h = refl
    or_false false h = h

    go : (rs : List FetchRange) → AllAre (IsOrdered t) (map (λ r. (e.url, r ∷ [])) rs)
    go [] = tt
    go (r ∷ rs) = (λ any. some_range t r (or_false (lies_in t r) any), go rs)

entries_ordered : (t : PlanTerm) (multi : Bool) (es : List FetchEntry) → (multi ≡ true → list_any (λ l. unordered 0 l) (map (λ e. e.ranges) es) ≡ false) → AllAre (IsOrdered t) (flat_map (entry_candidates multi) es)
entries_ordered t multi [] h = tt
entries_ordered t multi (e ∷ es) h =
    all_append (IsOrdered t) (entry_candidates multi e) (flat_map (entry_candidates multi) es)
    (entry_ordered t multi e (λ m. (or_parts (unordered 0 e.ranges) (list_any (λ l. unordered 0 l) (map (λ e. e.ranges) es)) (h m)).0))
    (entries_ordered t multi es (λ m. (or_parts (unordered 0 e.ranges) (list_any (λ l. unordered 0 l) (map (λ e. e.ranges) es)) (h m)).1))

-- where the entries' ranges ascend
abbrev HasOrder : Bool → PlanXorb → Type 0
HasOrder multi x = multi ≡ true → list_any (λ l. unordered 0 l) (map (λ e. e.ranges) x.fetch) ≡ false

xorbs_ordered : (multi : Bool) (xs : List PlanXorb) → (multi ≡ true → first_some (map failed_ranges (map xorb_shape xs)) ≡ None) → AllAre (HasOrder multi) xs
xorbs_ordered multi [] h = tt
xorbs_ordered multi (x ∷ xs) h =
    let one : (m : multi ≡ true) → (failed_ranges (xorb_shape x) ≡ None) × (first_some (map failed_ranges (map xorb_shape xs)) ≡ None) = λ m. parts (failed_ranges (xorb_shape x)) (h m) in
    (λ m. position_no (λ l. unordered 0 l) (map (λ e. e.ranges) x.fetch) (no_number (position (λ l. unordered 0 l) (map (λ e. e.ranges) x.fetch)) (one m).0), xorbs_ordered multi xs (λ m. (one m).1))
  where
    parts : (o : Option Corruption) → first_some (o ∷ map failed_ranges (map xorb_shape xs)) ≡ None → (o ≡ None) × (first_some (map failed_ranges (map xorb_shape xs)) ≡ None)
    parts None e = (refl, e)
    parts (Some k) e = cc

    no_number : (f : Option ℕ) → option_map (λ i. Ranges x.xorb i) f ≡ None → f ≡ None
    no_number None e = refl
    no_number (Some i) e = cc

plan_ordered : (p : Plan) (multi : Bool) → ranges_test (shape p) multi ≡ None → AllAre (HasOrder multi) p.xorbs
plan_ordered p multi h = xorbs_ordered multi p.xorbs (λ m. sym (ap (λ (b : Bool). cond b (first_some (map failed_ranges (map xorb_shape p.xorbs))) None) m) ∙ h)

-- the ranges of a term's block ascend
pub offer_ascends : (p : Plan) (multi : Bool) (t : PlanTerm) (o : Offered) → ranges_test (shape p) multi ≡ None → offer_of_term p multi t ≡ Some o → unordered 0 o.block ≡ false
offer_ascends p multi t o passed h = go (find (λ y. hash_eq y.xorb t.xorb) p.xorbs) refl h
  where
    go : (f : Option PlanXorb) → find (λ y. hash_eq y.xorb t.xorb) p.xorbs ≡ f → option_and_then (λ x. find (lies t) (xorb_offers multi x)) f ≡ Some o → unordered 0 o.block ≡ false
    go None e k = cc
    go (Some x) e k =
        let order = (found_is (HasOrder multi) (λ y. hash_eq y.xorb t.xorb) p.xorbs x (plan_ordered p multi passed) e).0 in
        let candidate : find (λ (c : Candidate). list_any (lies_in t) c.1) (candidates multi x) ≡ Some (candidate_of o) =
        sym (found_candidate t 0 (candidates multi x)) ∙ ap (λ f. option_map candidate_of f) k in
        let found = found_is (IsOrdered t) (λ (c : Candidate). list_any (lies_in t) c.1) (candidates multi x) (candidate_of o) (entries_ordered t multi x.fetch order) candidate in
        found.0 found.1

-- ---- where a term starts in its block

none_before : (low k : ℕ) (rs : List FetchRange) → unordered low rs ≡ false → k ≤ low → start_index (chunks_of rs) k ≡ 0
none_before low k [] h l = refl
none_before low k (r ∷ rs) h l =
    let first = or_parts (leb r.chunks.end r.chunks.start) (ltb r.chunks.start low || unordered r.chunks.end rs) h in
    let second = or_parts (ltb r.chunks.start low) (unordered r.chunks.end rs) first.1 in
    let a : r.chunks.start < r.chunks.end = leb-false r.chunks.end r.chunks.start first.0 in
    let b : low ≤ r.chunks.start = ltb-false r.chunks.start low second.0 in
    let one : start_index (chunks_of (r ∷ rs)) k ≡ min r.chunks.end k - r.chunks.start + start_index (chunks_of rs) k =
    sum_by-cons (λ (n : ℕ). n) (min r.chunks.end k - r.chunks.start) (map (λ (r : ChunkRange). min r.end k - r.start) (chunks_of rs)) in
    omega (arith, one, a, b, none_before r.chunks.end k rs second.1 (omega (arith, a, b)))

-- a term found in ascending ranges starts so many chunks after the range
pub record StartsAt (t : PlanTerm) (low before : ℕ) (rs : List FetchRange) (o : Offered) : Type 0 where
  pub from : low ≤ t.range.start
  pub inside : o.range.chunks.start ≤ t.range.start
  pub count : before + start_index (chunks_of rs) t.range.start ≡ o.before + (t.range.start - o.range.chunks.start)
  pub within : before + start_index (chunks_of rs) t.range.start ≤ t.range.start

starts_at : (t : PlanTerm) (n : ℕ) (u : List ℕ) (b : List FetchRange) (low before : ℕ) (rs : List FetchRange) (o : Offered) → t.range.start < 2 ^ 64 → before ≤ low → unordered low rs ≡ false
    → find (lies t) (ranges_from n u b before rs) ≡ Some o → StartsAt t low before rs o
starts_at t n u b low before [] o fits l h k = cc
starts_at t n u b low before (r ∷ rs) o fits l h k =
    let first = or_parts (leb r.chunks.end r.chunks.start) (ltb r.chunks.start low || unordered r.chunks.end rs) h in
    let second = or_parts (ltb r.chunks.start low) (unordered r.chunks.end rs) first.1 in
    let a : r.chunks.start < r.chunks.end = leb-false r.chunks.end r.chunks.start first.0 in
    let m : low ≤ r.chunks.start = ltb-false r.chunks.start low second.0 in
    let one : start_index (chunks_of (r ∷ rs)) t.range.start ≡ min r.chunks.end t.range.start - r.chunks.start + start_index (chunks_of rs) t.range.start =
    sum_by-cons (λ (n : ℕ). n) (min r.chunks.end t.range.start - r.chunks.start) (map (λ (r : ChunkRange). min r.end t.range.start - r.start) (chunks_of rs)) in
    go (lies_in t r) refl k a m one second.1 (λ j. starts_at t n u b r.chunks.end (next_before before r) rs o fits (omega (arith, a, m, l)) second.1 j)
  where
    here : Offered
    here = record { url = u; range = r; block = b; number = n; before = before }

    go : (x : Bool) → lies_in t r ≡ x → cond x (Some here) (find (lies t) (ranges_from n u b (next_before before r) rs)) ≡ Some o → r.chunks.start < r.chunks.end → low ≤ r.chunks.start
        → start_index (chunks_of (r ∷ rs)) t.range.start ≡ min r.chunks.end t.range.start - r.chunks.start + start_index (chunks_of rs) t.range.start → unordered r.chunks.end rs ≡ false
        → (find (lies t) (ranges_from n u b (next_before before r) rs) ≡ Some o → StartsAt t r.chunks.end (next_before before r) rs o) → StartsAt t low before (r ∷ rs) o
    go true e k a m one rest next =
        let same : here ≡ o = same_Some here o k in
        let low_part = and_parts (leb r.chunks.start t.range.start) (ltb t.range.start t.range.end && leb t.range.end r.chunks.end) e in
        let high = and_parts (ltb t.range.start t.range.end) (leb t.range.end r.chunks.end) low_part.1 in
        let c : r.chunks.start ≤ t.range.start = leb-true r.chunks.start t.range.start low_part.0 in
        let d : t.range.start < t.range.end = ltb-true t.range.start t.range.end high.0 in
        let f : t.range.end ≤ r.chunks.end = leb-true t.range.end r.chunks.end high.1 in
        let none = none_before r.chunks.end t.range.start rs rest (omega (arith, d, f)) in
        let is : before + start_index (chunks_of (r ∷ rs)) t.range.start ≡ before + (t.range.start - r.chunks.start) = omega (arith, one, none, c, d, f) in
        record {
          from = omega (arith, m, c);
          inside = subst (λ (o : Offered). o.range.chunks.start ≤ t.range.start) same c;
          count = is ∙ ap (λ (o : Offered). o.before + (t.range.start - o.range.chunks.start)) same;
          within = omega (arith, is, l, m, c);
        }
    go false e k a m one rest next =
        let f = next k in
        let exact : next_before before r ≡ before + (r.chunks.end - r.chunks.start) = omega (arith, fits, f.from, a, m, l) in
        record {
          from = omega (arith, f.from, a, m);
          inside = f.inside;
          count = omega (arith, one, f.count, exact, f.from, a);
          within = omega (arith, one, f.within, exact, f.from, a);
        }

starts_in : (t : PlanTerm) (n : ℕ) (cs : List Candidate) (o : Offered) → t.range.start < 2 ^ 64 → unordered 0 o.block ≡ false → find (lies t) (offers_from n cs) ≡ Some o → StartsAt t 0 0 o.block o
starts_in t n [] o fits h k = cc
starts_in t n (c ∷ cs) o fits h k = go (found_split (lies t) (ranges_from n c.0 c.1 0 c.1) (offers_from (n + length c.1) cs) o k) (λ j. starts_in t (n + length c.1) cs o fits h j)
  where
    go : ((find (lies t) (ranges_from n c.0 c.1 0 c.1) ≡ Some o) ⊎ ((find (lies t) (ranges_from n c.0 c.1 0 c.1) ≡ None) × (find (lies t) (offers_from (n + length c.1) cs) ≡ Some o)))
        → (find (lies t) (offers_from (n + length c.1) cs) ≡ Some o → StartsAt t 0 0 o.block o) → StartsAt t 0 0 o.block o
    go (inl j) next =
        let f = found_here t n c.0 c.1 0 c.1 o j in
        subst (λ (b : List FetchRange). StartsAt t 0 0 b o) (sym f.block)
        (starts_at t n c.0 c.1 0 0 c.1 o fits (omega arith) (ap (λ (b : List FetchRange). unordered 0 b) (sym f.block) ∙ h) j)
    go (inr j) next = next j.1

-- the same of the offer of a plan's term
pub offer_starts : (p : Plan) (multi : Bool) (t : PlanTerm) (o : Offered) → ranges_test (shape p) multi ≡ None → t.range.start < 2 ^ 64 → offer_of_term p multi t ≡ Some o → StartsAt t 0 0 o.block o
offer_starts p multi t o passed fits h = go (find (λ y. hash_eq y.xorb t.xorb) p.xorbs) h
  where
    go : (f : Option PlanXorb) → option_and_then (λ x. find (lies t) (xorb_offers multi x)) f ≡ Some o → StartsAt t 0 0 o.block o
    go None e = cc
    go (Some x) e = starts_in t 0 (candidates multi x) o fits (offer_ascends p multi t o passed h) e
