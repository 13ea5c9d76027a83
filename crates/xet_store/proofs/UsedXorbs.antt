-- The walk over a plan's terms that keeps the different xorbs and the marks of their chunks.
use Rattle.std.proofs.Common.{◌≡◌, ℕ, zero, suc, ◌+◌, ◌≤◌, ◌<◌, Bool, true, false, cond, ◌||◌, ◌&&◌, List, [], ◌∷◌, ◌++◌, length, map, get_or, set, refl, sym, ◌∙◌, ap, arith, subst, ⊎_elim, take, Option, Some, None}
use Rattle.std.specs.Prelude.{filter, nat_le, nat_lt, position, option_map, unwrap_or}
use Rattle.std.specs.List.{range_with_len, list_any}
use Rattle.std.proofs.lemmas.Bool.{cases_eq, cases_lt, false≢true, false_from_ne_true, or_parts}
use Rattle.std.proofs.lemmas.List.{get_or-set_same, get_or-set_other, length-set, length_push, get_or_append_left, get_or_at, map_push, take_more}
use Rattle.std.proofs.lemmas.List.Folds.{list_any-append}
use Rattle.std.proofs.lemmas.List.Quantifiers.{all_pairs_push, position-Some}
use Rattle.xet_base.specs.declared.cas_types.ChunkRange.{ChunkRange}
use Rattle.xet_base.specs.declared.merklehash.MerkleHash.{MerkleHash}
use Rattle.xet_base.specs.Hashes.{hash_eq}
use Rattle.xet_base.specs.Lists.{firsts}
use Rattle.xet_base.specs.declared.mdb_shard.Xorb.{Xorb}
use Rattle.xet_base.specs.Store.{Store, chunks_of, xorb_of}
use Rattle.xet_base.proofs.CallerLemmas.{firsts-push, firsts_keeps, position_some, position_no, hash_eq-true, eq-hash_eq, hash_eq-own, hash_eq-chain}
use Rattle.xet_outside.specs.declared.plan.PlanTerm.{PlanTerm}
use Rattle.xet_outside.specs.declared.plan.PlanXorb.{PlanXorb}
use Rattle.xet_store.specs.steps.UsedXorbs.{has_number, IsTouched, IsUsed}
use Rattle.xet_outside.specs.Plan.{XorbShape, xorb_shape, fetch_range, plan_xorb, ranges_of, touched_numbers}
use Rattle.xet_base.specs.Ranges.{Ascend}
use Rattle.xet_outside.proofs.CallerLemmas.{runs_ascend}
use Rattle.xet_store.proofs.ChunkMarks.{between}

hash_eq-flip : (a b : MerkleHash) → hash_eq a b ≡ false → hash_eq b a ≡ false
hash_eq-flip a b h = false_from_ne_true (hash_eq b a) (λ e. false≢true (sym h
    ∙ eq-hash_eq a b (sym (hash_eq-true b a e))))

-- one term more: of the same xorb, and of another one
has_same : (ts : List PlanTerm) (t : PlanTerm) (x : MerkleHash) (k : ℕ) → hash_eq t.xorb x ≡ true
    → has_number (ts ++ t ∷ []) x k ≡ (has_number ts x k || between t.range.start t.range.end k)
has_same ts t x k h =
    list_any-append (λ t. hash_eq t.xorb x && nat_le t.range.start k && nat_lt k t.range.end) ts (t ∷ [])
    ∙ ap (λ b. has_number ts x k || ((b && nat_le t.range.start k && nat_lt k t.range.end) || false)) h
    ∙ ap (λ b. has_number ts x k || b) (or_no (nat_le t.range.start k && nat_lt k t.range.end))
  where
    or_no : (b : Bool) → (b || false) ≡ b
    or_no true = refl
    or_no false = refl

has_other : (ts : List PlanTerm) (t : PlanTerm) (x : MerkleHash) (k : ℕ) → hash_eq t.xorb x ≡ false
    → has_number (ts ++ t ∷ []) x k ≡ has_number ts x k
has_other ts t x k h =
    list_any-append (λ t. hash_eq t.xorb x && nat_le t.range.start k && nat_lt k t.range.end) ts (t ∷ [])
    ∙ ap (λ b. has_number ts x k || ((b && nat_le t.range.start k && nat_lt k t.range.end) || false)) h
    ∙ or_no (has_number ts x k)
  where
    or_no : (b : Bool) → (b || false) ≡ b
    or_no true = refl
    or_no false = refl

-- no term of a xorb that no term names
has_none : (ts : List PlanTerm) (x : MerkleHash) (k : ℕ) → list_any (λ y. hash_eq y x) (map (λ t. t.xorb) ts) ≡ false
    → has_number ts x k ≡ false
has_none [] x k h = refl
has_none (t ∷ ts) x k h =
    let parts = or_parts (hash_eq t.xorb x) (list_any (λ y. hash_eq y x) (map (λ t. t.xorb) ts)) h in
    rw (parts.0, has_none ts x k parts.1)

pub any_at : {A : Type 0} (p : A → Bool) (xs : List A) (i : ℕ) (d : A) → list_any p xs ≡ false → i < length xs
    → p (get_or xs i d) ≡ false
any_at p [] i d h l = absurd (omega arith)
any_at p (x ∷ xs) zero d h l = (or_parts (p x) (list_any p xs) h).0
any_at p (x ∷ xs) (suc i) d h l = any_at p xs i d (or_parts (p x) (list_any p xs) h).1 (omega arith)

touched_same : (s : Store) (ts : List PlanTerm) (t : PlanTerm) (x : MerkleHash) (old new : List Bool)
    → IsTouched s ts x old → hash_eq t.xorb x ≡ true → length new ≡ length old
    → ((k : ℕ) → get_or new k false ≡ (get_or old k false || between t.range.start t.range.end k))
    → IsTouched s (ts ++ t ∷ []) x new
touched_same s ts t x old new w h len says = record {
  count = len ∙ w.count;
  marked = λ k l. says k ∙ ap (λ b. b || between t.range.start t.range.end k) (w.marked k (omega (arith, len)))
      ∙ sym (has_same ts t x k h);
}

touched_other : (s : Store) (ts : List PlanTerm) (t : PlanTerm) (x : MerkleHash) (ms : List Bool) → IsTouched s ts x ms
    → hash_eq t.xorb x ≡ false → IsTouched s (ts ++ t ∷ []) x ms
touched_other s ts t x ms w h = record {
  count = w.count;
  marked = λ k l. w.marked k l ∙ sym (has_other ts t x k h);
}

touched_first : (s : Store) (ts : List PlanTerm) (t : PlanTerm) (new : List Bool)
    → list_any (λ y. hash_eq y t.xorb) (map (λ t. t.xorb) ts) ≡ false → length new ≡ length (chunks_of s t.xorb)
    → ((k : ℕ) → get_or new k false ≡ between t.range.start t.range.end k) → IsTouched s (ts ++ t ∷ []) t.xorb new
touched_first s ts t new h len says = record {
  count = len;
  marked = λ k l. says k ∙ sym (has_same ts t t.xorb k (hash_eq-own t.xorb)
      ∙ ap (λ b. b || between t.range.start t.range.end k) (has_none ts t.xorb k h));
}

-- a term of a xorb that is there
pub used_found : (s : Store) (ts : List PlanTerm) (t : PlanTerm) (hashes : List MerkleHash) (marks : List (List Bool))
    (i : ℕ) (old new : List Bool)
    → IsUsed s ts hashes marks → position (λ y. hash_eq y t.xorb) hashes ≡ Some i → old ≡ get_or marks i old
    → length new ≡ length old
    → ((k : ℕ) → get_or new k false ≡ (get_or old k false || between t.range.start t.range.end k))
    → IsUsed s (ts ++ t ∷ []) hashes (set marks i new)
used_found s ts t hashes marks i old new w h at len says =
    let found = position_some (λ y. hash_eq y t.xorb) hashes i h in
    let any : list_any (λ y. hash_eq y t.xorb) (firsts hash_eq (map (λ t. t.xorb) ts)) ≡ true = ap (λ l. list_any
    (λ y. hash_eq y t.xorb) l) (sym w.hashes_are) ∙ found.0 in
    record {
      hashes_are = w.hashes_are ∙ sym (ap (λ (l : List MerkleHash). firsts hash_eq l) (map_push (λ
          (t : PlanTerm). t.xorb) ts t) ∙ firsts-push hash_eq hash_eq-chain (map (λ t. t.xorb) ts) t.xorb
          ∙ ap (λ b. cond b (firsts hash_eq (map (λ t. t.xorb) ts)) (firsts hash_eq (map
          (λ t. t.xorb) ts) ++ t.xorb ∷ [])) any);
      apart = w.apart;
      count = length-set marks i new ∙ w.count;
      touched = λ j x ms l.
          let is = position-Some (λ y. hash_eq y t.xorb) hashes i x h in
          let same : get_or hashes i x ≡ t.xorb = hash_eq-true (get_or hashes i x) t.xorb is.1 in
          ⊎_elim
          (λ (e : j ≡ i).
          subst (λ (m : ℕ). IsTouched s (ts ++ t ∷ []) (get_or hashes m x) (get_or (set marks i new) m ms)) (sym e)
          (subst (λ (n : List Bool). IsTouched s (ts ++ t ∷ []) (get_or hashes i x) n) (sym
          (get_or-set_same marks i new ms (omega (arith, w.count, is.0))))
          (touched_same s ts t (get_or hashes i x) old new (subst (λ (n : List Bool). IsTouched s ts
          (get_or hashes i x) n) (sym at) (w.touched i x old is.0)) (eq-hash_eq t.xorb (get_or hashes i x)
          (sym same)) len says)))
          (λ (n : j ≡ i → ⊥).
          let other : hash_eq t.xorb (get_or hashes j x) ≡ false = ⊎_elim
          (λ (b : j < i). hash_eq-flip (get_or hashes j x) t.xorb (is.2 j b))
          (λ (b : i ≤ j). ap (λ (y : MerkleHash). hash_eq y (get_or hashes j x)) (sym same)
          ∙ w.apart i j x (omega (arith, n)) l)
          (cases_lt j i) in
          subst (λ (m : List Bool). IsTouched s (ts ++ t ∷ []) (get_or hashes j x) m) (sym
          (get_or-set_other marks i j new ms n))
          (touched_other s ts t (get_or hashes j x) (get_or marks j ms) (w.touched j x ms l) other))
          (cases_eq j i);
    }

-- a term of a xorb that is not there
pub used_new : (s : Store) (ts : List PlanTerm) (t : PlanTerm) (hashes : List MerkleHash) (marks : List (List Bool))
    (new : List Bool)
    → IsUsed s ts hashes marks → position (λ y. hash_eq y t.xorb) hashes ≡ None
    → length new ≡ length (chunks_of s t.xorb)
    → ((k : ℕ) → get_or new k false ≡ between t.range.start t.range.end k)
    → IsUsed s (ts ++ t ∷ []) (hashes ++ t.xorb ∷ []) (marks ++ new ∷ [])
used_new s ts t hashes marks new w h len says =
    let no = position_no (λ y. hash_eq y t.xorb) hashes h in
    let none : list_any (λ y. hash_eq y t.xorb) (firsts hash_eq (map (λ t. t.xorb) ts)) ≡ false = ap (λ l. list_any
    (λ y. hash_eq y t.xorb) l) (sym w.hashes_are) ∙ no in
    let unnamed : list_any (λ y. hash_eq y t.xorb) (map (λ t. t.xorb) ts) ≡ false = false_from_ne_true (list_any
    (λ y. hash_eq y t.xorb) (map (λ t. t.xorb) ts))
    (λ e. false≢true (sym none ∙ firsts_keeps hash_eq hash_eq-chain t.xorb (map (λ t. t.xorb) ts) e)) in
    record {
      hashes_are = ap (λ (l : List MerkleHash). l ++ t.xorb ∷ []) w.hashes_are
          ∙ sym (ap (λ (l : List MerkleHash). firsts hash_eq l) (map_push (λ (t : PlanTerm). t.xorb) ts t)
          ∙ firsts-push hash_eq hash_eq-chain (map (λ t. t.xorb) ts) t.xorb
          ∙ ap (λ b. cond b (firsts hash_eq (map (λ t. t.xorb) ts)) (firsts hash_eq (map
          (λ t. t.xorb) ts) ++ t.xorb ∷ [])) none);
      apart = all_pairs_push (λ a b. hash_eq a b ≡ false) hashes t.xorb w.apart (λ k d l. any_at
          (λ y. hash_eq y t.xorb) hashes k d no l);
      count = length_push marks new ∙ ap (λ n. n + 1) w.count ∙ sym (length_push hashes t.xorb);
      touched = λ j x ms l. ⊎_elim
          (λ (b : j < length hashes).
          let other : hash_eq t.xorb (get_or hashes j x) ≡ false = hash_eq-flip (get_or hashes j x) t.xorb (any_at
          (λ y. hash_eq y t.xorb) hashes j x no b) in
          subst (λ (m : List Bool). IsTouched s (ts ++ t ∷ []) (get_or (hashes ++ t.xorb ∷ []) j x) m) (sym
          (get_or_append_left marks (new ∷ []) ms j (omega (arith, w.count))))
          (subst (λ (y : MerkleHash). IsTouched s (ts ++ t ∷ []) y (get_or marks j ms)) (sym (get_or_append_left hashes
          (t.xorb ∷ []) x j b))
          (touched_other s ts t (get_or hashes j x) (get_or marks j ms) (w.touched j x ms b) other)))
          (λ (b : length hashes ≤ j).
          let e : length hashes ≡ j = omega (arith, length_push hashes t.xorb) in
          subst (λ (m : List Bool). IsTouched s (ts ++ t ∷ []) (get_or (hashes ++ t.xorb ∷ []) j x) m) (sym
          (get_or_at marks new [] ms j (w.count ∙ e)))
          (subst (λ (y : MerkleHash). IsTouched s (ts ++ t ∷ []) y new) (sym (get_or_at hashes t.xorb [] x j e))
          (touched_first s ts t new unnamed len says)))
          (cases_lt j (length hashes));
    }

-- ---- the marked chunks as ranges

filter_within : (p q : ℕ → Bool) (a n : ℕ) → ((k : ℕ) → k < a + n → p k ≡ q k)
    → filter p (range_with_len a n) ≡ filter q (range_with_len a n)
filter_within p q a zero f = refl
filter_within p q a (suc n) f =
    let next = filter_within p q (a + 1) n (λ k l. f k (omega arith)) in
    rw (f a (omega arith)) (ap (λ (ks : List ℕ). cond (q a) (a ∷ ks) ks) next)

pub touched_ranges : (s : Store) (ts : List PlanTerm) (x : MerkleHash) (marks : List Bool) → IsTouched s ts x marks
    → ranges_of (filter (λ k. get_or marks k false) (range_with_len 0 (length marks))) ≡ ranges_of (touched_numbers ts x
    (length (chunks_of s x)))
touched_ranges s ts x marks w =
    ap ranges_of (filter_within (λ k. get_or marks k false) (has_number ts x) 0 (length marks) (λ k l. w.marked k
    (omega arith)))
    ∙ ap (λ (n : ℕ). ranges_of (touched_numbers ts x n)) w.count

-- a range among ascending ones ends by their end
pub Ascend_at : (low high : ℕ) (rs : List ChunkRange) (i : ℕ) (d : ChunkRange) → Ascend low high rs → i < length rs
    → ((get_or rs i d).start < (get_or rs i d).end) × ((get_or rs i d).end ≤ high)
Ascend_at low high [] i d a h = absurd (omega arith)
Ascend_at low high (r ∷ rs) zero d a h = (a.1, a.2)
Ascend_at low high (r ∷ rs) (suc i) d a h = Ascend_at r.end high rs i d a.3 (omega arith)

-- the marked chunks' ranges ascend
pub ranges_ascend : (marks : List Bool) (rs : List ChunkRange) (n : ℕ)
    → rs ≡ ranges_of (filter (λ k. get_or marks k false) (range_with_len 0 (length marks))) → length marks ≡ n
    → Ascend 0 n rs
ranges_ascend marks rs n e l =
    subst (λ (us : List ChunkRange). Ascend 0 n us) (sym e)
    (let z : 0 + length marks ≡ n = omega (arith, l) in
    subst (λ (m : ℕ). Ascend 0 m (ranges_of (filter (λ k. get_or marks k false) (range_with_len 0 (length marks))))) z
    (runs_ascend (λ k. get_or marks k false) 0 (length marks)))

-- a xorb of the plan, by its marks
pub xorb_by : (s : Store) (ts : List PlanTerm) (x : MerkleHash) (marks : List Bool) → IsTouched s ts x marks
    → record {
      xorb = x;
      entries = map (fetch_range s x) (ranges_of (filter (λ k. get_or marks k false)
          (range_with_len 0 (length marks)))) ∷ [];
    } ≡ plan_xorb s ts x
xorb_by s ts x marks w = ap (λ (rs : List ChunkRange). let y : XorbShape = record {
  xorb = x;
  entries = map (fetch_range s x) rs ∷ [];
} in y) (touched_ranges s ts x marks w)

pub chunks_of_some : (s : Store) (h : MerkleHash) (x : Xorb) → Some x ≡ xorb_of s h → chunks_of s h ≡ x.chunks
chunks_of_some s h x e = sym (ap (λ (o : Option Xorb). unwrap_or (option_map (λ (y : Xorb). y.chunks) o) []) e)

-- one xorb of the plan more
pub xorbs_more : (s : Store) (ts : List PlanTerm) (hashes : List MerkleHash) (marks : List (List Bool))
    (xs : List PlanXorb) (hs : List MerkleHash) (i : ℕ) (d : MerkleHash) (ms : List Bool) (x : PlanXorb)
    → IsUsed s ts hashes marks → hs ≡ hashes → i < length hs → ms ≡ get_or marks i ms
    → map xorb_shape xs ≡ map (plan_xorb s ts) (take i hs)
    → xorb_shape x ≡ record {
      xorb = get_or hs i d;
      entries = map (fetch_range s (get_or hs i d)) (ranges_of (filter
          (λ k. get_or ms k false) (range_with_len 0 (length ms)))) ∷ [];
    }
    → map xorb_shape (xs ++ x ∷ []) ≡ map (plan_xorb s ts) (take (i + 1) hs)
xorbs_more s ts hashes marks xs hs i d ms x w e l at done is =
    let touched : IsTouched s ts (get_or hs i d) ms =
    subst (λ (us : List MerkleHash). IsTouched s ts (get_or us i d) ms) (sym e)
    (subst (λ (m : List Bool). IsTouched s ts (get_or hashes i d) m) (sym at) (w.touched i d ms (omega (
      arith,
      ap length e,
    )))) in
    map_push xorb_shape xs x
    ∙ ap (λ (ys : List XorbShape). ys ++ xorb_shape x ∷ []) done
    ∙ ap (λ (y : XorbShape). map (plan_xorb s ts) (take i hs) ++ y ∷ []) (is ∙ xorb_by s ts (get_or hs i d) ms touched)
    ∙ sym (ap (λ (us : List MerkleHash). map (plan_xorb s ts) us) (take_more hs i d l)
    ∙ map_push (plan_xorb s ts) (take i hs) (get_or hs i d))
