-- A store of the eight xorbs takes the file.
use Rattle.std.proofs.Common.{◌≡◌, ℕ, zero, suc, ◌+◌, ◌-◌, ◌*◌, ◌%◌, ◌<◌, ◌≤◌, ◌^◌, Bool, true, false, cond, List, [], ◌∷◌}
use Rattle.std.proofs.Common.{length, map, drop, Option, Some, None, refl, sym, ap, ◌∙◌, subst, arith}
use Rattle.std.specs.Prelude.{All, is_some, not, option_map, unwrap_or}
use Rattle.std.specs.List.{concat, list_all, range_with_len, slice_range, sum_by}
use Rattle.std.proofs.lemmas.Bool.{and_from, le-leb, lt-leb, lt-ltb}
use Rattle.std.proofs.lemmas.List.{length-append}
use Rattle.std.proofs.lemmas.List.Elements.{All-cons, All-drop, All-head, All-nil, All-tail, All-take}
use Rattle.std.proofs.lemmas.List.Folds.{list_all-map}
use Rattle.std.proofs.lemmas.List.FromFn.{length-map-range_with_len, length-range_with_len}
use Rattle.std.proofs.lemmas.List.Sums.{sum_by-cons}
use Rattle.std.proofs.lemmas.Nat.{mod_below}
use Rattle.xet_base.specs.declared.mdb_shard.FileDataSequenceEntry.{FileDataSequenceEntry}
use Rattle.xet_base.specs.declared.mdb_shard.Xorb.{Xorb}
use Rattle.xet_base.specs.declared.stored.StoredTerm.{StoredTerm}
use Rattle.xet_base.specs.Store.{chunks_of, xorb_of}
use Rattle.xet_base.proofs.CallerLemmas.{length-slice_range}
use Rattle.xet_store.specs.declared.mem_store.StoreRefused.TheVariants.{BadTerm, TooLong}
use Rattle.xet_store.specs.Refusals.{file_refusal, is_term_in, stored_term, term_length}
use Rattle.xet_bench.specs.Bench.{bench_chunk, bench_file, bench_term, bench_xorb, first_xorbs, numbered}

-- ---- the xorb of a term

-- each is found by its hash
xorb_at : (r : ℕ) → r < 8 → xorb_of (first_xorbs 8) (numbered r) ≡ Some (bench_xorb r)
xorb_at zero h = refl
xorb_at (suc zero) h = refl
xorb_at (suc (suc zero)) h = refl
xorb_at (suc (suc (suc zero))) h = refl
xorb_at (suc (suc (suc (suc zero)))) h = refl
xorb_at (suc (suc (suc (suc (suc zero))))) h = refl
xorb_at (suc (suc (suc (suc (suc (suc zero)))))) h = refl
xorb_at (suc (suc (suc (suc (suc (suc (suc zero))))))) h = refl
xorb_at (suc (suc (suc (suc (suc (suc (suc (suc n)))))))) h = absurd (omega arith)

chunks_at : (r : ℕ) → r < 8
    → chunks_of (first_xorbs 8) (numbered r) ≡ map bench_chunk (range_with_len (16 * r) 16)
chunks_at r h = ap (λ (o : Option Xorb). unwrap_or (option_map (λ (x : Xorb). x.chunks) o) []) (xorb_at r h)

-- ---- lengths

-- no chunk has more than 64 bytes
abbrev IsShort : List ℕ → Type 0
IsShort c = length c ≤ 64

chunk_short : (c : ℕ) → IsShort (bench_chunk c)
chunk_short c =
    let size = length-range_with_len c (1 + c % 64) in
    let rest = mod_below c 64 (omega arith) in
    omega (arith, size, rest)

chunks_short : (a n : ℕ) → All IsShort (map bench_chunk (range_with_len a n))
chunks_short a zero = All-nil IsShort
chunks_short a (suc n) = All-cons IsShort (bench_chunk a) (map bench_chunk (range_with_len (a + 1) n)) (chunk_short a)
    (chunks_short (a + 1) n)

joined_short : (cs : List (List ℕ)) → All IsShort cs → length (concat cs) ≤ 64 * length cs
joined_short [] a = omega arith
joined_short (c ∷ cs) a =
    let both = length-append c (concat cs) in
    let first = All-head IsShort c cs a in
    let rest = joined_short cs (All-tail IsShort c cs a) in
    omega (arith, both, first, rest)

-- so a part of 16 of them has at most 1,024
part_short : (cs : List (List ℕ)) (a b : ℕ) → All IsShort cs → length cs ≡ 16
    → length (concat (slice_range cs a b)) ≤ 1024
part_short cs a b short size =
    let joined = joined_short (slice_range cs a b)
    (All-take IsShort (b - a) (drop a cs) (All-drop IsShort a cs short)) in
    let part = length-slice_range cs a b in
    omega (arith, joined, part, size)

-- ---- terms

module _ (k : ℕ) where
  xorb_below : k % 8 < 8
  xorb_below = mod_below k 8 (omega arith)

  size : length (map bench_chunk (range_with_len (16 * (k % 8)) 16)) ≡ 16
  size = length-map-range_with_len bench_chunk (16 * (k % 8)) 16

  term_short : term_length (first_xorbs 8) (bench_term k) ≤ 1024
  term_short =
      let own = part_short (map bench_chunk (range_with_len (16 * (k % 8)) 16)) (k % 13) (k % 13 + 1 + k % 3)
      (chunks_short (16 * (k % 8)) 16) size in
      subst (λ (cs : List (List ℕ)). length (concat (slice_range cs (k % 13) (k % 13 + 1 + k % 3))) ≤ 1024)
      (sym (chunks_at (k % 8) xorb_below)) own

  ends_inside : k % 13 + 1 + k % 3 ≤ length (chunks_of (first_xorbs 8) (numbered (k % 8)))
  ends_inside =
      let from = mod_below k 13 (omega arith) in
      let more = mod_below k 3 (omega arith) in
      let all = size in
      let own : k % 13 + 1 + k % 3 ≤ length (map bench_chunk (range_with_len (16 * (k % 8)) 16)) =
      omega (arith, from, more, all) in
      subst (λ (cs : List (List ℕ)). k % 13 + 1 + k % 3 ≤ length cs) (sym (chunks_at (k % 8) xorb_below)) own

  term_in : is_term_in (first_xorbs 8) (bench_term k) ≡ true
  term_in = and_from _ _ (and_from _ _ (lt-ltb (k % 13) (k % 13 + 1 + k % 3) (omega arith))
      (ap (λ (o : Option Xorb). is_some o) (xorb_at (k % 8) xorb_below))) (le-leb _ _ ends_inside)

terms_in : (a n : ℕ) → list_all (is_term_in (first_xorbs 8)) (map bench_term (range_with_len a n)) ≡ true
terms_in a zero = refl
terms_in a (suc n) = and_from _ _ (term_in a) (terms_in (a + 1) n)

terms_short : (a n : ℕ) → sum_by (term_length (first_xorbs 8)) (map bench_term (range_with_len a n)) ≤ 1024 * n
terms_short a zero = omega arith
terms_short a (suc n) =
    let both = sum_by-cons (term_length (first_xorbs 8)) (bench_term a) (map bench_term (range_with_len (a + 1) n)) in
    let first = term_short a in
    let rest = terms_short (a + 1) n in
    omega (arith, both, first, rest)

-- ---- the file

-- a sum over terms of records
sum_stored : (f : StoredTerm → ℕ) (ts : List FileDataSequenceEntry)
    → sum_by f (map stored_term ts) ≡ sum_by (λ (t : FileDataSequenceEntry). f (stored_term t)) ts
sum_stored f [] = refl
sum_stored f (t ∷ ts) =
    sum_by-cons f (stored_term t) (map stored_term ts) ∙ ap (λ (n : ℕ). f (stored_term t) + n) (sum_stored f ts)
    ∙ sym (sum_by-cons (λ (t : FileDataSequenceEntry). f (stored_term t)) t ts)

no_refusal : (a b : Bool) → a ≡ true → b ≡ false
    → cond (not a) (Some BadTerm) (cond b (Some TooLong) None) ≡ None
no_refusal a b e f = rw (e, f) refl

pub takes_file : (n : ℕ) (ts : List FileDataSequenceEntry) → n < 2 ^ 32
    → map stored_term ts ≡ map bench_term (range_with_len 0 n) → file_refusal (first_xorbs 8) bench_file ts ≡ None
takes_file n ts few same = no_refusal _ _ inside (lt-leb (2 ^ 64) _ short)
  where
    inside : list_all (λ (t : FileDataSequenceEntry). is_term_in (first_xorbs 8) (stored_term t)) ts ≡ true
    inside = sym (list_all-map (is_term_in (first_xorbs 8)) stored_term ts)
        ∙ ap (list_all (is_term_in (first_xorbs 8))) same ∙ terms_in 0 n

    short : sum_by (λ (t : FileDataSequenceEntry). term_length (first_xorbs 8) (stored_term t)) ts < 2 ^ 64
    short =
        let own = sum_stored (term_length (first_xorbs 8)) ts in
        let all = ap (sum_by (term_length (first_xorbs 8))) same in
        let least = terms_short 0 n in
        omega (arith, own, all, least, few)
