-- What xorbs keep, by tests of their chunks' numbers.
use Rattle.std.proofs.Common.{◌≡◌, ℕ, zero, suc, ◌+◌, ◌-◌, ◌<◌, ◌≤◌, ◌^◌, max, Bool, true, false, cond, not, List, [], ◌∷◌, ◌++◌, length, map, get_or, take, refl, sym, ◌∙◌, ap, subst, arith, Option, Some, None, All, Contains, ltb, ltb-true, lt-ltb}
use Rattle.std.specs.Prelude.{count_by, filter, nat_lt, position}
use Rattle.std.specs.List.{enumerate_from, range_with_len, sum_by}
use Rattle.std.proofs.lemmas.Bool.{false_from_ne_true, true≢false}
use Rattle.std.proofs.lemmas.List.{length-append, length-map, length-take-le, get_or-map, take_all, take_more}
use Rattle.std.proofs.lemmas.List.FromFn.{get_or-map-range_with_len, get_or-range_with_len, length-map-range_with_len, length-range_with_len, map-range_with_len_more}
use Rattle.std.proofs.lemmas.List.Sums.{sum_by_more}
use Rattle.xet_base.specs.declared.merklehash.MerkleHash.{MerkleHash}
use Rattle.xet_base.specs.declared.mdb_shard.Xorb.{Xorb}
use Rattle.xet_base.specs.declared.stored.StoredFile.{StoredFile}
use Rattle.xet_base.specs.declared.stored.StoredTerm.{StoredTerm}
use Rattle.xet_base.specs.Hashes.{hash_eq}
use Rattle.xet_base.specs.Store.{IsTermIn, IsValid, IsValidXorb, Store}
use Rattle.xet_audit.specs.Findings.{is_named}
use Rattle.xet_audit.specs.declared.raw_store.RawStore.{RawStore}
use Rattle.xet_audit.specs.Raws.{store_of_raw}
use Rattle.xet_compact.specs.Compacts.{dropped_count, held_before, is_held, kept_hash, kept_term, kept_xorb, kept_xorbs}
use Rattle.xet_compact.specs.declared.kept_xorb.KeptXorb.{KeptXorb}
use Rattle.xet_held.specs.Held.{is_reached, new_numbers, passing}
use Rattle.xet_compact.specs.steps.Kept.{IsKept, hash_by, keeps_some, kept_by, kept_of, xorb_of_kept}
use Rattle.xet_compact.specs.steps.Reaches.{AreReached}
use Rattle.xet_compact.proofs.HeldTerms.{Names, TermOf, held_of, holds_of, kept_from_at, kept_hash_at, kept_to_at, named_by}
use Rattle.xet_compact.proofs.HeldTerms.{names_of, term_at, term_of}
use Rattle.xet_compact.proofs.Members.{apart_same, filter_same, map_same}
use Rattle.xet_compact.proofs.Placed.{place_of}
use Rattle.xet_held.proofs.CallerLemmas.{count_numbered, kept_same, length-kept, passed, passed-both, passed-split}
use Rattle.xet_held.proofs.CallerLemmas.{passed_all, passed_at, passed_same}

-- ---- tests that agree keep the same

pub kept_by_same : (p q : ℕ → Bool) (x : Xorb) → ((k : ℕ) → k < length x.chunks → p k ≡ q k) → kept_by p x ≡ kept_by q x
kept_by_same p q x h =
    let chunks : passing p x.chunks ≡ passing q x.chunks = kept_same p q 0 x.chunks (λ k low high. h k (omega (arith, high))) in
    let numbers : new_numbers p (length x.chunks) ≡ new_numbers q (length x.chunks) = map_same (λ k. passed p 0 k)
    (λ k. passed q 0 k) (range_with_len 0 (length x.chunks + 1)) (λ k kin.
    let long = length-range_with_len 0 (length x.chunks + 1) in
    let inside = kin.1 in
    let is : 0 + kin.0 ≡ k = sym (get_or-range_with_len 0 (length x.chunks + 1) kin.0 k (omega (arith, inside, long))) ∙ kin.2 in
    passed_same p q 0 k (λ j low high. h j (omega (arith, high, is, inside, long)))) in
    ap (λ (cs : List (List ℕ)). let k : KeptXorb = record { hash = hash_by x cs; chunks = cs; numbers = new_numbers p (length x.chunks) } in k) chunks
    ∙ ap (λ (ns : List ℕ). let k : KeptXorb = record { hash = hash_by x (passing q x.chunks); chunks = passing q x.chunks; numbers = ns } in k) numbers

-- what a xorb keeps by how far terms reach is what it keeps in the store
pub reached_keeps : (s : Store) (rs : List (List ℕ)) (i : ℕ) (x : Xorb) (r : List ℕ) → AreReached s.xorbs s.files rs
    → i < length s.xorbs → x ≡ get_or s.xorbs i x → r ≡ get_or rs i [] → kept_by (is_reached r) x ≡ kept_of s x
reached_keeps s rs i x r a here at at_r =
    kept_by_same (is_reached r) (is_held s x.hash) x (λ k l.
    ap (λ (v : List ℕ). is_reached v k) at_r
    ∙ a.held i k x here (subst (λ (y : Xorb). k < length y.chunks) at l)
    ∙ sym (ap (λ (y : Xorb). is_held s y.hash k) at))

-- ---- a term among what is kept

-- where a term's xorb stands, what it keeps, and the term's new numbers
pub record KeptTerm (s : Store) (hashes : List MerkleHash) (kept_list : List KeptXorb) (t : StoredTerm) : Type 0 where
  pub place : ℕ
  pub found : position (λ y. hash_eq y t.xorb) hashes ≡ Some place
  pub inside : place < length kept_list
  pub count : ℕ
  pub long : (d : KeptXorb) → length (get_or kept_list place d).numbers ≡ count
  pub from_in : t.from < count
  pub to_in : t.to < count
  pub hash : (d : KeptXorb) → (get_or kept_list place d).hash ≡ (kept_term s t).xorb
  pub from : (d : KeptXorb) → get_or (get_or kept_list place d).numbers t.from 0 ≡ (kept_term s t).from
  pub to : (d : KeptXorb) → get_or (get_or kept_list place d).numbers t.to 0 ≡ (kept_term s t).to

pub kept_term_of : (raw : RawStore) (hashes : List MerkleHash) (kept_list : List KeptXorb) (t : StoredTerm)
    → IsKept raw hashes kept_list → IsTermIn (store_of_raw raw) t → KeptTerm (store_of_raw raw) hashes kept_list t
kept_term_of raw hashes kept_list t k is_in =
    let s = store_of_raw raw in
    let x = term_at s t is_in in
    let at = place_of raw.xorbs t.xorb x.xorb x.found in
    let n = length x.xorb.chunks in
    let f = λ (m : ℕ). held_before s x.xorb.hash m in
    let is = λ (d : KeptXorb). ap (λ (l : List KeptXorb). get_or l at.place d) k.kept_are ∙ get_or-map (kept_of s) raw.xorbs
    at.place x.xorb d at.inside ∙ ap (kept_of s) (at.is x.xorb) in
    let inside = at.inside in
    let long = ap length k.kept_are ∙ length-map raw.xorbs (kept_of s) in
    let some = x.some in
    let within = x.inside in
    record {
      place = at.place;
      found = ap (λ (h : List MerkleHash). position (λ y. hash_eq y t.xorb) h) k.indexed ∙ at.found;
      inside = omega (arith, inside, long);
      count = n + 1;
      long = λ d. ap (λ (y : KeptXorb). length y.numbers) (is d) ∙ length-map-range_with_len f 0 (n + 1);
      from_in = omega (arith, some, within);
      to_in = omega (arith, within);
      hash = λ d. ap (λ (y : KeptXorb). y.hash) (is d) ∙ sym (kept_hash_at s t x);
      from = λ d. ap (λ (y : KeptXorb). get_or y.numbers t.from 0) (is d)
          ∙ get_or-map-range_with_len f 0 (n + 1) t.from t.from 0 (omega (arith, some, within)) (omega arith)
          ∙ sym (kept_from_at s t x);
      to = λ d. ap (λ (y : KeptXorb). get_or y.numbers t.to 0) (is d)
          ∙ get_or-map-range_with_len f 0 (n + 1) t.to t.to 0 (omega (arith, within)) (omega arith)
          ∙ sym (kept_to_at s t x);
    }

-- ---- the xorbs that keep something

-- a xorb is named exactly where it keeps something
keeps_named : (s : Store) → IsValid s → (x : Xorb) → Contains s.xorbs x → keeps_some (kept_of s x) ≡ is_named s x.hash
keeps_named s v x xin = go (is_named s x.hash) refl
  where
    go : (b : Bool) → is_named s x.hash ≡ b → keeps_some (kept_of s x) ≡ b
    go true e =
        let n = names_of s x.hash e in
        let y = term_of s v n.file n.term n.file_in n.term_in in
        let same = apart_same (λ (z : Xorb). z.hash) s.xorbs v.xorbs_differ y.xorb x y.xorb_in xin (y.hash_is ∙ n.names) in
        let inside = y.inside in
        let chunks = ap (λ (z : Xorb). length z.chunks) same in
        let some = y.some in
        let held : is_held s x.hash n.term.from ≡ true = sym (ap (λ (z : Xorb). is_held s z.hash n.term.from) same)
        ∙ held_of s v n.file n.term n.file_in n.term_in n.term.from (omega arith) (omega (arith, some)) in
        let long = length-kept (is_held s x.hash) 0 x.chunks in
        let sum : n.term.from + (1 + (length x.chunks - (n.term.from + 1))) ≡ length x.chunks = omega (arith, some, inside, chunks) in
        let at : passed (is_held s x.hash) 0 (length x.chunks) ≡ passed (is_held s x.hash) 0 (n.term.from + (1 + (length
        x.chunks - (n.term.from + 1)))) = ap (λ (m : ℕ). passed (is_held s x.hash) 0 m) (sym sum) in
        let split = passed-split (is_held s x.hash) 0 n.term.from (1 + (length x.chunks - (n.term.from + 1))) in
        let split_one = passed-split (is_held s x.hash) (0 + n.term.from) 1 (length x.chunks - (n.term.from + 1)) in
        let here : passed (is_held s x.hash) (0 + n.term.from) 1 ≡ 1 = passed_all (is_held s x.hash) (0 + n.term.from) 1
        (λ k low high. let k_is : n.term.from ≡ k = omega (arith, low, high) in
        subst (λ (m : ℕ). is_held s x.hash m ≡ true) k_is held) in
        lt-ltb 0 (length (passing (is_held s x.hash) x.chunks)) (omega (arith, long, at, split, split_one, here))
    go false e =
        false_from_ne_true (keeps_some (kept_of s x)) (λ t.
        let some = ltb-true 0 (length (passing (is_held s x.hash) x.chunks)) t in
        let long = length-kept (is_held s x.hash) 0 x.chunks in
        let at = passed_at (is_held s x.hash) 0 (length x.chunks) 0 (omega (arith, some, long)) in
        let h = holds_of s x.hash at.number at.passes in
        true≢false (sym (named_by s h.file h.term x.hash h.file_in h.term_in h.names) ∙ e))

filter-map : {A B : Type 0} (p : B → Bool) (f : A → B) (xs : List A) → filter p (map f xs) ≡ map f (filter (λ x. p (f x)) xs)
filter-map p f [] = refl
filter-map {A} {B} p f (x ∷ xs) = go (p (f x)) (filter-map p f xs)
  where
    go : (b : Bool) → filter p (map f xs) ≡ map f (filter (λ x. p (f x)) xs)
        → cond b (f x ∷ filter p (map f xs)) (filter p (map f xs)) ≡ map f (cond b (x ∷ filter (λ x. p (f x)) xs) (filter (λ x. p (f x)) xs))
    go true e = ap (λ (l : List B). f x ∷ l) e
    go false e = e

map-map : {A B C : Type 0} (f : B → C) (g : A → B) (xs : List A) → map f (map g xs) ≡ map (λ x. f (g x)) xs
map-map f g [] = refl
map-map f g (x ∷ xs) = ap (λ l. f (g x) ∷ l) (map-map f g xs)

pub named_kept : (raw : RawStore) (hashes : List MerkleHash) (kept_list : List KeptXorb) → IsKept raw hashes kept_list
    → map xorb_of_kept (filter keeps_some kept_list) ≡ kept_xorbs (store_of_raw raw)
named_kept raw hashes kept_list k =
    let s = store_of_raw raw in
    ap (λ (l : List KeptXorb). map xorb_of_kept (filter keeps_some l)) k.kept_are
    ∙ ap (map xorb_of_kept) (filter-map keeps_some (kept_of s) raw.xorbs)
    ∙ map-map xorb_of_kept (kept_of s) (filter (λ (x : Xorb). keeps_some (kept_of s x)) raw.xorbs)
    ∙ ap (map (kept_xorb s)) (filter_same (λ (x : Xorb). keeps_some (kept_of s x)) (λ (x : Xorb). is_named s x.hash)
    raw.xorbs (keeps_named s k.valid))

-- ---- what is dropped

-- of some xorbs
abbrev pub dropped_of : Store → List Xorb → ℕ
dropped_of s xs = sum_by (λ x. count_by (λ p. not (is_held s x.hash p.0)) (enumerate_from 0 x.chunks)) xs

-- one xorb more: its chunks less those that it keeps
pub dropped_more : (raw : RawStore) (hashes : List MerkleHash) (kept_list : List KeptXorb) (i : ℕ) (x : Xorb) (k : KeptXorb)
    → IsKept raw hashes kept_list → i < length raw.xorbs → x ≡ get_or raw.xorbs i x → k ≡ get_or kept_list i k
    → (length k.chunks ≤ length x.chunks)
    × (dropped_of (store_of_raw raw) (take (i + 1) raw.xorbs) ≡ dropped_of (store_of_raw raw) (take i raw.xorbs)
    + (length x.chunks - length k.chunks))
dropped_more raw hashes kept_list i x k w here at at_k =
    let s = store_of_raw raw in
    let p = is_held s x.hash in
    let is : k ≡ kept_of s x = at_k ∙ ap (λ (l : List KeptXorb). get_or l i k) w.kept_are ∙ get_or-map (kept_of s) raw.xorbs
    i x k here ∙ sym (ap (kept_of s) at) in
    let chunks : length k.chunks ≡ passed p 0 (length x.chunks) = ap (λ (y : KeptXorb). length y.chunks) is ∙ length-kept p 0 x.chunks in
    let both = passed-both p 0 (length x.chunks) in
    let f = λ (y : Xorb). count_by (λ (q : ℕ × List ℕ). not (is_held s y.hash q.0)) (enumerate_from 0 y.chunks) in
    let more = sum_by_more f raw.xorbs i x here in
    let here_is : f (get_or raw.xorbs i x) ≡ passed (λ j. not (p j)) 0 (length x.chunks) = sym (ap f at) ∙ count_numbered
    (λ j. not (p j)) 0 x.chunks in
    (omega (arith, chunks, both), omega (arith, chunks, both, more, here_is))
