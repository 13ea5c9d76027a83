-- What terms come to, one by one and together.
use Rattle.std.proofs.Common.{◌≡◌, ℕ, ◌+◌, ◌-◌, ◌^◌, ◌<◌, ◌≤◌, Bool, true, false, cond, not, ◌&&◌, List, [], ◌∷◌, ◌++◌, length, take, min, get_or, refl, sym, ◌∙◌, ap, arith, ⊎_elim, Option, Some, None}
use Rattle.std.specs.Prelude.{is_none, is_some, nat_le, nat_lt, option_map, slice_range, unwrap_or}
use Rattle.std.specs.List.{concat, list_all, sum_by}
use Rattle.std.proofs.lemmas.Bool.{cases_lt, false≢true, le-leb, lt-leb}
use Rattle.std.proofs.lemmas.List.Folds.{list_all-append, list_all_at}
use Rattle.std.proofs.lemmas.List.Sums.{AllPass-from_list_all, sum_by-append}
use Rattle.xet_base.specs.declared.mdb_shard.Xorb.{Xorb}
use Rattle.xet_base.specs.declared.stored.StoredTerm.{StoredTerm}
use Rattle.xet_base.specs.Store.{Store, chunks_of, xorb_of}
use Rattle.xet_store.specs.Refusals.{is_term_in, term_length}
use Rattle.xet_audit.specs.declared.term_state.TermState.{TermState}
use Rattle.xet_audit.specs.declared.term_state.TermState.TheVariants.{Inside, Outside, Unnamed}
use Rattle.xet_audit.specs.Findings.{is_outside}
use Rattle.xet_audit.specs.steps.Terms.{is_long, is_outside_state, is_unnamed, length_of, longer, state_of}
use Rattle.xet_audit.proofs.Lists.{next}

-- ---- one term

module _ (s : Store) (t : StoredTerm) where
  pub unnamed_is : is_unnamed (state_of s t) ≡ is_none (xorb_of s t.xorb)
  unnamed_is = go (is_none (xorb_of s t.xorb)) (is_term_in s t)
    where
      go : (b c : Bool) → is_unnamed (cond b Unnamed (cond c (Inside (term_length s t)) Outside)) ≡ b
      go true c = refl
      go false true = refl
      go false false = refl

  pub outside_is : is_outside_state (state_of s t) ≡ is_outside s t
  outside_is = go (xorb_of s t.xorb) (is_term_in s t)
    where
      go : (o : Option Xorb) (c : Bool) → is_outside_state (cond (is_none o) Unnamed (cond c (Inside (term_length s t)) Outside)) ≡ (is_some o && not c)
      go None c = refl
      go (Some x) true = refl
      go (Some x) false = refl

  -- what is said of a part of the xorb
  abbrev between : Xorb → Option ℕ
  between x = cond (nat_lt t.from t.to && nat_le t.to (length x.chunks)) (Some (length (concat (slice_range x.chunks t.from t.to)))) None

  abbrev by_part : Option ℕ → TermState
  by_part None = Outside
  by_part (Some n) = Inside n

  pub state_none : xorb_of s t.xorb ≡ None → state_of s t ≡ Unnamed
  state_none e = ap (λ (o : Option Xorb). cond (is_none o) Unnamed (cond (is_term_in s t) (Inside (term_length s t)) Outside)) e

  in_is : (x : Xorb) → xorb_of s t.xorb ≡ Some x → is_term_in s t ≡ (nat_lt t.from t.to && true && nat_le t.to (length x.chunks))
  in_is x e = ap (λ (o : Option Xorb). nat_lt t.from t.to && is_some o && nat_le t.to (length (unwrap_or (option_map (λ (y : Xorb). y.chunks) o) []))) e

  length_is : (x : Xorb) → xorb_of s t.xorb ≡ Some x → term_length s t ≡ length (concat (slice_range x.chunks t.from t.to))
  length_is x e = ap (λ (o : Option Xorb). length (concat (slice_range (unwrap_or (option_map (λ (y : Xorb). y.chunks) o) []) t.from t.to))) e

  pub state_some : (x : Xorb) (o : Option ℕ) → xorb_of s t.xorb ≡ Some x → o ≡ between x → state_of s t ≡ by_part o
  state_some x o e f =
      ap (λ (p : Option Xorb). cond (is_none p) Unnamed (cond (is_term_in s t) (Inside (term_length s t)) Outside)) e
      ∙ ap (λ (b : Bool). cond b (Inside (term_length s t)) Outside) (in_is x e)
      ∙ ap (λ (n : ℕ). cond (nat_lt t.from t.to && true && nat_le t.to (length x.chunks)) (Inside n) Outside) (length_is x e)
      ∙ go (nat_lt t.from t.to) (nat_le t.to (length x.chunks)) ∙ ap by_part (sym f)
    where
      go : (a c : Bool) → cond (a && true && c) (Inside (length (concat (slice_range x.chunks t.from t.to)))) Outside
          ≡ by_part (cond (a && c) (Some (length (concat (slice_range x.chunks t.from t.to)))) None)
      go true true = refl
      go true false = refl
      go false c = refl

  -- a term that names chunks names a xorb
  in_some : is_term_in s t ≡ true → is_none (xorb_of s t.xorb) ≡ false
  in_some h = go (xorb_of s t.xorb) (nat_lt t.from t.to) (nat_le t.to (length (chunks_of s t.xorb))) h
    where
      go : (o : Option Xorb) (a c : Bool) → (a && is_some o && c) ≡ true → is_none o ≡ false
      go None true c e = absurd (false≢true e)
      go None false c e = absurd (false≢true e)
      go (Some x) a c e = refl

  pub inside_state : is_term_in s t ≡ true → state_of s t ≡ Inside (term_length s t)
  inside_state h =
      ap (λ (b : Bool). cond b Unnamed (cond (is_term_in s t) (Inside (term_length s t)) Outside)) (in_some h)
      ∙ ap (λ (b : Bool). cond b (Inside (term_length s t)) Outside) h

  -- where it isn't known to name chunks, it names none
  pub state_in : (n : ℕ) → state_of s t ≡ Inside n → is_term_in s t ≡ true
  state_in n e = go (is_none (xorb_of s t.xorb)) (is_term_in s t) e
    where
      go : (b c : Bool) → cond b Unnamed (cond c (Inside (term_length s t)) Outside) ≡ Inside n → c ≡ true
      go true c f = absurd cc
      go false true f = refl
      go false false f = absurd cc

  pub not_inside : ((n : ℕ) → state_of s t ≡ Inside n → ⊥) → is_term_in s t ≡ false
  not_inside h = go (is_term_in s t) refl
    where
      go : (b : Bool) → is_term_in s t ≡ b → is_term_in s t ≡ false
      go false e = e
      go true e = absurd (h (term_length s t) (inside_state e))

  -- one term more
  pub longer_is : (ts : List StoredTerm) → length_of s (ts ++ t ∷ []) ≡ longer (length_of s ts) (state_of s t)
  longer_is ts =
      ap (λ (b : Bool). cond b (Some (min (sum_by (term_length s) (ts ++ t ∷ [])) (2 ^ 128 - 1))) None) (list_all-append (is_term_in s) ts (t ∷ []))
      ∙ ap (λ (n : ℕ). cond (list_all (is_term_in s) ts && (is_term_in s t && true)) (Some (min n (2 ^ 128 - 1))) None) (sum_by-append (term_length s) ts (t ∷ []))
      ∙ go (list_all (is_term_in s) ts) (is_none (xorb_of s t.xorb)) (is_term_in s t) refl in_some
    where
      go : (a b c : Bool) → is_term_in s t ≡ c → (c ≡ true → b ≡ false)
          → cond (a && (c && true)) (Some (min (sum_by (term_length s) ts + sum_by (term_length s) (t ∷ [])) (2 ^ 128 - 1))) None
          ≡ longer (cond a (Some (min (sum_by (term_length s) ts) (2 ^ 128 - 1))) None) (cond b Unnamed (cond c (Inside (term_length s t)) Outside))
      go false b c e f = refl
      go true true true e f = absurd (false≢true (sym (f refl)))
      go true false true e f = ap Some (omega arith)
      go true true false e f = refl
      go true false false e f = refl

-- ---- the terms of a file

pub length_more : (s : Store) (ts : List StoredTerm) (i : ℕ) (t : StoredTerm) → i < length ts → t ≡ get_or ts i t
    → length_of s (take (i + 1) ts) ≡ longer (length_of s (take i ts)) (state_of s t)
length_more s ts i t h is = ap (length_of s) (next ts i t h is) ∙ longer_is s t (take i ts)

pub long_is : (s : Store) (ts : List StoredTerm) → is_long (length_of s ts) ≡ (list_all (is_term_in s) ts && nat_le (2 ^ 64) (sum_by (term_length s) ts))
long_is s ts = go (list_all (is_term_in s) ts)
  where
    size : ℕ
    size = sum_by (term_length s) ts

    cut : nat_le (2 ^ 64) (min size (2 ^ 128 - 1)) ≡ nat_le (2 ^ 64) size
    cut = ⊎_elim
        (λ (h : size < 2 ^ 64). lt-leb (2 ^ 64) (min size (2 ^ 128 - 1)) (omega arith) ∙ sym (lt-leb (2 ^ 64) size h))
        (λ (h : 2 ^ 64 ≤ size). le-leb (2 ^ 64) (min size (2 ^ 128 - 1)) (omega arith) ∙ sym (le-leb (2 ^ 64) size h))
        (cases_lt size (2 ^ 64))

    go : (b : Bool) → is_long (cond b (Some (min size (2 ^ 128 - 1))) None) ≡ (b && nat_le (2 ^ 64) size)
    go true = cut
    go false = refl

-- one term more names chunks
pub in_more : (s : Store) (ts : List StoredTerm) (i : ℕ) (t : StoredTerm) → i < length ts → t ≡ get_or ts i t → list_all (is_term_in s) (take i ts) ≡ true
    → is_term_in s t ≡ true → list_all (is_term_in s) (take (i + 1) ts) ≡ true
in_more s ts i t h is was now =
    ap (list_all (is_term_in s)) (next ts i t h is) ∙ list_all-append (is_term_in s) (take i ts) (t ∷ []) ∙ rw (was, now) refl

-- one names none
pub not_in : (s : Store) (ts : List StoredTerm) (i : ℕ) (t : StoredTerm) → i < length ts → t ≡ get_or ts i t → is_term_in s t ≡ false → list_all (is_term_in s) ts ≡ false
not_in s ts i t h is out = list_all_at (is_term_in s) ts i t h (ap (is_term_in s) (sym is) ∙ out)

-- and where all name chunks, each does
pub all_in : (s : Store) (ts : List StoredTerm) (i : ℕ) (t : StoredTerm) → i < length ts → t ≡ get_or ts i t → list_all (is_term_in s) ts ≡ true → is_term_in s t ≡ true
all_in s ts i t h is all = ap (is_term_in s) is ∙ AllPass-from_list_all (is_term_in s) ts all i t h
