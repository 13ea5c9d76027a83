-- Ranges that are read one after another.
use Rattle.std.proofs.Common.{◌≡◌, ℕ, ◌+◌, ◌<◌, ◌==◌, Bool, true, false, cond, List, [], ◌∷◌, ◌++◌, length, None, Some, refl, sym, ◌∙◌, ap, arith}
use Rattle.std.proofs.Common.{append_assoc}
use Rattle.std.specs.Prelude.{Option, nat_le, nat_lt, option_and_then, option_map}
use Rattle.std.specs.List.{after_first, before_first, position_or_len, slice_split}
use Rattle.std.proofs.lemmas.Bool.{le-leb, lt-leb, ltb-true, ltb-false}
use Rattle.std.proofs.lemmas.List.Splits.{length-slice_split, slice_split_first, slice_split_none}
use Rattle.std.proofs.lemmas.List.Sums.{fails_before_first}
use Rattle.xet_base.specs.declared.cas_types.FileRange.{FileRange}
use Rattle.xet_serve_lines.specs.Requests.{range_of_text, ranges_of, ranges_of_texts}
use Rattle.xet_serve_lines.specs.steps.Buffers.{first_by, first_part}

-- the texts between commas
abbrev pub parts : List ℕ → List (List ℕ)
parts text = slice_split (λ b. b == 44) text

-- those behind a comma, if there is one
abbrev others : Option (List ℕ) → List (List ℕ)
others None = []
others (Some behind) = parts behind

abbrev place : List ℕ → ℕ
place text = position_or_len (λ b. b == 44) text

pub parts_first : (text part : List ℕ) (behind : Option (List ℕ)) → (part, behind) ≡ first_part text
    → parts text ≡ part ∷ others behind
parts_first text part behind e = go (nat_lt (place text) (length text)) refl
  where
    front : Option (List ℕ × List ℕ)
    front = Some (before_first (λ b. b == 44) text, after_first (λ b. b == 44) text)

    same : (c : Bool) → nat_lt (place text) (length text) ≡ c → (part, behind) ≡ first_by text (cond c front None)
    same c h = e ∙ ap (λ (d : Bool). first_by text (cond d front None)) h

    go : (c : Bool) → nat_lt (place text) (length text) ≡ c → parts text ≡ part ∷ others behind
    go true h =
        slice_split_first (λ (b : ℕ). b == 44) text 0 (ltb-true (place text) (length text) h)
        ∙ sym (ap (λ (x : List ℕ × Option (List ℕ)). x.0 ∷ others x.1) (same true h))
    go false h =
        slice_split_none (λ (b : ℕ). b == 44) text
        (λ k d i. fails_before_first (λ (b : ℕ). b == 44) text k d
        (let l = ltb-false (place text) (length text) h in omega (arith, l, i)))
        ∙ sym (ap (λ (x : List ℕ × Option (List ℕ)). x.0 ∷ others x.1) (same false h))

-- the first so many ranges were read, up to what is left of the text
pub record RangesSoFar (text rest : List ℕ) (i : ℕ) (ranges : List FileRange) : Type 0 where
  pub count : length (parts text) ≡ i + length (parts rest)
  pub read : ranges_of_texts (parts text) ≡ option_map (λ rs. ranges ++ rs) (ranges_of_texts (parts rest))

none_read : (o : Option (List FileRange)) → o ≡ option_map (λ rs. [] ++ rs) o
none_read None = refl
none_read (Some rs) = refl

pub ranges_start : (text : List ℕ) → RangesSoFar text text 0 []
ranges_start text = record { count = omega arith; read = none_read (ranges_of_texts (parts text)) }

one_read : (ranges : List FileRange) (r : FileRange) (o : Option (List FileRange))
    → option_map (λ rs. ranges ++ rs) (option_map (λ rs. r ∷ rs) o) ≡ option_map (λ rs. (ranges ++ r ∷ []) ++ rs) o
one_read ranges r None = refl
one_read ranges r (Some rs) = ap (λ (l : List FileRange). Some l) (sym (append_assoc ranges (r ∷ []) rs))

either : (c : Bool) → ◌≡◌ {A = Option (List FileRange)} None (cond c None None)
either true = refl
either false = refl

-- the ranges of the first part and of the others
abbrev with_first : Option FileRange → List (List ℕ) → Option (List FileRange)
with_first None ts = None
with_first (Some r) ts = option_map (λ rs. r ∷ rs) (ranges_of_texts ts)

then_is : (o : Option FileRange) (ts : List (List ℕ))
    → option_and_then (λ r. option_map (λ rs. r ∷ rs) (ranges_of_texts ts)) o ≡ with_first o ts
then_is None ts = refl
then_is (Some r) ts = refl

first_then : (t : List ℕ) (ts : List (List ℕ)) → ranges_of_texts (t ∷ ts) ≡ with_first (range_of_text t) ts
first_then t ts = then_is (range_of_text t) ts

module _ (text rest part : List ℕ) (behind : Option (List ℕ)) (i : ℕ) (ranges : List FileRange)
    (h : RangesSoFar text rest i ranges) (first : (part, behind) ≡ first_part rest) where
  read_is : (o : Option FileRange) → o ≡ range_of_text part
      → ranges_of_texts (parts text) ≡ option_map (λ rs. ranges ++ rs) (with_first o (others behind))
  read_is o e =
      h.read
      ∙ ap (λ (ts : List (List ℕ)). option_map (λ rs. ranges ++ rs) (ranges_of_texts ts)) (parts_first rest part behind first)
      ∙ ap (λ (v : Option (List FileRange)). option_map (λ rs. ranges ++ rs) v)
      (first_then part (others behind) ∙ sym (ap (λ (v : Option FileRange). with_first v (others behind)) e))

  count_is : length (parts text) ≡ i + (1 + length (others behind))
  count_is =
      let a = h.count in
      let b = ap (λ (ts : List (List ℕ)). length ts) (parts_first rest part behind first) in
      omega (arith, a, b)

  -- the next part is no range
  pub ranges_bad : None ≡ range_of_text part → None ≡ ranges_of text
  ranges_bad e =
      either (nat_le (length (parts text)) 16)
      ∙ ap (λ (v : Option (List FileRange)). cond (nat_le (length (parts text)) 16) v None) (sym (read_is None e))

pub ranges_more : (text rest part behind : List ℕ) (i : ℕ) (ranges : List FileRange) (r : FileRange)
    → RangesSoFar text rest i ranges → (part, Some behind) ≡ first_part rest → Some r ≡ range_of_text part
    → RangesSoFar text behind (i + 1) (ranges ++ r ∷ [])
ranges_more text rest part behind i ranges r h first e = record {
  count = (let a = count_is text rest part (Some behind) i ranges h first in omega (arith, a));
  read =
      read_is text rest part (Some behind) i ranges h first (Some r) e
      ∙ one_read ranges r (ranges_of_texts (parts behind));
}

-- the last part is a range
pub ranges_last : (text rest part : List ℕ) (i : ℕ) (ranges : List FileRange) (r : FileRange)
    → RangesSoFar text rest i ranges → (part, None) ≡ first_part rest → Some r ≡ range_of_text part → i < 16
    → Some (ranges ++ r ∷ []) ≡ ranges_of text
ranges_last text rest part i ranges r h first e few =
    let a = count_is text rest part None i ranges h first in
    let short : nat_le (length (parts text)) 16 ≡ true = le-leb (length (parts text)) 16 (omega (arith, a, few)) in
    sym (ap (λ (c : Bool). cond c (ranges_of_texts (parts text)) None) short
    ∙ read_is text rest part None i ranges h first (Some r) e)

-- there are more than 16 parts
pub ranges_many : (text rest : List ℕ) (ranges : List FileRange) → RangesSoFar text rest 16 ranges → None ≡ ranges_of text
ranges_many text rest ranges h =
    let a = h.count in
    let b = length-slice_split (λ (b : ℕ). b == 44) rest in
    let long : nat_le (length (parts text)) 16 ≡ false = lt-leb (length (parts text)) 16 (omega (arith, a, b)) in
    sym (ap (λ (c : Bool). cond c (ranges_of_texts (parts text)) None) long)
