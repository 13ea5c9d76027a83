-- Where chunks stand among their xorb's bytes.
use Rattle.std.proofs.Common.{◌≡◌, ℕ, ◌+◌, ◌-◌, ◌^◌, ◌<◌, ◌≤◌, Bool, true, false, cond, ◌&&◌, List, [], ◌∷◌, ◌++◌, length, map, take, get_or, refl, sym, ◌∙◌, ap, arith, Some, None, length-append}
use Rattle.std.specs.Prelude.{SomeIff, nat_le, nat_lt, slice_range}
use Rattle.std.specs.List.{concat, range_with_len}
use Rattle.std.proofs.Math.Seq.{take-add}
use Rattle.std.proofs.lemmas.Bool.{le-leb, lt-ltb, lt-leb, le-ltb}
use Rattle.std.proofs.lemmas.List.Folds.{concat-append}
use Rattle.std.proofs.lemmas.List.FromFn.{get_or-map-range_with_len, length-map-range_with_len, map-range_with_len_more}
use Rattle.xet_base.proofs.CallerLemmas.{concat_more}
use Rattle.xet_findings.specs.Places.{places_of}

-- how many bytes stand before the chunk of this number
abbrev pub place : List (List ℕ) → ℕ → ℕ
place cs k = length (concat (take k cs))

-- the places so far, with that behind one chunk more
pub places_more : (cs : List (List ℕ)) (i end size next : ℕ) (c : List ℕ) (before now : List ℕ) → i < length cs → c ≡ get_or cs i c → end ≡ place cs i → size ≡ length c
    → SomeIff (Some next) (end + size < 2 ^ 128) (end + size) → before ≡ map (place cs) (range_with_len 0 (i + 1)) → now ≡ before ++ next ∷ []
    → (next ≡ place cs (i + 1)) × (now ≡ map (place cs) (range_with_len 0 (i + 1 + 1)))
places_more cs i end size next c before now h is at len some was push =
    let grown : place cs (i + 1) ≡ place cs i + length c =
    ap length (concat_more cs i c h) ∙ length-append (concat (take i cs)) (get_or cs i c) ∙ ap (λ (x : List ℕ). place cs i + length x) (sym is) in
    let same : next ≡ place cs (i + 1) = omega (arith, some.1, at, len, grown) in (
      same,
      push ∙ ap (λ (ps : List ℕ). ps ++ next ∷ []) was ∙ ap (λ (n : ℕ). map (place cs) (range_with_len 0 (i + 1)) ++ n ∷ []) same
          ∙ sym (map-range_with_len_more (place cs) 0 (i + 1) (i + 1) (omega arith)),
    )

pub places_all : (cs : List (List ℕ)) (i : ℕ) (made : List ℕ) → length cs ≤ i → i ≤ length cs → made ≡ map (place cs) (range_with_len 0 (i + 1)) → made ≡ places_of cs
places_all cs i made past within e = let same : i ≡ length cs = omega arith in e ∙ ap (λ (n : ℕ). map (place cs) (range_with_len 0 (n + 1))) same

-- between two places are the bytes of the chunks between
pub places_apart : (cs : List (List ℕ)) (a b : ℕ) → a ≤ b → place cs b - place cs a ≡ length (concat (slice_range cs a b))
places_apart cs a b h =
    let n : a + (b - a) ≡ b = omega arith in
    let front : take b cs ≡ take a cs ++ slice_range cs a b = ap (λ (k : ℕ). take k cs) (sym n) ∙ take-add a (b - a) cs in
    omega (
      arith,
      ap (λ xs. length (concat xs)) front,
      ap length (concat-append (take a cs) (slice_range cs a b)),
      length-append (concat (take a cs)) (concat (slice_range cs a b)),
    )

module _ (cs : List (List ℕ)) (places : List ℕ) (are : places ≡ places_of cs) where
  pub places_count : length places ≡ length cs + 1
  places_count = ap length are ∙ length-map-range_with_len (place cs) 0 (length cs + 1)

  pub place_is : (k d : ℕ) → k ≤ length cs → get_or places k d ≡ place cs k
  place_is k d h = ap (λ (ps : List ℕ). get_or ps k d) are ∙ get_or-map-range_with_len (place cs) 0 (length cs + 1) k k d (omega arith) (omega arith)

-- what is said of a part that isn't from below to inside, and of one that is
pub not_between : (cs : List (List ℕ)) (from to : ℕ) → to ≤ from → cond (nat_lt from to && nat_le to (length cs)) (Some (length (concat (slice_range cs from to)))) None ≡ None
not_between cs from to h = ap (λ (b : Bool). cond (b && nat_le to (length cs)) (Some (length (concat (slice_range cs from to)))) None) (le-ltb from to h)

pub past_between : (cs : List (List ℕ)) (from to : ℕ) → length cs < to → cond (nat_lt from to && nat_le to (length cs)) (Some (length (concat (slice_range cs from to)))) None ≡ None
past_between cs from to h = go (nat_lt from to)
  where
    go : (b : Bool) → cond (b && nat_le to (length cs)) (Some (length (concat (slice_range cs from to)))) None ≡ None
    go true = ap (λ (c : Bool). cond c (Some (length (concat (slice_range cs from to)))) None) (lt-leb to (length cs) h)
    go false = refl

pub is_between : (cs : List (List ℕ)) (from to : ℕ) → from < to → to ≤ length cs → cond (nat_lt from to && nat_le to (length cs)) (Some (length (concat (slice_range cs from to)))) None ≡ Some (length (concat (slice_range cs from to)))
is_between cs from to h k = rw (lt-ltb from to h, le-leb to (length cs) k) refl
