-- The parts of bytes between places in order.
use Rattle.std.proofs.Common.{◌≡◌, ◌≢◌, ℕ, zero, suc, ◌+◌, ◌-◌, ◌<◌, ◌≤◌, ◌==◌, ◌^◌, ◌||◌, Bool, false, List, [], ◌∷◌, ◌++◌, length, drop, get_or, refl, sym, ◌∙◌, ap, subst, arith}
use Rattle.std.specs.Prelude.{slice_range}
use Rattle.std.specs.List.{concat, list_any}
use Rattle.std.proofs.lemmas.List.{drop_all, drop_more, drop-drop, length-drop, length-take-le, take-append-drop}
use Rattle.std.proofs.lemmas.Bool.Decides.{nat_tests}
use Rattle.xet_base.specs.declared.merklehash.MerkleHash.{MerkleHash}
use Rattle.xet_base.specs.declared.mdb_shard.Xorb.{Xorb}
use Rattle.xet_base.specs.Store.{IsValidXorb}
use Rattle.xet_outside.specs.Plan.{lengths}
use Rattle.xet_store.specs.Parts.{AreEnds, parts}
use Rattle.xet_store.specs.steps.Joined.{ends_of, IsJoined}

-- the first place is not past the last
pub ends-le : (p : ℕ) (es : List ℕ) (n : ℕ) → AreEnds p es n → p ≤ n
ends-le p [] n h = omega arith
ends-le p (e ∷ es) n h = let first = h.0 in let rest = ends-le e es n h.1 in omega arith

-- nor is any of them
pub ends-within : (p : ℕ) (es : List ℕ) (n i d : ℕ) → AreEnds p es n → i < length es → get_or es i d ≤ n
ends-within p [] n i d h l = absurd (omega arith)
ends-within p (e ∷ es) n zero d h l = ends-le e es n h.1
ends-within p (e ∷ es) n (suc i) d h l = ends-within e es n i d h.1 (omega arith)

pub length-parts : (bytes : List ℕ) (p : ℕ) (es : List ℕ) → length (parts bytes p es) ≡ length es
length-parts bytes p [] = refl
length-parts bytes p (e ∷ es) = ap suc (length-parts bytes e es)

-- how long a part is
pub length-part : (bytes : List ℕ) (p e : ℕ) → p ≤ e → e ≤ length bytes → length (slice_range bytes p e) ≡ e - p
length-part bytes p e h k = length-take-le (e - p) (drop p bytes) (omega (arith, length-drop p bytes))

-- the parts are all bytes from the first place on
pub concat-parts : (bytes : List ℕ) (p : ℕ) (es : List ℕ) → AreEnds p es (length bytes) → concat (parts bytes p es) ≡ drop p bytes
concat-parts bytes p [] h = sym (drop_all p bytes (omega (arith, h)))
concat-parts bytes p (e ∷ es) h =
    let next = concat-parts bytes e es h.1 in
    let first = h.0 in
    let n : p + (e - p) ≡ e = omega (arith, first) in
    let behind : drop (e - p) (drop p bytes) ≡ drop e bytes = drop-drop (e - p) p bytes ∙ ap (λ (k : ℕ). drop k bytes) n in
    ap (λ (xs : List ℕ). slice_range bytes p e ++ xs) (next ∙ sym behind) ∙ take-append-drop (e - p) (drop p bytes)

-- and they end at the places
pub ends-of-parts : (bytes : List ℕ) (p : ℕ) (es : List ℕ) → AreEnds p es (length bytes) → es ≡ ends_of p (lengths (parts bytes p es))
ends-of-parts bytes p [] h = refl
ends-of-parts bytes p (e ∷ es) h =
    let size = length-part bytes p e h.0 (ends-le e es (length bytes) h.1) in
    let here : e ≡ p + length (slice_range bytes p e) = omega (arith, size, h.0) in
    let next = ends-of-parts bytes e es h.1 in
    ap (λ (xs : List ℕ). e ∷ xs) next ∙ ap (λ (n : ℕ). n ∷ ends_of n (lengths (parts bytes e es))) here

abbrev pub is_empty : List ℕ → Bool
is_empty c = length c == 0

-- one part more, of parts from a place on
module _ (bytes es : List ℕ) (i start : ℕ) (within : i < length es) (h : AreEnds start (drop i es) (length bytes)) where
  abbrev e : ℕ
  e = get_or es i 0

  split : drop i es ≡ e ∷ drop (i + 1) es
  split = drop_more es i 0 within

  order : (start ≤ e) × AreEnds e (drop (i + 1) es) (length bytes)
  order = subst (λ (xs : List ℕ). AreEnds start xs (length bytes)) split h

  size : length (slice_range bytes start e) ≡ e - start
  size = length-part bytes start e order.0 (ends-le e (drop (i + 1) es) (length bytes) order.1)

  one : list_any is_empty (parts bytes start (drop i es)) ≡ ((length (slice_range bytes start e) == 0) || list_any is_empty (parts bytes e (drop (i + 1) es)))
  one = ap (λ (xs : List ℕ). list_any is_empty (parts bytes start xs)) split

  -- and no other is
  pub part-some : get_or es i 0 ≢ start → list_any is_empty (parts bytes start (drop i es)) ≡ list_any is_empty (parts bytes (get_or es i 0) (drop (i + 1) es))
  part-some apart =
      let first = order.0 in
      let some : (length (slice_range bytes start e) == 0) ≡ false = grind (arith, nat_tests, size, apart, first) in
      one ∙ ap (λ b. b || list_any is_empty (parts bytes e (drop (i + 1) es))) some

  pub ends-next : AreEnds (get_or es i 0) (drop (i + 1) es) (length bytes)
  ends-next = order.1

-- a valid xorb of such parts
module _ (hash : MerkleHash) (bytes es : List ℕ) (h : AreEnds 0 es (length bytes)) (x : Xorb) (is : x ≡ record { hash = hash; chunks = parts bytes 0 es }) (v : IsValidXorb x) where
  -- its bytes are fewer than 2 ^ 32
  pub joined-short : length bytes < 2 ^ 32
  joined-short =
      let all = ap (λ (y : Xorb). length (concat y.chunks)) is in
      let whole = ap length (concat-parts bytes 0 es h) in
      let short = v.byte_count in
      omega (arith, all, whole, short)

  -- it has a chunk for each end
  pub joined-count : length es ≡ length x.chunks
  joined-count = omega (arith, ap (λ (y : Xorb). length y.chunks) is, length-parts bytes 0 es)

  -- and it stands as a store keeps it
  pub parts-joined : IsJoined (record { hash = hash; chunks = parts bytes 0 es }) bytes (0 ∷ es)
  parts-joined = record {
    valid = subst IsValidXorb is v;
    bytes_are = sym (concat-parts bytes 0 es h);
    places_are = ap (λ (ps : List ℕ). 0 ∷ ps) (ends-of-parts bytes 0 es h);
  }
