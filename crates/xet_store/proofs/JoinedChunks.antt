-- The parts of joined lists, and where they stand.
use Rattle.std.proofs.Common.{subst, ◌≡◌, zero-add, ℕ, zero, suc, ◌+◌, ◌-◌, ◌≤◌, ◌<◌, List, [], ◌∷◌, ◌++◌, length, take, drop, get_or, refl, sym, ◌∙◌, ap, arith}
use Rattle.std.specs.Prelude.{sum, slice_range}
use Rattle.std.specs.List.{concat}
use Rattle.std.proofs.Math.Seq.{take-add}
use Rattle.std.proofs.lemmas.List.{take_at, drop_at, append_assoc, append-nil, length-append, length-map, take-map, take-append-drop, take_more, take_all, map_push}
use Rattle.std.proofs.lemmas.List.Sums.{sum_by-cons}
use Rattle.std.proofs.lemmas.List.Folds.{concat-append}
use Rattle.xet_base.specs.declared.mdb_shard.Xorb.{Xorb}
use Rattle.xet_base.specs.Store.{IsValidXorb}
use Rattle.xet_outside.specs.Plan.{lengths}
use Rattle.xet_store.specs.Parts.{parts}
use Rattle.xet_store.specs.steps.Joined.{ends_of, IsJoined}

-- how long the chunks are together
pub joined_length_is : (cs : List (List ℕ)) → sum (lengths cs) ≡ length (concat cs)
joined_length_is [] = refl
joined_length_is (c ∷ cs) =
    sum_by-cons (λ x. x) (length c) (lengths cs) ∙ ap (λ n. length c + n) (joined_length_is cs)
    ∙ sym (length-append c (concat cs))

-- a list between two others is the part of all that stands there
part_at : {A : Type 0} (front xs back : List A) (p : ℕ) → length front ≡ p
    → slice_range (front ++ (xs ++ back)) p (p + length xs) ≡ xs
part_at front xs back p e =
    let n : p + length xs - p ≡ length xs = omega arith in
    rw (drop_at front (xs ++ back) p e, n) (take_at xs back (length xs) refl)

-- the parts of joined chunks at the chunks' ends are the chunks
pub parts_are : (front : List ℕ) (cs : List (List ℕ)) (p : ℕ) → length front ≡ p
    → parts (front ++ concat cs) p (ends_of p (lengths cs)) ≡ cs
parts_are front [] p e = refl
parts_are front (c ∷ cs) p e =
    let here = part_at front c (concat cs) p e in
    let k : length (front ++ c) ≡ p + length c = omega (arith, length-append front c) in
    let next = parts_are (front ++ c) cs (p + length c) k in
    let move = append_assoc front c (concat cs) in
    ap (λ x. x ∷ parts (front ++ (c ++ concat cs)) (p + length c) (ends_of (p + length c) (lengths cs))) here
    ∙ ap (λ xs. c ∷ xs) (ap (λ bytes. parts bytes (p + length c) (ends_of (p + length c) (lengths cs))) (sym move)
    ∙ next)

pub length-ends_of : (p : ℕ) (ns : List ℕ) → length (ends_of p ns) ≡ length ns
length-ends_of p [] = refl
length-ends_of p (n ∷ ns) = ap suc (length-ends_of (p + n) ns)

-- the end of one of the lengths is the sum of those up to it
pub get_or-ends_of : (p : ℕ) (ns : List ℕ) (k d : ℕ) → k < length ns
    → get_or (ends_of p ns) k d ≡ p + sum (take (suc k) ns)
get_or-ends_of p [] k d h = absurd (omega arith)
get_or-ends_of p (n ∷ ns) zero d h = omega (arith, sum_by-cons (λ x. x) n [])
get_or-ends_of p (n ∷ ns) (suc k) d h =
    let next = get_or-ends_of (p + n) ns k d (omega arith) in
    omega (arith, next, sum_by-cons (λ x. x) n (take (suc k) ns))

-- the ends of one more length
pub ends_of_push : (p : ℕ) (ns : List ℕ) (n : ℕ) → ends_of p (ns ++ n ∷ []) ≡ ends_of p ns ++ (p + sum ns + n) ∷ []
ends_of_push p [] n = let e : p + n ≡ p + 0 + n = omega arith in ap (λ (k : ℕ). k ∷ []) e
ends_of_push p (m ∷ ns) n =
    let next = ends_of_push (p + m) ns n in
    let e : p + m + sum ns + n ≡ p + sum (m ∷ ns) + n = omega (arith, sum_by-cons (λ x. x) m ns) in
    ap (λ xs. (p + m) ∷ xs) (next ∙ ap (λ (k : ℕ). ends_of (p + m) ns ++ k ∷ []) e)

-- the place of a chunk is the length of the chunks before it
pub place_is : (cs : List (List ℕ)) (k : ℕ) → sum (take k (lengths cs)) ≡ length (concat (take k cs))
place_is cs k = ap sum (take-map length k cs) ∙ joined_length_is (take k cs)

-- the bytes of some of the chunks stand between the place of the first and that of the last one's end
pub concat-slice_range : (cs : List (List ℕ)) (a b : ℕ) → a ≤ b
    → concat (slice_range cs a b) ≡ slice_range (concat cs) (sum (take a (lengths cs))) (sum (take b (lengths cs)))
concat-slice_range cs a b h =
    let here = slice_range cs a b in
    let rest = drop (b - a) (drop a cs) in
    let split : concat cs ≡ concat (take a cs) ++ (concat here ++ concat rest) =
    ap concat (sym (take-append-drop a cs)) ∙ concat-append (take a cs) (drop a cs)
    ∙ ap (λ xs. concat (take a cs) ++ xs) (ap concat (sym (take-append-drop (b - a) (drop a cs)))
    ∙ concat-append here rest) in
    let p = place_is cs a in
    let n : a + (b - a) ≡ b = omega arith in
    let front : take b cs ≡ take a cs ++ here = ap (λ (k : ℕ). take k cs) (sym n) ∙ take-add a (b - a) cs in
    let q : sum (take b (lengths cs)) ≡ sum (take a (lengths cs)) + length (concat here) =
    omega (
      arith,
      p,
      place_is cs b,
      ap (λ xs. length (concat xs)) front,
      ap length (concat-append (take a cs) here),
      length-append (concat (take a cs)) (concat here),
    ) in
    sym (rw (split, q) (part_at (concat (take a cs)) (concat here) (concat rest) (sum (take a (lengths cs))) (sym p)))

-- the place of a later chunk is not below that of an earlier one, nor past the end
pub place-le : (cs : List (List ℕ)) (a b : ℕ) → a ≤ b → sum (take a (lengths cs)) ≤ sum (take b (lengths cs))
place-le cs a b h =
    let n : a + (b - a) ≡ b = omega arith in
    let front : take b cs ≡ take a cs ++ slice_range cs a b = ap (λ (k : ℕ). take k cs) (sym n)
    ∙ take-add a (b - a) cs in
    omega (
      arith,
      place_is cs a,
      place_is cs b,
      ap (λ xs. length (concat xs)) front,
      ap length (concat-append (take a cs) (slice_range cs a b)),
      length-append (concat (take a cs)) (concat (slice_range cs a b)),
    )

-- between the places of two chunks are the bytes of the chunks from the first to before the second
pub places_apart : (cs : List (List ℕ)) (a b : ℕ) → a ≤ b → sum (take b (lengths cs)) - sum (take a
    (lengths cs)) ≡ length (concat (slice_range cs a b))
places_apart cs a b h =
    let n : a + (b - a) ≡ b = omega arith in
    let front : take b cs ≡ take a cs ++ slice_range cs a b = ap (λ (k : ℕ). take k cs) (sym n)
    ∙ take-add a (b - a) cs in
    omega (
      arith,
      place_is cs a,
      place_is cs b,
      ap (λ xs. length (concat xs)) front,
      ap length (concat-append (take a cs) (slice_range cs a b)),
      length-append (concat (take a cs)) (concat (slice_range cs a b)),
    )

pub place_within : (cs : List (List ℕ)) (k : ℕ) → sum (take k (lengths cs)) ≤ length (concat cs)
place_within cs k =
    omega (
      arith,
      place_is cs k,
      ap (λ xs. length (concat xs)) (take-append-drop k cs),
      ap length (concat-append (take k cs) (drop k cs)),
      length-append (concat (take k cs)) (concat (drop k cs)),
    )

-- the joined chunks up to the next one
pub concat_more : (cs : List (List ℕ)) (i : ℕ) (d : List ℕ) → i < length cs
    → concat (take (i + 1) cs) ≡ concat (take i cs) ++ get_or cs i d
concat_more cs i d h = ap concat (take_more cs i d h) ∙ concat-append (take i cs) (get_or cs i d ∷ [])
    ∙ ap (λ xs. concat (take i cs) ++ xs) (append-nil (get_or cs i d))

-- and where they end
pub ends_of_more : (cs : List (List ℕ)) (i : ℕ) (d : List ℕ) → i < length cs
    → ends_of 0 (lengths (take (i + 1) cs)) ≡ ends_of 0 (lengths (take i cs)) ++ length (concat (take (i + 1) cs)) ∷ []
ends_of_more cs i d h =
    let push = ends_of_push 0 (lengths (take i cs)) (length (get_or cs i d)) in
    let e : 0 + sum (lengths (take i cs)) + length (get_or cs i d) ≡ length (concat (take (i + 1) cs)) =
    omega (
      arith,
      joined_length_is (take i cs),
      ap length (concat_more cs i d h),
      length-append (concat (take i cs)) (get_or cs i d),
    ) in
    ap (λ xs. ends_of 0 (lengths xs)) (take_more cs i d h) ∙ ap (ends_of 0) (map_push length (take i cs)
    (get_or cs i d)) ∙ push
    ∙ ap (λ (k : ℕ). ends_of 0 (lengths (take i cs)) ++ k ∷ []) e

-- the places of some lengths and of their end
pub get_or-places : (ns : List ℕ) (k d : ℕ) → k ≤ length ns → get_or (0 ∷ ends_of 0 ns) k d ≡ sum (take k ns)
get_or-places ns zero d h = refl
get_or-places ns (suc k) d h = get_or-ends_of 0 ns k d (omega arith) ∙ zero-add (sum (take (suc k) ns))

module _ (x : Xorb) (bytes places : List ℕ) (h : IsJoined x bytes places) where
  pub joined_count : length places ≡ length x.chunks + 1
  joined_count = omega (
    arith,
    ap length h.places_are,
    length-ends_of 0 (lengths x.chunks),
    length-map x.chunks length,
  )

  -- what stands at a chunk's number is the chunk's place
  pub joined_place : (k d : ℕ) → k ≤ length x.chunks → get_or places k d ≡ sum (take k (lengths x.chunks))
  joined_place k d inside =
      let within : k ≤ length (lengths x.chunks) = omega (arith, length-map x.chunks length) in
      ap (λ (ps : List ℕ). get_or ps k d) h.places_are ∙ get_or-places (lengths x.chunks) k d within

  -- the place behind the last chunk is how many bytes there are
  pub joined_last : (k : ℕ) → k ≡ length x.chunks → length bytes ≡ sum (take k (lengths x.chunks))
  joined_last k e =
      ap length h.bytes_are ∙ sym (place_is x.chunks k ∙ ap (λ (cs : List (List ℕ)). length (concat cs))
      (take_all k x.chunks (omega (arith, e))))

  pub joined_within : (k : ℕ) → sum (take k (lengths x.chunks)) ≤ length bytes
  joined_within k = omega (arith, place_within x.chunks k, ap length h.bytes_are)

  pub joined_part : (a b : ℕ) → a ≤ b → slice_range bytes (sum (take a (lengths x.chunks))) (sum (take b
      (lengths x.chunks))) ≡ concat (slice_range x.chunks a b)
  joined_part a b l =
      ap (λ (bs : List ℕ). slice_range bs (sum (take a (lengths x.chunks))) (sum (take b
      (lengths x.chunks)))) h.bytes_are ∙ sym (concat-slice_range x.chunks a b l)

pub length-concat-take : (cs : List (List ℕ)) (k : ℕ) → length (concat (take k cs)) ≤ length (concat cs)
length-concat-take cs k = omega (arith, place_is cs k, place_within cs k)

module _ (x : Xorb) (bytes places : List ℕ) (bytes_are : bytes ≡ concat x.chunks) (places_are : places ≡ 0 ∷ ends_of 0
    (lengths x.chunks)) where
  pub parts_are_chunks : parts bytes 0 (drop 1 places) ≡ x.chunks
  parts_are_chunks = rw (bytes_are, places_are) (parts_are [] x.chunks 0 refl)

  pub is_joined : IsValidXorb x
      → IsJoined (record { hash = x.hash; chunks = parts bytes 0 (drop 1 places) }) bytes places
  is_joined v =
      let joined : IsJoined x bytes places = record { valid = v; bytes_are = bytes_are; places_are = places_are } in
      subst (λ (cs : List (List ℕ)). IsJoined (record {
        hash = x.hash;
        chunks = cs;
      }) bytes places) (sym parts_are_chunks) joined

-- one step of joining: the chunk with this number is added
module _ (cs : List (List ℕ)) (i : ℕ) (chunk : List ℕ) (within : i < length cs) (item : chunk ≡ get_or cs i chunk) where
  pub joined_more : (joined : List ℕ) → joined ≡ concat (take i cs) → joined ++ chunk ≡ concat (take (i + 1) cs)
  joined_more joined e = ap (λ (xs : List ℕ). xs ++ chunk) e ∙ ap (λ (xs : List ℕ). concat (take i cs) ++ xs) item
      ∙ sym (concat_more cs i chunk within)

  pub places_more : (joined places : List ℕ) (n : ℕ) → joined ≡ concat (take (i + 1) cs)
      → places ≡ 0 ∷ ends_of 0 (lengths (take i cs)) → n ≡ length joined
      → places ++ n ∷ [] ≡ 0 ∷ ends_of 0 (lengths (take (i + 1) cs))
  places_more joined places n e f g =
      ap (λ (ps : List ℕ). ps ++ n ∷ []) f
      ∙ ap (λ (k : ℕ). 0 ∷ (ends_of 0 (lengths (take i cs)) ++ k ∷ [])) (g ∙ ap length e)
      ∙ ap (λ (es : List ℕ). 0 ∷ es) (sym (ends_of_more cs i chunk within))
