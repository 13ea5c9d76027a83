-- The parts of a block, range by range.
use Rattle.std.proofs.Common.{◌≡◌, ℕ, ◌+◌, ◌-◌, ◌≤◌, ◌<◌, List, [], ◌∷◌, ◌++◌, length, take, drop, map, get_or, sym, ◌∙◌, ap, arith, subst}
use Rattle.std.specs.Prelude.{sum, slice_range}
use Rattle.std.specs.List.{concat, flat_map}
use Rattle.std.proofs.lemmas.List.{length-append, length-map, length-take, length-drop, map-append, append-nil, append_assoc, get_or-map, take_more, take_all, drop_more}
use Rattle.std.proofs.lemmas.List.Folds.{concat-append}
use Rattle.std.proofs.lemmas.List.Sums.{sum_by-cons}
use Rattle.xet_base.specs.declared.cas_types.ChunkRange.{ChunkRange}
use Rattle.xet_base.specs.Lists.{placed, starts}
use Rattle.xet_base.specs.Ranges.{Ascend}
use Rattle.xet_outside.specs.Plan.{lengths}
use Rattle.xet_outside.proofs.CallerLemmas.{sum_lengths}
use Rattle.xet_store.proofs.CutTerms.{place_in, placed_at, length-placed}
use Rattle.xet_store.proofs.UsedXorbs.{Ascend_at}
use Rattle.xet_store.proofs.JoinedChunks.{place-le, place_within}
use Rattle.xet_store.proofs.ChunkPlaces.{place_length}

-- the chunks of some ranges
abbrev pub chunks_by : List (List ℕ) → List ChunkRange → List (List ℕ)
chunks_by cs rs = flat_map (λ r. slice_range cs r.start r.end) rs

-- ascending ranges have at most the bytes that there are
pub ascend_size : (cs : List (List ℕ)) (low : ℕ) (rs : List ChunkRange) → Ascend low (length cs) rs
    → sum (take low (lengths cs)) + length (concat (chunks_by cs rs)) ≤ length (concat cs)
ascend_size cs low [] a = omega (arith, place_within cs low)
ascend_size cs low (r ∷ rs) a =
    let x : low ≤ r.start = a.0 in
    let y : r.start < r.end = a.1 in
    let next = ascend_size cs r.end rs a.3 in
    let le = place-le cs low r.start x in
    let here = place_length cs r.start r.end (omega arith) in
    let n = ap length (concat-append (slice_range cs r.start r.end) (chunks_by cs rs)) in
    omega (arith, next, le, here, n, length-append (concat (slice_range cs r.start r.end)) (concat (chunks_by cs rs)))

placed-append : (p : ℕ) (ms ns : List ℕ) → placed p (ms ++ ns) ≡ placed p ms ++ placed (p + sum ms) ns
placed-append p [] ns = let e : p ≡ p + 0 = omega arith in ap (λ (x : ℕ). placed x ns) e
placed-append p (m ∷ ms) ns =
    let e : p + m + sum ms ≡ p + sum (m ∷ ms) = omega (arith, sum_by-cons (λ x. x) m ms) in
    ap (λ (xs : List (ℕ × ℕ)). (p, m) ∷ xs) (placed-append (p + m) ms ns
    ∙ ap (λ (x : ℕ). placed (p + m) ms ++ placed x ns) e)

-- the places of the chunks of some ranges, from a place on
abbrev pub places_from : List (List ℕ) → ℕ → List ChunkRange → List ℕ
places_from cs p rs = map (λ c. c.0) (placed p (lengths (chunks_by cs rs)))

abbrev pub places_of : List (List ℕ) → ℕ → ChunkRange → List ℕ
places_of cs p r = map (λ c. c.0) (placed p (lengths (slice_range cs r.start r.end)))

places_cons : (cs : List (List ℕ)) (p : ℕ) (r : ChunkRange) (rs : List ChunkRange)
    → places_from cs p (r ∷ rs) ≡ places_of cs p r ++ places_from cs (p + length (concat
    (slice_range cs r.start r.end))) rs
places_cons cs p r rs =
    let s = slice_range cs r.start r.end in
    ap (λ (ns : List ℕ). map (λ (c : ℕ × ℕ). c.0) (placed p ns)) (map-append (λ (c : List ℕ). length c) s
    (chunks_by cs rs))
    ∙ ap (λ (xs : List (ℕ × ℕ)). map (λ (c : ℕ × ℕ). c.0) xs) (placed-append p (lengths s) (lengths (chunks_by cs rs)))
    ∙ map-append (λ (c : ℕ × ℕ). c.0) (placed p (lengths s)) (placed (p + sum (lengths s)) (lengths (chunks_by cs rs)))
    ∙ ap (λ (n : ℕ). places_of cs p r ++ places_from cs (p + n) rs) (sum_lengths s)

-- a walk over ranges: the offsets so far, and those still to come
pub record IsOffset (cs : List (List ℕ)) (rs : List ChunkRange) (i place : ℕ) (offsets : List ℕ) : Type 0 where
  pub place_is : place + length (concat (chunks_by cs (drop i rs))) ≡ length (concat (chunks_by cs rs))
  pub offsets_are : offsets ++ places_from cs place (drop i rs) ≡ starts (lengths (chunks_by cs rs))

pub offset_more : (cs : List (List ℕ)) (rs : List ChunkRange) (i place size : ℕ) (offsets more : List ℕ)
    (d : ChunkRange) → IsOffset cs rs i place offsets → i < length rs
    → more ≡ offsets ++ places_of cs place (get_or rs i d) → size ≡ length (concat (slice_range cs (get_or rs i d).start
    (get_or rs i d).end))
    → IsOffset cs rs (i + 1) (place + size) more
offset_more cs rs i place size offsets more d w l e z =
    let r = get_or rs i d in
    let rest = drop (i + 1) rs in
    let s = slice_range cs r.start r.end in
    let cut : drop i rs ≡ r ∷ rest = drop_more rs i d l in
    let p0 : place + length (concat (s ++ chunks_by cs rest)) ≡ length (concat (chunks_by cs rs)) = subst (λ
    (us : List ChunkRange). place + length (concat (chunks_by cs us)) ≡ length (concat
    (chunks_by cs rs))) cut w.place_is in
    let o0 : offsets ++ places_from cs place (r ∷ rest) ≡ starts (lengths (chunks_by cs rs)) = subst (λ
    (us : List ChunkRange). offsets ++ places_from cs place us ≡ starts (lengths
    (chunks_by cs rs))) cut w.offsets_are in
    let n = ap length (concat-append s (chunks_by cs rest)) in
    record {
      place_is = omega (arith, p0, z, n, length-append (concat s) (concat (chunks_by cs rest)));
      offsets_are =
          ap (λ (us : List ℕ). us ++ places_from cs (place + size) rest) e
          ∙ append_assoc offsets (places_of cs place r) (places_from cs (place + size) rest)
          ∙ ap (λ (n : ℕ). offsets ++ (places_of cs place r ++ places_from cs (place + n) rest)) z
          ∙ ap (λ (us : List ℕ). offsets ++ us) (sym (places_cons cs place r rest)) ∙ o0;
    }

-- what a step needs: the range is within the xorb, and its end fits
pub record IsRoom (cs : List (List ℕ)) (place : ℕ) (r : ChunkRange) : Type 0 where
  pub some : r.start ≤ r.end
  pub inside : r.end ≤ length cs
  pub fits : place + length (concat (slice_range cs r.start r.end)) ≤ length (concat cs)

pub offset_room : (cs : List (List ℕ)) (rs : List ChunkRange) (i place : ℕ) (offsets : List ℕ) (d : ChunkRange)
    → Ascend 0 (length cs) rs → IsOffset cs rs i place offsets → i < length rs → IsRoom cs place (get_or rs i d)
offset_room cs rs i place offsets d a w l =
    let r = get_or rs i d in
    let rest = drop (i + 1) rs in
    let s = slice_range cs r.start r.end in
    let cut : drop i rs ≡ r ∷ rest = drop_more rs i d l in
    let at = Ascend_at 0 (length cs) rs i d a l in
    let x = at.0 in
    let total = ascend_size cs 0 rs a in
    let p0 : place + length (concat (s ++ chunks_by cs rest)) ≡ length (concat (chunks_by cs rs)) = subst (λ
    (us : List ChunkRange). place + length (concat (chunks_by cs us)) ≡ length (concat
    (chunks_by cs rs))) cut w.place_is in
    let n = ap length (concat-append s (chunks_by cs rest)) in
    record {
      some = omega (arith, x);
      inside = at.1;
      fits = omega (arith, total, p0, n, length-append (concat s) (concat (chunks_by cs rest)));
    }

-- one chunk of a range more
pub place_more_in : (cs : List (List ℕ)) (p : ℕ) (r : ChunkRange) (k at : ℕ) (old more : List ℕ) → r.start ≤ k
    → k < r.end → r.end ≤ length cs → at ≡ p + (sum (take k (lengths cs)) - sum (take r.start (lengths cs)))
    → more ≡ old ++ at ∷ [] → (all : List ℕ) → old ≡ all ++ take (k - r.start) (places_of cs p r)
    → more ≡ all ++ take ((k + 1) - r.start) (places_of cs p r)
place_more_in cs p r k at old more low high inside e f all g =
    let xs = slice_range cs r.start r.end in
    let ns = lengths xs in
    let ps = placed p ns in
    let i = k - r.start in
    let many : i < length ns = omega (
      arith,
      length-map xs (λ c. length c),
      length-take (r.end - r.start) (drop r.start cs),
      length-drop r.start cs,
    ) in
    let long : i < length ps = omega (arith, many, length-placed p ns) in
    let long' : i < length (places_of cs p r) = omega (arith, long, length-map ps (λ c. c.0)) in
    let one = place_in cs r.start r.end i (omega arith) in
    let f1 : r.start + i ≡ k = omega arith in
    let s1 = ap (λ (m : ℕ). sum (take m (lengths cs))) f1 in
    let here : p + sum (take i ns) ≡ at = omega (arith, one, s1, e) in
    let read : get_or (places_of cs p r) i 0 ≡ at = get_or-map (λ (c : ℕ × ℕ). c.0) ps i (0, 0) 0 long
    ∙ ap (λ (c : ℕ × ℕ). c.0) (placed_at p ns i (0, 0) many) ∙ here in
    let next : i + 1 ≡ (k + 1) - r.start = omega arith in
    f ∙ ap (λ (us : List ℕ). us ++ at ∷ []) g ∙ append_assoc all (take i (places_of cs p r)) (at ∷ [])
    ∙ ap (λ (us : List ℕ). all ++ us) (ap (λ (x : ℕ). take i (places_of cs p r) ++ x ∷ []) (sym read)
    ∙ sym (take_more (places_of cs p r) i 0 long') ∙ ap (λ (m : ℕ). take m (places_of cs p r)) next)

-- all chunks of a range
pub places_done : (cs : List (List ℕ)) (p : ℕ) (r : ChunkRange) (k : ℕ) (all more : List ℕ) → r.start ≤ r.end
    → k ≡ r.end → r.end ≤ length cs → more ≡ all ++ take (k - r.start) (places_of cs p r)
    → more ≡ all ++ places_of cs p r
places_done cs p r k all more h e inside f =
    let xs = slice_range cs r.start r.end in
    f ∙ ap (λ (us : List ℕ). all ++ us) (take_all (k - r.start) (places_of cs p r)
    (omega (
      arith,
      length-map (placed p (lengths xs)) (λ c. c.0),
      length-placed p (lengths xs),
      length-map xs (λ c. length c),
      length-take (r.end - r.start) (drop r.start cs),
      length-drop r.start cs,
    )))

pub places_none : (cs : List (List ℕ)) (p : ℕ) (r : ChunkRange) (all : List ℕ)
    → all ≡ all ++ take (r.start - r.start) (places_of cs p r)
places_none cs p r all = let z : r.start - r.start ≡ 0 = omega arith in sym (ap (λ (m : ℕ). all ++ take m
    (places_of cs p r)) z ∙ append-nil all)

-- the joined bytes, one range more
pub bytes_more : (cs : List (List ℕ)) (rs : List ChunkRange) (i : ℕ) (d : ChunkRange) → i < length rs
    → concat (chunks_by cs (take (i + 1) rs)) ≡ concat (chunks_by cs (take i rs)) ++ concat (slice_range cs
    (get_or rs i d).start (get_or rs i d).end)
bytes_more cs rs i d l = ap (λ (us : List ChunkRange). concat (chunks_by cs us)) (take_more rs i d l) ∙ go (take i rs)
  where
    r : ChunkRange
    r = get_or rs i d

    go : (us : List ChunkRange) → concat (chunks_by cs (us ++ r ∷ [])) ≡ concat (chunks_by cs us) ++ concat
        (slice_range cs r.start r.end)
    go [] = ap concat (append-nil (slice_range cs r.start r.end))
    go (u ∷ us) =
        concat-append (slice_range cs u.start u.end) (chunks_by cs (us ++ r ∷ []))
        ∙ ap (λ (xs : List ℕ). concat (slice_range cs u.start u.end) ++ xs) (go us)
        ∙ sym (append_assoc (concat (slice_range cs u.start u.end)) (concat (chunks_by cs us)) (concat
        (slice_range cs r.start r.end)))
        ∙ ap (λ (xs : List ℕ). xs ++ concat (slice_range cs r.start r.end)) (sym (concat-append
        (slice_range cs u.start u.end) (chunks_by cs us)))
