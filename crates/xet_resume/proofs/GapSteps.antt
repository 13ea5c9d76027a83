-- One gap more of those that a range touches.
use Rattle.std.proofs.Common.{◌≡◌, ℕ, ◌+◌, ◌-◌, ◌<◌, ◌≤◌, max, min, List, [], ◌∷◌, ◌++◌, length, take, drop, get_or, sym, ap, ◌∙◌, arith}
use Rattle.std.proofs.Common.{append-nil, take-append-drop}
use Rattle.std.specs.List.{AllByRecursion, sum_by}
use Rattle.std.proofs.lemmas.Grind.{flat_map-append}
use Rattle.std.proofs.lemmas.List.{drop_more, take_more}
use Rattle.std.proofs.lemmas.List.Sums.{sum_by-append, sum_by-cons}
use Rattle.xet_base.specs.declared.cas_types.FileRange.{FileRange}
use Rattle.xet_gaps.specs.Gaps.{AreGaps, Touches, missing_bytes, parts_of, some_range}
use Rattle.xet_gaps.proofs.CallerLemmas.{parts_are}
use Rattle.xet_resume.specs.steps.Filling.{common}
use Rattle.xet_resume.proofs.Chains.{one_part, touch_at}
use Rattle.xet_resume.proofs.Counts.{bytes_within}

abbrev bytes : FileRange → ℕ
bytes g = g.end - g.start

module _ (r : FileRange) (gs : List FileRange) (i : ℕ) (d : FileRange) (each : AllByRecursion (Touches r) gs)
    (l : i < length gs) where
  abbrev part : FileRange → List FileRange
  part g = some_range (max g.start r.start) (min g.end r.end)

  -- it has bytes of the range
  pub some_here : (common (get_or gs i d) r).start < (common (get_or gs i d) r).end
  some_here = touch_at r gs i d each l

  one : some_range (max (get_or gs i d).start r.start) (min (get_or gs i d).end r.end) ≡ common (get_or gs i d) r ∷ []
  one = one_part (get_or gs i d) r (touch_at r gs i d each l)

  pub parts_more : parts_of (take (i + 1) gs) r ≡ parts_of (take i gs) r ++ common (get_or gs i d) r ∷ []
  parts_more =
      ap (λ (xs : List FileRange). parts_of xs r) (take_more gs i d l)
      ∙ flat_map-append part (take i gs) (get_or gs i d ∷ [])
      ∙ ap (λ (ys : List FileRange). parts_of (take i gs) r ++ ys)
      (append-nil (some_range (max (get_or gs i d).start r.start) (min (get_or gs i d).end r.end)) ∙ one)

  pub parts_split : parts_of gs r ≡ parts_of (take i gs) r ++ common (get_or gs i d) r ∷ parts_of (drop (i + 1) gs) r
  parts_split =
      ap (λ (xs : List FileRange). parts_of xs r) (sym (take-append-drop i gs))
      ∙ flat_map-append part (take i gs) (drop i gs)
      ∙ ap (λ (xs : List FileRange). parts_of (take i gs) r ++ parts_of xs r) (drop_more gs i d l)
      ∙ ap (λ (ys : List FileRange). parts_of (take i gs) r ++ (ys ++ parts_of (drop (i + 1) gs) r)) one

  -- how many bytes that are
  pub count_more : missing_bytes (parts_of (take (i + 1) gs) r)
      ≡ missing_bytes (parts_of (take i gs) r) + bytes (common (get_or gs i d) r)
  count_more =
      let s = sum_by-append bytes (parts_of (take i gs) r) (common (get_or gs i d) r ∷ []) in
      let t = sum_by-cons bytes (common (get_or gs i d) r) [] in
      let z : sum_by bytes [] ≡ 0 = Rattle.std.proofs.Common.refl in
      ap missing_bytes parts_more ∙ (let y : missing_bytes (parts_of (take i gs) r ++ common (get_or gs i d) r ∷ [])
      ≡ missing_bytes (parts_of (take i gs) r) + bytes (common (get_or gs i d) r) = omega (arith, s, t, z) in y)

  pub count_within : (last : ℕ) → AreGaps 0 last gs
      → missing_bytes (parts_of (take i gs) r) + bytes (common (get_or gs i d) r) ≤ r.end
  count_within last a =
      let w = bytes_within (max 0 r.start) (min last r.end) (parts_of gs r) (parts_are r 0 last gs a) in
      let s =
      sum_by-append bytes (parts_of (take i gs) r) (common (get_or gs i d) r ∷ parts_of (drop (i + 1) gs) r) in
      let t = sum_by-cons bytes (common (get_or gs i d) r) (parts_of (drop (i + 1) gs) r) in
      let e = ap missing_bytes parts_split in
      omega (arith, w, s, t, e)
