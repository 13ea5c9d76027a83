-- How many bytes gaps have, less a range and in common with it.
use Rattle.std.proofs.Common.{◌≡◌, ℕ, ◌+◌, ◌-◌, ◌<◌, ◌≤◌, max, min, Bool, true, false, cond, List, [], ◌∷◌, ◌++◌, refl, ◌∙◌, arith, nat_lt}
use Rattle.std.specs.List.{flat_map, sum_by}
use Rattle.std.proofs.lemmas.Bool.{ltb-false, ltb-true}
use Rattle.std.proofs.lemmas.List.Sums.{sum_by-append, sum_by-cons}
use Rattle.xet_base.specs.declared.cas_types.FileRange.{FileRange}
use Rattle.xet_gaps.specs.Gaps.{around, less, missing_bytes, parts_of, some_range}
use Rattle.xet_gaps.specs.Laws.{PartsAreCounted}
use Rattle.xet_gaps.proofs.GapBytes.{range}

abbrev bytes : FileRange → ℕ
bytes g = g.end - g.start

some_bytes : (a b : ℕ) → missing_bytes (some_range a b) ≡ b - a
some_bytes a b = by (nat_lt a b) refl
  where
    by : (v : Bool) → nat_lt a b ≡ v → missing_bytes (cond v (range a b ∷ []) []) ≡ b - a
    by true e = let s = sum_by-cons bytes (range a b) [] in let z : sum_by bytes [] ≡ 0 = refl in omega (arith, s, z)
    by false e = let h = ltb-false a b e in let z : sum_by bytes [] ≡ 0 = refl in omega (arith, h, z)

-- three pieces of a gap
pieces : (gs ge rs re : ℕ) → rs < re
    → ((min ge rs - gs) + (ge - max gs re)) + (min ge re - max gs rs) ≡ ge - gs
pieces gs ge rs re h = omega (arith, h)

one : (r g : FileRange) → r.start < r.end
    → missing_bytes (around r g) + missing_bytes (some_range (max g.start r.start) (min g.end r.end)) ≡ bytes g
one r g some =
    let s = sum_by-append bytes (some_range g.start (min g.end r.start)) (some_range (max g.start r.end) g.end) in
    let a = some_bytes g.start (min g.end r.start) in
    let b = some_bytes (max g.start r.end) g.end in
    let c = some_bytes (max g.start r.start) (min g.end r.end) in
    let d = pieces g.start g.end r.start r.end some in
    rw (s, a, b, c) d

-- sums of four
four : (a b c d e f : ℕ) → a + c ≡ e → b + d ≡ f → (a + b) + (c + d) ≡ e + f
four a b c d e f h k = omega (arith, h, k)

flat : (r : FileRange) (gs : List FileRange) → r.start < r.end
    → missing_bytes (flat_map (around r) gs) + missing_bytes (parts_of gs r) ≡ missing_bytes gs
flat r [] some = refl
flat r (g ∷ gs) some =
    let mid = some_range (max g.start r.start) (min g.end r.end) in
    let a = sum_by-append bytes (around r g) (flat_map (around r) gs) in
    let b = sum_by-append bytes (some_range (max g.start r.start) (min g.end r.end)) (parts_of gs r) in
    let c = sum_by-cons bytes g gs in
    let d = four (missing_bytes (around r g)) (missing_bytes (flat_map (around r) gs))
    (missing_bytes (some_range (max g.start r.start) (min g.end r.end))) (missing_bytes (parts_of gs r)) (bytes g)
    (missing_bytes gs) (one r g some) (flat r gs some) in
    rw (a, b, c) d

-- a range without bytes has no parts
none : (r : FileRange) (gs : List FileRange) → r.end ≤ r.start → missing_bytes (parts_of gs r) ≡ 0
none r [] h = refl
none r (g ∷ gs) h =
    let b = sum_by-append bytes (some_range (max g.start r.start) (min g.end r.end)) (parts_of gs r) in
    let c = some_bytes (max g.start r.start) (min g.end r.end) in
    let d = none r gs h in
    let e : min g.end r.end - max g.start r.start ≡ 0 = omega (arith, h) in
    omega (arith, b, c, d, e)

pub parts_counted : PartsAreCounted
parts_counted gs r = by (nat_lt r.start r.end) refl
  where
    by : (v : Bool) → nat_lt r.start r.end ≡ v
        → missing_bytes (cond v (flat_map (around r) gs) gs) + missing_bytes (parts_of gs r) ≡ missing_bytes gs
    by true e = flat r gs (ltb-true r.start r.end e)
    by false e = let h = none r gs (ltb-false r.start r.end e) in omega (arith, h)
