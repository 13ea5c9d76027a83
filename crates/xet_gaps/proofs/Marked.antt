-- The gaps less a range, by the gaps that it touches.
use Rattle.std.proofs.Common.{◌≡◌, ℕ, zero, suc, ◌+◌, ◌-◌, ◌<◌, ◌≤◌, max, min, Bool, cond, List, [], ◌∷◌, ◌++◌, length, take, drop}
use Rattle.std.proofs.Common.{get_or, refl, sym, ap, subst, ◌∙◌, ⊎_elim, arith, append-nil, append_assoc, nat_lt, slice_range}
use Rattle.std.proofs.Common.{take-append-drop}
use Rattle.std.specs.List.{AllByRecursion, flat_map}
use Rattle.std.proofs.Math.Seq.{drop-drop}
use Rattle.std.proofs.lemmas.Bool.{cases_lt, le-ltb, lt-ltb}
use Rattle.std.proofs.lemmas.Grind.{flat_map-append}
use Rattle.std.proofs.lemmas.List.{get_or-drop, get_or-take, length-drop, length-take}
use Rattle.std.proofs.lemmas.List.Folds.{drop_split}
use Rattle.xet_base.specs.declared.cas_types.FileRange.{FileRange}
use Rattle.xet_gaps.specs.Gaps.{AreGaps, Touches, around, less, parts_of, some_range}
use Rattle.xet_gaps.specs.steps.Touching.{EndsBefore, HasSome, StartsBehind, Touched}
use Rattle.xet_gaps.proofs.GapBytes.{range}
use Rattle.xet_gaps.proofs.GapLists.{lower}

-- ---- fronts and backs of gaps

pub gaps_take : (low end n : ℕ) (gs : List FileRange) → AreGaps low end gs → AreGaps low end (take n gs)
gaps_take low end zero gs a = tt
gaps_take low end (suc n) [] a = tt
gaps_take low end (suc n) (g ∷ gs) a = (a.0, a.1, a.2, gaps_take (g.end + 1) end n gs a.3)

pub gaps_drop : (low end n : ℕ) (gs : List FileRange) → AreGaps low end gs → AreGaps 0 end (drop n gs)
gaps_drop low end zero gs a = lower low 0 end gs (omega arith) a
gaps_drop low end (suc n) [] a = tt
gaps_drop low end (suc n) (g ∷ gs) a = gaps_drop (g.end + 1) end n gs a.3

pub gaps_slice : (end from to : ℕ) (gs : List FileRange) → AreGaps 0 end gs → AreGaps 0 end (slice_range gs from to)
gaps_slice end from to gs a = gaps_take 0 end (to - from) (drop from gs) (gaps_drop 0 end from gs a)

-- a list in three parts
three : (gs : List FileRange) (from to : ℕ) → from ≤ to → take from gs ++ (slice_range gs from to ++ drop to gs) ≡ gs
three gs from to h =
    ap (λ (l : List FileRange). take from gs ++ l) (sym (drop_split gs from to h)) ∙ take-append-drop from gs

-- ---- one gap

some_yes : (a b : ℕ) → a < b → some_range a b ≡ range a b ∷ []
some_yes a b h = ap (λ (v : Bool). cond v (range a b ∷ []) []) (lt-ltb a b h)

some_no : (a b : ℕ) → b ≤ a → some_range a b ≡ []
some_no a b h = ap (λ (v : Bool). cond v (range a b ∷ []) []) (le-ltb a b h)

-- before the range, behind it, and touched
ended : (r g : FileRange) → r.start < r.end → g.start < g.end → EndsBefore r g → around r g ≡ g ∷ []
ended r g some has h =
    let e : min g.end r.start ≡ g.end = omega (arith, h) in
    let whole : some_range g.start (min g.end r.start) ≡ g ∷ [] =
    ap (λ (n : ℕ). some_range g.start n) e ∙ some_yes g.start g.end has in
    ap (λ (l : List FileRange). l ++ some_range (max g.start r.end) g.end) whole
    ∙ ap (λ (l : List FileRange). g ∷ l) (some_no (max g.start r.end) g.end (omega (arith, some, h)))

started : (r g : FileRange) → r.start < r.end → g.start < g.end → StartsBehind r g → around r g ≡ g ∷ []
started r g some has h =
    let e : max g.start r.end ≡ g.start = omega (arith, h) in
    let whole : some_range (max g.start r.end) g.end ≡ g ∷ [] =
    ap (λ (n : ℕ). some_range n g.end) e ∙ some_yes g.start g.end has in
    ap (λ (l : List FileRange). l ++ some_range (max g.start r.end) g.end)
    (some_no g.start (min g.end r.start) (omega (arith, some, h))) ∙ whole

cut : (r g : FileRange) → HasSome r g → around r g ≡ some_range g.start r.start ++ some_range r.end g.end
cut r g h =
    let low = h.0 in
    let high = h.1 in
    let a : min g.end r.start ≡ r.start = omega (arith, high) in
    let b : max g.start r.end ≡ r.end = omega (arith, low) in
    ap (λ (n : ℕ). some_range g.start n ++ some_range (max g.start r.end) g.end) a
    ∙ ap (λ (n : ℕ). some_range g.start r.start ++ some_range n g.end) b

-- ---- gaps before the range, behind it, and touched

all_ended : (r : FileRange) (low end : ℕ) (gs : List FileRange) → r.start < r.end → AreGaps low end gs
    → AllByRecursion (EndsBefore r) gs → flat_map (around r) gs ≡ gs
all_ended r low end [] some a h = refl
all_ended r low end (g ∷ gs) some a h =
    ap (λ (l : List FileRange). l ++ flat_map (around r) gs) (ended r g some a.1 h.0)
    ∙ ap (λ (l : List FileRange). g ∷ l) (all_ended r (g.end + 1) end gs some a.3 h.1)

all_started : (r : FileRange) (low end : ℕ) (gs : List FileRange) → r.start < r.end → AreGaps low end gs
    → AllByRecursion (StartsBehind r) gs → flat_map (around r) gs ≡ gs
all_started r low end [] some a h = refl
all_started r low end (g ∷ gs) some a h =
    ap (λ (l : List FileRange). l ++ flat_map (around r) gs) (started r g some a.1 h.0)
    ∙ ap (λ (l : List FileRange). g ∷ l) (all_started r (g.end + 1) end gs some a.3 h.1)

-- of the touched ones the first has something before the range, and the last behind it
all_cut : (r d : FileRange) (low end : ℕ) (gs : List FileRange) → 0 < length gs → AreGaps low end gs
    → AllByRecursion (HasSome r) gs
    → flat_map (around r) gs
    ≡ some_range (get_or gs 0 d).start r.start ++ some_range r.end (get_or gs (length gs - 1) d).end
all_cut r d low end [] n a h = absurd (omega (arith, n))
all_cut r d low end (b ∷ []) n a h =
    let at : length (b ∷ []) - 1 ≡ 0 = omega arith in
    append-nil (around r b) ∙ cut r b h.0
    ∙ ap (λ (k : ℕ). some_range b.start r.start ++ some_range r.end (get_or (b ∷ []) k d).end) (sym at)
all_cut r d low end (b ∷ c ∷ cs) n a h =
    let next : b.end + 1 ≤ c.start = a.3.0 in
    let some : b.start < b.end = a.1 in
    let c_low : c.start < r.end = h.1.0.0 in
    let b_high : r.start < b.end = h.0.1 in
    let at : length (b ∷ c ∷ cs) - 1 ≡ suc (length (c ∷ cs) - 1) = omega arith in
    let here : around r b ≡ some_range b.start r.start =
    cut r b h.0 ∙ ap (λ (l : List FileRange). some_range b.start r.start ++ l) (some_no r.end b.end (omega (arith, next, c_low)))
    ∙ append-nil (some_range b.start r.start) in
    let rest = all_cut r d (b.end + 1) end (c ∷ cs) (omega arith) a.3 h.1 in
    let none : some_range c.start r.start ≡ [] = some_no c.start r.start (omega (arith, next, b_high)) in
    ap (λ (l : List FileRange). l ++ flat_map (around r) (c ∷ cs)) here
    ∙ ap (λ (l : List FileRange). some_range b.start r.start ++ l)
    (rest ∙ ap (λ (l : List FileRange). l ++ some_range r.end (get_or (c ∷ cs) (length (c ∷ cs) - 1) d).end) none)
    ∙ ap (λ (k : ℕ). some_range b.start r.start ++ some_range r.end (get_or (b ∷ c ∷ cs) k d).end) (sym at)

-- ---- all gaps

less_yes : (gs : List FileRange) (r : FileRange) → r.start < r.end → less gs r ≡ flat_map (around r) gs
less_yes gs r h = ap (λ (v : Bool). cond v (flat_map (around r) gs) gs) (lt-ltb r.start r.end h)

less_no : (gs : List FileRange) (r : FileRange) → r.end ≤ r.start → less gs r ≡ gs
less_no gs r h = ap (λ (v : Bool). cond v (flat_map (around r) gs) gs) (le-ltb r.start r.end h)

-- where none is touched nothing is taken
pub untouched : (gs : List FileRange) (r : FileRange) (from to end : ℕ) → AreGaps 0 end gs → Touched gs r from to
    → to ≤ from → less gs r ≡ gs
untouched gs r from to end a t h =
    ⊎_elim
    (λ (some : r.start < r.end).
    let order = t.in_order in
    let same : to ≡ from = omega (arith, h, order) in
    let behind = subst (λ (n : ℕ). AllByRecursion (StartsBehind r) (drop n gs)) same (t.behind some) in
    less_yes gs r some
    ∙ ap (λ (l : List FileRange). flat_map (around r) l) (sym (take-append-drop from gs))
    ∙ flat_map-append (around r) (take from gs) (drop from gs)
    ∙ ap (λ (l : List FileRange). l ++ flat_map (around r) (drop from gs))
    (all_ended r 0 end (take from gs) some (gaps_take 0 end from gs a) (t.before some))
    ∙ ap (λ (l : List FileRange). take from gs ++ l)
    (all_started r 0 end (drop from gs) some (gaps_drop 0 end from gs a) behind)
    ∙ take-append-drop from gs)
    (λ (none : r.end ≤ r.start). less_no gs r none)
    (cases_lt r.start r.end)

-- else the first and the last touched one leave something
pub marked : (gs : List FileRange) (r d : FileRange) (from to end : ℕ) → AreGaps 0 end gs → Touched gs r from to
    → from < to
    → less gs r ≡ take from gs
    ++ (some_range (get_or gs from d).start r.start ++ (some_range r.end (get_or gs (to - 1) d).end ++ drop to gs))
marked gs r d from to end a t h =
    let some = t.some h in
    let within = t.within in
    let n = length-take (to - from) (drop from gs) in
    let m = length-drop from gs in
    let size : length (slice_range gs from to) ≡ to - from = omega (arith, n, m, within, h) in
    let first : get_or (slice_range gs from to) 0 d ≡ get_or gs from d =
    get_or-take (to - from) (drop from gs) 0 d (omega (arith, h)) ∙ get_or-drop from gs 0 d
    ∙ ap (λ (k : ℕ). get_or gs k d) (let z : from + 0 ≡ from = omega arith in z) in
    let last : get_or (slice_range gs from to) (length (slice_range gs from to) - 1) d ≡ get_or gs (to - 1) d =
    get_or-take (to - from) (drop from gs) (length (slice_range gs from to) - 1) d (omega (arith, size, h))
    ∙ get_or-drop from gs (length (slice_range gs from to) - 1) d
    ∙ ap (λ (k : ℕ). get_or gs k d)
    (let z : from + (length (slice_range gs from to) - 1) ≡ to - 1 = omega (arith, size, h) in z) in
    let cut_is : flat_map (around r) (slice_range gs from to)
    ≡ some_range (get_or gs from d).start r.start ++ some_range r.end (get_or gs (to - 1) d).end =
    all_cut r d 0 end (slice_range gs from to) (omega (arith, size, h)) (gaps_slice end from to gs a) t.here
    ∙ ap (λ (g : FileRange). some_range g.start r.start
    ++ some_range r.end (get_or (slice_range gs from to) (length (slice_range gs from to) - 1) d).end) first
    ∙ ap (λ (g : FileRange). some_range (get_or gs from d).start r.start ++ some_range r.end g.end) last in
    less_yes gs r some
    ∙ ap (λ (l : List FileRange). flat_map (around r) l) (sym (three gs from to t.in_order))
    ∙ flat_map-append (around r) (take from gs) (slice_range gs from to ++ drop to gs)
    ∙ ap (λ (l : List FileRange). l ++ flat_map (around r) (slice_range gs from to ++ drop to gs))
    (all_ended r 0 end (take from gs) some (gaps_take 0 end from gs a) (t.before some))
    ∙ ap (λ (l : List FileRange). take from gs ++ l)
    (flat_map-append (around r) (slice_range gs from to) (drop to gs)
    ∙ ap (λ (l : List FileRange). l ++ flat_map (around r) (drop to gs)) cut_is
    ∙ ap (λ (l : List FileRange). some_range (get_or gs from d).start r.start
    ++ some_range r.end (get_or gs (to - 1) d).end ++ l)
    (all_started r 0 end (drop to gs) some (gaps_drop 0 end to gs a) (t.behind some))
    ∙ append_assoc (some_range (get_or gs from d).start r.start) (some_range r.end (get_or gs (to - 1) d).end) (drop to gs))

-- the same of gaps behind the filled ones
pub marked_from : (xs : List FileRange) (r d : FileRange) (first from to end : ℕ) → AreGaps 0 end (drop first xs)
    → Touched (drop first xs) r from to → from < to
    → slice_range xs first (first + from) ++ (some_range (get_or xs (first + from) d).start r.start
    ++ (some_range r.end (get_or xs (first + to - 1) d).end ++ drop (first + to) xs))
    ≡ less (drop first xs) r
marked_from xs r d first from to end a t h =
    let gs = drop first xs in
    let front : first + from - first ≡ from = omega arith in
    let low : get_or (drop first xs) from d ≡ get_or xs (first + from) d = get_or-drop first xs from d in
    let high : get_or (drop first xs) (to - 1) d ≡ get_or xs (first + to - 1) d =
    get_or-drop first xs (to - 1) d
    ∙ ap (λ (k : ℕ). get_or xs k d) (let z : first + (to - 1) ≡ first + to - 1 = omega (arith, h) in z) in
    sym (
    marked (drop first xs) r d from to end a t h
    ∙ ap (λ (k : ℕ). take k (drop first xs) ++ (some_range (get_or (drop first xs) from d).start r.start
    ++ (some_range r.end (get_or (drop first xs) (to - 1) d).end ++ drop to (drop first xs)))) (sym front)
    ∙ ap (λ (g : FileRange). slice_range xs first (first + from) ++ (some_range g.start r.start
    ++ (some_range r.end (get_or (drop first xs) (to - 1) d).end ++ drop to (drop first xs)))) low
    ∙ ap (λ (g : FileRange). slice_range xs first (first + from) ++ (some_range (get_or xs (first + from) d).start r.start
    ++ (some_range r.end g.end ++ drop to (drop first xs)))) high
    ∙ ap (λ (l : List FileRange). slice_range xs first (first + from)
    ++ (some_range (get_or xs (first + from) d).start r.start ++ (some_range r.end (get_or xs (first + to - 1) d).end ++ l)))
    (drop-drop to first xs)
    )

-- ---- parts

none_before : (r : FileRange) (gs : List FileRange) → AllByRecursion (EndsBefore r) gs → parts_of gs r ≡ []
none_before r [] h = refl
none_before r (g ∷ gs) h =
    let k = h.0 in
    ap (λ (l : List FileRange). l ++ parts_of gs r)
    (some_no (max g.start r.start) (min g.end r.end) (omega (arith, k))) ∙ none_before r gs h.1

none_behind : (r : FileRange) (gs : List FileRange) → AllByRecursion (StartsBehind r) gs → parts_of gs r ≡ []
none_behind r [] h = refl
none_behind r (g ∷ gs) h =
    let k = h.0 in
    ap (λ (l : List FileRange). l ++ parts_of gs r)
    (some_no (max g.start r.start) (min g.end r.end) (omega (arith, k))) ∙ none_behind r gs h.1

no_parts : (r : FileRange) (gs : List FileRange) → r.end ≤ r.start → parts_of gs r ≡ []
no_parts r [] h = refl
no_parts r (g ∷ gs) h =
    ap (λ (l : List FileRange). l ++ parts_of gs r)
    (some_no (max g.start r.start) (min g.end r.end) (omega (arith, h))) ∙ no_parts r gs h

-- those of the touched gaps are all
pub touched_parts : (gs : List FileRange) (r : FileRange) (from to : ℕ) → Touched gs r from to
    → parts_of (slice_range gs from to) r ≡ parts_of gs r
touched_parts gs r from to t =
    ⊎_elim
    (λ (some : r.start < r.end).
    sym (
    ap (λ (l : List FileRange). parts_of l r) (sym (three gs from to t.in_order))
    ∙ flat_map-append (λ (g : FileRange). some_range (max g.start r.start) (min g.end r.end)) (take from gs)
    (slice_range gs from to ++ drop to gs)
    ∙ ap (λ (l : List FileRange). l ++ parts_of (slice_range gs from to ++ drop to gs) r)
    (none_before r (take from gs) (t.before some))
    ∙ flat_map-append (λ (g : FileRange). some_range (max g.start r.start) (min g.end r.end)) (slice_range gs from to)
    (drop to gs)
    ∙ ap (λ (l : List FileRange). parts_of (slice_range gs from to) r ++ l)
    (none_behind r (drop to gs) (t.behind some))
    ∙ append-nil (parts_of (slice_range gs from to) r)
    ))
    (λ (none : r.end ≤ r.start). no_parts r (slice_range gs from to) none ∙ sym (no_parts r gs none))
    (cases_lt r.start r.end)

-- and each of them has bytes of the range
touch : (r : FileRange) (low end : ℕ) (gs : List FileRange) → r.start < r.end → AreGaps low end gs
    → AllByRecursion (HasSome r) gs → AllByRecursion (Touches r) gs
touch r low end [] some a h = tt
touch r low end (g ∷ gs) some a h =
    let has : g.start < g.end = a.1 in
    let before = h.0.0 in
    let behind = h.0.1 in
    (omega (arith, some, has, before, behind), touch r (g.end + 1) end gs some a.3 h.1)

pub each_touches : (gs : List FileRange) (r : FileRange) (from to end : ℕ) → AreGaps 0 end gs → Touched gs r from to
    → AllByRecursion (Touches r) (slice_range gs from to)
each_touches gs r from to end a t =
    ⊎_elim
    (λ (h : from < to). touch r 0 end (slice_range gs from to) (t.some h) (gaps_slice end from to gs a) t.here)
    (λ (h : to ≤ from).
    let none : to - from ≡ 0 = omega (arith, h) in
    subst (λ (n : ℕ). AllByRecursion (Touches r) (take n (drop from gs))) (sym none) tt)
    (cases_lt from to)
