-- The gaps that a range touches, by where those end that lie before it and those start that lie behind it.
use Rattle.std.proofs.Common.{◌≡◌, ℕ, zero, suc, ◌+◌, ◌-◌, ◌<◌, ◌≤◌, true, false, List, [], ◌∷◌, length, take, drop, get_or, min}
use Rattle.std.proofs.Common.{All, ap, refl, sym, subst, ◌∙◌, ⊎_elim, arith, nat_le, nat_lt, slice_range}
use Rattle.std.specs.List.Sorted.{IsNonDecreasingBy, IsPartitionPoint}
use Rattle.std.proofs.lemmas.Bool.{cases_lt, leb-false, leb-true, ltb-false, ltb-true}
use Rattle.std.proofs.lemmas.List.{get_or-drop, get_or-take, length-drop, length-take}
use Rattle.std.proofs.lemmas.List.Elements.{All-weaker, recursion_from_All}
use Rattle.xet_base.specs.declared.cas_types.FileRange.{FileRange}
use Rattle.xet_gaps.specs.Gaps.{AreGaps, FirstGap}
use Rattle.xet_gaps.specs.steps.Touching.{AreSome, EndsBefore, HasSome, StartsBehind, Touched}
use Rattle.xet_gaps.proofs.GapBytes.{range}

-- ---- gaps go forward

-- each starts at the first place or behind it, and has bytes
pub at_place : (low end : ℕ) (gs : List FileRange) (k : ℕ) (d : FileRange) → AreGaps low end gs → k < length gs
    → (low ≤ (get_or gs k d).start) × ((get_or gs k d).start < (get_or gs k d).end)
at_place low end [] k d a h = absurd (omega (arith, h))
at_place low end (g ∷ gs) zero d a h = (a.0, a.1)
at_place low end (g ∷ gs) (suc k) d a h =
    let first : low ≤ g.start = a.0 in
    let some : g.start < g.end = a.1 in
    let next = at_place (g.end + 1) end gs k d a.3 (omega (arith, h)) in
    let start = next.0 in
    (omega (arith, first, some, start), next.1)

pub starts_go : (low end : ℕ) (gs : List FileRange) → AreGaps low end gs → IsNonDecreasingBy (λ g. g.start) gs
starts_go low end [] a i j d le lt = absurd (omega (arith, lt))
starts_go low end (g ∷ gs) a zero zero d le lt = omega arith
starts_go low end (g ∷ gs) a zero (suc j) d le lt =
    let some : g.start < g.end = a.1 in
    let next = (at_place (g.end + 1) end gs j d a.3 (omega (arith, lt))).0 in
    omega (arith, some, next)
starts_go low end (g ∷ gs) a (suc i) zero d le lt = absurd (omega (arith, le))
starts_go low end (g ∷ gs) a (suc i) (suc j) d le lt =
    starts_go (g.end + 1) end gs a.3 i j d (omega (arith, le)) (omega (arith, lt))

pub ends_go : (low end : ℕ) (gs : List FileRange) → AreGaps low end gs → IsNonDecreasingBy (λ g. g.end) gs
ends_go low end [] a i j d le lt = absurd (omega (arith, lt))
ends_go low end (g ∷ gs) a zero zero d le lt = omega arith
ends_go low end (g ∷ gs) a zero (suc j) d le lt =
    let next = at_place (g.end + 1) end gs j d a.3 (omega (arith, lt)) in
    let start = next.0 in
    let some = next.1 in
    omega (arith, start, some)
ends_go low end (g ∷ gs) a (suc i) zero d le lt = absurd (omega (arith, le))
ends_go low end (g ∷ gs) a (suc i) (suc j) d le lt =
    ends_go (g.end + 1) end gs a.3 i j d (omega (arith, le)) (omega (arith, lt))

-- ---- both halves

front : {X : Type 0} (P Q : X → Type 0) (xs : List X) (i : ℕ) → IsPartitionPoint P Q xs i → All P (take i xs)
front P Q xs i h k d l =
    let n = length-take i xs in
    subst P (sym (get_or-take i xs k d (omega (arith, n, l)))) (h.0 k d (omega arith) (omega (arith, n, l)))

back : {X : Type 0} (P Q : X → Type 0) (xs : List X) (i : ℕ) → IsPartitionPoint P Q xs i → All Q (drop i xs)
back P Q xs i h k d l =
    let n = length-drop i xs in
    subst Q (sym (get_or-drop i xs k d)) (h.1 (i + k) d (omega arith) (omega (arith, n, l)))

abbrev Ended : FileRange → FileRange → Type 0
Ended r g = nat_le g.end r.start ≡ true

abbrev NotEnded : FileRange → FileRange → Type 0
NotEnded r g = nat_le g.end r.start ≡ false

abbrev Started : FileRange → FileRange → Type 0
Started r g = nat_lt g.start r.end ≡ true

abbrev NotStarted : FileRange → FileRange → Type 0
NotStarted r g = nat_lt g.start r.end ≡ false

module _ (r : FileRange) (gs : List FileRange) (from to : ℕ) (some : r.start < r.end) (from_in : from ≤ length gs)
    (to_in : to ≤ length gs) (f : IsPartitionPoint (Ended r) (NotEnded r) gs from)
    (t : IsPartitionPoint (Started r) (NotStarted r) gs to) where
  order : (end : ℕ) → AreGaps 0 end gs → to < from → ⊥
  order end a h =
      let some_of = (at_place 0 end gs to (range 0 0) a (omega (arith, h, from_in))).1 in
      let ended = leb-true (get_or gs to (range 0 0)).end r.start (f.0 to (range 0 0) (omega arith) h) in
      let not_started =
      ltb-false (get_or gs to (range 0 0)).start r.end (t.1 to (range 0 0) (omega arith) (omega (arith, h, from_in))) in
      omega (arith, some, some_of, ended, not_started)

  here : All (HasSome r) (slice_range gs from to)
  here k d l =
      let a = length-take (to - from) (drop from gs) in
      let b = length-drop from gs in
      let is = get_or-take (to - from) (drop from gs) k d (omega (arith, a, l)) ∙ get_or-drop from gs k d in
      subst (HasSome r) (sym is) (
        ltb-true (get_or gs (from + k) d).start r.end (t.0 (from + k) d (omega arith) (omega (arith, a, l))),
        leb-false (get_or gs (from + k) d).end r.start (f.1 (from + k) d (omega arith) (omega (arith, a, b, l))),
      )

  pub touched_is : AreSome gs → Touched gs r from to
  touched_is are = record {
    in_order = ⊎_elim (λ (h : to < from). absurd (order are.0 are.1 h)) (λ (h : from ≤ to). h) (cases_lt to from);
    within = to_in;
    some = λ _. some;
    before = λ _. recursion_from_All (EndsBefore r) (take from gs)
        (All-weaker (Ended r) (EndsBefore r) (λ g e. leb-true g.end r.start e) (take from gs)
        (front (Ended r) (NotEnded r) gs from f));
    here = recursion_from_All (HasSome r) (slice_range gs from to) here;
    behind = λ _. recursion_from_All (StartsBehind r) (drop to gs)
        (All-weaker (NotStarted r) (StartsBehind r) (λ g e. ltb-false g.start r.end e) (drop to gs)
        (back (Started r) (NotStarted r) gs to t));
  }

-- a range without bytes touches none
pub touches_none : (r : FileRange) (gs : List FileRange) → r.end ≤ r.start → Touched gs r 0 0
touches_none r gs h = record {
  in_order = omega arith;
  within = omega arith;
  some = λ k. absurd (omega (arith, k));
  before = λ k. absurd (omega (arith, h, k));
  here = tt;
  behind = λ k. absurd (omega (arith, h, k));
}

-- the first gap, cut to so many bytes
pub first_gap : (end most : ℕ) (gs : List FileRange) (d : FileRange) → AreGaps 0 end gs → 0 < length gs
    → FirstGap gs most (record {
      start = (get_or gs 0 d).start;
      end = (get_or gs 0 d).start + min ((get_or gs 0 d).end - (get_or gs 0 d).start) most;
    })
first_gap end most [] d a h = absurd (omega (arith, h))
first_gap end most (g ∷ gs) d a h =
    let some : g.start < g.end = a.1 in
    ap (λ (n : ℕ). range g.start n)
    (let z : g.start + min (g.end - g.start) most ≡ min g.end (g.start + most) = omega (arith, some) in z)
