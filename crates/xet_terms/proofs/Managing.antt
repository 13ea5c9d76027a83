-- The queries of a manager cut its range.
use Rattle.std.proofs.Common.{◌≡◌, ℕ, zero, suc, ◌+◌, ◌-◌, ◌&&◌, ◌||◌, ◌<◌, ◌≤◌, ◌⊎◌, Bool, true, false, cond, List, [], ◌∷◌, ◌++◌, length, take, drop, get_or, Some, None, Ok, Err, refl, sym, ◌∙◌, ap, inl, inr, ⊎_elim, min, max, arith, length-append}
use Rattle.std.specs.Prelude.{nat_lt, nat_le, slice_get, filter, Option, Result, OnOk}
use Rattle.std.specs.List.{prefix_len}
use Rattle.std.specs.List.Sorted.{IsNonDecreasingBy, IsPartitionPoint}
use Rattle.std.proofs.Math.Seq.{take-add}
use Rattle.std.proofs.lemmas.List.{length-take}
use Rattle.xet_blocks.specs.declared.reconstruction_terms.file_term.TermBlock.{TermBlock}
use Rattle.std.proofs.lemmas.Bool.{ltb-true, ltb-false, lt-ltb, le-ltb, lt-leb, cond-true, or_parts}
use Rattle.xet_base.specs.declared.cas_types.FileRange.{FileRange}
use Rattle.xet_terms.specs.Queries.{CutFrom, end_from}
use Rattle.xet_terms.specs.Managers.{IsCovered, IsManager, Manager, ReachesEnd, accepted, bounded, cut_at, cut_end, looked_ahead, scheduled, scheduled_end, waiting_after, without_past}

pub end_last : (qs : List FileRange) (place : ℕ) (q : FileRange) → slice_get qs (length qs - 1) ≡ Some q → end_from place qs ≡ q.end
end_last [] place q h = absurd (cc)
end_last (r ∷ []) place q h = ap (λ (r : FileRange). r.end) (let e : r ≡ q = cc in e)
end_last (r ∷ s ∷ rs) place q h =
    let n : length (r ∷ s ∷ rs) - 1 ≡ suc (length (s ∷ rs) - 1) = omega arith in
    end_last (s ∷ rs) r.end q (ap (λ (k : ℕ). slice_get (r ∷ s ∷ rs) k) (sym n) ∙ h)

-- one more query behind
pub cuts-push : (place end bound : ℕ) (qs : List FileRange) (q : FileRange) → CutFrom place end bound qs → q.start ≡ end_from place qs → q.start < q.end → q.end ≤ end → q.end - q.start < bound → CutFrom place end bound (qs ++ q ∷ [])
cuts-push place end bound [] q c s a b d = (s, a, b, d, tt)
cuts-push place end bound (r ∷ rs) q c s a b d = (c.0, c.1, c.2, c.3, cuts-push r.end end bound rs q c.4 s a b d)

-- a query's end, drawn to the range's end or not
cut_cases : (least greatest : ℕ) (range : FileRange) (known start size : ℕ) → (cut_at least greatest range known start size ≤ range.end) × (least ≤ greatest → 0 < least → cut_at least greatest range known start size - start < greatest + least)
cut_cases least greatest range known start size =
    let e = min (bounded (start + max (min size greatest) least)) (min known range.end) in
    go (nat_lt range.end (bounded (e + least))) refl
  where
    go : (b : Bool) → nat_lt range.end (bounded (min (bounded (start + max (min size greatest) least)) (min known range.end) + least)) ≡ b
        → (cond b range.end (min (bounded (start + max (min size greatest) least)) (min known range.end)) ≤ range.end)
        × (least ≤ greatest → 0 < least → cond b range.end (min (bounded (start + max (min size greatest) least)) (min known range.end)) - start < greatest + least)
    go true h = let k = ltb-true range.end (bounded (min (bounded (start + max (min size greatest) least)) (min known range.end) + least)) h in (omega arith, λ p q. omega arith)
    go false h = (omega arith, λ p q. omega arith)

pub scheduled_is : (m : Manager) (size : ℕ) → scheduled_end m < cut_end m size → scheduled m size ≡ m.queries ++ record { start = scheduled_end m; end = cut_end m size } ∷ []
scheduled_is m size h = cond-true (nat_lt (scheduled_end m) (cut_end m size)) _ _ (lt-ltb (scheduled_end m) (cut_end m size) h)

-- a manager stays one where a query is scheduled
pub schedule_when : (b : Bool) (m : Manager) (size start end : ℕ) → start ≡ scheduled_end m → end ≡ cut_end m size → start < end → IsManager m
    → IsManager (record m { queries = cond b (m.queries ++ record { start = start; end = end } ∷ []) m.queries })
schedule_when false m size start end s e h k = k
schedule_when true m size start end s e h k =
    let r = cut_cases m.least m.greatest m.range m.known_end (scheduled_end m) size in
    let n = length-append m.queries (record { start = start; end = end } ∷ []) in
    let a = k.asked_within in
    let within : cut_end m size ≤ m.range.end = r.0 in
    let short : cut_end m size - scheduled_end m < m.greatest + m.least = r.1 k.least_below k.least_some in
    record {
      least_some = k.least_some;
      least_below = k.least_below;
      cuts = cuts-push m.range.start m.range.end (m.greatest + m.least) m.queries (record { start = start; end = end }) k.cuts s h (omega arith) (omega arith);
      asked_within = omega arith;
      answered_within = k.answered_within;
      still_open = k.still_open;
      range_fits = k.range_fits;
    }

-- a front of queries cuts the range too
pub cuts-take : (place end bound : ℕ) (qs : List FileRange) (n : ℕ) → CutFrom place end bound qs → CutFrom place end bound (take n qs)
cuts-take place end bound [] zero c = tt
cuts-take place end bound [] (suc n) c = tt
cuts-take place end bound (q ∷ qs) zero c = tt
cuts-take place end bound (q ∷ qs) (suc n) c = (c.0, c.1, c.2, c.3, cuts-take q.end end bound qs n c.4)

cuts-drop : (place end bound : ℕ) (qs : List FileRange) (n : ℕ) → CutFrom place end bound qs → CutFrom (end_from place (take n qs)) end bound (drop n qs)
cuts-drop place end bound [] zero c = tt
cuts-drop place end bound [] (suc n) c = tt
cuts-drop place end bound (q ∷ qs) zero c = c
cuts-drop place end bound (q ∷ qs) (suc n) c = cuts-drop q.end end bound qs n c.4

-- of queries that go forward those below a place are a front
none_below : (place end bound known : ℕ) (qs : List FileRange) → CutFrom place end bound qs → known ≤ place → filter (λ q. nat_lt q.start known) qs ≡ []
none_below place end bound known [] c h = refl
none_below place end bound known (q ∷ qs) c h =
    let from : q.start ≡ place = c.0 in
    let some : q.start < q.end = c.1 in
    let off : nat_lt q.start known ≡ false = le-ltb q.start known (omega arith) in
    ap (λ b. cond b (q ∷ filter (λ q. nat_lt q.start known) qs) (filter (λ q. nat_lt q.start known) qs)) off ∙ none_below q.end end bound known qs c.4 (omega arith)

front_below : (place end bound known : ℕ) (qs : List FileRange) → CutFrom place end bound qs → filter (λ q. nat_lt q.start known) qs ≡ take (prefix_len (λ q. nat_lt q.start known) qs) qs
front_below place end bound known [] c = refl
front_below place end bound known (q ∷ qs) c = go (front_below q.end end bound known qs c.4) (nat_lt q.start known) refl
  where
    go : filter (λ q. nat_lt q.start known) qs ≡ take (prefix_len (λ q. nat_lt q.start known) qs) qs → (b : Bool) → nat_lt q.start known ≡ b
        → cond b (q ∷ filter (λ q. nat_lt q.start known) qs) (filter (λ q. nat_lt q.start known) qs) ≡ take (cond b (1 + prefix_len (λ q. nat_lt q.start known) qs) 0) (q ∷ qs)
    go next true h =
        let n : 1 + prefix_len (λ q. nat_lt q.start known) qs ≡ suc (prefix_len (λ q. nat_lt q.start known) qs) = omega arith in
        ap (λ l. q ∷ l) next ∙ ap (λ (k : ℕ). take k (q ∷ qs)) (sym n)
    go next false h =
        let past = ltb-false q.start known h in
        let some : q.start < q.end = c.1 in
        none_below q.end end bound known qs c.4 (omega arith)

take-both : {A : Type 0} (a k : ℕ) (xs : List A) → take a xs ++ take k (drop a xs) ≡ take (a + k) xs
take-both a k xs = sym (take-add a k xs)

-- the queries that stay are a front
pub without_is : (place end bound asked known : ℕ) (qs : List FileRange) → CutFrom place end bound qs → without_past asked known qs ≡ take (asked + prefix_len (λ q. nat_lt q.start known) (drop asked qs)) qs
without_is place end bound asked known qs c =
    ap (λ l. take asked qs ++ l) (front_below (end_from place (take asked qs)) end bound known (drop asked qs) (cuts-drop place end bound qs asked c)) ∙ take-both asked (prefix_len (λ q. nat_lt q.start known) (drop asked qs)) qs

-- queries that cut a range go forward
starts_after : (place end bound : ℕ) (qs : List FileRange) (k : ℕ) (d : FileRange) → CutFrom place end bound qs → k < length qs → place ≤ (get_or qs k d).start
starts_after place end bound [] k d c h = absurd (omega arith)
starts_after place end bound (q ∷ qs) zero d c h = let from : q.start ≡ place = c.0 in omega arith
starts_after place end bound (q ∷ qs) (suc k) d c h =
    let from : q.start ≡ place = c.0 in
    let some : q.start < q.end = c.1 in
    let next = starts_after q.end end bound qs k d c.4 (omega arith) in
    omega (arith, next)

starts_go : (place end bound : ℕ) (qs : List FileRange) → CutFrom place end bound qs → IsNonDecreasingBy (λ q. q.start) qs
starts_go place end bound [] c i j d le lt = absurd (omega arith)
starts_go place end bound (q ∷ qs) c zero zero d le lt = omega arith
starts_go place end bound (q ∷ qs) c zero (suc j) d le lt =
    let some : q.start < q.end = c.1 in
    let next = starts_after q.end end bound qs j d c.4 (omega arith) in
    omega (arith, next)
starts_go place end bound (q ∷ qs) c (suc i) zero d le lt = absurd (omega arith)
starts_go place end bound (q ∷ qs) c (suc i) (suc j) d le lt = starts_go q.end end bound qs c.4 i j d (omega arith) (omega arith)

pub rest_goes : (place end bound : ℕ) (qs : List FileRange) (n : ℕ) → CutFrom place end bound qs → IsNonDecreasingBy (λ q. q.start) (drop n qs)
rest_goes place end bound qs n c = starts_go (end_from place (take n qs)) end bound (drop n qs) (cuts-drop place end bound qs n c)

-- the place where those end that start below another is their number
pub below_is : (qs : List FileRange) (known k : ℕ) → k ≤ length qs → IsPartitionPoint (λ q. nat_lt q.start known ≡ true) (λ q. nat_lt q.start known ≡ false) qs k
    → k ≡ prefix_len (λ q. nat_lt q.start known) qs
below_is [] known k within h = omega arith
below_is (q ∷ qs) known zero within h =
    let off : nat_lt q.start known ≡ false = h.1 zero q (omega arith) (omega arith) in
    ap (λ b. cond b (1 + prefix_len (λ q. nat_lt q.start known) qs) 0) (sym off)
below_is (q ∷ qs) known (suc k) within h =
    let on : nat_lt q.start known ≡ true = h.0 zero q (omega arith) (omega arith) in
    let next = below_is qs known k (omega arith) (λ i d lo hi. h.0 (suc i) d (omega arith) (omega arith), λ i d lo hi. h.1 (suc i) d (omega arith) (omega arith)) in
    let more : suc k ≡ 1 + prefix_len (λ q. nat_lt q.start known) qs = omega (arith, next) in
    more ∙ ap (λ b. cond b (1 + prefix_len (λ q. nat_lt q.start known) qs) 0) (sym on)

-- a manager stays one where an answer came
pub accept_keeps : (m : Manager) (k known : ℕ) (early : Bool) (ws : List TermBlock) → IsManager m → m.answered < m.asked → (early ≡ false → known ≡ m.known_end)
    → IsManager (record m { queries = take (m.asked + k) m.queries; answered = m.answered + 1; known_end = known; ended = m.ended || early; waiting = ws })
accept_keeps m k known early ws x h open_by =
    let a = x.asked_within in
    record {
      least_some = x.least_some;
      least_below = x.least_below;
      cuts = cuts-take m.range.start m.range.end (m.greatest + m.least) m.queries (m.asked + k) x.cuts;
      asked_within = omega (arith, length-take (m.asked + k) m.queries);
      answered_within = omega arith;
      still_open = λ e. let p = or_parts m.ended early e in open_by p.1 ∙ x.still_open p.0;
      range_fits = x.range_fits;
    }

-- ---- where the queries end

end_above : (place end bound : ℕ) (qs : List FileRange) → CutFrom place end bound qs → place ≤ end_from place qs
end_above place end bound [] c = omega arith
end_above place end bound (q ∷ qs) c =
    let next = end_above q.end end bound qs c.4 in
    let from : q.start ≡ place = c.0 in
    let some : q.start < q.end = c.1 in
    omega arith

end_within : (place end bound : ℕ) (qs : List FileRange) → CutFrom place end bound qs → place ≤ end → end_from place qs ≤ end
end_within place end bound [] c h = h
end_within place end bound (q ∷ qs) c h = end_within q.end end bound qs c.4 c.2

-- the first queries end past the start of each of them
end_past : (place end bound : ℕ) (qs : List FileRange) (k n : ℕ) (q : FileRange) → CutFrom place end bound qs → slice_get qs k ≡ Some q → k < n → q.start ≤ end_from place (take n qs)
end_past place end bound [] k n q c e h = absurd (cc)
end_past place end bound (r ∷ rs) k zero q c e h = absurd (omega arith)
end_past place end bound (r ∷ rs) zero (suc n) q c e h =
    let same : r ≡ q = cc in
    let next = end_above r.end end bound (take n rs) (cuts-take r.end end bound rs n c.4) in
    let some : r.start < r.end = c.1 in
    let at : r.start ≡ q.start = ap (λ (r : FileRange). r.start) same in
    omega arith
end_past place end bound (r ∷ rs) (suc k) (suc n) q c e h = end_past r.end end bound rs k n q c.4 e (omega arith)

pub reaches_end : (m : Manager) → IsManager m → IsCovered m → ReachesEnd m
reaches_end m x c some = go m.ended refl
  where
    go : (b : Bool) → m.ended ≡ b → (scheduled_end m ≡ m.range.end) ⊎ (m.ended ≡ true)
    go true e = inr e
    go false e =
        let known = x.still_open e in
        let within = end_within m.range.start m.range.end (m.greatest + m.least) m.queries x.cuts (omega arith) in
        let fits = x.range_fits in
        let reached = c.reached in
        inl (omega arith)

-- ---- all due queries

-- where no plan waits a query is due, or the queries reach the known end or the range's
pub record GoesOn (m : Manager) : Type 0 where
  pub answered : m.answered ≡ m.asked
  pub due : m.waiting ≡ [] → (m.asked < length m.queries) ⊎ (min m.known_end m.range.end ≤ scheduled_end m)

-- a look at the buffer schedules a query, or none
looked_parts : (m : Manager) (answer : ℕ) → (looked_ahead m answer ≡ m) ⊎ ((size : ℕ) × (looked_ahead m answer ≡ record m { queries = scheduled m size }))
looked_parts m answer = go (nat_le m.known_end (scheduled_end m)) (nat_lt 0 (length m.waiting) && nat_le (max answer m.buffer) (scheduled_end m - m.handed_end))
  where
    size : ℕ
    size = max answer m.buffer - (scheduled_end m - m.handed_end)

    go : (a b : Bool) → (cond a m (cond b m (record m { queries = scheduled m size })) ≡ m) ⊎ ((k : ℕ) × (cond a m (cond b m (record m { queries = scheduled m size })) ≡ record m { queries = scheduled m k }))
    go true b = inl refl
    go false true = inl refl
    go false false = inr (size, refl)

pub look_scheduled : (m n : Manager) (a k : ℕ) → scheduled_end m < m.known_end → (nat_lt 0 (length m.waiting) && nat_le (max a m.buffer) (scheduled_end m - m.handed_end)) ≡ false
    → k ≡ max a m.buffer - (scheduled_end m - m.handed_end) → n ≡ record m { queries = scheduled m k } → n ≡ looked_ahead m a
look_scheduled m n a k below enough size e =
    let over : nat_le m.known_end (scheduled_end m) ≡ false = lt-leb m.known_end (scheduled_end m) below in
    rw (over, enough) (e ∙ ap (λ k. record m { queries = scheduled m k }) size)

pub on_ok : {E : Type 0} (r : Result (Unit {0}) E) (P Q : Type 0) → (P → Q) → OnOk r P → OnOk r Q
on_ok (Ok x) P Q f h = f h
on_ok (Err e) P Q f h = tt

pub looked_same : (m n : Manager) (answer : ℕ) → n ≡ looked_ahead m answer → n ≡ record m { queries = n.queries }
looked_same m n answer e = go (looked_parts m answer)
  where
    go : (looked_ahead m answer ≡ m) ⊎ ((size : ℕ) × (looked_ahead m answer ≡ record m { queries = scheduled m size })) → n ≡ record m { queries = n.queries }
    go (inl same) = let all : n ≡ m = e ∙ same in let qs : n.queries ≡ m.queries = ap (λ (m : Manager). m.queries) all in all ∙ ap (λ qs. record m { queries = qs }) (sym qs)
    go (inr (size, some)) = let all : n ≡ record m { queries = scheduled m size } = e ∙ some in let qs : n.queries ≡ scheduled m size = ap (λ (m : Manager). m.queries) all in all ∙ ap (λ qs. record m { queries = qs }) (sym qs)

pub looked_goes_on : (m n : Manager) (answer : ℕ) → n ≡ looked_ahead m answer → IsManager m → m.answered ≡ m.asked
    → (m.waiting ≡ [] → scheduled_end m < min m.known_end m.range.end → length n.queries ≡ length m.queries + 1) → GoesOn n
looked_goes_on m n answer e x h ahead =
    let same = looked_same m n answer e in
    let asked : n.asked ≡ m.asked = ap (λ (m : Manager). m.asked) same in
    let answered : n.answered ≡ m.answered = ap (λ (m : Manager). m.answered) same in
    let waiting : n.waiting ≡ m.waiting = ap (λ (m : Manager). m.waiting) same in
    let known : n.known_end ≡ m.known_end = ap (λ (m : Manager). m.known_end) same in
    let start : n.range.start ≡ m.range.start = ap (λ (m : Manager). m.range.start) same in
    let end : n.range.end ≡ m.range.end = ap (λ (m : Manager). m.range.end) same in
    record {
      answered = answered ∙ h ∙ sym asked;
      due = λ none. due_by (sym waiting ∙ none) asked known start end (looked_parts m answer) (nat_lt (scheduled_end m) (min m.known_end m.range.end)) refl;
    }
  where
    due_by : m.waiting ≡ [] → n.asked ≡ m.asked → n.known_end ≡ m.known_end → n.range.start ≡ m.range.start → n.range.end ≡ m.range.end
        → (looked_ahead m answer ≡ m) ⊎ ((size : ℕ) × (looked_ahead m answer ≡ record m { queries = scheduled m size }))
        → (b : Bool) → nat_lt (scheduled_end m) (min m.known_end m.range.end) ≡ b → (n.asked < length n.queries) ⊎ (min n.known_end n.range.end ≤ scheduled_end n)
    due_by none asked known start end parts true t =
        let more = ahead none (ltb-true (scheduled_end m) (min m.known_end m.range.end) t) in
        let within = x.asked_within in
        inl (omega arith)
    due_by none asked known start end (inl same) false t =
        let all : n ≡ m = e ∙ same in
        let reached = ltb-false (scheduled_end m) (min m.known_end m.range.end) t in
        let at : scheduled_end n ≡ scheduled_end m = ap scheduled_end all in
        inr (omega arith)
    due_by none asked known start end (inr (size, some)) false t =
        let all : n ≡ record m { queries = scheduled m size } = e ∙ some in
        by_size (nat_lt (scheduled_end m) (cut_end m size)) (ap (λ (m : Manager). m.queries) all)
      where
        by_size : (b : Bool) → n.queries ≡ cond b (m.queries ++ record { start = scheduled_end m; end = cut_end m size } ∷ []) m.queries → (n.asked < length n.queries) ⊎ (min n.known_end n.range.end ≤ scheduled_end n)
        by_size true qs =
            let l = ap length qs in
            let more = length-append m.queries (record { start = scheduled_end m; end = cut_end m size } ∷ []) in
            let within = x.asked_within in
            inl (omega arith)
        by_size false qs =
            let reached = ltb-false (scheduled_end m) (min m.known_end m.range.end) t in
            let at : scheduled_end n ≡ scheduled_end m = ap (λ qs. end_from n.range.start qs) qs ∙ ap (λ p. end_from p m.queries) start in
            inr (omega arith)

-- after the answer to the only query that counts as asked and has none
pub accepted_goes_on : (m n : Manager) (q : FileRange) (o : Option TermBlock) → n ≡ accepted m q o → IsManager m → m.asked ≡ m.answered + 1 → slice_get m.queries m.answered ≡ Some q → GoesOn n
accepted_goes_on m n q o e x one at = record {
  answered = ap (λ (m : Manager). m.answered) e ∙ sym one ∙ sym (ap (λ (m : Manager). m.asked) e);
  due = λ none. go o e (sym (ap (λ (m : Manager). m.waiting) e) ∙ none);
}
  where
    go : (o : Option TermBlock) → n ≡ accepted m q o → waiting_after m.waiting o ≡ [] → (n.asked < length n.queries) ⊎ (min n.known_end n.range.end ≤ scheduled_end n)
    go (Some b) e none =
        let l = ap length none in
        let more = length-append m.waiting (b ∷ []) in
        absurd (omega arith)
    go None e none =
        let known : n.known_end ≡ min m.known_end q.start = ap (λ (m : Manager). m.known_end) e in
        let start : n.range.start ≡ m.range.start = ap (λ (m : Manager). m.range.start) e in
        let count = m.asked + prefix_len (λ x. nat_lt x.start (min m.known_end q.start)) (drop m.asked m.queries) in
        let qs : n.queries ≡ take count m.queries =
        ap (λ (m : Manager). m.queries) e ∙ without_is m.range.start m.range.end (m.greatest + m.least) m.asked (min m.known_end q.start) m.queries x.cuts in
        let past : q.start ≤ end_from m.range.start (take count m.queries) = end_past m.range.start m.range.end (m.greatest + m.least) m.queries m.answered count q x.cuts at (omega arith) in
        let same : scheduled_end n ≡ end_from m.range.start (take count m.queries) = ap (λ qs. end_from n.range.start qs) qs ∙ ap (λ p. end_from p (take count m.queries)) start in
        inr (omega arith)

slice_get_none : {A : Type 0} (xs : List A) (k : ℕ) → slice_get xs k ≡ None → length xs ≤ k
slice_get_none [] k h = omega arith
slice_get_none (x ∷ xs) zero h = absurd (cc)
slice_get_none (x ∷ xs) (suc k) h = let n = slice_get_none xs k h in omega arith

pub covered : (m : Manager) → IsManager m → GoesOn m → slice_get m.queries m.asked ≡ None → m.waiting ≡ [] → IsCovered m
covered m x g none empty =
    let all : m.asked ≡ length m.queries = asked_all in
    record { answered = g.answered ∙ all; reached = ⊎_elim (λ h. absurd (omega arith)) (λ h. h) (g.due empty) }
  where
    asked_all : m.asked ≡ length m.queries
    asked_all = let out = slice_get_none m.queries m.asked none in let within = x.asked_within in omega arith
