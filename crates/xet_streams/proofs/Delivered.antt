-- The next term of a stream, which is admitted: its block is provided, and its bytes are handed over.
use Rattle.std.proofs.Common.{◌≡◌, inl, inr, ℕ, zero, suc, ◌+◌, ◌-◌, ◌<◌, ◌==◌, Bool, true, false, cond, List, [], ◌∷◌, ◌++◌, length, drop, take, refl, sym, subst, ◌∙◌, ap, arith, append_assoc, Option, Some, None, Ok, Err}
use Rattle.std.specs.Prelude.{MatchOption, count_by, filter, map, slice_get}
use Rattle.std.proofs.lemmas.Bool.{and_from, eq-eqb, ltb-true}
use Rattle.std.proofs.lemmas.List.{append-nil}
use Rattle.std.proofs.lemmas.List.Elements.{All-head, All-tail}
use Rattle.xet_base.specs.declared.cas_types.FileRange.{FileRange}
use Rattle.xet_error.specs.declared.error.FileReconstructionError.{FileReconstructionError}
use Rattle.xet_events.specs.declared.event.Event.{Event}
use Rattle.xet_events.specs.declared.event.Event.TheVariants.{Cached, Expired, Fetched, Refreshed, Wrote}
use Rattle.xet_events.specs.Events.{Task, expires, is_kept, planned}
use Rattle.xet_ties.specs.declared.lane_step.LaneStep.{LaneStep}
use Rattle.xet_ties.specs.Lanes.{Ask}
use Rattle.xet_ties.specs.Saids.{has_bytes, some_of}
use Rattle.xet_ties.specs.Setup.{Setup}
use Rattle.xet_leader.specs.declared.ahead.NextTerm.{NextTerm}
use Rattle.xet_leader.specs.declared.leader.LedPlan.{LedPlan}
use Rattle.xet_leader.specs.declared.missing_blocks.BlockAt.{BlockAt}
use Rattle.xet_leader.specs.Advances.{advanced}
use Rattle.xet_leader.specs.Led.{Led}
use Rattle.xet_leader.specs.LedTerms.{IsFirstSome, IsNextTerm, NoneHas, PlanTerm, ahead, kept_in, of_plan, size_in, some_in, task_of}
use Rattle.xet_leader.proofs.CallerLemmas.{next_tasks, same_found}
use Rattle.xet_stream_rules.specs.declared.step.Step.{Step}
use Rattle.xet_stream_rules.specs.declared.step.Step.TheVariants.{Pending, Ready}
use Rattle.xet_stream_rules.specs.Moments.{At, Goes, at}
use Rattle.xet_stream_rules.specs.StepTold.{Asks}
use Rattle.xet_stream_rules.specs.Streams.{Carries, IsAtEnd, IsNextKept, delivered, left_for, next_term, nobody}
use Rattle.xet_stream_rules.proofs.CallerLemmas.{IsStill, cause_from, count_by-append, goes_nowhere, none_next, still_delivered, still_planned, tells_nobody}
use Rattle.xet_stream_terms.specs.Handing.{HandsTerm, IsOpenNext}
use Rattle.xet_stream_terms.proofs.CallerLemmas.{empties_are, goes_wrote, next_task, piece_sized, refused_cause, unkept}
use Rattle.xet_stream_blocks.specs.BlockParts.{BlockFails}
use Rattle.xet_stream_blocks.specs.Providing.{IsProvision, Provides}
use Rattle.xet_stream_blocks.proofs.CallerLemmas.{block_part}
use Rattle.xet_streams.specs.Places.{IsPlaced}
use Rattle.xet_streams.specs.steps.Stepping.{Delivers, IsPlaceOf, StepAnswer, left_at}

-- ---- what a block's events leave

-- terms and pieces are as before
record IsSame (es fs : List Event) : Type 0 where
  pub planned_are : planned fs ≡ planned es
  pub delivered_are : delivered fs ≡ delivered es

same_one : (es fs : List Event) (e : Event) → IsStill e → fs ≡ es ++ e ∷ [] → IsSame es fs
same_one es fs e s h = record {
  planned_are = ap planned h ∙ still_planned es e s;
  delivered_are = ap delivered h ∙ still_delivered es e s;
}

same_two : (es fs : List Event) (e f : Event) → IsStill e → IsStill f → fs ≡ es ++ e ∷ f ∷ [] → IsSame es fs
same_two es fs e f s t h =
    let m : List Event = es ++ e ∷ [] in
    let one : IsSame es m = same_one es m e s refl in
    let two : IsSame m fs = same_one m fs f t (h ∙ sym (append_assoc es (e ∷ []) (f ∷ []))) in
    record {
      planned_are = two.planned_are ∙ one.planned_are;
      delivered_are = two.delivered_are ∙ one.delivered_are;
    }

same_events : (lane : ℕ) (c : BlockAt) (block : Option (Ask × LaneStep)) (again : Option FileRange) (new : List Event)
    → IsProvision lane c block again new → (es fs : List Event) → fs ≡ es ++ new → IsSame es fs
same_events lane c None None new (inl e) es fs h =
    let n : fs ≡ es = h ∙ ap (λ (v : List Event). es ++ v) e ∙ append-nil es in
    record { planned_are = ap planned n; delivered_are = ap delivered n }
same_events lane c None None new (inr e) es fs h = same_one es fs (Cached c.plan c.block)
    (record { tasks = refl; query = refl; wrote = refl }) (h ∙ ap (λ (v : List Event). es ++ v) e)
same_events lane c (Some a) None new e es fs h = same_one es fs (Fetched lane c.plan c.block)
    (record { tasks = refl; query = refl; wrote = refl }) (h ∙ ap (λ (v : List Event). es ++ v) e.6)
same_events lane c (Some a) (Some q) new e es fs h = same_two es fs (Expired lane c.plan c.block) (Refreshed c.plan)
    (record { tasks = refl; query = refl; wrote = refl }) (record { tasks = refl; query = refl; wrote = refl })
    (h ∙ ap (λ (v : List Event). es ++ v) e.1)
same_events lane c None (Some q) new e es fs h = absurd e

next_same : (es fs : List Event) → IsSame es fs → next_term fs ≡ next_term es
next_same es fs s =
    ap (λ (ts : List Task). slice_get (filter has_bytes ts) (delivered fs)) s.planned_are
    ∙ ap (λ (n : ℕ). slice_get (some_of es) n) s.delivered_are

-- where it isn't kept, its URL had expired and its plan was asked for again
late : (lane : ℕ) (c : BlockAt) (block : Option (Ask × LaneStep)) (again : Option FileRange) (new : List Event)
    → IsProvision lane c block again new → (again ≡ None → ⊥)
    → new ≡ Expired lane c.plan c.block ∷ Refreshed c.plan ∷ []
late lane c None None new e h = absurd (h refl)
late lane c (Some a) None new e h = absurd (h refl)
late lane c (Some a) (Some q) new e h = e.1
late lane c None (Some q) new e h = absurd e

one_late : (lane p b : ℕ) → count_by (expires p b) (Expired lane p b ∷ Refreshed p ∷ []) ≡ 1
one_late lane p b =
    ap (λ (v : Bool). 0 + cond v 1 0 + 0) (and_from (p == p) (b == b) (eq-eqb p p refl) (eq-eqb b b refl))

-- ---- the place of the next term

-- of the same tasks the first one that has bytes stands at the same place
first_place : (ts us : List PlanTerm) (i j : ℕ) (t u : PlanTerm) → map task_of ts ≡ map task_of us → IsFirstSome ts i t
    → IsFirstSome us j u → i ≡ j
first_place [] us i j t u e f h = absurd (let z = f.there in cc)
first_place (x ∷ ts) [] i j t u e f h = absurd (cc)
first_place (x ∷ ts) (y ∷ us) zero zero t u e f h = refl
first_place (x ∷ ts) (y ∷ us) zero (suc j) t u e f h =
    let same : task_of x ≡ task_of y = cc in
    let is : x ≡ t = (let z = f.there in cc) in
    let yes : some_in x ≡ true = ap some_in is ∙ f.some in
    let no : some_in y ≡ false = All-head (λ v. some_in v ≡ false) y (take j us) h.before in
    absurd (let z : true ≡ false = sym yes ∙ ap has_bytes same ∙ no in cc)
first_place (x ∷ ts) (y ∷ us) (suc i) zero t u e f h =
    let same : task_of x ≡ task_of y = cc in
    let is : y ≡ u = (let z = h.there in cc) in
    let yes : some_in y ≡ true = ap some_in is ∙ h.some in
    let no : some_in x ≡ false = All-head (λ v. some_in v ≡ false) x (take i ts) f.before in
    absurd (let z : true ≡ false = sym yes ∙ sym (ap has_bytes same) ∙ no in cc)
first_place (x ∷ ts) (y ∷ us) (suc i) (suc j) t u e f h =
    let rest : map task_of ts ≡ map task_of us = cc in
    ap suc (first_place ts us i j t u rest
    (record { there = f.there; before = All-tail (λ v. some_in v ≡ false) x (take i ts) f.before; some = f.some })
    (record { there = h.there; before = All-tail (λ v. some_in v ≡ false) y (take j us) h.before; some = h.some }))

-- ---- one delivery

module _ (g : Setup) (a m : At) (c : Carries nobody g a.events a.led) (n : NextTerm) (next : IsOpenNext a.led n)
    (place : BlockAt) (is : IsPlaceOf a.led.plans n place) (provided : Provides g a m place) where
  abbrev first : PlanTerm
  first = of_plan next.next.plan n.term

  own_plan : is.plan ≡ next.next.plan
  own_plan = same_found is.plan next.next.plan a.led.plans n.place n.place is.at next.next.at refl

  plan_is : place.plan ≡ next.next.plan.number
  plan_is = is.plan_is ∙ ap (λ (l : LedPlan). l.number) own_plan

  pub carries_now : Carries nobody g m.events m.led
  carries_now = provided.goes.carries nobody (tells_nobody a.clients a.cache) c

  same : IsSame a.events m.events
  same = same_events provided.lane place provided.block provided.again provided.new provided.is a.events m.events
      provided.added

  term_before : next_term a.events ≡ Some (task_of first)
  term_before = next_task g a.events a.led c n next.next next.open_now

  term_after : next_term m.events ≡ Some (task_of first)
  term_after = next_same a.events m.events same ∙ term_before

  -- there is a next term after it
  pub some_left : NoneHas (ahead m.led) → ⊥
  some_left none =
      let z : ◌≡◌ {A = Option Task} None (Some (task_of first)) =
      sym (none_next nobody g m.events m.led carries_now none) ∙ term_after in
      cc

  not_end : IsAtEnd g.range m.events → ⊥
  not_end e = let z : ◌≡◌ {A = Option Task} None (Some (task_of first)) = sym e.all ∙ term_after in cc

  same_tasks : map task_of (ahead m.led) ≡ map task_of (ahead a.led)
  same_tasks =
      sym (next_tasks g nobody m.events carries_now.slack [] m.led carries_now.led.counted.planned_are
      carries_now.led.plans)
      ∙ ap (λ (k : ℕ). drop k (planned m.events)) provided.finished
      ∙ ap (λ (ts : List Task). drop a.led.finished ts) same.planned_are
      ∙ next_tasks g nobody a.events c.slack [] a.led c.led.counted.planned_are c.led.plans

  -- it is the same term, and admitted
  pub open_next : (k : NextTerm) → IsNextTerm m.led k → IsOpenNext m.led k
  open_next k h =
      let one = first_place (ahead m.led) (ahead a.led) h.count next.next.count (of_plan h.plan k.term) first same_tasks
      h.first next.next.first in
      let e = empties_are g m.events m.led carries_now k h in
      let f = empties_are g a.events a.led c n next.next in
      let finished = provided.finished in
      let admitted = provided.admitted in
      let o = next.open_now in
      record { next = h; open_now = omega (arith, one, e, f, finished, admitted, o) }

  -- nothing is kept for it: an expired answer was counted
  module _ (k : NextTerm) (h : IsNextTerm m.led k) (none : kept_in (of_plan h.plan k.term) ≡ None) where
    term_is : task_of (of_plan h.plan k.term) ≡ task_of first
    term_is =
        let z : ◌≡◌ {A = Option Task} (Some (task_of (of_plan h.plan k.term))) (Some (task_of first)) =
        sym (next_task g m.events m.led carries_now k h (open_next k h).open_now) ∙ term_after in
        cc

    not_kept : is_kept m.events next.next.plan.number n.term.xorb_block ≡ false
    not_kept =
        ap (λ (t : Task). is_kept m.events t.plan t.term.block) (sym term_is)
        ∙ unkept g m.events m.led carries_now k h (open_next k h).open_now none

    place_unkept : is_kept m.events place.plan place.block ≡ false
    place_unkept =
        ap (λ (p : ℕ). is_kept m.events p place.block) plan_is
        ∙ ap (λ (b : ℕ). is_kept m.events next.next.plan.number b) is.block_is ∙ not_kept

    again : provided.again ≡ None → ⊥
    again e = let z : true ≡ false = sym (provided.kept e) ∙ place_unkept in cc

    new_is : provided.new ≡ Expired provided.lane place.plan place.block ∷ Refreshed place.plan ∷ []
    new_is = late provided.lane place provided.block provided.again provided.new provided.is again

    pub next_unkept : IsNextKept m.events → ⊥
    next_unkept w =
        let y : is_kept m.events next.next.plan.number n.term.xorb_block ≡ true =
        subst (λ (o : Option Task). MatchOption o ⊥ (λ t. is_kept m.events t.plan t.term.block ≡ true)) term_after w in
        let z : true ≡ false = sym y ∙ not_kept in
        cc

    pub some_new : 0 < length provided.new
    some_new = let z = ap length new_is in omega (arith, z)

    pub fewer_left : left_at g m.events < left_at g a.events
    fewer_left =
        let p = next.next.plan.number in
        let b = n.term.xorb_block in
        let before : left_at g a.events ≡ g.tries - count_by (expires p b) a.events =
        ap (λ (o : Option Task). left_for g.tries a.events o) term_before in
        let after : left_at g m.events ≡ g.tries - count_by (expires p b) m.events =
        ap (λ (o : Option Task). left_for g.tries m.events o) term_after in
        let sum = count_by-append (expires p b) a.events provided.new in
        let all = ap (λ (v : List Event). count_by (expires p b) v) provided.added in
        let one : count_by (expires p b) provided.new ≡ 1 =
        ap (λ (v : List Event). count_by (expires p b) v) new_is
        ∙ ap (λ (q : ℕ). count_by (expires p b) (Expired provided.lane q place.block ∷ Refreshed q ∷ [])) plan_is
        ∙ ap (λ (q : ℕ). count_by (expires p b) (Expired provided.lane p q ∷ Refreshed p ∷ [])) is.block_is
        ∙ one_late provided.lane p b in
        let under = c.led.under p b in
        omega (arith, before, after, sum, all, one, under)

  -- by what handing it over answered
  module _ (k : NextTerm) (fs : List Event) (l : Led) where
    abbrev y : At
    y = at fs l m.clients m.cache

    unmoved : fs ≡ m.events → l ≡ m.led → y ≡ m
    unmoved e f = ap (λ (v : List Event). at v l m.clients m.cache) e
        ∙ ap (λ (v : Led). at m.events v m.clients m.cache) f

    pub delivers : (answer : Step (Option (List ℕ))) → HandsTerm m.events fs m.led l k (Ok answer)
        → Delivers g a y answer
    delivers Pending t =
        let none = t.hands.0 in
        let still : y ≡ m = unmoved t.hands.1 t.hands.2 in
        record {
          place = place;
          middle = m;
          provided = provided;
          hands = (not_end, next_unkept k t.next none, still);
          goes = subst (Goes g m) (sym still) (goes_nowhere g m);
          moved = λ e. some_new k t.next none;
          falls = λ e. fewer_left k t.next none;
        }
    delivers (Ready None) t = absurd t.hands
    delivers (Ready (Some piece)) t =
        let x = t.next in
        let term : PlanTerm = of_plan x.plan k.term in
        let o = (open_next k x).open_now in
        let long = piece_sized term piece t.hands.0 in
        let some = ltb-true 0 (size_in term) x.first.some in
        let count = empties_are g m.events m.led carries_now k x in
        let goes = goes_wrote g m.events m.led carries_now k x o m.clients m.cache in
        let events : fs ≡ m.events ++ Wrote (size_in term) ∷ [] = t.hands.1 in
        let led : l ≡ advanced (k.empties + 1) m.led = t.hands.2 in
        record {
          place = place;
          middle = m;
          provided = provided;
          hands = (
            not_end,
            record {
              count = x.count;
              term = term;
              at = x.first.there;
              empties = x.first.before;
              next = next_task g m.events m.led carries_now k x o;
              bytes = t.hands.0;
              sized = long;
              some = omega (arith, long, some);
              is = ap (λ (v : List Event). at v l m.clients m.cache)
                  (events ∙ ap (λ (s : ℕ). m.events ++ Wrote s ∷ []) (sym long))
                  ∙ ap (λ (v : Led). at (m.events ++ Wrote (length piece) ∷ []) v m.clients m.cache)
                  (led ∙ ap (λ (s : ℕ). advanced (s + 1) m.led) count);
            },
          );
          goes = subst (λ (v : List Event). Goes g m (at v l m.clients m.cache)) (sym events)
              (subst (λ (v : Led). Goes g m (at (m.events ++ Wrote (size_in term) ∷ []) v m.clients m.cache)) (sym led)
              goes);
          moved = λ e. absurd (cc);
          falls = λ e. absurd (cc);
        }

    pub placed_at : (start : ℕ) → start ≡ k.term.byte_range.start → (answer : StepAnswer)
        → HandsTerm m.events fs m.led l k answer → IsPlaced fs start answer
    placed_at start e (Ok Pending) t = tt
    placed_at start e (Ok (Ready None)) t = tt
    placed_at start e (Ok (Ready (Some piece))) t =
        let x = t.next in
        let term : PlanTerm = of_plan x.plan k.term in
        let o = (open_next k x).open_now in
        let long = piece_sized term piece t.hands.0 in
        record {
          before = m.events;
          last = t.hands.1 ∙ ap (λ (s : ℕ). m.events ++ Wrote s ∷ []) (sym long);
          term = task_of term;
          next = next_task g m.events m.led carries_now k x o;
          at = e;
        }
    placed_at start e (Err x) t = tt

    pub delivers_vain : (e : FileReconstructionError) → HandsTerm m.events fs m.led l k (Err e) → BlockFails g a y e
    delivers_vain e t =
        let x = t.next in
        let o = (open_next k x).open_now in
        let still : y ≡ m = unmoved t.hands.1 t.hands.0 in
        let part = block_part g a m place provided in
        let asks : Asks = record { plan = None; block = part.block; again = part.again } in
        subst (λ (v : At). BlockFails g a v e) (sym still) (record {
          part = part;
          cause = cause_from g a m m provided.goes part.new asks e
              (refused_cause g m.events m.led carries_now k x o m.clients m.cache part.new asks e t.hands.2);
          spent = λ s.
              let under = carries_now.led.under s.plan s.block in
              let reached = s.reached in
              absurd (omega (arith, under, reached));
        })
