-- A leader's manager after the answer to the query that was due, whose plan was handed out.
use Rattle.std.proofs.Common.{◌≡◌, ℕ, zero, suc, ◌+◌, ◌<◌, ◌≤◌, Bool, true, false, cond, List, [], ◌∷◌, ◌++◌, length, take, drop, refl, sym, subst, ◌∙◌, ap, arith, inl, inr, Option, Some, None, ⊎_elim}
use Rattle.std.specs.Prelude.{filter, map, nat_lt, ◌||◌, All}
use Rattle.std.proofs.lemmas.Bool.{le-ltb, lt-ltb, ltb-false, ltb-true}
use Rattle.std.proofs.lemmas.List.{append-nil, length-take-le, take-append-drop, take-append-le, take_all}
use Rattle.xet_base.specs.declared.cas_types.FileRange.{FileRange}
use Rattle.xet_blocks.specs.declared.reconstruction_terms.file_term.TermBlock.{TermBlock}
use Rattle.xet_events.specs.declared.event.Event.{Event}
use Rattle.xet_events.specs.declared.event.PlannedBlock.{PlannedBlock}
use Rattle.xet_events.specs.declared.event.PlannedTerm.{PlannedTerm}
use Rattle.xet_events.specs.Events.{last_of, plan_count, planned_end, tasks_of}
use Rattle.xet_events.proofs.CallerLemmas.{end-push, flat-push}
use Rattle.xet_history.specs.TrueHistory.{EndsEarly, SomeEndsEarly, queries, queries_in}
use Rattle.xet_terms.specs.Managers.{IsManager, Manager, accepted, ends_early, known_after, planned_with, without_past}
use Rattle.xet_terms.specs.Queries.{CutFrom, end_from}
use Rattle.xet_terms.proofs.CallerLemmas.{cuts-take}
use Rattle.xet_ties.specs.History.{actual_range}
use Rattle.xet_ties.specs.Setup.{Setup}
use Rattle.xet_ties.specs.PartCalls.{blocks_of_answer, plan_event, terms_in}
use Rattle.xet_leader.specs.Led.{IsLedManager}
use Rattle.xet_leader.proofs.NextQueries.{IsDue, cut_last, due_cuts, end_last, take_next}
use Rattle.xet_ties.specs.Ties.{IsLong}
use Rattle.std.proofs.lemmas.List.Elements.{All-take}
use Rattle.xet_ties.proofs.CallerLemmas.{early_back}

-- ---- queries that weren't asked

cuts_rest : (place end bound : ℕ) (qs : List FileRange) (n : ℕ) → CutFrom place end bound qs
    → CutFrom (end_from place (take n qs)) end bound (drop n qs)
cuts_rest place end bound [] zero c = tt
cuts_rest place end bound [] (suc n) c = tt
cuts_rest place end bound (q ∷ qs) zero c = c
cuts_rest place end bound (q ∷ qs) (suc n) c = cuts_rest q.end end bound qs n c.4

-- none starts below a place that they don't start below
none_below : (place end bound known : ℕ) (qs : List FileRange) → CutFrom place end bound qs → known ≤ place
    → filter (λ q. nat_lt q.start known) qs ≡ []
none_below place end bound known [] c h = refl
none_below place end bound known (q ∷ qs) c h =
    let from : q.start ≡ place = c.0 in
    let forward = c.1 in
    let no : nat_lt q.start known ≡ false = le-ltb q.start known (omega (arith, from, h)) in
    ap (λ (b : Bool). cond b (q ∷ filter (λ q. nat_lt q.start known) qs) (filter (λ q. nat_lt q.start known) qs)) no
    ∙ none_below q.end end bound known qs c.4 (omega (arith, from, h, forward))

-- all start below their end
all_below : (place end bound known : ℕ) (qs : List FileRange) → CutFrom place end bound qs → end ≤ known
    → filter (λ q. nat_lt q.start known) qs ≡ qs
all_below place end bound known [] c h = refl
all_below place end bound known (q ∷ qs) c h =
    let forward = c.1 in
    let within = c.2 in
    let yes : nat_lt q.start known ≡ true = lt-ltb q.start known (omega (arith, forward, within, h)) in
    ap (λ (b : Bool). cond b (q ∷ filter (λ q. nat_lt q.start known) qs) (filter (λ q. nat_lt q.start known) qs)) yes
    ∙ ap (λ (l : List FileRange). q ∷ l) (all_below q.end end bound known qs c.4 h)

-- ---- the answer

-- where the answer's terms end, or where the query starts
abbrev pub answer_end : FileRange → Option TermBlock → ℕ
answer_end q None = q.start
answer_end q (Some t) = t.byte_range.end

-- an answer to the query: its terms end as they say, within the query
pub record Answers (q : FileRange) (t : Option TermBlock) : Type 0 where
  pub ends : (actual_range q (terms_in t)).end ≡ answer_end q t
  pub within : answer_end q t ≤ q.end

-- a plan that was taken is handed out
abbrev pub handed : Manager → Option TermBlock → Manager
handed m None = m
handed m (Some t) = record m { waiting = []; handed_end = t.byte_range.end }

-- ended or not, it keeps the queries that were asked
asked_kept : (m : Manager) (known : ℕ) → m.asked ≤ length m.queries
    → take m.asked (without_past m.asked known m.queries) ≡ take m.asked m.queries
asked_kept m known h =
    let n = length-take-le m.asked m.queries h in
    take-append-le m.asked (take m.asked m.queries) (filter (λ q. nat_lt q.start known) (drop m.asked m.queries))
    (omega (arith, n)) ∙ take_all m.asked (take m.asked m.queries) (omega (arith, n))

-- the queries after an answer, where the file ends at or before the query's end or no end was known
queries_after : (m : Manager) (known : ℕ) → CutFrom m.range.start m.range.end (m.greatest + m.least) m.queries
    → known ≤ end_from m.range.start (take m.asked m.queries)
    → without_past m.asked known m.queries ≡ take m.asked m.queries
queries_after m known c h =
    ap (λ (l : List FileRange). take m.asked m.queries ++ l)
    (none_below (end_from m.range.start (take m.asked m.queries)) m.range.end (m.greatest + m.least) known
    (drop m.asked m.queries) (cuts_rest m.range.start m.range.end (m.greatest + m.least) m.queries m.asked c) h)
    ∙ append-nil (take m.asked m.queries)

queries_stay : (m : Manager) (known : ℕ) → CutFrom m.range.start m.range.end (m.greatest + m.least) m.queries
    → m.range.end ≤ known → without_past m.asked known m.queries ≡ m.queries
queries_stay m known c h =
    ap (λ (l : List FileRange). take m.asked m.queries ++ l)
    (all_below (end_from m.range.start (take m.asked m.queries)) m.range.end (m.greatest + m.least) known
    (drop m.asked m.queries) (cuts_rest m.range.start m.range.end (m.greatest + m.least) m.queries m.asked c) h)
    ∙ take-append-drop m.asked m.queries

task_ends : (plan : ℕ) (bs : List PlannedBlock) (place : ℕ) (ts : List PlannedTerm)
    → last_of place (map (λ x. x.term.byte_range.end) (tasks_of plan ts bs)) ≡ last_of place
    (map (λ x. x.byte_range.end) ts)
task_ends plan bs place [] = refl
task_ends plan bs place (t ∷ ts) = task_ends plan bs t.byte_range.end ts

early_push : (es : List Event) (e : Event) → EndsEarly e → SomeEndsEarly (es ++ e ∷ [])
early_push [] e h = inl h
early_push (x ∷ es) e h = inr (early_push es e h)

module _ (g : Setup) (es : List Event) (m : Manager) (q : FileRange) (d : IsDue g es m q) (t : Option TermBlock)
    (a : Answers q t) where
  asked_within : m.asked ≤ length m.queries
  asked_within = d.kept.asked_within

  -- the queries that were asked are those of the history, and this one
  asked_are : take m.asked m.queries ≡ queries es ++ q ∷ []
  asked_are =
      let one : m.asked ≡ suc m.answered = (let h = d.one in omega (arith, h)) in
      ap (λ (n : ℕ). take n m.queries) one ∙ take_next m.queries m.answered q d.at
      ∙ ap (λ (l : List FileRange). l ++ q ∷ []) (sym d.queries_are)

  asked_end : end_from m.range.start (take m.asked m.queries) ≡ q.end
  asked_end = ap (end_from m.range.start) asked_are ∙ end_last m.range.start (queries es) q

  cut : (q.start ≡ end_from g.range.start (queries es)) × (q.start < q.end) × (q.end ≤ g.range.end)
  cut = cut_last g.range.start g.range.end (g.greatest + g.least) (queries es) q (due_cuts g es m q d).from

  -- an answer that ends early lets the end be known, at or before the query's end
  known_low : ends_early q t ≡ true → known_after m.known_end q t ≤ q.end
  known_low = go t a.within
    where
      go : (o : Option TermBlock) → answer_end q o ≤ q.end → ends_early q o ≡ true
          → known_after m.known_end q o ≤ q.end
      go None w e = let f = cut.1 in omega (arith, f)
      go (Some b) w e = subst (λ (v : Bool). cond v b.byte_range.end m.known_end ≤ q.end) (sym e) w

  known_same : ends_early q t ≡ false → known_after m.known_end q t ≡ m.known_end
  known_same = go t
    where
      go : (o : Option TermBlock) → ends_early q o ≡ false → known_after m.known_end q o ≡ m.known_end
      go None e = absurd (cc)
      go (Some b) e = ap (λ (v : Bool). cond v b.byte_range.end m.known_end) e

  abbrev known : ℕ
  known = known_after m.known_end q t

  abbrev queries_now : List FileRange
  queries_now = without_past m.asked known m.queries

  queries_early : ends_early q t ≡ true → queries_now ≡ take m.asked m.queries
  queries_early e = let low = known_low e in queries_after m known d.kept.cuts (omega (arith, low, asked_end))

  queries_same : ends_early q t ≡ false → queries_now ≡ m.queries
  queries_same e =
      let at = known_same e in
      let last = d.kept.still_open d.unended in
      let fits = d.kept.range_fits in
      queries_stay m known d.kept.cuts (omega (arith, at, last, fits))

  ended_is : (m.ended || ends_early q t) ≡ ends_early q t
  ended_is = ap (λ (v : Bool). v || ends_early q t) d.unended

  -- the manager, whatever waits and wherever the plan that was handed out last ends
  abbrev after : List TermBlock → ℕ → Manager
  after ws end = record m {
    queries = queries_now;
    answered = m.answered + 1;
    known_end = known;
    ended = m.ended || ends_early q t;
    waiting = ws;
    handed_end = end;
    planned = planned_with m.planned t;
  }

  kept_after : (ws : List TermBlock) (end : ℕ) → IsManager (after ws end)
  kept_after ws end = record {
    least_some = d.kept.least_some;
    least_below = d.kept.least_below;
    cuts = by_end (λ (l : List FileRange). CutFrom m.range.start m.range.end (m.greatest + m.least) l)
        (cuts-take m.range.start m.range.end (m.greatest + m.least) m.queries m.asked d.kept.cuts) d.kept.cuts;
    asked_within = by_end (λ (l : List FileRange). m.asked ≤ length l)
        (let n = length-take-le m.asked m.queries asked_within in omega (arith, n)) asked_within;
    answered_within = let one = d.one in omega (arith, one);
    still_open = λ e. known_same (sym ended_is ∙ e) ∙ d.kept.still_open d.unended;
    range_fits = d.kept.range_fits;
  }
    where
      by_end : (P : List FileRange → Type 0) → P (take m.asked m.queries) → P m.queries → P queries_now
      by_end P early same = go (ends_early q t) refl
        where
          go : (b : Bool) → ends_early q t ≡ b → P queries_now
          go true e = subst P (sym (queries_early e)) early
          go false e = subst P (sym (queries_same e)) same

  long_now : All (IsLong g) queries_now
  long_now = go (ends_early q t) refl
    where
      go : (b : Bool) → ends_early q t ≡ b → All (IsLong g) queries_now
      go true e = subst (λ (l : List FileRange). All (IsLong g) l) (sym (queries_early e))
          (All-take (IsLong g) m.asked m.queries d.long)
      go false e = subst (λ (l : List FileRange). All (IsLong g) l) (sym (queries_same e)) d.long

  -- the queries that are answered now
  answered_are : take (m.answered + 1) queries_now ≡ queries es ++ q ∷ []
  answered_are = ap (λ (n : ℕ). take n queries_now) (sym d.one) ∙ asked_kept m known asked_within ∙ asked_are

  end_now : end_from g.range.start (take (m.answered + 1) queries_now) ≡ q.end
  end_now = ap (end_from g.range.start) answered_are ∙ end_last g.range.start (queries es) q

  -- the planned terms end where the answer's do
  planned_now : planned_end (es ++ plan_event es q t ∷ []) g.range.start ≡ answer_end q t
  planned_now =
      end-push es (plan_event es q t) g.range.start
      ∙ ap (λ (n : ℕ). last_of n (map (λ x. x.term.byte_range.end)
      (tasks_of (plan_count es + 1) (terms_in t) (blocks_of_answer t)))) (d.going ∙ sym cut.0)
      ∙ task_ends (plan_count es + 1) (blocks_of_answer t) q.start (terms_in t)
      ∙ a.ends

  ends_now : ends_early q t ≡ false → answer_end q t ≡ q.end
  ends_now = go t a.within
    where
      go : (o : Option TermBlock) → answer_end q o ≤ q.end → ends_early q o ≡ false → answer_end q o ≡ q.end
      go None w e = absurd (cc)
      go (Some b) w e = let no = ltb-false b.byte_range.end q.end e in omega (arith, no, w)

  early_now : ends_early q t ≡ true → answer_end q t < q.end
  early_now = go t
    where
      go : (o : Option TermBlock) → ends_early q o ≡ true → answer_end q o < q.end
      go None e = cut.1
      go (Some b) e = ltb-true b.byte_range.end q.end e

  goes_now : ends_early q t ≡ false → SomeEndsEarly (es ++ plan_event es q t ∷ []) → ⊥
  goes_now e h =
      ⊎_elim
      (λ (k : SomeEndsEarly es). d.goes_on k)
      (λ (k : EndsEarly (plan_event es q t)).
      let end = a.ends in let to = ends_now e in absurd (omega (arith, k, end, to)))
      (early_back es (plan_event es q t) h)

  led_after : (ws : List TermBlock) (end : ℕ) → ws ≡ [] → IsLedManager g (es ++ plan_event es q t ∷ []) (after ws end)
  led_after ws end none = record {
    is_for = record {
      file = d.is_for.file;
      range = d.is_for.range;
      least = d.is_for.least;
      greatest = d.is_for.greatest;
      multirange = d.is_for.multirange;
    };
    kept = kept_after ws end;
    queries_are = flat-push queries_in es (plan_event es q t) ∙ sym answered_are;
    idle = d.one;
    none_waits = none;
    going = λ e. planned_now ∙ ends_now (sym ended_is ∙ e) ∙ sym end_now;
    early = λ e. early_push es (plan_event es q t)
        (subst (λ (n : ℕ). n < q.end) (sym a.ends) (early_now (sym ended_is ∙ e)));
    over = λ e. (
        let n = length-take-le m.asked m.queries asked_within in
        let l : length queries_now ≡ length (take m.asked m.queries) = ap length (queries_early (sym ended_is ∙ e)) in
        let one = d.one in
        omega (arith, n, l, one)
        );
    covered = λ e. (
        let low = known_low (sym ended_is ∙ e) in
        let l : end_from m.range.start queries_now ≡ end_from m.range.start (take m.asked m.queries) =
        ap (end_from m.range.start) (queries_early (sym ended_is ∙ e)) in
        omega (arith, low, l, asked_end)
        );
    goes_on = λ e. goes_now (sym ended_is ∙ e);
    long = long_now;
  }

-- so the leader's manager is one after it
pub led_accepted : (g : Setup) (es : List Event) (m : Manager) (q : FileRange) (t : Option TermBlock) → IsDue g es m q
    → Answers q t → IsLedManager g (es ++ plan_event es q t ∷ []) (handed (accepted m q t) t)
led_accepted g es m q None d a = led_after g es m q d None a m.waiting m.handed_end d.none_waits
led_accepted g es m q (Some b) d a = led_after g es m q d (Some b) a [] b.byte_range.end refl
