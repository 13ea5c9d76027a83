-- The query that is due is the next one of the cut, and the plan of its answer may be recorded.
use Rattle.std.proofs.Common.{◌≡◌, ℕ, zero, suc, ◌+◌, ◌<◌, ◌≤◌, ◌-◌, ◌^◌, Bool, true, false, cond, List, [], ◌∷◌, ◌++◌, length, take, refl, sym, subst, ◌∙◌, ap, arith, inl, inr, ◌⊎◌, ⊎_elim, Option, Some, None}
use Rattle.std.specs.Prelude.{map, max, nat_le, nat_lt, slice_get, ◌&&◌, All}
use Rattle.std.proofs.lemmas.Bool.{le-leb}
use Rattle.std.proofs.lemmas.List.{take-append-le}
use Rattle.std.proofs.lemmas.Option.{slice_get_past}
use Rattle.xet_base.specs.declared.cas_types.FileRange.{FileRange}
use Rattle.xet_base.specs.declared.unique_id.UniqueId.{UniqueId}
use Rattle.xet_outside.specs.declared.plan.PlanAnswer.{PlanAnswer}
use Rattle.xet_outside.specs.declared.plan.PlanAnswer.TheVariants.{Found, NoFile, PastEnd}
use Rattle.xet_outside.specs.Plan.{shape}
use Rattle.xet_events.specs.declared.event.Event.{Event}
use Rattle.xet_events.specs.declared.event.PlannedBlock.{PlannedBlock}
use Rattle.xet_events.specs.declared.event.PlannedTerm.{PlannedTerm}
use Rattle.xet_events.specs.Allowed.{Adjoin, IsRunning}
use Rattle.xet_events.specs.Events.{Task, last_of, planned, planned_end}
use Rattle.xet_history.specs.TrueHistory.{planned_block, planned_term, queries, SomeEndsEarly}
use Rattle.xet_terms.specs.Managers.{IsManager, Manager, looked_ahead, cut_end, scheduled_end}
use Rattle.xet_terms.specs.Queries.{CutFrom, end_from}
use Rattle.xet_terms.specs.declared.manager.PlanDue.{PlanDue}
use Rattle.xet_terms.proofs.CallerLemmas.{cuts-take, looked_same}
use Rattle.xet_ties.specs.Saids.{IsMadeOf, IsMadeOfPlan}
use Rattle.xet_ties.specs.Setup.{Setup}
use Rattle.xet_ties.specs.PartCalls.{blocks_of_answer, plan_query, terms_in}
use Rattle.xet_ties.specs.Ties.{CutsRange, IsLong, IsNextQuery}
use Rattle.xet_ties.proofs.CallerLemmas.{answer_makes}
use Rattle.xet_parts.specs.DueQueries.{TakesDue}
use Rattle.xet_parts.specs.PlanAsks.{PlansAllowed}
use Rattle.xet_leader.specs.Led.{IsLedManager, IsManagerOf}
use Rattle.xet_leader.proofs.PlanTerms.{plan_adjoins}
use Rattle.std.proofs.lemmas.List.{length-map}
use Rattle.xet_offers.specs.Blocks.{blocks_of}
use Rattle.xet_blocks.specs.Terms.{terms_of}
use Rattle.xet_leader.proofs.LongQueries.{looked_long}
use Rattle.std.proofs.lemmas.List.Elements.{All-take}

-- ---- lists of queries

pub take_next : (qs : List FileRange) (n : ℕ) (q : FileRange) → slice_get qs n ≡ Some q
    → take (suc n) qs ≡ take n qs ++ q ∷ []
take_next [] n q at = absurd (cc)
take_next (r ∷ qs) zero q at = let same : r ≡ q = cc in ap (λ (x : FileRange). x ∷ []) same
take_next (r ∷ qs) (suc n) q at = ap (λ (l : List FileRange). r ∷ l) (take_next qs n q at)

-- the last query of some that cut a range starts where the others end
pub cut_last : (place end bound : ℕ) (qs : List FileRange) (q : FileRange) → CutFrom place end bound (qs ++ q ∷ [])
    → (q.start ≡ end_from place qs) × (q.start < q.end) × (q.end ≤ end)
cut_last place end bound [] q c = (c.0, c.1, c.2)
cut_last place end bound (r ∷ qs) q c = cut_last r.end end bound qs q c.4

pub end_last : (place : ℕ) (qs : List FileRange) (q : FileRange) → end_from place (qs ++ q ∷ []) ≡ q.end
end_last place [] q = refl
end_last place (r ∷ qs) q = end_last r.end qs q

-- ---- a manager that looked ahead

-- it has the queries that it had, and maybe one more
looked_takes : (m : Manager) (policy n : ℕ) → n ≤ length m.queries
    → take n (looked_ahead m policy).queries ≡ take n m.queries
looked_takes m policy n h =
    go (nat_le m.known_end (scheduled_end m)) (nat_lt 0 (length m.waiting) && nat_le (max policy m.buffer)
    (scheduled_end m - m.handed_end))
    (nat_lt (scheduled_end m) (cut_end m (max policy m.buffer - (scheduled_end m - m.handed_end))))
    (record { start = scheduled_end m; end = cut_end m (max policy m.buffer - (scheduled_end m - m.handed_end)) })
  where
    go : (a b c : Bool) (q : FileRange) → take n (cond a m
        (cond b m (record m { queries = cond c (m.queries ++ q ∷ []) m.queries }))).queries ≡ take n m.queries
    go true b c q = refl
    go false true c q = refl
    go false false false q = refl
    go false false true q = take-append-le n m.queries (q ∷ []) h

-- up to the known end it schedules nothing
looked_past : (m : Manager) (policy : ℕ) → m.known_end ≤ scheduled_end m → looked_ahead m policy ≡ m
looked_past m policy h = cond_yes (nat_le m.known_end (scheduled_end m)) (le-leb m.known_end (scheduled_end m) h) _
  where
    cond_yes : (b : Bool) → b ≡ true → (n : Manager) → cond b m n ≡ m
    cond_yes true e n = refl
    cond_yes false e n = absurd (cc)

-- the leader's manager stays one
pub led_looked : (g : Setup) (es : List Event) (m now : Manager) (policy : ℕ) → now ≡ looked_ahead m policy
    → IsManager now → IsLedManager g es m → IsLedManager g es now
led_looked g es m now policy is kept a =
    let same = looked_same m now policy is in
    let answered : now.answered ≡ m.answered = ap (λ (x : Manager). x.answered) same in
    let asked : now.asked ≡ m.asked = ap (λ (x : Manager). x.asked) same in
    let waiting : now.waiting ≡ m.waiting = ap (λ (x : Manager). x.waiting) same in
    let ended : now.ended ≡ m.ended = ap (λ (x : Manager). x.ended) same in
    let within : m.answered ≤ length m.queries = (let h = a.kept.answered_within in let k = a.kept.asked_within in
    omega (arith, h, k)) in
    let first : take now.answered now.queries ≡ take m.answered m.queries =
    ap (λ (n : ℕ). take n now.queries) answered ∙ ap (λ (x : Manager). take m.answered x.queries) is
    ∙ looked_takes m policy m.answered within in
    let past : m.ended ≡ true → now ≡ m = (λ h. is ∙ looked_past m policy (a.covered h)) in
    record {
      is_for = record {
        file = ap (λ (x : Manager). x.file) same ∙ a.is_for.file;
        range = ap (λ (x : Manager). x.range) same ∙ a.is_for.range;
        least = ap (λ (x : Manager). x.least) same ∙ a.is_for.least;
        greatest = ap (λ (x : Manager). x.greatest) same ∙ a.is_for.greatest;
        multirange = ap (λ (x : Manager). x.multirange) same ∙ a.is_for.multirange;
      };
      kept = kept;
      queries_are = a.queries_are ∙ sym first;
      idle = asked ∙ a.idle ∙ sym answered;
      none_waits = waiting ∙ a.none_waits;
      going = λ h. a.going (sym ended ∙ h) ∙ ap (end_from g.range.start) (sym first);
      early = λ h. a.early (sym ended ∙ h);
      over = λ h. subst (λ (x : Manager). x.answered ≡ length x.queries) (sym (past (sym ended ∙ h)))
          (a.over (sym ended ∙ h));
      covered = λ h. subst (λ (x : Manager). x.known_end ≤ scheduled_end x) (sym (past (sym ended ∙ h)))
          (a.covered (sym ended ∙ h));
      goes_on = λ h. a.goes_on (sym ended ∙ h);
      long = by_end m.ended refl past;
    }
  where
    by_end : (b : Bool) → m.ended ≡ b → (m.ended ≡ true → now ≡ m) → All (IsLong g) now.queries
    by_end true e past = subst (λ (x : Manager). All (IsLong g) x.queries) (sym (past e)) a.long
    by_end false e past = subst (λ (x : Manager). All (IsLong g) x.queries) (sym is)
        (looked_long g m policy a.is_for a.kept.range_fits (a.kept.still_open e) a.long)

-- ---- the query that is due

-- a manager whose oldest query without an answer is asked, and is the next one of the cut
pub record IsDue (g : Setup) (es : List Event) (m : Manager) (q : FileRange) : Type 0 where
  pub is_for : IsManagerOf g m
  pub kept : IsManager m
  pub queries_are : queries es ≡ take m.answered m.queries
  pub one : m.asked ≡ m.answered + 1
  pub none_waits : m.waiting ≡ []
  pub unended : m.ended ≡ false
  pub at : slice_get m.queries m.answered ≡ Some q
  pub going : planned_end es g.range.start ≡ end_from g.range.start (queries es)
  pub goes_on : SomeEndsEarly es → ⊥
  pub long : All (IsLong g) m.queries

pub led_due : (g : Setup) (es : List Event) (m now : Manager) (d : PlanDue) → IsLedManager g es m → TakesDue m now d
    → IsDue g es now d.query
led_due g es m now d a t =
    let kept : IsManager t.looked = record {
      least_some = subst (λ (x : Manager). 0 < x.least) t.asked t.kept.least_some;
      least_below = subst (λ (x : Manager). x.least ≤ x.greatest) t.asked t.kept.least_below;
      cuts = subst (λ (x : Manager). CutFrom x.range.start x.range.end (x.greatest + x.least) x.queries) t.asked
          t.kept.cuts;
      asked_within = (let h = t.kept.asked_within in let e = ap (λ (x : Manager). x.asked) t.asked in
          let f = ap (λ (x : Manager). length x.queries) t.asked in omega (arith, h, e, f));
      answered_within = (let same = looked_same m t.looked t.policy t.is in
          let p = ap (λ (x : Manager). x.answered) same in let r = ap (λ (x : Manager). x.asked) same in let h =
          a.kept.answered_within in omega (arith, p, r, h));
      still_open = subst (λ (x : Manager). x.ended ≡ false → x.known_end ≡ 2 ^ 64 - 1) t.asked t.kept.still_open;
      range_fits = subst (λ (x : Manager). x.range.end < 2 ^ 64) t.asked t.kept.range_fits;
    } in
    let l = led_looked g es m t.looked t.policy t.is kept a in
    let answered : now.answered ≡ t.looked.answered = ap (λ (x : Manager). x.answered) t.asked in
    let asked : now.asked ≡ t.looked.asked + 1 = ap (λ (x : Manager). x.asked) t.asked in
    let qs : now.queries ≡ t.looked.queries = ap (λ (x : Manager). x.queries) t.asked in
    let idle = l.idle in
    let unended : t.looked.ended ≡ false = go l.over t.looked.ended refl in
    record {
      is_for = subst (λ (x : Manager). IsManagerOf g x) (sym t.asked)
          (record {
            file = l.is_for.file;
            range = l.is_for.range;
            least = l.is_for.least;
            greatest = l.is_for.greatest;
            multirange = l.is_for.multirange;
          });
      kept = t.kept;
      queries_are = l.queries_are ∙ ap (λ (x : List FileRange). take t.looked.answered x) (sym qs)
          ∙ ap (λ (n : ℕ). take n now.queries) (sym answered);
      one = omega (arith, answered, asked, idle);
      none_waits = ap (λ (x : Manager). x.waiting) t.asked ∙ l.none_waits;
      unended = ap (λ (x : Manager). x.ended) t.asked ∙ unended;
      at = ap (λ (n : ℕ). slice_get now.queries n) (answered ∙ sym idle)
          ∙ ap (λ (x : List FileRange). slice_get x t.looked.asked) qs ∙ t.due;
      going = l.going unended ∙ ap (end_from g.range.start) (sym l.queries_are);
      goes_on = l.goes_on unended;
      long = subst (λ (x : List FileRange). All (IsLong g) x) (sym qs) l.long;
    }
  where
    go : (t.looked.ended ≡ true → t.looked.answered ≡ length t.looked.queries) → (b : Bool) → t.looked.ended ≡ b
        → b ≡ false
    go over false e = refl
    go over true e =
        let h = over e in
        let same = looked_same m t.looked t.policy t.is in
        let p : t.looked.answered ≡ m.answered = ap (λ (x : Manager). x.answered) same in
        let r : t.looked.asked ≡ m.asked = ap (λ (x : Manager). x.asked) same in
        let i = a.idle in
        let none : slice_get t.looked.queries t.looked.asked ≡ None =
        slice_get_past t.looked.queries t.looked.asked (omega (arith, h, p, r, i)) in
        absurd (let z : ◌≡◌ {A = Option FileRange} None (Some d.query) = sym none ∙ t.due in cc)

-- with it the queries cut the range
pub due_cuts : (g : Setup) (es : List Event) (m : Manager) (q : FileRange) → IsDue g es m q
    → CutsRange g (queries es ++ q ∷ [])
due_cuts g es m q d =
    let next : take (suc m.answered) m.queries ≡ queries es ++ q ∷ [] =
    take_next m.queries m.answered q d.at ∙ ap (λ (l : List FileRange). l ++ q ∷ []) (sym d.queries_are) in
    let cuts = cuts-take m.range.start m.range.end (m.greatest + m.least) m.queries (suc m.answered) d.kept.cuts in
    let of_run : CutFrom g.range.start g.range.end (g.greatest + g.least) (take (suc m.answered) m.queries) =
    subst (λ (n : ℕ). CutFrom g.range.start g.range.end (n + g.least) (take (suc m.answered) m.queries))
    d.is_for.greatest
    (subst (λ (n : ℕ). CutFrom g.range.start g.range.end (m.greatest + n) (take (suc m.answered) m.queries))
    d.is_for.least
    (subst (λ (r : FileRange). CutFrom r.start r.end (m.greatest + m.least) (take (suc m.answered) m.queries))
    d.is_for.range cuts)) in
    record {
      from = subst (λ (l : List FileRange). CutFrom g.range.start g.range.end (g.greatest + g.least) l) next of_run;
      long = subst (λ (l : List FileRange). All (IsLong g) l) next
          (All-take (IsLong g) (suc m.answered) m.queries d.long);
    }

-- and it may be asked
pub due_next : (g : Setup) (es : List Event) (m : Manager) (q : FileRange) → IsDue g es m q → IsNextQuery g es q
due_next g es m q d = record { cuts = due_cuts g es m q d; goes_on = d.goes_on }

-- ---- its plan may be recorded

last_or_none : {A : Type 0} (a b : A) (xs : List A) → (last_of b xs ≡ b) ⊎ (last_of b xs ≡ last_of a xs)
last_or_none a b [] = inl refl
last_or_none a b (x ∷ xs) = inr refl

-- it starts where the planned terms end
pub due_place : (g : Setup) (es : List Event) (m : Manager) (q : FileRange) → IsDue g es m q
    → planned_end es q.start ≡ q.start
due_place g es m q d =
    let cut = cut_last g.range.start g.range.end (g.greatest + g.least) (queries es) q (due_cuts g es m q d).from in
    ⊎_elim
    (λ (h : planned_end es q.start ≡ q.start). h)
    (λ (h : planned_end es q.start ≡ planned_end es g.range.start). h ∙ d.going ∙ sym cut.0)
    (last_or_none g.range.start q.start (map (λ t. t.term.byte_range.end) (planned es)))

made_adjoins : (g : Setup) (q : FileRange) (ts : List PlannedTerm) (bs : List PlannedBlock) (a : PlanAnswer)
    → IsMadeOf g q ts bs a → Adjoin q.start (length bs) ts
made_adjoins g q ts bs NoFile m = absurd m
made_adjoins g q ts bs PastEnd m = subst (λ (l : List PlannedTerm). Adjoin q.start (length bs) l) (sym m.0) tt
made_adjoins g q ts bs (Found p) m =
    ⊎_elim
    (λ (e : (p.terms ≡ []) × (ts ≡ []) × (bs ≡ [])). subst (λ (l : List PlannedTerm). Adjoin q.start (length bs) l)
    (sym e.1) tt)
    (λ (e : IsMadeOfPlan g q ts bs p).
    let n : length (blocks_of (shape p) g.multirange) ≡ length bs =
    sym (length-map (blocks_of (shape p) g.multirange) planned_block) ∙ ap length (sym e.blocks) in
    subst (λ (l : List PlannedTerm). Adjoin q.start (length bs) l) (sym e.terms)
    (subst (λ (k : ℕ). Adjoin q.start k (map planned_term (terms_of (shape p) q g.multirange))) n
    (plan_adjoins (shape p) q g.multirange e.passes)))
    m

-- and where nothing is planned, it starts where the range does
pub due_first : (g : Setup) (es : List Event) (m : Manager) (q : FileRange) → IsDue g es m q → planned es ≡ []
    → q.start ≡ g.range.start
due_first g es m q d none =
    let cut = cut_last g.range.start g.range.end (g.greatest + g.least) (queries es) q (due_cuts g es m q d).from in
    cut.0 ∙ sym d.going ∙ ap (λ (l : List Task). last_of g.range.start (map (λ t. t.term.byte_range.end) l)) none

-- whatever a connection answers
pub due_allowed : (g : Setup) (es : List Event) (m : Manager) (q : FileRange) (id : UniqueId) → IsRunning es
    → IsDue g es m q → PlansAllowed m es (plan_query g q id)
due_allowed g es m q id runs d before after t from within =
    let made = answer_makes g q id from.plan t from.from in (
      runs,
      refl,
      subst (λ (n : ℕ). Adjoin n (length (blocks_of_answer t)) (terms_in t)) (sym (due_place g es m q d))
          (made_adjoins g q (terms_in t) (blocks_of_answer t) from.plan made),
    )
