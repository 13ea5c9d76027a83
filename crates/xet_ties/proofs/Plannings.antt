-- What a history planned: the queries that cut the range, the answers that were said to them, and their terms in order.
use Rattle.std.proofs.Common.{◌≡◌, ◌⊎◌, ℕ, zero, suc, ◌+◌, ◌-◌, ◌<◌, ◌≤◌, Bool, true, false, cond, List, [], ◌∷◌, ◌++◌, length, take, refl, sym, subst, ◌∙◌, ap, arith, inl, inr, ⊎_elim, None}
use Rattle.std.specs.Prelude.{All, filter, map, nat_lt}
use Rattle.std.specs.List.{AllZip}
use Rattle.std.proofs.lemmas.List.{append-nil}
use Rattle.std.proofs.lemmas.List.Elements.{All-head, All-tail, All-weaker}
use Rattle.xet_base.specs.declared.cas_types.FileRange.{FileRange}
use Rattle.xet_outside.specs.Plan.{shape}
use Rattle.xet_outside.specs.Told.{ClientTold, Query}
use Rattle.xet_outside.specs.declared.plan.PlanAnswer.{PlanAnswer}
use Rattle.xet_outside.specs.declared.plan.PlanAnswer.TheVariants.{Found, NoFile, PastEnd}
use Rattle.xet_blocks.specs.declared.reconstruction_terms.file_term.FileTerm.{FileTerm}
use Rattle.xet_events.specs.declared.event.Event.{Event}
use Rattle.xet_events.specs.declared.event.Event.TheVariants.{Planned, Admit, Fetched, Cached, Expired, Refreshed, Wrote, Fail, Cancel}
use Rattle.xet_events.specs.declared.event.PlannedBlock.{PlannedBlock}
use Rattle.xet_events.specs.declared.event.PlannedTerm.{PlannedTerm}
use Rattle.xet_events.specs.Allowed.{Adjoin, IsAllowed, IsAllowedHistory}
use Rattle.xet_events.specs.Events.{Task, is_plan, last_of, plan_count, planned, tasks_in, tasks_of}
use Rattle.xet_events.proofs.CallerLemmas.{ends, kept_along, planned-push}
use Rattle.xet_history.specs.TrueHistory.{EndsEarly, SomeEndsEarly, planned_term, queries}
use Rattle.xet_ties.specs.Cuts.{AdjoinFrom, AreParts, AskedCut, IsCut, IsSaidPiece, Part, PassesTests, Planning, PlansAll, SaidTerm, SomeTellsEnd, answer_terms, has_some, part_end, queries_of, some_said, terms_said, under, ReachOn}
use Rattle.xet_ties.specs.History.{EachAfter, IsNumberedNext, IsWithin, asked_by, range_at}
use Rattle.xet_ties.specs.InCall.{EachExchange, Exchange, Look, answers_of, new_in}
use Rattle.xet_ties.specs.LegalWords.{AsksSome, FirstPlansAll}
use Rattle.xet_ties.specs.RunCalls.{IsFinished}
use Rattle.xet_ties.specs.Saids.{AnswerOf, FirstSaid, IsEventSaid, IsMadeOf, IsMadeOfPlan, IsPiece, IsTaskPiece, has_bytes, some_of}
use Rattle.xet_ties.specs.Setup.{RunTold, Setup}
use Rattle.xet_ties.specs.Ties.{CutsRange, FirstAsked, FirstStarts, HeardAsked, IsLost, Slack, Stop, Ties, EndsLast, IsNextQuery}
use Rattle.xet_events.specs.Events.{is_stale}
use Rattle.xet_ties.proofs.AskTies.{none_terms}
use Rattle.xet_ties.proofs.Asks.{AreIn, asked_cut, none_in}
use Rattle.xet_ties.proofs.Telling.{count-more, count-same}
use Rattle.xet_ties.proofs.Told.{answers_told, bare, if_some, told_new}
use Rattle.std.proofs.lemmas.Bool.{cases_lt}
use Rattle.xet_ties.proofs.NextPlaces.{query_count}

-- ---- the cut

first_cut : (g : Setup) (es : List Event) (x : Exchange) (rest : List Exchange) (tail : List Query) (more : List FileRange) → All IsWithin es → CutsRange g (queries es ++ more) → x.asked ≡ asked_by g.file es ++ tail
    → ((now : List FileRange) → AreIn g.file es now → AskedCut now tail more) → IsCut g (x ∷ rest) (queries es ++ more)
first_cut g es x rest tail more within cuts is last = record {
  cuts = cuts;
  asked = subst (λ (l : List Query). AskedCut [] l (queries es ++ more)) (sym is) (asked_cut g.file [] es [] tail more (none_in g.file) within last);
}

-- the queries of the events, and perhaps one whose answer isn't recorded
record CutOf (g : Setup) (xs : List Exchange) (es : List Event) (lost : List Query) : Type 0 where
  pub more : List FileRange
  pub few : length more ≤ 1
  pub none : lost ≡ [] → more ≡ []
  pub late : SomeEndsEarly es → more ≡ []
  pub is_cut : IsCut g xs (queries es ++ more)

cut_of : (g : Setup) (es : List Event) (lost : List Query) (x : Exchange) (rest : List Exchange) → All IsWithin es → CutsRange g (queries es) → IsLost g es lost → x.asked ≡ asked_by g.file es ++ lost
    → CutOf g (x ∷ rest) es lost
cut_of g es [] x rest within cuts l is = record {
  more = [];
  few = omega arith;
  none = λ _. refl;
  late = λ _. refl;
  is_cut = first_cut g es x rest [] [] within (subst (λ (qs : List FileRange). CutsRange g qs) (sym (append-nil (queries es))) cuts) is (λ now h. refl);
}
cut_of g es (q ∷ []) x rest within cuts l is =
    ⊎_elim
    (λ (c : IsNextQuery g es q.1).
    let r : CutOf g (x ∷ rest) es (q ∷ []) = record {
      more = q.1 ∷ [];
      few = omega arith;
      none = λ e. absurd (cc);
      late = λ e. absurd (c.goes_on e);
      is_cut = first_cut g es x rest (q ∷ []) (q.1 ∷ []) within c.cuts is (λ now h. inl (refl, refl));
    } in r)
    (λ (s : (p : ℕ) × (range_at es p ≡ q.1 ∷ []) × (is_stale es p ≡ true)).
    let r : CutOf g (x ∷ rest) es (q ∷ []) = record {
      more = [];
      few = omega arith;
      none = λ _. refl;
      late = λ _. refl;
      is_cut = first_cut g es x rest (q ∷ []) [] within (subst (λ (qs : List FileRange). CutsRange g qs) (sym (append-nil (queries es))) cuts) is (λ now h. (h s.0 q.1 s.1, refl));
    } in r)
    l.1
cut_of g es (q ∷ r ∷ qs) x rest within cuts l is = absurd l

-- ---- the answers to the queries of the events

-- tasks that are terms under their plans' numbers
abbrev pub AreTasks : List Task → List SaidTerm → Type 0
AreTasks [] [] = Unit {0}
AreTasks [] (s ∷ ss) = ⊥
AreTasks (t ∷ ts) [] = ⊥
AreTasks (t ∷ ts) (s ∷ ss) = (t.plan ≡ s.number) × (t.term ≡ planned_term s.term) × AreTasks ts ss

tasks_append : (ts us : List Task) (ss rs : List SaidTerm) → AreTasks ts ss → AreTasks us rs → AreTasks (ts ++ us) (ss ++ rs)
tasks_append [] us [] rs a b = b
tasks_append [] us (s ∷ ss) rs a b = absurd a
tasks_append (t ∷ ts) us [] rs a b = absurd a
tasks_append (t ∷ ts) us (s ∷ ss) rs a b = (a.0, a.1, tasks_append ts us ss rs a.2 b)

tasks_under : (plan number : ℕ) (bs : List PlannedBlock) (fs : List FileTerm) → plan ≡ number → AreTasks (tasks_of plan (map planned_term fs) bs) (under number fs)
tasks_under plan number bs [] e = tt
tasks_under plan number bs (f ∷ fs) e = (e, refl, tasks_under plan number bs fs e)

tasks_filter : (ts : List Task) (ss : List SaidTerm) → AreTasks ts ss → AreTasks (filter has_bytes ts) (filter has_some ss)
tasks_filter [] [] a = tt
tasks_filter [] (s ∷ ss) a = absurd a
tasks_filter (t ∷ ts) [] a = absurd a
tasks_filter (t ∷ ts) (s ∷ ss) a = subst (λ (v : Bool). AreTasks (cond v (t ∷ filter has_bytes ts) (filter has_bytes ts)) (cond (has_some s) (s ∷ filter has_some ss) (filter has_some ss))) (sym same) (by (tasks_filter ts ss a.2) (has_some s))
  where
    same : has_bytes t ≡ has_some s
    same = ap (λ (u : PlannedTerm). nat_lt 0 (u.byte_range.end - u.byte_range.start)) a.1

    by : AreTasks (filter has_bytes ts) (filter has_some ss) → (v : Bool) → AreTasks (cond v (t ∷ filter has_bytes ts) (filter has_bytes ts)) (cond v (s ∷ filter has_some ss) (filter has_some ss))
    by r true = (a.0, a.1, r)
    by r false = r

tasks_take : (n : ℕ) (ts : List Task) (ss : List SaidTerm) → AreTasks ts ss → AreTasks (take n ts) (take n ss)
tasks_take n [] [] a = none n
  where
    none : (k : ℕ) → AreTasks (take k []) (take k [])
    none zero = tt
    none (suc k) = tt
tasks_take n [] (s ∷ ss) a = absurd a
tasks_take n (t ∷ ts) [] a = absurd a
tasks_take zero (t ∷ ts) (s ∷ ss) a = tt
tasks_take (suc n) (t ∷ ts) (s ∷ ss) a = (a.0, a.1, tasks_take n ts ss a.2)

-- so their pieces are those of the terms
pieces_said : (g : Setup) (xs : List Exchange) (looks : List Look) (ts : List Task) (ss : List SaidTerm) (pieces : List (List ℕ)) → AreTasks ts ss → AllZip (IsTaskPiece g xs looks) ts pieces → AllZip (IsSaidPiece g xs looks) ss pieces
pieces_said g xs looks [] [] [] a z = tt
pieces_said g xs looks [] [] (p ∷ ps) a z = absurd z
pieces_said g xs looks [] (s ∷ ss) ps a z = absurd a
pieces_said g xs looks (t ∷ ts) [] ps a z = absurd a
pieces_said g xs looks (t ∷ ts) (s ∷ ss) [] a z = absurd z
pieces_said g xs looks (t ∷ ts) (s ∷ ss) (p ∷ ps) a z = (
  record {
    of_plan = z.0.of_plan;
    own = sym a.0 ∙ z.0.own;
    is = sym a.1 ∙ z.0.is;
    piece_of = subst (λ (i : ℕ). IsPiece g xs looks i z.0.of_plan p) a.0 z.0.piece_of;
  },
  pieces_said g xs looks ts ss ps a.2 z.1,
)

-- the terms of an answer are those of the event that it makes
made_terms : (g : Setup) (q : FileRange) (ts : List PlannedTerm) (bs : List PlannedBlock) (a : PlanAnswer) → IsMadeOf g q ts bs a → ts ≡ map planned_term (answer_terms g.multirange q a)
made_terms g q ts bs NoFile m = absurd m
made_terms g q ts bs PastEnd m = m.0
made_terms g q ts bs (Found p) m =
    ⊎_elim
    (λ (h : (p.terms ≡ []) × (ts ≡ []) × (bs ≡ [])). h.1 ∙ sym (ap (λ (l : List FileTerm). map planned_term l) (none_terms (shape p) q g.multirange h.0)))
    (λ (h : IsMadeOfPlan g q ts bs p). h.terms)
    m

made_passes : (g : Setup) (q : FileRange) (ts : List PlannedTerm) (bs : List PlannedBlock) (a : PlanAnswer) → IsMadeOf g q ts bs a → PassesTests g q a
made_passes g q ts bs NoFile m = absurd m
made_passes g q ts bs PastEnd m = tt
made_passes g q ts bs (Found p) m = ⊎_elim (λ (h : (p.terms ≡ []) × (ts ≡ []) × (bs ≡ [])). inl h.0) (λ (h : IsMadeOfPlan g q ts bs p). inr h.passes) m

ends_same : (fs : List FileTerm) → map (λ (t : PlannedTerm). t.byte_range.end) (map planned_term fs) ≡ map (λ (t : FileTerm). t.byte_range.end) fs
ends_same [] = refl
ends_same (f ∷ fs) = ap (λ (l : List ℕ). f.byte_range.end ∷ l) (ends_same fs)

-- the answers to the queries of some events, after so many plans
record PartsOf (g : Setup) (xs : List Exchange) (n : ℕ) (es : List Event) : Type 0 where
  pub parts : List Part
  pub queries_are : queries_of parts ≡ queries es
  pub said : AreParts g xs (n + 1) parts
  pub tasks : AreTasks (planned es) (terms_said g.multirange (n + 1) parts)
  pub ends : SomeEndsEarly es → SomeTellsEnd g.multirange parts
  -- where no query comes after a plan that ended early
  pub reach : (more : List FileRange) → All IsWithin es → EndsLast es → (SomeEndsEarly es → more ≡ [])
      → ReachOn g.multirange parts more

-- an answer ends where its query does, or before it, and then it is the last
ends_or_last : (end to : ℕ) (rest : List FileRange) → end ≤ to → (end < to → rest ≡ [])
    → (rest ≡ []) ⊎ (end ≡ to)
ends_or_last end to rest le last = ⊎_elim (λ (h : end < to). inl (last h)) (λ (h : to ≤ end). inr (omega (arith, h, le))) (cases_lt end to)

-- no plan, no query
no_queries : (es : List Event) → plan_count es ≡ 0 → queries es ≡ []
no_queries es e = go (queries es) (let n = query_count es in omega (arith, n, e))
  where
    go : (qs : List FileRange) → length qs ≡ 0 → qs ≡ []
    go [] h = refl
    go (q ∷ qs) h = absurd (omega (arith, h))

-- past an event that plans nothing
past : (g : Setup) (xs : List Exchange) (before es : List Event) (e : Event) → is_plan e ≡ false → queries (e ∷ es) ≡ queries es → planned (e ∷ es) ≡ planned es → (EndsEarly e → ⊥) → PartsOf g xs (plan_count (before ++ e ∷ [])) es → PartsOf g xs (plan_count before) (e ∷ es)
past g xs before es e off qs ts late r = record {
  parts = r.parts;
  queries_are = r.queries_are ∙ sym qs;
  said = subst (λ (i : ℕ). AreParts g xs (i + 1) r.parts) (count-same is_plan before e off) r.said;
  tasks =
      subst (λ (l : List Task). AreTasks l (terms_said g.multirange (plan_count before + 1) r.parts)) (sym ts)
      (subst (λ (i : ℕ). AreTasks (planned es) (terms_said g.multirange (i + 1) r.parts)) (count-same is_plan before e off) r.tasks);
  ends = λ h. ⊎_elim (λ (k : EndsEarly e). absurd (late k)) (λ (k : SomeEndsEarly es). r.ends k) h;
  reach = λ more w l n. r.reach more (All-tail IsWithin e es w) l.1 (λ k. n (inr k));
}

part_step : (g : Setup) (x : Exchange) (rest : List Exchange) (before es : List Event) (e : Event) → IsNumberedNext before e → IsEventSaid g x e → PartsOf g (x ∷ rest) (plan_count (before ++ e ∷ [])) es → PartsOf g (x ∷ rest) (plan_count before) (e ∷ es)
part_step g x rest before es (Planned plan q ts bs) next s r =
    let fs = answer_terms g.multirange q s.answer in
    let terms = made_terms g q ts bs s.answer s.made in
    let part : Part = record { query = q; answer = s.answer } in
    let own : AreTasks (tasks_of plan ts bs) (under (plan_count before + 1) fs) = subst (λ (l : List PlannedTerm). AreTasks (tasks_of plan l bs) (under (plan_count before + 1) fs)) (sym terms) (tasks_under plan (plan_count before + 1) bs fs next) in
    let later = subst (λ (i : ℕ). AreTasks (planned es) (terms_said g.multirange (i + 1) r.parts)) (count-more is_plan before (Planned plan q ts bs) refl) r.tasks in
    let end_same : last_of q.start (map (λ (t : PlannedTerm). t.byte_range.end) ts) ≡ part_end g.multirange part = ap (λ (l : List PlannedTerm). last_of q.start (map (λ (t : PlannedTerm). t.byte_range.end) l)) terms ∙ ap (λ (l : List ℕ). last_of q.start l) (ends_same fs) in
    record {
      parts = part ∷ r.parts;
      queries_are = ap (λ (l : List FileRange). q ∷ l) r.queries_are;
      said = (
        record { said = subst (λ (i : ℕ). AnswerOf x i (g.file, q) s.answer) next s.said; passes = made_passes g q ts bs s.answer s.made },
        subst (λ (i : ℕ). AreParts g (x ∷ rest) (i + 1) r.parts) (count-more is_plan before (Planned plan q ts bs) refl) r.said,
      );
      tasks = tasks_append (tasks_of plan ts bs) (planned es) (under (plan_count before + 1) fs) (terms_said g.multirange ((plan_count before + 1) + 1) r.parts) own later;
      ends = λ h.
          ⊎_elim
          (λ (k : EndsEarly (Planned plan q ts bs)). inl (subst (λ (i : ℕ). i < q.end) end_same k))
          (λ (k : SomeEndsEarly es). inr (r.ends k))
          h;
      reach = λ more w l n. (
        ends_or_last (part_end g.multirange part) q.end (queries_of r.parts ++ more)
            (subst (λ (i : ℕ). i ≤ q.end) end_same (All-head IsWithin (Planned plan q ts bs) es w))
            (λ k.
            let early : EndsEarly (Planned plan q ts bs) = subst (λ (i : ℕ). i < q.end) (sym end_same) k in
            ap (λ (qs : List FileRange). qs ++ more) (r.queries_are ∙ no_queries es (l.0 early)) ∙ n (inl early)),
        r.reach more (All-tail IsWithin (Planned plan q ts bs) es w) l.1 (λ k. n (inr k)),
      );
    }
part_step g x rest before es (Admit limit) next s r = past g (x ∷ rest) before es (Admit limit) refl refl refl (λ h. h) r
part_step g x rest before es (Fetched lane plan block) next s r = past g (x ∷ rest) before es (Fetched lane plan block) refl refl refl (λ h. h) r
part_step g x rest before es (Cached plan block) next s r = past g (x ∷ rest) before es (Cached plan block) refl refl refl (λ h. h) r
part_step g x rest before es (Expired lane plan block) next s r = past g (x ∷ rest) before es (Expired lane plan block) refl refl refl (λ h. h) r
part_step g x rest before es (Refreshed plan) next s r = past g (x ∷ rest) before es (Refreshed plan) refl refl refl (λ h. h) r
part_step g x rest before es (Wrote taken) next s r = past g (x ∷ rest) before es (Wrote taken) refl refl refl (λ h. h) r
part_step g x rest before es (Fail error) next s r = past g (x ∷ rest) before es (Fail error) refl refl refl (λ h. h) r
part_step g x rest before es Cancel next s r = past g (x ∷ rest) before es Cancel refl refl refl (λ h. h) r

parts_of : (g : Setup) (x : Exchange) (rest : List Exchange) (before es : List Event) → EachAfter IsNumberedNext before es → All (IsEventSaid g x) es → PartsOf g (x ∷ rest) (plan_count before) es
parts_of g x rest before [] c a = record { parts = []; queries_are = refl; said = tt; tasks = tt; ends = λ h. absurd h; reach = λ more w l n. tt }
parts_of g x rest before (e ∷ es) c a = part_step g x rest before es e c.0 (All-head (IsEventSaid g x) e es a) (parts_of g x rest (before ++ e ∷ []) es c.1 (All-tail (IsEventSaid g x) e es a))

-- ---- the terms adjoin

abbrev JoinedFrom : ℕ → List Task → Type 0
JoinedFrom place [] = Unit {0}
JoinedFrom place (t ∷ ts) = (t.term.byte_range.start ≡ place) × JoinedFrom t.term.byte_range.end ts

abbrev AllJoined : List Task → Type 0
AllJoined [] = Unit {0}
AllJoined (t ∷ ts) = JoinedFrom t.term.byte_range.end ts

joined_append : (place : ℕ) (ts us : List Task) → JoinedFrom place ts → JoinedFrom (last_of place (ends ts)) us → JoinedFrom place (ts ++ us)
joined_append place [] us a b = b
joined_append place (t ∷ ts) us a b = (a.0, joined_append t.term.byte_range.end ts us a.1 b)

joined_plan : (plan n place : ℕ) (bs : List PlannedBlock) (ts : List PlannedTerm) → Adjoin place n ts → JoinedFrom place (tasks_of plan ts bs)
joined_plan plan n place bs [] a = tt
joined_plan plan n place bs (t ∷ ts) a = (a.0, joined_plan plan n t.byte_range.end bs ts a.3)

joined_more : (plan n q : ℕ) (bs : List PlannedBlock) (xs : List Task) (ts : List PlannedTerm) → AllJoined xs → Adjoin (last_of q (ends xs)) n ts → AllJoined (xs ++ tasks_of plan ts bs)
joined_more plan n q bs [] [] j a = tt
joined_more plan n q bs [] (t ∷ ts) j a = joined_plan plan n t.byte_range.end bs ts a.3
joined_more plan n q bs (x ∷ xs) ts j a = joined_append x.term.byte_range.end xs (tasks_of plan ts bs) j (joined_plan plan n (last_of q (ends (x ∷ xs))) bs ts a)

joined_same : (es : List Event) (e : Event) → tasks_in e ≡ [] → AllJoined (planned es) → AllJoined (planned (es ++ e ∷ []))
joined_same es e none j = subst AllJoined (sym (planned-push es e ∙ ap (λ (l : List Task). planned es ++ l) none ∙ append-nil (planned es))) j

joined_step : (es : List Event) (e : Event) → IsAllowed es e → AllJoined (planned es) → AllJoined (planned (es ++ e ∷ []))
joined_step es (Planned plan q ts bs) a j = subst AllJoined (sym (planned-push es (Planned plan q ts bs))) (joined_more plan (length bs) q.start bs (planned es) ts j a.2)
joined_step es (Admit limit) a j = joined_same es (Admit limit) refl j
joined_step es (Fetched lane plan block) a j = joined_same es (Fetched lane plan block) refl j
joined_step es (Cached plan block) a j = joined_same es (Cached plan block) refl j
joined_step es (Expired lane plan block) a j = joined_same es (Expired lane plan block) refl j
joined_step es (Refreshed plan) a j = joined_same es (Refreshed plan) refl j
joined_step es (Wrote taken) a j = joined_same es (Wrote taken) refl j
joined_step es (Fail error) a j = joined_same es (Fail error) refl j
joined_step es Cancel a j = joined_same es Cancel refl j

all_joined : (es : List Event) → IsAllowedHistory es → AllJoined (planned es)
all_joined es a = kept_along (λ (l : List Event). AllJoined (planned l)) joined_step tt es a

adjoin_from : (place : ℕ) (ts : List Task) (ss : List SaidTerm) → AreTasks ts ss → JoinedFrom place ts → AdjoinFrom place ss
adjoin_from place [] [] a j = tt
adjoin_from place [] (s ∷ ss) a j = absurd a
adjoin_from place (t ∷ ts) [] a j = absurd a
adjoin_from place (t ∷ ts) (s ∷ ss) a j =
    let start : t.term.byte_range.start ≡ s.term.byte_range.start = ap (λ (u : PlannedTerm). u.byte_range.start) a.1 in
    let end : t.term.byte_range.end ≡ s.term.byte_range.end = ap (λ (u : PlannedTerm). u.byte_range.end) a.1 in
    (sym start ∙ j.0, adjoin_from s.term.byte_range.end ts ss a.2 (subst (λ (i : ℕ). JoinedFrom i ts) end j.1))

-- joined terms whose first one starts at a place are joined from there on
all_adjoin : (place : ℕ) (ts : List Task) (ss : List SaidTerm) → AreTasks ts ss → AllJoined ts → FirstStarts place ts → AdjoinFrom place ss
all_adjoin place [] ss a j f = adjoin_from place [] ss a tt
all_adjoin place (t ∷ ts) ss a j f = adjoin_from place (t ∷ ts) ss a (f, j)

-- ---- together

-- what the history planned, in the words of what was said
pub record PlanningOf (g : Setup) (xs : List Exchange) (es : List Event) (lost : List Query) : Type 0 where
  pub planning : Planning g xs
  pub none : lost ≡ [] → planning.more ≡ []
  pub queries_are : queries_of planning.parts ≡ queries es
  pub tasks : AreTasks (planned es) (terms_said g.multirange 1 planning.parts)
  pub ends : SomeEndsEarly es → SomeTellsEnd g.multirange planning.parts

pub planning_of : (g : Setup) (es : List Event) (lost : List Query) (x : Exchange) (rest : List Exchange) → IsAllowedHistory es → All IsWithin es → EndsLast es → FirstStarts g.range.start (planned es) → CutsRange g (queries es) → EachAfter IsNumberedNext [] es → IsLost g es lost → x.asked ≡ asked_by g.file es ++ lost → All (IsEventSaid g x) es
    → PlanningOf g (x ∷ rest) es lost
planning_of g es lost x rest allowed within ends starts cuts numbers l is said =
    let r = parts_of g x rest [] es numbers said in
    let c = cut_of g es lost x rest within cuts l is in
    record {
      planning = record {
        parts = r.parts;
        more = c.more;
        few = c.few;
        is_cut = subst (λ (qs : List FileRange). IsCut g (x ∷ rest) (qs ++ c.more)) (sym r.queries_are) c.is_cut;
        said = r.said;
        reach = r.reach c.more within ends c.late;
        adjoin = all_adjoin g.range.start (planned es) (terms_said g.multirange 1 r.parts) r.tasks (all_joined es allowed) starts;
      };
      none = c.none;
      queries_are = r.queries_are;
      tasks = r.tasks;
      ends = r.ends;
    }

-- of all connections
pub planning_heard : (g : Setup) (b n : RunTold) (es : List Event) (stop : Stop) (sl : Slack) → IsAllowedHistory es → Ties g b n es stop sl → PlanningOf g sl.heard es sl.lost
planning_heard g b n es stop sl a t = by sl.heard t.said t.heard_asked
  where
    by : (xs : List Exchange) → FirstSaid g es xs → HeardAsked g.file es sl.lost xs → PlanningOf g xs es sl.lost
    by [] s h = absurd s
    by (x ∷ rest) s h = planning_of g es sl.lost x rest a t.within t.ends t.starts t.cuts t.numbers t.lost h s.0

-- its pieces
pub some_pieces : (g : Setup) (xs : List Exchange) (looks : List Look) (es : List Event) (lost : List Query) (p : PlanningOf g xs es lost) (pieces : List (List ℕ)) → AllZip (IsTaskPiece g xs looks) (some_of es) pieces → AllZip (IsSaidPiece g xs looks) (some_said g p.planning.parts) pieces
some_pieces g xs looks es lost p pieces z = pieces_said g xs looks (some_of es) (some_said g p.planning.parts) pieces (tasks_filter (planned es) (terms_said g.multirange 1 p.planning.parts) p.tasks) z

pub first_pieces : (g : Setup) (xs : List Exchange) (looks : List Look) (es : List Event) (lost : List Query) (p : PlanningOf g xs es lost) (pieces : List (List ℕ)) → AllZip (IsTaskPiece g xs looks) (take (length pieces) (some_of es)) pieces
    → AllZip (IsSaidPiece g xs looks) (take (length pieces) (some_said g p.planning.parts)) pieces
first_pieces g xs looks es lost p pieces z =
    let n = length pieces in
    pieces_said g xs looks (take n (some_of es)) (take n (some_said g p.planning.parts)) pieces
    (tasks_take n (some_of es) (some_said g p.planning.parts) (tasks_filter (planned es) (terms_said g.multirange 1 p.planning.parts) p.tasks)) z

-- a finished run planned all
pub plans_end : (g : Setup) (xs : List Exchange) (es : List Event) (lost : List Query) (k : ℕ) (p : PlanningOf g xs es lost) → IsFinished g es k → g.range.start < g.range.end
    → (last_of g.range.start (map (λ q. q.end) (queries_of p.planning.parts)) ≡ g.range.end) ⊎ SomeTellsEnd g.multirange p.planning.parts
plans_end g xs es lost k p f some =
    ⊎_elim
    (λ (e : last_of g.range.start (map (λ q. q.end) (queries es)) ≡ g.range.end). inl (ap (λ (qs : List FileRange). last_of g.range.start (map (λ q. q.end) qs)) p.queries_are ∙ e))
    (λ (e : SomeEndsEarly es). inr (p.ends e))
    (f.reaches some)

plans_all : (g : Setup) (xs : List Exchange) (es : List Event) (lost : List Query) (k : ℕ) (p : PlanningOf g xs es lost) → lost ≡ [] → IsFinished g es k → PlansAll g xs
plans_all g xs es lost k p none f = record { planning = p.planning; none = p.none none; ends = plans_end g xs es lost k p f }

-- so the first connection was asked something where the range has bytes
some_asked : (g : Setup) (x : Exchange) → PlansAll g (x ∷ []) → AsksSome g x.asked
some_asked g x p some = by p.planning.parts p.planning.is_cut (p.ends some)
  where
    long : (qs : List Query) (c : FileRange) (cut : List FileRange) → AskedCut [] qs (c ∷ cut) → 0 < length qs
    long [] c cut a = absurd (cc)
    long (q ∷ qs) c cut a = omega arith

    by : (ps : List Part) → IsCut g (x ∷ []) (queries_of ps ++ p.planning.more) → (last_of g.range.start (map (λ q. q.end) (queries_of ps)) ≡ g.range.end) ⊎ SomeTellsEnd g.multirange ps → 0 < length x.asked
    by [] c e = ⊎_elim (λ (k : g.range.start ≡ g.range.end). absurd (omega (arith, k, some))) (λ (k : ⊥). absurd k) e
    by (q ∷ ps) c e = long x.asked q.query (queries_of ps ++ p.planning.more) c.asked

bare_event : (g : Setup) (x : Exchange) (e : Event) → IsEventSaid g x e → IsEventSaid g (bare x) e
bare_event g x (Planned plan query terms blocks) h = record { answer = h.answer; said = record { place = h.said.place; some = h.said.some; at = h.said.at; query = h.said.query; answer = h.said.answer }; made = h.made }
bare_event g x (Admit limit) h = tt
bare_event g x (Fetched lane plan block) h = tt
bare_event g x (Cached plan block) h = tt
bare_event g x (Expired lane plan block) h = tt
bare_event g x (Refreshed plan) h = tt
bare_event g x (Wrote taken) h = tt
bare_event g x (Fail error) h = tt
bare_event g x Cancel h = tt

pub first_plans_all : (g : Setup) (b n : RunTold) (es : List Event) (k : ℕ) (sl : Slack) → IsAllowedHistory es → Ties g b n es None sl → sl.lost ≡ [] → IsFinished g es k → FirstPlansAll g b.clients n.clients
first_plans_all g b n es k sl a t none f = by b.clients n.clients sl.heard t.heard t.asked t.said t.heard_asked
  where
    by : (bs ns : List ClientTold) (xs : List Exchange) → EachExchange bs ns xs → FirstAsked g.file es sl.lost bs ns → FirstSaid g es xs → HeardAsked g.file es sl.lost xs → FirstPlansAll g bs ns
    by bs ns [] e q s h = absurd s
    by [] ns (x ∷ xs) e q s h = absurd q
    by (b ∷ bs) [] (x ∷ xs) e q s h = absurd q
    by (b ∷ bs) (n ∷ ns) (x ∷ xs) e q s h =
        let all : PlansAll g (bare x ∷ []) = plans_all g (bare x ∷ []) es sl.lost k (planning_of g es sl.lost (bare x) [] a t.within t.ends t.starts t.cuts t.numbers t.lost h (All-weaker (IsEventSaid g x) (IsEventSaid g (bare x)) (λ v w. bare_event g x v w) es s.0)) none f in (
          if_some (new_in b.asked n.asked) (λ qs. qs ≡ x.asked) (AsksSome g) (λ qs w. subst (AsksSome g) (sym w) (some_asked g (bare x) all)) (told_new b.asked n.asked x.asked e.0.asks),
          if_some (answers_of b n) (λ y. y ≡ bare x) (λ y. PlansAll g (y ∷ [])) (λ y w. subst (λ (v : Exchange). PlansAll g (v ∷ [])) (sym w) all) (answers_told b n x e.0),
        )
