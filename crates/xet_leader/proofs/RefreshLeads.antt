-- A run after its stale plans were asked for again.
use Rattle.std.proofs.Common.{◌≡◌, ℕ, ◌+◌, Bool, List, [], ◌∷◌, ◌++◌, take, drop, Option, None, Some, Ok, Err, refl, sym, subst, ◌∙◌, ap, ◌<◌}
use Rattle.std.specs.Prelude.{slice_get, count_by}
use Rattle.std.specs.List.{slice_set}
use Rattle.std.proofs.lemmas.List.{append-nil, take-append-drop}
use Rattle.std.proofs.lemmas.Option.{get_or_from_slice_get, slice_get_within}
use Rattle.xet_base.specs.declared.cas_types.FileRange.{FileRange}
use Rattle.xet_outside.specs.declared.plan.PlanAnswer.TheVariants.{Found}
use Rattle.xet_outside.specs.declared.said.Said.TheVariants as said
use Rattle.xet_outside.specs.Plan.{shape}
use Rattle.xet_outside.specs.Told.{ClientTold}
use Rattle.xet_error.specs.declared.error.FileReconstructionError.{FileReconstructionError}
use Rattle.xet_offers.specs.PlanChecks.{covered}
use Rattle.xet_fetch.specs.Refreshes.{RefreshCause}
use Rattle.xet_events.specs.declared.event.Event.{Event}
use Rattle.xet_events.specs.declared.event.Event.TheVariants.{Refreshed}
use Rattle.xet_ties.specs.History.{range_at}
use Rattle.xet_ties.specs.Setup.{RunTold, Setup}
use Rattle.xet_ties.specs.Moves.{heard_first}
use Rattle.xet_ties.specs.Ties.{NoneLate, Slack, all_of}
use Rattle.xet_ties.proofs.CallerLemmas.{drop_at, grew_first, none_hidden, none_late, steady_leaves}
use Rattle.xet_parts.specs.PlanRefreshes.{again}
use Rattle.xet_parts.proofs.CallerLemmas.{refresh_cause, refreshed_ties}
use Rattle.xet_leader.specs.declared.leader.LedPlan.{LedPlan}
use Rattle.xet_leader.specs.Led.{IsLed, IsLedPlan, Led}
use Rattle.xet_leader.specs.Plans.{Answer, find_plan}
use Rattle.xet_leader.specs.Refreshing.{RefreshCalls, RefreshFails, RefreshLeads, RefreshTurn, RefreshedAt, RefreshedEach, RefreshedOne, RefreshedThere, Touched}
use Rattle.xet_leader.specs.Steady.{IsFailing, IsGoing, IsSettled, LeadPart, Loose, Moment}
use Rattle.xet_leader.proofs.Leading.{lead_more}
use Rattle.xet_leader.proofs.MoreTold.{tells_more_heard}
use Rattle.xet_leader.proofs.PlanPlaces.{place_absent, place_number}
use Rattle.xet_leader.proofs.RefreshTables.{asks_again, refresh_passes}
use Rattle.xet_leader.proofs.RefreshedEvents.{at_place, led_absent, led_refreshed}
use Rattle.xet_leader.proofs.WriterFaults.{any_unfailed}
use Rattle.xet_leader.proofs.Halts.{calm_halted}
use Rattle.xet_events.specs.Events.{expires}

-- what a refresh touches at a moment
abbrev touched : ClientTold → Moment → Led → Touched
touched c m l = record { client = c; events = m.events; plans = l.plans }

-- the moment after it
abbrev then_at : Moment → List ClientTold → Touched → Moment
then_at m cs a = record { told = record m.told { clients = a.client ∷ cs }; events = a.events }

abbrev with_plans : Led → Touched → Led
with_plans l a = record l { plans = a.plans }

abbrev with_stale : Loose → List ℕ → Loose
with_stale o ps = record o { stale = ps }

settled_same : (b : RunTold) (o : Loose) (ps qs : List ℕ) (sl : Slack) → IsSettled b (with_stale o ps) sl
    → IsSettled b (with_stale o qs) sl
settled_same b o ps qs sl s = record {
  hidden = s.hidden;
  late = s.late;
  lost = s.lost;
  ahead = s.ahead;
  spare = s.spare;
  pending = s.pending;
  due = s.due;
  step = s.step;
  calm = s.calm;
}

-- ---- a number of no plan

passed : (g : Setup) (b : RunTold) (m : Moment) (o : Loose) (p : ℕ) (rest : List ℕ) (l : Led)
    → find_plan l.plans p ≡ None → IsGoing g b m (with_stale o (p ∷ rest)) l → IsGoing g b m (with_stale o rest) l
passed g b m o p rest l none s = record {
  slack = s.slack;
  ties = s.ties;
  settled = settled_same b o (p ∷ rest) rest s.slack s.settled;
  led = led_absent g b m.events s.slack p rest l (place_absent l.plans p s.led.plans.follow none) s.led;
  calm = s.calm;
  unfailed = s.unfailed;
  cache_tells = s.cache_tells;
}

same_moment : (g : Setup) (b : RunTold) (m : Moment) (cs : List ClientTold) (c : ClientTold) (a : Touched) (o : Loose)
    (l : Led) → m.told.clients ≡ c ∷ cs → a ≡ touched c m l → IsGoing g b m o l
    → IsGoing g b (then_at m cs a) o (with_plans l a)
same_moment g b m cs c a o l is same s =
    subst (λ (x : Touched). IsGoing g b (then_at m cs x) o (with_plans l x)) (sym same)
    (subst (λ (ns : List ClientTold). IsGoing g b (record {
      told = record m.told { clients = ns };
      events = m.events;
    }) o l) is s)

passed_leads : (g : Setup) (m : Moment) (o : Loose) (cs : List ClientTold) (c : ClientTold) (p : ℕ) (rest : List ℕ)
    (l : Led) (a : Touched) → m.told.clients ≡ c ∷ cs → find_plan l.plans p ≡ None → a ≡ touched c m l
    → LeadPart {A = Unit {0}} g m (then_at m cs a) (with_stale o (p ∷ rest)) (with_stale o rest) l (with_plans l a)
    (Ok tt)
passed_leads g m o cs c p rest l a is none same = record {
  ok = λ b s. same_moment g b m cs c a (with_stale o rest) l is same (passed g b m o p rest l none s);
  err = λ b s. tt;
}

-- ---- a plan

-- what is known of the plan
record Own (g : Setup) (b : RunTold) (m : Moment) (p : ℕ) (rest : List ℕ) (sl : Slack) (x : LedPlan) : Type 0 where
  pub plan_is : IsLedPlan g b m.events sl (p ∷ rest) x
  pub at_range : range_at m.events p ≡ x.block.urls.byte_range ∷ []

own_plan : (g : Setup) (b : RunTold) (m : Moment) (o : Loose) (p place : ℕ) (rest : List ℕ) (l : Led) (x : LedPlan)
    → find_plan l.plans p ≡ Some place → slice_get l.plans place ≡ Some x
    → (s : IsGoing g b m (with_stale o (p ∷ rest)) l) → Own g b m p rest s.slack x
own_plan g b m o p place rest l x found at s =
    let own = at_place (IsLedPlan g b m.events s.slack (p ∷ rest)) l.plans place x at s.led.plans.each in
    let number = place_number l.plans p place x s.led.plans.follow found at in
    record {
      plan_is = own;
      at_range = subst (λ (n : ℕ). range_at m.events n ≡ x.block.urls.byte_range ∷ []) number
          own.recorded.at_range;
    }

renewed_going : (g : Setup) (b : RunTold) (m : Moment) (o : Loose) (cs : List ClientTold) (c : ClientTold)
    (multi : Bool) (p place : ℕ) (rest : List ℕ) (l : Led) (a : Touched) → g.multirange ≡ multi
    → m.told.clients ≡ c ∷ cs → find_plan l.plans p ≡ Some place
    → RefreshedAt multi p place (touched c m l) a (Ok tt) → IsGoing g b m (with_stale o (p ∷ rest)) l
    → IsGoing g b (then_at m cs a) (with_stale o rest) (with_plans l a)
renewed_going g b m o cs c multi p place rest l a same is found r s =
    let x = r.plan in
    let own = own_plan g b m o p place rest l x found r.at s in
    let q = x.block.urls.byte_range in
    let heard = heard_first ((g.file, q) ∷ []) (said.Plan (Found r.call.took.answered.plan) ∷ []) s.slack.heard in
    let to : Slack = record s.slack { heard = heard; lost = [] } in
    let ties = refreshed_ties g b m.told m.events a.events s.slack p x.block r.block multi c a.client cs is r.call
    s.settled.lost s.settled.step own.at_range own.plan_is.table.file own.plan_is.plan own.plan_is.query
    own.plan_is.accepted (asks_again g x own.plan_is.plan own.plan_is.query multi same own.plan_is.blocks
    own.plan_is.table) s.ties in
    let led : IsLed g b (m.events ++ Refreshed p ∷ []) to rest
    (record l { plans = slice_set l.plans place (record x { block = r.block }) }) =
    led_refreshed g b m.events s.slack to p rest l place x r.block c a.client multi
    (tells_more_heard s.slack to (grew_first ((g.file, q) ∷ [])
    (said.Plan (Found r.call.took.answered.plan) ∷ []) s.slack.heard) refl) r.at r.call.took s.led in
    record {
      slack = to;
      ties = ties.0;
      settled = record {
        hidden = s.settled.hidden;
        late = s.settled.late;
        lost = refl;
        ahead = s.settled.ahead;
        spare = s.settled.spare;
        pending = s.settled.pending;
        due = s.settled.due;
        step = ties.1;
        calm = s.settled.calm;
      };
      led = subst (λ (es : List Event). IsLed g b es to rest (with_plans l a)) (sym r.call.recorded)
          (subst (λ (ls : List LedPlan). IsLed g b (m.events ++ Refreshed p ∷ []) to rest (record l { plans = ls }))
          (sym r.plans) led);
      calm = s.calm;
      unfailed = s.unfailed;
      cache_tells = s.cache_tells;
    }

refused : (g : Setup) (b : RunTold) (m : Moment) (o : Loose) (cs : List ClientTold) (c : ClientTold) (multi : Bool)
    (p place : ℕ) (rest : List ℕ) (l : Led) (a : Touched) (e : FileReconstructionError) → g.multirange ≡ multi
    → m.told.clients ≡ c ∷ cs
    → find_plan l.plans p ≡ Some place → RefreshedAt multi p place (touched c m l) a (Err e)
    → IsGoing g b m (with_stale o (p ∷ rest)) l → IsFailing g b (then_at m cs a) e
refused g b m o cs c multi p place rest l a e same is found r s =
    let x = r.plan in
    let own = own_plan g b m o p place rest l x found r.at s in
    let plan = own.plan_is.plan in
    let query = own.plan_is.query in
    let table = own.plan_is.table in
    let covers : range_at m.events p ≡ covered (shape plan) query ∷ [] =
    own.at_range ∙ ap (λ (q : FileRange). q ∷ []) table.range_is in
    let short = refresh_cause g b m.told m.events a.events s.slack p x.block r.block multi plan query c a.client cs e is
    r.call (asks_again g x plan query multi same own.plan_is.blocks table) s.settled.lost s.settled.step
    (record { calm = s.settled.calm; hidden = ap all_of s.settled.hidden ∙ none_hidden b.clients }) covers
    s.led.some own.plan_is.accepted
    (λ z over y h. refresh_passes g z over.valid plan query
    (own.plan_is.true_plan z over) own.plan_is.accepted.said.some y h) s.ties in
    let sl : Slack = record s.slack {
      heard = heard_first short.queries short.answers s.slack.heard;
      lost = short.queries;
      calm = short.calm;
    } in
    record {
      slack = sl;
      ties = short.ties;
      left = steady_leaves b.clients e sl (ap all_of s.settled.hidden ∙ none_hidden b.clients)
          (subst NoneLate (sym s.settled.late) (none_late b.clients)) s.settled.ahead short.kept;
      cause = short.cause;
      unfailed = any_unfailed b.sink.faults m.told.sink.faults e s.unfailed;
      spent = λ h. absurd (subst (λ (y : FileReconstructionError). RefreshCause (again x.block multi) c a.client y) h
          r.call.cause);
      halted = calm_halted b.signal.yes m.told.signal.yes e s.calm;
      under = λ u q k. subst (λ (l : List Event). count_by (expires q k) l < g.tries) (sym r.call.unrecorded)
          (s.led.under q k);
      cache_tells = s.cache_tells;
    }

at_leads : (g : Setup) (m : Moment) (o : Loose) (cs : List ClientTold) (c : ClientTold) (multi : Bool) (p place : ℕ)
    (rest : List ℕ) (l : Led) (a : Touched) (answer : Answer) → g.multirange ≡ multi → m.told.clients ≡ c ∷ cs
    → find_plan l.plans p ≡ Some place → RefreshedAt multi p place (touched c m l) a answer
    → LeadPart g m (then_at m cs a) (with_stale o (p ∷ rest)) (with_stale o rest) l (with_plans l a) answer
at_leads g m o cs c multi p place rest l a (Ok tt) same is found r =
    record { ok = λ b s. renewed_going g b m o cs c multi p place rest l a same is found r s; err = λ b s. tt }
at_leads g m o cs c multi p place rest l a (Err e) same is found r =
    record { ok = λ b s. tt; err = λ b s. refused g b m o cs c multi p place rest l a e same is found r s }

-- one number
one_leads : (g : Setup) (m : Moment) (o : Loose) (cs : List ClientTold) (c : ClientTold) (multi : Bool) (p : ℕ)
    (rest : List ℕ) (l : Led) (a : Touched) (answer : Answer) → g.multirange ≡ multi → m.told.clients ≡ c ∷ cs
    → RefreshedOne multi p (touched c m l) a answer
    → LeadPart g m (then_at m cs a) (with_stale o (p ∷ rest)) (with_stale o rest) l (with_plans l a) answer
one_leads g m o cs c multi p rest l a answer same is r = by (find_plan l.plans p) refl r
  where
    by : (i : Option ℕ) → find_plan l.plans p ≡ i → RefreshedThere multi p i (touched c m l) a answer
        → LeadPart g m (then_at m cs a) (with_stale o (p ∷ rest)) (with_stale o rest) l (with_plans l a) answer
    by None e t = subst (λ (x : Answer). LeadPart g m (then_at m cs a) (with_stale o (p ∷ rest)) (with_stale o rest) l
        (with_plans l a) x) (sym t.1) (passed_leads g m o cs c p rest l a is e t.0)
    by (Some place) e t = at_leads g m o cs c multi p place rest l a answer same is e t

-- ---- all of them

none_leads : (g : Setup) (m : Moment) (o : Loose) (cs : List ClientTold) (c : ClientTold) (l : Led) (a : Touched)
    → m.told.clients ≡ c ∷ cs → a ≡ touched c m l → LeadPart {A = Unit {0}} g m (then_at m cs a) o o l
    (with_plans l a) (Ok tt)
none_leads g m o cs c l a is same = record { ok = λ b s. same_moment g b m cs c a o l is same s; err = λ b s. tt }

each_leads : (g : Setup) (m : Moment) (o : Loose) (cs : List ClientTold) (c : ClientTold) (multi : Bool)
    (ps rest : List ℕ) (l : Led) (a : Touched) → g.multirange ≡ multi → m.told.clients ≡ c ∷ cs
    → RefreshedEach multi ps (touched c m l) a
    → LeadPart {A = Unit {0}} g m (then_at m cs a) (with_stale o (ps ++ rest)) (with_stale o rest) l (with_plans l a)
    (Ok tt)
each_leads g m o cs c multi [] rest l a same is r = none_leads g m (with_stale o rest) cs c l a is r
each_leads g m o cs c multi (p ∷ ps) rest l a same is r =
    let x = r.0 in
    lead_more g m (then_at m cs x) (then_at m cs a) (with_stale o (p ∷ ps ++ rest)) (with_stale o (ps ++ rest))
    (with_stale o rest) l (with_plans l x) (with_plans l a) tt (Ok tt)
    (one_leads g m o cs c multi p (ps ++ rest) l x (Ok tt) same is r.1)
    (each_leads g (then_at m cs x) o cs x.client multi ps rest (with_plans l x) a same refl r.2)

-- the numbers up to one, and those after it
split_at : (ps : List ℕ) (k p : ℕ) → slice_get ps k ≡ Some p → ps ≡ take k ps ++ p ∷ drop (k + 1) ps
split_at ps k p e = sym (take-append-drop k ps) ∙ ap (λ (l : List ℕ). take k ps ++ l)
    (drop_at ps k p (slice_get_within ps k p e) ∙ ap (λ (x : ℕ). x ∷ drop (k + 1) ps)
    (get_or_from_slice_get ps k p p e))

fails_leads : (g : Setup) (m : Moment) (o : Loose) (cs : List ClientTold) (c : ClientTold) (multi : Bool)
    (ps : List ℕ) (l : Led) (a : Touched) (e : FileReconstructionError) → g.multirange ≡ multi
    → m.told.clients ≡ c ∷ cs → RefreshFails multi ps (touched c m l) a e
    → LeadPart {A = Unit {0}} g m (then_at m cs a) (with_stale o ps) (with_stale o []) l (with_plans l a) (Err e)
fails_leads g m o cs c multi ps l a e same is f =
    let k = f.count in
    let p = f.number in
    let x = f.last in
    let rest = drop (k + 1) ps in
    let first = each_leads g m o cs c multi (take k ps) (p ∷ rest) l x same is f.before in
    let last : LeadPart {A = Unit {0}} g (then_at m cs x) (then_at m cs a) (with_stale o (p ∷ rest))
    (with_stale o rest) (with_plans l x) (with_plans l a) (Err e) =
    one_leads g (then_at m cs x) o cs x.client multi p rest (with_plans l x) a (Err e) same refl f.fails in
    subst (λ (ns : List ℕ). LeadPart {A = Unit {0}} g m (then_at m cs a) (with_stale o ns) (with_stale o []) l
    (with_plans l a) (Err e)) (sym (split_at ps k p f.next))
    (record { ok = λ b s. tt; err = λ b s. last.err b (first.ok b s) })

calls_lead : (g : Setup) (m : Moment) (o : Loose) (cs : List ClientTold) (c : ClientTold) (multi : Bool) (ps : List ℕ)
    (l : Led) (a : Touched) (answer : Answer) → g.multirange ≡ multi → m.told.clients ≡ c ∷ cs
    → RefreshCalls multi ps (touched c m l) a answer
    → LeadPart g m (then_at m cs a) (with_stale o ps) (with_stale o []) l (with_plans l a) answer
calls_lead g m o cs c multi ps l a (Ok tt) same is r =
    subst (λ (ns : List ℕ). LeadPart {A = Unit {0}} g m (then_at m cs a) (with_stale o ns) (with_stale o []) l
    (with_plans l a) (Ok tt)) (append-nil ps) (each_leads g m o cs c multi ps [] l a same is r.ok)
calls_lead g m o cs c multi ps l a (Err e) same is r = fails_leads g m o cs c multi ps l a e same is r.err

pub refresh_leads : (multi : Bool) (ps : List ℕ) (c n : ClientTold) (es fs : List Event) (l k : Led) (answer : Answer)
    → RefreshTurn multi ps c n es fs l k answer → RefreshLeads multi ps c n es fs l k answer
refresh_leads multi ps c n es fs l k answer t g m o cs same is at =
    let a : Touched = record { client = n; events = fs; plans = k.plans } in
    let calls = subst (λ (x : List Event). RefreshCalls multi ps
    (record { client = c; events = x; plans = l.plans }) a answer) (sym at) t.calls in
    subst (λ (x : Led). LeadPart g m (then_at m cs a) (with_stale o ps) (with_stale o []) l x answer) (sym t.led)
    (calls_lead g m o cs c multi ps l a answer same is calls)
