-- A run after a join that has an error: it is to stop with it.
use Rattle.std.proofs.Common.{◌≡◌, ℕ, get_or, Bool, true, false, List, [], ◌∷◌, ◌++◌, refl, sym, subst, ◌∙◌, ap, arith, append_assoc, length, ⊎_elim, None, Some, Ok, Err, inl, inr}
use Rattle.std.specs.Prelude.{All, Result, ◌≢◌, ◌⊎◌, cond, map}
use Rattle.std.specs.List.{list_any}
use Rattle.std.specs.Result.{result_err}
use Rattle.std.proofs.lemmas.Bool.{or_parts}
use Rattle.std.proofs.lemmas.List.{append-nil}
use Rattle.xet_base.specs.Lists.{first_some}
use Rattle.xet_base.specs.Store.{Store}
use Rattle.xet_outside.specs.Told.{ClientTold, Rose}
use Rattle.xet_error.specs.declared.error.FileReconstructionError.{FileReconstructionError}
use Rattle.xet_error.specs.declared.error.FileReconstructionError.TheVariants as error
use Rattle.xet_events.specs.declared.event.Event.{Event}
use Rattle.xet_writers.specs.Calls.{SinkCause}
use Rattle.xet_ties.specs.declared.lane_step.LaneStep.{LaneStep}
use Rattle.xet_ties.specs.Causes.{Cause}
use Rattle.xet_ties.specs.InCall.{Exchange}
use Rattle.xet_ties.specs.Lanes.{Ask}
use Rattle.xet_ties.specs.Setup.{CacheTells, IsOver, RunTold, Setup}
use Rattle.xet_ties.specs.PartCalls.{total}
use Rattle.xet_ties.specs.Recordings.{wrote_of}
use Rattle.xet_ties.specs.Ties.{FirstUnfailed, IsFaultless, MayLeave, NoneLate, Slack, Ties, all_of}
use Rattle.xet_ties.proofs.CallerLemmas.{none_hidden, none_late, tells_now, tie_written}
use Rattle.xet_lane.specs.JoinErrors.{end_error, first_error, lacks_memory, memory_was_short, wants_memory}
use Rattle.xet_lane.specs.Ends.{End, steps_of}
use Rattle.xet_lane.proofs.CallerLemmas.{FailedLane, error_cause}
use Rattle.xet_lanes.specs.Rounds.{LanesDrew}
use Rattle.xet_leader.specs.Led.{IsLed, Led}
use Rattle.xet_stages.specs.RoundRecords.{lanes_events, window_events}
use Rattle.xet_turns.specs.Rounds.{AreLedAsks, RoundLeft}
use Rattle.xet_leader.specs.Steady.{IsFailing}
use Rattle.xet_turns.proofs.FailedLanes.{IsHeardJoin, honest_ask, lane_cause, never_calm, never_spent, own_asks}
use Rattle.xet_leader.proofs.CallerLemmas.{IsHonestOf}
use Rattle.xet_turns.proofs.LastSteps.{none_upto, lanes_honest, none_below, upto_unfailed}
use Rattle.xet_turns.proofs.RoundLeads.{memory_fails}
use Rattle.xet_leader.proofs.CallerLemmas.{any_unfailed, sink_unfailed, calm_halted, unspent_faultless}
use Rattle.xet_ties.specs.RunCalls.{IsUnspent}

-- what is told is tied to all that the join records; the bytes are those of the window, where it was written
record JoinTied (g : Setup) (b n : RunTold) (new : List Event) (from : Slack)
    (wrote : Result ℕ FileReconstructionError) : Type 0 where
  slack : Slack
  ties : Ties g b n new None slack
  heard : slack.heard ≡ from.heard
  hidden : slack.hidden ≡ from.hidden
  late : slack.late ≡ from.late
  ahead : (k : ℕ) → wrote ≡ Ok k → slack.ahead ≡ 0

join_tied : (g : Setup) (b at : RunTold) (es : List Event) (sl : Slack) (ns : List ClientTold) (fs : List Ask)
    (ls : List (List LaneStep)) (l : Led) (lengths : List ℕ) (wrote : Result ℕ FileReconstructionError)
    → (r : RoundLeft g b at es sl ns fs ls l) → ((k : ℕ) → wrote ≡ Ok k → sl.ahead ≡ total lengths)
    → JoinTied g b (record at { clients = ns }) (es ++ (lanes_events ls ++ window_events wrote lengths)) r.slack wrote
join_tied g b at es sl ns fs ls l lengths (Ok k) r whole =
    let a = r.after.ahead in
    let h = whole k refl in
    let to : Slack = record r.slack { ahead = 0 } in
    record {
      slack = to;
      ties = subst (λ (x : List Event). Ties g b (record at { clients = ns }) x None to)
          (append_assoc es (lanes_events ls) (wrote_of lengths))
          (tie_written g b (record at { clients = ns }) (es ++ lanes_events ls) r.slack lengths 0
          (omega (arith, a, h)) r.ties);
      heard = refl;
      hidden = refl;
      late = refl;
      ahead = λ k e. refl;
    }
join_tied g b at es sl ns fs ls l lengths (Err e) r whole = record {
  slack = r.slack;
  ties = subst (λ (x : List Event). Ties g b (record at { clients = ns }) x None r.slack)
      (ap (λ (x : List Event). es ++ x) (sym (append-nil (lanes_events ls)))) r.ties;
  heard = refl;
  hidden = refl;
  late = refl;
  ahead = λ k f. absurd (cc);
}

-- where want of memory isn't the error, none was wanting in a lane; and the writer's error is that of the join
other_error : (wrote : Result ℕ FileReconstructionError) (es : List End) (e : FileReconstructionError)
    → first_error wrote es ≡ Some e → (e ≡ error.OutOfMemory) ⊎
    ((list_any lacks_memory es ≡ false) × (first_some (result_err wrote ∷ map end_error es) ≡ Some e))
other_error wrote es e h = by (memory_was_short wrote es) refl
  where
    by : (v : Bool) → memory_was_short wrote es ≡ v
        → (e ≡ error.OutOfMemory) ⊎ ((list_any lacks_memory es ≡ false)
        × (first_some (result_err wrote ∷ map end_error es) ≡ Some e))
    by true s = inl (let z : Some error.OutOfMemory ≡ Some e = sym
        (ap (λ (v : Bool). cond v (Some error.OutOfMemory) (first_some (result_err wrote ∷ map end_error es))) s)
        ∙ h in cc)
    by false s = inr (
      (or_parts (wants_memory (result_err wrote)) (list_any lacks_memory es) s).1,
      sym (ap (λ (v : Bool). cond v (Some error.OutOfMemory) (first_some (result_err wrote ∷ map end_error es))) s)
          ∙ h,
    )

-- what a join with an error leaves
leaves : (g : Setup) (b at : RunTold) (es : List Event) (sl : Slack) (ns : List ClientTold) (fs : List Ask)
    (ends : List End) (l : Led) (e : FileReconstructionError) (to : Slack) → AreLedAsks es sl.pending l.plans fs
    → LanesDrew fs at.clients ns ends → (r : RoundLeft g b at es sl ns fs (steps_of ends) l)
    → list_any lacks_memory ends ≡ false
    → Ties g b at es None sl → IsLed g b es sl [] l → to.hidden ≡ r.slack.hidden → to.late ≡ r.slack.late
    → (e ≢ error.IoError → to.ahead ≡ 0) → (IsFaultless (Some e) → ⊥) → MayLeave (Some e) b.clients to
leaves g b at es sl ns fs ends l e to asks d r memory t led hidden late ahead loud = record {
  none = λ h. absurd (cc);
  honest = λ s over other.
      let honest : All (λ a. IsHonestOf s a.block) fs =
      λ k x w. honest_ask g b es sl l (get_or fs k x) s led over (asks.led k x w) in
      let none = lanes_honest s fs at.clients ns d.drew.drawn ends
      (tells_now s es 0 b.clients at.clients sl.hidden sl.late t.served.lanes over.tell) honest d.drew.each d.last
      memory in
      ap all_of (hidden ∙ r.after.none none) ∙ none_hidden b.clients;
  late = λ other. subst NoneLate (sym (late ∙ r.after.late)) (none_late b.clients);
  counted = λ other io. ahead (λ h. io (ap Some h));
  quiet = λ c. absurd (loud c);
}

-- the writer's error
write_stops : (g : Setup) (b at : RunTold) (es : List Event) (sl : Slack) (ns : List ClientTold) (fs : List Ask)
    (ends : List End) (l : Led) (e : FileReconstructionError) (new : List Event)
    (wrote : Result ℕ FileReconstructionError) → AreLedAsks es sl.pending l.plans fs → LanesDrew fs at.clients ns ends
    → (r : RoundLeft g b at es sl ns fs (steps_of ends) l)
    → Ties g b at es None sl → IsLed g b es sl [] l → list_any lacks_memory ends ≡ false
    → JoinTied g b (record at { clients = ns }) new r.slack wrote → SinkCause b.sink.faults at.sink.faults e
    → at.signal.yes ≡ b.signal.yes → ((s : Store) → IsOver s b.clients → CacheTells s b.cache → CacheTells s at.cache)
    → IsFailing g b (record { told = record at { clients = ns }; events = new }) e
write_stops g b at es sl ns fs ends l e new wrote asks d r t led m j sink quiet tells = ⊎_elim memory taken sink
  where
    n : RunTold
    n = record at { clients = ns }

    memory : (e ≡ error.OutOfMemory) × (at.sink.faults ≡ b.sink.faults)
        → IsFailing g b (record { told = n; events = new }) e
    memory h = subst (λ (x : FileReconstructionError). IsFailing g b (record { told = n; events = new }) x) (sym h.0)
        (memory_fails g b n new j.slack j.ties tells)

    taken : (e ≡ error.IoError) × Rose b.sink.faults at.sink.faults
        → IsFailing g b (record { told = n; events = new }) e
    taken h = record {
      slack = j.slack;
      ties = j.ties;
      left = leaves g b at es sl ns fs ends l e j.slack asks d r m t led j.hidden j.late (λ io. absurd (io h.0))
          (λ c. subst (λ (x : FileReconstructionError). IsFaultless (Some x)) h.0 c);
      cause = subst (Cause g j.slack.heard b n) (sym h.0) h.1;
      unfailed = sink_unfailed b.sink.faults at.sink.faults b.sink.faults at.sink.faults e sink;
      spent = λ u. absurd (let z : error.IoError ≡ error.UrlExpired = sym h.0 ∙ u in cc);
      halted = calm_halted b.signal.yes at.signal.yes e quiet;
      under = λ u. absurd (subst (λ (x : FileReconstructionError). IsUnspent (Some x)) h.0 u);
      cache_tells = tells;
    }

-- a lane's, where all was written
lane_stops : (g : Setup) (b at : RunTold) (es : List Event) (sl : Slack) (ns : List ClientTold) (fs : List Ask)
    (ends : List End) (l : Led) (e : FileReconstructionError) (new : List Event) (k : ℕ)
    → AreLedAsks es sl.pending l.plans fs → LanesDrew fs at.clients ns ends
    → (r : RoundLeft g b at es sl ns fs (steps_of ends) l)
    → Ties g b at es None sl → IsLed g b es sl [] l → sl.calm ≡ length b.clients → list_any lacks_memory ends ≡ false
    → JoinTied g b (record at { clients = ns }) new r.slack (Ok k) → FailedLane ends e
    → at.sink.faults ≡ b.sink.faults → at.signal.yes ≡ b.signal.yes
    → ((s : Store) → IsOver s b.clients → CacheTells s b.cache → CacheTells s at.cache)
    → IsFailing g b (record { told = record at { clients = ns }; events = new }) e
lane_stops g b at es sl ns fs ends l e new k asks d r t led calm m j f same quiet tells =
    let own = own_asks es l fs asks.own asks.led asks.missing in
    let join : IsHeardJoin g (es ++ lanes_events (steps_of ends)) r.slack.hidden f.at e r.slack.heard = record {
      served = r.ties.heard_served;
      passed = r.ties.passed;
      below = none_below ends r.slack.hidden f.at d.last f.below r.after.hides;
      upto = λ h. none_upto ends r.slack.hidden f.at f.end d.last f.below f.there (f.error ∙ ap Some h) r.after.hides;
    } in
    record {
      slack = j.slack;
      ties = j.ties;
      left = leaves g b at es sl ns fs ends l e j.slack asks d r m t led j.hidden j.late (λ io. j.ahead k refl)
          (never_calm g es l at.clients ns fs d.drew.drawn ends e own d.drew.each f);
      cause = subst (λ (xs : List Exchange). Cause g xs b (record at { clients = ns }) e) (sym j.heard)
          (lane_cause g b at es sl ns fs d.drew.drawn ends l e r.slack.heard (es ++ lanes_events (steps_of ends))
          r.slack.hidden own d.drew.each f r.after.grew r.ties.heard r.after.failed join (λ h. upto_unfailed fs b.clients at.clients ns d.drew.drawn
          ends f.at f.end e d.drew.each (subst (λ (i : ℕ). FirstUnfailed i b.clients at.clients) calm t.unfailed)
          d.last f.below f.there f.error h) t led);
      unfailed = any_unfailed b.sink.faults at.sink.faults e same;
      spent = λ u. absurd (never_spent g es l at.clients ns fs d.drew.drawn ends own d.drew.each
          (subst (FailedLane ends) u f));
      halted = calm_halted b.signal.yes at.signal.yes e quiet;
      under = λ u. absurd (never_calm g es l at.clients ns fs d.drew.drawn ends e own d.drew.each f
          (unspent_faultless e u));
      cache_tells = tells;
    }

-- over what is told, and all that it did recorded, a join with an error is to stop
pub round_stops : (g : Setup) (b at : RunTold) (es : List Event) (sl : Slack) (ns : List ClientTold) (fs : List Ask)
    (ends : List End) (l : Led) (lengths : List ℕ) (wrote : Result ℕ FileReconstructionError)
    (e : FileReconstructionError) → AreLedAsks es sl.pending l.plans fs → LanesDrew fs at.clients ns ends
    → RoundLeft g b at es sl ns fs (steps_of ends) l → Ties g b at es None sl → IsLed g b es sl [] l
    → sl.calm ≡ length b.clients → first_error wrote ends ≡ Some e → ((k : ℕ) → wrote ≡ Ok k → sl.ahead ≡ total lengths)
    → ((x : FileReconstructionError) → wrote ≡ Err x → SinkCause b.sink.faults at.sink.faults x)
    → ((k : ℕ) → wrote ≡ Ok k → at.sink.faults ≡ b.sink.faults) → at.signal.yes ≡ b.signal.yes
    → ((s : Store) → IsOver s b.clients → CacheTells s b.cache → CacheTells s at.cache)
    → IsFailing g b (record {
      told = record at { clients = ns };
      events = es ++ (lanes_events (steps_of ends) ++ window_events wrote lengths);
    }) e
round_stops g b at es sl ns fs ends l lengths (Err x) e asks d r t led calm first whole sink same quiet tells =
    let j = join_tied g b at es sl ns fs (steps_of ends) l lengths (Err x) r whole in
    let n : RunTold = record at { clients = ns } in
    let new = es ++ (lanes_events (steps_of ends) ++ window_events (Err x) lengths) in
    ⊎_elim (λ (h : e ≡ error.OutOfMemory). subst (λ (x : FileReconstructionError). IsFailing g b
    (record { told = n; events = new }) x) (sym h) (memory_fails g b n new j.slack j.ties tells))
    (λ (o : (list_any lacks_memory ends ≡ false) × (Some x ≡ Some e)). let is : x ≡ e = (let z = o.1 in cc) in
    write_stops g b at es sl ns fs ends l e new (Err x) asks d r t led o.0 j
    (subst (SinkCause b.sink.faults at.sink.faults) is (sink x refl)) quiet tells)
    (other_error (Err x) ends e first)
round_stops g b at es sl ns fs ends l lengths (Ok k) e asks d r t led calm first whole sink same quiet tells =
    let j = join_tied g b at es sl ns fs (steps_of ends) l lengths (Ok k) r whole in
    let n : RunTold = record at { clients = ns } in
    let new = es ++ (lanes_events (steps_of ends) ++ window_events (Ok k) lengths) in
    let memory : e ≡ error.OutOfMemory → IsFailing g b (record { told = n; events = new }) e =
    λ h. subst (λ (x : FileReconstructionError). IsFailing g b (record { told = n; events = new }) x) (sym h)
    (memory_fails g b n new j.slack j.ties tells) in
    ⊎_elim memory
    (λ (o : (list_any lacks_memory ends ≡ false) × (first_some (None ∷ map end_error ends) ≡ Some e)).
    ⊎_elim memory
    (λ (c : (Ok k ≡ Err e) ⊎ FailedLane ends e). ⊎_elim (λ (w : Ok k ≡ Err e). absurd (cc))
    (λ (f : FailedLane ends e). lane_stops g b at es sl ns fs ends l e new k asks d r t led calm o.0 j f
    (same k refl) quiet tells) c)
    (error_cause (Ok k) ends e first))
    (other_error (Ok k) ends e first)

-- a fault of the sink in a window counts from the start of the run, where none came before
pub sink_since : (b at : RunTold) (after : ℕ) (e : FileReconstructionError) → at.sink.faults ≡ b.sink.faults
    → SinkCause at.sink.faults after e → SinkCause b.sink.faults after e
sink_since b at after e none c = subst (λ (k : ℕ). SinkCause k after e) none c
