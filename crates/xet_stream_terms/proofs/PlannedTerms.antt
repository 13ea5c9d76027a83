-- The next term of a stream, which may be asked for.
use Rattle.std.proofs.Common.{◌≡◌, ℕ, Bool, true, false, List, [], length, refl, sym, subst, ◌∙◌, ap, Option, Some, None, Ok, Err}
use Rattle.std.specs.Prelude.{IfOk, MatchOption, Result}
use Rattle.std.specs.Option.{is_some}
use Rattle.std.proofs.lemmas.List.{append-nil}
use Rattle.xet_outside.specs.Told.{CacheTold, ClientTold}
use Rattle.xet_error.specs.declared.error.FileReconstructionError.{FileReconstructionError}
use Rattle.xet_events.specs.declared.event.Event.{Event}
use Rattle.xet_events.specs.Allowed.{IsAllowedHistory}
use Rattle.xet_history.specs.TrueHistory.{ReachesEnd}
use Rattle.xet_terms.specs.Managers.{IsCovered}
use Rattle.xet_ties.specs.Setup.{EachGoesOn, RunTold, Setup}
use Rattle.xet_leader.specs.declared.ahead.NextTerm.{NextTerm}
use Rattle.xet_leader.specs.declared.leader.Job.{Job}
use Rattle.xet_leader.specs.Asking.{AskTurn, NoneAsked}
use Rattle.xet_leader.specs.Led.{IsLedManager, Led, setup_of_job}
use Rattle.xet_leader.specs.LedTerms.{IsNextTerm, NoneHas, ahead}
use Rattle.xet_leader.proofs.CallerLemmas.{covered_reaches, looked_led}
use Rattle.xet_stream_terms.specs.Planning.{IsMarked}
use Rattle.xet_stream_rules.specs.Streams.{Carries, nobody}
use Rattle.xet_stream_rules.specs.Moments.{At, Goes, at}
use Rattle.xet_stream_terms.specs.Planning.{Plans, PlansNext}
use Rattle.xet_stream_terms.specs.steps.Asking.{AsksNext, ThenNext, never, is_last}
use Rattle.xet_stream_rules.proofs.CallerLemmas.{each_same, goes_nowhere, lasts_quiet}
use Rattle.xet_stream_terms.proofs.NextPlans.{marked, none_reaches, planned_once}
use Rattle.xet_stream_rules.proofs.CallerLemmas.{same_rest}

-- nothing was asked
plans_nothing : (g : Setup) (x y : At) → y.clients ≡ x.clients → y.events ≡ x.events
    → y.led.finished ≡ x.led.finished → y.led.fetches ≡ x.led.fetches → Goes g x y → Plans g x y
plans_nothing g x y clients events f n h = record {
  asked = None;
  calls = clients;
  new = [];
  added = events ∙ sym (append-nil x.events);
  is = refl;
  goes = h;
  finished = f;
  fetches = n;
}

-- the next term was planned
pub plan_there : (g : Setup) (x : At) (r : Bool) (n : NextTerm) → IsMarked g.range x.events r → IsNextTerm x.led n
    → PlansNext g x x r (Some n)
plan_there g x r n m h = record {
  plans = plans_nothing g x x refl refl refl refl (goes_nowhere g x);
  marked = m;
  next_is = h;
  end = λ e. absurd (cc);
}

-- by what was looked for
pub planned_there : (g : Setup) (x : At) (r : Bool) (o : Option NextTerm) → is_some o ≡ true → IsMarked g.range x.events r
    → MatchOption o (NoneHas (ahead x.led)) (IsNextTerm x.led) → PlansNext g x x r o
planned_there g x r None e m h = absurd (cc)
planned_there g x r (Some n) e m h = plan_there g x r n m h

pub none_there : (l : Led) (o : Option NextTerm) → is_some o ≡ false → MatchOption o (NoneHas (ahead l)) (IsNextTerm l)
    → NoneHas (ahead l)
none_there l None e h = h
none_there l (Some n) e h = absurd (cc)

module _ (j : Job) (es : List Event) (l : Led) (c : Carries nobody (setup_of_job j) es l)
    (allowed : IsAllowedHistory es) (none : NoneHas (ahead l)) (cs ns : List ClientTold) (fs : List Event) (k : Led)
    (kk : CacheTold) where
  abbrev g : Setup
  g = setup_of_job j

  abbrev x : At
  x = at es l cs kk

  abbrev y : At
  y = at fs k ns kk

  -- none was due
  module _ (n : NoneAsked cs ns never never es fs l k) (covered : IsCovered k.manager) where
    carries_on : (b : RunTold) → Carries b g es l → Carries b g fs k
    carries_on b a =
        let led = looked_led g b es a.slack l k.manager never never n.due a.led in
        subst (λ (e : List Event). Carries b g e k) (sym n.events)
        (subst (λ (z : Led). Carries b g es z) (sym n.led)
        (same_rest b g es es l (record l { manager = k.manager }) a.slack a refl refl refl refl refl led))

    quiet : Goes g x y
    quiet = record {
      lasts = lasts_quiet g x y n.events (subst (λ (ds : List ClientTold). EachGoesOn cs ds) (sym n.clients) (each_same cs))
          (λ s over h. h);
      carries = λ b t a. carries_on b a;
    }

    reaches : ReachesEnd g.range fs
    reaches =
        subst (λ (e : List Event). ReachesEnd g.range e) (sym n.events)
        (covered_reaches g es k.manager c.led.some
        (subst (λ (e : List Event). IsLedManager g e k.manager) n.events (carries_on nobody c).led.manager) covered)

    none_due : PlansNext g x y true None
    none_due = record {
      plans = plans_nothing g x y n.clients n.events (ap (λ (z : Led). z.finished) n.led)
          (ap (λ (z : Led). z.fetches) n.led) quiet;
      marked = record { yes = λ _. reaches; no = λ h. absurd (cc) };
      next_is = subst NoneHas (sym (ap (λ (z : Led). ahead z) n.led)) none;
      end = λ _. reaches;
    }

  asked_next : (r : Bool) (asked : Result Bool FileReconstructionError)
      (answer : Result (Option NextTerm) FileReconstructionError) → AskTurn j cs ns never never es fs l k asked
      → IfOk asked (λ a. a ≡ false → IsCovered k.manager) → ThenNext j l k r asked answer
      → IfOk answer (PlansNext g x y r)
  asked_next r (Ok true) (Ok o) t covered h =
      let d = t.ok in
      subst (λ (v : Bool). PlansNext g x y v o) (sym h.0) (record {
        plans = planned_once j es l c cs ns fs never never d.asked allowed k d.hands kk;
        marked = marked j es l c cs ns fs never never d.asked allowed k d.hands;
        next_is = h.1;
        end = λ e. none_reaches j es l c cs ns fs never never d.asked allowed k d.hands
            (subst (λ (p : Option NextTerm). MatchOption p (NoneHas (ahead k)) (IsNextTerm k)) e h.1);
      })
  asked_next r (Ok false) (Ok o) t covered h =
      subst (λ (v : Bool). PlansNext g x y v o) (sym h.0)
      (subst (λ (p : Option NextTerm). PlansNext g x y true p) (sym h.1) (none_due t.ok (covered refl)))
  asked_next r (Err e) (Ok o) t covered h = absurd h
  asked_next r (Ok true) (Err f) t covered h = tt
  asked_next r (Ok false) (Err f) t covered h = tt
  asked_next r (Err e) (Err f) t covered h = tt

  pub plan_asked : (r : Bool) (answer : Result (Option NextTerm) FileReconstructionError)
      → AsksNext j cs ns es fs l k r answer → IfOk answer (PlansNext g x y r)
  plan_asked r answer a = asked_next r a.asked answer a.turn a.covered a.next

-- ---- by one call of `ask`

module _ (j : Job) (cs ns : List ClientTold) (es fs : List Event) (l k : Led) (a : Bool)
    (turn : AskTurn j cs ns never never es fs l k (Ok a))
    (covered : a ≡ false → IsCovered k.manager) where
  pub asks_true : a ≡ true → (r : Bool) (n : ℕ) → n ≡ length l.plans → r ≡ is_last n j.byte_range.end k
      → (o : Option NextTerm) → MatchOption o (NoneHas (ahead k)) (IsNextTerm k) → AsksNext j cs ns es fs l k r (Ok o)
  asks_true asked r n count is o h = record {
    asked = Ok true;
    turn = subst (λ (v : Bool). AskTurn j cs ns never never es fs l k (Ok v)) asked turn;
    covered = λ e. absurd (cc);
    next = (is ∙ ap (λ (m : ℕ). is_last m j.byte_range.end k) count, h);
  }

  pub asks_false : a ≡ false → (r : Bool) → r ≡ true → AsksNext j cs ns es fs l k r (Ok None)
  asks_false unasked r is = record {
    asked = Ok false;
    turn = subst (λ (v : Bool). AskTurn j cs ns never never es fs l k (Ok v)) unasked turn;
    covered = λ e. covered unasked;
    next = (is, refl);
  }
