-- Due terms of a stream are found and given.
use Rattle.std.proofs.Common.{◌≡◌, ◌⊎◌, ℕ, ◌==◌, Bool, true, false, cond, List, [], ◌∷◌, ◌++◌, refl, sym, subst, ◌∙◌, ap, Option, Some, None, Ok, Err}
use Rattle.std.specs.Prelude.{IfSome, Result, slice_get}
use Rattle.xet_error.specs.declared.error.FileReconstructionError.{FileReconstructionError}
use Rattle.xet_error.specs.declared.error.FileReconstructionError.TheVariants as error
use Rattle.xet_events.specs.declared.event.Event.TheVariants.{Fail}
use Rattle.xet_events.specs.declared.event.Event.{Event}
use Rattle.xet_events.specs.Events.{Task, admitted, planned}
use Rattle.xet_ties.specs.PartCalls.{stop_event}
use Rattle.xet_leader.specs.Led.{Led}
use Rattle.xet_leader.specs.LedTerms.{task_of}
use Rattle.xet_stream_rules.specs.declared.step.Step.TheVariants.{Pending, Ready}
use Rattle.xet_stream_rules.specs.Streams.{Carries, IsOpen, StreamView, nobody}
use Rattle.xet_stream_rules.specs.Unordered.{ItemAnswer, UnorderedView, offset_of}
use Rattle.xet_stream_terms.proofs.CallerLemmas.{piece_sized}
use Rattle.xet_unordered_streams.specs.declared.early_terms.EarlyTerms.{EarlyTerms}
use Rattle.xet_unordered_streams.specs.declared.due_terms.Due.{Due}
use Rattle.xet_unordered_streams.specs.Items.{AfterStep, DueCorrupted, FailsDue, GivesDue, GivesNow, NoneIsDue}
use Rattle.xet_unordered_streams.specs.Placing.{AreGiven, IsPlacing, is_early}
use Rattle.xet_unordered_streams.specs.steps.Dues.{FirstDue, HintedDue, NoneDue}
use Rattle.xet_unordered_streams.specs.steps.Giving.{AddsPlace, AnyDue, AnyView, DueFails, DueFor, FailsSo, FoundDue, FoundRefused, HintView, KeepsOn, KnownDue, PlaceFor}
use Rattle.xet_unordered_streams.proofs.Dues.{due_cause, due_event, due_is, kept_is, none_is_due, stands_at, task_at}
use Rattle.xet_unordered_streams.proofs.Given.{given_due}

-- ---- what is found

pub hint_view : (v : StreamView) (early : ℕ → Bool) (l : Led) → v.led ≡ Some l → (from : ℕ)
    → from ≡ v.setup.range.start → (answer : Result (Option Due) FileReconstructionError) → HintedDue l early from answer
    → HintView v early answer
hint_view v early l is from e (Ok (Some d)) h =
    record { led = l; is_led = is; due = subst (λ (n : ℕ). HintedDue l early n (Ok (Some d))) e h }
hint_view v early l is from e (Ok None) h = tt
hint_view v early l is from e (Err x) h =
    record { led = l; is_led = is; refused = h }

pub any_view : (v : StreamView) (early : ℕ → Bool) (l : Led) → v.led ≡ Some l → (from : ℕ)
    → from ≡ v.setup.range.start → (answer : Result (Option Due) FileReconstructionError) → FirstDue l early from answer
    → AnyView v early answer
any_view v early l is from e (Ok (Some d)) h =
    record { led = l; is_led = is; due = subst (λ (n : ℕ). FirstDue l early n (Ok (Some d))) e h }
any_view v early l is from e (Ok None) h = (led_none, λ none. absurd (let z = sym is ∙ none in cc))
  where
    led_none : (m : Led) → v.led ≡ Some m → NoneDue m early
    led_none m same =
        let eq : l ≡ m = (let z : ◌≡◌ {A = Option Led} (Some l) (Some m) = sym is ∙ same in cc) in
        subst (λ (k : Led). NoneDue k early) eq h
any_view v early l is from e (Err x) h =
    record { led = l; is_led = is; refused = h }

-- without a leader
pub any_none : (v : StreamView) (early : ℕ → Bool) → v.led ≡ None → v.events ≡ [] → AnyView v early (Ok None)
any_none v early none empty = ((λ l is. absurd (let z = sym none ∙ is in cc)), (λ e. empty))

-- ---- in a stream that keeps its places

module _ (v : StreamView) (ds : List ℕ) (e : EarlyTerms) (ended : Bool) (h : IsPlacing v ds e) (still : IsOpen v) where
  abbrev u : UnorderedView
  u = record { stream = v; delivered = ds; ended = ended }

  pub carries_now : (l : Led) → v.led ≡ Some l → Carries nobody v.setup v.events l
  carries_now l is = subst (λ (o : Option Led). IfSome o (Carries nobody v.setup v.events)) is (h.stands.led still)

  pub found_for : (d : Due) → FoundDue v (is_early e) d → DueFor u d
  found_for d f =
      let c = carries_now f.led f.is_led in
      let w = f.due.due.wanted in
      let p = f.due.due.bytes in
      record {
        at = record {
          led = f.led;
          is_led = f.is_led;
          skip = f.due.skip;
          numbered = f.due.due.numbered;
          opens = f.due.opens;
          term = f.due.due.term;
          there = w.there;
          due = due_is u (is_early e) f.led f.is_led c h.allowed h.stands.starts h.given f.due.skip f.due.due.term
              f.due.opens w (kept_is v.setup v.events f.led c f.due.skip f.due.due.term w.there p.data_of p.kept);
          at = f.due.due.at;
        };
        bytes = p;
      }

  pub found_none : AnyView v (is_early e) (Ok None) → NoneIsDue u
  found_none f = by v.led refl
    where
      unplanned : (t : Task) (place : ℕ) → v.events ≡ [] → slice_get (admitted v.events) place ≡ Some t → ⊥
      unplanned t place none at =
          let z : slice_get (admitted []) place ≡ Some t =
          subst (λ (es : List Event). slice_get (admitted es) place ≡ Some t) none at in
          cc

      by : (o : Option Led) → v.led ≡ o → NoneIsDue u
      by None is = λ t d. unplanned t d.place (f.1 is) d.at
      by (Some l) is = none_is_due u (is_early e) l is (carries_now l is) h.allowed h.stands.starts h.given (f.0 l is)

  pub refused_cause : (x : FileReconstructionError) → FoundRefused v (is_early e) x
      → (x ≡ error.OutOfMemory) ⊎ DueCorrupted u x
  refused_cause x f =
      let r = f.refused.refused in
      due_cause u still f.led f.is_led (carries_now f.led f.is_led) f.refused.skip r.term r.wanted.there x r.refused

  pub refused_event : (x : FileReconstructionError) → FoundRefused v (is_early e) x → stop_event x ≡ Fail x
  refused_event x f = due_event u x (refused_cause x f)

  pub known_is : (answer : Result (Option Due) FileReconstructionError) → HintView v (is_early e) answer
      → KnownDue u answer
  known_is (Ok (Some d)) f = found_for d f
  known_is (Ok None) f = tt
  known_is (Err x) f = refused_cause x f

  pub any_is : (answer : Result (Option Due) FileReconstructionError) → AnyView v (is_early e) answer → AnyDue u answer
  any_is (Ok (Some d)) f = found_for d f
  any_is (Ok None) f = found_none f
  any_is (Err x) f = refused_cause x f

  -- one is added, and its place
  pub placing_added : (number place : ℕ) → PlaceFor u number place → (later : EarlyTerms)
      → ((n : ℕ) → is_early later n ≡ cond (number == n) true (is_early e n)) → IsPlacing v (ds ++ place ∷ []) later
  placing_added number place p later is =
      let c = carries_now p.led p.is_led in
      let s = stands_at nobody v.setup v.events p.led c p.skip p.term p.there p.due.some p.opens in
      let planned_at = ap (λ (n : ℕ). slice_get (planned v.events) n) p.numbered
      ∙ task_at nobody v.setup v.events p.led c p.skip p.term p.there in
      let at : place ≡ offset_of v.setup.range (task_of p.term) = p.at in
      record {
        allowed = h.allowed;
        stands = h.stands;
        given = subst (λ (o : ℕ). AreGiven v.setup.range v.events (is_early later) (ds ++ o ∷ [])) (sym at)
            (given_due v.setup.range v.events (is_early e) ds h.given (task_of p.term) number s.place planned_at s.at
            p.due.kept s.opens p.due.new (is_early later) is);
      }

-- ---- what is given

pub gives_it : (u n : UnorderedView) → IsOpen u.stream → (d : Due) → (f : DueFor u d)
    → n ≡ record u { delivered = u.delivered ++ d.place ∷ [] } → GivesDue u n (d.place, d.bytes)
gives_it u n still d f is = record {
  still = still;
  led = f.at.led;
  is_led = f.at.is_led;
  skip = f.at.skip;
  term = f.at.term;
  there = f.at.there;
  due = f.at.due;
  bytes = f.bytes;
  sized = piece_sized f.at.term d.bytes f.bytes;
  at = f.at.at;
  is = is;
}

pub fails_it : (u n : UnorderedView) (cause e : FileReconstructionError)
    → (cause ≡ error.OutOfMemory) ⊎ DueCorrupted u cause → FailsSo u n cause e → FailsDue u n e
fails_it u n cause e c f = record { cause = cause; is_cause = c; told = f.told; rest = f.rest }

pub fails_plain : (u : UnorderedView) (x : FileReconstructionError) → DueFails u x → stop_event x ≡ Fail x
fails_plain u x h = due_event u x h

-- at a step's end
pub gives_after : (u n : UnorderedView) (answer : ItemAnswer) → GivesNow u n answer → AfterStep u n answer
gives_after u n (Ok Pending) h = absurd h
gives_after u n (Ok (Ready None)) h = absurd h
gives_after u n (Ok (Ready (Some item))) h = h
gives_after u n (Err x) h = h

-- by whether its place was added
pub adds_none : (u n : UnorderedView) (place : ℕ) (is_added : Bool) → is_added ≡ false → AddsPlace u n place is_added
    → n ≡ u
adds_none u n place true e a = absurd (cc)
adds_none u n place false e a = a

pub adds_one : (u n : UnorderedView) (place : ℕ) (is_added : Bool) → is_added ≡ true → AddsPlace u n place is_added
    → n ≡ record u { delivered = u.delivered ++ place ∷ [] }
adds_one u n place true e a = a
adds_one u n place false e a = absurd (cc)

pub adds_on : (u n : UnorderedView) (place : ℕ) (is_added : Bool) → AddsPlace u n place is_added → KeepsOn u n
adds_on u n place true a = subst (KeepsOn u) (sym a) (λ store entries h. h)
adds_on u n place false a = subst (KeepsOn u) (sym a) (λ store entries h. h)
