-- Parts of a pull in any order, for a stream.
use Rattle.std.proofs.Common.{◌≡◌, ℕ, Bool, true, false, List, [], ◌∷◌, ◌++◌, refl, sym, subst, ◌∙◌, ap, arith, Option, Some, None, Ok, Err}
use Rattle.std.specs.Prelude.{IfSome, Result, slice_get}
use Rattle.std.proofs.lemmas.List.{append-nil}
use Rattle.xet_outside.specs.Told.{CacheTold, ClientTold}
use Rattle.xet_error.specs.declared.error.FileReconstructionError.{FileReconstructionError}
use Rattle.xet_error.specs.declared.error.FileReconstructionError.TheVariants as error
use Rattle.xet_events.specs.declared.event.Event.{Event}
use Rattle.xet_events.specs.declared.event.Event.TheVariants.{Fail, Wrote}
use Rattle.xet_events.specs.Events.{is_kept}
use Rattle.xet_events.specs.Limits.{LimitTold}
use Rattle.xet_parts.specs.Admissions.{admits}
use Rattle.xet_parts.specs.Stops.{IsStopped}
use Rattle.xet_ties.specs.PartCalls.{stop_event}
use Rattle.xet_ties.specs.Setup.{RunTold, Setup}
use Rattle.xet_leader.specs.declared.ahead.NextTerm.{NextTerm}
use Rattle.xet_leader.specs.Led.{Led}
use Rattle.xet_leader.specs.declared.leader.LedPlan.{LedPlan}
use Rattle.xet_leader.specs.LedTerms.{of_plan, size_in}
use Rattle.xet_leader.proofs.CallerLemmas.{same_found}
use Rattle.xet_stream_rules.specs.Moments.{Goes, at}
use Rattle.xet_stream_rules.specs.Pulls.{IsTold}
use Rattle.xet_stream_rules.specs.Streams.{Carries, IsOpen, Stands, StreamView, TellsAs, fetches_in, nobody, telling_so}
use Rattle.xet_events.specs.Allowed.{IsRunning}
use Rattle.xet_stream_rules.proofs.CallerLemmas.{admits_running, tells_nobody}
use Rattle.xet_stream_terms.specs.Admitting.{AdmitsSome, AheadCall}
use Rattle.xet_stream_terms.specs.Handing.{IsOpenNext, RecordsTerm}
use Rattle.xet_stream_terms.specs.Planning.{IsMarked}
use Rattle.xet_stream_terms.proofs.CallerLemmas.{goes_wrote, marks_on}
use Rattle.xet_streams.specs.AnyOrder.{AdmitsAhead, CanStep, CanStepCall, GivenCall, MaySteps, RecordsGiven, StandsOn}
use Rattle.xet_streams.specs.steps.Pulling.{AsksFlag}
use Rattle.xet_streams.specs.Parts.{HoldsAt}
use Rattle.xet_streams.specs.steps.Ahead.{AdmitsLed, AdmitsOver, GivenOver, GivesOver}
use Rattle.xet_streams.proofs.Pulled.{IsTrueSo, stopped_told, told_stands}
use Rattle.xet_streams.proofs.Working.{counts_admits}

-- ---- from one moment to a later one

-- what arguments tell, their own connections and cache tell
tells_own : (b : RunTold) → TellsAs b b.clients b.cache
tells_own b = record { clients = λ s o. o; cache = λ s o h. h }

module _ (v : StreamView) (still : IsOpen v) (led now : Led) (is : v.led ≡ Some led) (fs : List Event)
    (limits : LimitTold) (goes : (cs : List ClientTold) (k : CacheTold)
    → Goes v.setup (at v.events led cs k) (at fs now cs k)) where
  abbrev n : StreamView
  n = record v { events = fs; led = Some now; limits = limits }

  pub goes_stands : StandsOn v n
  goes_stands store entries h =
      let b = telling_so store entries in
      let on = goes b.clients b.cache in
      record {
        true_of = λ s o. on.lasts.true_of s o (h.true_of s o);
        starts = on.lasts.starts h.starts;
        led = λ o. on.carries b (tells_own b)
            (subst (λ (q : Option Led). IfSome q (Carries b v.setup v.events)) is (h.led still));
      }

  pub goes_holds : (reached : Bool) → HoldsAt v.setup v.events v.led reached
      → IsMarked v.setup.range fs reached → HoldsAt v.setup fs (Some now) reached
  goes_holds reached h mark =
      let held = subst (λ (q : Option Led). HoldsAt v.setup v.events q reached) is h in
      ((goes [] nobody.cache).carries nobody (tells_nobody [] nobody.cache) held.0, mark)

pub held_mark : (g : Setup) (es : List Event) (l : Led) (o : Option Led) (reached : Bool) → o ≡ Some l
    → HoldsAt g es o reached → IsMarked g.range es reached
held_mark g es l o reached is h = (subst (λ (q : Option Led). HoldsAt g es q reached) is h).1

pub held_led : (g : Setup) (es : List Event) (l : Led) (o : Option Led) (reached : Bool) → o ≡ Some l
    → HoldsAt g es o reached → Carries nobody g es l
held_led g es l o reached is h = (subst (λ (q : Option Led). HoldsAt g es q reached) is h).0

-- ---- a term that was given before

pub given_by : (es fs : List Event) (l k : Led) (next : NextTerm) (answer : Result Bool FileReconstructionError)
    → RecordsTerm es fs l k next answer → GivenOver es fs (Some l) (Some k) next answer
given_by es fs l k next (Ok true) r = record {
  led = l;
  now = k;
  term = r.next;
  before = refl;
  after = refl;
  events = r.records.0;
  is = r.records.1;
}
given_by es fs l k next (Ok false) r = (
  r.records.0,
  ap (λ (z : Led). Some z) r.records.1,
  λ m e x.
      let same : l ≡ m = cc in
      let p : r.next.plan ≡ x.plan = same_found r.next.plan x.plan l.plans next.place next.place r.next.at
      (ap (λ (z : Led). slice_get z.plans next.place) same ∙ x.at) refl in
      ap (λ (z : LedPlan). is_kept es z.number next.term.xorb_block) (sym p) ∙ r.records.2,
)
given_by es fs l k next (Err e) r = (r.records.0, r.records.1, ap (λ (z : Led). Some z) r.records.2)

module _ (v : StreamView) (still : IsOpen v) (reached : Bool) (holds : HoldsAt v.setup v.events v.led reached)
    (next : NextTerm) (opens : IfSome v.led (λ l. IsOpenNext l next)) (fs : List Event) (q : Option Led) where
  abbrev m : StreamView
  m = record v { events = fs; led = q }

  -- it was recorded
  module _ (r : GivesOver v.events fs v.led q next) where
    carries : Carries nobody v.setup v.events r.led
    carries = held_led v.setup v.events r.led v.led reached r.before holds

    opens_led : IsOpenNext r.led next
    opens_led = subst (λ (o : Option Led). IfSome o (λ l. IsOpenNext l next)) r.before opens

    goes : (cs : List ClientTold) (k : CacheTold) → Goes v.setup (at v.events r.led cs k) (at fs r.now cs k)
    goes cs k =
        subst (λ (es : List Event). Goes v.setup (at v.events r.led cs k) (at es r.now cs k)) (sym r.events)
        (subst (λ (l : Led). Goes v.setup (at v.events r.led cs k)
        (at (v.events ++ Wrote (size_in (of_plan r.term.plan next.term)) ∷ []) l cs k)) (sym r.is)
        (goes_wrote v.setup v.events r.led carries next r.term opens_led.open_now cs k))

    pub given_stands : StandsOn v m
    given_stands = subst (λ (o : Option Led). StandsOn v (record v { events = fs; led = o })) (sym r.after)
        (goes_stands v still r.led r.now r.before fs v.limits goes)

    pub given_holds : HoldsAt v.setup fs q reached
    given_holds = subst (λ (o : Option Led). HoldsAt v.setup fs o reached) (sym r.after)
        (goes_holds v still r.led r.now r.before fs v.limits goes reached holds
        (subst (λ (es : List Event). IsMarked v.setup.range es reached) (sym r.events)
        (marks_on v.setup.range v.events (Wrote (size_in (of_plan r.term.plan next.term)) ∷ []) reached refl
        (held_mark v.setup v.events r.led v.led reached r.before holds))))

    pub given_some : q ≡ None → ⊥
    given_some e = let z = sym r.after ∙ e in cc

    pub given_records : RecordsGiven v m next
    given_records = record {
      led = r.led;
      is_led = r.before;
      term = r.term;
      is = ap (λ (es : List Event). record v { events = es; led = q }) r.events
          ∙ ap (λ (o : Option Led). record v {
            events = v.events ++ Wrote (size_in (of_plan r.term.plan next.term)) ∷ [];
            led = o;
          }) (r.after ∙ ap (λ (l : Led). Some l) r.is);
    }

  -- nothing was
  pub same_view : fs ≡ v.events → q ≡ v.led → m ≡ v
  same_view e f = ap (λ (es : List Event). record v { events = es; led = q }) e
      ∙ ap (λ (o : Option Led). record v { events = v.events; led = o }) f

  pub given_call : (is_recorded : Bool) → GivenOver v.events fs v.led q next (Ok is_recorded)
      → GivenCall v m next (Ok is_recorded)
  given_call true r = given_records r
  given_call false r = (same_view r.0 r.1, r.2)

  pub given_on : (is_recorded : Bool) → GivenOver v.events fs v.led q next (Ok is_recorded) → StandsOn v m
  given_on true r = given_stands r
  given_on false r = subst (StandsOn v) (sym (same_view r.0 r.1)) (λ store entries h. h)

  pub given_held : (is_recorded : Bool) → GivenOver v.events fs v.led q next (Ok is_recorded)
      → HoldsAt v.setup fs q reached
  given_held true r = given_holds r
  given_held false r = subst (λ (es : List Event). HoldsAt v.setup es q reached) (sym r.0)
      (subst (λ (o : Option Led). HoldsAt v.setup v.events o reached) (sym r.1) holds)

  pub given_begun : (is_recorded : Bool) → GivenOver v.events fs v.led q next (Ok is_recorded) → q ≡ None
      → v.led ≡ None
  given_begun true r e = absurd (given_some r e)
  given_begun false r e = sym r.1 ∙ e

-- ---- an error

pub told_on : (v n : StreamView) (e told : FileReconstructionError) → IsTold v n e told → StandsOn v n
told_on v n e told t store entries h =
    told_stands (telling_so store entries) v e told n (record { true_of = h.true_of; starts = h.starts }) t

-- where memory was wanting, nothing else changed
pub short_told : (v : StreamView) (fs gs : List Event) (q : Option Led) (e told : FileReconstructionError)
    → (e ≡ error.OutOfMemory) × (fs ≡ v.events) × (q ≡ v.led) → IsStopped fs gs e told
    → IsTold v (record v { events = gs; led = q; told_error = Some told }) error.OutOfMemory told
short_told v fs gs q e told h stopped =
    let n : StreamView = record v { events = gs; led = q; told_error = Some told } in
    let is : IsTold v n e told = stopped_told v n gs e told
    (subst (λ (o : FileReconstructionError). stop_event o ≡ Fail o) (sym h.0) refl)
    (subst (λ (x : List Event). IsStopped x gs e told) h.1 stopped)
    (ap (λ (o : Option Led). record v { events = gs; led = o; told_error = Some told }) h.2) in
    subst (λ (o : FileReconstructionError). IsTold v n o told) h.0 is

pub held_none : (g : Setup) (es : List Event) (o : Option Led) (reached : Bool) → HoldsAt g es o reached → o ≡ None
    → es ≡ []
held_none g es None reached h e = h.0
held_none g es (Some l) reached h e = absurd (cc)

-- ---- admissions

pub admits_by : (g : Setup) (es fs : List Event) (l k : Led) (before after : LimitTold)
    (answer : Result (Unit {0}) FileReconstructionError)
    → ((cs : List ClientTold) (t : CacheTold) → AheadCall g (at es l cs t) (at fs k cs t) before after answer)
    → AdmitsOver g es fs (Some l) (Some k) before after answer
admits_by g es fs l k before after answer h = record { led = l; now = k; had = refl; has = refl; call = h }

-- what a leader that was there was asked for
led_admits : (g : Setup) (es fs : List Event) (o q : Option Led) (l : Led) (before after : LimitTold)
    (answer : Result (Unit {0}) FileReconstructionError) → o ≡ Some l → AdmitsOver g es fs o q before after answer
    → AdmitsLed g es fs o q before after answer
led_admits g es fs None q l before after answer e h = absurd (cc)
led_admits g es fs (Some z) q l before after answer e h = h

-- no block was asked for
same_fetches : (o q : Option Led) (l k : Led) → o ≡ Some l → q ≡ Some k → k.fetches ≡ l.fetches
    → fetches_in q ≡ fetches_in o
same_fetches o q l k had has same = ap fetches_in has ∙ same ∙ sym (ap fetches_in had)

-- nothing was asked
none_admits : (g : Setup) (es fs : List Event) (o q : Option Led) (before after : LimitTold) → o ≡ None
    → AdmitsOver g es fs o q before after (Ok tt) → (fs ≡ es) × (q ≡ None) × (after ≡ before)
none_admits g es fs None q before after e h = h
none_admits g es fs (Some z) q before after e h = absurd (cc)

none_fails : (g : Setup) (es fs : List Event) (o q : Option Led) (before after : LimitTold)
    (x : FileReconstructionError) → o ≡ None → AdmitsOver g es fs o q before after (Err x) → ⊥
none_fails g es fs None q before after x e h = h
none_fails g es fs (Some z) q before after x e h = cc

module _ (v : StreamView) (still : IsOpen v) (reached : Bool) (holds : HoldsAt v.setup v.events v.led reached)
    (fs : List Event) (q : Option Led) (after : LimitTold) where
  abbrev p : StreamView
  p = record v { events = fs; led = q; limits = after }

  idle : v.led ≡ None → AdmitsOver v.setup v.events fs v.led q v.limits after (Ok tt) → p ≡ v
  idle e h =
      let z = none_admits v.setup v.events fs v.led q v.limits after e h in
      ap (λ (es : List Event). record v { events = es; led = q; limits = after }) z.0
      ∙ ap (λ (o : Option Led). record v { events = v.events; led = o; limits = after }) (z.1 ∙ sym e)
      ∙ ap (λ (x : LimitTold). record v { events = v.events; led = v.led; limits = x }) z.2

  marked : (limits : List ℕ) → fs ≡ v.events ++ admits limits → (l : Led) → v.led ≡ Some l
      → IsMarked v.setup.range fs reached
  marked limits added l is =
      subst (λ (es : List Event). IsMarked v.setup.range es reached) (sym added)
      (marks_on v.setup.range v.events (admits limits) reached (counts_admits limits).plans_are
      (held_mark v.setup v.events l v.led reached is holds))

  -- they were admitted
  module _ (h : AdmitsOver v.setup v.events fs v.led q v.limits after (Ok tt)) where
    module _ (l : Led) (is : v.led ≡ Some l) where
      a : AdmitsLed v.setup v.events fs v.led q v.limits after (Ok tt)
      a = led_admits v.setup v.events fs v.led q l v.limits after (Ok tt) is h

      some_of_it : (cs : List ClientTold) (k : CacheTold)
          → AdmitsSome v.setup (at v.events a.led cs k) (at fs a.now cs k) v.limits after
      some_of_it cs k = (a.call cs k).ok

      one : AdmitsSome v.setup (at v.events a.led [] nobody.cache) (at fs a.now [] nobody.cache) v.limits after
      one = some_of_it [] nobody.cache

      ahead_led : AdmitsAhead v p
      ahead_led = record {
        limits = one.admits.limits;
        unused = one.unused;
        few = one.few;
        added = one.admits.added;
        given = one.admits.given;
        fetches = same_fetches v.led q a.led a.now a.had a.has (ap (λ (z : Led). z.fetches) one.led);
        rest = refl;
      }

      stands_led : StandsOn v p
      stands_led = subst (λ (o : Option Led). StandsOn v (record v { events = fs; led = o; limits = after })) (sym a.has)
          (goes_stands v still a.led a.now a.had fs after (λ cs k. (some_of_it cs k).goes))

      holds_led : HoldsAt v.setup fs q reached
      holds_led = subst (λ (o : Option Led). HoldsAt v.setup fs o reached) (sym a.has)
          (goes_holds v still a.led a.now a.had fs after (λ cs k. (some_of_it cs k).goes) reached holds
          (marked one.admits.limits one.admits.added a.led a.had))

    pub admits_ahead : (o : Option Led) → v.led ≡ o → AdmitsAhead v p
    admits_ahead None e = subst (AdmitsAhead v) (sym (idle e h)) (record {
      limits = [];
      unused = [];
      few = omega arith;
      added = sym (append-nil v.events);
      given = refl;
      fetches = refl;
      rest = refl;
    })
    admits_ahead (Some l) e = ahead_led l e

    pub admits_on : (o : Option Led) → v.led ≡ o → StandsOn v p
    admits_on None e = subst (StandsOn v) (sym (idle e h)) (λ store entries s. s)
    admits_on (Some l) e = stands_led l e

    pub admits_held : (o : Option Led) → v.led ≡ o → HoldsAt v.setup fs q reached
    admits_held None e = subst (λ (z : StreamView). HoldsAt z.setup z.events z.led reached) (sym (idle e h)) holds
    admits_held (Some l) e = holds_led l e

    pub admits_begun : (o : Option Led) → v.led ≡ o → q ≡ None → v.led ≡ None
    admits_begun None e f = e
    admits_begun (Some l) e f = absurd (let z = sym (a l e).has ∙ f in cc)

  -- memory was wanting
  module _ (e : FileReconstructionError) (h : AdmitsOver v.setup v.events fs v.led q v.limits after (Err e)) where
    module _ (l : Led) (is : v.led ≡ Some l) where
      vain : AdmitsLed v.setup v.events fs v.led q v.limits after (Err e)
      vain = led_admits v.setup v.events fs v.led q l v.limits after (Err e) is h

    pub vain_memory : (o : Option Led) → v.led ≡ o → e ≡ error.OutOfMemory
    vain_memory None is = absurd (none_fails v.setup v.events fs v.led q v.limits after e is h)
    vain_memory (Some l) is = ((vain l is).call [] nobody.cache).err.0

    pub vain_ahead : (o : Option Led) → v.led ≡ o → AdmitsAhead v p
    vain_ahead None is = absurd (none_fails v.setup v.events fs v.led q v.limits after e is h)
    vain_ahead (Some l) is =
        let w = vain l is in
        let z = (w.call [] nobody.cache).err in
        record {
          limits = z.2.limits;
          unused = z.1 ∷ [];
          few = omega arith;
          added = z.2.added;
          given = z.2.given;
          fetches = same_fetches v.led q w.led w.now w.had w.has (ap (λ (y : Led). y.fetches) z.3);
          rest = refl;
        }

    -- what stands of its history
    pub vain_true : (o : Option Led) → v.led ≡ o → (b : RunTold) → Stands b v → IsTrueSo b p
    vain_true None is b s = absurd (none_fails v.setup v.events fs v.led q v.limits after e is h)
    vain_true (Some l) is b s =
        let z = ((vain l is).call b.clients b.cache).err.2.lasts in
        record { true_of = λ t over. z.true_of t over (s.true_of t over); starts = z.starts s.starts }

    pub vain_running : (o : Option Led) → v.led ≡ o → IsRunning fs
    vain_running None is = absurd (none_fails v.setup v.events fs v.led q v.limits after e is h)
    vain_running (Some l) is =
        let z = ((vain l is).call [] nobody.cache).err in
        subst IsRunning (sym z.2.added)
        (admits_running v.events z.2.limits (held_led v.setup v.events l v.led reached is holds).led.running)

    pub vain_told : (gs : List Event) (told : FileReconstructionError) → IsStopped fs gs e told
        → IsTold p (record p { events = gs; told_error = Some told }) error.OutOfMemory told
    vain_told gs told stopped =
        let m = vain_memory v.led refl in
        let n : StreamView = record p { events = gs; told_error = Some told } in
        subst (λ (o : FileReconstructionError). IsTold p n o told) m
        (stopped_told p n gs e told (subst (λ (o : FileReconstructionError). stop_event o ≡ Fail o) (sym m) refl)
        stopped refl)

    pub vain_on : (n : StreamView) (told : FileReconstructionError) → IsTold p n error.OutOfMemory told → StandsOn v n
    vain_on n told t store entries s =
        told_stands (telling_so store entries) p error.OutOfMemory told n
        (vain_true v.led refl (telling_so store entries) s) t

-- ---- whether a step may be taken

pub asked_so : (v m n : StreamView) (connections : ℕ) (answer : Bool) → AsksFlag v m false
    → CanStepCall m n connections answer → MaySteps v n connections answer
asked_so v m n connections true f c =
    (f.seen, f.later, subst (λ (z : StreamView). CanStep z n connections) f.is c)
asked_so v m n connections false f c = (f.seen, f.later, c ∙ f.is)

pub asked_closed : (v m : StreamView) (connections : ℕ) → AsksFlag v m true → MaySteps v m connections false
asked_closed v m connections f = (f.seen, f.later, f.is)

pub asked_not : (v : StreamView) (connections : ℕ) → MaySteps v v connections false
asked_not v connections = (v.seen, omega arith, refl)
