-- Terms that were given are recorded, and terms admitted.
use Rattle.std.proofs.Common.{◌≡◌, ⊎_elim, inr, ℕ, ◌+◌, ◌-◌, ◌<◌, Bool, true, false, List, [], ◌∷◌, ◌++◌, length, take, refl, sym, subst, ◌∙◌, ap, arith, append_assoc, Option, Some, None, Ok, Err}
use Rattle.std.specs.Prelude.{All, IfSome, Result, count_by, slice_get}
use Rattle.std.proofs.lemmas.Grind.{flat_map-append}
use Rattle.std.proofs.lemmas.List.{append-nil}
use Rattle.std.proofs.lemmas.Option.{slice_get_within}
use Rattle.std.proofs.lemmas.List.Elements.{All-append, All-cons, All-head, All-nil, All-tail}
use Rattle.xet_base.specs.declared.cas_types.FileRange.{FileRange}
use Rattle.xet_error.specs.declared.error.FileReconstructionError.{FileReconstructionError}
use Rattle.xet_events.specs.declared.event.Event.{Event}
use Rattle.xet_events.specs.declared.event.Event.TheVariants.{Admit, Cached, Cancel, Expired, Fail, Fetched, Planned, Refreshed, Wrote}
use Rattle.xet_events.specs.Allowed.{IsAllowedHistory}
use Rattle.xet_events.specs.Events.{Task, planned}
use Rattle.xet_events.specs.Limits.{LimitTold}
use Rattle.xet_parts.specs.Admissions.{GaveLimits, admits}
use Rattle.xet_ties.specs.History.{limit_in, limits_of}
use Rattle.xet_ties.specs.Saids.{some_of}
use Rattle.xet_ties.specs.Ties.{FirstStarts}
use Rattle.xet_leader.specs.declared.ahead.NextTerm.{NextTerm}
use Rattle.xet_leader.specs.Led.{Led}
use Rattle.xet_leader.specs.LedTerms.{IsNextTerm, NoneHas, PlanTerm, ahead, of_plan, size_in, task_of}
use Rattle.xet_stream_rules.specs.Streams.{Carries, IsOpen, Stands, StreamView, delivered, fetches_in, is_wrote, next_term, nobody}
use Rattle.xet_stream_rules.specs.Unordered.{IsIn, UnorderedView, offset_of}
use Rattle.xet_stream_rules.proofs.CallerLemmas.{count_by-append, none_next, none_some, some-append, some_next}
use Rattle.xet_stream_terms.specs.Handing.{IsOpenNext}
use Rattle.xet_stream_terms.proofs.CallerLemmas.{empties_are}
use Rattle.xet_streams.specs.AnyOrder.{AdmitsAhead, GivenCall, IsLedNext, IsUnkept, RecordsGiven, StandsOn}
use Rattle.xet_unordered_streams.specs.declared.early_terms.EarlyTerms.{EarlyTerms}
use Rattle.xet_unordered_streams.specs.Items.{GoesAhead, IsCaught, is_ahead}
use Rattle.xet_unordered_streams.specs.Placing.{AreGiven, IsPlacing, is_early}
use Rattle.xet_unordered_streams.specs.steps.Pulling.{EarlyIn, EarlyNext, EarlyOf, OneCall, NoEarly, NotEarly, RecordedSo, RecordsOne, number_of}
use Rattle.xet_unordered_streams.proofs.Dues.{next_opens, task_at}
use Rattle.xet_unordered_streams.proofs.Given.{caught_more, early_next, given_more, given_recorded, next_early}

-- ---- the next term, in a stream that keeps its places

module _ (v : StreamView) (ds : List ℕ) (e : EarlyTerms) (h : IsPlacing v ds e) (still : IsOpen v) where
  carries_now : (l : Led) → v.led ≡ Some l → Carries nobody v.setup v.events l
  carries_now l is = subst (λ (o : Option Led). IfSome o (Carries nobody v.setup v.events)) is (h.stands.led still)

  -- it has this number among the planned ones
  numbered : (l : Led) → (is : v.led ≡ Some l) → (n : NextTerm) → (x : IsNextTerm l n)
      → slice_get (planned v.events) (number_of l n) ≡ Some (task_of (of_plan x.plan n.term))
  numbered l is n x =
      let c = carries_now l is in
      let at = task_at nobody v.setup v.events l c x.count (of_plan x.plan n.term) x.first.there in
      let within = slice_get_within (planned v.events) (l.finished + x.count) (task_of (of_plan x.plan n.term)) at in
      let p = c.led.counted.planned_are in
      let f = c.led.counted.planned_fits in
      let same = empties_are v.setup v.events l c n x in
      let number : number_of l n ≡ l.finished + x.count = omega (arith, within, p, f, same) in
      ap (λ (k : ℕ). slice_get (planned v.events) k) number ∙ at

  -- one that was given
  module _ (next : NextTerm) (f : EarlyOf v (is_early e) next) where
    c : Carries nobody v.setup v.events f.led
    c = carries_now f.led f.is_led

    abbrev t : PlanTerm
    t = of_plan f.early_for.next_is.plan next.term

    is_next : next_term v.events ≡ Some (task_of t)
    is_next = some_next nobody v.setup v.events f.led c f.early_for.next_is.count t f.early_for.next_is.first

    planned_at : slice_get (planned v.events) (number_of f.led next) ≡ Some (task_of t)
    planned_at = numbered f.led f.is_led next f.early_for.next_is

    pub opens_next : IsLedNext v next
    opens_next =
        let two = early_next v.setup.range v.events (is_early e) ds h.given h.allowed h.stands.starts
        (number_of f.led next) (task_of t) planned_at is_next f.early_for.there in
        let within = next_opens nobody v.setup v.events f.led c f.early_for.next_is.count t f.early_for.next_is.first.there
        (none_some (take f.early_for.next_is.count (ahead f.led)) f.early_for.next_is.first.before) two.1 in
        let same = empties_are v.setup v.events f.led c next f.early_for.next_is in
        subst (λ (o : Option Led). IfSome o (λ l. IsOpenNext l next)) (sym f.is_led)
        (record { next = f.early_for.next_is; open_now = omega (arith, within, same) })

    -- its block is kept
    pub kept_next : IsUnkept v.events v.led next → ⊥
    kept_next absent =
        let two = early_next v.setup.range v.events (is_early e) ds h.given h.allowed h.stands.starts
        (number_of f.led next) (task_of t) planned_at is_next f.early_for.there in
        let z : true ≡ false = sym two.0 ∙ absent f.led f.is_led f.early_for.next_is in
        cc

    -- it was recorded
    module _ (n : StreamView) (r : RecordsGiven v n next) where
      pub recorded_events : n.events ≡ v.events ++ Wrote (size_in (of_plan r.term.plan next.term)) ∷ []
      recorded_events = ap (λ (z : StreamView). z.events) r.is

      recorded_setup : n.setup ≡ v.setup
      recorded_setup = ap (λ (z : StreamView). z.setup) r.is

      pub recorded_placing : IsAllowedHistory n.events → StandsOn v n → IsPlacing n ds e
      recorded_placing allowed stands =
          let taken = size_in (of_plan r.term.plan next.term) in
          let g = given_recorded v.setup.range v.events (is_early e) ds h.given (task_of t) is_next taken
          (number_of f.led next) planned_at f.early_for.there in
          record {
            allowed = allowed;
            stands = stands None None h.stands;
            given = subst (λ (es : List Event). AreGiven n.setup.range es (is_early e) ds) (sym recorded_events)
                (subst (λ (r : FileRange).
                AreGiven r (v.events ++ Wrote taken ∷ []) (is_early e) ds)
                (sym (ap (λ (s : _). s.range) recorded_setup)) g);
          }

      pub records_one : StandsOn v n → (ended : Bool) → RecordsOne (record { stream = v; delivered = ds; ended = ended })
          (record { stream = n; delivered = ds; ended = ended })
      records_one stands ended = record {
        taken = size_in (of_plan r.term.plan next.term);
        events = recorded_events;
        waited = slice_get_within (some_of v.events) (delivered v.events) (task_of t) is_next;
        fetches = ap (λ (z : StreamView). fetches_in z.led) r.is ∙ sym (ap fetches_in r.is_led);
        rest = ap (λ (z : StreamView). record { stream = z; delivered = ds; ended = ended })
            (r.is ∙ sym (ap (λ (z : StreamView). record v { events = z.events; led = z.led }) r.is));
        stands = stands;
      }

    pub one_call : (n : StreamView) (answer : Result Bool FileReconstructionError) → GivenCall v n next answer
        → StandsOn v n → (ended : Bool) → OneCall (record { stream = v; delivered = ds; ended = ended })
        (record { stream = n; delivered = ds; ended = ended }) answer
    one_call n (Ok true) r stands ended = records_one n r stands ended
    one_call n (Ok false) r stands ended = absurd (kept_next r.1)
    one_call n (Err x) said stands ended = record { fails = record { told = said; rest = refl }; stands = stands }

  -- it wasn't
  pub unearly_caught : (ended : Bool) → NoEarly v (is_early e) → (v.led ≡ None → v.events ≡ [])
      → IsCaught (record { stream = v; delivered = ds; ended = ended })
  unearly_caught ended none begun t next i = by v.led refl
    where
      by : (o : Option Led) → v.led ≡ o → ⊥
      by None is =
          let z : next_term [] ≡ Some t = subst (λ (es : List Event). next_term es ≡ Some t) (begun is) next in
          cc
      by (Some l) is = ⊎_elim (unplanned l is) (one l is) (none l is)
        where
          unplanned : (l : Led) → v.led ≡ Some l → NoneHas (ahead l) → ⊥
          unplanned l is a =
              let z : None ≡ Some t = sym (none_next nobody v.setup v.events l (carries_now l is) a) ∙ next in
              cc

          one : (l : Led) → v.led ≡ Some l
              → ((n : NextTerm) × IsNextTerm l n × (is_early e (number_of l n) ≡ false)) → ⊥
          one l is x =
              let n = x.0 in
              let u = of_plan x.1.plan n.term in
              let there = some_next nobody v.setup v.events l (carries_now l is) x.1.count u x.1.first in
              let same : task_of u ≡ t = (let z = sym there ∙ next in cc) in
              next_early v.setup.range v.events (is_early e) ds h.given h.allowed h.stands.starts (number_of l n) t
              (numbered l is n x.1 ∙ ap (λ z. Some z) same) next i x.2

-- ---- more events without a piece

pub placing_more : (v n : StreamView) (ds : List ℕ) (e : EarlyTerms) (new : List Event) → IsPlacing v ds e
    → n.setup ≡ v.setup → n.events ≡ v.events ++ new → delivered new ≡ 0 → IsAllowedHistory n.events
    → Stands nobody n → IsPlacing n ds e
placing_more v n ds e new h setup events none allowed stands = record {
  allowed = allowed;
  stands = stands;
  given = subst (λ (es : List Event). AreGiven n.setup.range es (is_early e) ds) (sym events)
      (subst (λ (r : FileRange). AreGiven r (v.events ++ new) (is_early e) ds)
      (sym (ap (λ (s : _). s.range) setup))
      (given_more v.setup.range v.events new (is_early e) ds none h.given));
}

pub caught_on : (v n : StreamView) (ds : List ℕ) (e : EarlyTerms) (ended after : Bool) (new : List Event)
    → IsPlacing v ds e → n.setup ≡ v.setup → n.events ≡ v.events ++ new → delivered new ≡ 0
    → IsAllowedHistory n.events → Stands nobody n → IsCaught (record { stream = v; delivered = ds; ended = ended })
    → IsCaught (record { stream = n; delivered = ds; ended = after })
caught_on v n ds e ended after new h setup events none allowed stands caught t next i =
    let r : n.setup.range ≡ v.setup.range = ap (λ (s : _). s.range) setup in
    caught_more v.setup.range v.events new (is_early e) ds none h.given (subst IsAllowedHistory events allowed)
    (subst (λ (es : List Event). FirstStarts v.setup.range.start (planned es)) events
    (subst (λ (z : FileRange). FirstStarts z.start (planned n.events)) r stands.starts)) caught t
    (subst (λ (es : List Event). next_term es ≡ Some t) events next)
    (subst (λ (z : FileRange). IsIn (offset_of z t) ds) r i)

-- ---- recorded terms, one after another

pub recorded_none : (b : UnorderedView) → RecordedSo b b
recorded_none b = record {
  new = [];
  events = sym (append-nil b.stream.events);
  each = All-nil (λ e. is_wrote e ≡ true);
  fetches = refl;
  rest = refl;
  stands = λ store entries s. s;
}

pub recorded_more : (b m n : UnorderedView) → RecordedSo b m → RecordsOne m n → RecordedSo b n
recorded_more b m n r o = record {
  new = r.new ++ Wrote o.taken ∷ [];
  events = o.events ∙ ap (λ (es : List Event). es ++ Wrote o.taken ∷ []) r.events
      ∙ append_assoc b.stream.events r.new (Wrote o.taken ∷ []);
  each = All-append (λ e. is_wrote e ≡ true) r.new (Wrote o.taken ∷ []) r.each
      (All-cons (λ e. is_wrote e ≡ true) (Wrote o.taken) [] refl (All-nil (λ e. is_wrote e ≡ true)));
  fetches = o.fetches ∙ r.fetches;
  rest = o.rest ∙ ap (λ (z : UnorderedView). record z {
    stream = record z.stream { events = n.stream.events; led = n.stream.led };
  }) r.rest;
  stands = λ store entries s. o.stands store entries (r.stands store entries s);
}

-- fewer are left then
pub recorded_falls : (b n : UnorderedView) → RecordsOne b n
    → length (some_of n.stream.events) - delivered n.stream.events
    < length (some_of b.stream.events) - delivered b.stream.events
recorded_falls b n o =
    let w = o.waited in
    let some = ap some_of o.events ∙ some-append b.stream.events (Wrote o.taken ∷ []) ∙ append-nil (some_of b.stream.events) in
    let long = ap length some in
    let d = ap delivered o.events ∙ count_by-append is_wrote b.stream.events (Wrote o.taken ∷ []) in
    let one : count_by is_wrote (Wrote o.taken ∷ []) ≡ 1 = refl in
    omega (arith, w, long, d, one)

pub recorded_open : (b n : UnorderedView) → RecordsOne b n → IsOpen b.stream → IsOpen n.stream
recorded_open b n o h =
    subst IsOpen (sym (ap (λ (z : UnorderedView). z.stream) o.rest))
    (record { untold = h.untold; uncancelled = h.uncancelled })

-- ---- and then admitted ones

wrote_ahead : (e : Event) → is_wrote e ≡ true → is_ahead e ≡ true
wrote_ahead (Wrote n) h = refl
wrote_ahead (Planned p q ts bs) h = absurd (cc)
wrote_ahead (Admit n) h = refl
wrote_ahead (Fetched l p b) h = absurd (cc)
wrote_ahead (Cached p b) h = absurd (cc)
wrote_ahead (Expired l p b) h = absurd (cc)
wrote_ahead (Refreshed p) h = absurd (cc)
wrote_ahead (Fail x) h = absurd (cc)
wrote_ahead Cancel h = absurd (cc)

wrote_limits : (es : List Event) → All (λ e. is_wrote e ≡ true) es → limits_of es ≡ []
wrote_limits [] a = refl
wrote_limits (e ∷ es) a =
    one e (All-head (λ x. is_wrote x ≡ true) e es a) (wrote_limits es (All-tail (λ x. is_wrote x ≡ true) e es a))
  where
    one : (x : Event) → is_wrote x ≡ true → limits_of es ≡ [] → limits_of (x ∷ es) ≡ []
    one (Wrote n) h r = r
    one (Planned p q ts bs) h r = absurd (cc)
    one (Admit n) h r = absurd (cc)
    one (Fetched l p b) h r = absurd (cc)
    one (Cached p b) h r = absurd (cc)
    one (Expired l p b) h r = absurd (cc)
    one (Refreshed p) h r = absurd (cc)
    one (Fail z) h r = absurd (cc)
    one Cancel h r = absurd (cc)

wrotes_ahead : (es : List Event) → All (λ e. is_wrote e ≡ true) es → All (λ e. is_ahead e ≡ true) es
wrotes_ahead [] a = All-nil (λ e. is_ahead e ≡ true)
wrotes_ahead (e ∷ es) a = All-cons (λ x. is_ahead x ≡ true) e es
    (wrote_ahead e (All-head (λ x. is_wrote x ≡ true) e es a))
    (wrotes_ahead es (All-tail (λ x. is_wrote x ≡ true) e es a))

admits_each : (ls : List ℕ) → All (λ e. is_ahead e ≡ true) (admits ls)
admits_each [] = All-nil (λ e. is_ahead e ≡ true)
admits_each (n ∷ ls) = All-cons (λ e. is_ahead e ≡ true) (Admit n) (admits ls) refl (admits_each ls)

admits_limits : (ls : List ℕ) → limits_of (admits ls) ≡ ls
admits_limits [] = refl
admits_limits (n ∷ ls) = ap (λ (xs : List ℕ). n ∷ xs) (admits_limits ls)

pub admits_no_piece : (ls : List ℕ) → delivered (admits ls) ≡ 0
admits_no_piece [] = refl
admits_no_piece (n ∷ ls) =
    let c = count_by-append is_wrote (Admit n ∷ []) (admits ls) in
    let one : count_by is_wrote (Admit n ∷ []) ≡ 0 = refl in
    let r = admits_no_piece ls in
    omega (arith, c, one, r)

-- nothing is done first
pub ahead_none : (v : StreamView) → GoesAhead v v
ahead_none v = record {
  new = [];
  added = sym (append-nil v.events);
  each = All-nil (λ e. is_ahead e ≡ true);
  unused = [];
  few = omega arith;
  given = refl;
  fetches = refl;
  rest = refl;
}

-- terms are recorded, and no limit is asked for
pub recorded_ahead : (b m : UnorderedView) → RecordedSo b m → GoesAhead b.stream m.stream
recorded_ahead b m r =
    let same : m.stream ≡ record b.stream { events = m.stream.events; led = m.stream.led } =
    ap (λ (z : UnorderedView). z.stream) r.rest in
    record {
      new = r.new;
      added = r.events;
      each = wrotes_ahead r.new r.each;
      unused = [];
      few = omega arith;
      given = subst (λ (us : List ℕ). GaveLimits b.stream.limits m.stream.limits us)
          (sym (append-nil (limits_of r.new) ∙ wrote_limits r.new r.each))
          (ap (λ (z : StreamView). z.limits) same);
      fetches = r.fetches;
      rest = same ∙ ap (λ (x : LimitTold). record b.stream { events = m.stream.events; led = m.stream.led; limits = x })
          (sym (ap (λ (z : StreamView). z.limits) same));
    }

pub both_ahead : (b m : UnorderedView) (n : StreamView) → RecordedSo b m → AdmitsAhead m.stream n
    → GoesAhead b.stream n
both_ahead b m n r a =
    let same : m.stream ≡ record b.stream { events = m.stream.events; led = m.stream.led } =
    ap (λ (z : UnorderedView). z.stream) r.rest in
    let limits : limits_of (r.new ++ admits a.limits) ≡ a.limits =
    flat_map-append limit_in r.new (admits a.limits)
    ∙ ap (λ (l : List ℕ). l ++ limits_of (admits a.limits)) (wrote_limits r.new r.each) ∙ admits_limits a.limits in
    record {
      new = r.new ++ admits a.limits;
      added = a.added ∙ ap (λ (es : List Event). es ++ admits a.limits) r.events
          ∙ append_assoc b.stream.events r.new (admits a.limits);
      each = All-append (λ e. is_ahead e ≡ true) r.new (admits a.limits) (wrotes_ahead r.new r.each)
          (admits_each a.limits);
      unused = a.unused;
      few = a.few;
      given = subst (λ (x : LimitTold). GaveLimits x n.limits (limits_of (r.new ++ admits a.limits) ++ a.unused))
          (ap (λ (z : StreamView). z.limits) same)
          (subst (λ (l : List ℕ). GaveLimits m.stream.limits n.limits (l ++ a.unused)) (sym limits) a.given);
      fetches = a.fetches ∙ r.fetches;
      rest = a.rest ∙ ap (λ (z : StreamView). record z { events = n.events; led = n.led; limits = n.limits }) same;
    }

-- ---- by what the next term of a leader is

pub early_view : (v : StreamView) (early : ℕ → Bool) (l : Led) → v.led ≡ Some l → (o : Option NextTerm)
    → EarlyIn l early o → EarlyNext v early o
early_view v early l is None h = no_early
  where
    no_early : (m : Led) → v.led ≡ Some m → NotEarly m early
    no_early m same =
        let eq : l ≡ m = (let z : ◌≡◌ {A = Option Led} (Some l) (Some m) = sym is ∙ same in cc) in
        subst (λ (k : Led). NotEarly k early) eq h
early_view v early l is (Some next) h = record { led = l; is_led = is; early_for = h }

pub early_none : (v : StreamView) (early : ℕ → Bool) → v.led ≡ None → EarlyNext v early None
early_none v early none l is = absurd (let z = sym none ∙ is in cc)

-- by whether it is early, under a number that is its own
pub early_here : (l : Led) (early : ℕ → Bool) (next : NextTerm) → IsNextTerm l next → (number : ℕ)
    → number ≡ number_of l next → early number ≡ true → EarlyIn l early (Some next)
early_here l early next x number is there = record { next_is = x; there = ap early (sym is) ∙ there }

pub unearly_here : (l : Led) (early : ℕ → Bool) (next : NextTerm) → IsNextTerm l next → (number : ℕ)
    → number ≡ number_of l next → early number ≡ false → EarlyIn l early None
unearly_here l early next x number is there = inr (next, x, ap early (sym is) ∙ there)

-- the next one wasn't given
pub recorded_end : (b m n : UnorderedView) → RecordedSo b m → IsOpen m.stream → n ≡ m → IsCaught m
    → RecordedSo b n × IsOpen n.stream × IsCaught n
recorded_end b m n r o same c = (
  subst (RecordedSo b) (sym same) r,
  subst (λ (z : UnorderedView). IsOpen z.stream) (sym same) o,
  subst IsCaught (sym same) c,
)
