-- A pull in order, and a block that is provided, of a stream that keeps its places.
use Rattle.std.proofs.Common.{◌≡◌, ℕ, ◌-◌, Bool, true, false, List, [], ◌∷◌, ◌++◌, length, refl, sym, subst, ◌∙◌, ap, arith, Option, Some, None, Ok, Err}
use Rattle.std.specs.Prelude.{IfSome, MatchOption, Result}
use Rattle.std.proofs.lemmas.List.{append-nil}
use Rattle.std.proofs.lemmas.Option.{slice_get_within}
use Rattle.xet_base.specs.declared.cas_types.FileRange.{FileRange}
use Rattle.xet_outside.specs.Told.{CacheTold, ClientTold}
use Rattle.xet_error.specs.declared.error.FileReconstructionError.{FileReconstructionError}
use Rattle.xet_events.specs.declared.event.Event.{Event}
use Rattle.xet_events.specs.declared.event.Event.TheVariants.{Wrote}
use Rattle.xet_events.specs.Allowed.{AllowedAfter, IsAllowedHistory, IsMissing}
use Rattle.xet_events.specs.Events.{Task, is_kept, planned}
use Rattle.xet_events.proofs.CallerLemmas.{planned-push}
use Rattle.xet_ties.specs.Saids.{some_of}
use Rattle.xet_ties.specs.Ties.{FirstStarts}
use Rattle.xet_leader.specs.Led.{Led}
use Rattle.xet_leader.specs.declared.ahead.NextTerm.{NextTerm}
use Rattle.xet_leader.specs.LedTerms.{task_of}
use Rattle.xet_leader.specs.declared.missing_blocks.BlockAt.{BlockAt}
use Rattle.xet_stream_rules.specs.declared.step.Step.{Step}
use Rattle.xet_stream_rules.specs.declared.step.Step.TheVariants.{Pending, Ready}
use Rattle.xet_stream_rules.specs.Pulls.{Answer, IsTold, PullCall, StepFails}
use Rattle.xet_stream_rules.specs.Streams.{Carries, IsOpen, MayGoOn, Stands, StandsStill, StreamView, delivered, is_wrote, next_term, nobody}
use Rattle.xet_stream_rules.specs.Unordered.{IsIn, UnorderedView, offset_of}
use Rattle.xet_stream_rules.proofs.CallerLemmas.{count_by-append, get_none, tells_nobody}
use Rattle.xet_stream_terms.proofs.CallerLemmas.{term_missing}
use Rattle.xet_parts.specs.Admissions.{admits}
use Rattle.xet_error.specs.declared.error.FileReconstructionError.TheVariants as error
use Rattle.xet_streams.specs.AnyOrder.{AdmitsAhead, AdmitsAheadCall, GivenCall, MaySteps, ProvidesBlock, StandsOn}
use Rattle.xet_streams.specs.Places.{Placed}
use Rattle.xet_unordered_streams.specs.declared.early_terms.EarlyTerms.{EarlyTerms}
use Rattle.xet_unordered_streams.specs.Items.{GivesNext, IsCaught}
use Rattle.xet_unordered_streams.specs.Placing.{AreGiven, IsPlacing, is_early}
use Rattle.xet_unordered_streams.specs.steps.Dues.{IsAwaited}
use Rattle.xet_unordered_streams.specs.steps.Pulling.{AwaitedView, EarlyOf, IsAwaitedIn, IsDone}
use Rattle.xet_unordered_streams.proofs.Dues.{stands_at}
use Rattle.xet_unordered_streams.proofs.Given.{caught_more, given_more, given_next, some_more}
use Rattle.xet_unordered_streams.proofs.Going.{admits_no_piece, caught_on, kept_next, placing_more, recorded_placing}
use Rattle.xet_unordered_streams.proofs.Grown.{Grew, front_same, grew, grew_failed, grew_told, pulled_stands, seen_open, seen_stands, stepped_pending, stepped_piece}

allowed_front : (before xs ys : List Event) → AllowedAfter before (xs ++ ys) → AllowedAfter before xs
allowed_front before [] ys a = tt
allowed_front before (x ∷ xs) ys a = (a.0, allowed_front (before ++ x ∷ []) xs ys a.1)

-- ---- a pull in order

module _ (v n : StreamView) (ds : List ℕ) (e : EarlyTerms) (ended : Bool) (h : IsPlacing v ds e)
    (caught : IsOpen v → IsCaught (record { stream = v; delivered = ds; ended = ended })) (cs xs : List ClientTold)
    (k l : CacheTold) where
  abbrev b : UnorderedView
  b = record { stream = v; delivered = ds; ended = ended }

  stands_now : (answer : Answer) → PullCall v n cs xs k l answer → Stands nobody n
  stands_now answer c = c.stands None None (tells_nobody cs k) h.stands

  -- without a piece
  pub ordered_pending : PullCall v n cs xs k l (Ok Pending) → IsPlacing n ds e
  ordered_pending c =
      let g = grew v n cs xs k l (Ok Pending) c in
      placing_more v n ds e g.new h g.setup g.events g.none c.allowed (stands_now (Ok Pending) c)

  pub ordered_none : PullCall v n cs xs k l (Ok (Ready None)) → IsPlacing n ds e
  ordered_none c =
      let g = grew v n cs xs k l (Ok (Ready None)) c in
      placing_more v n ds e g.new h g.setup g.events g.none c.allowed (stands_now (Ok (Ready None)) c)

  pub ordered_error : (x : FileReconstructionError) → PullCall v n cs xs k l (Err x) → IsPlacing n ds e
  ordered_error x c =
      let g = grew v n cs xs k l (Err x) c in
      placing_more v n ds e g.new h g.setup g.events g.none c.allowed (stands_now (Err x) c)

  -- one that isn't there yet leaves a stream that may go on
  pub pending_goes_on : PullCall v n cs xs k l (Ok Pending) → MayGoOn n
  pending_goes_on c =
      let o = stepped_pending v n cs xs k l c in
      let hands = o.done.hands in
      subst MayGoOn (sym hands.2) hands.0

  pub pending_caught : PullCall v n cs xs k l (Ok Pending)
      → IsCaught (record { stream = n; delivered = ds; ended = ended })
  pending_caught c =
      let o = stepped_pending v n cs xs k l c in
      let g = grew v n cs xs k l (Ok Pending) c in
      caught_on v n ds e ended ended g.new h g.setup g.events g.none c.allowed (stands_now (Ok Pending) c)
      (caught (seen_open v o.seen o.later o.still))

  -- with a piece
  module _ (piece : List ℕ) (c : PullCall v n cs xs k l (Ok (Ready (Some piece)))) (start : ℕ)
      (p : Placed n.events start piece) (place : ℕ) (at : place ≡ start - v.setup.range.start) where
    g : Grew v n (Ok (Ready (Some piece)))
    g = grew v n cs xs k l (Ok (Ready (Some piece))) c

    before_is : p.before ≡ v.events ++ g.new
    before_is = front_same p.before (v.events ++ g.new) (Wrote (length piece)) (Wrote (length piece))
        (sym p.last ∙ g.events)

    setup_range : n.setup.range ≡ v.setup.range
    setup_range = ap (λ (s : _). s.range) g.setup

    allowed_before : IsAllowedHistory p.before
    allowed_before = allowed_front [] p.before (Wrote (length piece) ∷ []) (subst IsAllowedHistory p.last c.allowed)

    starts_before : FirstStarts v.setup.range.start (planned p.before)
    starts_before =
        let s = (stands_now (Ok (Ready (Some piece))) c).starts in
        let same : planned n.events ≡ planned p.before =
        ap planned p.last ∙ planned-push p.before (Wrote (length piece)) ∙ append-nil (planned p.before) in
        subst (λ (ts : List Task). FirstStarts v.setup.range.start ts) same
        (subst (λ (r : FileRange). FirstStarts r.start (planned n.events)) setup_range s)

    place_is : place ≡ offset_of v.setup.range p.term
    place_is = at ∙ ap (λ (s : ℕ). s - v.setup.range.start) p.at

    fresh : IsIn (offset_of v.setup.range p.term) ds → ⊥
    fresh =
        let o = stepped_piece v n cs xs k l piece c in
        caught_more v.setup.range v.events g.new (is_early e) ds g.none h.given
        (subst IsAllowedHistory before_is allowed_before)
        (subst (λ (es : List Event). FirstStarts v.setup.range.start (planned es)) before_is starts_before)
        (caught (seen_open v o.seen o.later o.still)) p.term
        (subst (λ (es : List Event). next_term es ≡ Some p.term) before_is p.next)

    pub ordered_piece : IsPlacing n (ds ++ place ∷ []) e
    ordered_piece =
        let given_before : AreGiven v.setup.range p.before (is_early e) ds =
        subst (λ (es : List Event). AreGiven v.setup.range es (is_early e) ds) (sym before_is)
        (given_more v.setup.range v.events g.new (is_early e) ds g.none h.given) in
        let now = given_next v.setup.range p.before (is_early e) ds given_before p.term p.next (length piece) fresh in
        record {
          allowed = c.allowed;
          stands = stands_now (Ok (Ready (Some piece))) c;
          given = subst (λ (q : ℕ). AreGiven n.setup.range n.events (is_early e) (ds ++ q ∷ [])) (sym place_is)
              (subst (λ (r : FileRange). AreGiven r n.events (is_early e) (ds ++ offset_of v.setup.range p.term ∷ []))
              (sym setup_range)
              (subst (λ (es : List Event). AreGiven v.setup.range es (is_early e)
              (ds ++ offset_of v.setup.range p.term ∷ [])) (sym p.last) now));
        }

    pub ordered_gives : (after : List ℕ) → after ≡ ds ++ place ∷ []
        → GivesNext b (record { stream = n; delivered = after; ended = ended }) n piece (place, piece)
    ordered_gives after is = record {
      before = p.before;
      last = p.last;
      term = p.term;
      next = p.next;
      bytes = refl;
      at = place_is;
      new = λ i. fresh (subst (λ (q : ℕ). IsIn q ds) place_is i);
      is = ap (λ (zs : List ℕ). record { stream = n; delivered = zs; ended = ended }) is;
    }

-- ---- a block

pub provided_placing : (v n : StreamView) (ds : List ℕ) (e : EarlyTerms) → IsPlacing v ds e → (cs xs : List ClientTold)
    (k l : CacheTold) → ProvidesBlock v n cs xs k l → IsAllowedHistory n.events → IsPlacing n ds e
provided_placing v n ds e h cs xs k l p allowed =
    placing_more v n ds e p.work.new h (ap (λ (z : StreamView). z.setup) p.work.rest) p.work.added p.work.few.pieces
    allowed (p.stands None None (tells_nobody cs k) h.stands)

pub provided_caught : (v n : StreamView) (ds : List ℕ) (e : EarlyTerms) (ended : Bool) → IsPlacing v ds e
    → (cs xs : List ClientTold) (k l : CacheTold) → ProvidesBlock v n cs xs k l → IsAllowedHistory n.events
    → IsCaught (record { stream = v; delivered = ds; ended = ended })
    → IsCaught (record { stream = n; delivered = ds; ended = ended })
provided_caught v n ds e ended h cs xs k l p allowed caught =
    caught_on v n ds e ended ended p.work.new h (ap (λ (z : StreamView). z.setup) p.work.rest) p.work.added
    p.work.few.pieces allowed (p.stands None None (tells_nobody cs k) h.stands) caught

provided_open : (v n : StreamView) (cs xs : List ClientTold) (k l : CacheTold) → ProvidesBlock v n cs xs k l
    → IsOpen v → IsOpen n
provided_open v n cs xs k l p o = subst IsOpen (sym p.work.rest)
    (record { untold = o.untold; uncancelled = o.uncancelled })

pub vain_placing : (v n : StreamView) (ds : List ℕ) (e : EarlyTerms) → IsPlacing v ds e → (cs xs : List ClientTold)
    (k l : CacheTold) (x : FileReconstructionError) → StepFails v n cs xs k l x → StandsStill cs k v n
    → IsAllowedHistory n.events → IsPlacing n ds e
vain_placing v n ds e h cs xs k l x f stands allowed =
    let g = grew_failed v v n cs xs k l x refl refl f in
    placing_more v n ds e g.new h g.setup g.events g.none allowed (stands None None (tells_nobody cs k) h.stands)

-- a block that is awaited is missing
pub awaited_missing : (v : StreamView) (ds : List ℕ) (e : EarlyTerms) (ended : Bool) (c : BlockAt) → IsPlacing v ds e
    → IsOpen v → IsAwaitedIn (record { stream = v; delivered = ds; ended = ended }) c
    → IsMissing v.events c.plan c.block
awaited_missing v ds e ended c h still a =
    let w = a.awaits in
    let carries : Carries nobody v.setup v.events a.led =
    subst (λ (o : Option Led). IfSome o (Carries nobody v.setup v.events)) a.is_led (h.stands.led still) in
    let absent = ap (λ (p : ℕ). is_kept v.events p w.term.term.xorb_block) (sym w.plan_is)
    ∙ ap (λ (q : ℕ). is_kept v.events c.plan q) (sym w.block_is) ∙ w.absent in
    subst (λ (p : ℕ). IsMissing v.events p c.block) (sym w.plan_is)
    (subst (λ (q : ℕ). IsMissing v.events w.term.plan.number q) (sym w.block_is)
    (term_missing v.setup v.events a.led carries w.skip w.term w.there w.some w.opens absent))

-- and after it is provided the stream may go on: the term that waited for it isn't recorded as written
pub provided_goes_on : (v n : StreamView) (ds : List ℕ) (e : EarlyTerms) (ended : Bool) (c : BlockAt) → IsPlacing v ds e
    → (cs xs : List ClientTold) (k l : CacheTold) → ProvidesBlock v n cs xs k l → IsOpen v
    → IsAwaitedIn (record { stream = v; delivered = ds; ended = ended }) c → MayGoOn n
provided_goes_on v n ds e ended c h cs xs k l p still a =
    let w = a.awaits in
    let new = p.work.new in
    let carries : Carries nobody v.setup v.events a.led =
    subst (λ (o : Option Led). IfSome o (Carries nobody v.setup v.events)) a.is_led (h.stands.led still) in
    let s = stands_at nobody v.setup v.events a.led carries w.skip w.term w.there w.some w.opens in
    let within = slice_get_within (some_of (v.events ++ new)) s.place (task_of w.term)
    (some_more v.events new s.place (task_of w.term) s.at) in
    let counted = count_by-append is_wrote v.events new in
    let pieces = p.work.few.pieces in
    let past = s.past in
    record {
      still = provided_open v n cs xs k l p still;
      before = λ at_end.
          let none = get_none (some_of (v.events ++ new)) (delivered (v.events ++ new))
          (subst (λ (es : List Event). next_term es ≡ None) p.work.added at_end.all) in
          omega (arith, within, counted, pieces, past, none);
    }

-- ---- the flag, and an error

pub asked_placing : (v n : StreamView) (ds : List ℕ) (e : EarlyTerms) (connections : ℕ) (answer : Bool)
    → IsPlacing v ds e → MaySteps v n connections answer → IsPlacing n ds e
asked_placing v n ds e connections true h m =
    subst (λ (z : StreamView). IsPlacing z ds e) (sym m.2.is) (record {
      allowed = h.allowed;
      stands = pulled_stands nobody (record v { seen = m.0 }) (seen_stands nobody v m.0 m.1 h.stands);
      given = h.given;
    })
asked_placing v n ds e connections false h m =
    subst (λ (z : StreamView). IsPlacing z ds e) (sym m.2) (record {
      allowed = h.allowed;
      stands = seen_stands nobody v m.0 m.1 h.stands;
      given = h.given;
    })

pub told_placing : (v n : StreamView) (ds : List ℕ) (e : EarlyTerms) (cause x : FileReconstructionError)
    → IsPlacing v ds e → IsTold v n cause x → StandsOn v n → IsAllowedHistory n.events → IsPlacing n ds e
told_placing v n ds e cause x h t stands allowed =
    let g = grew_told v v n [] cause x refl refl (sym (append-nil v.events)) t in
    placing_more v n ds e g.new h g.setup g.events g.none allowed (stands None None h.stands)

pub admitted_placing : (v n : StreamView) (ds : List ℕ) (e : EarlyTerms) → IsPlacing v ds e → AdmitsAhead v n
    → StandsOn v n → IsAllowedHistory n.events → IsPlacing n ds e
admitted_placing v n ds e h a stands allowed =
    placing_more v n ds e _ h (ap (λ (z : StreamView). z.setup) a.rest) a.added (admits_no_piece a.limits) allowed
    (stands None None h.stands)

pub admitted_caught : (v n : StreamView) (ds : List ℕ) (e : EarlyTerms) (ended : Bool) → IsPlacing v ds e
    → AdmitsAhead v n → StandsOn v n → IsAllowedHistory n.events
    → IsCaught (record { stream = v; delivered = ds; ended = ended })
    → IsCaught (record { stream = n; delivered = ds; ended = ended })
admitted_caught v n ds e ended h a stands allowed caught =
    caught_on v n ds e ended ended _ h (ap (λ (z : StreamView). z.setup) a.rest) a.added (admits_no_piece a.limits)
    allowed (stands None None h.stands) caught

-- ---- a block that is awaited

pub awaited_view : (v : StreamView) (l : Led) → v.led ≡ Some l → (o : Option BlockAt)
    → MatchOption o (Unit {0}) (IsAwaited l v.events) → AwaitedView v o
awaited_view v l is None h = tt
awaited_view v l is (Some c) h = (l, is, h)

-- ---- admissions, by what they answered

pub admit_placing : (v n : StreamView) (ds : List ℕ) (e : EarlyTerms)
    (answer : Result (Unit {0}) FileReconstructionError) → IsPlacing v ds e → AdmitsAheadCall v n answer
    → StandsOn v n → IsAllowedHistory n.events → IsPlacing n ds e
admit_placing v n ds e (Ok tt) h a stands allowed = admitted_placing v n ds e h a stands allowed
admit_placing v n ds e (Err x) h a stands allowed =
    let g = grew_told v a.0 n (admits a.1.limits) error.OutOfMemory x (ap (λ (z : StreamView). z.setup) a.1.rest)
    (admits_no_piece a.1.limits) a.1.added a.2 in
    placing_more v n ds e g.new h g.setup g.events g.none allowed (stands None None h.stands)

pub admit_caught : (v n : StreamView) (ds : List ℕ) (e : EarlyTerms) (ended : Bool)
    (answer : Result (Unit {0}) FileReconstructionError) → IsPlacing v ds e → AdmitsAheadCall v n answer
    → StandsOn v n → IsAllowedHistory n.events → IsDone answer
    → IsCaught (record { stream = v; delivered = ds; ended = ended })
    → IsCaught (record { stream = n; delivered = ds; ended = ended })
admit_caught v n ds e ended (Ok tt) h a stands allowed ok caught =
    admitted_caught v n ds e ended h a stands allowed caught
admit_caught v n ds e ended (Err x) h a stands allowed ok caught = absurd ok

pub awaited_in : (v : StreamView) (ds : List ℕ) (ended : Bool) (o : Option BlockAt) → AwaitedView v o
    → MatchOption o (Unit {0}) (IsAwaitedIn (record { stream = v; delivered = ds; ended = ended }))
awaited_in v ds ended None h = tt
awaited_in v ds ended (Some c) h = record { led = h.0; is_led = h.1; awaits = h.2 }

-- ---- answers that were taken apart

pub as_piece : (P : Answer → Type 0) (a : Step (Option (List ℕ))) (o : Option (List ℕ)) (piece : List ℕ) → a ≡ Ready o
    → o ≡ Some piece → P (Ok a) → P (Ok (Ready (Some piece)))
as_piece P a o piece e f h = subst (λ (x : Option (List ℕ)). P (Ok (Ready x))) f
    (subst (λ (x : Step (Option (List ℕ))). P (Ok x)) e h)

pub as_none : (P : Answer → Type 0) (a : Step (Option (List ℕ))) (o : Option (List ℕ)) → a ≡ Ready o → o ≡ None
    → P (Ok a) → P (Ok (Ready None))
as_none P a o e f h = subst (λ (x : Option (List ℕ)). P (Ok (Ready x))) f
    (subst (λ (x : Step (Option (List ℕ))). P (Ok x)) e h)

pub as_pending : (P : Answer → Type 0) (a : Step (Option (List ℕ))) → a ≡ Pending → P (Ok a) → P (Ok Pending)
as_pending P a e h = subst (λ (x : Step (Option (List ℕ))). P (Ok x)) e h

-- ---- a term that was given before is recorded

pub recorded_any : (v n : StreamView) (ds : List ℕ) (e : EarlyTerms) (h : IsPlacing v ds e) (still : IsOpen v)
    (next : NextTerm) (f : EarlyOf v (is_early e) next) (answer : Result Bool FileReconstructionError)
    → GivenCall v n next answer → IsAllowedHistory n.events → StandsOn v n → IsPlacing n ds e
recorded_any v n ds e h still next f (Ok true) r allowed stands =
    recorded_placing v ds e h still next f n r allowed stands
recorded_any v n ds e h still next f (Ok false) r allowed stands = absurd (kept_next v ds e h still next f r.1)
recorded_any v n ds e h still next f (Err x) t allowed stands =
    told_placing v n ds e error.OutOfMemory x h t stands allowed
