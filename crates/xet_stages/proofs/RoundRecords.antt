-- The events of all lanes, recorded lane by lane.
use Rattle.std.proofs.Common.{◌≡◌, ℕ, suc, ◌+◌, ◌<◌, ◌≤◌, min, List, [], ◌∷◌, ◌++◌, length, take, drop, get_or, refl, sym, subst, ◌∙◌, ap, arith, append_assoc, Ok, Err}
use Rattle.std.specs.Prelude.{Result}
use Rattle.std.proofs.lemmas.List.{append-nil, at_drop_all, at_drop_more, take-append-le, take_min}
use Rattle.xet_error.specs.declared.error.FileReconstructionError.{FileReconstructionError}
use Rattle.xet_events.specs.declared.event.Event.{Event}
use Rattle.xet_events.specs.Allowed.{AllowedAfter}
use Rattle.xet_ties.specs.declared.lane_step.LaneStep.{LaneStep}
use Rattle.xet_ties.specs.Recordings.{Recorded, lane_events, wrote_of}
use Rattle.xet_ties.proofs.CallerLemmas.{allowed_first, allowed_rest}
use Rattle.xet_lane.specs.declared.joined.LaneEnd.{LaneEnd}
use Rattle.xet_stages.specs.RoundRecords.{RoundMayBe, lanes_events, lanes_of, window_events}

-- ---- one list of events after another

-- the first events of a longer list
front : (xs ys : List Event) (k : ℕ) → (j : ℕ) × (take k xs ≡ take j (xs ++ ys))
front xs ys k = (min k (length xs), sym (take-append-le (min k (length xs)) xs ys (omega arith) ∙ take_min k xs))

-- and all of them and some more
behind : (xs ys : List Event) (k : ℕ) → (j : ℕ) × (xs ++ take k ys ≡ take j (xs ++ ys))
behind [] ys k = (k, refl)
behind (x ∷ xs) ys k = let r = behind xs ys k in (suc r.0, ap (λ (l : List Event). x ∷ l) r.1)

pub recorded_front : (es new xs ys : List Event) (e : FileReconstructionError)
    → Recorded {A = Unit {0}} es new xs (Err e) → Recorded {A = Unit {0}} es new (xs ++ ys) (Err e)
recorded_front es new xs ys e r =
    let f = front xs ys r.some.0 in
    record { all = tt; some = (f.0, r.some.1 ∙ ap (λ (l : List Event). es ++ l) f.1); memory = r.memory }

pub recorded_then : (es mid new xs ys : List Event) (answer : Result (Unit {0}) FileReconstructionError)
    → Recorded {A = Unit {0}} es mid xs (Ok tt) → Recorded mid new ys answer → Recorded es new (xs ++ ys) answer
recorded_then es mid new xs ys (Ok tt) a c = record {
  all = c.all ∙ ap (λ (l : List Event). l ++ ys) a.all ∙ append_assoc es xs ys;
  some = tt;
  memory = tt;
}
recorded_then es mid new xs ys (Err e) a c =
    let f = behind xs ys c.some.0 in
    record {
      all = tt;
      some = (
        f.0,
        c.some.1 ∙ ap (λ (l : List Event). l ++ take c.some.0 ys) a.all
            ∙ append_assoc es xs (take c.some.0 ys) ∙ ap (λ (l : List Event). es ++ l) f.1,
      );
      memory = c.memory;
    }

pub recorded_none : (es new xs : List Event) → Recorded {A = Unit {0}} es new xs (Ok tt)
    → Recorded {A = Unit {0}} es new (xs ++ []) (Ok tt)
recorded_none es new xs r = record {
  all = r.all ∙ ap (λ (l : List Event). es ++ l) (sym (append-nil xs));
  some = tt;
  memory = tt;
}

-- ---- lane by lane

-- the events of so many lanes are recorded, and those of the others may be
pub record LanesLeft (on : ℕ → List LaneStep → List Event) (ends : List LaneEnd) (i lane : ℕ) (es now : List Event)
    : Type 0 where
  pub lane_is : lane ≡ i
  pub done : List Event
  pub now_is : now ≡ es ++ done
  pub all_are : done ++ lane_events on i (lanes_of (drop i ends)) ≡ lane_events on 0 (lanes_of ends)
  pub left : AllowedAfter now (lane_events on i (lanes_of (drop i ends)))

pub lanes_none : (on : ℕ → List LaneStep → List Event) (ends : List LaneEnd) (es : List Event)
    → AllowedAfter es (lane_events on 0 (lanes_of ends)) → LanesLeft on ends 0 0 es es
lanes_none on ends es a = record { lane_is = refl; done = []; now_is = sym (append-nil es); all_are = refl; left = a }

next_is : (on : ℕ → List LaneStep → List Event) (ends : List LaneEnd) (i : ℕ) (end : LaneEnd) → i < length ends
    → end ≡ get_or ends i end
    → lane_events on i (lanes_of (drop i ends)) ≡ on i end.steps.items ++ lane_events on (i + 1)
    (lanes_of (drop (i + 1) ends))
next_is on ends i end h is =
    let a : lane_events on i (lanes_of (drop i ends)) ≡ on i (get_or ends i end).steps.items ++ lane_events on (i + 1)
    (lanes_of (drop (i + 1) ends)) = at_drop_more
    (λ (l : List LaneEnd). lane_events on i (lanes_of l)) ends i end h in
    a ∙ ap (λ (e : LaneEnd). on i e.steps.items ++ lane_events on (i + 1) (lanes_of (drop (i + 1) ends))) (sym is)

-- the next lane's may be recorded
pub lanes_next : (on : ℕ → List LaneStep → List Event) (ends : List LaneEnd) (i lane : ℕ) (end : LaneEnd)
    (ss : List LaneStep) (es now : List Event) → i < length ends → end ≡ get_or ends i end → ss ≡ end.steps.items
    → LanesLeft on ends i lane es now → AllowedAfter now (on lane ss)
lanes_next on ends i lane end ss es now h is steps l =
    let events = next_is on ends i end h is in
    let one = allowed_first now (on i end.steps.items) (lane_events on (i + 1) (lanes_of (drop (i + 1) ends)))
    (subst (λ (x : List Event). AllowedAfter now x) events l.left) in
    subst (λ (n : ℕ). AllowedAfter now (on n ss)) (sym l.lane_is)
    (subst (λ (xs : List LaneStep). AllowedAfter now (on i xs)) (sym steps) one)

pub lanes_more : (on : ℕ → List LaneStep → List Event) (ends : List LaneEnd) (i lane : ℕ) (end : LaneEnd)
    (ss : List LaneStep) (es now next : List Event) → i < length ends → end ≡ get_or ends i end → ss ≡ end.steps.items
    → Recorded {A = Unit {0}} now next (on lane ss) (Ok tt) → LanesLeft on ends i lane es now
    → LanesLeft on ends (i + 1) (lane + 1) es next
lanes_more on ends i lane end ss es now next h is steps r l =
    let rest = lane_events on (i + 1) (lanes_of (drop (i + 1) ends)) in
    let one = on i end.steps.items in
    let events = next_is on ends i end h is in
    let added : next ≡ now ++ one = r.all ∙ ap (λ (n : ℕ). now ++ on n ss) l.lane_is
    ∙ ap (λ (xs : List LaneStep). now ++ on i xs) steps in
    record {
      lane_is = ap (λ (n : ℕ). n + 1) l.lane_is;
      done = l.done ++ one;
      now_is = added ∙ ap (λ (x : List Event). x ++ one) l.now_is ∙ append_assoc es l.done one;
      all_are = append_assoc l.done one rest ∙ ap (λ (x : List Event). l.done ++ x) (sym events) ∙ l.all_are;
      left = subst (λ (x : List Event). AllowedAfter x rest) (sym added)
          (allowed_rest now one rest (subst (λ (x : List Event). AllowedAfter now x) events l.left));
    }

pub lanes_all : (on : ℕ → List LaneStep → List Event) (ends : List LaneEnd) (i lane : ℕ) (es now : List Event)
    → length ends ≤ i → LanesLeft on ends i lane es now
    → Recorded {A = Unit {0}} es now (lane_events on 0 (lanes_of ends)) (Ok tt)
lanes_all on ends i lane es now h l =
    let none : lane_events on i (lanes_of (drop i ends)) ≡ [] =
    at_drop_all (λ (x : List LaneEnd). lane_events on i (lanes_of x)) ends i h in
    let same : l.done ≡ lane_events on 0 (lanes_of ends) =
    sym (append-nil l.done) ∙ ap (λ (x : List Event). l.done ++ x) (sym none) ∙ l.all_are in
    record { all = l.now_is ∙ ap (λ (x : List Event). es ++ x) same; some = tt; memory = tt }

pub lanes_short : (on : ℕ → List LaneStep → List Event) (ends : List LaneEnd) (i lane : ℕ) (end : LaneEnd)
    (ss : List LaneStep) (es now next : List Event) (e : FileReconstructionError) → i < length ends
    → end ≡ get_or ends i end → ss ≡ end.steps.items → Recorded {A = Unit {0}} now next (on lane ss) (Err e)
    → LanesLeft on ends i lane es now → Recorded {A = Unit {0}} es next (lane_events on 0 (lanes_of ends)) (Err e)
lanes_short on ends i lane end ss es now next e h is steps r l =
    let rest = lane_events on (i + 1) (lanes_of (drop (i + 1) ends)) in
    let one = on i end.steps.items in
    let events = next_is on ends i end h is in
    let k = r.some.0 in
    let added : next ≡ now ++ take k one = r.some.1 ∙ ap (λ (n : ℕ). now ++ take k (on n ss)) l.lane_is
    ∙ ap (λ (xs : List LaneStep). now ++ take k (on i xs)) steps in
    let f = front one rest k in
    let b = behind l.done (one ++ rest) f.0 in
    let whole : l.done ++ (one ++ rest) ≡ lane_events on 0 (lanes_of ends) =
    ap (λ (x : List Event). l.done ++ x) (sym events) ∙ l.all_are in
    record {
      all = tt;
      some = (
        b.0,
        added ∙ ap (λ (x : List Event). x ++ take k one) l.now_is ∙ append_assoc es l.done (take k one)
            ∙ ap (λ (x : List Event). es ++ (l.done ++ x)) f.1 ∙ ap (λ (x : List Event). es ++ x) b.1
            ∙ ap (λ (x : List Event). es ++ take b.0 x) whole,
      );
      memory = r.memory;
    }

-- ---- a whole join

-- memory was wanting for an event of the lanes
pub round_short : (es new : List Event) (xs ends : List LaneEnd) (ys : List Event) (e : FileReconstructionError)
    → xs ≡ ends → Recorded {A = Unit {0}} es new (lanes_events (lanes_of xs)) (Err e)
    → Recorded {A = Unit {0}} es new (lanes_events (lanes_of ends) ++ ys) (Err e)
round_short es new xs ends ys e same r =
    recorded_front es new (lanes_events (lanes_of ends)) ys e
    (subst (λ (zs : List LaneEnd). Recorded {A = Unit {0}} es new (lanes_events (lanes_of zs)) (Err e)) same r)

-- they are recorded, and then those of the window, which was written
pub round_then : (es mid new : List Event) (xs ends : List LaneEnd) (wrote : Result ℕ FileReconstructionError) (n : ℕ)
    (ns : List ℕ) (answer : Result (Unit {0}) FileReconstructionError) → xs ≡ ends → wrote ≡ Ok n
    → Recorded {A = Unit {0}} es mid (lanes_events (lanes_of xs)) (Ok tt)
    → Recorded mid new (wrote_of ns) answer → Recorded es new
    (lanes_events (lanes_of ends) ++ window_events wrote ns) answer
round_then es mid new xs ends wrote n ns answer same whole r w =
    subst (λ (o : Result ℕ FileReconstructionError). Recorded es new
    (lanes_events (lanes_of ends) ++ window_events o ns) answer) (sym whole)
    (recorded_then es mid new (lanes_events (lanes_of ends)) (wrote_of ns) answer
    (subst (λ (zs : List LaneEnd). Recorded {A = Unit {0}} es mid (lanes_events (lanes_of zs)) (Ok tt)) same r) w)

-- they are recorded, and the window wasn't written
pub round_unwritten : (es new : List Event) (xs ends : List LaneEnd) (wrote : Result ℕ FileReconstructionError)
    (e : FileReconstructionError) (ns : List ℕ) → xs ≡ ends → wrote ≡ Err e
    → Recorded {A = Unit {0}} es new (lanes_events (lanes_of xs)) (Ok tt)
    → Recorded {A = Unit {0}} es new (lanes_events (lanes_of ends) ++ window_events wrote ns) (Ok tt)
round_unwritten es new xs ends wrote e ns same not r =
    subst (λ (o : Result ℕ FileReconstructionError). Recorded {A = Unit {0}} es new
    (lanes_events (lanes_of ends) ++ window_events o ns) (Ok tt)) (sym not)
    (recorded_none es new (lanes_events (lanes_of ends))
    (subst (λ (zs : List LaneEnd). Recorded {A = Unit {0}} es new (lanes_events (lanes_of zs)) (Ok tt)) same r))

-- the events of a window that was written may be recorded then
pub window_allowed : (es mid : List Event) (xs ends : List LaneEnd) (wrote : Result ℕ FileReconstructionError) (n : ℕ)
    (ns : List ℕ) → xs ≡ ends → wrote ≡ Ok n → Recorded {A = Unit {0}} es mid (lanes_events (lanes_of xs)) (Ok tt)
    → RoundMayBe es (lanes_of ends) (window_events wrote ns) → AllowedAfter mid (wrote_of ns)
window_allowed es mid xs ends wrote n ns same whole r may =
    let now : mid ≡ es ++ lanes_events (lanes_of ends) =
    r.all ∙ ap (λ (zs : List LaneEnd). es ++ lanes_events (lanes_of zs)) same in
    subst (λ (ys : List Event). AllowedAfter ys (wrote_of ns)) (sym now)
    (subst (λ (o : Result ℕ FileReconstructionError). AllowedAfter (es ++ lanes_events (lanes_of ends))
    (window_events o ns)) whole may.window_may)
