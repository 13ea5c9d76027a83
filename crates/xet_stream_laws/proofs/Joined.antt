-- The pieces of pulls, joined.
use Rattle.std.proofs.Common.{◌≡◌, ◌⊎◌, ℕ, ◌+◌, ◌-◌, ◌≤◌, ◌<◌, ◌||◌, Bool, true, false, List, [], ◌∷◌, ◌++◌, length, take, drop, Option, Some, None, Ok, Err, refl, sym, subst, ◌∙◌, ap, ⊎_elim, arith, append_assoc, length-append}
use Rattle.std.specs.Prelude.{All, IfSome, map, nat_lt, slice_get}
use Rattle.std.specs.List.{flat_map, slice_range, sum_by}
use Rattle.std.proofs.lemmas.Bool.{cases_lt, ltb-false, ltb-true}
use Rattle.std.proofs.lemmas.Grind.{flat_map-append}
use Rattle.std.proofs.lemmas.List.{append-nil, take_all, take-append-le, take-append-drop}
use Rattle.std.proofs.lemmas.Option.{get_or_from_slice_get, slice_get_within}
use Rattle.std.proofs.lemmas.List.Elements.{All-drop, All-nil}
use Rattle.std.proofs.lemmas.List.Sums.{sum_by-append, sum_by-cons}
use Rattle.xet_base.specs.declared.cas_types.FileRange.{FileRange}
use Rattle.xet_base.specs.Store.{Store, IsValid, bytes_of, window}
use Rattle.xet_outside.specs.Told.{CacheTold, ClientTold}
use Rattle.xet_error.specs.declared.error.FileReconstructionError.{FileReconstructionError}
use Rattle.xet_error.specs.declared.error.FileReconstructionError.TheVariants as error
use Rattle.xet_events.specs.declared.event.Event.{Event}
use Rattle.xet_events.specs.declared.event.Event.TheVariants.{Fail, Wrote}
use Rattle.xet_events.specs.Allowed.{IsAllowedHistory}
use Rattle.xet_events.specs.Limits.{LimitTold}
use Rattle.xet_events.specs.Events.{Task, last_of, planned, size, written}
use Rattle.xet_history.specs.Queries.{CutFrom}
use Rattle.xet_history.specs.Laws.{IsPrefix}
use Rattle.xet_history.specs.TrueHistory.{IsTrueEvent, IsTrueHistory, ReachesEnd, pieces, queries, task_piece}
use Rattle.xet_history.proofs.CallerLemmas.{pieces_are_prefix, pieces_cover, pieces_reach}
use Rattle.xet_ties.specs.Saids.{some_of}
use Rattle.xet_ties.specs.Setup.{CacheTells, IsOver, RunTold, Setup, download_of}
use Rattle.xet_leader.specs.Led.{Led}
use Rattle.xet_leader.specs.LedTerms.{PlanTerm, ahead, first_number, led_terms, task_of}
use Rattle.xet_leader.proofs.CallerLemmas.{IsLedTerm, honest_bytes, led_each}
use Rattle.xet_stream_rules.specs.declared.step.Step.{Step}
use Rattle.xet_stream_rules.specs.declared.step.Step.TheVariants.{Pending, Ready}
use Rattle.xet_stream_rules.specs.Streams.{Carries, IsAtEnd, IsOpen, Stands, StreamView, TellsAs, delivered, everybody, is_closed, is_wrote, new_stream, next_term}
use Rattle.xet_stream_rules.specs.Pulls.{Answer, Closed, Ended, Hands, HandsPiece, IsTold, PullWay, Refused, StepDone, StepFails, Stepped, pulled_once}
use Rattle.xet_stream_rules.specs.StreamLaws.{MayCancel, PiecesGoOn, PiecesJoin, PullOver, Pulls, joined, piece_of}
use Rattle.xet_stream_rules.proofs.CallerLemmas.{count_by-append, flat_one, get_none, no_writes, pieces_some, some-append, take_one, written-append}

-- ---- over a store

pub everybody_is : (s : Store) (t : Store) → IsOver t (everybody s).clients → s ≡ t
everybody_is s t o = let e : Some s ≡ Some t = o.tell.0 in cc

pub tells : (s : Store) (cs : List ClientTold) (k : CacheTold) → IsOver s cs → CacheTells s k → TellsAs (everybody s) cs k
tells s cs k over cache = record {
  clients = λ t o. subst (λ (z : Store). IsOver z cs) (everybody_is s t o) over;
  cache = λ t o c. subst (λ (z : Store). CacheTells z k) (everybody_is s t o) cache;
}

pub everybody_over : (s : Store) → IsValid s → IsOver s (everybody s).clients
everybody_over s valid = record { tell = (refl, tt); valid = valid }

everybody_tells : (s : Store) → CacheTells s (everybody s).cache
everybody_tells s = All-nil _

-- a stream of which nothing was pulled
pub new_stands : (b : RunTold) (g : Setup) (limits : LimitTold) → Stands b (new_stream g limits)
new_stands b g limits = record {
  true_of = λ s o. record { cuts = tt; plans = All-nil (IsTrueEvent s g.file g.multirange) };
  starts = tt;
  led = λ o. tt;
}

-- ---- the bytes that were handed over are the pieces of the delivered terms

pub record Has (s : Store) (g : Setup) (v : StreamView) (xs : List ℕ) : Type 0 where
  pub setup : v.setup ≡ g
  pub stands : Stands (everybody s) v
  pub few : delivered v.events ≤ length (some_of v.events)
  pub joined : xs ≡ flat_map (task_piece s) (take (delivered v.events) (some_of v.events))
  pub counted : written v.events ≡ length xs
  pub sums : sum_by size (take (delivered v.events) (some_of v.events)) ≡ length xs

-- a piece in what a leader keeps over a store is the term's own
pub piece_is : (s : Store) → IsValid s → (m n : StreamView) (piece : List ℕ) → IsOpen m → Stands (everybody s) m
    → (h : HandsPiece m n piece) → piece ≡ task_piece s (task_of h.term)
piece_is s valid m n piece free stands h =
    let c : Carries (everybody s) m.setup m.events h.led =
    subst (λ (o : Option Led). IfSome o (Carries (everybody s) m.setup m.events)) h.is_led (stands.led free) in
    let all : All (IsLedTerm m.setup (everybody s) m.events c.slack []) (ahead h.led) =
    All-drop (IsLedTerm m.setup (everybody s) m.events c.slack []) (h.led.finished - first_number h.led.plans)
    (led_terms h.led.plans) (led_each m.setup (everybody s) m.events c.slack [] h.led.plans c.led.plans.each) in
    let one = at (IsLedTerm m.setup (everybody s) m.events c.slack []) (ahead h.led) h.count h.term all h.at in
    h.bytes.bytes ∙ honest_bytes m.setup (everybody s) m.events c.slack [] h.term one h.bytes.data_of h.bytes.kept s
    (everybody_over s valid) (everybody_tells s)
  where
    at : (P : PlanTerm → Type 0) (ts : List PlanTerm) (k : ℕ) (t : PlanTerm) → All P ts → slice_get ts k ≡ Some t
        → P t
    at P ts k t a e = subst P (get_or_from_slice_get ts k t t e)
        (a k t (slice_get_within ts k t e))

-- events that hand nothing over
pub no_more : (s : Store) (g : Setup) (b n : StreamView) (xs : List ℕ) (new : List Event) → Has s g b xs
    → n.events ≡ b.events ++ new → n.setup ≡ b.setup → delivered new ≡ 0 → Stands (everybody s) n → Has s g n xs
no_more s g b n xs new h e same none stands =
    let w : some_of n.events ≡ some_of b.events ++ some_of new = ap some_of e ∙ some-append b.events new in
    let d : delivered n.events ≡ delivered b.events =
    ap delivered e ∙ count_by-append is_wrote b.events new ∙ omega (arith, none) in
    let more = ap length w ∙ length-append (some_of b.events) (some_of new) in
    let few = h.few in
    let z = no_writes new none in
    let first : take (delivered n.events) (some_of n.events) ≡ take (delivered b.events) (some_of b.events) =
    ap (λ (l : List Task). take (delivered n.events) l) w ∙ ap (λ (k : ℕ). take k (some_of b.events ++ some_of new)) d
    ∙ take-append-le (delivered b.events) (some_of b.events) (some_of new) few in
    record {
      setup = same ∙ h.setup;
      stands = stands;
      few = omega (arith, d, more, few);
      joined = h.joined ∙ ap (λ (l : List Task). flat_map (task_piece s) l) (sym first);
      counted = ap written e ∙ written-append b.events new ∙ omega (arith, z) ∙ h.counted;
      sums = ap (λ (l : List Task). sum_by size l) first ∙ h.sums;
    }

-- the same events
pub as_was : (s : Store) (g : Setup) (b n : StreamView) (xs : List ℕ) → Has s g b xs → n.events ≡ b.events
    → n.setup ≡ b.setup → Stands (everybody s) n → Has s g n xs
as_was s g b n xs h e same stands =
    no_more s g b n xs [] h (e ∙ sym (append-nil b.events)) same refl stands

-- the next term's piece is handed over
pub hands : (s : Store) → IsValid s → (g : Setup) (m n : StreamView) (xs piece : List ℕ) → Has s g m xs → IsOpen m
    → HandsPiece m n piece → Stands (everybody s) n → Has s g n (xs ++ piece)
hands s valid g m n xs piece h free p stands =
    let t : Task = task_of p.term in
    let ev : n.events ≡ m.events ++ Wrote (length piece) ∷ [] = ap (λ (v : StreamView). v.events) p.is in
    let w : some_of n.events ≡ some_of m.events =
    ap some_of ev ∙ some-append m.events (Wrote (length piece) ∷ []) ∙ append-nil (some_of m.events) in
    let d : delivered n.events ≡ delivered m.events + 1 =
    ap delivered ev ∙ count_by-append is_wrote m.events (Wrote (length piece) ∷ []) in
    let is : piece ≡ task_piece s t = piece_is s valid m n piece free h.stands p in
    let within = slice_get_within (some_of m.events) (delivered m.events) t p.next in
    let more : take (delivered n.events) (some_of n.events) ≡ take (delivered m.events) (some_of m.events) ++ t ∷ [] =
    ap (λ (l : List Task). take (delivered n.events) l) w ∙ ap (λ (k : ℕ). take k (some_of m.events)) d
    ∙ take_one (some_of m.events) (delivered m.events) t p.next in
    let bytes = ap written ev ∙ written-append m.events (Wrote (length piece) ∷ []) in
    let had = h.counted in
    record {
      setup = ap (λ (v : StreamView). v.setup) p.is ∙ h.setup;
      stands = stands;
      few = let same = ap length w in omega (arith, d, same, within);
      joined = ap (λ (l : List ℕ). l ++ piece) h.joined
          ∙ ap (λ (l : List ℕ). flat_map (task_piece s) (take (delivered m.events) (some_of m.events)) ++ l) is
          ∙ sym (ap (λ (l : List Task). flat_map (task_piece s) l) more
          ∙ flat_one (task_piece s) (take (delivered m.events) (some_of m.events)) t);
      counted = let both = length-append xs piece in omega (arith, bytes, had, both);
      sums =
          let both = length-append xs piece in
          let one : sum_by size (t ∷ []) ≡ size t + sum_by size [] = sum_by-cons size t [] in
          let nil : sum_by size [] ≡ 0 = refl in
          let own : length piece ≡ size t = p.sized in
          let sum = ap (λ (l : List Task). sum_by size l) more
          ∙ sum_by-append size (take (delivered m.events) (some_of m.events)) (t ∷ []) in
          let before = h.sums in
          omega (arith, both, one, nil, own, sum, before);
    }

-- ---- one pull

-- what stands before the flag was asked stands after it
seen_open : (v : StreamView) (seen : ℕ) → v.seen ≤ seen → IsOpen (record v { seen = seen }) → IsOpen v
seen_open v seen le o = record { untold = o.untold; uncancelled = go v.cancelled refl (nat_lt 0 v.seen) refl }
  where
    rest : is_closed v.cancelled seen ≡ false
    rest = o.uncancelled

    go : (c : Bool) → v.cancelled ≡ c → (l : Bool) → nat_lt 0 v.seen ≡ l → is_closed v.cancelled v.seen ≡ false
    go true e l f = absurd (let z : true ≡ false =
        sym (ap (λ (x : Bool). x || nat_lt 0 seen) e) ∙ rest in cc)
    go false e false f = ap (λ (x : Bool). x || nat_lt 0 v.seen) e ∙ f
    go false e true f =
        let z : nat_lt 0 seen ≡ false = sym (ap (λ (x : Bool). x || nat_lt 0 seen) e) ∙ rest in
        absurd (let a : 0 < v.seen = ltb-true 0 v.seen f in
        let b : seen ≤ 0 = ltb-false 0 seen z in omega (arith, a, b, le))

seen_stands : (b : RunTold) (v : StreamView) (seen : ℕ) → v.seen ≤ seen → Stands b v
    → Stands b (record v { seen = seen })
seen_stands b v seen le h = record {
  true_of = h.true_of;
  starts = h.starts;
  led = λ o. h.led (seen_open v seen le o);
}

pulled_stands : (b : RunTold) (v : StreamView) → Stands b v → Stands b (pulled_once v)
pulled_stands b v h = record {
  true_of = h.true_of;
  starts = h.starts;
  led = λ o. h.led (record { untold = o.untold; uncancelled = o.uncancelled });
}

module _ (s : Store) (valid : IsValid s) (g : Setup) where
  -- an error hands nothing over
  told : (m n : StreamView) (xs : List ℕ) (cause e : FileReconstructionError) → Has s g m xs → IsTold m n cause e
      → Stands (everybody s) n → Has s g n xs
  told m n xs cause e h t stands =
      ⊎_elim
      (λ (w : (e ≡ cause) × (n ≡ record m { events = m.events ++ Fail e ∷ []; told_error = Some e })).
      no_more s g m n xs (Fail e ∷ []) h (ap (λ (v : StreamView). v.events) w.1)
      (ap (λ (v : StreamView). v.setup) w.1) refl stands)
      (λ (w : (e ≡ error.OutOfMemory)
      × (n ≡ record m { told_error = Some e })).
      as_was s g m n xs h (ap (λ (v : StreamView). v.events) w.1) (ap (λ (v : StreamView). v.setup) w.1) stands)
      t

  module _ (b n : StreamView) (xs : List ℕ) (has : Has s g b xs) (cs ds : List ClientTold) (k l : CacheTold)
      (over : IsOver s cs) (cache : CacheTells s k) (seen : ℕ) (later : b.seen ≤ seen)
      (stands : Stands (everybody s) n) where
    abbrev v : StreamView
    v = record b { seen = seen }

    start : Has s g v xs
    start = as_was s g b v xs has refl refl (seen_stands (everybody s) b seen later has.stands)

    pulled : Has s g (pulled_once v) xs
    pulled = as_was s g v (pulled_once v) xs start refl refl (pulled_stands (everybody s) v start.stands)

    -- the stream as it was, with a pull made
    same : n ≡ pulled_once v → Has s g n xs
    same e = as_was s g (pulled_once v) n xs pulled (ap (λ (z : StreamView). z.events) e)
        (ap (λ (z : StreamView). z.setup) e) stands

    none : Has s g n xs → Has s g n (xs ++ [])
    none h = subst (λ (y : List ℕ). Has s g n y) (sym (append-nil xs)) h

    done : (a : Step (Option (List ℕ))) → StepDone (pulled_once v) n cs ds k l a → Has s g n (xs ++ piece_of (Ok a))
    done a d = go a d.hands
      where
        m : StreamView
        m = d.end

        at_end : Has s g m xs
        at_end = no_more s g (pulled_once v) m xs d.work.new pulled d.work.added
            (ap (λ (z : StreamView). z.setup) d.work.rest) d.work.few.pieces
            (d.stands (Some s) (Some []) (tells s cs k over cache) pulled.stands)

        still : n ≡ m → Has s g n xs
        still e = as_was s g m n xs at_end (ap (λ (z : StreamView). z.events) e)
            (ap (λ (z : StreamView). z.setup) e) stands

        go : (a : Step (Option (List ℕ))) → Hands m n a → Has s g n (xs ++ piece_of (Ok a))
        go Pending h = none (still h.2)
        go (Ready None) h = none (still h.1)
        go (Ready (Some piece)) h = hands s valid g m n xs piece at_end h.0.still h.1 stands

    fails : (e : FileReconstructionError) → StepFails (pulled_once v) n cs ds k l e → Has s g n xs
    fails e f =
        ⊎_elim
        (λ (w : (e ≡ f.failed) × (n ≡ record f.end { events = f.end.events ++ Fail e ∷ []; told_error = Some e })).
        no_more s g (pulled_once v) n xs (f.work.new ++ Fail e ∷ []) pulled
        (ap (λ (z : StreamView). z.events) w.1 ∙ ap (λ (es : List Event). es ++ Fail e ∷ []) f.work.added
        ∙ append_assoc b.events f.work.new (Fail e ∷ []))
        (ap (λ (z : StreamView). z.setup) w.1 ∙ ap (λ (z : StreamView). z.setup) f.work.rest)
        (count_by-append is_wrote f.work.new (Fail e ∷ []) ∙ (let q = f.work.few.pieces in omega (arith, q))) stands)
        (λ (w : (e ≡ error.OutOfMemory)
        × (n ≡ record f.end { told_error = Some e })).
        no_more s g (pulled_once v) n xs f.work.new pulled (ap (λ (z : StreamView). z.events) w.1 ∙ f.work.added)
        (ap (λ (z : StreamView). z.setup) w.1 ∙ ap (λ (z : StreamView). z.setup) f.work.rest) f.work.few.pieces
        stands)
        f.told

    nothing : (a : Answer) → a ≡ Ok (Ready None) → piece_of a ≡ []
    nothing a e = ap piece_of e

    way : (a : Answer) → PullWay v n cs ds k l a → Has s g n (xs ++ piece_of a)
    way a w = ⊎_elim closed (⊎_elim refused (⊎_elim ended (stepped a))) w
      where
        closed : Closed v n cs ds k l a → Has s g n (xs ++ piece_of a)
        closed c = subst (λ (y : List ℕ). Has s g n (xs ++ y)) (sym (nothing a c.none)) (none (same c.stream))

        ended : Ended v n cs ds k l a → Has s g n (xs ++ piece_of a)
        ended c = subst (λ (y : List ℕ). Has s g n (xs ++ y)) (sym (nothing a c.none)) (none (same c.stream))

        refused : Refused v n cs ds k l a → Has s g n (xs ++ piece_of a)
        refused c = subst (λ (y : List ℕ). Has s g n (xs ++ y)) (sym (ap piece_of c.is_error))
            (none (told (pulled_once v) n xs _ c.told_error pulled c.told stands))

        stepped : (a : Answer) → Stepped v n cs ds k l a → Has s g n (xs ++ piece_of a)
        stepped (Ok x) c = done x c.step
        stepped (Err e) c = none (fails e c.step)

  pub pull : (b n : StreamView) (xs : List ℕ) (a : Answer) → Has s g b xs → PullOver s b n a
      → Has s g n (xs ++ piece_of a)
  pull b n xs a h p =
      way b n xs h p.clients_before p.clients_after p.cache_before p.cache_after p.over p.cache p.call.seen p.call.later
      (p.call.stands (Some s) (Some []) (tells s p.clients_before p.cache_before p.over p.cache) h.stands) a p.call.way

  -- a pull that handed a piece over: the stream at the step's end, and the term
  pub record Handed (n : StreamView) (xs piece : List ℕ) : Type 0 where
    pub end : StreamView
    pub term : Task
    pub has : Has s g end xs
    pub events : n.events ≡ end.events ++ Wrote (length piece) ∷ []
    pub next : next_term end.events ≡ Some term
    pub some : 0 < length piece

  handed_step : (b n : StreamView) (xs piece : List ℕ) → Has s g b xs → (cs ds : List ClientTold) (k l : CacheTold)
      → TellsAs (everybody s) cs k → (seen : ℕ) → b.seen ≤ seen
      → StepDone (pulled_once (record b { seen = seen })) n cs ds k l (Ready (Some piece)) → Handed n xs piece
  handed_step b n xs piece h cs ds k l tell seen later d =
      let v : StreamView = record b { seen = seen } in
      let x = d.hands.1 in
      let start = as_was s g b v xs h refl refl (seen_stands (everybody s) b seen later h.stands) in
      let once = as_was s g v (pulled_once v) xs start refl refl (pulled_stands (everybody s) v start.stands) in
      record {
        end = d.end;
        term = task_of x.term;
        has = no_more s g (pulled_once v) d.end xs d.work.new once d.work.added
            (ap (λ (z : StreamView). z.setup) d.work.rest) d.work.few.pieces
            (d.stands (Some s) (Some []) tell once.stands);
        events = ap (λ (z : StreamView). z.events) x.is;
        next = x.next;
        some = x.some;
      }

  pub handed : (b n : StreamView) (xs piece : List ℕ) → Has s g b xs → PullOver s b n (Ok (Ready (Some piece)))
      → Handed n xs piece
  handed b n xs piece h p =
      ⊎_elim
      (λ (w : Closed (record b { seen = p.call.seen }) n p.clients_before p.clients_after p.cache_before p.cache_after
      (Ok (Ready (Some piece)))). absurd (let e = w.none in cc))
      (⊎_elim
      (λ (w : Refused (record b { seen = p.call.seen }) n p.clients_before p.clients_after p.cache_before p.cache_after
      (Ok (Ready (Some piece)))). absurd (let e = w.is_error in cc))
      (⊎_elim
      (λ (w : Ended (record b { seen = p.call.seen }) n p.clients_before p.clients_after p.cache_before p.cache_after
      (Ok (Ready (Some piece)))). absurd (let e = w.none in cc))
      (λ (w : Stepped (record b { seen = p.call.seen }) n p.clients_before p.clients_after p.cache_before p.cache_after
      (Ok (Ready (Some piece)))).
      handed_step b n xs piece h p.clients_before p.clients_after p.cache_before p.cache_after
      (tells s p.clients_before p.cache_before p.over p.cache) p.call.seen p.call.later w.step)))
      p.call.way

  pub cancelled : (b c : StreamView) (xs : List ℕ) → MayCancel b c → Has s g b xs → Has s g c xs
  cancelled b c xs m h =
      ⊎_elim
      (λ (e : c ≡ b). subst (λ (v : StreamView). Has s g v xs) (sym e) h)
      (λ (e : c ≡ record b { cancelled = true }).
      subst (λ (v : StreamView). Has s g v xs) (sym e)
      (as_was s g b (record b { cancelled = true }) xs h refl refl (record {
        true_of = h.stands.true_of;
        starts = h.stands.starts;
        led = λ o. absurd (let z : true ≡ false = o.uncancelled in cc);
      })))
      m

  pub pulls : (answers : List Answer) (b n : StreamView) (xs : List ℕ) → Has s g b xs → Pulls s b answers n
      → Has s g n (xs ++ joined answers)
  pulls [] b n xs h p =
      subst (λ (l : List ℕ). Has s g n l) (sym (append-nil xs)) (subst (λ (w : StreamView). Has s g w xs) (sym p) h)
  pulls (a ∷ more) b n xs h p =
      let c = p.0 in
      let m = p.1 in
      let one = pull c m xs a (cancelled b c xs p.2 h) p.3 in
      subst (λ (l : List ℕ). Has s g n l) (append_assoc xs (piece_of a) (joined more))
      (pulls more m n (xs ++ piece_of a) one p.4)

-- ---- so far

pub first : (s : Store) (g : Setup) (limits : LimitTold) → Has s g (new_stream g limits) []
first s g limits = record {
  setup = refl;
  stands = new_stands (everybody s) g limits;
  few = omega arith;
  joined = refl;
  counted = refl;
  sums = refl;
}

pub true_of : (s : Store) → IsValid s → (g : Setup) (n : StreamView) (xs : List ℕ) → Has s g n xs
    → IsTrueHistory s (download_of g) n.events
true_of s valid g n xs h = subst (λ (v : Setup). IsTrueHistory s (download_of v) n.events) h.setup
    (h.stands.true_of s (everybody_over s valid))

pub so_far : (s : Store) → IsValid s → (g : Setup) (n : StreamView) (xs : List ℕ) → Has s g n xs
    → IsPrefix xs (window s g.file g.range)
so_far s valid g n xs h =
    let k = delivered n.events in
    let ts = some_of n.events in
    let whole = pieces_are_prefix s valid (download_of g) n.events (true_of s valid g n xs h) in
    let rest : List ℕ = flat_map (task_piece s) (drop k ts) in
    let all : xs ++ rest ≡ pieces s n.events =
    ap (λ (l : List ℕ). l ++ rest) h.joined ∙ sym (flat_map-append (task_piece s) (take k ts) (drop k ts))
    ∙ ap (λ (l : List Task). flat_map (task_piece s) l) (take-append-drop k ts) ∙ pieces_some s (planned n.events) in
    record {
      rest = rest ++ whole.rest;
      joined = sym (append_assoc xs rest whole.rest) ∙ ap (λ (l : List ℕ). l ++ whole.rest) all ∙ whole.joined;
    }

pub pieces_go_on : PiecesGoOn
pieces_go_on s valid g limits answers n ps =
    let h = pulls s valid g answers (new_stream g limits) n [] (first s g limits) ps in
    record { from = so_far s valid g n (joined answers) h; counted = h.counted }

-- ---- the end

-- None from a stream that is free then is its end
pub none_is_end : (s : Store) (b n : StreamView) → PullOver s b n (Ok (Ready None)) → IsOpen n
    → IsAtEnd n.setup.range n.events
none_is_end s b n p o = ⊎_elim closed (⊎_elim refused (⊎_elim ended stepped)) p.call.way
  where
    v : StreamView
    v = record b { seen = p.call.seen }

    End : Type 0
    End = IsAtEnd n.setup.range n.events

    closed : Closed v n p.clients_before p.clients_after p.cache_before p.cache_after (Ok (Ready None)) → End
    closed w =
        let e = w.stream in
        let free : IsOpen (pulled_once v) = subst IsOpen e o in
        absurd (w.closed (record { untold = free.untold; uncancelled = free.uncancelled }))

    refused : Refused v n p.clients_before p.clients_after p.cache_before p.cache_after (Ok (Ready None)) → End
    refused w = let e = w.is_error in absurd (cc)

    ended : Ended v n p.clients_before p.clients_after p.cache_before p.cache_after (Ok (Ready None)) → End
    ended w = subst (λ (z : StreamView). IsAtEnd z.setup.range z.events) (sym w.stream) w.at_end

    stepped : Stepped v n p.clients_before p.clients_after p.cache_before p.cache_after (Ok (Ready None)) → End
    stepped w = let h = w.step.hands in subst (λ (z : StreamView). IsAtEnd z.setup.range z.events) (sym h.1) h.0

-- all pieces of a true history that reaches its end are the window
pub all_pieces : (s : Store) → IsValid s → (g : Setup) (es : List Event) → IsTrueHistory s (download_of g) es
    → IsAllowedHistory es → (g.range.start < g.range.end → ReachesEnd g.range es)
    → pieces s es ≡ window s g.file g.range
all_pieces s valid g es o a e =
    ⊎_elim
    (λ (h : g.range.start < g.range.end). pieces_reach s valid (download_of g) es a o (e h))
    (λ (h : g.range.end ≤ g.range.start).
    let cover = pieces_cover s valid (download_of g) es o in
    let none = no_queries g.range (g.greatest + g.least) (queries es) h o.cuts in
    cover ∙ ap (λ (l : List FileRange). window s g.file (record {
      start = g.range.start;
      end = last_of g.range.start
          (map (λ q. q.end) l);
    })) none
    ∙ empty_cut g.range.start g.range.start (bytes_of s g.file) (omega arith)
    ∙ sym (empty_cut g.range.start g.range.end (bytes_of s g.file) h))
    (cases_lt g.range.start g.range.end)
  where
    no_queries : (r : FileRange) (bound : ℕ) (qs : List FileRange) → r.end ≤ r.start → CutFrom r.start r.end bound qs
        → qs ≡ []
    no_queries r bound [] h c = refl
    no_queries r bound (q ∷ qs) h c =
        let x : q.start ≡ r.start = c.0 in
        let y : q.start < q.end = c.1 in
        let z : q.end ≤ r.end = c.2 in
        absurd (omega (arith, x, y, z, h))

    empty_cut : (a b : ℕ) (xs : List ℕ) → b ≤ a → slice_range xs a b ≡ []
    empty_cut a b xs h = let e : b - a ≡ 0 = omega (arith, h) in ap (λ (n : ℕ). take n (drop a xs)) e

pub at_end : (s : Store) → IsValid s → (g : Setup) (n : StreamView) (xs : List ℕ) → Has s g n xs
    → IsAllowedHistory n.events → IsAtEnd g.range n.events → xs ≡ window s g.file g.range
at_end s valid g n xs h allowed end =
    let all : take (delivered n.events) (some_of n.events) ≡ some_of n.events =
    take_all (delivered n.events) (some_of n.events) (get_none (some_of n.events) (delivered n.events) end.all) in
    h.joined ∙ ap (λ (l : List Task). flat_map (task_piece s) l) all ∙ pieces_some s (planned n.events)
    ∙ all_pieces s valid g n.events (true_of s valid g n xs h) allowed end.reached

pub pieces_join : PiecesJoin
pieces_join s valid g limits answers end n ps last free =
    let h = pulls s valid g answers (new_stream g limits) end [] (first s g limits) ps in
    let k : Has s g n (joined answers) = subst (λ (l : List ℕ). Has s g n l) (append-nil (joined answers))
    (pull s valid g end n (joined answers) (Ok (Ready None)) h last) in
    let at = subst (λ (v : Setup). IsAtEnd v.range n.events) k.setup (none_is_end s end n last free) in
    let is = at_end s valid g n (joined answers) k last.call.allowed at in (is, k.counted ∙ ap length is)
