-- A run that is tied gives a legal answer.
use Rattle.std.proofs.Common.{◌≡◌, ℕ, ◌+◌, ◌≤◌, List, [], ◌∷◌, length, take, refl, sym, subst, ◌∙◌, ap, arith, length-append, Some, None, Option}
use Rattle.std.specs.Prelude.{All, IfErr, IfOk, IfSome, OnOk, count_by, ◌<◌, option_map, Ok, Err, Result}
use Rattle.std.specs.List.{concat}
use Rattle.std.proofs.lemmas.List.{append-nil, take_all, take-append-le}
use Rattle.std.proofs.lemmas.List.Elements.{All-append, All-cons, All-head, All-nil, All-tail, All-weaker}
use Rattle.xet_base.specs.Store.{Store, window}
use Rattle.xet_outside.specs.declared.served.Served.{Served}
use Rattle.xet_outside.specs.Answers.{late_in}
use Rattle.xet_outside.specs.Told.{ClientTold, Query, SinkTold, Took, TookPrefix}
use Rattle.xet_error.specs.declared.error.FileReconstructionError.{FileReconstructionError}
use Rattle.xet_error.specs.declared.error.FileReconstructionError.TheVariants as error
use Rattle.xet_error.specs.declared.error.Setting.{Setting}
use Rattle.xet_events.specs.declared.event.Event.{Event}
use Rattle.xet_events.specs.Allowed.{IsAllowedHistory}
use Rattle.xet_events.specs.Events.{expires}
use Rattle.xet_blocks.specs.ServedChunks.{AllServed}
use Rattle.xet_ties.specs.Causes.{Cause, late_answers, refused_setting}
use Rattle.xet_ties.specs.History.{entry_of, fetched_in, telling, IsWithin}
use Rattle.xet_ties.specs.InCall.{Exchange, Look, served_of_all, Place}
use Rattle.xet_ties.specs.Cuts.{FirstCut, Planning}
use Rattle.xet_ties.specs.Legal.{Legal}
use Rattle.xet_ties.specs.LegalParts.{Blocks, Cached, Exact, Faults, Later, Queries, Tries, Written}
use Rattle.xet_ties.specs.LegalWords.{AllPlanned, CacheGoesOn, FirstAsks, FirstPlansAll, IsPlannedServed, SignalGoesOn, TookTested, TookWhole, requests_of}
use Rattle.xet_ties.specs.RunCalls.{IsFinished, IsUnspent, RunCall, TookAll, stop_of}
use Rattle.xet_ties.specs.Saids.{EntryPassed, FirstSaid, IsTested, ServedPassed}
use Rattle.xet_ties.specs.Setup.{CacheTells, EachGoesOn, IsOver, RunTold, Setup}
use Rattle.xet_ties.specs.Ties.{EachLane, EachUnfailed, FirstUnfailed, IsEntryOf, IsOther, IsPlannedEntry, LeavesNothing, MayLeave, Slack, Stop, Ties, all_of, has_one}
use Rattle.xet_ties.proofs.Asks.{first_asks}
use Rattle.xet_ties.proofs.Expiries.{counted_start, each_counted, none_past, none_spent}
use Rattle.xet_ties.proofs.FewAsks.{none_few, run_few}
use Rattle.xet_ties.proofs.Gains.{gained_none}
use Rattle.xet_ties.proofs.OfferCounts.{served_counted}
use Rattle.xet_ties.specs.Gains.{OffersFew, one_range}
use Rattle.xet_ties.proofs.Headline as headline
use Rattle.xet_ties.proofs.LowestLanes.{all_passed}
use Rattle.xet_ties.proofs.Pairs.{served_once, served_planned}
use Rattle.xet_ties.proofs.Plannings.{PlanningOf, first_pieces, first_plans_all, planning_heard, plans_end, some_pieces}
use Rattle.xet_ties.proofs.SaidTies.{block_said}
use Rattle.xet_ties.proofs.ServedChunks.{chunks_heard}
use Rattle.xet_ties.proofs.Wholes.{took_all}
use Rattle.xet_outside.proofs.CallerLemmas.{added_none}
use Rattle.xet_ties.specs.Moves.{no_exchange, no_hidden, no_late}
use Rattle.xet_ties.proofs.Heard.{exchange_start}
use Rattle.xet_ties.proofs.HeardServed.{each_heard, heard_served_start}
use Rattle.xet_ties.proofs.Pushes.{grew_by_any, grew_by_none, reaches_any, reaches_start}
use Rattle.xet_ties.proofs.Starts.{first_start, served_start, unfailed_start}
use Rattle.xet_ties.proofs.EarlyEnds.{cuts_none}

-- ---- connections go on

goes_on : (es : List Event) (l : ℕ) (bs ns : List ClientTold) (hs : List (List Served)) (ks : List (List Place)) → EachLane es l bs ns hs ks → EachGoesOn bs ns
goes_on es l [] [] hs ks t = tt
goes_on es l [] (n ∷ ns) hs ks t = absurd t
goes_on es l (b ∷ bs) [] hs ks t = absurd t
goes_on es l (b ∷ bs) (n ∷ ns) [] ks t = absurd t
goes_on es l (b ∷ bs) (n ∷ ns) (h ∷ hs) [] t = absurd t
goes_on es l (b ∷ bs) (n ∷ ns) (h ∷ hs) (k ∷ ks) t = (t.0.goes_on, goes_on es (l + 1) bs ns hs ks t.1)

stays : (bs : List ClientTold) → EachGoesOn bs bs
stays [] = tt
stays (b ∷ bs) = (record { store = refl; link = refl; faults = omega arith; expiries = omega arith }, stays bs)

signal_goes_on : (g : Setup) (b n : RunTold) (es : List Event) (stop : Stop) (sl : Slack) → Ties g b n es stop sl → SignalGoesOn b.signal n.signal
signal_goes_on g b n es stop sl t = record { asks = reaches_any b.signal.asks n.signal.asks t.polled.polls t.polled.asks; yes = t.polled.later }

cache_goes_on : (g : Setup) (b n : RunTold) (es : List Event) (stop : Stop) (sl : Slack) → Ties g b n es stop sl → CacheGoesOn b.cache n.cache
cache_goes_on g b n es stop sl t = record { offers = grew_by_any b.cache.offers n.cache.offers t.offered.puts t.offered.offers; faults = t.offered.faults }

-- ---- offers

fetched_served : (g : Setup) (b n : RunTold) (es : List Event) (stop : Stop) (sl : Slack) → Ties g b n es stop sl → count_by one_range (served_of_all sl.heard) ≡ count_by has_one (telling fetched_in [] es) + count_by one_range (all_of sl.hidden)
fetched_served g b n es stop sl t = served_counted one_range has_one (λ a c d. refl) es b.clients n.clients sl.heard sl.hidden t.heard t.heard_served t.served.on_lanes

abbrev offers_few : (g : Setup) (b n : RunTold) (es : List Event) (stop : Stop) (sl : Slack) (t : Ties g b n es stop sl) → OffersFew sl.heard b.cache n.cache
offers_few g b n es stop sl t = record {
  puts = t.offered.puts;
  offers = t.offered.offers;
  few = let all = fetched_served g b n es stop sl t in let c = t.offered.cover in omega (arith, all, c);
}

offers_all : (g : Setup) (b n : RunTold) (es : List Event) (sl : Slack) (t : Ties g b n es None sl) → LeavesNothing sl → t.offered.puts ≡ count_by one_range (served_of_all sl.heard)
offers_all g b n es sl t left =
    let all = fetched_served g b n es None sl t in
    let c = t.offered.cover in
    let due = left.due in
    let hidden = ap (λ (l : List Served). count_by one_range l) left.hidden in
    omega (arith, all, c, due, hidden)

-- ---- tested bytes

took_tested : (g : Setup) (xs : List Exchange) (looks : List Look) (es : List Event) (lost : List Query) (p : PlanningOf g xs es lost) (taken : List ℕ) (b n : SinkTold) → Took b.took n.took taken → IsTested g xs looks es taken → TookTested g xs looks b n
took_tested g xs looks es lost p taken b n took t =
    let whole = concat t.pieces in
    let size : length taken + length t.from.rest ≡ length whole = sym (length-append taken t.from.rest) ∙ ap length t.from.joined in
    let cut : take (length taken) whole ≡ taken = ap (λ (l : List ℕ). take (length taken) l) (sym t.from.joined) ∙ take-append-le (length taken) taken t.from.rest (omega arith) ∙ take_all (length taken) taken (omega arith) in
    record {
      planning = p.planning;
      pieces = t.pieces;
      each = first_pieces g xs looks es lost p t.pieces t.each;
      took = record { count = length taken; within = omega (arith, size); took = subst (λ (l : List ℕ). Took b.took n.took l) (sym cut) took };
    }

pub tested_heard : (g : Setup) (b n : RunTold) (es : List Event) (stop : Stop) (sl : Slack) → IsAllowedHistory es → Ties g b n es stop sl → TookTested g sl.heard sl.looks b.sink n.sink
tested_heard g b n es stop sl a t =
    let p = planning_heard g b n es stop sl a t in
    took_tested g sl.heard sl.looks es sl.lost p t.taken.taken b.sink n.sink t.taken.took t.taken.tested

-- on Ok the pieces of all terms
took_whole : (g : Setup) (b n : RunTold) (es : List Event) (k : ℕ) (sl : Slack) → IsAllowedHistory es → Ties g b n es None sl → sl.lost ≡ [] → IsFinished g es k → TookAll g es sl b.sink n.sink k → TookWhole g sl.heard sl.looks b.sink n.sink k
took_whole g b n es k sl a t lost f w =
    let p = planning_heard g b n es None sl a t in
    record {
      all = record { planning = p.planning; none = p.none lost; ends = plans_end g sl.heard es sl.lost k p f };
      pieces = w.pieces;
      each = some_pieces g sl.heard sl.looks es sl.lost p w.pieces w.each;
      took = w.took;
      total = w.total;
    }

whole_heard : (g : Setup) (b n : RunTold) (es : List Event) (k : ℕ) (sl : Slack) → IsAllowedHistory es → Ties g b n es None sl → sl.lost ≡ [] → sl.ahead ≡ 0 → IsFinished g es k → TookWhole g sl.heard sl.looks b.sink n.sink k
whole_heard g b n es k sl a t lost none f = took_whole g b n es k sl a t lost f (took_all g b n es k sl t none f)

-- ---- served blocks

entry_served : (g : Setup) (es : List Event) (xs : List Exchange) (x : Exchange) (rest : List Exchange) → xs ≡ x ∷ rest → (b n : RunTold) (stop : Stop) (sl : Slack) → sl.heard ≡ xs → Ties g b n es stop sl → (e : Served) → IsPlannedEntry es e → IsPlannedServed g xs e
entry_served g es xs x rest is b n stop sl heard t e h =
    let said : FirstSaid g es (x ∷ rest) = subst (λ (l : List Exchange). FirstSaid g es l) (heard ∙ is) t.said in
    let s = block_said g es x rest e.plan e.index h.0 t.cuts t.numbers said.0 h.1 in
    subst (λ (l : List Exchange). IsPlannedServed g l e) (sym is)
    (record {
      of_plan = s.place;
      own = s.own;
      is = h.2 ∙ ap (λ (k : ℕ). entry_of e.plan k h.0) (sym s.number) ∙ ap (λ (y : _). entry_of e.plan s.place.number y) (sym s.is);
    })

-- both kinds of requests of each connection
both_requests : (P : Served → Type 0) (xs : List Exchange) → All (λ (x : Exchange). All P x.served) xs
    → All (λ (x : Exchange). All P (late_in x.said)) xs → All (λ (x : Exchange). All P (requests_of x)) xs
both_requests P [] served late = All-nil (λ (x : Exchange). All P (requests_of x))
both_requests P (x ∷ xs) served late =
    let S : Exchange → Type 0 = λ y. All P y.served in
    let L : Exchange → Type 0 = λ y. All P (late_in y.said) in
    All-cons (λ (y : Exchange). All P (requests_of y)) x xs
    (All-append P x.served (late_in x.said) (All-head S x xs served) (All-head L x xs late))
    (both_requests P xs (All-tail S x xs served) (All-tail L x xs late))

pub planned_heard : (g : Setup) (b n : RunTold) (es : List Event) (stop : Stop) (sl : Slack) → Ties g b n es stop sl → AllPlanned g sl.heard
planned_heard g b n es stop sl t = by sl.heard refl
  where
    by : (xs : List Exchange) → sl.heard ≡ xs → AllPlanned g sl.heard
    by [] e = absurd (subst (λ (l : List Exchange). FirstSaid g es l) e t.said)
    by (x ∷ rest) e =
        let P : Served → Type 0 = IsPlannedServed g (x ∷ rest) in
        let one : (y : Served) → IsPlannedEntry es y → P y = entry_served g es (x ∷ rest) x rest refl b n stop sl e t in
        let served : All (λ (y : Exchange). All P y.served) sl.heard =
        each_heard P es 0 sl.heard sl.hidden
        (λ lane. All-weaker (IsPlannedEntry es) P one _ (served_planned lane es))
        (All-weaker (IsPlannedEntry es) P one (all_of sl.hidden) t.served.planned)
        t.heard_served in
        let late : All (λ (y : Exchange). All P (late_in y.said)) sl.heard =
        All-weaker (λ (y : Exchange). All (IsPlannedEntry es) (late_in y.said)) (λ (y : Exchange). All P (late_in y.said))
        (λ y h. All-weaker (IsPlannedEntry es) P one (late_in y.said) h) sl.heard t.late_planned in
        subst (λ (l : List Exchange). All (λ (y : Exchange). All (IsPlannedServed g l) (requests_of y)) sl.heard) (sym e)
        (both_requests P sl.heard served late)

-- ---- the legal answer

unspent_other : (stop : Stop) → IsUnspent stop → IsOther stop
unspent_other stop u e = subst IsUnspent e u

none_took : (o : Option (List ℕ)) (whole : List ℕ) → TookPrefix o o whole
none_took o whole = record { count = 0; within = omega arith; took = same o }
  where
    same : (p : Option (List ℕ)) → Took p p (take 0 whole)
    same None = refl
    same (Some xs) = ap (λ (l : List ℕ). Some l) (sym (append-nil xs))

-- of connections that weren't asked
nothing : (P : Exchange → Type 0) (bs : List ClientTold) → P (record { asked = []; served = []; said = [] }) → All P (no_exchange bs)
nothing P [] p = All-nil P
nothing P (b ∷ bs) p = All-cons P (record { asked = []; served = []; said = [] }) (no_exchange bs) p (nothing P bs p)

asks_start : (g : Setup) (bs : List ClientTold) → FirstAsks g bs bs
asks_start g [] = tt
asks_start g (b ∷ bs) = first_asks g [] [] (b ∷ bs) (b ∷ bs) (All-nil IsWithin) (cuts_none g) tt (first_start g.file b bs)

-- nothing was planned
plans_nothing : (g : Setup) (bs : List ClientTold) → Planning g (no_exchange bs)
plans_nothing g bs = record { parts = []; more = []; few = omega arith; is_cut = record { cuts = cuts_none g; asked = by bs }; said = tt; reach = tt; adjoin = tt }
  where
    by : (l : List ClientTold) → FirstCut (no_exchange l) []
    by [] = refl
    by (b ∷ l) = refl

none_heard : (g : Setup) (bs : List ClientTold) (p k : ℕ) → late_answers p k (no_exchange bs) ≤ g.tries
none_heard g [] p k = omega arith
none_heard g (b ∷ bs) p k = let r = none_heard g bs p k in omega (arith, r)

-- a run that its settings refuse
legal_refused : (g : Setup) (b : RunTold) (x : Setting) → refused_setting g b.clients ≡ Some x → Legal g b b (Err (error.ConfigurationError x))
legal_refused g b x h = record {
  told = record {
    heard = no_exchange b.clients;
    exchanges = exchange_start b.clients;
    looks = [];
    looked = added_none b.cache.looked b.cache.looked refl;
    given = All-nil (IsEntryOf b.cache.entries);
  };
  exact = record { exact = λ s o c. tt; prefix = λ s o c. none_took b.sink.took (window s g.file g.range); stored = λ s o. tt };
  first = record {
    settings = λ e i. let j : x ≡ e = cc in (ap (λ (y : Setting). let r : Result ℕ FileReconstructionError = Err (error.ConfigurationError y) in r) j, refl);
    empty = λ i. record { untouched = record { clients = refl; cache = refl; signal = refl; limits = refl }; took = refl; none = tt; error = tt };
  };
  cause = h;
  written = record {
    tested = record { planning = plans_nothing g b.clients; pieces = []; each = tt; took = none_took b.sink.took [] };
    whole = tt;
    flushed = tt;
  };
  faults = record { cancelled = λ i. absurd (omega (arith, i)); unfailed = refl; clients_unfailed = λ c. unfailed_start b.clients };
  queries = record { asked = asks_start g b.clients; all_asked = tt; few = none_few g b.clients };
  blocks = record {
    served = served_once [] b.clients b.clients (no_exchange b.clients) (no_hidden b.clients) (no_late b.clients) (exchange_start b.clients) (heard_served_start 0 b.clients) (served_start b.clients);
    planned = nothing (λ (y : Exchange). All (IsPlannedServed g (no_exchange b.clients)) (requests_of y)) b.clients (All-nil (IsPlannedServed g (no_exchange b.clients)));
    passed = λ c. nothing (ServedPassed g (no_exchange b.clients)) b.clients (All-nil (EntryPassed g (no_exchange b.clients)));
    chunks = λ s o e. tt;
  };
  tries = record { at_most = λ p k. none_heard g b.clients p k; under = λ u. absurd u; counted = counted_start b.clients };
  cached = record {
    gained = gained_none g (no_exchange b.clients) b.cache;
    offers = record { puts = 0; offers = grew_by_none b.cache.offers; few = omega arith };
    all_offered = tt;
  };
  later = record {
    goes_on = stays b.clients;
    past = refl;
    cache_later = λ s o c. c;
    sink_later = omega arith;
    signal_later = record { asks = reaches_start b.signal.asks; yes = omega arith };
    counts_later = record { offers = reaches_start b.cache.offers; faults = omega arith };
    link = refl;
  };
}

all_unfailed : (bs ns : List ClientTold) (i : ℕ) → i ≡ length bs → FirstUnfailed i bs ns → EachUnfailed bs ns
all_unfailed bs ns i e h = subst (λ (k : ℕ). FirstUnfailed k bs ns) e h

-- ---- the parts of a run that its settings let go on

exact_of : (g : Setup) (b n : RunTold) (es : List Event) (answer : Result ℕ FileReconstructionError) (sl : Slack) → IsAllowedHistory es → Ties g b n es (stop_of answer) sl → MayLeave (stop_of answer) b.clients sl → IfOk answer (IsFinished g es) → Exact g b.clients b.cache b.sink n.sink answer
exact_of g b n es (Ok k) sl a t left f =
    let none : sl.ahead ≡ 0 = (left.none refl).ahead in
    record {
      exact = λ s o c. headline.exact g b n es k sl a t none f s o c;
      prefix = λ s o c. headline.prefix g b n es None sl t s o c;
      stored = λ s o. headline.is_stored g b n es k sl a t none f s o;
    }
exact_of g b n es (Err e) sl a t left f = record { exact = λ s o c. tt; prefix = λ s o c. headline.prefix g b n es (Some e) sl t s o c; stored = λ s o. tt }

cause_of : (answer : Result ℕ FileReconstructionError) (P : FileReconstructionError → Type 0) → IfSome (stop_of answer) P → IfErr answer P
cause_of (Ok k) P c = tt
cause_of (Err e) P c = c

written_of : (g : Setup) (b n : RunTold) (es : List Event) (answer : Result ℕ FileReconstructionError) (sl : Slack) → IsAllowedHistory es → Ties g b n es (stop_of answer) sl → MayLeave (stop_of answer) b.clients sl → IfOk answer (IsFinished g es) → OnOk answer (n.sink.flushed ≡ option_map length n.sink.took) → Written g sl.heard sl.looks b.sink n.sink answer
written_of g b n es (Ok k) sl a t left f flushed =
    let none = left.none refl in
    record { tested = tested_heard g b n es None sl a t; whole = whole_heard g b n es k sl a t none.lost none.ahead f; flushed = flushed }
written_of g b n es (Err e) sl a t left f flushed = record { tested = tested_heard g b n es (Some e) sl a t; whole = tt; flushed = tt }

faults_of : (g : Setup) (b n : RunTold) (es : List Event) (answer : Result ℕ FileReconstructionError) (sl : Slack) → Ties g b n es (stop_of answer) sl → MayLeave (stop_of answer) b.clients sl → RunCall g b n es answer → Faults b n answer
faults_of g b n es answer sl t left r = record {
  cancelled = r.cancelled;
  unfailed = r.unfailed;
  clients_unfailed = λ c. all_unfailed b.clients n.clients sl.calm (left.quiet c).calm t.unfailed;
}

queries_of : (g : Setup) (b n : RunTold) (es : List Event) (answer : Result ℕ FileReconstructionError) (sl : Slack) → IsAllowedHistory es → Ties g b n es (stop_of answer) sl → MayLeave (stop_of answer) b.clients sl → IfOk answer (IsFinished g es) → Queries g sl.heard b.clients n.clients answer
queries_of g b n es answer sl a t left f = record {
  asked = first_asks g es sl.lost b.clients n.clients t.within t.cuts t.lost t.asked;
  all_asked = all answer t left f;
  few = run_few g b n es (stop_of answer) sl a t;
}
  where
    all : (r : Result ℕ FileReconstructionError) → Ties g b n es (stop_of r) sl → MayLeave (stop_of r) b.clients sl → IfOk r (IsFinished g es) → OnOk r (FirstPlansAll g b.clients n.clients)
    all (Ok k) u l h = first_plans_all g b n es k sl a u (l.none refl).lost h
    all (Err e) u l h = tt

blocks_of : (g : Setup) (b n : RunTold) (es : List Event) (answer : Result ℕ FileReconstructionError) (sl : Slack) → IsAllowedHistory es → Ties g b n es (stop_of answer) sl → MayLeave (stop_of answer) b.clients sl → IfOk answer (IsFinished g es) → Blocks g sl.heard b.clients b.cache answer
blocks_of g b n es answer sl a t left f = record {
  served = served_once es b.clients n.clients sl.heard sl.hidden sl.late t.heard t.heard_served t.served;
  planned = planned_heard g b n es (stop_of answer) sl t;
  passed = λ c. all_passed g es sl.heard sl.hidden (left.quiet c).hidden t.heard_served t.passed;
  chunks = λ s o e. all answer t left f s o e;
}
  where
    all : (r : Result ℕ FileReconstructionError) → Ties g b n es (stop_of r) sl → MayLeave (stop_of r) b.clients sl → IfOk r (IsFinished g es) → (s : Store) → IsOver s b.clients → b.cache.entries ≡ Some []
        → OnOk r (AllServed s g.file g.range (served_of_all sl.heard))
    all (Ok k) u l h s o e = chunks_heard g b n es k sl a u (l.none refl).ahead h s o e
    all (Err x) u l h s o e = tt

tries_of : (g : Setup) (b n : RunTold) (es : List Event) (answer : Result ℕ FileReconstructionError) (sl : Slack) → Ties g b n es (stop_of answer) sl → MayLeave (stop_of answer) b.clients sl → (IsUnspent (stop_of answer) → (p k : ℕ) → count_by (expires p k) es < g.tries) → Tries g sl.heard b.clients n.clients answer
tries_of g b n es answer sl t left under = record {
  at_most = none_past g b n es (stop_of answer) sl t;
  under = λ u. none_spent g b n es (stop_of answer) sl (left.late (unspent_other (stop_of answer) u)) (under u) t;
  counted = each_counted es 0 b.clients n.clients sl.hidden sl.late sl.heard t.served.lanes t.expired;
}

cached_of : (g : Setup) (b n : RunTold) (es : List Event) (answer : Result ℕ FileReconstructionError) (sl : Slack) → Ties g b n es (stop_of answer) sl → MayLeave (stop_of answer) b.clients sl → Cached g sl.heard b.cache n.cache answer
cached_of g b n es (Ok k) sl t left = record { gained = t.gained; offers = offers_few g b n es None sl t; all_offered = offers_all g b n es sl t (left.none refl) }
cached_of g b n es (Err e) sl t left = record { gained = t.gained; offers = offers_few g b n es (Some e) sl t; all_offered = tt }

later_of : (g : Setup) (b n : RunTold) (es : List Event) (stop : Stop) (sl : Slack) → Ties g b n es stop sl → ((s : Store) → IsOver s b.clients → CacheTells s b.cache → CacheTells s n.cache) → Later b n
later_of g b n es stop sl t tells = record {
  goes_on = goes_on es 0 b.clients n.clients sl.hidden sl.late t.served.lanes;
  past = t.served.past;
  cache_later = tells;
  sink_later = t.taken.faults;
  signal_later = signal_goes_on g b n es stop sl t;
  counts_later = cache_goes_on g b n es stop sl t;
  link = t.taken.link;
}

legal_ran : (g : Setup) (b n : RunTold) (es : List Event) (answer : Result ℕ FileReconstructionError) → refused_setting g b.clients ≡ None → IsAllowedHistory es → RunCall g b n es answer → Legal g b n answer
legal_ran g b n es answer h a r =
    let t = r.tied h in
    record {
      told = record { heard = t.slack.heard; exchanges = t.ties.heard; looks = t.slack.looks; looked = t.ties.looked.looked; given = t.ties.looked_entries };
      exact = exact_of g b n es answer t.slack a t.ties t.left r.finished;
      first = record { settings = λ x i. absurd (let z : None ≡ Some x = sym h ∙ i in cc); empty = r.empty };
      cause = cause_of answer (Cause g t.slack.heard b n) t.cause;
      written = written_of g b n es answer t.slack a t.ties t.left r.finished r.flushed;
      faults = faults_of g b n es answer t.slack t.ties t.left r;
      queries = queries_of g b n es answer t.slack a t.ties t.left r.finished;
      blocks = blocks_of g b n es answer t.slack a t.ties t.left r.finished;
      tries = tries_of g b n es answer t.slack t.ties t.left t.under;
      cached = cached_of g b n es answer t.slack t.ties t.left;
      later = later_of g b n es (stop_of answer) t.slack t.ties r.cache_later;
    }

pub legal_of : (g : Setup) (b n : RunTold) (es : List Event) (answer : Result ℕ FileReconstructionError) → IsAllowedHistory es → RunCall g b n es answer → Legal g b n answer
legal_of g b n es answer a r = go (refused_setting g b.clients) refl
  where
    go : (o : Option Setting) → refused_setting g b.clients ≡ o → Legal g b n answer
    go None h = legal_ran g b n es answer h a r
    go (Some x) h =
        let s = r.settings x h in
        subst (λ (v : Result ℕ FileReconstructionError). Legal g b n v) (sym s.answered) (subst (λ (v : RunTold). Legal g b v (Err (error.ConfigurationError x))) (sym s.same) (legal_refused g b x h))
