-- Each of the other ties after one more event.
use Rattle.std.proofs.Common.{◌≡◌, ℕ, ◌+◌, ◌-◌, ◌^◌, ◌≤◌, ◌<◌, length, take, inl, inr, ⊎_elim, min, ◌==◌, Bool, true, false, cond, List, [], ◌∷◌, ◌++◌, refl, sym, subst, ◌∙◌, ap, arith, append_assoc, Some, None, Option}
use Rattle.std.specs.Prelude.{All, IfSome, IsSome, count_by, filter, map, option_map}
use Rattle.std.proofs.lemmas.Bool.{eqb-true}
use Rattle.std.specs.Option.{option_or}
use Rattle.std.specs.List.{flat_map}
use Rattle.std.specs.List.{AllZip}
use Rattle.std.proofs.lemmas.Slice.Zip.{AllZip-long}
use Rattle.std.proofs.lemmas.List.{append-nil, length-take, take-append-le, length-append}
use Rattle.std.proofs.lemmas.Grind.{flat_map-append}
use Rattle.std.proofs.lemmas.List.Elements.{All-append, All-cons, All-nil, filter-append}
use Rattle.xet_base.specs.declared.cas_types.ChunkRange.{ChunkRange}
use Rattle.xet_base.specs.declared.cas_types.FileRange.{FileRange}
use Rattle.xet_base.specs.declared.merklehash.MerkleHash.{MerkleHash}
use Rattle.xet_base.specs.Store.{Store, file_of}
use Rattle.xet_outside.specs.declared.served.Served.{Served}
use Rattle.xet_outside.specs.Told.{CacheTold, ClientTold, Counted, Query, SignalTold, SinkTold}
use Rattle.xet_history.specs.Queries.{CutFrom}
use Rattle.xet_events.specs.declared.event.Event.{Event}
use Rattle.xet_events.specs.declared.event.Event.TheVariants.{Planned, Admit, Fetched, Cached, Expired, Refreshed, Wrote, Fail, Cancel}
use Rattle.xet_events.specs.declared.event.PlannedBlock.{PlannedBlock}
use Rattle.xet_events.specs.Limits.{LimitTold}
use Rattle.xet_events.specs.Events.{error_in, expires, first_error, Task, is_plan, is_stale, last_of, plan_count, planned, taken_in, tasks_in}
use Rattle.xet_history.specs.TrueHistory.{Download, IsTrueEvent, IsTrueHistory, pieces, queries, queries_in, task_piece}
use Rattle.xet_events.proofs.CallerLemmas.{count_by-push, error-push, flat-push, planned-push, stale-push, written-push}
use Rattle.xet_ties.specs.History.{asked_by, asked_in, cached_in, fetched_in, kept_in, limit_in, limits_of, range_at, telling, round_count, round_in}
use Rattle.xet_ties.specs.InCall.{Exchange, Look, Place}
use Rattle.xet_ties.specs.Saids.{IsTaskPiece, IsTested, has_bytes, some_of}
use Rattle.xet_ties.specs.Setup.{AllTell, Setup}
use Rattle.xet_ties.specs.Gains.{GrewBy}
use Rattle.xet_ties.specs.Ties.{AllAre, CutsRange, FirstAsked, FirstStarts, IsLost, IsAmong, IsAsked, IsLimited, IsLooked, IsOffered, IsPolled, IsRecorded, IsTaken, IsTried, Reaches, all_late, at_place, has_one, is_one, is_served, IsNextQuery, AllWithin}
use Rattle.xet_ties.proofs.Telling.{count-append, count-same, range_at-push, telling-push}
use Rattle.xet_ties.proofs.EarlyEnds.{goes_same}

all-push : {A : Type 0} (P : A → Type 0) (xs : List A) (x : A) → All P xs → P x → All P (xs ++ x ∷ [])
all-push P xs x a h = All-append P xs (x ∷ []) a (All-cons P x [] h (All-nil P))

-- the queries go on cutting the range, and the event is true
pub true_push : (s : Store) (d : Download) (es : List Event) (e : Event) → CutFrom d.range.start d.range.end (d.greatest + d.least) (queries es ++ queries_in e) → IsTrueEvent s d.file d.multirange e
    → IsTrueHistory s d es → IsTrueHistory s d (es ++ e ∷ [])
true_push s d es e c h t = record {
  cuts = subst (λ (qs : List FileRange). CutFrom d.range.start d.range.end (d.greatest + d.least) qs) (sym (flat-push queries_in es e)) c;
  plans = all-push (IsTrueEvent s d.file d.multirange) es e t.plans h;
}

-- an event without a query
pub true_same : (s : Store) (d : Download) (es : List Event) (e : Event) → queries_in e ≡ [] → IsTrueEvent s d.file d.multirange e
    → IsTrueHistory s d es → IsTrueHistory s d (es ++ e ∷ [])
true_same s d es e none h t =
    true_push s d es e
    (subst (λ (qs : List FileRange). CutFrom d.range.start d.range.end (d.greatest + d.least) qs) (sym (append-nil (queries es)) ∙ ap (λ (qs : List FileRange). queries es ++ qs) (sym none)) t.cuts) h t

-- the same of the queries alone
queries-same : (es : List Event) (e : Event) → queries_in e ≡ [] → queries (es ++ e ∷ []) ≡ queries es
queries-same es e none = flat-push queries_in es e ∙ ap (λ (qs : List FileRange). queries es ++ qs) none ∙ append-nil (queries es)

pub cuts_same : (g : Setup) (es : List Event) (e : Event) → queries_in e ≡ [] → CutsRange g (queries es) → CutsRange g (queries (es ++ e ∷ []))
cuts_same g es e none c = subst (λ (qs : List FileRange). CutsRange g qs) (sym (queries-same es e none)) c

pub cuts_push : (g : Setup) (es : List Event) (e : Event) (q : FileRange) → queries_in e ≡ q ∷ [] → CutsRange g (queries es ++ q ∷ []) → CutsRange g (queries (es ++ e ∷ []))
cuts_push g es e q one c = subst (λ (qs : List FileRange). CutsRange g qs) (sym (flat-push queries_in es e ∙ ap (λ (qs : List FileRange). queries es ++ qs) one)) c

-- the first planned term stays the first
pub starts_more : (place : ℕ) (ts us : List Task) → FirstStarts place ts → (ts ≡ [] → FirstStarts place us) → FirstStarts place (ts ++ us)
starts_more place [] us a b = b refl
starts_more place (t ∷ ts) us a b = a

pub starts_same : (place : ℕ) (es : List Event) (e : Event) → tasks_in e ≡ [] → FirstStarts place (planned es) → FirstStarts place (planned (es ++ e ∷ []))
starts_same place es e none a = subst (λ (l : List Task). FirstStarts place l) (sym (planned-push es e ∙ ap (λ (l : List Task). planned es ++ l) none ∙ append-nil (planned es))) a

-- a plan stays stale after an event that doesn't refresh it
stale_stays : (f : MerkleHash) (es : List Event) (e : Event) (p : ℕ) (r : FileRange) → asked_in f es e ≡ [] → range_at es p ≡ r ∷ [] → is_stale es p ≡ true → is_stale (es ++ e ∷ []) p ≡ true
stale_stays f es (Refreshed q) p r none at h = stale-push es (Refreshed q) p ∙ by (q == p) refl
  where
    by : (v : Bool) → (q == p) ≡ v → last_of (is_stale es p) (filter (λ _. v) (false ∷ [])) ≡ true
    by false e = h
    by true e =
        let same : range_at es q ≡ r ∷ [] = ap (λ (i : ℕ). range_at es i) (eqb-true q p e) ∙ at in
        let z : ◌≡◌ {A = List Query} ((f, r) ∷ []) [] = sym (ap (λ (l : List FileRange). map (λ v. (f, v)) l) same) ∙ none in
        absurd (cc)
stale_stays f es (Expired lane q k) p r none at h = stale-push es (Expired lane q k) p ∙ by (q == p)
  where
    by : (v : Bool) → last_of (is_stale es p) (filter (λ _. v) (true ∷ [])) ≡ true
    by false = h
    by true = refl
stale_stays f es (Planned plan query terms blocks) p r none at h = stale-push es (Planned plan query terms blocks) p ∙ h
stale_stays f es (Admit limit) p r none at h = stale-push es (Admit limit) p ∙ h
stale_stays f es (Fetched lane plan block) p r none at h = stale-push es (Fetched lane plan block) p ∙ h
stale_stays f es (Cached plan block) p r none at h = stale-push es (Cached plan block) p ∙ h
stale_stays f es (Wrote taken) p r none at h = stale-push es (Wrote taken) p ∙ h
stale_stays f es (Fail error) p r none at h = stale-push es (Fail error) p ∙ h
stale_stays f es Cancel p r none at h = stale-push es Cancel p ∙ h

-- a query whose answer isn't recorded may be asked after one more event
lost_same : (g : Setup) (es : List Event) (e : Event) (lost : List Query) → queries_in e ≡ [] → asked_in g.file es e ≡ [] → IsLost g es lost → IsLost g (es ++ e ∷ []) lost
lost_same g es e [] none quiet h = tt
lost_same g es e (q ∷ []) none quiet h = (
  h.0,
  ⊎_elim
      (λ (c : IsNextQuery g es q.1). inl (record { cuts = subst (λ (qs : List FileRange). CutsRange g (qs ++ q.1 ∷ [])) (sym (queries-same es e none)) c.cuts; goes_on = goes_same es e none c.goes_on }))
      (λ (r : (p : ℕ) × (range_at es p ≡ q.1 ∷ []) × (is_stale es p ≡ true)). inr (r.0, range_at-push es e r.0 q.1 r.1, stale_stays g.file es e r.0 q.1 quiet r.1 r.2))
      h.1,
)
lost_same g es e (q ∷ r ∷ qs) none quiet h = absurd h

-- and none is left where it was recorded
lost_rest : (g : Setup) (es : List Event) (e : Event) (xs to : List Query) → queries_in e ≡ [] → asked_in g.file es e ≡ xs → IsLost g es (xs ++ to) → IsLost g (es ++ e ∷ []) to
lost_rest g es e [] to none is h = lost_same g es e to none is h
lost_rest g es e (a ∷ []) [] none is h = tt
lost_rest g es e (a ∷ []) (q ∷ to) none is h = absurd h
lost_rest g es e (a ∷ c ∷ xs) to none is h = absurd h

pub lost_push : (g : Setup) (es : List Event) (e : Event) (lost xs to : List Query) → queries_in e ≡ [] → asked_in g.file es e ≡ xs → lost ≡ xs ++ to → IsLost g es lost → IsLost g (es ++ e ∷ []) to
lost_push g es e lost xs to none said is h = lost_rest g es e xs to none said (subst (λ (l : List Query). IsLost g es l) is h)

-- the queries of an event are recorded
asked_push : (f : MerkleHash) (es : List Event) (e : Event) (lost rest : List Query) (b n : ClientTold) → lost ≡ asked_in f es e ++ rest → IsAsked f es lost b n → IsAsked f (es ++ e ∷ []) rest b n
asked_push f es e lost rest b n is t =
    let same : asked_by f (es ++ e ∷ []) ++ rest ≡ asked_by f es ++ lost =
    ap (λ (l : List Query). l ++ rest) (telling-push (asked_in f) es e) ∙ append_assoc (asked_by f es) (asked_in f es e) rest ∙ ap (λ (l : List Query). asked_by f es ++ l) (sym is) in
    record { asked = t.asked ∙ ap (λ (l : List Query). option_map (λ xs. xs ++ l) b.asked) (sym same) }

pub first_push : (f : MerkleHash) (es : List Event) (e : Event) (lost rest : List Query) (bs ns : List ClientTold) → lost ≡ asked_in f es e ++ rest → FirstAsked f es lost bs ns → FirstAsked f (es ++ e ∷ []) rest bs ns
first_push f es e lost rest [] ns is t = t
first_push f es e lost rest (b ∷ bs) [] is t = t
first_push f es e lost rest (b ∷ bs) (n ∷ ns) is t = (asked_push f es e lost rest b n is t.0, t.1)

pub tried_push : (tries : ℕ) (es : List Event) (e : Event) (late : List (List Place)) → ((p k : ℕ) → (count_by (expires p k) es + cond (expires p k e) 1 0) + count_by (at_place p k) (all_late late) ≤ tries) → IsTried tries (es ++ e ∷ []) late None
tried_push tries es e late h = record {
  at_most = λ p k. let c = count_by-push (expires p k) es e in let a = h p k in omega (arith, a, c);
  spent = λ z. absurd (cc);
}

-- the blocks that an event keeps were pending
pub looked_push : (es : List Event) (e : Event) (pending rest : List PlannedBlock) (hidden left : List Served) (looks : List Look) (bs : List ClientTold) (b n : CacheTold) → cached_in es e ≡ []
    → ((x : MerkleHash) (g : ChunkRange) → (count_by (is_one x g) (fetched_in es e) + count_by (is_one x g) rest) + count_by (is_served x g) left ≤ count_by (is_one x g) pending + count_by (is_served x g) hidden)
    → IsLooked es pending hidden looks bs b n → IsLooked (es ++ e ∷ []) rest left looks bs b n
looked_push es e pending rest hidden left looks bs b n none h t = record {
  looked = t.looked;
  cover = λ x g.
      let c = t.cover x g in
      let a = h x g in
      let kept : telling kept_in [] (es ++ e ∷ []) ≡ telling kept_in [] es ++ fetched_in es e = telling-push kept_in es e ∙ ap (λ (l : List PlannedBlock). telling kept_in [] es ++ l) (ap (λ (l : List PlannedBlock). fetched_in es e ++ l) none ∙ append-nil (fetched_in es e)) in
      let cached : telling cached_in [] (es ++ e ∷ []) ≡ telling cached_in [] es = telling-push cached_in es e ∙ ap (λ (l : List PlannedBlock). telling cached_in [] es ++ l) none ∙ append-nil (telling cached_in [] es) in
      let k = ap (λ (l : List PlannedBlock). count_by (is_one x g) l) kept ∙ count-append (is_one x g) (telling kept_in [] es) (fetched_in es e) in
      let d = ap (λ (l : List PlannedBlock). count_by (is_one x g) l) cached in
      let f = ap (λ (l : List PlannedBlock). count_by (is_one x g) l) (telling-push fetched_in es e) ∙ count-append (is_one x g) (telling fetched_in [] es) (fetched_in es e) in
      let c0 = c.kept in
      let c1 = c.cached in
      record {
        kept = omega (arith, c0, a, k);
        cached = omega (arith, c1, d);
        honest = λ s o. let c2 = c.honest s o in omega (arith, c2, a, f);
      };
}

pub offered_push : (es : List Event) (e : Event) (due more : ℕ) (b n : CacheTold) → due + count_by has_one (fetched_in es e) ≡ more → IsOffered es due b n → IsOffered (es ++ e ∷ []) more b n
offered_push es e due more b n h t =
    let f = ap (λ (l : List PlannedBlock). count_by has_one l) (telling-push fetched_in es e) ∙ count-append has_one (telling fetched_in [] es) (fetched_in es e) in
    record { puts = t.puts; offers = t.offers; cover = let c = t.cover in omega (arith, c, f, h); faults = t.faults }

pub polled_push : (es : List Event) (e : Event) (spare rest : ℕ) (b n : SignalTold) → cond (is_plan e) 1 0 + length (round_in es e) + rest ≤ spare → IsPolled es spare b n → IsPolled (es ++ e ∷ []) rest b n
polled_push es e spare rest b n h t =
    let c = count_by-push is_plan es e in
    let r : round_count (es ++ e ∷ []) ≡ round_count es + length (round_in es e) = ap (λ (l : List Event). length l) (telling-push round_in es e) ∙ length-append (telling round_in [] es) (round_in es e) in
    record { polls = t.polls; asks = t.asks; cover = let a = t.cover in omega (arith, a, c, r, h); later = t.later }

pub limited_same : (es : List Event) (e : Event) (b n : LimitTold) → limit_in e ≡ [] → IsLimited es b n → IsLimited (es ++ e ∷ []) b n
limited_same es e b n none t =
    let same : limits_of (es ++ e ∷ []) ≡ limits_of es = flat-push limit_in es e ∙ ap (λ (l : List ℕ). limits_of es ++ l) none ∙ append-nil (limits_of es) in
    record {
      answers = t.answers;
      listed = t.listed;
      among = subst (λ (l : List ℕ). IsAmong l t.answers) (sym same) t.among;
      fixed = subst (λ (l : List ℕ). IfSome b.fixed (λ k. AllAre k l)) (sym same) t.fixed;
      same = t.same;
      within = subst (λ (l : List ℕ). IfSome b.most (λ k. AllWithin k l)) (sym same) t.within;
      same_most = t.same_most;
    }

-- tested bytes stay so
pub tested_push : (g : Setup) (xs : List Exchange) (looks : List Look) (es : List Event) (e : Event) (taken : List ℕ) → IsTested g xs looks es taken → IsTested g xs looks (es ++ e ∷ []) taken
tested_push g xs looks es e taken t =
    let n = length t.pieces in
    let long = AllZip-long (IsTaskPiece g xs looks) (take n (some_of es)) t.pieces t.each in
    let short = length-take n (some_of es) in
    let more : some_of (es ++ e ∷ []) ≡ some_of es ++ filter has_bytes (tasks_in e) = ap (λ (l : List Task). filter has_bytes l) (planned-push es e) ∙ filter-append has_bytes (planned es) (tasks_in e) in
    let same : take n (some_of (es ++ e ∷ [])) ≡ take n (some_of es) = ap (λ (l : List Task). take n l) more ∙ take-append-le n (some_of es) (filter has_bytes (tasks_in e)) (omega (arith, long, short)) in
    record { pieces = t.pieces; each = subst (λ (l : List Task). AllZip (IsTaskPiece g xs looks) l t.pieces) (sym same) t.each; from = t.from }

-- the written bytes of an event were taken
pub taken_push : (g : Setup) (es : List Event) (e : Event) (xs : List Exchange) (looks : List Look) (ahead rest : ℕ) (bs : List ClientTold) (cache : CacheTold) (b n : SinkTold) → ahead ≡ taken_in e + rest
    → IsTaken g es xs looks ahead bs cache b n → IsTaken g (es ++ e ∷ []) xs looks rest bs cache b n
taken_push g es e xs looks ahead rest bs cache b n is t =
    let w = written-push es e in
    record {
      taken = t.taken;
      took = t.took;
      counted = let c = t.counted in omega (arith, c, w, is);
      pieces = λ s o c.
          let p = t.pieces s o c in
          let more : pieces s (es ++ e ∷ []) ≡ pieces s es ++ flat_map (task_piece s) (tasks_in e) = ap (λ l. flat_map (task_piece s) l) (planned-push es e) ∙ flat_map-append (task_piece s) (planned es) (tasks_in e) in
          record { rest = p.rest ++ flat_map (task_piece s) (tasks_in e); joined = sym (append_assoc t.taken p.rest (flat_map (task_piece s) (tasks_in e))) ∙ ap (λ (l : List ℕ). l ++ flat_map (task_piece s) (tasks_in e)) p.joined ∙ sym more };
      tested = tested_push g xs looks es e t.taken t.tested;
      faults = t.faults;
      link = t.link;
    }

or_none : {A : Type 0} (o : Option A) → option_or o None ≡ o
or_none None = refl
or_none (Some x) = refl

pub recorded_same : (es : List Event) (e : Event) → error_in e ≡ None → IsRecorded es None → IsRecorded (es ++ e ∷ []) None
recorded_same es e none t =
    let same : first_error (es ++ e ∷ []) ≡ first_error es = error-push es e ∙ ap (λ o. option_or (first_error es) o) none ∙ or_none (first_error es) in
    record { answered = λ x h. t.answered x (sym same ∙ h); recorded = λ x h. absurd (cc) }

pub stored_same : (f : MerkleHash) (es : List Event) (e : Event) (bs : List ClientTold) → is_plan e ≡ false → ((s : Store) → AllTell s bs → 0 < plan_count es → IsSome (file_of s f))
    → (s : Store) → AllTell s bs → 0 < plan_count (es ++ e ∷ []) → IsSome (file_of s f)
stored_same f es e bs none h s tell n = let c = count-same is_plan es e none in h s tell (omega (arith, c, n))

-- one more is counted
pub reaches_more : (b m n : Option ℕ) (p : ℕ) → Counted m n → Reaches b m p → Reaches b n (p + 1)
reaches_more None m n p c h = tt
reaches_more (Some k) None n p c h = absurd h
reaches_more (Some k) (Some j) n p c h = subst (λ (o : Option ℕ). Reaches (Some k) o (p + 1)) (sym c) (raised h)
  where
    raised : min (k + p) (2 ^ 64 - 1) ≤ j → min (k + (p + 1)) (2 ^ 64 - 1) ≤ min (j + 1) (2 ^ 64 - 1)
    raised h = omega arith

least_min : (most k p j : ℕ) → min (k + p) most ≤ j → min (k + 0) most ≤ j
least_min most k p j h = omega (arith, h)

pub grew_by_more : (b m n : Option ℕ) (p : ℕ) → Counted m n → GrewBy b m p → GrewBy b n (p + 1)
grew_by_more None m n p c h = tt
grew_by_more (Some k) None n p c h = absurd h
grew_by_more (Some k) (Some j) n p c h =
    subst (λ (o : Option ℕ). GrewBy (Some k) o (p + 1)) (sym c) (raised h.0, within h.1)
  where
    raised : min (k + p) (2 ^ 64 - 1) ≤ j → min (k + (p + 1)) (2 ^ 64 - 1) ≤ min (j + 1) (2 ^ 64 - 1)
    raised h = omega arith

    within : j ≤ k + p → min (j + 1) (2 ^ 64 - 1) ≤ k + (p + 1)
    within h = omega (arith, h)

pub grew_by_none : (b : Option ℕ) → GrewBy b b 0
grew_by_none None = tt
grew_by_none (Some k) = (omega arith, omega arith)

pub grew_by_any : (b n : Option ℕ) (p : ℕ) → GrewBy b n p → Reaches b n 0
grew_by_any None n p h = tt
grew_by_any (Some k) None p h = absurd h
grew_by_any (Some k) (Some j) p h = least_min (2 ^ 64 - 1) k p j h.0

-- a count that has grown doesn't fall
pub reaches_any : (b n : Option ℕ) (p : ℕ) → Reaches b n p → Reaches b n 0
reaches_any None n p h = tt
reaches_any (Some k) None p h = absurd h
reaches_any (Some k) (Some j) p h = least_min (2 ^ 64 - 1) k p j h

pub reaches_start : (b : Option ℕ) → Reaches b b 0
reaches_start None = tt
reaches_start (Some k) = omega arith
