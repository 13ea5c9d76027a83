-- The ties after one step.
use Rattle.std.proofs.Common.{◌≡◌, ℕ, ◌+◌, ◌≤◌, Bool, false, cond, List, [], ◌∷◌, ◌++◌, length, refl, sym, subst, ◌∙◌, ap, arith, append_assoc, length-append, inl, inr, ⊎_elim, Some, None, Option}
use Rattle.std.specs.Prelude.{All, IfSome, count_by, option_map}
use Rattle.std.proofs.lemmas.List.Elements.{All-push}
use Rattle.std.specs.Option.{option_or}
use Rattle.xet_base.specs.declared.cas_types.ChunkRange.{ChunkRange}
use Rattle.xet_base.specs.declared.merklehash.MerkleHash.{MerkleHash}
use Rattle.xet_base.specs.Store.{Store}
use Rattle.xet_outside.specs.Told.{AskCall, SignalTold, SinkTold, Took, Added}
use Rattle.xet_error.specs.declared.error.FileReconstructionError.{FileReconstructionError}
use Rattle.xet_events.specs.declared.event.Event.{Event}
use Rattle.xet_events.specs.declared.event.Event.TheVariants.{Admit, Fail}
use Rattle.xet_events.specs.Limits.{LimitCall, LimitTold}
use Rattle.xet_events.specs.Events.{expires, first_error, is_plan}
use Rattle.xet_history.specs.Laws.{IsPrefix}
use Rattle.xet_history.specs.TrueHistory.{pieces}
use Rattle.xet_events.proofs.CallerLemmas.{error-push, flat-push}
use Rattle.xet_ties.specs.History.{fetched_in, IsNumberedNext, IsOneCached, IsRenewed, IsWithin, asked_in, limit_in, limits_of, round_in}
use Rattle.xet_ties.proofs.Gains.{gained_as}
use Rattle.xet_ties.specs.InCall.{EachExchange, Exchange, Look}
use Rattle.xet_ties.specs.Saids.{EventPassed, FirstRenewed, FirstSaid, IsTested}
use Rattle.xet_ties.proofs.Heard.{said_push}
use Rattle.xet_ties.specs.Moves.{Fits}
use Rattle.xet_ties.specs.Setup.{CacheTells, IsOver, RunTold, Setup, download_of}
use Rattle.xet_ties.specs.Ties.{all_of, FirstUnfailed, AllAre, EachExpired, HeardAsked, IsAmong, IsEntryOf, IsLooked, IsTaken, LatePlanned, Slack, Ties, AllWithin, EachServed, lates_of, is_one, is_served}
use Rattle.xet_ties.proofs.Lanes.{served_same}
use Rattle.xet_ties.proofs.Lates.{expired_same, late_push}
use Rattle.xet_ties.proofs.Pushes.{cuts_same, first_push, lost_push, limited_same, looked_push, offered_push, polled_push, reaches_more, recorded_same, starts_same, stored_same, taken_push, tried_push, true_same}
use Rattle.xet_ties.proofs.Numbers.{heard_push, next_same}
use Rattle.xet_ties.proofs.Telling.{count-append, count-same, each-push}
use Rattle.xet_error.specs.declared.error.FileReconstructionError.TheVariants as error
use Rattle.xet_ties.proofs.EarlyEnds.{ends_same}
use Rattle.xet_ties.proofs.HeardServed.{heard_served_same}

-- ---- events alone

pub tie_event : (g : Setup) (b n : RunTold) (es : List Event) (e : Event) (sl to : Slack) → Fits g es e sl to → Ties g b n es None sl → Ties g b n (es ++ e ∷ []) None to
tie_event g b n es e sl to f t = record {
  heard = subst (λ (l : List Exchange). EachExchange b.clients n.clients l) (sym f.heard) t.heard;
  true_of = λ s o. true_same s (download_of g) es e f.query (f.true_of s) (t.true_of s o);
  cuts = cuts_same g es e f.query t.cuts;
  within = All-push IsWithin es e t.within f.within;
  starts = starts_same g.range.start es e f.tasks t.starts;
  ends = ends_same es e f.plan t.ends;
  numbers = each-push IsNumberedNext es e t.numbers (next_same es e f.plan);
  stored = stored_same g.file es e b.clients f.plan t.stored;
  served = f.served b.clients n.clients t.served;
  expired = f.expired to.heard (subst (λ (l : List Exchange). EachExpired es 0 l sl.late) (sym f.heard) t.expired);
  late_planned = late_push es e to.heard (subst (λ (l : List Exchange). LatePlanned es l) (sym f.heard) t.late_planned);
  heard_served = f.heard_served to.heard (subst (λ (l : List Exchange). EachServed es 0 l sl.hidden) (sym f.heard) t.heard_served);
  unfailed = subst (λ (i : ℕ). FirstUnfailed i b.clients n.clients) (sym f.calm) t.unfailed;
  asked = first_push g.file es e sl.lost to.lost b.clients n.clients f.asked t.asked;
  heard_asked = subst (λ (l : List Exchange). HeardAsked g.file (es ++ e ∷ []) to.lost l) (sym f.heard) (heard_push g.file es e sl.lost to.lost sl.heard f.asked t.heard_asked);
  lost = lost_push g es e sl.lost (asked_in g.file es e) to.lost f.query refl f.asked t.lost;
  said = subst (λ (l : List Exchange). FirstSaid g (es ++ e ∷ []) l) (sym f.heard) (said_push g es e sl.heard f.said t.said);
  tried = tried_push g.tries es e to.late f.tried;
  renewed = each-push IsRenewed es e t.renewed f.renewed;
  refreshes = subst (λ (l : List Exchange). FirstRenewed g to.lost l) (sym f.heard) (f.refreshes t.refreshes);
  passed = subst (λ (l : List Exchange). All (EventPassed g l) (es ++ e ∷ [])) (sym f.heard) (All-push (EventPassed g sl.heard) es e t.passed f.passed);
  one_cached = each-push IsOneCached es e t.one_cached f.one_cached;
  looked = subst (λ (l : List Look). IsLooked (es ++ e ∷ []) to.pending (all_of to.hidden ++ lates_of to.heard) l b.clients b.cache n.cache) (sym f.looks)
      (subst (λ (h : List Exchange). IsLooked (es ++ e ∷ []) to.pending (all_of to.hidden ++ lates_of h) sl.looks b.clients b.cache n.cache) (sym f.heard)
      (looked_push es e sl.pending to.pending (all_of sl.hidden ++ lates_of sl.heard) (all_of to.hidden ++ lates_of sl.heard) sl.looks b.clients b.cache n.cache f.cached still t.looked));
  looked_entries = subst (λ (l : List Look). All (IsEntryOf n.cache.entries) l) (sym f.looks) t.looked_entries;
  gained = gained_as g sl.heard to.heard b.cache n.cache (sym f.heard) t.gained;
  offered = offered_push es e sl.due to.due b.cache n.cache f.due t.offered;
  polled = polled_push es e sl.spare to.spare b.signal n.signal (as_is (cond (is_plan e) 1 0 + length (round_in es e) + to.spare) (ap (λ (c : Bool). cond c 1 0 + length (round_in es e) + to.spare) f.plan)) t.polled;
  limited = limited_same es e b.limits n.limits f.limit t.limited;
  taken = subst (λ (l : List Exchange). IsTaken g (es ++ e ∷ []) l to.looks to.ahead b.clients b.cache b.sink n.sink) (sym f.heard) (subst (λ (l : List Look). IsTaken g (es ++ e ∷ []) sl.heard l to.ahead b.clients b.cache b.sink n.sink) (sym f.looks) (taken_push g es e sl.heard sl.looks sl.ahead to.ahead b.clients b.cache b.sink n.sink f.ahead t.taken));
  recorded = recorded_same es e f.error t.recorded;
}
  where
    still : (x : MerkleHash) (r : ChunkRange) → (count_by (is_one x r) (fetched_in es e) + count_by (is_one x r) to.pending) + count_by (is_served x r) (all_of to.hidden ++ lates_of sl.heard) ≤ count_by (is_one x r) sl.pending + count_by (is_served x r) (all_of sl.hidden ++ lates_of sl.heard)
    still x r =
        let p = f.pending x r in
        let a = count-append (is_served x r) (all_of sl.hidden) (lates_of sl.heard) in
        let c = count-append (is_served x r) (all_of to.hidden) (lates_of sl.heard) in
        omega (arith, p, a, c)

    as_is : (x : ℕ) → x ≡ 0 + length (round_in es e) + to.spare → x ≤ sl.spare
    as_is x e = let h = f.spare in omega (arith, e, h)

-- ---- the signal

pub tie_poll : (g : Setup) (b n : RunTold) (es : List Event) (sl : Slack) (to : SignalTold) → AskCall n.signal to false → Ties g b n es None sl
    → Ties g b (record n { signal = to }) es None (record sl { spare = sl.spare + 1 })
tie_poll g b n es sl to a t = record {
  heard = t.heard;
  true_of = t.true_of;
  cuts = t.cuts;
  within = t.within;
  starts = t.starts;
  ends = t.ends;
  numbers = t.numbers;
  stored = t.stored;
  served = t.served;
  expired = t.expired;
  late_planned = t.late_planned;
  heard_served = t.heard_served;
  unfailed = t.unfailed;
  asked = t.asked;
  heard_asked = t.heard_asked;
  lost = t.lost;
  said = t.said;
  tried = t.tried;
  renewed = t.renewed;
  refreshes = t.refreshes;
  passed = t.passed;
  one_cached = t.one_cached;
  looked = t.looked;
  looked_entries = t.looked_entries;
  gained = t.gained;
  offered = t.offered;
  polled = record {
    polls = t.polled.polls + 1;
    asks = reaches_more b.signal.asks n.signal.asks to.asks t.polled.polls a.counted t.polled.asks;
    cover = let c = t.polled.cover in omega (arith, c);
    later = let c = t.polled.later in let d = a.later in omega (arith, c, d);
  };
  limited = t.limited;
  taken = t.taken;
  recorded = t.recorded;
}

-- ---- the source of limits

among_more : (xs ys : List ℕ) (l : ℕ) → IsAmong xs ys → IsAmong xs (ys ++ l ∷ [])
among_more [] ys l a = tt
among_more (x ∷ xs) [] l a = absurd a
among_more (x ∷ xs) (y ∷ ys) l a = ⊎_elim (λ (h : (x ≡ y) × IsAmong xs ys). inl (h.0, among_more xs ys l h.1)) (λ (h : IsAmong (x ∷ xs) ys). inr (among_more (x ∷ xs) ys l h)) a

among_push : (xs ys : List ℕ) (l : ℕ) → IsAmong xs ys → IsAmong (xs ++ l ∷ []) (ys ++ l ∷ [])
among_push [] [] l a = inl (refl, tt)
among_push [] (y ∷ ys) l a = inr (among_push [] ys l tt)
among_push (x ∷ xs) [] l a = absurd a
among_push (x ∷ xs) (y ∷ ys) l a = ⊎_elim (λ (h : (x ≡ y) × IsAmong xs ys). inl (h.0, among_push xs ys l h.1)) (λ (h : IsAmong (x ∷ xs) ys). inr (among_push (x ∷ xs) ys l h)) a

are_push : (k : ℕ) (xs : List ℕ) (l : ℕ) → AllAre k xs → l ≡ k → AllAre k (xs ++ l ∷ [])
are_push k [] l a e = (e, tt)
are_push k (x ∷ xs) l a e = (a.0, are_push k xs l a.1 e)

lie_push : (k : ℕ) (xs : List ℕ) (l : ℕ) → AllWithin k xs → l ≤ k → AllWithin k (xs ++ l ∷ [])
lie_push k [] l a e = (e, tt)
lie_push k (x ∷ xs) l a e = (a.0, lie_push k xs l a.1 e)

listed : (b m n : LimitTold) (xs : List ℕ) (l : ℕ) → Added b.limits m.limits xs → n.limits ≡ option_map (λ ls. ls ++ l ∷ []) m.limits → Added b.limits n.limits (xs ++ l ∷ [])
listed b m n xs l a h = h ∙ ap (λ (o : Option (List ℕ)). option_map (λ ls. ls ++ l ∷ []) o) a ∙ twice b.limits
  where
    twice : (o : Option (List ℕ)) → option_map (λ ls. ls ++ l ∷ []) (option_map (λ ys. ys ++ xs) o) ≡ option_map (λ ys. ys ++ (xs ++ l ∷ [])) o
    twice None = refl
    twice (Some ys) = ap (λ (z : List ℕ). Some z) (append_assoc ys xs (l ∷ []))

-- a limit was asked for, and nothing was admitted
pub tie_limit : (g : Setup) (b n : RunTold) (es : List Event) (sl : Slack) (to : LimitTold) (l : ℕ) → LimitCall n.limits to l → Ties g b n es None sl → Ties g b (record n { limits = to }) es None sl
tie_limit g b n es sl to l c t = record {
  heard = t.heard;
  true_of = t.true_of;
  cuts = t.cuts;
  within = t.within;
  starts = t.starts;
  ends = t.ends;
  numbers = t.numbers;
  stored = t.stored;
  served = t.served;
  expired = t.expired;
  late_planned = t.late_planned;
  heard_served = t.heard_served;
  unfailed = t.unfailed;
  asked = t.asked;
  heard_asked = t.heard_asked;
  lost = t.lost;
  said = t.said;
  tried = t.tried;
  renewed = t.renewed;
  refreshes = t.refreshes;
  passed = t.passed;
  one_cached = t.one_cached;
  looked = t.looked;
  looked_entries = t.looked_entries;
  gained = t.gained;
  offered = t.offered;
  polled = t.polled;
  limited = record {
    answers = t.limited.answers ++ l ∷ [];
    listed = listed b.limits n.limits to t.limited.answers l t.limited.listed c.listed;
    among = among_more (limits_of es) t.limited.answers l t.limited.among;
    fixed = t.limited.fixed;
    same = c.fixed ∙ t.limited.same;
    within = t.limited.within;
    same_most = c.most ∙ t.limited.same_most;
  };
  taken = t.taken;
  recorded = t.recorded;
}

-- the next term was admitted under it
pub tie_admit : (g : Setup) (b n : RunTold) (es : List Event) (sl : Slack) (to : LimitTold) (l : ℕ) → LimitCall n.limits to l → Ties g b n es None sl → Ties g b (record n { limits = to }) (es ++ Admit l ∷ []) None sl
tie_admit g b n es sl to l c t =
    let e : Event = Admit l in
    let more : limits_of (es ++ e ∷ []) ≡ limits_of es ++ l ∷ [] = flat-push limit_in es e in
    record {
      heard = t.heard;
      true_of = λ s o. true_same s (download_of g) es e refl tt (t.true_of s o);
      cuts = cuts_same g es e refl t.cuts;
      within = All-push IsWithin es e t.within tt;
      starts = starts_same g.range.start es e refl t.starts;
      ends = ends_same es e refl t.ends;
      numbers = each-push IsNumberedNext es e t.numbers tt;
      stored = stored_same g.file es e b.clients refl t.stored;
      served = served_same es e sl.hidden sl.late b.clients n.clients (λ l. refl) (λ l. refl) (λ p k. refl) (λ m. tt) t.served;
      expired = expired_same es e 0 sl.heard sl.late (λ l w. refl) t.expired;
      late_planned = late_push es e sl.heard t.late_planned;
      heard_served = heard_served_same es e 0 sl.heard sl.hidden (λ l w. refl) t.heard_served;
      unfailed = t.unfailed;
      asked = first_push g.file es e sl.lost sl.lost b.clients n.clients refl t.asked;
      heard_asked = heard_push g.file es e sl.lost sl.lost sl.heard refl t.heard_asked;
      lost = lost_push g es e sl.lost [] sl.lost refl refl refl t.lost;
      said = said_push g es e sl.heard (λ x. tt) t.said;
      tried = tried_push g.tries es e sl.late (λ p k. let a = t.tried.at_most p k in omega (arith, a));
      renewed = each-push IsRenewed es e t.renewed tt;
      refreshes = t.refreshes;
      passed = All-push (EventPassed g sl.heard) es e t.passed tt;
      one_cached = each-push IsOneCached es e t.one_cached tt;
      looked = looked_push es e sl.pending sl.pending (all_of sl.hidden ++ lates_of sl.heard) (all_of sl.hidden ++ lates_of sl.heard) sl.looks b.clients b.cache n.cache refl (λ x r. omega arith) t.looked;
      looked_entries = t.looked_entries;
      gained = t.gained;
      offered = offered_push es e sl.due sl.due b.cache n.cache (omega arith) t.offered;
      polled = polled_push es e sl.spare sl.spare b.signal n.signal (omega arith) t.polled;
      limited = record {
        answers = t.limited.answers ++ l ∷ [];
        listed = listed b.limits n.limits to t.limited.answers l t.limited.listed c.listed;
        among = subst (λ (ls : List ℕ). IsAmong ls (t.limited.answers ++ l ∷ [])) (sym more) (among_push (limits_of es) t.limited.answers l t.limited.among);
        fixed = subst (λ (ls : List ℕ). IfSome b.limits.fixed (λ k. AllAre k ls)) (sym more) (fixed_push b.limits.fixed t.limited.fixed (subst (λ (o : Option ℕ). IfSome o (λ k. l ≡ k)) t.limited.same c.is_fixed));
        same = c.fixed ∙ t.limited.same;
        within = subst (λ (ls : List ℕ). IfSome b.limits.most (λ k. AllWithin k ls)) (sym more) (within_push b.limits.most t.limited.within (subst (λ (o : Option ℕ). IfSome o (λ k. l ≤ k)) t.limited.same_most c.within));
        same_most = c.most ∙ t.limited.same_most;
      };
      taken = taken_push g es e sl.heard sl.looks sl.ahead sl.ahead b.clients b.cache b.sink n.sink (omega arith) t.taken;
      recorded = recorded_same es e refl t.recorded;
    }
  where
    fixed_push : (o : Option ℕ) → IfSome o (λ k. AllAre k (limits_of es)) → IfSome o (λ k. l ≡ k) → IfSome o (λ k. AllAre k (limits_of es ++ l ∷ []))
    fixed_push None a h = tt
    fixed_push (Some k) a h = are_push k (limits_of es) l a h

    within_push : (o : Option ℕ) → IfSome o (λ k. AllWithin k (limits_of es)) → IfSome o (λ k. l ≤ k) → IfSome o (λ k. AllWithin k (limits_of es ++ l ∷ []))
    within_push None a h = tt
    within_push (Some k) a h = lie_push k (limits_of es) l a h

-- ---- the writer

-- bytes of the window were taken
pub tie_window : (g : Setup) (b n : RunTold) (es : List Event) (sl : Slack) (to : SinkTold) (bytes : List ℕ) → Took n.sink.took to.took bytes → n.sink.faults ≤ to.faults → to.link ≡ n.sink.link
    → (t : Ties g b n es None sl) → ((s : Store) → IsOver s b.clients → CacheTells s b.cache → IsPrefix (t.taken.taken ++ bytes) (pieces s es)) → IsTested g sl.heard sl.looks es (t.taken.taken ++ bytes)
    → Ties g b (record n { sink = to }) es None (record sl { ahead = sl.ahead + length bytes })
tie_window g b n es sl to bytes took faults link t p q = record {
  heard = t.heard;
  true_of = t.true_of;
  cuts = t.cuts;
  within = t.within;
  starts = t.starts;
  ends = t.ends;
  numbers = t.numbers;
  stored = t.stored;
  served = t.served;
  expired = t.expired;
  late_planned = t.late_planned;
  heard_served = t.heard_served;
  unfailed = t.unfailed;
  asked = t.asked;
  heard_asked = t.heard_asked;
  lost = t.lost;
  said = t.said;
  tried = t.tried;
  renewed = t.renewed;
  refreshes = t.refreshes;
  passed = t.passed;
  one_cached = t.one_cached;
  looked = t.looked;
  looked_entries = t.looked_entries;
  gained = t.gained;
  offered = t.offered;
  polled = t.polled;
  limited = t.limited;
  taken = record {
    taken = t.taken.taken ++ bytes;
    took = took ∙ ap (λ (o : Option (List ℕ)). option_map (λ xs. xs ++ bytes) o) t.taken.took ∙ twice b.sink.took t.taken.taken;
    counted = let c = t.taken.counted in omega (arith, c, length-append t.taken.taken bytes);
    pieces = p;
    tested = q;
    faults = let f = t.taken.faults in omega (arith, f, faults);
    link = link ∙ t.taken.link;
  };
  recorded = t.recorded;
}
  where
    twice : (o : Option (List ℕ)) (xs : List ℕ) → option_map (λ ys. ys ++ bytes) (option_map (λ ys. ys ++ xs) o) ≡ option_map (λ ys. ys ++ (xs ++ bytes)) o
    twice None xs = refl
    twice (Some ys) xs = ap (λ (z : List ℕ). Some z) (append_assoc ys xs bytes)

-- ---- the end

-- an error is recorded, which is then the answer
pub tie_fail : (g : Setup) (b n : RunTold) (es : List Event) (sl : Slack) (x : FileReconstructionError) → (x ≡ error.UrlExpired → (p : ℕ) × (k : ℕ) × (count_by (expires p k) es ≡ g.tries)) → Ties g b n es None sl
    → Ties g b n (es ++ Fail x ∷ []) (Some x) sl
tie_fail g b n es sl x spent t =
    let e : Event = Fail x in
    let none : first_error es ≡ None = no_error (first_error es) refl in
    let first : first_error (es ++ e ∷ []) ≡ Some x = error-push es e ∙ ap (λ o. option_or o (Some x)) none in
    record {
      heard = t.heard;
      true_of = λ s o. true_same s (download_of g) es e refl tt (t.true_of s o);
      cuts = cuts_same g es e refl t.cuts;
      within = All-push IsWithin es e t.within tt;
      starts = starts_same g.range.start es e refl t.starts;
      ends = ends_same es e refl t.ends;
      numbers = each-push IsNumberedNext es e t.numbers tt;
      stored = stored_same g.file es e b.clients refl t.stored;
      served = served_same es e sl.hidden sl.late b.clients n.clients (λ l. refl) (λ l. refl) (λ p k. refl) (λ m. tt) t.served;
      expired = expired_same es e 0 sl.heard sl.late (λ l w. refl) t.expired;
      late_planned = late_push es e sl.heard t.late_planned;
      heard_served = heard_served_same es e 0 sl.heard sl.hidden (λ l w. refl) t.heard_served;
      unfailed = t.unfailed;
      asked = first_push g.file es e sl.lost sl.lost b.clients n.clients refl t.asked;
      heard_asked = heard_push g.file es e sl.lost sl.lost sl.heard refl t.heard_asked;
      lost = lost_push g es e sl.lost [] sl.lost refl refl refl t.lost;
      said = said_push g es e sl.heard (λ x. tt) t.said;
      tried = record {
        at_most = λ p k. let a = t.tried.at_most p k in let c = count-same (expires p k) es e refl in omega (arith, a, c);
        spent = λ h. let s = spent (cc) in (s.0, s.1, count-same (expires s.0 s.1) es e refl ∙ s.2);
      };
      renewed = each-push IsRenewed es e t.renewed tt;
      refreshes = t.refreshes;
      passed = All-push (EventPassed g sl.heard) es e t.passed tt;
      one_cached = each-push IsOneCached es e t.one_cached tt;
      looked = looked_push es e sl.pending sl.pending (all_of sl.hidden ++ lates_of sl.heard) (all_of sl.hidden ++ lates_of sl.heard) sl.looks b.clients b.cache n.cache refl (λ y r. omega arith) t.looked;
      looked_entries = t.looked_entries;
      gained = t.gained;
      offered = offered_push es e sl.due sl.due b.cache n.cache (omega arith) t.offered;
      polled = polled_push es e sl.spare sl.spare b.signal n.signal (omega arith) t.polled;
      limited = limited_same es e b.limits n.limits refl t.limited;
      taken = taken_push g es e sl.heard sl.looks sl.ahead sl.ahead b.clients b.cache b.sink n.sink (omega arith) t.taken;
      recorded = record { answered = λ y h. sym first ∙ h; recorded = λ y h. inr (first ∙ h) };
    }
  where
    no_error : (o : Option FileReconstructionError) → first_error es ≡ o → o ≡ None
    no_error None h = refl
    no_error (Some y) h = let z = t.recorded.answered y h in absurd (cc)

-- want of memory is not recorded
pub tie_short : (g : Setup) (b n : RunTold) (es : List Event) (sl : Slack) → Ties g b n es None sl → Ties g b n es (Some error.OutOfMemory) sl
tie_short g b n es sl t = record {
  heard = t.heard;
  true_of = t.true_of;
  cuts = t.cuts;
  within = t.within;
  starts = t.starts;
  ends = t.ends;
  numbers = t.numbers;
  stored = t.stored;
  served = t.served;
  expired = t.expired;
  late_planned = t.late_planned;
  heard_served = t.heard_served;
  unfailed = t.unfailed;
  asked = t.asked;
  heard_asked = t.heard_asked;
  lost = t.lost;
  said = t.said;
  tried = record { at_most = t.tried.at_most; spent = λ h. absurd (cc) };
  renewed = t.renewed;
  refreshes = t.refreshes;
  passed = t.passed;
  one_cached = t.one_cached;
  looked = t.looked;
  looked_entries = t.looked_entries;
  gained = t.gained;
  offered = t.offered;
  polled = t.polled;
  limited = t.limited;
  taken = t.taken;
  recorded = record { answered = λ y h. let z = t.recorded.answered y h in absurd (cc); recorded = λ y h. inl (cc) };
}
