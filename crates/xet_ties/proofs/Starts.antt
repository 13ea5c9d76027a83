-- The ties at the start and at the end of a run.
use Rattle.std.proofs.Common.{◌≡◌, ℕ, ◌+◌, Bool, List, [], ◌∷◌, ◌++◌, length, Option, Some, None, refl, sym, subst, ◌∙◌, ap, inr, arith, ◌≤◌}
use Rattle.std.specs.Prelude.{IfSome, count_by, map, option_map, All}
use Rattle.std.specs.Option.{option_or}
use Rattle.std.proofs.lemmas.List.{append-nil, length-map}
use Rattle.std.proofs.lemmas.List.Elements.{All-nil, All-cons, All-push}
use Rattle.xet_base.specs.declared.merklehash.MerkleHash.{MerkleHash}
use Rattle.xet_outside.specs.declared.served.Served.{Served}
use Rattle.xet_outside.specs.Told.{ClientTold, SinkTold}
use Rattle.xet_events.specs.Limits.{LimitTold, LimitCall}
use Rattle.xet_error.specs.declared.error.FileReconstructionError.{FileReconstructionError}
use Rattle.xet_error.specs.declared.error.Setting.{Setting}
use Rattle.xet_events.specs.declared.event.Event.{Event}
use Rattle.xet_events.specs.declared.event.Event.TheVariants.{Cancel, Admit}
use Rattle.xet_events.specs.Events.{expires, first_error}
use Rattle.xet_history.specs.TrueHistory.{IsTrueEvent}
use Rattle.xet_events.proofs.CallerLemmas.{error-push}
use Rattle.xet_ties.specs.History.{IsNumberedNext, IsOneCached, IsRenewed, IsOnLane, IsWithin}
use Rattle.xet_ties.specs.Moves.{no_slack, no_hidden, no_late, no_exchange}
use Rattle.xet_ties.specs.Causes.{refused_setting}
use Rattle.xet_ties.specs.Setup.{RunTold, Setup, download_of}
use Rattle.xet_ties.specs.Ties.{all_late, all_of, at_place, is_pair, is_served, EachLane, EachUnasked, EachUnfailed, FirstAsked, IsFaultless, HeardAsked, IsEntryOf, IsLane, MayLeave, NoneLate, Slack, Ties, IsPlannedEntry, LeavesNothing, IsServed, lates_of}
use Rattle.xet_ties.proofs.Lanes.{served_same}
use Rattle.xet_ties.proofs.Lates.{expired_same, expired_start, late_push, late_start}
use Rattle.xet_ties.proofs.Moves.{tie_fail, tie_admit, tie_limit}
use Rattle.xet_ties.proofs.Pushes.{first_push, limited_same, looked_push, offered_push, polled_push, grew_by_none, reaches_start, starts_same, stored_same, taken_push, true_same, cuts_same, lost_push}
use Rattle.xet_ties.proofs.Numbers.{heard_push}
use Rattle.xet_ties.proofs.Telling.{count-append, count-same, each-push}
use Rattle.xet_error.specs.declared.error.FileReconstructionError.TheVariants as error
use Rattle.xet_terms.specs.Settings.{failing_setting}
use Rattle.xet_ties.specs.Saids.{EventPassed, FirstSaid, IsEventSaid, IsUnasked}
use Rattle.xet_ties.specs.PartCalls.{AdmitsCall, stop_event}
use Rattle.xet_ties.proofs.Heard.{exchange_start, said_push}
use Rattle.xet_ties.proofs.Renewed.{renewed_start}
use Rattle.xet_ties.proofs.Gains.{gained_none}
use Rattle.xet_ties.proofs.EarlyEnds.{ends_same, cuts_none}
use Rattle.xet_ties.proofs.HeardServed.{heard_served_same, heard_served_start}

-- ---- the start

pub same_list : {A : Type 0} (o : Option (List A)) → o ≡ option_map (λ xs. xs ++ []) o
same_list {A} None = refl
same_list {A} (Some xs) = ap (λ (l : List A). Some l) (sym (append-nil xs))

lane_start : (l : ℕ) (b : ClientTold) → IsLane [] l b b [] []
lane_start l b = record { goes_on = record { store = refl; link = refl; faults = omega arith; expiries = omega arith }; served = same_list b.served; expired = omega arith }

lanes_start : (l : ℕ) (bs : List ClientTold) → EachLane [] l bs bs (no_hidden bs) (no_late bs)
lanes_start l [] = tt
lanes_start l (b ∷ bs) = (lane_start l b, lanes_start (l + 1) bs)

unasked_start : (bs : List ClientTold) → EachUnasked bs bs
unasked_start [] = tt
unasked_start (b ∷ bs) = (refl, unasked_start bs)

asked_start : (g : Setup) (bs : List ClientTold) → refused_setting g bs ≡ None → FirstAsked g.file [] [] bs bs
asked_start g [] h = absurd (cc)
asked_start g (b ∷ bs) h = (record { asked = same_list b.asked }, unasked_start bs)

none_hidden_by : (T : Served → Bool) (bs : List ClientTold) → count_by T (all_of (no_hidden bs)) ≡ 0
none_hidden_by T [] = refl
none_hidden_by T (b ∷ bs) = none_hidden_by T bs

none_lates : (T : Served → Bool) (bs : List ClientTold) → count_by T (lates_of (no_exchange bs)) ≡ 0
none_lates T [] = refl
none_lates T (b ∷ bs) = none_lates T bs

none_asked : (T : Served → Bool) (bs : List ClientTold) → count_by T (all_of (no_hidden bs) ++ lates_of (no_exchange bs)) ≡ 0
none_asked T bs =
    let h = none_hidden_by T bs in
    let l = none_lates T bs in
    let c = count-append T (all_of (no_hidden bs)) (lates_of (no_exchange bs)) in
    omega (arith, h, l, c)

pub none_late_count : (p k : ℕ) (bs : List ClientTold) → count_by (at_place p k) (all_late (no_late bs)) ≡ 0
none_late_count p k [] = refl
none_late_count p k (b ∷ bs) = none_late_count p k bs

heard_start : (g : Setup) (bs : List ClientTold) → refused_setting g bs ≡ None → HeardAsked g.file [] [] (no_exchange bs)
heard_start g [] h = absurd (cc)
heard_start g (b ∷ bs) h = refl

unasked_none : (bs : List ClientTold) → All IsUnasked (no_exchange bs)
unasked_none [] = All-nil IsUnasked
unasked_none (b ∷ bs) = All-cons IsUnasked _ (no_exchange bs) (record { asked = refl; plans = refl }) (unasked_none bs)

said_start : (g : Setup) (bs : List ClientTold) → refused_setting g bs ≡ None → FirstSaid g [] (no_exchange bs)
said_start g [] h = absurd (cc)
said_start g (b ∷ bs) h = (All-nil (IsEventSaid g _), unasked_none bs)

none_planned : (bs : List ClientTold) → All (IsPlannedEntry []) (all_of (no_hidden bs))
none_planned [] = All-nil (IsPlannedEntry [])
none_planned (b ∷ bs) = none_planned bs

pub served_start : (bs : List ClientTold) → IsServed [] (no_hidden bs) (no_late bs) bs bs
served_start bs = record { lanes = lanes_start 0 bs; once = λ p k. let n = none_hidden_by (is_pair p k) bs in omega (arith, n); planned = none_planned bs; on_lanes = All-nil (IsOnLane (length bs)); past = refl }

pub first_start : (f : MerkleHash) (b : ClientTold) (bs : List ClientTold) → FirstAsked f [] [] (b ∷ bs) (b ∷ bs)
first_start f b bs = (record { asked = same_list b.asked }, unasked_start bs)

pub unfailed_start : (bs : List ClientTold) → EachUnfailed bs bs
unfailed_start [] = tt
unfailed_start (b ∷ bs) = (refl, unfailed_start bs)

-- at the start all is tied
pub tie_start : (g : Setup) (b : RunTold) → refused_setting g b.clients ≡ None → Ties g b b [] None (no_slack b.clients)
tie_start g b h = record {
  heard = exchange_start b.clients;
  true_of = λ s o. record { cuts = tt; plans = All-nil (IsTrueEvent s g.file g.multirange) };
  cuts = cuts_none g;
  within = All-nil IsWithin;
  starts = tt;
  ends = tt;
  numbers = tt;
  stored = λ s tell k. absurd (omega arith);
  served = served_start b.clients;
  expired = expired_start 0 b.clients;
  late_planned = late_start b.clients;
  heard_served = heard_served_start 0 b.clients;
  unfailed = unfailed_start b.clients;
  asked = asked_start g b.clients h;
  heard_asked = heard_start g b.clients h;
  lost = tt;
  said = said_start g b.clients h;
  tried = record { at_most = λ p k. let l = none_late_count p k b.clients in omega (arith, l); spent = λ e. absurd (cc) };
  renewed = tt;
  refreshes = renewed_start g b.clients h;
  passed = All-nil (EventPassed g (no_exchange b.clients));
  one_cached = tt;
  looked = record { looked = same_list b.cache.looked; cover = λ x r. let h = none_asked (is_served x r) b.clients in record { kept = omega (arith, h); cached = omega arith; honest = λ s o. omega (arith, h) } };
  looked_entries = All-nil (IsEntryOf b.cache.entries);
  gained = gained_none g (no_exchange b.clients) b.cache;
  offered = record { puts = 0; offers = grew_by_none b.cache.offers; cover = omega arith; faults = omega arith };
  polled = record { polls = 0; asks = reaches_start b.signal.asks; cover = omega arith; later = omega arith };
  limited = record { answers = []; listed = same_list b.limits.limits; among = tt; fixed = none_are b.limits.fixed; same = refl; within = none_are b.limits.most; same_most = refl };
  taken = record { taken = []; took = same_list b.sink.took; counted = refl; pieces = λ s o c. record { rest = []; joined = refl }; tested = record { pieces = []; each = tt; from = record { rest = []; joined = refl } }; faults = omega arith; link = refl };
  recorded = record { answered = λ e x. absurd (cc); recorded = λ e x. absurd (cc) };
}
  where
    none_are : (o : Option ℕ) → IfSome o (λ k. Unit {0})
    none_are None = tt
    none_are (Some k) = tt

-- ---- the end

-- a cancel is recorded
pub tie_cancel : (g : Setup) (b n : RunTold) (es : List Event) (sl : Slack) → Ties g b n es None sl → Ties g b n (es ++ Cancel ∷ []) (Some error.Cancelled) sl
tie_cancel g b n es sl t =
    let e : Event = Cancel in
    let none : first_error es ≡ None = no_error (first_error es) refl in
    let first : first_error (es ++ e ∷ []) ≡ Some error.Cancelled = error-push es e ∙ ap (λ o. option_or o (Some error.Cancelled)) none in
    record {
      heard = t.heard;
      true_of = λ s o. true_same s (download_of g) es e refl tt (t.true_of s o);
      cuts = cuts_same g es e refl t.cuts;
      within = All-push IsWithin es e t.within tt;
      starts = starts_same g.range.start es e refl t.starts;
      ends = ends_same es e refl t.ends;
      numbers = each-push IsNumberedNext es e t.numbers tt;
      stored = stored_same g.file es e b.clients refl t.stored;
      served = served_same es e sl.hidden sl.late b.clients n.clients (λ l. refl) (λ l. refl) (λ p k. refl) (λ m. tt) t.served;
      expired = expired_same es e 0 sl.heard sl.late (λ l w. refl) t.expired;
      late_planned = late_push es e sl.heard t.late_planned;
      heard_served = heard_served_same es e 0 sl.heard sl.hidden (λ l w. refl) t.heard_served;
      unfailed = t.unfailed;
      asked = first_push g.file es e sl.lost sl.lost b.clients n.clients refl t.asked;
      heard_asked = heard_push g.file es e sl.lost sl.lost sl.heard refl t.heard_asked;
      lost = lost_push g es e sl.lost [] sl.lost refl refl refl t.lost;
      said = said_push g es e sl.heard (λ x. tt) t.said;
      tried = record { at_most = λ p k. let a = t.tried.at_most p k in let c = count-same (expires p k) es e refl in omega (arith, a, c); spent = λ h. absurd (cc) };
      renewed = each-push IsRenewed es e t.renewed tt;
      refreshes = t.refreshes;
      passed = All-push (EventPassed g sl.heard) es e t.passed tt;
      one_cached = each-push IsOneCached es e t.one_cached tt;
      looked = looked_push es e sl.pending sl.pending (all_of sl.hidden ++ lates_of sl.heard) (all_of sl.hidden ++ lates_of sl.heard) sl.looks b.clients b.cache n.cache refl (λ y r. omega arith) t.looked;
      looked_entries = t.looked_entries;
      gained = t.gained;
      offered = offered_push es e sl.due sl.due b.cache n.cache (omega arith) t.offered;
      polled = polled_push es e sl.spare sl.spare b.signal n.signal (omega arith) t.polled;
      limited = limited_same es e b.limits n.limits refl t.limited;
      taken = taken_push g es e sl.heard sl.looks sl.ahead sl.ahead b.clients b.cache b.sink n.sink (omega arith) t.taken;
      recorded = record { answered = λ y h. sym first ∙ h; recorded = λ y h. inr (first ∙ h) };
    }
  where
    no_error : (o : Option FileReconstructionError) → first_error es ≡ o → o ≡ None
    no_error None h = refl
    no_error (Some y) h = let z = t.recorded.answered y h in absurd (cc)

-- while it goes on no error is recorded
pub runs : (g : Setup) (b n : RunTold) (es : List Event) (sl : Slack) → Ties g b n es None sl → first_error es ≡ None
runs g b n es sl t = go (first_error es) refl
  where
    go : (o : Option FileReconstructionError) → first_error es ≡ o → o ≡ None
    go None h = refl
    go (Some y) h = let z = t.recorded.answered y h in absurd (cc)

pub tie_stop : (g : Setup) (b n : RunTold) (es : List Event) (sl : Slack) (x : FileReconstructionError) → (x ≡ error.UrlExpired → (p : ℕ) × (k : ℕ) × (count_by (expires p k) es ≡ g.tries)) → Ties g b n es None sl
    → Ties g b n (es ++ stop_event x ∷ []) (Some x) sl
tie_stop g b n es sl error.OutOfMemory s t = tie_fail g b n es sl error.OutOfMemory s t
tie_stop g b n es sl error.ClientError s t = tie_fail g b n es sl error.ClientError s t
tie_stop g b n es sl error.FileNotFound s t = tie_fail g b n es sl error.FileNotFound s t
tie_stop g b n es sl error.UrlExpired s t = tie_fail g b n es sl error.UrlExpired s t
tie_stop g b n es sl error.IoError s t = tie_fail g b n es sl error.IoError s t
tie_stop g b n es sl (error.CorruptedReconstruction k) s t = tie_fail g b n es sl (error.CorruptedReconstruction k) s t
tie_stop g b n es sl (error.ConfigurationError k) s t = tie_fail g b n es sl (error.ConfigurationError k) s t
tie_stop g b n es sl error.Cancelled s t = tie_cancel g b n es sl t
tie_stop g b n es sl (error.InternalWriterError k) s t = tie_fail g b n es sl (error.InternalWriterError k) s t

-- ---- the flush

pub tie_flush : (g : Setup) (b n : RunTold) (es : List Event) (sl : Slack) (to : SinkTold) → to.took ≡ n.sink.took → n.sink.faults ≤ to.faults → to.link ≡ n.sink.link → Ties g b n es None sl → Ties g b (record n { sink = to }) es None sl
tie_flush g b n es sl to took faults link t = record {
  heard = t.heard;
  true_of = t.true_of;
  cuts = t.cuts;
  within = t.within;
  starts = t.starts;
  ends = t.ends;
  numbers = t.numbers;
  stored = t.stored;
  served = t.served;
  expired = t.expired;
  late_planned = t.late_planned;
  heard_served = t.heard_served;
  unfailed = t.unfailed;
  asked = t.asked;
  heard_asked = t.heard_asked;
  lost = t.lost;
  said = t.said;
  tried = t.tried;
  renewed = t.renewed;
  refreshes = t.refreshes;
  passed = t.passed;
  one_cached = t.one_cached;
  looked = t.looked;
  looked_entries = t.looked_entries;
  gained = t.gained;
  offered = t.offered;
  polled = t.polled;
  limited = t.limited;
  taken = record {
    taken = t.taken.taken;
    took = took ∙ t.taken.took;
    counted = t.taken.counted;
    pieces = t.taken.pieces;
    tested = t.taken.tested;
    faults = let f = t.taken.faults in omega (arith, f, faults);
    link = link ∙ t.taken.link;
  };
  recorded = t.recorded;
}

-- ---- what a run may leave

pub none_hidden : (bs : List ClientTold) → all_of (no_hidden bs) ≡ []
none_hidden [] = refl
none_hidden (b ∷ bs) = none_hidden bs

pub short_leaves : (bs : List ClientTold) (sl : Slack) → MayLeave (Some error.OutOfMemory) bs sl
short_leaves bs sl = record { none = λ e. absurd (cc); honest = λ s o other. absurd (other refl); late = λ other. absurd (other refl); counted = λ other _. absurd (other refl); quiet = λ c. absurd c }

pub steady_leaves : (bs : List ClientTold) (e : FileReconstructionError) (sl : Slack) → all_of sl.hidden ≡ [] → NoneLate sl.late → sl.ahead ≡ 0 → (IsFaultless (Some e) → sl.calm ≡ length bs) → MayLeave (Some e) bs sl
steady_leaves bs e sl hidden late ahead calm = record { none = λ h. absurd (cc); honest = λ s o other. hidden; late = λ other. late; counted = λ other io. ahead; quiet = λ c. record { calm = calm c; hidden = hidden } }

pub steady_ends : (bs : List ClientTold) (sl : Slack) → LeavesNothing sl → NoneLate sl.late → sl.calm ≡ length bs → MayLeave None bs sl
steady_ends bs sl l late calm = record { none = λ h. l; honest = λ s o other. l.hidden; late = λ other. late; counted = λ other io. l.ahead; quiet = λ c. record { calm = calm; hidden = l.hidden } }

-- ---- limits

pub admits_none : (m : LimitTold) (es : List Event) → AdmitsCall m m es es
admits_none m es = record { ties = λ g b at sl is t. subst (λ (l : LimitTold). Ties g b (record at { limits = l }) es None sl) is t }

pub admits_one : (m n k : LimitTold) (es fs hs : List Event) (l : ℕ) → AdmitsCall m n es fs → LimitCall n k l → hs ≡ fs ++ Admit l ∷ [] → AdmitsCall m k es hs
admits_one m n k es fs hs l a c e = record {
  ties = λ g b at sl is t. subst (λ (x : List Event). Ties g b (record at { limits = k }) x None sl) (sym e) (tie_admit g b (record at { limits = n }) fs sl k l c (a.ties g b at sl is t));
}

pub admits_asked : (m n k : LimitTold) (es fs hs : List Event) (l : ℕ) → AdmitsCall m n es fs → LimitCall n k l → hs ≡ fs → AdmitsCall m k es hs
admits_asked m n k es fs hs l a c e = record {
  ties = λ g b at sl is t. subst (λ (x : List Event). Ties g b (record at { limits = k }) x None sl) (sym e) (tie_limit g b (record at { limits = n }) fs sl k l c (a.ties g b at sl is t));
}

-- ---- settings

-- a run that is lent connections refuses what fails of their number
pub refused_is : {C : Type 0} (told : C → ClientTold) (g : Setup) (cs : List C) (o : Option Setting) → o ≡ failing_setting (length cs) g.tries g.least g.greatest → refused_setting g (map told cs) ≡ o
refused_is told g cs o h = ap (λ (n : ℕ). failing_setting n g.tries g.least g.greatest) (length-map cs told) ∙ sym h
