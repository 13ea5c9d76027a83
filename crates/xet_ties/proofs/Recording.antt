-- The ties after the events that take from the slack.
use Rattle.std.proofs.Common.{◌≡◌, ℕ, ◌+◌, ◌≤◌, false, cond, List, [], ◌∷◌, ◌++◌, length, refl, sym, subst, ◌∙◌, ap, arith, None}
use Rattle.std.specs.Prelude.{count_by, map}
use Rattle.xet_base.specs.declared.cas_types.ChunkRange.{ChunkRange}
use Rattle.xet_base.specs.declared.merklehash.MerkleHash.{MerkleHash}
use Rattle.xet_outside.proofs.CallerLemmas.{count_by-cons}
use Rattle.xet_outside.specs.declared.served.Served.{Served}
use Rattle.xet_events.specs.declared.event.Event.{Event}
use Rattle.xet_events.specs.declared.event.Event.TheVariants.{Fetched, Expired, Refreshed, Wrote}
use Rattle.xet_events.specs.declared.event.PlannedBlock.{PlannedBlock}
use Rattle.xet_ties.specs.History.{block_at, entry_of, is_expired, range_at, round_in}
use Rattle.xet_ties.specs.InCall.{Place}
use Rattle.xet_ties.specs.Saids.{FirstRenewed, HasPassed}
use Rattle.xet_ties.specs.Setup.{RunTold, Setup}
use Rattle.xet_ties.specs.Ties.{EachExpired, IsServed, Slack, Ties, all_late, all_of, at_place, has_one, is_one, is_served, EachServed}
use Rattle.xet_ties.proofs.Lanes.{count_hidden, count_late, served_expired, served_fetched, served_same}
use Rattle.xet_ties.proofs.Lates.{expired_next, expired_same}
use Rattle.xet_ties.proofs.Moves.{tie_event}
use Rattle.xet_base.specs.declared.cas_types.FileRange.{FileRange}
use Rattle.xet_ties.proofs.HeardServed.{heard_served_same, heard_served_next}

-- a lane's next served entry is recorded
pub tie_fetched : (g : Setup) (b n : RunTold) (es : List Event) (sl : Slack) (m p k : ℕ) (x : PlannedBlock) (h : List Served) (before after : List (List Served))
    → block_at es p k ≡ x ∷ [] → is_expired es p k ≡ false → m ≡ length before → sl.hidden ≡ before ++ (entry_of p k x ∷ h) ∷ after → HasPassed g sl.heard p k → (spare : ℕ) → length (round_in es (Fetched m p k)) + spare ≤ sl.spare
    → Ties g b n es None sl → Ties g b n (es ++ Fetched m p k ∷ []) None (record sl { hidden = before ++ h ∷ after; due = sl.due + cond (has_one x) 1 0; spare = spare })
tie_fetched g b n es sl m p k x h before after at fresh is hidden passed spare fits t =
    let e : Event = Fetched m p k in
    let to : Slack = record sl { hidden = before ++ h ∷ after; due = sl.due + cond (has_one x) 1 0; spare = spare } in
    tie_event g b n es e sl to
    (record {
      heard = refl;
      looks = refl;
      calm = refl;
      query = refl;
      true_of = λ s. tt;
      said = λ x. tt;
      within = tt;
      plan = refl;
      tasks = refl;
      served = λ bs ns v. served_fetched es m p k x h before after sl.late bs ns at is (subst (λ (l : List (List Served)). IsServed es l sl.late bs ns) hidden v);
      expired = λ xs v. expired_same es e 0 xs sl.late (λ l w. refl) v;
      heard_served = λ xs v. heard_served_next es m p k 0 x h xs before after at (omega (arith, is)) (subst (λ (l : List (List Served)). EachServed es 0 xs l) hidden v);
      asked = refl;
      tried = λ q j. let a = t.tried.at_most q j in omega (arith, a);
      renewed = fresh;
      refreshes = λ r. r;
      passed = passed;
      one_cached = tt;
      cached = refl;
      pending = λ y r.
          let c = ap (λ (l : List PlannedBlock). count_by (is_one y r) l) at in
          let d = ap (λ (l : List (List Served)). count_by (is_served y r) (all_of l)) hidden in
          let u = count_by-cons (is_one y r) x [] in
          let v = count_hidden (is_served y r) (entry_of p k x) h after before in
          omega (arith, c, d, u, v);
      due = let c = ap (λ (l : List PlannedBlock). count_by has_one l) at in let u = count_by-cons has_one x [] in omega (arith, c, u);
      spare = fits;
      limit = refl;
      ahead = omega arith;
      error = refl;
    }) t

-- a lane's next expired answer is recorded
pub tie_expired : (g : Setup) (b n : RunTold) (es : List Event) (sl : Slack) (m p k : ℕ) (j : List Place) (before after : List (List Place))
    → is_expired es p k ≡ false → m ≡ length before → sl.late ≡ before ++ ((p, k) ∷ j) ∷ after → (spare : ℕ) → length (round_in es (Expired m p k)) + spare ≤ sl.spare
    → Ties g b n es None sl → Ties g b n (es ++ Expired m p k ∷ []) None (record sl { late = before ++ j ∷ after; spare = spare })
tie_expired g b n es sl m p k j before after fresh is late spare fits t =
    let e : Event = Expired m p k in
    tie_event g b n es e sl (record sl { late = before ++ j ∷ after; spare = spare })
    (record {
      heard = refl;
      looks = refl;
      calm = refl;
      query = refl;
      true_of = λ s. tt;
      said = λ x. tt;
      within = tt;
      plan = refl;
      tasks = refl;
      served = λ bs ns v. served_expired es m p k j sl.hidden before after bs ns is (subst (λ (l : List (List Place)). IsServed es sl.hidden l bs ns) late v);
      expired = λ xs v. expired_next es m p k j 0 xs before after (omega (arith, is)) (subst (λ (l : List (List Place)). EachExpired es 0 xs l) late v);
      heard_served = λ xs v. heard_served_same es e 0 xs sl.hidden (λ l w. refl) v;
      asked = refl;
      tried = λ q i.
          let a = t.tried.at_most q i in
          let s = ap (λ (l : List (List Place)). count_by (at_place q i) (all_late l)) late in
          let d = count_late q i (p, k) j after before in
          omega (arith, a, s, d);
      renewed = fresh;
      refreshes = λ r. r;
      passed = tt;
      one_cached = tt;
      cached = refl;
      pending = λ y r. omega arith;
      due = omega arith;
      spare = fits;
      limit = refl;
      ahead = omega arith;
      error = refl;
    }) t

-- the refresh of a plan is recorded
pub tie_refreshed : (g : Setup) (b n : RunTold) (es : List Event) (sl : Slack) (p : ℕ) (r : FileRange) → range_at es p ≡ r ∷ [] → sl.lost ≡ (g.file, r) ∷ [] → (FirstRenewed g sl.lost sl.heard → FirstRenewed g [] sl.heard)
    → Ties g b n es None sl → Ties g b n (es ++ Refreshed p ∷ []) None (record sl { lost = [] })
tie_refreshed g b n es sl p r at lost renewed t =
    let e : Event = Refreshed p in
    tie_event g b n es e sl (record sl { lost = [] })
    (record {
      heard = refl;
      looks = refl;
      calm = refl;
      query = refl;
      true_of = λ s. tt;
      said = λ x. tt;
      within = tt;
      plan = refl;
      tasks = refl;
      served = λ bs ns v. served_same es e sl.hidden sl.late bs ns (λ l. refl) (λ l. refl) (λ q k. refl) (λ m. tt) v;
      expired = λ xs v. expired_same es e 0 xs sl.late (λ l w. refl) v;
      heard_served = λ xs v. heard_served_same es e 0 xs sl.hidden (λ l w. refl) v;
      asked = lost ∙ ap (λ (l : List FileRange). map (λ v. (g.file, v)) l ++ []) (sym at);
      tried = λ q j. let a = t.tried.at_most q j in omega (arith, a);
      renewed = tt;
      refreshes = renewed;
      passed = tt;
      one_cached = tt;
      cached = refl;
      pending = λ y v. omega arith;
      due = omega arith;
      spare = omega arith;
      limit = refl;
      ahead = omega arith;
      error = refl;
    }) t

-- written bytes are recorded
pub tie_wrote : (g : Setup) (b n : RunTold) (es : List Event) (sl : Slack) (taken rest : ℕ) → sl.ahead ≡ taken + rest → Ties g b n es None sl → Ties g b n (es ++ Wrote taken ∷ []) None (record sl { ahead = rest })
tie_wrote g b n es sl taken rest is t =
    let e : Event = Wrote taken in
    tie_event g b n es e sl (record sl { ahead = rest })
    (record {
      heard = refl;
      looks = refl;
      calm = refl;
      query = refl;
      true_of = λ s. tt;
      said = λ x. tt;
      within = tt;
      plan = refl;
      tasks = refl;
      served = λ bs ns v. served_same es e sl.hidden sl.late bs ns (λ l. refl) (λ l. refl) (λ q k. refl) (λ m. tt) v;
      expired = λ xs v. expired_same es e 0 xs sl.late (λ l w. refl) v;
      heard_served = λ xs v. heard_served_same es e 0 xs sl.hidden (λ l w. refl) v;
      asked = refl;
      tried = λ q j. let a = t.tried.at_most q j in omega (arith, a);
      renewed = tt;
      refreshes = λ r. r;
      passed = tt;
      one_cached = tt;
      cached = refl;
      pending = λ y v. omega arith;
      due = omega arith;
      spare = omega arith;
      limit = refl;
      ahead = is;
      error = refl;
    }) t

-- fewer blocks may be pending, and fewer asks of the signal spare
pub tie_rest : (g : Setup) (b n : RunTold) (es : List Event) (sl : Slack) (rest : List PlannedBlock) (spare : ℕ) → ((x : MerkleHash) (r : ChunkRange) → count_by (is_one x r) rest ≤ count_by (is_one x r) sl.pending) → spare ≤ sl.spare
    → Ties g b n es None sl → Ties g b n es None (record sl { pending = rest; spare = spare })
tie_rest g b n es sl rest spare fewer less t = record {
  heard = t.heard;
  true_of = t.true_of;
  cuts = t.cuts;
  within = t.within;
  starts = t.starts;
  ends = t.ends;
  numbers = t.numbers;
  stored = t.stored;
  served = t.served;
  expired = t.expired;
  late_planned = t.late_planned;
  heard_served = t.heard_served;
  unfailed = t.unfailed;
  asked = t.asked;
  heard_asked = t.heard_asked;
  lost = t.lost;
  said = t.said;
  tried = t.tried;
  renewed = t.renewed;
  refreshes = t.refreshes;
  passed = t.passed;
  one_cached = t.one_cached;
  looked = record {
    looked = t.looked.looked;
    cover = λ x r.
        let c = t.looked.cover x r in
        let f = fewer x r in
        let c0 = c.kept in
        record { kept = omega (arith, c0, f); cached = c.cached; honest = λ s o. let c2 = c.honest s o in omega (arith, c2, f) };
  };
  looked_entries = t.looked_entries;
  gained = t.gained;
  offered = t.offered;
  polled = record { polls = t.polled.polls; asks = t.polled.asks; cover = let c = t.polled.cover in omega (arith, c, less); later = t.polled.later };
  limited = t.limited;
  taken = t.taken;
  recorded = t.recorded;
}
