-- Whether a stream is at its end, and what refuses a pull.
use Rattle.std.proofs.Common.{◌≡◌, ⊎_elim, inl, inr, ℕ, zero, suc, ◌<◌, ◌≤◌, ◌||◌, Bool, true, false, List, [], ◌∷◌, length, refl, sym, subst, ◌∙◌, ap, arith, Option, Some, None}
use Rattle.std.specs.Prelude.{MatchOption, nat_le, nat_lt, not}
use Rattle.std.specs.Option.{is_some}
use Rattle.std.proofs.lemmas.Bool.{leb-false, leb-true, lt-ltb}
use Rattle.xet_outside.specs.Told.{ClientTold}
use Rattle.xet_error.specs.declared.error.FileReconstructionError.{FileReconstructionError}
use Rattle.xet_error.specs.declared.error.Setting.{Setting}
use Rattle.xet_error.specs.declared.error.Setting.TheVariants.{NoConnection}
use Rattle.xet_events.specs.declared.event.Event.{Event}
use Rattle.xet_events.specs.Events.{Task}
use Rattle.xet_history.specs.TrueHistory.{ReachesEnd}
use Rattle.xet_terms.specs.Settings.{failing_setting}
use Rattle.xet_ties.specs.Causes.{refused_setting}
use Rattle.xet_ties.specs.Setup.{Setup}
use Rattle.xet_leader.specs.declared.ahead.NextTerm.{NextTerm}
use Rattle.xet_leader.specs.Led.{Led}
use Rattle.xet_leader.specs.LedTerms.{IsNextTerm, NoneHas, ahead, of_plan, task_of}
use Rattle.xet_stream_rules.specs.Streams.{IsAtEnd, StreamView, is_closed, next_term, nobody, IsOpen}
use Rattle.xet_stream_rules.proofs.CallerLemmas.{none_next, some_next}
use Rattle.xet_streams.specs.Parts.{HoldsAt}
use Rattle.xet_streams.specs.steps.Pulling.{AsksFlag, Refusal, CanBegin, IsUnrefused}
use Rattle.xet_streams.proofs.Starting.{none_reaches}

-- ---- the end

-- a range without bytes is at its end
pub empty_end : (g : Setup) (es : List Event) (o : Option Led) (reached : Bool) → HoldsAt g es o reached
    → g.range.end ≤ g.range.start → IsAtEnd g.range es
empty_end g es None reached h none = record {
  all = ap next_term h.0;
  reached = λ some. absurd (omega (arith, none, some));
}
empty_end g es (Some l) reached h none = let some = h.0.led.some in absurd (omega (arith, none, some))

-- one with bytes of which nothing was asked isn't
pub unasked_end : (g : Setup) (es : List Event) (reached : Bool) → HoldsAt g es None reached
    → g.range.start < g.range.end → IsAtEnd g.range es → ⊥
unasked_end g es reached h some e =
    none_reaches g.range some (subst (λ (v : List Event). ReachesEnd g.range v) h.0 (e.reached some))

-- one that is planned to its end, and of which no planned term is left
pub marked_end : (g : Setup) (es : List Event) (l : Led) (reached : Bool) → HoldsAt g es (Some l) reached
    → reached ≡ true → NoneHas (ahead l) → IsAtEnd g.range es
marked_end g es l reached h mark none = record {
  all = none_next nobody g es l h.0 none;
  reached = λ some. h.1.yes mark;
}

-- one that isn't planned to its end
pub unmarked_end : (g : Setup) (es : List Event) (l : Led) (reached : Bool) → HoldsAt g es (Some l) reached
    → reached ≡ false → IsAtEnd g.range es → ⊥
unmarked_end g es l reached h mark e = h.1.no mark (e.reached h.0.led.some)

-- one of which a planned term is left
pub left_end : (g : Setup) (es : List Event) (l : Led) (reached : Bool) → HoldsAt g es (Some l) reached
    → (n : NextTerm) → IsNextTerm l n → IsAtEnd g.range es → ⊥
left_end g es l reached h n x e =
    let there = some_next nobody g es l h.0 x.count (of_plan x.plan n.term) x.first in
    let z : ◌≡◌ {A = Option Task} None (Some (task_of (of_plan x.plan n.term))) = sym e.all ∙ there in
    cc

-- by what the leader was asked
module _ (g : Setup) (es : List Event) (o : Option Led) (reached : Bool) (holds : HoldsAt g es o reached) (l : Led)
    (is : o ≡ Some l) (mark : reached ≡ true) (n : Option NextTerm)
    (next : MatchOption n (NoneHas (ahead l)) (IsNextTerm l)) (b : Bool) (none : is_some n ≡ not b) where
  held : HoldsAt g es (Some l) reached
  held = subst (λ (v : Option Led). HoldsAt g es v reached) is holds

  pub end_found : b ≡ true → IsAtEnd g.range es
  end_found e = by n refl next
    where
      by : (m : Option NextTerm) → n ≡ m → MatchOption m (NoneHas (ahead l)) (IsNextTerm l) → IsAtEnd g.range es
      by None same h = marked_end g es l reached held mark h
      by (Some t) same h = absurd (let z : true ≡ false = sym (ap is_some same) ∙ none ∙ ap not e in cc)

  pub end_missed : b ≡ false → IsAtEnd g.range es → ⊥
  end_missed e end = by n refl next
    where
      by : (m : Option NextTerm) → n ≡ m → MatchOption m (NoneHas (ahead l)) (IsNextTerm l) → ⊥
      by None same h = let z : false ≡ true = sym (ap is_some same) ∙ none ∙ ap not e in cc
      by (Some t) same h = left_end g es l reached held t h end

-- ---- the settings

-- at the first pull all are tested
pub first_refusal : (v : StreamView) (n : ℕ) → v.pulled ≡ false → (o : Option Setting)
    → o ≡ failing_setting n v.setup.tries v.setup.least v.setup.greatest → Refusal v n o
first_refusal v n first None is = λ cs same e r.
    let all : refused_setting v.setup cs ≡ None =
    ap (λ (k : ℕ). failing_setting k v.setup.tries v.setup.least v.setup.greatest) same ∙ sym is in
    ⊎_elim
    (λ (z : (v.pulled ≡ false) × (refused_setting v.setup cs ≡ Some e)).
    let w : ◌≡◌ {A = Option Setting} None (Some e) = sym all ∙ z.1 in
    absurd {A = ⊥} (cc))
    (λ (z : (v.pulled ≡ true) × (IsAtEnd v.setup.range v.events → ⊥) × (cs ≡ []) × (e ≡ NoConnection)).
    let w : false ≡ true = sym first ∙ z.0 in
    absurd {A = ⊥} (cc)) r
first_refusal v n first (Some e) is = λ cs same.
    inl (first, ap (λ (k : ℕ). failing_setting k v.setup.tries v.setup.least v.setup.greatest) same ∙ sym is)

no_clients : (cs : List ClientTold) → length cs ≡ 0 → cs ≡ []
no_clients [] h = refl
no_clients (c ∷ cs) h = absurd (omega (arith, h))

-- later only that there is a connection, where it isn't at its end
pub later_refused : (v : StreamView) (n : ℕ) → v.pulled ≡ true → n ≡ 0 → (IsAtEnd v.setup.range v.events → ⊥)
    → Refusal v n (Some NoConnection)
later_refused v n later none before cs same = inr (later, before, no_clients cs (same ∙ none), refl)

pub later_unrefused : (v : StreamView) (n : ℕ) → v.pulled ≡ true → (n ≡ 0 → IsAtEnd v.setup.range v.events)
    → Refusal v n None
later_unrefused v n later end cs same e r =
    ⊎_elim
    (λ (z : (v.pulled ≡ false) × (refused_setting v.setup cs ≡ Some e)).
    let w : true ≡ false = sym later ∙ z.0 in
    absurd {A = ⊥} (cc))
    (λ (z : (v.pulled ≡ true) × (IsAtEnd v.setup.range v.events → ⊥) × (cs ≡ []) × (e ≡ NoConnection)).
    z.1 (end (sym same ∙ ap length z.2))) r

-- ---- the flag

not_open_by : (o : Option FileReconstructionError) (c : Bool) (seen : ℕ) → (is_some o || (c || nat_lt 0 seen)) ≡ true
    → o ≡ None → is_closed c seen ≡ false → ⊥
not_open_by None c seen h u e = let z : true ≡ false = sym h ∙ e in cc
not_open_by (Some x) c seen h u e = cc

-- it was closed before
pub closed_before : (v : StreamView) → (is_some v.told_error || (v.cancelled || nat_lt 0 v.seen)) ≡ true
    → AsksFlag v v true
closed_before v h = record {
  seen = v.seen;
  later = omega arith;
  is = refl;
  yes = λ e o. not_open_by v.told_error v.cancelled v.seen h o.untold o.uncancelled;
  no = λ e. absurd (cc);
}

open_by : (o : Option FileReconstructionError) (c : Bool) (seen : ℕ)
    → (is_some o || (c || nat_lt 0 seen)) ≡ false → (o ≡ None) × (is_closed c seen ≡ false)
open_by None c seen h = (refl, h)
open_by (Some x) c seen h = absurd (cc)

seen_closes : (c : Bool) (seen : ℕ) → 0 < seen → is_closed c seen ≡ true
seen_closes true seen h = refl
seen_closes false seen h = lt-ltb 0 seen h

-- it was open, and its flag was asked
pub flag_raised : (v : StreamView) (seen : ℕ) → (is_some v.told_error || (v.cancelled || nat_lt 0 v.seen)) ≡ false
    → v.seen ≤ seen → 0 < seen → AsksFlag v (record v { seen = seen }) true
flag_raised v seen h more some = record {
  seen = seen;
  later = more;
  is = refl;
  yes = λ e o. let z : true ≡ false = sym (seen_closes v.cancelled seen some) ∙ o.uncancelled in cc;
  no = λ e. absurd (cc);
}

pub flag_unraised : (v : StreamView) → (is_some v.told_error || (v.cancelled || nat_lt 0 v.seen)) ≡ false
    → AsksFlag v v false
flag_unraised v h =
    let z = open_by v.told_error v.cancelled v.seen h in
    record {
      seen = v.seen;
      later = omega arith;
      is = refl;
      yes = λ e. absurd (cc);
      no = λ e. record { untold = z.0; uncancelled = z.1 };
    }

-- ---- what a step needs

-- there is a connection
pub some_clients : (v : StreamView) (n : ℕ) → IsUnrefused v n → (IsAtEnd v.setup.range v.events → ⊥) → 0 < n
some_clients v zero h before = absurd (by v.pulled refl)
  where
    by : (b : Bool) → v.pulled ≡ b → ⊥
    by false e = h [] refl NoConnection (inl (e, refl))
    by true e = h [] refl NoConnection (inr (e, before, refl, refl))
some_clients v (suc n) h before = omega arith

-- without a leader, its settings can be met and its range has bytes
pub can_begin : (v : StreamView) (mark : Bool) → HoldsAt v.setup v.events v.led mark
    → (v.led ≡ None → v.pulled ≡ true → is_closed v.cancelled v.seen ≡ false
    → v.setup.range.end ≤ v.setup.range.start) → IsOpen v → (cs : List ClientTold)
    → IsUnrefused v (length cs) → (IsAtEnd v.setup.range v.events → ⊥) → v.led ≡ None → CanBegin v.setup cs
can_begin v mark holds begun still cs h before none = record { some = some; unrefused = met v.pulled refl }
  where
    some : v.setup.range.start < v.setup.range.end
    some = by (nat_le v.setup.range.end v.setup.range.start) refl
      where
        by : (b : Bool) → nat_le v.setup.range.end v.setup.range.start ≡ b → v.setup.range.start < v.setup.range.end
        by true e = absurd (before (empty_end v.setup v.events v.led mark holds
            (leb-true v.setup.range.end v.setup.range.start e)))
        by false e = leb-false v.setup.range.end v.setup.range.start e

    met : (b : Bool) → v.pulled ≡ b → refused_setting v.setup cs ≡ None
    met true e = let low = begun none e still.uncancelled in let high = some in absurd (omega (arith, low, high))
    met false e = each (refused_setting v.setup cs) refl
      where
        each : (o : Option Setting) → refused_setting v.setup cs ≡ o → refused_setting v.setup cs ≡ None
        each None same = same
        each (Some x) same = absurd (h cs refl x (inl (e, same)))
