-- One more drawn number keeps what is said of a lane's steps.
use Rattle.std.proofs.Common.{ℕ, ◌≡◌, ◌⊎◌, ◌-◌, ◌<◌, true, false, List, [], ◌∷◌, ◌++◌, length, map, zero, suc, refl, sym, ap, ◌∙◌, subst, arith, length-append, Option, Some, None, get_or, inl, inr}
use Rattle.std.specs.Prelude.{Bool, IfSome, IsSome, Result, Ok, Err, slice_get}
use Rattle.std.specs.Result.{is_err}
use Rattle.xet_base.specs.declared.error.OutOfMemory.{OutOfMemory}
use Rattle.xet_outside.specs.Told.{ClientTold}
use Rattle.xet_error.specs.declared.error.FileReconstructionError.{FileReconstructionError}
use Rattle.xet_claims.specs.declared.claim_rule.View.{View}
use Rattle.xet_claims.specs.ClaimViews.{gained, halted, missed, saw}
use Rattle.xet_events.specs.declared.run_call.RunCall.{RunCall}
use Rattle.xet_events.specs.declared.run_call.RunCall.TheVariants as call
use Rattle.xet_ties.specs.declared.lane_step.LaneStep.{LaneStep}
use Rattle.xet_ties.specs.Lanes.{AreAt, Ask, LaneDid, LaneDrew}
use Rattle.xet_lane.specs.declared.lane.Fetch.{Fetch}
use Rattle.xet_lane.specs.Fetches.{LaneCall, NoneFailed, NoneFailedBefore, ask_of, error_at, last_error}
use Rattle.xet_lane.proofs.CallerLemmas.{before_none, before_snoc, last_snoc, more_drawn, none_snoc, none_yet, one_more}
use Rattle.xet_lanes.specs.steps.Drawn.{HasEnded, HasStopped, HasTold, calm_check, told_last}

-- as many steps as numbers, none of them failed
pub record Drawing (fs : List Ask) (b n : ClientTold) (drawn : List ℕ) (steps : List LaneStep) : Type 0 where
  pub made : List Ask
  pub at : AreAt fs drawn made
  pub len : length made ≡ length steps
  pub good : NoneFailed steps
  pub did : LaneDid b n made steps

at_snoc : (fs : List Ask) (ks : List ℕ) (qs : List Ask) (k : ℕ) (a : Ask) → AreAt fs ks qs → slice_get fs k ≡ Some a
    → AreAt fs (ks ++ k ∷ []) (qs ++ a ∷ [])
at_snoc fs [] [] k a h e = (e, tt)
at_snoc fs [] (x ∷ qs) k a h e = absurd h
at_snoc fs (j ∷ ks) [] k a h e = absurd h
at_snoc fs (j ∷ ks) (x ∷ qs) k a h e = (h.0, at_snoc fs ks qs k a h.1 e)

at_len : (fs : List Ask) (ks : List ℕ) (qs : List Ask) → AreAt fs ks qs → length ks ≡ length qs
at_len fs [] [] h = refl
at_len fs [] (x ∷ qs) h = absurd h
at_len fs (j ∷ ks) [] h = absurd h
at_len fs (j ∷ ks) (x ∷ qs) h = ap suc (at_len fs ks qs h.1)

pub drawing_starts : (fs : List Ask) (b : ClientTold) (drawn : List ℕ) (steps : List LaneStep) → drawn ≡ [] → steps ≡ []
    → Drawing fs b b drawn steps
drawing_starts fs b drawn steps d e =
    let P : List ℕ → Type 0 = λ l. Drawing fs b b l steps in
    let Q : List LaneStep → Type 0 = λ l. Drawing fs b b [] l in
    subst P (sym d) (subst Q (sym e) (record { made = []; at = tt; len = refl; good = tt; did = none_yet b }))

-- the lane ends here
pub drawing_ends : (fs : List Ask) (b n : ClientTold) (drawn drawn' : List ℕ) (ss : List LaneStep)
    → Drawing fs b n drawn ss → drawn' ≡ drawn → LaneDrew fs b n drawn' ss
drawing_ends fs b n drawn drawn' ss d e =
    record { made = d.made; at = subst (λ (l : List ℕ). AreAt fs l d.made) (sym e) d.at; did = d.did }

pub drawing_last : (fs : List Ask) (b n : ClientTold) (drawn : List ℕ) (ss : List LaneStep) → Drawing fs b n drawn ss
    → NoneFailedBefore ss
drawing_last fs b n drawn ss d = before_none ss d.good

pub drawing_len : (fs : List Ask) (b n : ClientTold) (drawn : List ℕ) (ss : List LaneStep) → Drawing fs b n drawn ss
    → length drawn ≡ length ss
drawing_len fs b n drawn ss d = at_len fs drawn d.made d.at ∙ d.len

-- the number was drawn, and nothing asked
pub drawing_refused : (fs : List Ask) (b m n : ClientTold) (drawn drawn' : List ℕ) (k : ℕ) (xs ys : List LaneStep) (a : Ask)
    (answer : Result (Unit {0}) OutOfMemory) → Drawing fs b m drawn xs → drawn' ≡ drawn ++ k ∷ []
    → slice_get fs k ≡ Some a → LaneCall m n xs ys a answer → is_err answer ≡ true → LaneDrew fs b n drawn' ys
drawing_refused fs b m n drawn drawn' k xs ys a (Ok u) d e at c h = cc
drawing_refused fs b m n drawn drawn' k xs ys a (Err u) d e at c h =
    let P : ClientTold → Type 0 = λ t. LaneDrew fs b t drawn' ys in
    let Q : List LaneStep → Type 0 = λ l. LaneDrew fs b m drawn' l in
    let R : List ℕ → Type 0 = λ l. LaneDrew fs b m l xs in
    subst P (sym c.refused.0) (subst Q (sym c.refused.1) (subst R (sym e) (record {
      made = d.made ++ a ∷ [];
      at = at_snoc fs drawn d.made k a d.at at;
      did = more_drawn b m d.made (a ∷ []) xs d.did d.len;
    })))

pub refused_last : (fs : List Ask) (b m n : ClientTold) (drawn : List ℕ) (xs ys : List LaneStep) (a : Ask)
    (answer : Result (Unit {0}) OutOfMemory) → Drawing fs b m drawn xs → LaneCall m n xs ys a answer
    → is_err answer ≡ true → NoneFailedBefore ys
refused_last fs b m n drawn xs ys a (Ok u) d c h = cc
refused_last fs b m n drawn xs ys a (Err u) d c h =
    subst (λ (l : List LaneStep). NoneFailedBefore l) (sym c.refused.1) (before_none xs d.good)

-- a step was made
pub record Stepped (fs : List Ask) (b n : ClientTold) (drawn : List ℕ) (ys : List LaneStep) : Type 0 where
  pub made : List Ask
  pub at : AreAt fs drawn made
  pub len : length made ≡ length ys
  pub good : last_error ys ≡ None → NoneFailed ys
  pub last : NoneFailedBefore ys
  pub did : LaneDid b n made ys

pub drawing_step : (fs : List Ask) (b m n : ClientTold) (drawn drawn' : List ℕ) (k : ℕ) (xs ys : List LaneStep) (a : Ask)
    (answer : Result (Unit {0}) OutOfMemory) → Drawing fs b m drawn xs → drawn' ≡ drawn ++ k ∷ []
    → slice_get fs k ≡ Some a → LaneCall m n xs ys a answer → is_err answer ≡ false → Stepped fs b n drawn' ys
drawing_step fs b m n drawn drawn' k xs ys a (Err u) d e at c h = cc
drawing_step fs b m n drawn drawn' k xs ys a (Ok u) d e at c h =
    let one = c.added in
    let did = one_more b m n d.made xs a one.step d.did d.len d.good one.did in
    record {
      made = d.made ++ a ∷ [];
      at = subst (λ (l : List ℕ). AreAt fs l (d.made ++ a ∷ [])) (sym e) (at_snoc fs drawn d.made k a d.at at);
      len =
          let z : length ys ≡ length (xs ++ one.step ∷ []) = ap (λ (l : List LaneStep). length l) one.added in
          let y = d.len in
          omega (arith, y, z, length-append d.made (a ∷ []), length-append xs (one.step ∷ []));
      good = λ fine. subst (λ (l : List LaneStep). NoneFailed l) (sym one.added)
          (none_snoc xs one.step d.good
          (sym (last_snoc xs one.step) ∙ (ap (λ (l : List LaneStep). last_error l) (sym one.added) ∙ fine)));
      last = subst (λ (l : List LaneStep). NoneFailedBefore l) (sym one.added) (before_snoc xs one.step d.good);
      did = subst (λ (l : List LaneStep). LaneDid b n (d.made ++ a ∷ []) l) (sym one.added) did;
    }

pub drawing_goes_on : (fs : List Ask) (b n : ClientTold) (drawn : List ℕ) (ys : List LaneStep) → Stepped fs b n drawn ys
    → last_error ys ≡ None → Drawing fs b n drawn ys
drawing_goes_on fs b n drawn ys s fine =
    record { made = s.made; at = s.at; len = s.len; good = s.good fine; did = s.did }

-- the fetch of a number below their count
pub get_at : (fs : List Fetch) (k : ℕ) (d : Fetch) → k < length fs
    → slice_get (map ask_of fs) k ≡ Some (ask_of (get_or fs k d))
get_at [] k d h = absurd (omega arith)
get_at (x ∷ fs) zero d h = refl
get_at (x ∷ fs) (suc k) d h = get_at fs k d (omega arith)

-- none of the steps failed, nor did the last one
none_at : (ss : List LaneStep) (k : ℕ) → NoneFailed ss → error_at (slice_get ss k) ≡ None
none_at [] k h = refl
none_at (s ∷ ss) zero h = h.0
none_at (s ∷ ss) (suc k) h = none_at ss k h.1

none_last : (ss : List LaneStep) → NoneFailed ss → last_error ss ≡ None
none_last ss h = none_at ss (length ss - 1) h

no_error : (o : Option FileReconstructionError) → o ≡ None → IsSome o → ⊥
no_error None e s = cc
no_error (Some x) e s = cc

-- the lane drew until nothing was left, or it saw the mark
pub over_ended : (fs : List Ask) (b n : ClientTold) (v w : View) (ss : List LaneStep) → Drawing fs b n v.drawn ss
    → v.raised ≡ false → (w ≡ missed v) ⊎ (w ≡ saw v) → HasEnded false w ss
over_ended fs b n v w ss d calm (inl e) =
    let ended : HasEnded false (missed v) ss =
    λ _ _. ((calm, λ _. (omega arith, drawing_len fs b n v.drawn ss d)), d.good) in
    rw e ended
over_ended fs b n v w ss d calm (inr e) =
    let ended : HasEnded false (saw v) ss = λ _ _. ((calm, λ (unseen : true ≡ false). cc), d.good) in
    rw e ended

-- what its pass knows then
pub over_drawn : (v w : View) → (w ≡ missed v) ⊎ (w ≡ saw v) → w.drawn ≡ v.drawn
over_drawn v w (inl e) = ap (λ (x : View). x.drawn) e
over_drawn v w (inr e) = ap (λ (x : View). x.drawn) e

pub over_weight : (v w : View) → (w ≡ missed v) ⊎ (w ≡ saw v) → w.weight ≡ v.weight
over_weight v w (inl e) = ap (λ (x : View). x.weight) e
over_weight v w (inr e) = ap (λ (x : View). x.weight) e

pub over_stops : (fs : List Ask) (b n : ClientTold) (v w : View) (ss : List LaneStep) → Drawing fs b n v.drawn ss
    → HasStopped false w ss
over_stops fs b n v w ss d =
    (λ (short : false ≡ true). cc, λ some. absurd (no_error (last_error ss) (none_last ss d.good) some))

-- ---- a lane that stopped the others

clash : (b : Bool) → b ≡ true → b ≡ false → ⊥
clash b h f = cc

pub short_ended : (short : Bool) (w : View) (ss : List LaneStep) → short ≡ true → HasEnded short w ss
short_ended short w ss h = λ f _. absurd (clash short h f)

some_none : (o : Option FileReconstructionError) (e : FileReconstructionError) → o ≡ Some e → o ≡ None → ⊥
some_none o e h n = cc

pub failed_ended : (short : Bool) (w : View) (ss : List LaneStep) (e : FileReconstructionError) → last_error ss ≡ Some e
    → HasEnded short w ss
failed_ended short w ss e h = λ _ none. absurd (some_none (last_error ss) e h none)

pub halted_stops : (short : Bool) (v w : View) (ss : List LaneStep) → w ≡ halted v → HasStopped short w ss
halted_stops short v w ss h = (λ _. ap (λ (x : View). x.raised) h, λ _. ap (λ (x : View). x.raised) h)

-- ---- what the run was told

-- a lane none of whose steps failed has no error to tell
none_told : (short : Bool) (last : Option RunCall) (ss : List LaneStep) → NoneFailed ss → HasTold short last ss
none_told short last ss good = record {
  error = subst (λ (o : Option FileReconstructionError). IfSome o (λ e. last ≡ Some (told_last short e)))
      (sym (none_last ss good)) tt;
}

pub drawing_told : (short : Bool) (last : Option RunCall) (fs : List Ask) (b n : ClientTold) (drawn : List ℕ)
    (ss : List LaneStep) → Drawing fs b n drawn ss → HasTold short last ss
drawing_told short last fs b n drawn ss d = none_told short last ss d.good

pub refused_told : (short : Bool) (last : Option RunCall) (fs : List Ask) (b m n : ClientTold) (drawn : List ℕ)
    (xs ys : List LaneStep) (a : Ask) (answer : Result (Unit {0}) OutOfMemory) → Drawing fs b m drawn xs
    → LaneCall m n xs ys a answer → is_err answer ≡ true → HasTold short last ys
refused_told short last fs b m n drawn xs ys a (Ok u) d c h = cc
refused_told short last fs b m n drawn xs ys a (Err u) d c h =
    none_told short last ys (subst (λ (l : List LaneStep). NoneFailed l) (sym c.refused.1) d.good)

-- the error of the last step was told, or memory ran out for that
told_by : (short : Bool) (before last : Option RunCall) (e : FileReconstructionError) → before ≡ Some calm_check
    → (short ≡ true → last ≡ before) → (short ≡ false → last ≡ Some (call.SetError e))
    → last ≡ Some (told_last short e)
told_by true before last e seen same told = same refl ∙ seen
told_by false before last e seen same told = told refl

pub step_told : (short : Bool) (before last : Option RunCall) (e : FileReconstructionError) (ss : List LaneStep)
    → last_error ss ≡ Some e → before ≡ Some calm_check → (short ≡ true → last ≡ before)
    → (short ≡ false → last ≡ Some (call.SetError e)) → HasTold short last ss
step_told short before last e ss failed seen same told = record {
  error = subst (λ (o : Option FileReconstructionError). IfSome o (λ x. last ≡ Some (told_last short x))) (sym failed)
      (told_by short before last e seen same told);
}

-- the run was told this, or nothing
pub told_or_same : (short : Bool) (before last : Option RunCall) (c : RunCall) → (short ≡ true → last ≡ before)
    → (short ≡ false → last ≡ Some c) → (last ≡ Some c) ⊎ (last ≡ before)
told_or_same true before last c same told = inr (same refl)
told_or_same false before last c same told = inl (told refl)

-- what a claim pass knows after it drew, and after it also stopped the others
pub drew_one : (v w : View) (k : ℕ) → w ≡ gained v k → w.drawn ≡ v.drawn ++ k ∷ []
drew_one v w k e = ap (λ (v : View). v.drawn) e

pub drew_and_halted : (v w x : View) (k : ℕ) → w ≡ gained v k → x ≡ halted w → x.drawn ≡ v.drawn ++ k ∷ []
drew_and_halted v w x k e h = ap (λ (v : View). v.drawn) h ∙ drew_one v w k e

-- a pass that drew a number goes on
pub still_fresh : (v w : View) (k : ℕ) → w ≡ gained v k → v.misses < v.weight → w.misses < w.weight
still_fresh v w k e h = subst (λ (x : View). x.misses < x.weight) (sym e) h
