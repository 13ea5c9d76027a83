-- The last step of a lane, and which steps may hide a served block.
use Rattle.std.proofs.Common.{◌≡◌, ℕ, zero, suc, ◌-◌, false, List, [], ◌∷◌, ◌++◌, length, refl, sym, subst, ◌∙◌, ap, arith, None, Some}
use Rattle.std.specs.Prelude.{All, Bool, ◌||◌, cond, slice_get}
use Rattle.std.specs.List.{list_any}
use Rattle.std.proofs.lemmas.Bool.{or_parts}
use Rattle.std.proofs.lemmas.List.Elements.{All-cons, All-head, All-nil, All-tail}
use Rattle.xet_base.specs.Store.{Store}
use Rattle.xet_outside.specs.declared.said.Said.{Said}
use Rattle.xet_outside.specs.declared.served.Served.{Served}
use Rattle.xet_outside.specs.Told.{ClientTold}
use Rattle.xet_error.specs.declared.error.FileReconstructionError.{FileReconstructionError}
use Rattle.xet_error.specs.declared.error.FileReconstructionError.TheVariants as error
use Rattle.xet_ties.specs.declared.lane_step.LaneStep.{LaneStep}
use Rattle.xet_ties.specs.declared.lane_step.LaneStep.TheVariants as step
use Rattle.xet_ties.specs.Lanes.{AreAt, AreOf, Ask, EachDrew, HidesNone, IsOf, StepCause, any_faults, entries_of, error_faults, error_hides, faults_in, may_hide}
use Rattle.xet_ties.specs.Setup.{AllTell}
use Rattle.xet_ties.specs.Ties.{EachUnfailed, FirstUnfailed}
use Rattle.xet_lane.specs.Fetches.{NoneFailedBefore, error_at, error_in, last_error}
use Rattle.xet_lane.specs.JoinErrors.{lacks_memory, wants_memory}
use Rattle.xet_lane.specs.Ends.{End, NoneEndedBadly, steps_of}
use Rattle.xet_lane.proofs.CallerLemmas.{NoErrorBelow}
use Rattle.xet_ties.specs.Rounds.{EachHides, NoneBelow, calm_after}
use Rattle.xet_leader.proofs.CallerLemmas.{IsHonestOf}

-- ---- the last step

pub last_more : (s t : LaneStep) (ss : List LaneStep) → last_error (s ∷ t ∷ ss) ≡ last_error (t ∷ ss)
last_more s t ss =
    let e : length (s ∷ t ∷ ss) - 1 ≡ suc (length (t ∷ ss) - 1) = omega arith in
    ap (λ (n : ℕ). error_at (slice_get (s ∷ t ∷ ss) n)) e

-- the fetch of a last step that failed, and its cause
pub record LastFails (P : Ask → Type 0) (b n : ClientTold) (served : List Served) (all : List Said)
    (e : FileReconstructionError) : Type 0 where
  pub ask : Ask
  pub holds : P ask
  pub cause : StepCause b n served all ask e

one_fails : (P : Ask → Type 0) (b n : ClientTold) (served : List Served) (all : List Said) (a : Ask) (s : LaneStep)
    (e : FileReconstructionError) → IsOf b n served all a s → P a → error_in s ≡ Some e → LastFails P b n served all e
one_fails P b n served all a (step.Served p k d) e of p_of h = absurd (cc)
one_fails P b n served all a (step.Expired p k) e of p_of h = absurd (cc)
one_fails P b n served all a (step.Failed x) e of p_of h = let same : x ≡ e = cc in
    record { ask = a; holds = p_of; cause = subst (StepCause b n served all a) same of }

pub last_fails : (P : Ask → Type 0) (b n : ClientTold) (served : List Served) (all : List Said) (qs : List Ask)
    (ss : List LaneStep) (e : FileReconstructionError) → AreOf b n served all qs ss → All P qs
    → last_error ss ≡ Some e → LastFails P b n served all e
last_fails P b n served all qs [] e are h last = absurd (cc)
last_fails P b n served all [] (s ∷ ss) e are h last = absurd are
last_fails P b n served all (a ∷ qs) (s ∷ []) e are h last =
    one_fails P b n served all a s e are.0 (All-head P a qs h) last
last_fails P b n served all (a ∷ qs) (s ∷ t ∷ ss) e are h last =
    last_fails P b n served all qs (t ∷ ss) e are.1 (All-tail P a qs h) (sym (last_more s t ss) ∙ last)

-- ---- the fetches that a lane made

ask_of : (P : Ask → Type 0) (fs : List Ask) (k : ℕ) (a : Ask) → All P fs → slice_get fs k ≡ Some a → P a
ask_of P [] k a h e = absurd (cc)
ask_of P (f ∷ fs) zero a h e = let same : f ≡ a = cc in subst P same (All-head P f fs h)
ask_of P (f ∷ fs) (suc k) a h e = ask_of P fs k a (All-tail P f fs h) e

pub all_made : (P : Ask → Type 0) (fs : List Ask) (ks : List ℕ) (made : List Ask) → All P fs → AreAt fs ks made
    → All P made
all_made P fs [] [] h p = All-nil P
all_made P fs [] (a ∷ made) h p = absurd p
all_made P fs (k ∷ ks) [] h p = absurd p
all_made P fs (k ∷ ks) (a ∷ made) h p = All-cons P a made (ask_of P fs k a h p.0) (all_made P fs ks made h p.1)

-- ---- steps that hide nothing

whole_step : (s : LaneStep) → error_in s ≡ None → may_hide s ≡ false
whole_step (step.Served p k d) h = refl
whole_step (step.Expired p k) h = refl
whole_step (step.Failed e) h = absurd (cc)

-- one that failed over a store whose block passes its tests, and not for want of memory
honest_step : (s : Store) (b n : ClientTold) (served : List Served) (all : List Said) (a : Ask) (x : LaneStep)
    → b.store ≡ Some s → IsHonestOf s a.block → IsOf b n served all a x → wants_memory (error_in x) ≡ false
    → may_hide x ≡ false
honest_step s b n served all a (step.Served p k d) tell h of w = refl
honest_step s b n served all a (step.Expired p k) tell h of w = refl
honest_step s b n served all a (step.Failed error.OutOfMemory) tell h of w = absurd (cc)
honest_step s b n served all a (step.Failed error.ClientError) tell h of w = refl
honest_step s b n served all a (step.Failed error.FileNotFound) tell h of w = refl
honest_step s b n served all a (step.Failed error.UrlExpired) tell h of w = refl
honest_step s b n served all a (step.Failed error.IoError) tell h of w = refl
honest_step s b n served all a (step.Failed (error.CorruptedReconstruction k)) tell h of w =
    absurd (of.dishonest s tell h.holds h.passes)
honest_step s b n served all a (step.Failed (error.ConfigurationError k)) tell h of w = refl
honest_step s b n served all a (step.Failed error.Cancelled) tell h of w = refl
honest_step s b n served all a (step.Failed (error.InternalWriterError k)) tell h of w = refl

lane_honest : (s : Store) (b n : ClientTold) (served : List Served) (all : List Said) (qs : List Ask)
    (ss : List LaneStep) → b.store ≡ Some s → All (λ a. IsHonestOf s a.block) qs → AreOf b n served all qs ss
    → NoneFailedBefore ss → wants_memory (last_error ss) ≡ false → HidesNone ss
lane_honest s b n served all qs [] tell h are before w = tt
lane_honest s b n served all [] (x ∷ ss) tell h are before w = absurd are
lane_honest s b n served all (a ∷ qs) (x ∷ []) tell h are before w =
    (honest_step s b n served all a x tell (All-head (λ a. IsHonestOf s a.block) a qs h) are.0 w, tt)
lane_honest s b n served all (a ∷ qs) (x ∷ y ∷ ss) tell h are before w = (
  whole_step x before.0,
  lane_honest s b n served all qs (y ∷ ss) tell
      (All-tail (λ a. IsHonestOf s a.block) a qs h) are.1 before.1 (ap wants_memory (sym (last_more x y ss)) ∙ w),
)

-- over such a store no step of the lanes hides a served block, unless memory was wanting
pub lanes_honest : (s : Store) (fs : List Ask) (bs ns : List ClientTold) (drawn : List (List ℕ)) (es : List End)
    → AllTell s bs → All (λ a. IsHonestOf s a.block) fs → EachDrew fs bs ns drawn (steps_of es)
    → All (λ (e : End). NoneFailedBefore e.steps) es → list_any lacks_memory es ≡ false
    → All HidesNone (steps_of es)
lanes_honest s fs bs ns drawn [] tell h e before w = All-nil HidesNone
lanes_honest s fs bs ns [] (x ∷ es) tell h e before w = absurd e
lanes_honest s fs [] ns (d ∷ ds) (x ∷ es) tell h e before w = absurd e
lanes_honest s fs (b ∷ bs) [] (d ∷ ds) (x ∷ es) tell h e before w = absurd e
lanes_honest s fs (b ∷ bs) (n ∷ ns) (d ∷ ds) (x ∷ es) tell h e before w =
    let B : End → Type 0 = λ (e : End). NoneFailedBefore e.steps in
    let parts = or_parts (lacks_memory x) (list_any lacks_memory es) w in
    let last = or_parts x.short (wants_memory (last_error x.steps)) parts.0 in
    let did = e.0.did in
    All-cons HidesNone x.steps (steps_of es)
    (lane_honest s b n (entries_of e.0.made x.steps ++ did.hidden) did.said e.0.made x.steps tell.0
    (all_made (λ a. IsHonestOf s a.block) fs d e.0.made h e.0.at) did.are (All-head B x es before) last.1)
    (lanes_honest s fs bs ns ds es tell.1 h e.1 (All-tail B x es before) parts.1)

lane_well : (ss : List LaneStep) → NoneFailedBefore ss → last_error ss ≡ None → HidesNone ss
lane_well [] before w = tt
lane_well (x ∷ []) before w = (whole_step x w, tt)
lane_well (x ∷ y ∷ ss) before w = (whole_step x before.0, lane_well (y ∷ ss) before.1 (sym (last_more x y ss) ∙ w))

-- nor where no step failed
pub lanes_well : (es : List End) → All (λ (e : End). NoneFailedBefore e.steps) es → NoneEndedBadly es
    → All HidesNone (steps_of es)
lanes_well [] before w = All-nil HidesNone
lanes_well (x ∷ es) before w =
    let B : End → Type 0 = λ (e : End). NoneFailedBefore e.steps in
    All-cons HidesNone x.steps (steps_of es) (lane_well x.steps (All-head B x es before) w.1)
    (lanes_well es (All-tail B x es before) w.2)

-- nor in a lane below one that has an error
pub none_below : (es : List End) (hs : List (List Served)) (i : ℕ)
    → All (λ (e : End). NoneFailedBefore e.steps) es → NoErrorBelow i es → EachHides (steps_of es) hs → NoneBelow i hs
none_below es hs zero before w h = tt
none_below [] hs (suc i) before w h = absurd w
none_below (x ∷ es) [] (suc i) before w h = absurd h
none_below (x ∷ es) (s ∷ hs) (suc i) before w h =
    let B : End → Type 0 = λ (e : End). NoneFailedBefore e.steps in
    (h.0 (lane_well x.steps (All-head B x es before) w.0), none_below es hs i (All-tail B x es before) w.1 h.1)

-- nor in one that ends with a failed call
faulted_step : (s : LaneStep) → error_in s ≡ Some error.ClientError → may_hide s ≡ false
faulted_step (step.Served p k d) h = refl
faulted_step (step.Expired p k) h = refl
faulted_step (step.Failed e) h = let same : e ≡ error.ClientError = cc in ap error_hides same

faulted_well : (ss : List LaneStep) → NoneFailedBefore ss → last_error ss ≡ Some error.ClientError → HidesNone ss
faulted_well [] before w = tt
faulted_well (x ∷ []) before w = (faulted_step x w, tt)
faulted_well (x ∷ y ∷ ss) before w =
    (whole_step x before.0, faulted_well (y ∷ ss) before.1 (sym (last_more x y ss) ∙ w))

-- so neither that lane nor one below it hides any
pub none_upto : (es : List End) (hs : List (List Served)) (i : ℕ) (end : End)
    → All (λ (e : End). NoneFailedBefore e.steps) es → NoErrorBelow i es → slice_get es i ≡ Some end
    → last_error end.steps ≡ Some error.ClientError → EachHides (steps_of es) hs → NoneBelow (suc i) hs
none_upto [] hs i end before w at last h = absurd (cc)
none_upto (x ∷ es) [] i end before w at last h = absurd h
none_upto (x ∷ es) (s ∷ hs) zero end before w at last h =
    let B : End → Type 0 = λ (e : End). NoneFailedBefore e.steps in
    let same : x ≡ end = cc in
    (h.0 (faulted_well x.steps (All-head B x es before) (ap (λ (y : End). last_error y.steps) same ∙ last)), tt)
none_upto (x ∷ es) (s ∷ hs) (suc i) end before w at last h =
    let B : End → Type 0 = λ (e : End). NoneFailedBefore e.steps in (
      h.0 (lane_well x.steps (All-head B x es before) w.0),
      none_upto es hs i end (All-tail B x es before) w.1 at last h.1,
    )

-- ---- steps without a failed call

calm_step : (s : LaneStep) → error_in s ≡ None → faults_in s ≡ false
calm_step (step.Served p k d) h = refl
calm_step (step.Expired p k) h = refl
calm_step (step.Failed e) h = absurd (cc)

pub lane_calm : (ss : List LaneStep) → NoneFailedBefore ss → last_error ss ≡ None → any_faults ss ≡ false
lane_calm [] before w = refl
lane_calm (x ∷ []) before w = ap (λ (v : Bool). v || false) (calm_step x w)
lane_calm (x ∷ y ∷ ss) before w =
    ap (λ (v : Bool). v || any_faults (y ∷ ss)) (calm_step x before.0)
    ∙ lane_calm (y ∷ ss) before.1 (sym (last_more x y ss) ∙ w)

-- so of each lane, where no step failed
pub lanes_calm : (es : List End) → All (λ (e : End). NoneFailedBefore e.steps) es → NoneEndedBadly es
    → All (λ ss. any_faults ss ≡ false) (steps_of es)
lanes_calm [] before w = All-nil (λ ss. any_faults ss ≡ false)
lanes_calm (x ∷ es) before w =
    let B : End → Type 0 = λ (e : End). NoneFailedBefore e.steps in
    All-cons (λ ss. any_faults ss ≡ false) x.steps (steps_of es) (lane_calm x.steps (All-head B x es before) w.1)
    (lanes_calm es (All-tail B x es before) w.2)

pub calm_whole : (k : ℕ) (ls : List (List LaneStep)) → All (λ ss. any_faults ss ≡ false) ls → calm_after k ls ≡ k
calm_whole zero ls h = refl
calm_whole (suc k) [] h = refl
calm_whole (suc k) (ss ∷ ls) h =
    let C : List LaneStep → Type 0 = λ ss. any_faults ss ≡ false in
    ap (λ (v : Bool). cond v 0 (suc (calm_after k ls))) (All-head C ss ls h)
    ∙ ap suc (calm_whole k ls (All-tail C ss ls h))

-- nor where a last one failed without a failed call
faults_of : (s : LaneStep) (e : FileReconstructionError) → error_in s ≡ Some e → error_faults e ≡ false
    → faults_in s ≡ false
faults_of (step.Served p k d) e h w = absurd (cc)
faults_of (step.Expired p k) e h w = absurd (cc)
faults_of (step.Failed x) e h w = let same : x ≡ e = cc in ap error_faults same ∙ w

last_calm : (ss : List LaneStep) (e : FileReconstructionError) → NoneFailedBefore ss → last_error ss ≡ Some e
    → error_faults e ≡ false → any_faults ss ≡ false
last_calm [] e before w h = refl
last_calm (x ∷ []) e before w h = ap (λ (v : Bool). v || false) (faults_of x e w h)
last_calm (x ∷ y ∷ ss) e before w h =
    ap (λ (v : Bool). v || any_faults (y ∷ ss)) (calm_step x before.0)
    ∙ last_calm (y ∷ ss) e before.1 (sym (last_more x y ss) ∙ w) h

-- the connections up to a lane whose error comes of no failed call, the lowest that has one, told no fault
pub upto_unfailed : (fs : List Ask) (bs ms ns : List ClientTold) (drawn : List (List ℕ)) (es : List End) (i : ℕ)
    (end : End) (e : FileReconstructionError) → EachDrew fs ms ns drawn (steps_of es) → EachUnfailed bs ms
    → All (λ (e : End). NoneFailedBefore e.steps) es → NoErrorBelow i es → slice_get es i ≡ Some end
    → last_error end.steps ≡ Some e → error_faults e ≡ false → FirstUnfailed (suc i) bs ns
upto_unfailed fs bs ms ns drawn [] i end e d h before w at last faults = absurd (cc)
upto_unfailed fs [] ms ns drawn (x ∷ es) i end e d h before w at last faults = tt
upto_unfailed fs (b ∷ bs) ms ns [] (x ∷ es) i end e d h before w at last faults = absurd d
upto_unfailed fs (b ∷ bs) [] ns (q ∷ qs) (x ∷ es) i end e d h before w at last faults = absurd d
upto_unfailed fs (b ∷ bs) (m ∷ ms) [] (q ∷ qs) (x ∷ es) i end e d h before w at last faults = absurd d
upto_unfailed fs (b ∷ bs) (m ∷ ms) (n ∷ ns) (q ∷ qs) (x ∷ es) zero end e d h before w at last faults =
    let B : End → Type 0 = λ (e : End). NoneFailedBefore e.steps in
    let same : x ≡ end = cc in
    let calm = last_calm x.steps e (All-head B x es before) (ap (λ (y : End). last_error y.steps) same ∙ last) faults in
    (d.0.did.unfailed calm ∙ h.0, tt)
upto_unfailed fs (b ∷ bs) (m ∷ ms) (n ∷ ns) (q ∷ qs) (x ∷ es) (suc i) end e d h before w at last faults =
    let B : End → Type 0 = λ (e : End). NoneFailedBefore e.steps in (
      d.0.did.unfailed (lane_calm x.steps (All-head B x es before) w.0) ∙ h.0,
      upto_unfailed fs bs ms ns qs es i end e d.1 h.1 (All-tail B x es before) w.1 at last faults,
    )
