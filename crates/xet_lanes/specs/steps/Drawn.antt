-- What the lanes of a round hold before and after.
use Rattle.std.specs.Prelude.{ℕ, ◌≡◌, ◌⊎◌, ◌<◌, Bool, true, false, cond, IfSome, IsSome, List, [], ◌∷◌, length, map}
use Rattle.std.specs.Prelude.{None, Option, Some}
use Rattle.xet_outside.specs.Told.{ClientTold}
use Rattle.xet_claims.specs.declared.claim_rule.View.{View}
use Rattle.xet_claims.specs.declared.claims.ClaimPass.{ClaimPass}
use Rattle.xet_claims.specs.declared.claims.Claims.{Claims}
use Rattle.xet_claims.specs.ClaimPasses.{IsPassOf, pass_view}
use Rattle.xet_claims.specs.ClaimViews.{gained, missed, newcomer, saw}
use Rattle.xet_error.specs.declared.error.FileReconstructionError.{FileReconstructionError}
use Rattle.xet_events.specs.declared.run_call.RunCall.{RunCall}
use Rattle.xet_events.specs.declared.run_call.RunCall.TheVariants as call
use Rattle.xet_ties.specs.declared.lane_step.LaneStep.{LaneStep}
use Rattle.xet_ties.specs.Lanes.{Ask, LaneDrew}
use Rattle.xet_lane.specs.Fetches.{NoneFailed, NoneFailedBefore, last_error}
use Rattle.xet_lane.specs.Ends.{End}
use Rattle.xet_lanes.specs.declared.drawing.Next.{Next}
use Rattle.xet_lanes.specs.declared.drawing.Next.TheVariants as next

-- ---- one lane

-- what a look for the next number leaves of what the pass knows
abbrev pub IsNext : ℕ → View → View → Next → Type 0
IsNext count v w (next.Number n) = (n < count) × (w ≡ gained v n)
IsNext count v w next.Over = (w ≡ missed v) ⊎ (w ≡ saw v)
IsNext count v w (next.Stopped e) = w ≡ v
IsNext count v w next.Short = w ≡ v

-- a check of the run's state that found nothing
abbrev pub calm_check : RunCall
calm_check = call.CheckRunState None

-- where a number was drawn, such a check is the last call on the run's state; else where the run is to stop, one that
-- was answered so
abbrev pub HasSeen : Next → Option RunCall → Type 0
HasSeen (next.Number n) last = last ≡ Some calm_check
HasSeen next.Over last = Unit {0}
HasSeen (next.Stopped e) last = last ≡ Some (call.CheckRunState (Some e))
HasSeen next.Short last = Unit {0}

-- it stopped no other; and where it saw no stop, it drew until there was nothing left, and made a step for each number
abbrev pub IsCalm : View → List LaneStep → Type 0
IsCalm v ss = (v.raised ≡ false) × (v.stopped ≡ false → (0 < v.misses) × (length v.drawn ≡ length ss))

-- a lane that neither failed nor ran out of memory is calm
abbrev pub HasEnded : Bool → View → List LaneStep → Type 0
HasEnded short v ss = short ≡ false → last_error ss ≡ None → IsCalm v ss × NoneFailed ss

-- a lane that failed or ran out of memory stopped the others
abbrev pub HasStopped : Bool → View → List LaneStep → Type 0
HasStopped short v ss = (short ≡ true → v.raised ≡ true) × (IsSome (last_error ss) → v.raised ≡ true)

-- the last call on the run's state of a lane whose step failed with this error: it told the error; or where memory ran
-- out for that, the check before that step
abbrev pub told_last : Bool → FileReconstructionError → RunCall
told_last short e = cond short calm_check (call.SetError e)

-- a lane whose step failed told the run that very error, and nothing after it
pub record HasTold (short : Bool) (last : Option RunCall) (ss : List LaneStep) : Type 0 where
  pub error : IfSome (last_error ss) (λ e. last ≡ Some (told_last short e))

-- ---- all lanes

-- a lane of a round: its claim, the parts of its run pass, its steps, and whether memory ran out besides
pub record Work : Type 0 where
  pub claim : ClaimPass
  pub parts : ℕ
  pub steps : List LaneStep
  pub short : Bool

abbrev pub work : ClaimPass → ℕ → List LaneStep → Bool → Work
work c p ss short = record { claim = c; parts = p; steps = ss; short = short }

-- a lane has a fresh claim and one part, and no steps
abbrev pub IsReady : Claims → Work → Type 0
IsReady c w = IsPassOf c w.claim × (pass_view w.claim ≡ newcomer 1 c.count) × (w.parts ≡ 1) × (w.steps ≡ [])

abbrev pub AllReady : Claims → List Work → Type 0
AllReady c [] = Unit {0}
AllReady c (w ∷ ws) = IsReady c w × AllReady c ws

-- what a lane did to its connection, and what it holds then
pub record Drew (c : Claims) (fs : List Ask) (before after : ClientTold) (w : Work) : Type 0 where
  pub of : IsPassOf c w.claim
  pub weight : (pass_view w.claim).weight ≡ 1
  pub parts : w.parts ≡ 1
  pub drew : LaneDrew fs before after (pass_view w.claim).drawn w.steps
  pub ended : HasEnded w.short (pass_view w.claim) w.steps
  pub last : NoneFailedBefore w.steps

abbrev pub AllDrew : Claims → List Ask → List ClientTold → List ClientTold → List Work → Type 0
AllDrew c fs [] [] [] = Unit {0}
AllDrew c fs (b ∷ bs) (n ∷ ns) (w ∷ ws) = Drew c fs b n w × AllDrew c fs bs ns ws
AllDrew c fs [] (n ∷ ns) ws = ⊥
AllDrew c fs [] [] (w ∷ ws) = ⊥
AllDrew c fs (b ∷ bs) [] ws = ⊥
AllDrew c fs (b ∷ bs) (n ∷ ns) [] = ⊥

-- ---- what they hand back

abbrev pub claims_of : List Work → List ClaimPass
claims_of ws = map (λ (w : Work). w.claim) ws

abbrev pub ends_of : List Work → List End
ends_of ws = map (λ (w : Work). record { steps = w.steps; short = w.short }) ws
