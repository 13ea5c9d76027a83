-- What keeping the served blocks of a round does to a leader's plans.
use Rattle.std.specs.Prelude.{ℕ, ◌≡◌, ◌++◌, cond, List, [], ◌∷◌, map, Some}
use Rattle.std.specs.List.{flat_map}
use Rattle.std.specs.Option.{is_some}
use Rattle.xet_offers.specs.declared.reconstruction_terms.xorb_block.XorbBlock.{XorbBlock}
use Rattle.xet_offers.specs.declared.reconstruction_terms.xorb_block.XorbBlockData.{XorbBlockData}
use Rattle.xet_ties.specs.declared.lane_step.LaneStep.{LaneStep}
use Rattle.xet_ties.specs.declared.lane_step.LaneStep.TheVariants as step
use Rattle.xet_ties.specs.Recordings.{places_of}
use Rattle.xet_ties.specs.Rounds.{got_of}
use Rattle.xet_lane.specs.declared.joined.LaneEnd.{LaneEnd}
use Rattle.xet_leader.specs.ByNumber.{change_at, change_plan}
use Rattle.xet_leader.specs.declared.keeping.RoundPlaces.{RoundPlaces}
use Rattle.xet_leader.specs.declared.leader.LedPlan.{LedPlan}
use Rattle.xet_leader.specs.declared.missing_blocks.BlockAt.{BlockAt}
use Rattle.xet_leader.specs.Led.{Led}
use Rattle.xet_leader.specs.Places.{place_at}

-- ---- one block

-- the block with this data, where it keeps none
abbrev pub keep_data : XorbBlockData → XorbBlock → XorbBlock
keep_data found x = cond (is_some x.kept) x (record x { kept = Some found })

-- the plan whose block of this number keeps this data
abbrev pub keep_in : ℕ → XorbBlockData → LedPlan → LedPlan
keep_in k found l = record l {
  block = record l.block { blocks = change_at k (keep_data found) l.block.blocks };
}

-- a plan's number, a block's number in it, and data for the block
abbrev pub Given : Type 0
Given = ℕ × ℕ × XorbBlockData

abbrev pub kept_one : Given → List LedPlan → List LedPlan
kept_one c ls = change_plan c.0 (keep_in c.1 c.2) ls

abbrev pub kept : List Given → List LedPlan → List LedPlan
kept [] ls = ls
kept (c ∷ cs) ls = kept cs (kept_one c ls)

-- ---- the steps of a round

-- the data of a Served step
abbrev pub given_in : LaneStep → List Given
given_in (step.Served p k found) = (p, k, found) ∷ []
given_in (step.Expired p k) = []
given_in (step.Failed e) = []

abbrev pub given_of : List LaneStep → List Given
given_of ss = flat_map given_in ss

-- the steps of all lanes, one lane after another
abbrev pub all_steps : List LaneEnd → List LaneStep
all_steps es = flat_map (λ (e : LaneEnd). e.steps.items) es

abbrev pub places_at : List BlockAt → List (ℕ × ℕ)
places_at bs = map place_at bs

-- of these steps the data of the Served ones is kept, and the places are added to those of served blocks and of
-- blocks
-- whose URL had expired
pub record KeptSteps (ss : List LaneStep) (ls ks : List LedPlan) (r t : RoundPlaces) : Type 0 where
  pub plans : ks ≡ kept (given_of ss) ls
  pub served : places_at t.served.items ≡ places_at r.served.items ++ got_of ss
  pub late : places_at t.late.items ≡ places_at r.late.items ++ places_of ss

-- of a whole round
pub record KeptRound (ss : List LaneStep) (l k : Led) (t : RoundPlaces) : Type 0 where
  pub led : k ≡ record l { plans = kept (given_of ss) l.plans }
  pub served : places_at t.served.items ≡ got_of ss
  pub late : places_at t.late.items ≡ places_of ss
