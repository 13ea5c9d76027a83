-- What a whole round leaves.
use Rattle.std.specs.Prelude.{ℕ, zero, suc, ◌≡◌, ◌⊎◌, ◌+◌, ◌-◌, List, [], ◌∷◌, cond, count_by, length, All, None, Some}
use Rattle.std.specs.Prelude.{IfSome, slice_get}
use Rattle.std.specs.List.{flat_map}
use Rattle.xet_base.specs.Store.{Store}
use Rattle.xet_outside.specs.Answers.{AnswerTo}
use Rattle.xet_outside.specs.declared.block.BlockBytes.{BlockBytes}
use Rattle.xet_outside.specs.declared.served.Served.{Served}
use Rattle.xet_outside.specs.Told.{ClientTold, served_of}
use Rattle.xet_error.specs.declared.error.Corruption.{Corruption}
use Rattle.xet_error.specs.declared.error.FileReconstructionError.{FileReconstructionError}
use Rattle.xet_error.specs.declared.error.FileReconstructionError.TheVariants as error
use Rattle.xet_offers.specs.BlockCalls.{failed_check}
use Rattle.xet_offers.specs.BlockChecks.{block_data}
use Rattle.xet_offers.specs.declared.reconstruction_terms.xorb_block.XorbBlockData.{XorbBlockData}
use Rattle.xet_events.specs.declared.event.Event.{Event}
use Rattle.xet_events.specs.declared.event.PlannedBlock.{PlannedBlock}
use Rattle.xet_events.specs.Allowed.{IsMissing}
use Rattle.xet_ties.specs.History.{block_at}
use Rattle.xet_ties.specs.InCall.{EachGrew, Exchange, SomeOne}
use Rattle.xet_ties.specs.Lanes.{Ask, HidesNone, HoldsAsk, IsFor, any_faults, bytes_of_ask}
use Rattle.xet_ties.specs.Saids.{BlockOfPlan, InStep, IsServedData}
use Rattle.xet_ties.specs.Setup.{AllTell, Setup}
use Rattle.xet_ties.specs.Ties.{Slack, has_one}
use Rattle.xet_ties.specs.declared.lane_step.LaneStep.{LaneStep}
use Rattle.xet_ties.specs.declared.lane_step.LaneStep.TheVariants as step
use Rattle.xet_ties.specs.Moves.{no_hidden, no_late}
use Rattle.xet_ties.specs.Recordings.{Place}

-- the places of a lane's Served steps
abbrev pub got_in : LaneStep → List Place
got_in (step.Served p k d) = (p, k) ∷ []
got_in (step.Expired p k) = []
got_in (step.Failed e) = []

abbrev pub got_of : List LaneStep → List Place
got_of ss = flat_map got_in ss

-- the planned blocks of some places
abbrev pub blocks_at : List Event → List Place → List PlannedBlock
blocks_at es cs = flat_map (λ (c : Place). block_at es c.0 c.1) cs

-- the fetch is of a missing block
abbrev pub IsMissingAsk : List Event → Ask → Type 0
IsMissingAsk es a = IsMissing es a.request.acquisition.plan a.request.index

-- the fetch is of a block of the very plan of its number
pub record IsPlanAsk (g : Setup) (xs : List Exchange) (a : Ask) : Type 0 where
  pub for_block : IsFor a
  pub place : BlockOfPlan g xs
  pub own : a.request.acquisition.plan ≡ place.accepted.said.number
  pub index : a.request.index ≡ place.number
  pub block : place.block ≡ a.block

-- a Served step's data is of one of these fetches, of its plan and number: it is made of bytes that some connection
-- said in answer to the fetch's own request and that pass the block's tests; over connections that tell a store which
-- holds the block's chunks it is the store's
pub record IsHeardData (fs : List Ask) (bs : List ClientTold) (xs : List Exchange) (p k : ℕ)
    (d : XorbBlockData) : Type 0 where
  pub number : ℕ
  pub ask : Ask
  pub at : slice_get fs number ≡ Some ask
  pub plan : p ≡ ask.request.acquisition.plan
  pub index : k ≡ ask.request.index
  pub served : SomeOne (λ x. IsServedData x p k ask.block d) xs
  pub honest : (s : Store) → AllTell s bs → HoldsAsk s ask
      → d ≡ block_data ask.block.chunk_ranges (bytes_of_ask s ask)

-- bytes that a connection said in answer to a fetch's own request fail this test
pub record FailsAsk (a : Ask) (k : Corruption) (x : Exchange) : Type 0 where
  pub given : BlockBytes
  pub answer : AnswerTo x.served x.said (served_of a.request) given
  pub fails : failed_check a.block given ≡ Some k

abbrev pub IsHeardStep : List Ask → List ClientTold → List Exchange → LaneStep → Type 0
IsHeardStep fs bs xs (step.Served p k d) = IsHeardData fs bs xs p k d
IsHeardStep fs bs xs (step.Expired p k) = Unit {0}
IsHeardStep fs bs xs (step.Failed e) = Unit {0}

-- a lane's failed test is of one of these fetches, by such bytes of its own connection, which tells no store whose
-- block passes; and what no step says of what it served is the entry of that fetch
pub record LaneFailure (fs : List Ask) (b : ClientTold) (x : Exchange) (hidden : List Served)
    (k : Corruption) : Type 0 where
  pub number : ℕ
  pub ask : Ask
  pub at : slice_get fs number ≡ Some ask
  pub bytes : FailsAsk ask k x
  pub hides : (hidden ≡ []) ⊎ (hidden ≡ served_of ask.request ∷ [])
  pub dishonest : (s : Store) → b.store ≡ Some s → HoldsAsk s ask
      → failed_check ask.block (bytes_of_ask s ask) ≡ None → ⊥

abbrev pub IsLaneError : List Ask → ClientTold → Exchange → List Served → FileReconstructionError → Type 0
IsLaneError fs b x hidden (error.CorruptedReconstruction k) = LaneFailure fs b x hidden k
IsLaneError fs b x hidden e = Unit {0}

abbrev pub IsLaneEnd : List Ask → ClientTold → Exchange → List Served → LaneStep → Type 0
IsLaneEnd fs b x hidden (step.Served p k d) = Unit {0}
IsLaneEnd fs b x hidden (step.Expired p k) = Unit {0}
IsLaneEnd fs b x hidden (step.Failed e) = IsLaneError fs b x hidden e

-- so is that of the last step of each lane
abbrev pub AreLaneEnds : List Ask → List ClientTold → List Exchange → List (List Served) → List (List LaneStep) → Type 0
AreLaneEnds fs bs xs hs [] = Unit {0}
AreLaneEnds fs (b ∷ bs) (x ∷ xs) (h ∷ hs) (ss ∷ ls) =
    IfSome (slice_get ss (length ss - 1)) (IsLaneEnd fs b x h) × AreLaneEnds fs bs xs hs ls
AreLaneEnds fs bs xs hs (ss ∷ ls) = ⊥

-- of each lane no entry is hidden where no step of it may hide one
abbrev pub EachHides : List (List LaneStep) → List (List Served) → Type 0
EachHides [] hs = Unit {0}
EachHides (ss ∷ ls) [] = ⊥
EachHides (ss ∷ ls) (h ∷ hs) = (HidesNone ss → h ≡ []) × EachHides ls hs

-- the first of these lists are empty, so many
abbrev pub NoneBelow : ℕ → List (List Served) → Type 0
NoneBelow zero hs = Unit {0}
NoneBelow (suc i) [] = ⊥
NoneBelow (suc i) (h ∷ hs) = (h ≡ []) × NoneBelow i hs

-- how many of the first connections told no fault in a round either
abbrev pub calm_after : ℕ → List (List LaneStep) → ℕ
calm_after zero ls = zero
calm_after (suc i) [] = suc i
calm_after (suc i) (ss ∷ ls) = cond (any_faults ss) 0 (suc (calm_after i ls))

-- what was told and isn't recorded after a round, all of whose steps were recorded
pub record AfterRound (bs ms : List ClientTold) (es : List Event) (fs : List Ask) (ls : List (List LaneStep))
    (sl to : Slack) : Type 0 where
  -- the lanes' answers were heard, each query still has its answer
  pub grew : EachGrew sl.heard to.heard
  pub step : InStep sl.heard → InStep to.heard
  -- where each fetch asks for its own block, the data of Served steps was heard; and of each failed test the bytes
  pub found : All IsFor fs → All (λ ss. All (IsHeardStep fs ms to.heard) ss) ls
  pub failed : AreLaneEnds fs ms to.heard to.hidden ls
  pub looks : to.looks ≡ sl.looks
  -- no entry is hidden where no step may hide one
  pub none : All HidesNone ls → to.hidden ≡ no_hidden bs
  pub hides : EachHides ls to.hidden
  pub late : to.late ≡ no_late bs
  pub pending : to.pending ≡ []
  -- each served block of one range is to be offered
  pub due : to.due ≡ sl.due + count_by has_one (blocks_at es (flat_map got_of ls))
  pub spare : to.spare ≡ 0
  pub lost : to.lost ≡ sl.lost
  pub ahead : to.ahead ≡ sl.ahead
  pub calm : to.calm ≡ calm_after sl.calm ls
