-- The fetches of a round, and the calls of a lane.
use Rattle.std.specs.Prelude.{◌≡◌, ◌-◌, List, [], ◌∷◌, ◌++◌, length, Option, Some, None, Result, OnOk, OnErr, slice_get}
use Rattle.xet_base.specs.declared.error.OutOfMemory.{OutOfMemory}
use Rattle.xet_outside.specs.Told.{ClientTold}
use Rattle.xet_outside.specs.declared.block.BlockRequest.{BlockRequest}
use Rattle.xet_error.specs.declared.error.FileReconstructionError.{FileReconstructionError}
use Rattle.xet_offers.specs.declared.reconstruction_terms.retrieval_urls.RetrievalUrl.{RetrievalUrl}
use Rattle.xet_offers.specs.declared.reconstruction_terms.retrieval_urls.TermBlockRetrievalURLs.{TermBlockRetrievalURLs}
use Rattle.xet_offers.specs.declared.reconstruction_terms.xorb_block.XorbBlock.{XorbBlock}
use Rattle.xet_ties.specs.declared.lane_step.LaneStep.{LaneStep}
use Rattle.xet_ties.specs.declared.lane_step.LaneStep.TheVariants as step
use Rattle.xet_ties.specs.Lanes.{Ask, StepDid}
use Rattle.xet_lane.specs.declared.lane.Fetch.{Fetch}

-- ---- fetches

abbrev pub ask : XorbBlock → BlockRequest → Ask
ask x q = record { block = x; request = q }

-- the request of a block by what a table has for its number; an empty URL without ranges where it has nothing
abbrev pub request_by : XorbBlock → TermBlockRetrievalURLs → Option RetrievalUrl → BlockRequest
request_by x t None = record {
  acquisition = t.acquisition_id;
  index = x.xorb_block_index;
  url = [];
  xorb = x.xorb_hash;
  chunks = x.chunk_ranges;
  bytes = [];
}
request_by x t (Some u) = record {
  acquisition = t.acquisition_id;
  index = x.xorb_block_index;
  url = u.url;
  xorb = x.xorb_hash;
  chunks = x.chunk_ranges;
  bytes = u.ranges;
}

abbrev pub request_of : XorbBlock → TermBlockRetrievalURLs → BlockRequest
request_of x t = request_by x t (slice_get t.retrieval_urls x.xorb_block_index)

-- what a fetch asks
abbrev pub ask_of : Fetch → Ask
ask_of f = ask f.block.now (request_of f.block.now f.urls.now)

-- ---- failed steps

-- the error of a step, where it failed
abbrev pub error_in : LaneStep → Option FileReconstructionError
error_in (step.Served p k d) = None
error_in (step.Expired p k) = None
error_in (step.Failed e) = Some e

abbrev pub NoneFailed : List LaneStep → Type 0
NoneFailed [] = Unit {0}
NoneFailed (s ∷ ss) = (error_in s ≡ None) × NoneFailed ss

-- no step but the last one failed
abbrev pub NoneFailedBefore : List LaneStep → Type 0
NoneFailedBefore [] = Unit {0}
NoneFailedBefore (s ∷ []) = Unit {0}
NoneFailedBefore (s ∷ t ∷ ss) = (error_in s ≡ None) × NoneFailedBefore (t ∷ ss)

abbrev pub error_at : Option LaneStep → Option FileReconstructionError
error_at None = None
error_at (Some s) = error_in s

-- the error of the last step, where it failed
abbrev pub last_error : List LaneStep → Option FileReconstructionError
last_error ss = error_at (slice_get ss (length ss - 1))

-- ---- one call

-- a step was added, which the connection made by one request
pub record OneStep (before after : ClientTold) (xs ys : List LaneStep) (a : Ask) : Type 0 where
  pub step : LaneStep
  pub added : ys ≡ xs ++ step ∷ []
  pub did : StepDid before after a step

-- one call of `Lane::fetch`, by what the connection tells and the steps of the lane before and after it
pub record LaneCall (before after : ClientTold) (xs ys : List LaneStep) (a : Ask)
    (answer : Result (Unit {0}) OutOfMemory) : Type 0 where
  pub added : OnOk answer (OneStep before after xs ys a)
  pub refused : OnErr answer ((after ≡ before) × (ys ≡ xs))
