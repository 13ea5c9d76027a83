-- What the steps of a lane say of its connection, and what the lanes of a round draw.
use Rattle.std.specs.Prelude.{ℕ, ◌≡◌, ◌⊎◌, ◌+◌, ◌-◌, ◌^◌, ◌<◌, ◌≤◌, min, Bool, true, false, List, [], ◌∷◌, ◌++◌, length}
use Rattle.std.specs.Prelude.{Option, Some, None, Result, Ok, Err, slice_get}
use Rattle.std.specs.List.{AllZip, concat, list_any}
use Rattle.xet_base.specs.Store.{Store}
use Rattle.xet_outside.specs.Answers.{AnswerTo, IsPaired, late_in, plans_in}
use Rattle.xet_outside.specs.Plan.{block_of}
use Rattle.xet_outside.specs.Told.{ClientTold, Holds, Rose, served_of}
use Rattle.xet_outside.specs.declared.block.BlockAnswer.{BlockAnswer}
use Rattle.xet_outside.specs.declared.block.BlockAnswer.TheVariants as block_answer
use Rattle.xet_outside.specs.declared.block.BlockBytes.{BlockBytes}
use Rattle.xet_outside.specs.declared.block.BlockRequest.{BlockRequest}
use Rattle.xet_outside.specs.declared.client.ClientError.{ClientError}
use Rattle.xet_outside.specs.declared.said.Said.{Said}
use Rattle.xet_outside.specs.declared.served.Served.{Served}
use Rattle.xet_claims.specs.ClaimViews.{once_below, times}
use Rattle.xet_error.specs.declared.error.Corruption.{Corruption}
use Rattle.xet_error.specs.declared.error.FileReconstructionError.{FileReconstructionError}
use Rattle.xet_error.specs.declared.error.FileReconstructionError.TheVariants as error
use Rattle.xet_error.specs.Errors.{of_client_error}
use Rattle.xet_offers.specs.declared.reconstruction_terms.xorb_block.XorbBlock.{XorbBlock}
use Rattle.xet_offers.specs.declared.reconstruction_terms.xorb_block.XorbBlockData.{XorbBlockData}
use Rattle.xet_offers.specs.BlockCalls.{failed_check}
use Rattle.xet_offers.specs.BlockChecks.{block_data}
use Rattle.xet_offers.specs.Refusals.{IsRefusal}
use Rattle.xet_ties.specs.declared.lane_step.LaneStep.{LaneStep}
use Rattle.xet_ties.specs.declared.lane_step.LaneStep.TheVariants as step
use Rattle.xet_ties.specs.Setup.{ClientGoesOn, most_lanes}

-- ---- fetches

-- what a fetch asks: a block, by a request
pub record Ask : Type 0 where
  pub block : XorbBlock
  pub request : BlockRequest

-- the request is the block's
pub record IsFor (a : Ask) : Type 0 where
  pub xorb : a.request.xorb ≡ a.block.xorb_hash
  pub chunks : a.request.chunks ≡ a.block.chunk_ranges
  pub index : a.request.index ≡ a.block.xorb_block_index

-- the bytes of a fetch's block in a store
abbrev pub bytes_of_ask : Store → Ask → BlockBytes
bytes_of_ask s a = block_of s a.block.xorb_hash a.block.chunk_ranges

-- the store holds its chunks
abbrev pub HoldsAsk : Store → Ask → Type 0
HoldsAsk s a = Holds s a.block.xorb_hash a.block.chunk_ranges

-- ---- one step

-- a block's data is made of bytes that were said in answer to the fetch's own request, and that pass the block's tests;
-- over a store that holds them they are the store's
pub record IsStepData (before : ClientTold) (served : List Served) (all : List Said) (a : Ask)
    (d : XorbBlockData) : Type 0 where
  pub given : BlockBytes
  pub answer : AnswerTo served all (served_of a.request) given
  pub passes : failed_check a.block given ≡ None
  pub made : d ≡ block_data a.block.chunk_ranges given
  pub honest : (s : Store) → before.store ≡ Some s → HoldsAsk s a → given ≡ bytes_of_ask s a

-- bytes were said in answer to the fetch's own request that fail this test, and no store is told whose block passes
pub record BytesFail (before : ClientTold) (served : List Served) (all : List Said) (a : Ask)
    (k : Corruption) : Type 0 where
  pub given : BlockBytes
  pub answer : AnswerTo served all (served_of a.request) given
  pub fails : failed_check a.block given ≡ Some k
  pub dishonest : (s : Store) → before.store ≡ Some s → HoldsAsk s a
      → failed_check a.block (bytes_of_ask s a) ≡ None → ⊥

-- the cause of a failed step: want of memory is free
abbrev pub StepCause : ClientTold → ClientTold → List Served → List Said → Ask → FileReconstructionError → Type 0
StepCause before after served all a error.OutOfMemory = Unit {0}
StepCause before after served all a error.ClientError = Rose before.faults after.faults
StepCause before after served all a error.FileNotFound = ⊥
StepCause before after served all a error.UrlExpired = ⊥
StepCause before after served all a error.IoError = ⊥
StepCause before after served all a (error.CorruptedReconstruction k) = BytesFail before served all a k
StepCause before after served all a (error.ConfigurationError e) = ⊥
StepCause before after served all a error.Cancelled = ⊥
StepCause before after served all a (error.InternalWriterError w) = ⊥

-- a step is of its fetch: it names the fetch's plan and block, and its data is of the answer to the fetch's request
abbrev pub IsOf : ClientTold → ClientTold → List Served → List Said → Ask → LaneStep → Type 0
IsOf before after served all a (step.Served p k d) =
    (p ≡ a.request.acquisition.plan) × (k ≡ a.request.index) × IsStepData before served all a d
IsOf before after served all a (step.Expired p k) = (p ≡ a.request.acquisition.plan) × (k ≡ a.request.index)
IsOf before after served all a (step.Failed e) = StepCause before after served all a e

-- the step that the answer to a request makes
abbrev pub AnswerStep : Ask → Result BlockAnswer ClientError → LaneStep → Type 0
AnswerStep a (Ok (block_answer.Bytes b)) (step.Served p k d) =
    (p ≡ a.request.acquisition.plan) × (k ≡ a.request.index) × (failed_check a.block b ≡ None)
    × (d ≡ block_data a.block.chunk_ranges b)
AnswerStep a (Ok (block_answer.Bytes b)) (step.Expired p k) = ⊥
AnswerStep a (Ok (block_answer.Bytes b)) (step.Failed e) = IsRefusal (failed_check a.block b) e
AnswerStep a (Ok block_answer.Expired) s = s ≡ step.Expired a.request.acquisition.plan a.request.index
AnswerStep a (Err e) s = s ≡ step.Failed (of_client_error e)

-- ---- what steps add to the served blocks

-- the entry of a Served step
abbrev pub entries_in : Ask → LaneStep → List Served
entries_in a (step.Served p k d) = served_of a.request ∷ []
entries_in a (step.Expired p k) = []
entries_in a (step.Failed e) = []

-- the entries of the Served steps of a lane, in order
abbrev pub entries_of : List Ask → List LaneStep → List Served
entries_of qs [] = []
entries_of [] (s ∷ ss) = []
entries_of (a ∷ qs) (s ∷ ss) = entries_in a s ++ entries_of qs ss

-- a fetch that failed so may have been served: for want of memory and in a test alone
abbrev pub error_hides : FileReconstructionError → Bool
error_hides error.OutOfMemory = true
error_hides error.ClientError = false
error_hides error.FileNotFound = false
error_hides error.UrlExpired = false
error_hides error.IoError = false
error_hides (error.CorruptedReconstruction k) = true
error_hides (error.ConfigurationError e) = false
error_hides error.Cancelled = false
error_hides (error.InternalWriterError w) = false

abbrev pub may_hide : LaneStep → Bool
may_hide (step.Served p k d) = false
may_hide (step.Expired p k) = false
may_hide (step.Failed e) = error_hides e

abbrev pub hides_at : Option LaneStep → Bool
hides_at None = false
hides_at (Some s) = may_hide s

-- no step failed so
abbrev pub HidesNone : List LaneStep → Type 0
HidesNone [] = Unit {0}
HidesNone (s ∷ ss) = (may_hide s ≡ false) × HidesNone ss

-- nothing, or the entry of this fetch, whose step may hide it
abbrev pub HidesOne : Ask → Bool → List Served → Type 0
HidesOne a hides hidden = (hidden ≡ []) ⊎ ((hides ≡ true) × (hidden ≡ served_of a.request ∷ []))

-- the entry of the last fetch that was made, whose step may hide it
pub record HidesLast (qs : List Ask) (ss : List LaneStep) (hidden : List Served) : Type 0 where
  pub ask : Ask
  pub some : 0 < length ss
  pub last : slice_get qs (length ss - 1) ≡ Some ask
  pub may : hides_at (slice_get ss (length ss - 1)) ≡ true
  pub is : hidden ≡ served_of ask.request ∷ []

-- nothing, or that entry
abbrev pub IsHidden : List Ask → List LaneStep → List Served → Type 0
IsHidden qs ss hidden = (hidden ≡ []) ⊎ HidesLast qs ss hidden

-- the entry of an Expired step
abbrev pub lates_in : Ask → LaneStep → List Served
lates_in a (step.Served p k d) = []
lates_in a (step.Expired p k) = served_of a.request ∷ []
lates_in a (step.Failed e) = []

-- the entries of the Expired steps of a lane, in order
abbrev pub lates_of : List Ask → List LaneStep → List Served
lates_of qs [] = []
lates_of [] (s ∷ ss) = []
lates_of (a ∷ qs) (s ∷ ss) = lates_in a s ++ lates_of qs ss

-- a call failed, or memory was wanting
abbrev pub error_faults : FileReconstructionError → Bool
error_faults error.OutOfMemory = true
error_faults error.ClientError = true
error_faults error.FileNotFound = false
error_faults error.UrlExpired = false
error_faults error.IoError = false
error_faults (error.CorruptedReconstruction k) = false
error_faults (error.ConfigurationError e) = false
error_faults error.Cancelled = false
error_faults (error.InternalWriterError w) = false

abbrev pub faults_in : LaneStep → Bool
faults_in (step.Served p k d) = false
faults_in (step.Expired p k) = false
faults_in (step.Failed e) = error_faults e

-- so it was in one of these steps
abbrev pub any_faults : List LaneStep → Bool
any_faults ss = list_any faults_in ss

-- ---- lanes

abbrev pub expired_in : LaneStep → ℕ
expired_in (step.Served p k d) = 0
expired_in (step.Expired p k) = 1
expired_in (step.Failed e) = 0

-- how many steps are expired ones
abbrev pub expired_count : List LaneStep → ℕ
expired_count [] = 0
expired_count (s ∷ ss) = expired_in s + expired_count ss

-- each step is of its fetch, and there are no more steps than fetches
abbrev pub AreOf : ClientTold → ClientTold → List Served → List Said → List Ask → List LaneStep → Type 0
AreOf before after served all qs [] = Unit {0}
AreOf before after served all [] (s ∷ ss) = ⊥
AreOf before after served all (a ∷ qs) (s ∷ ss) = IsOf before after served all a s × AreOf before after served all qs ss

-- one step, against what its connection tells before and after it
pub record StepDid (before after : ClientTold) (a : Ask) (s : LaneStep) : Type 0 where
  pub goes_on : ClientGoesOn before after
  pub asked : after.asked ≡ before.asked
  pub said : List Said
  pub hidden : List Served
  -- no answer to a query, and an answer with bytes for each entry, so that each entry's answer is known
  pub quiet : plans_in said ≡ []
  pub pairs : IsPaired before after (entries_in a s ++ hidden) said
  pub is : IsOf before after (entries_in a s ++ hidden) said a s
  pub at_most : HidesOne a (may_hide s) hidden
  -- at most one answer, and an expired one where the step says so and no other, to the fetch's own request
  pub once : length said ≤ 1
  pub late : late_in said ≡ lates_in a s
  pub expired : min (before.expiries + expired_in s) (2 ^ 64 - 1) ≤ after.expiries
  pub unfailed : faults_in s ≡ false → after.faults ≡ before.faults

-- the steps of a lane, made for the first of these fetches, against what its connection tells before and after
pub record LaneDid (before after : ClientTold) (qs : List Ask) (ss : List LaneStep) : Type 0 where
  pub goes_on : ClientGoesOn before after
  pub asked : after.asked ≡ before.asked
  pub said : List Said
  -- a served entry that no Served step says
  pub hidden : List Served
  pub quiet : plans_in said ≡ []
  pub pairs : IsPaired before after (entries_of qs ss ++ hidden) said
  pub are : AreOf before after (entries_of qs ss ++ hidden) said qs ss
  pub at_most : IsHidden qs ss hidden
  pub none : HidesNone ss → hidden ≡ []
  -- no more answers than steps, and the expired ones are to the requests of the Expired steps
  pub once : length said ≤ length ss
  pub late : late_in said ≡ lates_of qs ss
  -- as many expired answers as Expired steps, unless their count stands at its last value
  pub expired : min (before.expiries + expired_count ss) (2 ^ 64 - 1) ≤ after.expiries
  pub unfailed : any_faults ss ≡ false → after.faults ≡ before.faults

-- ---- rounds

-- the fetches of these numbers
abbrev pub AreAt : List Ask → List ℕ → List Ask → Type 0
AreAt fs ks qs = AllZip (λ k a. slice_get fs k ≡ Some a) ks qs

-- what a lane did to its connection, by the numbers of the fetches that it drew
pub record LaneDrew (fs : List Ask) (before after : ClientTold) (drawn : List ℕ) (steps : List LaneStep) : Type 0 where
  pub made : List Ask
  pub at : AreAt fs drawn made
  pub did : LaneDid before after made steps

-- so each lane. Connections past the lanes are as before
abbrev pub EachDrew : List Ask → List ClientTold → List ClientTold → List (List ℕ) → List (List LaneStep) → Type 0
EachDrew fs bs ns [] [] = ns ≡ bs
EachDrew fs bs ns [] (ss ∷ es) = ⊥
EachDrew fs bs ns (d ∷ ds) [] = ⊥
EachDrew fs [] ns (d ∷ ds) (ss ∷ es) = ⊥
EachDrew fs (b ∷ bs) [] (d ∷ ds) (ss ∷ es) = ⊥
EachDrew fs (b ∷ bs) (n ∷ ns) (d ∷ ds) (ss ∷ es) = LaneDrew fs b n d ss × EachDrew fs bs ns ds es

-- the lanes, of which there are not too many, drew the numbers below some count, each once
pub record DrewApart (fs : List Ask) (before after : List ClientTold) (es : List (List LaneStep)) : Type 0 where
  pub drawn : List (List ℕ)
  pub count : ℕ
  pub apart : (x : ℕ) → times x (concat drawn) ≡ once_below x count
  pub within : count ≤ length fs
  pub few : length es ≤ most_lanes
  pub each : EachDrew fs before after drawn es
