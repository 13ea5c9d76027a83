-- An answer belongs to its own request: the lists that a connection tells of what it was asked, what it served and what
-- it said are in step.
use Rattle.std.specs.Prelude.{ℕ, ◌≡◌, List, [], ◌∷◌, length, slice_get, Some, Result, Ok, Err}
use Rattle.std.specs.List.{flat_map}
use Rattle.xet_outside.specs.declared.block.BlockAnswer.{BlockAnswer}
use Rattle.xet_outside.specs.declared.block.BlockAnswer.TheVariants.{Bytes, Expired}
use Rattle.xet_outside.specs.declared.block.BlockBytes.{BlockBytes}
use Rattle.xet_outside.specs.declared.block.BlockRequest.{BlockRequest}
use Rattle.xet_outside.specs.declared.client.ClientError.{ClientError}
use Rattle.xet_outside.specs.declared.plan.PlanAnswer.{PlanAnswer}
use Rattle.xet_outside.specs.declared.said.Said.{Said}
use Rattle.xet_outside.specs.declared.said.Said.TheVariants as said
use Rattle.xet_outside.specs.declared.served.Served.{Served}
use Rattle.xet_outside.specs.Told.{Added, ClientTold, Query, said_to, served_of}

-- ---- answers to requests for blocks

-- the bytes of an answer, if it has some
abbrev pub bytes_said : Said → List BlockBytes
bytes_said (said.Plan a) = []
bytes_said (said.Block b) = b ∷ []
bytes_said (said.Expired e) = []

-- the answers with bytes, in order
abbrev pub bytes_in : List Said → List BlockBytes
bytes_in all = flat_map bytes_said all

-- these bytes were said in answer to the request of this entry: the n-th answer with bytes is to the n-th served block
pub record AnswerTo (served : List Served) (all : List Said) (e : Served) (b : BlockBytes) : Type 0 where
  pub place : ℕ
  pub entry : slice_get served place ≡ Some e
  pub bytes : slice_get (bytes_in all) place ≡ Some b

-- what a connection served and said between two moments: an answer with bytes for each served block
pub record IsPaired (before after : ClientTold) (served : List Served) (all : List Said) : Type 0 where
  pub serves : Added before.served after.served served
  pub says : Added before.said after.said all
  pub paired : length served ≡ length (bytes_in all)

-- ---- expired answers

-- the request that an answer says to have expired, if it does
abbrev pub late_said : Said → List Served
late_said (said.Plan a) = []
late_said (said.Block b) = []
late_said (said.Expired e) = e ∷ []

-- the requests that were answered as expired, in order
abbrev pub late_in : List Said → List Served
late_in all = flat_map late_said all

-- ---- answers to queries

-- the answer to a query, if it is one
abbrev pub plans_said : Said → List PlanAnswer
plans_said (said.Plan a) = a ∷ []
plans_said (said.Block b) = []
plans_said (said.Expired e) = []

-- the answers to queries, in order
abbrev pub plans_in : List Said → List PlanAnswer
plans_in all = flat_map plans_said all

-- this was said in answer to this query: the n-th answer to a query is to the n-th query
pub record AnswerToQuery (asked : List Query) (all : List Said) (q : Query) (a : PlanAnswer) : Type 0 where
  pub place : ℕ
  pub query : slice_get asked place ≡ Some q
  pub answer : slice_get (plans_in all) place ≡ Some a

-- what a connection was asked and said between two moments: an answer for each query
pub record IsAnswered (before after : ClientTold) (asked : List Query) (all : List Said) : Type 0 where
  pub asks : Added before.asked after.asked asked
  pub says : Added before.said after.said all
  pub answered : length asked ≡ length (plans_in all)

-- ---- one call

-- what a call of `block` adds to the served blocks
abbrev pub block_served : BlockRequest → Result BlockAnswer ClientError → List Served
block_served r (Ok (Bytes b)) = served_of r ∷ []
block_served r (Ok Expired) = []
block_served r (Err e) = []

-- and to what was said
abbrev pub block_said : BlockRequest → Result BlockAnswer ClientError → List Said
block_said r (Ok a) = said_to r a ∷ []
block_said r (Err e) = []

-- what a call of `plan` adds to what was said
abbrev pub plan_said : Result PlanAnswer ClientError → List Said
plan_said (Ok a) = said.Plan a ∷ []
plan_said (Err e) = []
