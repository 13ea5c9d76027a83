-- Laws of what connections tell.
use Rattle.std.specs.Prelude.{List, [], ◌∷◌, ◌++◌, Result, Ok}
use Rattle.xet_base.specs.declared.cas_types.FileRange.{FileRange}
use Rattle.xet_base.specs.declared.merklehash.MerkleHash.{MerkleHash}
use Rattle.xet_outside.specs.Answers.{AnswerTo, AnswerToQuery, IsAnswered, IsPaired, block_said, block_served}
use Rattle.xet_outside.specs.Answers.{plan_said}
use Rattle.xet_outside.specs.Told.{BlockCall, ClientTold, PlanCall, Query}
use Rattle.xet_outside.specs.declared.block.BlockAnswer.{BlockAnswer}
use Rattle.xet_outside.specs.declared.block.BlockBytes.{BlockBytes}
use Rattle.xet_outside.specs.declared.block.BlockRequest.{BlockRequest}
use Rattle.xet_outside.specs.declared.client.ClientError.{ClientError}
use Rattle.xet_outside.specs.declared.plan.PlanAnswer.{PlanAnswer}
use Rattle.xet_outside.specs.declared.said.Said.{Said}
use Rattle.xet_outside.specs.declared.served.Served.{Served}

-- a call of `block` adds an answer with bytes for each served block that it adds
abbrev pub BlocksPair : Type 0
BlocksPair = (before after : ClientTold) (r : BlockRequest) (answer : Result BlockAnswer ClientError)
    → BlockCall before after r answer → IsPaired before after (block_served r answer) (block_said r answer)

-- a call of `plan` adds neither
abbrev pub PlansPair : Type 0
PlansPair = (before after : ClientTold) (f : MerkleHash) (q : FileRange) (answer : Result PlanAnswer ClientError)
    → PlanCall before after f q answer → IsPaired before after [] (plan_said answer)

-- calls in a row add one after the other
abbrev pub PairsJoin : Type 0
PairsJoin = (before between after : ClientTold) (xs ys : List Served) (all more : List Said)
    → IsPaired before between xs all → IsPaired between after ys more → IsPaired before after (xs ++ ys) (all ++ more)

-- an answer to a request stays one after more calls, and an answer among what more calls add is one among all
abbrev pub AnswersStay : Type 0
AnswersStay = (xs ys : List Served) (all more : List Said) (e : Served) (b : BlockBytes)
    → AnswerTo xs all e b → AnswerTo (xs ++ ys) (all ++ more) e b

abbrev pub AnswersCome : Type 0
AnswersCome = (before between : ClientTold) (xs ys : List Served) (all more : List Said) (e : Served) (b : BlockBytes)
    → IsPaired before between xs all → AnswerTo ys more e b → AnswerTo (xs ++ ys) (all ++ more) e b

-- a call of `plan` that answers adds an answer for its query, and a call of `block` adds neither
abbrev pub QueriesAnswered : Type 0
QueriesAnswered = (before after : ClientTold) (f : MerkleHash) (q : FileRange) (a : PlanAnswer)
    → PlanCall before after f q (Ok a) → IsAnswered before after ((f, q) ∷ []) (plan_said (Ok a))

abbrev pub BlocksAnswerNoQuery : Type 0
BlocksAnswerNoQuery = (before after : ClientTold) (r : BlockRequest) (answer : Result BlockAnswer ClientError)
    → BlockCall before after r answer → IsAnswered before after [] (block_said r answer)

-- calls in a row
abbrev pub AnswersJoin : Type 0
AnswersJoin = (before between after : ClientTold) (xs ys : List Query) (all more : List Said)
    → IsAnswered before between xs all → IsAnswered between after ys more
    → IsAnswered before after (xs ++ ys) (all ++ more)

-- an answer to a query stays one after more calls, and an answer among what more calls add is one among all
abbrev pub QueryAnswersStay : Type 0
QueryAnswersStay = (xs ys : List Query) (all more : List Said) (q : Query) (a : PlanAnswer)
    → AnswerToQuery xs all q a → AnswerToQuery (xs ++ ys) (all ++ more) q a

abbrev pub QueryAnswersCome : Type 0
QueryAnswersCome = (before between : ClientTold) (xs ys : List Query) (all more : List Said)
    (q : Query) (a : PlanAnswer)
    → IsAnswered before between xs all → AnswerToQuery ys more q a → AnswerToQuery (xs ++ ys) (all ++ more) q a
