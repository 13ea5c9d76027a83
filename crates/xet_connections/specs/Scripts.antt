-- A connection by a script.
use Rattle.std.specs.Prelude.{ℕ, ◌≡◌, ◌+◌, ◌-◌, ◌^◌, min, Bool, true, false, Option, Some, Result, Ok, Err, IfOk, IfErr}
use Rattle.xet_base.specs.Store.{Store}
use Rattle.xet_base.specs.declared.cas_types.FileRange.{FileRange}
use Rattle.xet_base.specs.declared.merklehash.MerkleHash.{MerkleHash}
use Rattle.xet_outside.specs.Told.{IsHonest}
use Rattle.xet_outside.specs.declared.block.BlockAnswer.{BlockAnswer}
use Rattle.xet_outside.specs.declared.block.BlockAnswer.TheVariants.{Bytes, Expired}
use Rattle.xet_outside.specs.declared.block.BlockRequest.{BlockRequest}
use Rattle.xet_outside.specs.declared.client.ClientError.{ClientError}
use Rattle.xet_outside.specs.declared.client.ClientError.TheVariants as client_error
use Rattle.xet_outside.specs.declared.plan.PlanAnswer.{PlanAnswer}
use Rattle.xet_store.specs.MemBlocks.{mem_block}
use Rattle.xet_connections.specs.declared.script_client.ClientStep.{ClientStep}
use Rattle.xet_connections.specs.declared.script_client.ClientStep.TheVariants.{Honest, Fail, Expire, NoMemory, SayPlan}
use Rattle.xet_connections.specs.declared.script_client.ClientStep.TheVariants.{SayBlock}

-- the step says something of its own
abbrev pub says : ClientStep → Bool
says Honest = false
says Fail = false
says Expire = false
says NoMemory = false
says (SayPlan p) = true
says (SayBlock b) = true

-- the answer to a query is honest, or memory is wanting
abbrev pub SaysPlan : Store → MerkleHash → FileRange → Result PlanAnswer ClientError → Type 0
SaysPlan s file range r = IfOk r (IsHonest s file range) × IfErr r (λ e. e ≡ client_error.OutOfMemory)

-- the answer to a query follows a step, where the step is one of a query, and else is honest
abbrev pub FollowsPlan : Store → MerkleHash → FileRange → Option ClientStep → Result PlanAnswer ClientError → Type 0
FollowsPlan s file range (Some Fail) r = r ≡ Err client_error.Failed
FollowsPlan s file range (Some NoMemory) r = r ≡ Err client_error.OutOfMemory
FollowsPlan s file range (Some (SayPlan p)) r = r ≡ Ok p
FollowsPlan s file range _ r = SaysPlan s file range r

-- the answer for a block is the store's bytes, or memory is wanting
abbrev pub SaysBlock : Store → BlockRequest → Result BlockAnswer ClientError → Type 0
SaysBlock s q r = IfOk r (λ a. a ≡ Bytes (mem_block s q.xorb q.chunks)) × IfErr r (λ e. e ≡ client_error.OutOfMemory)

-- the answer for a block follows a step, where it is one of a block, and else is honest
abbrev pub FollowsBlock : Store → BlockRequest → Option ClientStep → Result BlockAnswer ClientError → Type 0
FollowsBlock s q (Some Fail) r = r ≡ Err client_error.Failed
FollowsBlock s q (Some NoMemory) r = r ≡ Err client_error.OutOfMemory
FollowsBlock s q (Some Expire) r = r ≡ Ok Expired
FollowsBlock s q (Some (SayBlock b)) r = r ≡ Ok (Bytes b)
FollowsBlock s q _ r = SaysBlock s q r

-- a count with one more, or at its last value
abbrev pub one_more : ℕ → ℕ
one_more count = min (count + 1) (2 ^ 64 - 1)

-- the count of faults after a call that follows a step
abbrev pub faults_after : Option ClientStep → ℕ → ℕ
faults_after (Some Fail) count = one_more count
faults_after _ count = count

-- the count of expired answers after a call for a block that follows a step
abbrev pub expiries_after : Option ClientStep → ℕ → ℕ
expiries_after (Some Expire) count = one_more count
expiries_after _ count = count
