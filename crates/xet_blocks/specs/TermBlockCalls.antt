-- What one call of `retrieve_file_term_block` says.
use Rattle.std.specs.Prelude.{◌≡◌, ◌≤◌, ◌⊎◌, List, [], ◌∷◌, Option, Some, None, Result, Ok, Err, IfErr, IfOk, IsErrOf}
use Rattle.xet_base.specs.Store.{Store}
use Rattle.xet_outside.specs.declared.plan.Plan.{Plan}
use Rattle.xet_outside.specs.declared.plan.PlanAnswer.{PlanAnswer}
use Rattle.xet_outside.specs.declared.plan.PlanAnswer.TheVariants.{Found, PastEnd, NoFile}
use Rattle.xet_outside.specs.declared.plan.PlanTerm.{PlanTerm}
use Rattle.xet_outside.specs.declared.said.Said.TheVariants as said
use Rattle.xet_outside.specs.Plan.{shape}
use Rattle.xet_outside.specs.Told.{ClientTold, Grew, IsHonest, Query, Rose}
use Rattle.xet_error.specs.declared.error.Corruption.{Corruption}
use Rattle.xet_error.specs.declared.error.FileReconstructionError.{FileReconstructionError}
use Rattle.xet_error.specs.declared.error.FileReconstructionError.TheVariants as error
use Rattle.xet_blocks.specs.declared.reconstruction_terms.file_term.TermBlock.{TermBlock}
use Rattle.xet_offers.specs.PlanChecks.{failed_test}
use Rattle.xet_blocks.specs.PlanQuery.{PlanQuery}
use Rattle.xet_blocks.specs.TermBlocks.{IsTermBlock}

-- what the call answers
abbrev pub Answer : Type 0
Answer = Result (Option TermBlock) FileReconstructionError

-- a plan with terms makes the refusal of the first test that it fails, or else its terms and blocks
abbrev pub FromTested : Plan → PlanQuery → Option Corruption → Answer → Type 0
FromTested p query (Some k) answer = answer ≡ Err (error.CorruptedReconstruction k)
FromTested p query None answer = (b : TermBlock) × (answer ≡ Ok (Some b)) × IsTermBlock p query b

-- a plan without terms makes none
abbrev pub FromTerms : Plan → PlanQuery → List PlanTerm → Answer → Type 0
FromTerms p query [] answer = answer ≡ Ok None
FromTerms p query (t ∷ ts) answer = FromTested p query (failed_test (shape p) query.range query.multirange) answer

-- the answer that a connection's answer makes
abbrev pub FromAnswer : PlanQuery → PlanAnswer → Answer → Type 0
FromAnswer query (Found p) answer = FromTerms p query p.terms answer
FromAnswer query PastEnd answer = answer ≡ Ok None
FromAnswer query NoFile answer = answer ≡ Err error.FileNotFound

-- a connection was asked this query alone, and said one answer, which is that of the store that it tells and made this
-- one. It told no fault
pub record FromSaid (before after : ClientTold) (query : PlanQuery) (answer : Answer) : Type 0 where
  pub plan : PlanAnswer
  pub asked : Grew before.asked after.asked (query.file, query.range)
  pub said : Grew before.said after.said (said.Plan plan)
  pub unfailed : after.faults ≡ before.faults
  pub honest : (s : Store) → before.store ≡ Some s → IsHonest s query.file query.range plan
  pub from : FromAnswer query plan answer

-- this was said in answer to a query that was asked, without a fault, and it is the answer of the store that is told
pub record QueryAnswered (before after : ClientTold) (query : Query) (answer : PlanAnswer) : Type 0 where
  pub asked : Grew before.asked after.asked query
  pub said : Grew before.said after.said (said.Plan answer)
  pub unfailed : after.faults ≡ before.faults
  pub honest : (s : Store) → before.store ≡ Some s → IsHonest s query.0 query.1 answer

-- a query was asked at most once: it was asked and one answer said to it, or asked and nothing said, or not asked
abbrev pub AskedAtMostOnce : ClientTold → ClientTold → Query → Type 0
AskedAtMostOnce before after query =
    ((answer : PlanAnswer) × QueryAnswered before after query answer)
    ⊎ (Grew before.asked after.asked query × (after.said ≡ before.said))
    ⊎ ((after.asked ≡ before.asked) × (after.said ≡ before.said))

-- the cause of each error: want of memory is free, and no others come
abbrev pub TermBlockCause : ClientTold → ClientTold → PlanQuery → FileReconstructionError → Type 0
TermBlockCause before after query error.OutOfMemory = Unit {0}
TermBlockCause before after query error.ClientError = Rose before.faults after.faults
TermBlockCause before after query error.FileNotFound = FromSaid before after query (Err error.FileNotFound)
TermBlockCause before after query (error.CorruptedReconstruction k) =
    FromSaid before after query (Err (error.CorruptedReconstruction k))
TermBlockCause before after query e = ⊥

-- one call of `retrieve_file_term_block`
pub record TermBlockCall (before after : ClientTold) (query : PlanQuery) (answer : Answer) : Type 0 where
  pub made : IfOk answer (λ o. FromSaid before after query (Ok o))
  pub cause : IfErr answer (TermBlockCause before after query)
  pub store : after.store ≡ before.store
  pub asks : AskedAtMostOnce before after (query.file, query.range)
  pub unsaid : IsErrOf answer error.ClientError → after.said ≡ before.said
  pub served : after.served ≡ before.served
  pub faults : before.faults ≤ after.faults
  pub expiries : before.expiries ≤ after.expiries
  pub link : after.link ≡ before.link
