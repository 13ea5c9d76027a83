-- What each error of a run shows of what its arguments tell.
use Rattle.std.specs.Prelude.{ℕ, ◌≡◌, ◌⊎◌, ◌+◌, ◌-◌, ◌^◌, ◌<◌, ◌≤◌, true, List, [], ◌∷◌, Option}
use Rattle.std.specs.Prelude.{Some, None, IsNone, IfSome, All, slice_get, length, count_by}
use Rattle.xet_base.specs.declared.cas_types.FileRange.{FileRange}
use Rattle.xet_base.specs.Store.{Store, file_of}
use Rattle.xet_outside.specs.Answers.{late_in, plans_in}
use Rattle.xet_outside.specs.Plan.{shape}
use Rattle.xet_outside.specs.Told.{ClientTold, Rose}
use Rattle.xet_outside.specs.declared.block.BlockBytes.{BlockBytes}
use Rattle.xet_outside.specs.declared.plan.Plan.{Plan}
use Rattle.xet_outside.specs.declared.plan.PlanAnswer.{PlanAnswer}
use Rattle.xet_outside.specs.declared.plan.PlanAnswer.TheVariants.{NoFile}
use Rattle.xet_outside.specs.declared.served.Served.{Served}
use Rattle.xet_error.specs.declared.error.Corruption.{Corruption}
use Rattle.xet_error.specs.declared.error.Corruption.TheVariants.{BlockLength, OffsetCount, OffsetOrder, TermPastBlock}
use Rattle.xet_error.specs.declared.error.FileReconstructionError.{FileReconstructionError}
use Rattle.xet_error.specs.declared.error.FileReconstructionError.TheVariants as error
use Rattle.xet_error.specs.declared.error.Setting.{Setting}
use Rattle.xet_offers.specs.BlockCalls.{failed_check}
use Rattle.xet_offers.specs.BlockChecks.{block_data}
use Rattle.xet_blocks.specs.Extracts.{failed_term_test}
use Rattle.xet_offers.specs.PlanChecks.{failed_test, covered}
use Rattle.xet_fetch.specs.Refreshes.{plan_extents, refusal_of}
use Rattle.xet_terms.specs.Settings.{failing_setting}
use Rattle.xet_ties.specs.InCall.{AllBelow, Exchange, SomeOne, answers_of, expired_said, new_in}
use Rattle.xet_ties.specs.Saids.{AllPassed, BlockOfPlan, EntryPassed, IsBlockAnswer, IsPlanAccepted, IsPlanSaid}
use Rattle.xet_ties.specs.Saids.{IsQueryAnswer, ServedPassed, TermOfPlan}
use Rattle.xet_ties.specs.Setup.{AllTell, IsOver, RunTold, Setup}
use Rattle.xet_ties.specs.Ties.{EachUnfailed, FirstUnfailed, is_pair}

-- ---- settings

-- the setting that fails first, of a run that is lent these connections
abbrev pub refused_setting : Setup → List ClientTold → Option Setting
refused_setting g cs = failing_setting (length cs) g.tries g.least g.greatest

-- ---- counts

-- the faults of some connection rose
abbrev pub SomeRose : List ClientTold → List ClientTold → Type 0
SomeRose (b ∷ bs) (n ∷ ns) = Rose b.faults n.faults ⊎ SomeRose bs ns
SomeRose [] ns = ⊥
SomeRose (b ∷ bs) [] = ⊥

-- the faults of some connection rose, and Q holds of it and of each below it
abbrev pub LowestRose : (Exchange → Type 0) → List ClientTold → List ClientTold → List Exchange → Type 0
LowestRose Q (b ∷ bs) (n ∷ ns) (x ∷ xs) = Q x × (Rose b.faults n.faults ⊎ LowestRose Q bs ns xs)
LowestRose Q [] ns xs = ⊥
LowestRose Q (b ∷ bs) [] xs = ⊥
LowestRose Q (b ∷ bs) (n ∷ ns) [] = ⊥

-- the expired answers of all connections
abbrev pub total_expiries : List ClientTold → ℕ
total_expiries [] = 0
total_expiries (c ∷ cs) = c.expiries + total_expiries cs

-- no count of expired answers stands at its last value
abbrev pub NoneAtEnd : List ClientTold → Type 0
NoneAtEnd [] = Unit {0}
NoneAtEnd (c ∷ cs) = (c.expiries < 2 ^ 64 - 1) × NoneAtEnd cs

-- the expired answers that connections said together
abbrev pub expired_answers : List Exchange → ℕ
expired_answers [] = 0
expired_answers (x ∷ xs) = count_by expired_said x.said + expired_answers xs

-- how many requests for this block of this plan connections answered as expired together
abbrev pub late_answers : ℕ → ℕ → List Exchange → ℕ
late_answers p k [] = 0
late_answers p k (x ∷ xs) = count_by (is_pair p k) (late_in x.said) + late_answers p k xs

-- the requests for one block were answered as expired so often at least; by the counts, where none stands at its last
-- value, so many expired answers came
pub record HaveExpired (tries : ℕ) (xs : List Exchange) (before after : List ClientTold) : Type 0 where
  pub counted : NoneAtEnd after → total_expiries before + tries ≤ total_expiries after
  pub plan : ℕ
  pub block : ℕ
  pub said : tries ≤ late_answers plan block xs

-- ---- failed tests

-- the plan that was said in answer to a query fails this test
pub record PlanFails (g : Setup) (xs : List Exchange) (k : Corruption) : Type 0 where
  pub plan : Plan
  pub query : FileRange
  pub said : IsPlanSaid g xs plan query
  pub fails : failed_test (shape plan) query g.multirange ≡ Some k

-- the answer to a query for the bytes of an accepted plan is refused by this test as the plan's refresh
pub record RefreshFails (g : Setup) (xs : List Exchange) (k : Corruption) : Type 0 where
  pub plan : Plan
  pub query : FileRange
  pub accepted : IsPlanAccepted g xs plan query
  pub answer : PlanAnswer
  pub answered : IsQueryAnswer g.file xs (covered (shape plan) query) answer
  pub fails : refusal_of (covered (shape plan) query) g.multirange (plan_extents (shape plan) g.multirange) answer
      ≡ Some (error.CorruptedReconstruction k)

-- bytes that a connection said in answer to a block's own request fail this test
pub record BlockFailsIn (g : Setup) (xs : List Exchange) (b : BlockOfPlan g xs) (p : ℕ) (k : Corruption)
    (x : Exchange) : Type 0 where
  pub given : BlockBytes
  pub answer : IsBlockAnswer x p b.number b.block given
  pub fails : failed_check b.block given ≡ Some k

-- so the bytes of a block of an accepted plan, under that plan's number
pub record BlockFails (g : Setup) (xs : List Exchange) (k : Corruption) : Type 0 where
  pub place : BlockOfPlan g xs
  pub number : ℕ
  pub own : number ≡ place.accepted.said.number
  pub bytes : SomeOne (BlockFailsIn g xs place number k) xs

-- in bytes that a connection said in answer to a block's own request, and that pass its tests, a term fails this test
pub record TermFailsIn (g : Setup) (xs : List Exchange) (t : TermOfPlan g xs) (p : ℕ) (k : Corruption)
    (x : Exchange) : Type 0 where
  pub given : BlockBytes
  pub answer : IsBlockAnswer x p t.place.number t.place.block given
  pub passes : failed_check t.place.block given ≡ None
  pub fails : failed_term_test t.term (block_data t.place.block.chunk_ranges given) ≡ Some k

-- so a term of an accepted plan, under that plan's number
pub record TermFails (g : Setup) (xs : List Exchange) (k : Corruption) : Type 0 where
  pub place : TermOfPlan g xs
  pub number : ℕ
  pub own : number ≡ place.place.accepted.said.number
  pub bytes : SomeOne (TermFailsIn g xs place number k) xs

-- one of the answers failed this test, the first that it fails
abbrev pub SomeFailed : Setup → List Exchange → Corruption → Type 0
SomeFailed g xs k = PlanFails g xs k ⊎ RefreshFails g xs k ⊎ BlockFails g xs k ⊎ TermFails g xs k

-- ---- what the first connection alone tells of it

-- the tests of a block's bytes, and of the terms in them
abbrev pub IsBlockTest : Corruption → Type 0
IsBlockTest (OffsetCount expected actual) = Unit {0}
IsBlockTest (OffsetOrder place) = Unit {0}
IsBlockTest (BlockLength expected actual) = Unit {0}
IsBlockTest (TermPastBlock end length) = Unit {0}
IsBlockTest k = ⊥

-- an answer to a query failed this test: a plan's or a refresh's
abbrev pub QueryFailed : Setup → List Exchange → Corruption → Type 0
QueryFailed g xs k = PlanFails g xs k ⊎ RefreshFails g xs k

-- so it is by what the first connection was asked and said, where it tells that, unless the test is of a block
abbrev pub FirstFailed : Setup → List ClientTold → List ClientTold → Corruption → Type 0
FirstFailed g [] ns k = ⊥
FirstFailed g (b ∷ bs) [] k = ⊥
FirstFailed g (b ∷ bs) (n ∷ ns) k = IfSome (answers_of b n) (λ x. QueryFailed g (x ∷ []) k ⊎ IsBlockTest k)

-- ---- causes

-- the first connection, where it tells what it said, answered a query that there is no such file
abbrev pub FirstSaysNone : List ClientTold → List ClientTold → Type 0
FirstSaysNone [] ns = ⊥
FirstSaysNone (b ∷ bs) [] = ⊥
FirstSaysNone (b ∷ bs) (n ∷ ns) =
    IfSome (new_in b.said n.said) (λ all. (i : ℕ) × (slice_get (plans_in all) i ≡ Some NoFile))

-- the range has bytes, the answer to a query was that the file isn't stored, and no told store has it
pub record IsMissingFile (g : Setup) (xs : List Exchange) (before after : List ClientTold) : Type 0 where
  pub some : g.range.start < g.range.end
  pub said : (q : FileRange) × IsQueryAnswer g.file xs q NoFile
  -- whatever the other connections tell
  pub first : FirstSaysNone before after
  pub unstored : (s : Store) → AllTell s before → IsNone (file_of s g.file)

-- the entry is of the block of this number of this plan, or that block's own bytes pass its tests
abbrev pub IsBlockOrPassed : Setup → List Exchange → ℕ → ℕ → Served → Type 0
IsBlockOrPassed g xs p k e = (is_pair p k e ≡ true) ⊎ EntryPassed g xs e

-- bytes of a block that the connection of this number said fail this test. It told no fault, nor did a lower one; each
-- other block that it served passed its tests, and so did those that lower ones served: of the errors of several lanes
-- it is the lowest one's, and that lane's only one
pub record LaneFails (g : Setup) (xs : List Exchange) (before after : List ClientTold) (k : Corruption) : Type 0 where
  pub lane : ℕ
  pub exchange : Exchange
  pub at : slice_get xs lane ≡ Some exchange
  pub place : BlockOfPlan g xs
  pub number : ℕ
  pub own : number ≡ place.accepted.said.number
  pub bytes : BlockFailsIn g xs place number k exchange
  pub others : All (IsBlockOrPassed g xs number place.number) exchange.served
  pub passed : AllBelow (ServedPassed g xs) lane xs
  pub unfailed : FirstUnfailed (lane + 1) before after

-- no connection told a fault, and each block that was served passed its tests
pub record NothingElse (g : Setup) (xs : List Exchange) (before after : List ClientTold) : Type 0 where
  pub passed : AllPassed g xs
  pub unfailed : EachUnfailed before after

-- an answer failed this test, and the connections don't tell one valid store
pub record IsCorrupted (g : Setup) (xs : List Exchange) (before after : List ClientTold) (k : Corruption)
    : Type 0 where
  pub untrue : (s : Store) → IsOver s before → ⊥
  -- no call of a connection failed, and no test of a served block; or the test is of a block, and none of these failed
  -- besides in its connection and below
  pub failed : (SomeFailed g xs k × NothingElse g xs before after) ⊎ LaneFails g xs before after k
  -- whatever the other connections tell
  pub first : FirstFailed g before after k

-- the cause of each error, by what the connections were asked, served and said; want of memory is free, and a run is
-- never at fault itself
abbrev pub Cause : Setup → List Exchange → RunTold → RunTold → FileReconstructionError → Type 0
Cause g xs before after error.OutOfMemory = Unit {0}
Cause g xs before after error.ClientError = LowestRose (ServedPassed g xs) before.clients after.clients xs
Cause g xs before after error.FileNotFound = IsMissingFile g xs before.clients after.clients
Cause g xs before after error.UrlExpired = HaveExpired g.tries xs before.clients after.clients
Cause g xs before after error.IoError = Rose before.sink.faults after.sink.faults
Cause g xs before after (error.CorruptedReconstruction k) = IsCorrupted g xs before.clients after.clients k
Cause g xs before after (error.ConfigurationError e) = refused_setting g before.clients ≡ Some e
Cause g xs before after error.Cancelled = Rose before.signal.yes after.signal.yes
Cause g xs before after (error.InternalWriterError w) = ⊥
