-- How plans and data are tied to what the connections said, each answer to its own request.
use Rattle.std.specs.Prelude.{ℕ, ◌≡◌, ◌⊎◌, ◌+◌, ◌-◌, ◌<◌, ◌≤◌, Bool, true, cond, List, [], ◌∷◌}
use Rattle.std.specs.Prelude.{length, map, take, filter, nat_le, nat_lt, All, Contains, None, Some, slice_get}
use Rattle.std.specs.List.{AllZip, concat}
use Rattle.xet_base.specs.declared.cas_types.ChunkRange.{ChunkRange}
use Rattle.xet_base.specs.declared.cas_types.FileRange.{FileRange}
use Rattle.xet_base.specs.declared.merklehash.MerkleHash.{MerkleHash}
use Rattle.xet_outside.specs.Answers.{AnswerTo, AnswerToQuery, plans_in}
use Rattle.xet_outside.specs.Plan.{shape}
use Rattle.xet_outside.specs.Told.{Query}
use Rattle.xet_outside.specs.declared.block.BlockBytes.{BlockBytes}
use Rattle.xet_outside.specs.declared.plan.Plan.{Plan}
use Rattle.xet_outside.specs.declared.plan.PlanAnswer.{PlanAnswer}
use Rattle.xet_outside.specs.declared.plan.PlanAnswer.TheVariants.{Found, PastEnd, NoFile}
use Rattle.xet_outside.specs.declared.served.Served.{Served}
use Rattle.xet_blocks.specs.declared.reconstruction_terms.file_term.FileTerm.{FileTerm}
use Rattle.xet_offers.specs.declared.reconstruction_terms.xorb_block.XorbBlock.{XorbBlock}
use Rattle.xet_offers.specs.declared.reconstruction_terms.xorb_block.XorbBlockData.{XorbBlockData}
use Rattle.xet_offers.specs.BlockCalls.{failed_check}
use Rattle.xet_offers.specs.BlockChecks.{block_data}
use Rattle.xet_offers.specs.Blocks.{blocks_of}
use Rattle.xet_blocks.specs.Extracts.{failed_term_test, term_bytes_in}
use Rattle.xet_offers.specs.PlanChecks.{failed_test, covered}
use Rattle.xet_blocks.specs.TermBlocks.{xorb_blocks}
use Rattle.xet_blocks.specs.Terms.{terms_of}
use Rattle.xet_fetch.specs.CachedBlocks.{passes_cached}
use Rattle.xet_fetch.specs.Refreshes.{plan_extents, refusal_of}
use Rattle.xet_events.specs.declared.event.Event.{Event}
use Rattle.xet_events.specs.declared.event.Event.TheVariants.{Fetched, Planned}
use Rattle.xet_events.specs.declared.event.PlannedBlock.{PlannedBlock}
use Rattle.xet_events.specs.declared.event.PlannedTerm.{PlannedTerm}
use Rattle.xet_events.specs.Events.{Task, planned, size}
use Rattle.xet_history.specs.Laws.{IsPrefix}
use Rattle.xet_history.specs.TrueHistory.{planned_block, planned_term}
use Rattle.xet_ties.specs.History.{entry_of}
use Rattle.xet_ties.specs.InCall.{Exchange, Look, SomeOne}
use Rattle.xet_ties.specs.Setup.{Setup}

-- ---- plans

-- the first connection said this in answer to this query for the file
abbrev pub IsQueryAnswer : MerkleHash → List Exchange → FileRange → PlanAnswer → Type 0
IsQueryAnswer f [] q a = ⊥
IsQueryAnswer f (x ∷ xs) q a = AnswerToQuery x.asked x.said (f, q) a

-- the places of the queries that start where those before them end, or past that. These cut the range: each other one
-- asks for a plan's bytes again
abbrev pub cut_places : ℕ → ℕ → List Query → List ℕ
cut_places place end [] = []
cut_places place end (q ∷ qs) =
    cond (nat_le end q.1.start) (place ∷ cut_places (place + 1) q.1.end qs) (cut_places (place + 1) end qs)

-- a connection said this in answer to the query of this number among those that cut the range, counted from 1, and to
-- no later one for the same bytes. There is one such answer
pub record AnswerOf (x : Exchange) (number : ℕ) (q : Query) (a : PlanAnswer) : Type 0 where
  pub place : ℕ
  pub some : 0 < number
  pub at : slice_get (cut_places 0 0 x.asked) (number - 1) ≡ Some place
  pub query : slice_get x.asked place ≡ Some q
  pub answer : slice_get (plans_in x.said) place ≡ Some a

-- so the first connection did
abbrev pub IsCutAnswer : MerkleHash → List Exchange → ℕ → FileRange → PlanAnswer → Type 0
IsCutAnswer f [] n q a = ⊥
IsCutAnswer f (x ∷ xs) n q a = AnswerOf x n (f, q) a

-- a plan with terms was said in answer to a query in the range, one of those that cut it: this is the plan's number
pub record IsPlanSaid (g : Setup) (xs : List Exchange) (p : Plan) (q : FileRange) : Type 0 where
  pub number : ℕ
  pub answer : IsCutAnswer g.file xs number q (Found p)
  pub some : 0 < length p.terms
  pub from : g.range.start ≤ q.start
  pub to : q.end ≤ g.range.end

-- and it passes its tests
pub record IsPlanAccepted (g : Setup) (xs : List Exchange) (p : Plan) (q : FileRange) : Type 0 where
  pub said : IsPlanSaid g xs p q
  pub passes : failed_test (shape p) q g.multirange ≡ None

-- terms and blocks of a plan with terms that passes its tests
pub record IsMadeOfPlan (g : Setup) (q : FileRange) (ts : List PlannedTerm) (bs : List PlannedBlock)
    (p : Plan) : Type 0 where
  pub some : 0 < length p.terms
  pub passes : failed_test (shape p) q g.multirange ≡ None
  pub terms : ts ≡ map planned_term (terms_of (shape p) q g.multirange)
  pub blocks : bs ≡ map planned_block (blocks_of (shape p) g.multirange)

-- the terms and blocks that an answer makes: none past the end and of a plan without terms, else those of the plan
abbrev pub IsMadeOf : Setup → FileRange → List PlannedTerm → List PlannedBlock → PlanAnswer → Type 0
IsMadeOf g q ts bs NoFile = ⊥
IsMadeOf g q ts bs PastEnd = (ts ≡ []) × (bs ≡ [])
IsMadeOf g q ts bs (Found p) = ((p.terms ≡ []) × (ts ≡ []) × (bs ≡ [])) ⊎ IsMadeOfPlan g q ts bs p

-- terms and blocks of the answer that was said to the query of this number
pub record IsPlannedBy (g : Setup) (x : Exchange) (n : ℕ) (q : FileRange) (ts : List PlannedTerm)
    (bs : List PlannedBlock) : Type 0 where
  pub answer : PlanAnswer
  pub said : AnswerOf x n (g.file, q) answer
  pub made : IsMadeOf g q ts bs answer

-- so each Planned event has, by its own number
abbrev pub IsEventSaid : Setup → Exchange → Event → Type 0
IsEventSaid g x (Planned plan query terms blocks) = IsPlannedBy g x plan query terms blocks
IsEventSaid g x _ = Unit {0}

-- the query at this place asked for the bytes that a plan covers which was said, and its answer renews the plan: it
-- isn't refused, by the plan's range and blocks
pub record IsRenewal (g : Setup) (x : Exchange) (place : ℕ) : Type 0 where
  pub number : ℕ
  pub plan : Plan
  pub query : FileRange
  pub own : AnswerOf x number (g.file, query) (Found plan)
  pub asked : slice_get x.asked place ≡ Some (g.file, covered (shape plan) query)
  pub answer : PlanAnswer
  pub said : slice_get (plans_in x.said) place ≡ Some answer
  pub passes : refusal_of (covered (shape plan) query) g.multirange (plan_extents (shape plan) g.multirange) answer
      ≡ None

-- each of the first queries, so many, cuts the range, or its answer renews a plan
abbrev pub AllRenewed : Setup → Exchange → ℕ → Type 0
AllRenewed g x count = (i : ℕ) → i < count → Contains (cut_places 0 0 x.asked) i ⊎ IsRenewal g x i

-- so of the first connection, but for the query whose answer isn't recorded
abbrev pub FirstRenewed : Setup → List Query → List Exchange → Type 0
FirstRenewed g lost [] = ⊥
FirstRenewed g lost (x ∷ xs) = AllRenewed g x (length x.asked - length lost)

-- a connection was asked for no plan
pub record IsUnasked (x : Exchange) : Type 0 where
  pub asked : x.asked ≡ []
  pub plans : plans_in x.said ≡ []

-- the first connection said each plan of the history, and the others were asked for none
abbrev pub FirstSaid : Setup → List Event → List Exchange → Type 0
FirstSaid g es [] = ⊥
FirstSaid g es (x ∷ xs) = All (IsEventSaid g x) es × All IsUnasked xs

-- the first connection said an answer for each query
abbrev pub InStep : List Exchange → Type 0
InStep [] = ⊥
InStep (x ∷ xs) = length x.asked ≡ length (plans_in x.said)

-- ---- data of blocks

-- the block as the history has it
abbrev pub planned_of : XorbBlock → PlannedBlock
planned_of b = record { xorb = b.xorb_hash; ranges = b.chunk_ranges }

-- bytes that a connection said in answer to the own request of the block of this number of this plan
abbrev pub IsBlockAnswer : Exchange → ℕ → ℕ → XorbBlock → BlockBytes → Type 0
IsBlockAnswer x p k b given = AnswerTo x.served x.said (entry_of p k (planned_of b)) given

-- data that is made of such bytes, which pass the block's tests
pub record IsServedData (x : Exchange) (p k : ℕ) (b : XorbBlock) (d : XorbBlockData) : Type 0 where
  pub given : BlockBytes
  pub answer : IsBlockAnswer x p k b given
  pub passes : failed_check b given ≡ None
  pub made : d ≡ block_data b.chunk_ranges given

-- data that is made of an entry that a look for the block's one range gave, and that passes the tests
pub record IsLookedData (looks : List Look) (b : XorbBlock) (d : XorbBlockData) : Type 0 where
  pub range : ChunkRange
  pub given : BlockBytes
  pub one : b.chunk_ranges ≡ range ∷ []
  pub looked : Contains looks (b.xorb_hash, range, Some given)
  pub passes : passes_cached b given ≡ true
  pub made : d ≡ block_data b.chunk_ranges given

-- tested data of the block of this number of this plan: of some connection, or of the cache
abbrev pub IsTestedData : List Exchange → List Look → ℕ → ℕ → XorbBlock → XorbBlockData → Type 0
IsTestedData xs looks p k b d = SomeOne (λ x. IsServedData x p k b d) xs ⊎ IsLookedData looks b d

-- ---- pieces

-- a block of an accepted plan by its number
pub record BlockOfPlan (g : Setup) (xs : List Exchange) : Type 0 where
  pub plan : Plan
  pub query : FileRange
  pub accepted : IsPlanAccepted g xs plan query
  pub number : ℕ
  pub block : XorbBlock
  pub numbered : slice_get (xorb_blocks (shape plan) g.multirange) number ≡ Some block

-- bytes that were said in answer to the own request of the block of this number of this plan pass the block's tests
pub record PassedIn (b : XorbBlock) (p k : ℕ) (x : Exchange) : Type 0 where
  pub given : BlockBytes
  pub answer : IsBlockAnswer x p k b given
  pub passes : failed_check b given ≡ None

-- so some connection's for the block of this number of the very plan of this number
pub record HasPassed (g : Setup) (xs : List Exchange) (p k : ℕ) : Type 0 where
  pub place : BlockOfPlan g xs
  pub own : p ≡ place.accepted.said.number
  pub index : k ≡ place.number
  pub bytes : SomeOne (PassedIn place.block p k) xs

-- so for each Fetched event
abbrev pub EventPassed : Setup → List Exchange → Event → Type 0
EventPassed g xs (Fetched lane p k) = HasPassed g xs p k
EventPassed g xs _ = Unit {0}

-- and for the block of an entry
abbrev pub EntryPassed : Setup → List Exchange → Served → Type 0
EntryPassed g xs e = HasPassed g xs e.plan e.index

-- so for each block that this connection served
abbrev pub ServedPassed : Setup → List Exchange → Exchange → Type 0
ServedPassed g xs x = All (EntryPassed g xs) x.served

-- and for each that was served at all
abbrev pub AllPassed : Setup → List Exchange → Type 0
AllPassed g xs = All (ServedPassed g xs) xs

-- a term of an accepted plan, with its block
pub record TermOfPlan (g : Setup) (xs : List Exchange) : Type 0 where
  pub place : BlockOfPlan g xs
  pub term : FileTerm
  pub listed : Contains (terms_of (shape place.plan) place.query g.multirange) term
  pub of_term : term.xorb_block ≡ place.number

-- the bytes of a term of the plan of this number, in tested data of its block, where it passes its own test
pub record IsPiece (g : Setup) (xs : List Exchange) (looks : List Look) (p : ℕ) (t : TermOfPlan g xs)
    (piece : List ℕ) : Type 0 where
  pub data_of : XorbBlockData
  pub tested : IsTestedData xs looks p t.place.number t.place.block data_of
  pub passes : failed_term_test t.term data_of ≡ None
  pub bytes : piece ≡ term_bytes_in t.term data_of

-- so the bytes of a planned term, of the very plan of its number
pub record IsTaskPiece (g : Setup) (xs : List Exchange) (looks : List Look) (t : Task) (piece : List ℕ) : Type 0 where
  pub of_plan : TermOfPlan g xs
  pub own : t.plan ≡ of_plan.place.accepted.said.number
  pub is : t.term ≡ planned_term of_plan.term
  pub piece_of : IsPiece g xs looks t.plan of_plan piece

-- the planned terms that have bytes, in order: the block of an empty one is never asked for
abbrev pub has_bytes : Task → Bool
has_bytes t = nat_lt 0 (size t)

abbrev pub some_of : List Event → List Task
some_of es = filter has_bytes (planned es)

-- bytes that are the beginning of the joined pieces of the first of these
pub record IsTested (g : Setup) (xs : List Exchange) (looks : List Look) (es : List Event)
    (taken : List ℕ) : Type 0 where
  pub pieces : List (List ℕ)
  pub each : AllZip (IsTaskPiece g xs looks) (take (length pieces) (some_of es)) pieces
  pub from : IsPrefix taken (concat pieces)
