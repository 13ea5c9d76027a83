-- What one pull of a stream does and answers.
use Rattle.std.specs.Prelude.{ℕ, zero, suc, ◌≡◌, ◌⊎◌, ◌+◌, ◌<◌, ◌≤◌, ◌++◌, true, false, List, [], ◌∷◌, All}
use Rattle.std.specs.Prelude.{Contains}
use Rattle.std.specs.Prelude.{count_by, length, map, take, slice_get, Option, Some, None, IsNone, Result, Ok, Err}
use Rattle.xet_base.specs.declared.cas_types.FileRange.{FileRange}
use Rattle.xet_base.specs.declared.merklehash.MerkleHash.{MerkleHash}
use Rattle.xet_base.specs.Store.{Store, file_of}
use Rattle.xet_outside.specs.Plan.{shape}
use Rattle.xet_outside.specs.Told.{CacheTold, ClientTold}
use Rattle.xet_outside.specs.declared.plan.Plan.{Plan}
use Rattle.xet_outside.specs.declared.plan.PlanAnswer.{PlanAnswer}
use Rattle.xet_outside.specs.declared.plan.PlanAnswer.TheVariants.{Found, NoFile}
use Rattle.xet_error.specs.declared.error.Corruption.{Corruption}
use Rattle.xet_error.specs.declared.error.FileReconstructionError.{FileReconstructionError}
use Rattle.xet_error.specs.declared.error.FileReconstructionError.TheVariants as error
use Rattle.xet_error.specs.declared.error.Setting.{Setting}
use Rattle.xet_error.specs.declared.error.Setting.TheVariants.{NoConnection}
use Rattle.xet_offers.specs.PlanChecks.{failed_test}
use Rattle.xet_blocks.specs.TermBlockCalls.{QueryAnswered}
use Rattle.xet_fetch.specs.Refreshes.{extent_of, refusal_of}
use Rattle.xet_events.specs.declared.event.Event.{Event}
use Rattle.xet_events.specs.declared.event.Event.TheVariants.{Expired, Fail, Wrote}
use Rattle.xet_events.specs.Allowed.{IsAllowedHistory, IsRunning}
use Rattle.xet_events.specs.Events.{expires}
use Rattle.xet_parts.specs.Admissions.{GaveLimits}
use Rattle.xet_ties.specs.declared.lane_step.LaneStep.TheVariants as step
use Rattle.xet_ties.specs.Causes.{SomeRose, refused_setting}
use Rattle.xet_ties.specs.History.{limits_of}
use Rattle.xet_ties.specs.Lanes.{Ask}
use Rattle.xet_ties.specs.Setup.{AllTell, CacheTells, ClientGoesOn, EachGoesOn, IsOver, Setup}
use Rattle.xet_leader.specs.declared.leader.LedPlan.{LedPlan}
use Rattle.xet_leader.specs.Advances.{advanced}
use Rattle.xet_leader.specs.Led.{Led}
use Rattle.xet_leader.specs.LedTerms.{IsPieceIn, PlanTerm, ahead, size_in, some_in, task_of}
use Rattle.xet_leader.specs.ByNumber.{plan_index}
use Rattle.xet_leader.specs.Plans.{block_there}
use Rattle.xet_stream_rules.specs.declared.step.Step.{Step}
use Rattle.xet_stream_rules.specs.declared.step.Step.TheVariants.{Pending, Ready}
use Rattle.xet_stream_rules.specs.Streams.{IsAtEnd, IsNextKept, IsOpen, KeptFails, MayGoOn, Stands, StandsStill}
use Rattle.xet_stream_rules.specs.Streams.{StreamView}
use Rattle.xet_stream_rules.specs.Streams.{connections, fetches_in, next_term, waits_left}
use Rattle.xet_stream_rules.specs.StepTold.{Asks, IsFew, IsOf, IsRecorded, StepCache, StepCalls, counted_fetches}

-- ---- the work of a step

-- a stream at the step's end, before a piece is handed over, by the stream before it
pub record StepWork (b m : StreamView) (cs ds : List ClientTold) (k l : CacheTold) : Type 0 where
  pub new : List Event
  pub added : m.events ≡ b.events ++ new
  pub few : IsFew new
  pub rest : m ≡ record b { events = m.events; led = m.led; limits = m.limits }
  -- what was asked of the connections and of the cache, and what the events say of that
  pub asks : Asks
  pub calls : StepCalls b.setup.file asks (fetches_in b.led) cs ds
  pub events : All (IsOf calls.lane asks) new
  pub cache : StepCache new k l
  -- a limit was asked for each admission, and for no other cause but want of memory
  pub unused : List ℕ
  pub limits : GaveLimits b.limits m.limits (limits_of new ++ unused)
  pub few_unused : length unused ≤ 1
  -- the connections tell what they told; the cache goes on telling a store that it and these connections tell
  pub goes_on : EachGoesOn cs ds
  pub cache_later : (s : Store) → IsOver s cs → CacheTells s k → CacheTells s l
  pub running : IsRunning b.events → IsRunning m.events

-- ---- what is handed over

-- the next term's bytes, cut from what its block keeps; empty terms before it are passed over
pub record HandsPiece (m n : StreamView) (piece : List ℕ) : Type 0 where
  pub led : Led
  pub is_led : m.led ≡ Some led
  pub count : ℕ
  pub term : PlanTerm
  pub at : slice_get (ahead led) count ≡ Some term
  pub empties : All (λ t. some_in t ≡ false) (take count (ahead led))
  pub next : next_term m.events ≡ Some (task_of term)
  pub bytes : IsPieceIn term piece
  pub sized : length piece ≡ size_in term
  pub some : 0 < length piece
  pub is : n ≡ record m { events = m.events ++ Wrote (length piece) ∷ []; led = Some (advanced (count + 1) led) }

-- how a step answers, by the stream at its end
abbrev pub Hands : StreamView → StreamView → Step (Option (List ℕ)) → Type 0
Hands m n Pending = MayGoOn m × (IsNextKept m.events → ⊥) × (n ≡ m)
Hands m n (Ready None) = IsAtEnd m.setup.range m.events × (n ≡ m)
Hands m n (Ready (Some piece)) = MayGoOn m × HandsPiece m n piece

-- ---- errors

-- the first connection went on to this
abbrev pub FirstGoesOn : List ClientTold → ClientTold → Type 0
FirstGoesOn [] c = ⊥
FirstGoesOn (b ∷ bs) c = ClientGoesOn b c

-- it was asked this query then, and answered so; that was the last call
pub record FirstSaid (f : MerkleHash) (query : FileRange) (answer : PlanAnswer) (cs ds : List ClientTold)
    : Type 0 where
  pub first : ClientTold
  pub last : ClientTold
  pub others : List ClientTold
  pub before : FirstGoesOn cs first
  pub after : ds ≡ last ∷ others
  pub answered : QueryAnswered first last (f, query) answer

-- the range has bytes, it answered a query that the file isn't stored, and no told store has it
pub record IsMissing (g : Setup) (cs ds : List ClientTold) : Type 0 where
  pub some : g.range.start < g.range.end
  pub query : FileRange
  pub said : FirstSaid g.file query NoFile cs ds
  pub unstored : (s : Store) → AllTell s cs → IsNone (file_of s g.file)

-- a plan that it said in answer to a query in the range fails this test
pub record PlanFailed (g : Setup) (cs ds : List ClientTold) (k : Corruption) : Type 0 where
  pub plan : Plan
  pub query : FileRange
  pub said : FirstSaid g.file query (Found plan) cs ds
  pub from : g.range.start ≤ query.start
  pub to : query.end ≤ g.range.end
  pub some : 0 < length plan.terms
  pub fails : failed_test (shape plan) query g.multirange ≡ Some k

-- its answer to a query for the bytes of one of these plans is refused by this test as its refresh
pub record RefreshFailed (g : Setup) (ls : List LedPlan) (cs ds : List ClientTold) (k : Corruption) : Type 0 where
  pub plan : LedPlan
  pub among : Contains ls plan
  pub answer : PlanAnswer
  pub said : FirstSaid g.file plan.block.urls.byte_range answer cs ds
  pub fails : refusal_of plan.block.urls.byte_range g.multirange
      (map extent_of plan.block.blocks) answer ≡ Some (error.CorruptedReconstruction k)

-- the bytes that the asked connection said in answer to the own request of a block of one of these plans fail this test
pub record BlockFailed (ls : List LedPlan) (a : Asks) (k : Corruption) : Type 0 where
  pub ask : Ask
  pub asked : a.block ≡ Some (ask, step.Failed (error.CorruptedReconstruction k))
  pub there : block_there ls ask.request.index (plan_index ls ask.request.acquisition.plan) ≡ Some ask.block

-- the plans of a leader, if there is one
abbrev pub plans_in : Option Led → List LedPlan
plans_in None = []
plans_in (Some l) = l.plans

-- an answer failed this test, or the block that is kept for a term that wasn't delivered does; and no store is told
-- that all pulls so far told
pub record StepCorrupted (b m : StreamView) (cs ds : List ClientTold) (a : Asks) (k : Corruption) : Type 0 where
  pub untrue : (s : Store) → IsOver s cs → Stands (connections s) b → ⊥
  pub failed : PlanFailed b.setup cs ds k ⊎ RefreshFailed b.setup (plans_in m.led) cs ds k
      ⊎ BlockFailed (plans_in m.led) a k ⊎ KeptFails m k

-- a block got its last expired answer in this step
pub record IsSpent (m : StreamView) (new : List Event) : Type 0 where
  pub lane : ℕ
  pub plan : ℕ
  pub block : ℕ
  pub last : Contains new (Expired lane plan block)
  pub reached : count_by (expires plan block) m.events ≡ m.setup.tries

-- the cause that each error of a step's work needs; want of memory is free
abbrev pub StepCause : StreamView → StreamView → List Event → List ClientTold → List ClientTold → Asks
    → FileReconstructionError → Type 0
StepCause b m new cs ds a error.OutOfMemory = Unit {0}
StepCause b m new cs ds a error.ClientError = SomeRose cs ds
StepCause b m new cs ds a error.FileNotFound = IsMissing b.setup cs ds
StepCause b m new cs ds a error.UrlExpired = IsSpent m new
StepCause b m new cs ds a error.IoError = ⊥
StepCause b m new cs ds a (error.CorruptedReconstruction k) = StepCorrupted b m cs ds a k
StepCause b m new cs ds a (error.ConfigurationError e) = ⊥
StepCause b m new cs ds a error.Cancelled = ⊥
StepCause b m new cs ds a (error.InternalWriterError w) = ⊥

-- an error is recorded and told, or want of memory is told
abbrev pub IsTold : StreamView → StreamView → FileReconstructionError → FileReconstructionError → Type 0
IsTold m n cause e =
    ((e ≡ cause) × (n ≡ record m { events = m.events ++ Fail e ∷ []; told_error = Some e }))
    ⊎ ((e ≡ error.OutOfMemory) × (n ≡ record m { told_error = Some e }))

-- a step's work failed
pub record StepFails (b n : StreamView) (cs ds : List ClientTold) (k l : CacheTold)
    (e : FileReconstructionError) : Type 0 where
  pub end : StreamView
  pub work : StepWork b end cs ds k l
  pub failed : FileReconstructionError
  pub cause : StepCause b end work.new cs ds work.asks failed
  -- where a block spent its tries that is the error, but for want of memory
  pub spent : IsSpent end work.new → (failed ≡ error.UrlExpired) ⊎ (failed ≡ error.OutOfMemory)
  pub told : IsTold end n failed e

-- a step's work was done
pub record StepDone (b n : StreamView) (cs ds : List ClientTold) (k l : CacheTold)
    (answer : Step (Option (List ℕ))) : Type 0 where
  pub end : StreamView
  pub work : StepWork b end cs ds k l
  -- each call has its event, and each limit its admission
  pub recorded : IsRecorded work.asks work.new
  pub used : work.unused ≡ []
  pub counted : fetches_in end.led ≡ counted_fetches (fetches_in b.led) work.asks.block
  -- over what all pulls tell the stream stands at the step's end as before
  pub stands : StandsStill cs k b end
  pub hands : Hands end n answer
  -- a step that isn't there yet added an event, and fewer such steps are left
  pub moved : answer ≡ Pending → 0 < length work.new
  pub falls : answer ≡ Pending → waits_left end < waits_left b
  -- and no block spent its tries
  pub unspent : IsSpent end work.new → ⊥

-- ---- one pull

-- what a pull answers
abbrev pub Answer : Type 0
Answer = Result (Step (Option (List ℕ))) FileReconstructionError

-- a pull is refused for a setting: at the first one all are tested, later only that there is a connection, where None
-- isn't due
abbrev pub IsRefused : StreamView → List ClientTold → Setting → Type 0
IsRefused v cs e =
    ((v.pulled ≡ false) × (refused_setting v.setup cs ≡ Some e))
    ⊎ ((v.pulled ≡ true) × (IsAtEnd v.setup.range v.events → ⊥) × (cs ≡ []) × (e ≡ NoConnection))

-- connections and cache are as before
pub record IsUnasked (cs ds : List ClientTold) (k l : CacheTold) : Type 0 where
  pub clients : ds ≡ cs
  pub cache : l ≡ k

-- the stream with a pull made
abbrev pub pulled_once : StreamView → StreamView
pulled_once v = record v { pulled = true }

-- a stream that isn't open answers None, and does nothing
pub record Closed (v n : StreamView) (cs ds : List ClientTold) (k l : CacheTold) (answer : Answer) : Type 0 where
  pub closed : IsOpen v → ⊥
  pub none : answer ≡ Ok (Ready None)
  pub stream : n ≡ pulled_once v
  pub unasked : IsUnasked cs ds k l

-- a setting refuses the pull
pub record Refused (v n : StreamView) (cs ds : List ClientTold) (k l : CacheTold) (answer : Answer) : Type 0 where
  pub still : IsOpen v
  pub setting : Setting
  pub refused : IsRefused v cs setting
  pub told_error : FileReconstructionError
  pub is_error : answer ≡ Err told_error
  pub told : IsTold (pulled_once v) n (error.ConfigurationError setting) told_error
  pub unasked : IsUnasked cs ds k l

-- a stream at its end answers None, and does nothing
pub record Ended (v n : StreamView) (cs ds : List ClientTold) (k l : CacheTold) (answer : Answer) : Type 0 where
  pub still : IsOpen v
  pub unrefused : (e : Setting) → IsRefused v cs e → ⊥
  pub at_end : IsAtEnd v.setup.range v.events
  pub none : answer ≡ Ok (Ready None)
  pub stream : n ≡ pulled_once v
  pub unasked : IsUnasked cs ds k l

-- a step's work was done, or failed
abbrev pub StepCall : StreamView → StreamView → List ClientTold → List ClientTold → CacheTold → CacheTold → Answer
    → Type 0
StepCall v n cs ds k l (Ok a) = StepDone v n cs ds k l a
StepCall v n cs ds k l (Err e) = StepFails v n cs ds k l e

-- else a step
pub record Stepped (v n : StreamView) (cs ds : List ClientTold) (k l : CacheTold) (answer : Answer) : Type 0 where
  pub still : IsOpen v
  pub unrefused : (e : Setting) → IsRefused v cs e → ⊥
  pub before : IsAtEnd v.setup.range v.events → ⊥
  pub step : StepCall (pulled_once v) n cs ds k l answer

-- the four ways of a pull, each with its own condition, of which one holds
abbrev pub PullWay : StreamView → StreamView → List ClientTold → List ClientTold → CacheTold → CacheTold → Answer
    → Type 0
PullWay v n cs ds k l answer =
    Closed v n cs ds k l answer ⊎ Refused v n cs ds k l answer ⊎ Ended v n cs ds k l answer
    ⊎ Stepped v n cs ds k l answer

-- one pull: the flag was asked, and then it went one of these ways
pub record PullCall (b n : StreamView) (cs ds : List ClientTold) (k l : CacheTold) (answer : Answer) : Type 0 where
  pub seen : ℕ
  pub later : b.seen ≤ seen
  pub way : PullWay (record b { seen = seen }) n cs ds k l answer
  pub allowed : IsAllowedHistory n.events
  -- over what all pulls tell the stream stands as before
  pub stands : StandsStill cs k b n

-- ---- pulls until one isn't pending

abbrev pub with_ready : Result (Option (List ℕ)) FileReconstructionError → Answer
with_ready (Ok o) = Ok (Ready o)
with_ready (Err e) = Err e

-- so many pulls weren't there yet, and then one was
abbrev pub Waits : ℕ → StreamView → StreamView → List ClientTold → List ClientTold → CacheTold → CacheTold
    → Result (Option (List ℕ)) FileReconstructionError → Type 0
Waits zero b n cs ds k l answer = PullCall b n cs ds k l (with_ready answer)
Waits (suc steps) b n cs ds k l answer =
    (m : StreamView) × (es : List ClientTold) × (j : CacheTold) × PullCall b m cs es k j (Ok Pending)
    × Waits steps m n es ds j l answer

pub record WaitCall (b n : StreamView) (cs ds : List ClientTold) (k l : CacheTold)
    (answer : Result (Option (List ℕ)) FileReconstructionError) : Type 0 where
  pub steps : ℕ
  pub waits : Waits steps b n cs ds k l answer
