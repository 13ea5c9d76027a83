-- What one pull of an unordered stream does and answers.
use Rattle.std.specs.Prelude.{ℕ, zero, suc, ◌≡◌, ◌⊎◌, ◌≤◌, ◌++◌, Bool, true, false, List, [], ◌∷◌, All, length}
use Rattle.std.specs.Prelude.{take, slice_get}
use Rattle.std.specs.Prelude.{Option, Some, None, Result, Ok, Err}
use Rattle.xet_base.specs.Store.{Store, IsValid}
use Rattle.xet_outside.specs.Told.{CacheTold, ClientTold}
use Rattle.xet_error.specs.declared.error.Corruption.{Corruption}
use Rattle.xet_error.specs.declared.error.FileReconstructionError.{FileReconstructionError}
use Rattle.xet_error.specs.declared.error.FileReconstructionError.TheVariants as error
use Rattle.xet_error.specs.declared.error.Setting.{Setting}
use Rattle.xet_events.specs.declared.event.Event.{Event}
use Rattle.xet_events.specs.declared.event.Event.TheVariants.{Admit, Wrote}
use Rattle.xet_events.specs.Allowed.{IsAllowedHistory}
use Rattle.xet_events.specs.Events.{Task, admitted, is_kept}
use Rattle.xet_parts.specs.Admissions.{GaveLimits}
use Rattle.xet_ties.specs.History.{limits_of}
use Rattle.xet_ties.specs.Saids.{has_bytes, some_of}
use Rattle.xet_leader.specs.Led.{Led}
use Rattle.xet_leader.specs.LedTerms.{IsPieceIn, PlanTerm, ahead, size_in, task_of}
use Rattle.xet_stream_rules.specs.declared.step.Step.TheVariants.{Pending, Ready}
use Rattle.xet_stream_rules.specs.Pulls.{Answer, IsRefused, IsTold, IsUnasked, PullCall, StepFails, pulled_once}
use Rattle.xet_stream_rules.specs.Streams.{IsAtEnd, IsOpen, KeptFails, MayGoOn, Stands, StandsStill, StreamView}
use Rattle.xet_stream_rules.specs.Streams.{connections, delivered, fetches_in, next_term}
use Rattle.xet_stream_rules.specs.Unordered.{IsIn, Item, ItemAnswer, UnorderedView, offset_of}
use Rattle.xet_streams.specs.AnyOrder.{ProvidesBlock, StandsOn}

-- ---- terms that are due

-- an admitted term with bytes whose block is kept, and for whose place no item was given
pub record IsDue (v : UnorderedView) (t : Task) : Type 0 where
  pub place : ℕ
  pub at : slice_get (admitted v.stream.events) place ≡ Some t
  pub some : has_bytes t ≡ true
  pub kept : is_kept v.stream.events t.plan t.term.block ≡ true
  pub new : IsIn (offset_of v.stream.setup.range t) v.delivered → ⊥

-- there is none
abbrev pub NoneIsDue : UnorderedView → Type 0
NoneIsDue v = (t : Task) → IsDue v t → ⊥

-- the next planned term wasn't given
abbrev pub IsCaught : UnorderedView → Type 0
IsCaught v = (t : Task) → next_term v.stream.events ≡ Some t
    → IsIn (offset_of v.stream.setup.range t) v.delivered → ⊥

-- each term that is recorded as written was given
abbrev pub ArePassed : UnorderedView → Type 0
ArePassed v = All (λ t. IsIn (offset_of v.stream.setup.range t) v.delivered)
    (take (delivered v.stream.events) (some_of v.stream.events))

-- ---- what is handed over

-- the bytes of a due term, cut from what its block keeps, and its place
pub record GivesDue (v n : UnorderedView) (item : Item) : Type 0 where
  pub still : IsOpen v.stream
  pub led : Led
  pub is_led : v.stream.led ≡ Some led
  pub skip : ℕ
  pub term : PlanTerm
  pub there : slice_get (ahead led) skip ≡ Some term
  pub due : IsDue v (task_of term)
  pub bytes : IsPieceIn term item.1
  pub sized : length item.1 ≡ size_in term
  pub at : item.0 ≡ offset_of v.stream.setup.range (task_of term)
  pub is : n ≡ record v { delivered = v.delivered ++ item.0 ∷ [] }

-- a due term fails a test in what its block keeps; never where all pulls so far told one store
pub record DueCorrupted (v : UnorderedView) (e : FileReconstructionError) : Type 0 where
  pub test : Corruption
  pub is : e ≡ error.CorruptedReconstruction test
  pub fails : KeptFails v.stream test
  pub untrue : (s : Store) → IsValid s → Stands (connections s) v.stream → ⊥

-- or memory was wanting for it; the error is recorded and told
pub record FailsDue (v n : UnorderedView) (e : FileReconstructionError) : Type 0 where
  pub cause : FileReconstructionError
  pub is_cause : (cause ≡ error.OutOfMemory) ⊎ DueCorrupted v cause
  pub told : IsTold v.stream n.stream cause e
  pub rest : n ≡ record v { stream = n.stream }

-- a due term is handed over
abbrev pub GivesNow : UnorderedView → UnorderedView → ItemAnswer → Type 0
GivesNow v n (Ok Pending) = ⊥
GivesNow v n (Ok (Ready None)) = ⊥
GivesNow v n (Ok (Ready (Some item))) = GivesDue v n item
GivesNow v n (Err e) = FailsDue v n e

-- so at a step's end, or none is due and there may be further terms
abbrev pub AfterStep : UnorderedView → UnorderedView → ItemAnswer → Type 0
AfterStep v n (Ok Pending) = MayGoOn v.stream × NoneIsDue v × (n ≡ v)
AfterStep v n (Ok (Ready None)) = ⊥
AfterStep v n (Ok (Ready (Some item))) = GivesDue v n item
AfterStep v n (Err e) = FailsDue v n e

-- the piece of the next term that a pull in order handed over, at its place
pub record GivesNext (v n : UnorderedView) (middle : StreamView) (piece : List ℕ) (item : Item) : Type 0 where
  pub before : List Event
  pub last : middle.events ≡ before ++ Wrote (length piece) ∷ []
  pub term : Task
  pub next : next_term before ≡ Some term
  pub bytes : item.1 ≡ piece
  pub at : item.0 ≡ offset_of v.stream.setup.range term
  pub new : IsIn item.0 v.delivered → ⊥
  pub is : n ≡ record v { stream = middle; delivered = v.delivered ++ item.0 ∷ [] }

-- what is answered by what a pull in order answered
abbrev pub AfterPull : UnorderedView → UnorderedView → StreamView → Answer → ItemAnswer → Type 0
AfterPull v n m (Ok (Ready (Some piece))) answer =
    (item : Item) × (answer ≡ Ok (Ready (Some item))) × GivesNext v n m piece item
AfterPull v n m (Ok (Ready None)) answer =
    (answer ≡ Ok (Ready None)) × (n ≡ record v { stream = m; ended = true })
AfterPull v n m (Ok Pending) answer = AfterStep (record v { stream = m }) n answer
AfterPull v n m (Err e) answer = (answer ≡ Err e) × (n ≡ record v { stream = m })

-- ---- what a pull does first

-- the event records a term as written, or admits one
abbrev pub is_ahead : Event → Bool
is_ahead (Wrote taken) = true
is_ahead (Admit limit) = true
is_ahead _ = false

-- terms that were given are recorded as written, and terms admitted, each under a limit that is asked for it; the limit
-- that was given last may have refused one, and no block was asked for
pub record GoesAhead (v n : StreamView) : Type 0 where
  pub new : List Event
  pub added : n.events ≡ v.events ++ new
  pub each : All (λ e. is_ahead e ≡ true) new
  pub unused : List ℕ
  pub few : length unused ≤ 1
  pub given : GaveLimits v.limits n.limits (limits_of new ++ unused)
  pub fetches : fetches_in n.led ≡ fetches_in v.led
  pub rest : n ≡ record v { events = n.events; led = n.led; limits = n.limits }

-- memory was wanting for that, in an open stream
pub record GoesShort (v n : UnorderedView) (cs ds : List ClientTold) (k l : CacheTold) (answer : ItemAnswer) : Type 0
  where
    pub still : IsOpen v.stream
    pub told_error : FileReconstructionError
    pub is_error : answer ≡ Err told_error
    pub told : IsTold v.stream n.stream error.OutOfMemory told_error
    pub rest : n ≡ record v { stream = n.stream }
    pub unasked : IsUnasked cs ds k l

-- ---- what it does then

-- a pull as that of an ordered stream
pub record PullsItem (v n : UnorderedView) (cs ds : List ClientTold) (k l : CacheTold) (answer : ItemAnswer) : Type 0
  where
    pub asked : Answer
    pub middle : StreamView
    pub pull : PullCall v.stream middle cs ds k l asked
    pub after : AfterPull v n middle asked answer

-- a block that an admitted term waits for is provided, or in vain
pub record ServesItem (v n : UnorderedView) (cs ds : List ClientTold) (k l : CacheTold) (answer : ItemAnswer) : Type 0
  where
    pub middle : StreamView
    pub provided : ProvidesBlock v.stream middle cs ds k l
    pub after : AfterStep (record v { stream = middle }) n answer

pub record ServesVain (v n : UnorderedView) (cs ds : List ClientTold) (k l : CacheTold) (answer : ItemAnswer) : Type 0
  where
    pub told_error : FileReconstructionError
    pub is_error : answer ≡ Err told_error
    pub fails : StepFails v.stream n.stream cs ds k l told_error
    pub rest : n ≡ record v { stream = n.stream }

-- a step in any order: an open stream that no setting refuses, and that isn't at its end, gives a due term and asks
-- nothing, or a block is provided, or it is pulled in order
pub record StepsItem (v n : UnorderedView) (cs ds : List ClientTold) (k l : CacheTold) (answer : ItemAnswer) : Type 0
  where
    pub still : IsOpen v.stream
    pub unrefused : (e : Setting) → IsRefused v.stream cs e → ⊥
    pub before : IsAtEnd v.stream.setup.range v.stream.events → ⊥
    pub way : (IsUnasked cs ds k l × GivesNow (record v { stream = pulled_once v.stream }) n answer)
        ⊎ ServesItem (record v { stream = pulled_once v.stream }) n cs ds k l answer
        ⊎ ServesVain (record v { stream = pulled_once v.stream }) n cs ds k l answer
        ⊎ PullsItem (record v { stream = pulled_once v.stream }) n cs ds k l answer

-- the flag may have been asked
abbrev pub seen_so : ℕ → UnorderedView → UnorderedView
seen_so seen v = record v { stream = record v.stream { seen = seen } }

-- one pull
pub record ItemCall (b n : UnorderedView) (cs ds : List ClientTold) (k l : CacheTold) (answer : ItemAnswer) : Type 0
  where
    pub ready : StreamView
    pub first : GoesAhead b.stream ready
    pub seen : ℕ
    pub later : ready.seen ≤ seen
    pub way : GoesShort (record b { stream = ready }) n cs ds k l answer
        ⊎ (StandsOn b.stream ready × (PullsItem (seen_so seen (record b { stream = ready })) n cs ds k l answer
        ⊎ StepsItem (seen_so seen (record b { stream = ready })) n cs ds k l answer))
    pub allowed : IsAllowedHistory n.stream.events
    -- over what all pulls tell the stream stands as before
    pub stands : StandsStill cs k b.stream n.stream
    pub passed : ArePassed n
    pub caught : answer ≡ Ok Pending → IsCaught n

-- ---- pulls until one isn't pending

-- what a pull that isn't pending answers
abbrev pub ItemOrNone : Type 0
ItemOrNone = Result (Option Item) FileReconstructionError

abbrev pub with_item : ItemOrNone → ItemAnswer
with_item (Ok o) = Ok (Ready o)
with_item (Err e) = Err e

-- so many pulls weren't there yet, and then one was
abbrev pub ItemWaits : ℕ → UnorderedView → UnorderedView → List ClientTold → List ClientTold → CacheTold → CacheTold
    → ItemOrNone → Type 0
ItemWaits zero b n cs ds k l answer = ItemCall b n cs ds k l (with_item answer)
ItemWaits (suc steps) b n cs ds k l answer =
    (m : UnorderedView) × (es : List ClientTold) × (j : CacheTold) × ItemCall b m cs es k j (Ok Pending)
    × ItemWaits steps m n es ds j l answer

pub record ItemWaitCall (b n : UnorderedView) (cs ds : List ClientTold) (k l : CacheTold) (answer : ItemOrNone) : Type 0
  where
    pub steps : ℕ
    pub waits : ItemWaits steps b n cs ds k l answer
