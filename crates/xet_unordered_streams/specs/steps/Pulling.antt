-- What the parts of a pull of an unordered stream do.
use Rattle.std.specs.Prelude.{ℕ, ◌≡◌, ◌⊎◌, ◌+◌, ◌-◌, ◌^◌, ◌<◌, ◌≤◌, ◌++◌, Bool, true, false, List, [], ◌∷◌, All}
use Rattle.std.specs.Prelude.{length, min, Option, Some, None, MatchOption, Result, Ok, Err}
use Rattle.xet_outside.specs.Told.{CacheTold, ClientTold}
use Rattle.xet_error.specs.declared.error.FileReconstructionError.{FileReconstructionError}
use Rattle.xet_error.specs.declared.error.FileReconstructionError.TheVariants as error
use Rattle.xet_events.specs.declared.event.Event.{Event}
use Rattle.xet_events.specs.declared.event.Event.TheVariants.{Wrote}
use Rattle.xet_ties.specs.Saids.{some_of}
use Rattle.xet_leader.specs.declared.ahead.NextTerm.{NextTerm}
use Rattle.xet_leader.specs.declared.missing_blocks.BlockAt.{BlockAt}
use Rattle.xet_leader.specs.Led.{Led}
use Rattle.xet_leader.specs.LedTerms.{IsNextTerm, NoneHas, ahead}
use Rattle.xet_stream_rules.specs.declared.step.Step.TheVariants.{Pending, Ready}
use Rattle.xet_stream_rules.specs.Pulls.{Answer, IsTold, PullCall, StepFails}
use Rattle.xet_stream_rules.specs.Streams.{IsAtEnd, IsOpen, MayGoOn, StandsStill, StreamView, delivered, fetches_in}
use Rattle.xet_stream_rules.specs.Streams.{is_wrote}
use Rattle.xet_stream_rules.specs.Unordered.{ItemAnswer, UnorderedView}
use Rattle.xet_streams.specs.AnyOrder.{AdmitsAheadCall, MaySteps, ProvidesBlock}
use Rattle.xet_unordered_streams.specs.Items.{AfterPull, GoesAhead, IsCaught, PullsItem, ServesItem}
use Rattle.xet_unordered_streams.specs.Items.{ServesVain}
use Rattle.xet_unordered_streams.specs.Items.{StepsItem, seen_so}
use Rattle.xet_unordered_streams.specs.steps.Dues.{IsAwaited}
use Rattle.xet_unordered_streams.specs.steps.Giving.{FailsSo, KeepsOn}

-- ---- recording and admitting

-- how many planned terms come before the next one of a leader
abbrev pub number_of : Led → NextTerm → ℕ
number_of l next = min (l.finished + next.empties) (2 ^ 64 - 1)

-- the next term of a leader, which is early; or it isn't
pub record EarlyFor (l : Led) (early : ℕ → Bool) (next : NextTerm) : Type 0 where
  pub next_is : IsNextTerm l next
  pub there : early (number_of l next) ≡ true

abbrev pub NotEarly : Led → (ℕ → Bool) → Type 0
NotEarly l early = NoneHas (ahead l)
    ⊎ ((next : NextTerm) × IsNextTerm l next × (early (number_of l next) ≡ false))

abbrev pub EarlyIn : Led → (ℕ → Bool) → Option NextTerm → Type 0
EarlyIn l early None = NotEarly l early
EarlyIn l early (Some next) = EarlyFor l early next

-- so of a stream's leader
pub record EarlyOf (v : StreamView) (early : ℕ → Bool) (next : NextTerm) : Type 0 where
  pub led : Led
  pub is_led : v.led ≡ Some led
  pub early_for : EarlyFor led early next

abbrev pub NoEarly : StreamView → (ℕ → Bool) → Type 0
NoEarly v early = (l : Led) → v.led ≡ Some l → NotEarly l early

abbrev pub EarlyNext : StreamView → (ℕ → Bool) → Option NextTerm → Type 0
EarlyNext v early None = NoEarly v early
EarlyNext v early (Some next) = EarlyOf v early next

-- a given term was recorded
pub record RecordsOne (b n : UnorderedView) : Type 0 where
  pub taken : ℕ
  pub events : n.stream.events ≡ b.stream.events ++ Wrote taken ∷ []
  pub waited : delivered b.stream.events < length (some_of b.stream.events)
  pub fetches : fetches_in n.stream.led ≡ fetches_in b.stream.led
  pub rest : n ≡ record b { stream = record b.stream { events = n.stream.events; led = n.stream.led } }
  pub stands : KeepsOn b n

-- memory was wanting
pub record EndsShort (b n : UnorderedView) (e : FileReconstructionError) : Type 0 where
  pub fails : FailsSo b n error.OutOfMemory e
  pub stands : KeepsOn b n

-- one call of `record_one`
abbrev pub OneCall : UnorderedView → UnorderedView → Result Bool FileReconstructionError → Type 0
OneCall b n (Ok true) = RecordsOne b n
OneCall b n (Ok false) = (n ≡ b) × IsCaught b
OneCall b n (Err e) = EndsShort b n e

-- so far given terms were recorded
pub record RecordedSo (b n : UnorderedView) : Type 0 where
  pub new : List Event
  pub events : n.stream.events ≡ b.stream.events ++ new
  pub each : All (λ e. is_wrote e ≡ true) new
  pub fetches : fetches_in n.stream.led ≡ fetches_in b.stream.led
  pub rest : n ≡ record b { stream = record b.stream { events = n.stream.events; led = n.stream.led } }
  pub stands : KeepsOn b n

pub record RecordedShort (b n : UnorderedView) (e : FileReconstructionError) : Type 0 where
  pub middle : UnorderedView
  pub recorded : RecordedSo b middle
  pub still : IsOpen middle.stream
  pub short : EndsShort middle n e

-- one call of `record_early`
abbrev pub RecordCall : UnorderedView → UnorderedView → Result (Unit {0}) FileReconstructionError → Type 0
RecordCall b n (Ok tt) = RecordedSo b n × IsOpen n.stream × IsCaught n
RecordCall b n (Err e) = RecordedShort b n e

-- it was done
abbrev pub IsDone : Result (Unit {0}) FileReconstructionError → Type 0
IsDone (Ok tt) = Unit {0}
IsDone (Err e) = ⊥

-- one call of `admit`
pub record AdmitCall (b n : UnorderedView) (answer : Result (Unit {0}) FileReconstructionError) : Type 0 where
  pub call : AdmitsAheadCall b.stream n.stream answer
  pub rest : n ≡ record b { stream = n.stream }
  pub stands : KeepsOn b n
  pub caught : IsDone answer → IsCaught b → IsCaught n

-- the next term of an open stream wasn't given
abbrev pub IsFreeCaught : UnorderedView → Type 0
IsFreeCaught v = IsOpen v.stream → IsCaught v

-- one call of `go_ahead`
pub record GoneAhead (b n : UnorderedView) : Type 0 where
  pub first : GoesAhead b.stream n.stream
  pub rest : n ≡ record b { stream = n.stream }
  pub stands : KeepsOn b n
  pub caught : IsFreeCaught n

-- memory was wanting, after a part of it
pub record AheadShort (b n : UnorderedView) (e : FileReconstructionError) : Type 0 where
  pub ready : StreamView
  pub first : GoesAhead b.stream ready
  pub still : IsOpen ready
  pub told : IsTold ready n.stream error.OutOfMemory e
  pub rest : n ≡ record b { stream = n.stream }
  pub stands : KeepsOn b n

abbrev pub AheadCall : UnorderedView → UnorderedView → Result (Unit {0}) FileReconstructionError → Type 0
AheadCall b n (Ok tt) = GoneAhead b n
AheadCall b n (Err e) = AheadShort b n e

-- ---- a pull in order

-- what is answered by that, where none is pending
abbrev pub OrderedAfter : UnorderedView → UnorderedView → Answer → ItemAnswer → Type 0
OrderedAfter b n (Ok Pending) answer = (answer ≡ Ok Pending) × (n ≡ record b { stream = n.stream })
    × MayGoOn n.stream × IsCaught n
OrderedAfter b n (Ok (Ready o)) answer = AfterPull b n n.stream (Ok (Ready o)) answer
OrderedAfter b n (Err e) answer = AfterPull b n n.stream (Err e) answer

-- one call of `pull`
pub record OrderedCall (b n : UnorderedView) (cs ds : List ClientTold) (k l : CacheTold) (answer : ItemAnswer) : Type 0
  where
    pub asked : Answer
    pub call : PullCall b.stream n.stream cs ds k l asked
    pub after : OrderedAfter b n asked answer

-- one call of `pull_in_order`
pub record InOrderCall (b n : UnorderedView) (cs ds : List ClientTold) (k l : CacheTold) (answer : ItemAnswer) : Type 0
  where
    pub pulls : PullsItem b n cs ds k l answer
    pub stands : StandsStill cs k b.stream n.stream
    pub caught : answer ≡ Ok Pending → IsCaught n

-- ---- a step in any order

-- a stream that may step: it is open, no setting refuses it and it isn't at its end
pub record IsFreeStep (v : UnorderedView) (connections : ℕ) : Type 0 where
  pub still : IsOpen v.stream
  pub before : IsAtEnd v.stream.setup.range v.stream.events → ⊥
  pub begun : v.stream.led ≡ None → ⊥
  pub some : 0 < connections
  pub caught : IsCaught v

-- one call of `may_step`
abbrev pub MayStepCall : UnorderedView → UnorderedView → ℕ → Bool → Type 0
MayStepCall b n connections answer = MaySteps b.stream n.stream connections answer
    × (n ≡ record b { stream = n.stream })

-- a block that an admitted term waits for
pub record IsAwaitedIn (v : UnorderedView) (c : BlockAt) : Type 0 where
  pub led : Led
  pub is_led : v.stream.led ≡ Some led
  pub awaits : IsAwaited led v.stream.events c

abbrev pub AwaitedView : StreamView → Option BlockAt → Type 0
AwaitedView v o = MatchOption o (Unit {0}) (λ c. (l : Led) × (v.led ≡ Some l) × IsAwaited l v.events c)

-- one call of `provide`
abbrev pub BlockCall : UnorderedView → UnorderedView → List ClientTold → List ClientTold → CacheTold → CacheTold
    → Result (Unit {0}) FileReconstructionError → Type 0
BlockCall b n cs ds k l (Ok tt) = ProvidesBlock b.stream n.stream cs ds k l × (n ≡ record b { stream = n.stream })
    × MayGoOn n.stream × IsCaught n
BlockCall b n cs ds k l (Err e) = StepFails b.stream n.stream cs ds k l e × StandsStill cs k b.stream n.stream
    × (n ≡ record b { stream = n.stream })

-- a block was provided, or in vain
pub record ServeCall (b n : UnorderedView) (cs ds : List ClientTold) (k l : CacheTold) (answer : ItemAnswer) : Type 0
  where
    pub serves : ServesItem b n cs ds k l answer ⊎ ServesVain b n cs ds k l answer
    pub stands : StandsStill cs k b.stream n.stream
    pub caught : answer ≡ Ok Pending → IsCaught n

-- or a pull in order was made
abbrev pub FreeStep : UnorderedView → UnorderedView → List ClientTold → List ClientTold → CacheTold → CacheTold
    → ItemAnswer → Type 0
FreeStep b n cs ds k l answer = ServeCall b n cs ds k l answer ⊎ InOrderCall b n cs ds k l answer

-- one call of `go_on`
pub record GoesOnCall (b n : UnorderedView) (cs ds : List ClientTold) (k l : CacheTold) (answer : ItemAnswer) : Type 0
  where
    pub seen : ℕ
    pub later : b.stream.seen ≤ seen
    pub way : PullsItem (seen_so seen b) n cs ds k l answer ⊎ StepsItem (seen_so seen b) n cs ds k l answer
    pub stands : StandsStill cs k b.stream n.stream
    pub caught : answer ≡ Ok Pending → IsCaught n
