-- What the parts of a pull do for a stream that hands its terms over in any order.
use Rattle.std.specs.Prelude.{ℕ, ◌≡◌, ◌+◌, ◌≤◌, ◌++◌, Bool, true, false, List, [], ◌∷◌, count_by, length, Option, Some}
use Rattle.std.specs.Prelude.{None, IfSome, Result, Ok, Err}
use Rattle.xet_base.specs.Store.{Store}
use Rattle.xet_outside.specs.Told.{CacheEntry, CacheTold, ClientTold}
use Rattle.xet_error.specs.declared.error.FileReconstructionError.{FileReconstructionError}
use Rattle.xet_error.specs.declared.error.FileReconstructionError.TheVariants as error
use Rattle.xet_error.specs.declared.error.Setting.{Setting}
use Rattle.xet_events.specs.declared.event.Event.{Event}
use Rattle.xet_events.specs.declared.event.Event.TheVariants.{Wrote}
use Rattle.xet_events.specs.Events.{is_kept}
use Rattle.xet_parts.specs.Admissions.{GaveLimits, admits}
use Rattle.xet_ties.specs.History.{is_fetch, limits_of}
use Rattle.xet_leader.specs.declared.ahead.NextTerm.{NextTerm}
use Rattle.xet_leader.specs.Advances.{advanced}
use Rattle.xet_leader.specs.Led.{Led}
use Rattle.xet_leader.specs.LedTerms.{IsNextTerm, of_plan, size_in}
use Rattle.xet_stream_rules.specs.Pulls.{IsRefused, IsSpent, IsTold, StepFails, StepWork, pulled_once}
use Rattle.xet_stream_rules.specs.StepTold.{IsRecorded, counted_fetches, is_cached}
use Rattle.xet_stream_rules.specs.Streams.{IsAtEnd, IsOpen, Stands, StandsStill, StreamView, fetches_in, telling_so}
use Rattle.xet_stream_terms.specs.Handing.{IsOpenNext}

-- whatever all pulls tell, a stream that stood so does after it
abbrev pub StandsOn : StreamView → StreamView → Type 0
StandsOn v n = (store : Option Store) (entries : Option (List CacheEntry)) → Stands (telling_so store entries) v
    → Stands (telling_so store entries) n

-- ---- whether a step may be taken

-- an open stream that has a leader takes a step: no setting refuses it, and it isn't at its end
pub record CanStep (v n : StreamView) (connections : ℕ) : Type 0 where
  pub is : n ≡ pulled_once v
  pub still : IsOpen v
  pub unrefused : (cs : List ClientTold) → length cs ≡ connections → (e : Setting) → IsRefused v cs e → ⊥
  pub before : IsAtEnd v.setup.range v.events → ⊥
  pub begun : v.led ≡ None → ⊥

-- one call of `can_step`
abbrev pub CanStepCall : StreamView → StreamView → ℕ → Bool → Type 0
CanStepCall v n connections true = CanStep v n connections
CanStepCall v n connections false = n ≡ v

-- one call of `may_step`
abbrev pub MaySteps : StreamView → StreamView → ℕ → Bool → Type 0
MaySteps v n connections true =
    (seen : ℕ) × (v.seen ≤ seen) × CanStep (record v { seen = seen }) n connections
MaySteps v n connections false = (seen : ℕ) × (v.seen ≤ seen) × (n ≡ record v { seen = seen })

-- ---- a term that was given before

-- it is admitted, where there is a leader
abbrev pub IsLedNext : StreamView → NextTerm → Type 0
IsLedNext v next = IfSome v.led (λ l. IsOpenNext l next)

-- the next term is recorded as written
pub record RecordsGiven (v n : StreamView) (next : NextTerm) : Type 0 where
  pub led : Led
  pub is_led : v.led ≡ Some led
  pub term : IsNextTerm led next
  pub is : n ≡ record v {
    events = v.events ++ Wrote (size_in (of_plan term.plan next.term)) ∷ [];
    led = Some (advanced (next.empties + 1) led);
  }

-- its block isn't kept
abbrev pub IsUnkept : List Event → Option Led → NextTerm → Type 0
IsUnkept es o next = (l : Led) → o ≡ Some l → (x : IsNextTerm l next)
    → is_kept es x.plan.number next.term.xorb_block ≡ false

-- one call of `record_given`
abbrev pub GivenCall : StreamView → StreamView → NextTerm → Result Bool FileReconstructionError → Type 0
GivenCall v n next (Ok true) = RecordsGiven v n next
GivenCall v n next (Ok false) = (n ≡ v) × IsUnkept v.events v.led next
GivenCall v n next (Err e) = IsTold v n error.OutOfMemory e

-- ---- admissions

-- terms were admitted, one under each limit that was given; the one that was given last may have refused one, and no
-- block was asked for
pub record AdmitsAhead (v n : StreamView) : Type 0 where
  pub limits : List ℕ
  pub unused : List ℕ
  pub few : length unused ≤ 1
  pub added : n.events ≡ v.events ++ admits limits
  pub given : GaveLimits v.limits n.limits (limits ++ unused)
  pub fetches : fetches_in n.led ≡ fetches_in v.led
  pub rest : n ≡ record v { events = n.events; led = n.led; limits = n.limits }

-- one call of `admit_ahead`
abbrev pub AdmitsAheadCall : StreamView → StreamView → Result (Unit {0}) FileReconstructionError → Type 0
AdmitsAheadCall v n (Ok tt) = AdmitsAhead v n
AdmitsAheadCall v n (Err e) = (m : StreamView) × AdmitsAhead v m × IsTold m n error.OutOfMemory e

-- ---- a block

-- it was looked for and asked for, and is kept, or its URL had expired; no plan was asked for and no term admitted
pub record ProvidesBlock (b n : StreamView) (cs ds : List ClientTold) (k l : CacheTold) : Type 0 where
  pub work : StepWork b n cs ds k l
  pub recorded : IsRecorded work.asks work.new
  pub used : work.unused ≡ []
  pub counted : fetches_in n.led ≡ counted_fetches (fetches_in b.led) work.asks.block
  pub stands : StandsStill cs k b n
  pub unplanned : work.asks.plan ≡ None
  pub unadmitted : limits_of work.new ≡ []
  -- the cache gave it or a connection was asked for it, once
  pub moved : count_by is_cached work.new + count_by is_fetch work.new ≡ 1
  pub unspent : IsSpent n work.new → ⊥

-- one call of `provide`
abbrev pub ProvideCall : StreamView → StreamView → List ClientTold → List ClientTold → CacheTold → CacheTold
    → Result (Unit {0}) FileReconstructionError → Type 0
ProvideCall b n cs ds k l (Ok tt) = ProvidesBlock b n cs ds k l
ProvideCall b n cs ds k l (Err e) = StepFails b n cs ds k l e × StandsStill cs k b n
