-- What a whole join does: it prepares a round and runs it, or it could prepare none.
use Rattle.std.specs.Prelude.{ℕ, ◌≡◌, ◌⊎◌, ◌+◌, ◌-◌, ◌^◌, min, length, Ok, Result, IfOk, OnOk}
use Rattle.xet_outside.specs.Told.{SignalTold, SinkTold}
use Rattle.xet_error.specs.declared.error.FileReconstructionError.{FileReconstructionError}
use Rattle.xet_turns.specs.declared.joining.Prepared.{Prepared}
use Rattle.xet_stages.specs.declared.outcomes.Outcome.{Outcome}
use Rattle.xet_leader.specs.Admission.{SameCounts}
use Rattle.xet_turns.specs.JoinedRuns.{Joining, PolledFor, Touching}
use Rattle.xet_turns.specs.RoundCalls.{RoundTurn}
use Rattle.xet_leader.specs.Led.{Led}

-- what preparing a round does to the signal and to the leader's counts, which stay: the signal was asked exactly where
-- there are blocks to fetch, and said no
pub record PrepareTurn (x y : SignalTold) (l k : Led)
    (answer : Result Prepared FileReconstructionError) : Type 0 where
  pub polled : IfOk answer (λ p. PolledFor (length p.places) x y (Ok tt))
  pub numbers : k.fetches ≡ l.fetches
  pub counts : SameCounts l k

-- none could be prepared, and no connection was asked
pub record Unprepared {S : Type 0} (a z : Joining S) (answer : Result Outcome FileReconstructionError) : Type 0 where
  pub fails : OnOk answer ⊥
  pub clients : z.clients ≡ a.clients

-- a round was prepared and run: its error, where it was joined, is the first one of what was joined. Its fetches have
-- the numbers after those before it
pub record RoundJoined {S : Type 0} (told : S → SinkTold) (tries : ℕ) (a z : Joining S)
    (answer : Result Outcome FileReconstructionError) : Type 0 where
  pub prepared : Prepared
  pub middle : Touching S
  pub prepares : PrepareTurn a.signal z.signal a.led middle.led (Ok prepared)
  pub round : RoundTurn told tries prepared.places prepared.lengths
      (record { clients = a.clients; writer = middle.writer })
      (record { clients = z.clients; writer = z.writer }) middle.events z.events middle.led z.led answer
  pub counted : OnOk answer (z.led.fetches ≡ min (a.led.fetches + length prepared.places) (2 ^ 64 - 1))

-- one call of `join`
abbrev pub JoinTurn : {S : Type 0} → (S → SinkTold) → ℕ → Joining S → Joining S
    → Result Outcome FileReconstructionError → Type 0
JoinTurn told tries a z answer = Unprepared a z answer ⊎ RoundJoined told tries a z answer
