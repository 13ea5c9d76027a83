-- What a whole join does, by what preparing a round and the round do.
use Rattle.std.proofs.Common.{◌≡◌, ℕ, ◌+◌, ◌-◌, ◌^◌, min, ◌∙◌, ⊎_elim, List, length, subst, ap, arith, inr, Ok, Err}
use Rattle.std.specs.Prelude.{IfOk, OnOk, Result}
use Rattle.xet_outside.specs.Told.{CacheTold, ClientTold, SignalTold, SinkTold}
use Rattle.xet_error.specs.declared.error.FileReconstructionError.{FileReconstructionError}
use Rattle.xet_events.specs.declared.event.Event.{Event}
use Rattle.xet_writers.specs.Sequential.{Sequential}
use Rattle.xet_turns.specs.declared.joining.Prepared.{Prepared}
use Rattle.xet_leader.specs.declared.missing_blocks.BlockAt.{BlockAt}
use Rattle.xet_stages.specs.declared.outcomes.Outcome.{Outcome}
use Rattle.xet_leader.specs.Admission.{SameCounts}
use Rattle.xet_turns.specs.JoinedRuns.{Joining, PolledFor, Touching}
use Rattle.xet_turns.specs.RoundCalls.{RoundTurn}
use Rattle.xet_turns.specs.JoinSteps.{JoinTurn, PrepareTurn, RoundJoined, Unprepared}
use Rattle.xet_leader.specs.Led.{Led}
use Rattle.xet_leader.specs.Looks.{LookTurn}

-- looks keep the leader's counts
pub looked_turn : (c d : CacheTold) (x y : SignalTold) (es fs : List Event) (l k : Led)
    (looked : Result (List BlockAt) FileReconstructionError) (answer : Result Prepared FileReconstructionError)
    → LookTurn c d es fs l k looked → IfOk answer (λ p. PolledFor (length p.places) x y (Ok tt))
    → PrepareTurn x y l k answer
looked_turn c d x y es fs l k looked answer t polled = record {
  polled = polled;
  numbers = ap (λ (z : Led). z.fetches) t.led;
  counts = record {
    planned_is = ap (λ (z : Led). z.planned) t.led;
    admitted_is = ap (λ (z : Led). z.admitted) t.led;
  };
}

-- the round counts its own
round_counted : {S : Type 0} (told : S → SinkTold) (tries : ℕ) (p : Prepared) (cs ns : List ClientTold)
    (v w : Sequential S) (es fs : List Event) (l k : Led) (answer : Result Outcome FileReconstructionError)
    → RoundTurn told tries p.places p.lengths (record { clients = cs; writer = v })
    (record { clients = ns; writer = w }) es fs l k answer
    → OnOk answer (k.fetches ≡ min (l.fetches + length p.places) (2 ^ 64 - 1))
round_counted told tries p cs ns v w es fs l k (Ok o) r = ap (λ (z : Led). z.fetches) r.ok.took.kept.led
round_counted told tries p cs ns v w es fs l k (Err e) r = tt

counted_from : (answer : Result Outcome FileReconstructionError) (l m k n : ℕ) → m ≡ l
    → OnOk answer (k ≡ min (m + n) (2 ^ 64 - 1)) → OnOk answer (k ≡ min (l + n) (2 ^ 64 - 1))
counted_from (Ok o) l m k n same h = omega (arith, same, h)
counted_from (Err e) l m k n same h = tt

-- a round was prepared and run
pub join_ran : {S : Type 0} (told : S → SinkTold) (tries : ℕ) (a z : Joining S) (middle : Touching S) (p : Prepared)
    (places : List BlockAt) (answer : Result Outcome FileReconstructionError) → places ≡ p.places
    → PrepareTurn a.signal z.signal a.led middle.led (Ok p)
    → RoundTurn told tries places p.lengths (record { clients = a.clients; writer = middle.writer })
    (record { clients = z.clients; writer = z.writer }) middle.events z.events middle.led z.led answer
    → JoinTurn told tries a z answer
join_ran told tries a z middle p places answer same prepares round =
    let own : RoundTurn told tries p.places p.lengths (record { clients = a.clients; writer = middle.writer })
    (record { clients = z.clients; writer = z.writer }) middle.events z.events middle.led z.led answer =
    subst (λ (ps : List BlockAt). RoundTurn told tries ps p.lengths
    (record { clients = a.clients; writer = middle.writer })
    (record { clients = z.clients; writer = z.writer }) middle.events z.events middle.led z.led answer) same round in
    inr (record {
      prepared = p;
      middle = middle;
      prepares = prepares;
      round = own;
      counted = counted_from answer a.led.fetches middle.led.fetches z.led.fetches (length p.places) prepares.numbers
          (round_counted told tries p a.clients z.clients middle.writer z.writer middle.events z.events middle.led z.led
          answer own);
    })

-- a join plans and admits nothing
pub join_counts : {S : Type 0} (told : S → SinkTold) (tries : ℕ) (a z : Joining S) (out : Outcome)
    → JoinTurn told tries a z (Ok out) → SameCounts a.led z.led
join_counts told tries a z out t =
    ⊎_elim
    (λ (u : Unprepared a z (Ok out)). absurd u.fails)
    (λ (r : RoundJoined told tries a z (Ok out)).
    let before = r.prepares.counts in
    let led = r.round.ok.took.kept.led in
    record {
      planned_is = ap (λ (x : Led). x.planned) led ∙ before.planned_is;
      admitted_is = ap (λ (x : Led). x.admitted) led ∙ before.admitted_is;
    })
    t
