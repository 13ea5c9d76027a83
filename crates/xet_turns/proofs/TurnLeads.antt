-- A run after whole turns.
use Rattle.std.proofs.Common.{◌≡◌, ◌∙◌, ◌+◌, ◌<◌, ◌≤◌, Bool, true, false, Ok, Err, refl, subst, arith, ⊎_elim}
use Rattle.std.specs.Prelude.{Result}
use Rattle.xet_outside.specs.Told.{SinkTold}
use Rattle.xet_error.specs.declared.error.FileReconstructionError.{FileReconstructionError}
use Rattle.xet_writers.specs.Sequential.{Sequential}
use Rattle.xet_ties.specs.Setup.{Setup}
use Rattle.xet_leader.specs.Admission.{most_at_once}
use Rattle.xet_leader.specs.Led.{Led}
use Rattle.xet_stages.specs.Measures.{measure}
use Rattle.xet_leader.specs.Steady.{LeadCall, Moment, no_loose}
use Rattle.xet_turns.specs.Turns.{IsSteadyRun, LeadRun, SoFar, TurnCall}
use Rattle.xet_stages.specs.TurnStarts.{StartCall}
use Rattle.xet_turns.specs.Works.{CanWork, WorkCall}
use Rattle.xet_turns.proofs.RoundEnds.{part_call}

-- ---- one turn

module _ {S : Type 0} (told : S → SinkTold) (g : Setup) (m n : Moment) (l h : Led) (v : Sequential S)
    (sink : n.told.sink ≡ m.told.sink) where
  -- asking and admitting, over a run whose writer is idle
  start_call : (answer : Result Bool FileReconstructionError) → StartCall g m n l h answer
      → LeadCall told g m n no_loose no_loose l h v v answer
  start_call answer s = part_call told g m n no_loose no_loose l h v answer sink s.same s.part

  -- all is finished before a round
  pub turn_done : (all : Bool) → all ≡ true → StartCall g m n l h (Ok all) → TurnCall told g m n l h v v (Ok true)
  turn_done all is c =
      let s : StartCall g m n l h (Ok true) = subst (λ (x : Bool). StartCall g m n l h (Ok x)) is c in
      record {
        call = start_call (Ok true) s;
        done = λ b t. s.done b t.going;
        falls = λ b t no. absurd (cc);
        waits = λ w. (s.waits w).planned_is;
        few = s.few;
      }

  -- some run is steady before a round
  pub steady_then : (all : Bool) → IsSteadyRun told g m l v → StartCall g m n l h (Ok all)
      → IsSteadyRun told g n h v
  steady_then all r s = record { start = r.start; steady = (start_call (Ok all) s).ok r.start r.steady }

  -- no round
  pub turn_fails : (e : FileReconstructionError) → StartCall g m n l h (Err e) → TurnCall told g m n l h v v (Err e)
  turn_fails e s = record {
    call = start_call (Err e) s;
    done = λ b t. tt;
    falls = λ b t. tt;
    waits = λ w. tt;
    few = tt;
  }

  -- with a round
  pub turn_goes : (all : Bool) → all ≡ false → (p : Moment) (k : Led) (w : Sequential S)
      → StartCall g m n l h (Ok all) → WorkCall told g n p h k v w (Ok tt) → TurnCall told g m p l k v w (Ok false)
  turn_goes all still p k w s r =
      let first = start_call (Ok all) s in
      record {
        call = record { ok = λ b t. r.call.ok b (first.ok b t); err = λ b t. tt };
        done = λ b t no. absurd (cc);
        falls = λ b t is.
            let less = r.less b (first.ok b t) in
            let stays = less.stays in
            ⊎_elim
            (λ (x : measure g n.events h < measure g m.events l). omega (arith, x, stays))
            (λ (x : (measure g n.events h ≤ measure g m.events l) × (h.finished < h.admitted)).
            let no_more = x.0 in
            let falls = less.falls x.1 in
            omega (arith, no_more, falls))
            (s.work b t.going still);
        waits = λ w. r.counts.planned_is ∙ (s.waits w).planned_is;
        few =
            let same : k.admitted ≡ h.admitted = r.counts.admitted_is in
            let few : h.admitted ≤ l.admitted + most_at_once = s.few in
            omega (arith, same, few);
      }

  -- a round that failed
  pub turn_stops : (all : Bool) (p : Moment) (k : Led) (w : Sequential S) (e : FileReconstructionError)
      → StartCall g m n l h (Ok all) → WorkCall told g n p h k v w (Err e) → TurnCall told g m p l k v w (Err e)
  turn_stops all p k w e s r =
      let first = start_call (Ok all) s in
      record {
        call = record { ok = λ b t. tt; err = λ b t. r.call.err b (first.ok b t) };
        done = λ b t. tt;
        falls = λ b t. tt;
        waits = λ w. tt;
        few = tt;
      }

-- ---- turn after turn

-- such a run is seen at its moment
pub can_work : {S : Type 0} (told : S → SinkTold) (g : Setup) (m : Moment) (l : Led) (v : Sequential S)
    → IsSteadyRun told g m l v → CanWork told g (record {
      clients = m.told.clients;
      cache = m.told.cache;
      signal =
          m.told.signal;
      writer = v;
      events = m.events;
      led = l;
    })
can_work told g m l v r = record {
  moment = m;
  at =
      record { clients = refl; cache = refl; signal = refl; events = refl };
  run = r;
}

-- no turn
pub run_start : {S : Type 0} (told : S → SinkTold) (g : Setup) (m : Moment) (l : Led) (v : Sequential S)
    → SoFar told g m m l l v v
run_start told g m l v = record { ok = λ b s. s; err = λ b s. tt }

module _ {S : Type 0} (told : S → SinkTold) (g : Setup) (m n p : Moment) (l h k : Led) (v f w : Sequential S)
    (so : SoFar told g m n l h v f) where
  -- some run is steady after turns, where one was before
  pub still_steady : IsSteadyRun told g m l v → IsSteadyRun told g n h f
  still_steady s = record { start = s.start; steady = so.ok s.start s.steady }

  -- one more turn
  pub run_more : (all : Bool) → TurnCall told g n p h k f w (Ok all) → SoFar told g m p l k v w
  run_more all t = record { ok = λ b s. t.call.ok b (so.ok b s); err = λ b s. tt }

  -- which leaves less
  pub run_falls : (all : Bool) → all ≡ false → IsSteadyRun told g m l v → TurnCall told g n p h k f w (Ok all)
      → measure g p.events k < measure g n.events h
  run_falls all is s t = t.falls s.start (so.ok s.start s.steady) is

  -- the last one
  pub run_done : (all : Bool) → all ≡ true → TurnCall told g n p h k f w (Ok all) → LeadRun told g m p l k v w (Ok tt)
  run_done all is t = record {
    call = record { ok = λ b s. t.call.ok b (so.ok b s); err = λ b s. tt };
    done = λ b s. t.done b (so.ok b s) is;
  }

  -- one that failed
  pub run_fails : (e : FileReconstructionError) → TurnCall told g n p h k f w (Err e)
      → LeadRun told g m p l k v w (Err e)
  run_fails e t = record {
    call = record { ok = λ b s. tt; err = λ b s. t.call.err b (so.ok b s) };
    done = λ b s. tt;
  }
