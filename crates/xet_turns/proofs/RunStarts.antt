-- Runs by how they start: a setting fails, the range is empty, or it has bytes.
use Rattle.std.proofs.Common.{◌≡◌, Some, None, Ok, Err, List, [], refl, sym, subst, ◌∙◌, arith, inl, inr, ℕ}
use Rattle.std.specs.Prelude.{IfOk, IfErr}
use Rattle.xet_outside.specs.Told.{SinkTold}
use Rattle.xet_error.specs.declared.error.FileReconstructionError.{FileReconstructionError}
use Rattle.xet_events.specs.declared.event.Event.{Event}
use Rattle.xet_writers.specs.Calls.{SinkCause}
use Rattle.xet_parts.specs.Stops.{IsStopped}
use Rattle.xet_ties.specs.Causes.{refused_setting}
use Rattle.xet_ties.specs.RunCalls.{IsFinished, IsLocal, RunCall}
use Rattle.xet_ties.specs.Setup.{IsEmptyRange, RunTold, Setup}
use Rattle.xet_turns.specs.EmptyRuns.{EmptyRuns, EmptyTurn}
use Rattle.xet_turns.specs.Ending.{LastCall, RecordedEnd, RunAnswer}
use Rattle.xet_turns.proofs.EndTies.{recorded_ends, start_whole}

-- ---- an empty range

-- without events all is finished
none_finished : (g : Setup) → IsEmptyRange g.range → IsFinished g [] 0
none_finished g none = record {
  count = refl;
  admitted = refl;
  unwritten = refl;
  reaches = λ some. absurd (omega (arith, some, none));
  empty = λ h. refl;
}

local_cause : (before after : ℕ) (e : FileReconstructionError) → SinkCause before after e → IsLocal e
local_cause before after e (inl h) = subst IsLocal (sym h.0) tt
local_cause before after e (inr h) = subst IsLocal (sym h.0) tt

local_stop : (es fs : List Event) (e x : FileReconstructionError) → IsStopped es fs e x → IsLocal e → IsLocal x
local_stop es fs e x (inl h) l = subst IsLocal (sym h.0) l
local_stop es fs e x (inr h) l = subst IsLocal (sym h.0) tt

-- no byte was written
none_written : (before after : SinkTold) (fs : List Event) (ended answer : RunAnswer) → LastCall before after 0 ended
    → RecordedEnd [] fs ended answer → IfOk answer (λ k. k ≡ 0)
none_written before after fs (Ok k) answer c r =
    subst (λ (a : RunAnswer). IfOk a (λ j. j ≡ 0)) (sym r.ok.0) c.count_is
none_written before after fs (Err e) answer c r = subst (λ (a : RunAnswer). IfOk a (λ j. j ≡ 0)) (sym r.err.is) tt

-- and an error needs no connection
none_asked : (before after : SinkTold) (fs : List Event) (ended answer : RunAnswer) → LastCall before after 0 ended
    → RecordedEnd [] fs ended answer → IfErr answer IsLocal
none_asked before after fs (Ok k) answer c r = subst (λ (a : RunAnswer). IfErr a IsLocal) (sym r.ok.0) tt
none_asked before after fs (Err e) answer c r =
    subst (λ (a : RunAnswer). IfErr a IsLocal) (sym r.err.is)
    (local_stop [] fs e r.err.error r.err.stopped (local_cause before.faults after.faults e c.cause))

empty_call : (g : Setup) (b : RunTold) (to : SinkTold) (fs : List Event) (answer : RunAnswer)
    → refused_setting g b.clients ≡ None → IsEmptyRange g.range → EmptyTurn b.sink to [] fs answer
    → RunCall g b (record b { sink = to }) fs answer
empty_call g b to fs answer h none t =
    let r = recorded_ends g b (record { told = b; events = [] }) to 0 fs t.ended answer (start_whole g b h)
    (none_finished g none) t.flushed t.records in
    record {
      settings = λ e h2. absurd (let z : None ≡ Some e = sym h ∙ h2 in cc);
      tied = λ h2. r.tied;
      finished = r.finished;
      flushed = r.flushed;
      cancelled = r.cancelled;
      unfailed = r.unfailed;
      empty = λ e. record {
        untouched = record { clients = refl; cache = refl; signal = refl; limits = refl };
        took = t.flushed.took;
        none = none_written b.sink to fs t.ended answer t.flushed t.records;
        error = none_asked b.sink to fs t.ended answer t.flushed t.records;
      };
      cache_later = r.cache_later;
    }

pub empty_runs : (before after : SinkTold) (es fs : List Event) (answer : RunAnswer) → es ≡ []
    → EmptyTurn before after es fs answer → EmptyRuns before after fs answer
empty_runs before after es fs answer is t g b at h none =
    empty_call g b after fs answer h none
    (subst (λ (x : SinkTold). EmptyTurn x after [] fs answer) (sym at)
    (subst (λ (x : List Event). EmptyTurn before after x fs answer) is t))
