-- A run after its writer was ended, and after its error was recorded.
use Rattle.std.proofs.Common.{◌≡◌, ℕ, ◌<◌, ◌≤◌, ◌++◌, inl, inr, Option, Some, None, Ok, Err, List, [], length, take, refl, sym, subst, ◌∙◌, ap, arith, false}
use Rattle.std.specs.Prelude.{option_map, count_by}
use Rattle.std.proofs.Math.Seq.{take-nil}
use Rattle.std.proofs.lemmas.List.{append-nil}
use Rattle.xet_base.specs.Store.{Store}
use Rattle.xet_outside.specs.Told.{Rose, SinkTold, Took}
use Rattle.xet_error.specs.declared.error.FileReconstructionError.{FileReconstructionError}
use Rattle.xet_error.specs.declared.error.FileReconstructionError.TheVariants as error
use Rattle.xet_events.specs.declared.event.Event.{Event}
use Rattle.xet_events.specs.Events.{written, expires}
use Rattle.xet_writers.specs.Calls.{SinkCause, finish_fault}
use Rattle.xet_writers.specs.Queues.{QueuedTerm, ready_bytes, wanted}
use Rattle.xet_writers.specs.Sequential.{Ended, FinishSequential, NotEnded, Sequential}
use Rattle.xet_writers.proofs.CallerLemmas.{open_writer}
use Rattle.xet_ties.specs.Causes.{Cause, refused_setting}
use Rattle.xet_ties.specs.InCall.{Exchange}
use Rattle.xet_ties.specs.RunCalls.{IsFinished}
use Rattle.xet_ties.specs.Setup.{CacheTells, IsOver, RunTold, Setup}
use Rattle.xet_ties.specs.Moves.{no_slack}
use Rattle.xet_ties.specs.Ties.{LeavesNothing, NoneLate, Slack, Ties, all_of}
use Rattle.xet_ties.proofs.CallerLemmas.{none_hidden, none_late, steady_ends, steady_leaves, tie_flush, tie_start}
use Rattle.xet_parts.proofs.CallerLemmas.{stopped_cause, stopped_leaves, stopped_ties}
use Rattle.xet_turns.specs.Ending.{EndFails, EndLeads, LastCall, EndTurn, RecordedEnd, RunAnswer, RunEnds}
use Rattle.xet_leader.specs.Led.{Led}
use Rattle.xet_leader.specs.Plans.{Answer}
use Rattle.xet_leader.specs.Steady.{IsFailing, IsGoing, IsSteady, Moment, no_loose}
use Rattle.xet_leader.proofs.CallerLemmas.{calm_halted, stopped_halted, stopped_under, tries_some, sink_unfailed, stopped_unfailed}

none_more : (a b : Option (List ℕ)) → b ≡ option_map (λ xs. xs ++ []) a → b ≡ a
none_more None b h = h
none_more (Some xs) b h = h ∙ ap (λ (l : List ℕ). Some l) (append-nil xs)

-- ---- the last call of a sink

first_of_none : (q : List QueuedTerm) (n : ℕ) → q ≡ [] → take n (ready_bytes q) ≡ []
first_of_none q n e = ap (λ (p : List QueuedTerm). take n (ready_bytes p)) e ∙ take-nil n

-- an idle writer that did not end took nothing more, and its error has its cause
unended_took : {S : Type 0} (told : S → SinkTold) (v w : Sequential S) (e : FileReconstructionError) → v.queue ≡ []
    → NotEnded told v w e → (told w.sink).took ≡ (told v.sink).took
unended_took {S = S} told v w e queue (inl h) = ap (λ (x : Sequential S). (told x.sink).took) h.1
unended_took {S = S} told v w e queue (inr (inl p)) =
    none_more (told v.sink).took (told w.sink).took
    (subst (Took (told v.sink).took (told w.sink).took) (first_of_none v.queue p.took.count queue) p.took.took)
unended_took {S = S} told v w e queue (inr (inr u)) =
    none_more (told v.sink).took (told w.sink).took
    (subst (λ (q : List QueuedTerm). Took (told v.sink).took (told w.sink).took (ready_bytes q)) queue u.took)

unended_cause : {S : Type 0} (told : S → SinkTold) (v w : Sequential S) (e : FileReconstructionError)
    → NotEnded told v w e → SinkCause (told v.sink).faults (told w.sink).faults e
unended_cause told v w e (inl h) = inl (h.0, ap (λ x. (told x.sink).faults) h.1)
unended_cause told v w e (inr (inl p)) = p.cause
unended_cause told v w e (inr (inr u)) = u.cause

-- the end of an idle writer
pub finish_last : {S : Type 0} (told : S → SinkTold) (v w : Sequential S) (n : ℕ) (answer : RunAnswer) → v.kept ≡ None
    → v.finished ≡ false → v.queue ≡ [] → v.delivered ≡ n → FinishSequential told v w answer
    → LastCall (told v.sink) (told w.sink) n answer
finish_last {S = S} told v w n (Ok k) kept going queue delivered f =
    let whole : finish_fault (wanted v.queue) ≡ None = ap (λ (q : List QueuedTerm). finish_fault (wanted q)) queue in
    let e : Ended told v w k = f.done (open_writer v kept going) whole in
    let none : length (ready_bytes v.queue) ≡ 0 = ap (λ (q : List QueuedTerm). length (ready_bytes q)) queue in
    let c = e.count_is in
    record {
      count_is = omega (arith, c, none, delivered);
      flushed = e.flushed;
      took = none_more (told v.sink).took (told w.sink).took
          (subst (λ (q : List QueuedTerm). Took (told v.sink).took (told w.sink).took (ready_bytes q)) queue e.took);
      cause = tt;
      link = f.link;
      faults = f.faults;
      unfailed = e.unfailed;
    }
finish_last {S = S} told v w n (Err e) kept going queue delivered f =
    let whole : finish_fault (wanted v.queue) ≡ None = ap (λ (q : List QueuedTerm). finish_fault (wanted q)) queue in
    let u : NotEnded told v w e = f.part (open_writer v kept going) whole in
    record {
      count_is = tt;
      flushed = tt;
      took = unended_took {S = S} told v w e queue u;
      cause = unended_cause told v w e u;
      link = f.link;
      faults = f.faults;
      unfailed = tt;
    }

-- ---- a run that goes on, all of which is recorded

pub record IsWhole (g : Setup) (b : RunTold) (m : Moment) : Type 0 where
  pub slack : Slack
  pub ties : Ties g b m.told m.events None slack
  pub leaves : LeavesNothing slack
  pub late : NoneLate slack.late
  pub told_calm : slack.calm ≡ length b.clients
  pub calm : m.told.signal.yes ≡ b.signal.yes
  pub under : (p k : ℕ) → count_by (expires p k) m.events < g.tries
  pub unfailed : m.told.sink.faults ≡ b.sink.faults
  pub cache_tells : (s : Store) → IsOver s b.clients → CacheTells s b.cache → CacheTells s m.told.cache

-- so it is between turns
pub going_whole : (g : Setup) (b : RunTold) (m : Moment) (l : Led) → IsGoing g b m no_loose l → IsWhole g b m
going_whole g b m l s =
    let e = s.settled in
    record {
      slack = s.slack;
      ties = s.ties;
      leaves = record {
        hidden = ap all_of e.hidden ∙ none_hidden b.clients;
        due = e.due;
        lost = e.lost;
        ahead = e.ahead;
      };
      late = subst NoneLate (sym e.late) (none_late b.clients);
      told_calm = e.calm;
      calm = s.calm;
      under = s.led.under;
      unfailed = s.unfailed;
      cache_tells = s.cache_tells;
    }

-- and at its start
pub start_whole : (g : Setup) (b : RunTold) → refused_setting g b.clients ≡ None
    → IsWhole g b (record { told = b; events = [] })
start_whole g b h = record {
  slack = no_slack b.clients;
  ties = tie_start g b h;
  leaves = record { hidden = none_hidden b.clients; due = refl; lost = refl; ahead = refl };
  late = none_late b.clients;
  told_calm = refl;
  calm = refl;
  under = λ p k. tries_some g b.clients h;
  unfailed = refl;
  cache_tells = λ s o c. c;
}

-- ---- after the last call of its sink

-- the moment after it
abbrev pub sunk : Moment → SinkTold → Moment
sunk m to = record { told = record m.told { sink = to }; events = m.events }

-- on Ok it has ended
pub whole_ends : (g : Setup) (b : RunTold) (m : Moment) (to : SinkTold) (k j : ℕ) → IsWhole g b m
    → IsFinished g m.events k → LastCall m.told.sink to k (Ok j) → RunEnds g b (sunk m to) (Ok j)
whole_ends g b m to k j s f c =
    let q = s.calm in
    record {
      tied = record {
        slack = s.slack;
        ties = tie_flush g b m.told m.events s.slack to c.took c.faults c.link s.ties;
        left = steady_ends b.clients s.slack s.leaves s.late s.told_calm;
        cause = tt;
        under = λ u. s.under;
      };
      finished = subst (IsFinished g m.events) (sym c.count_is) f;
      flushed = c.flushed;
      cancelled = λ h. absurd (omega (arith, h, q));
      unfailed = c.unfailed ∙ s.unfailed;
      cache_later = s.cache_tells;
    }

-- a sink's error has its cause in a run
sink_cause : (g : Setup) (xs : List Exchange) (b n : RunTold) (faults : ℕ) (e : FileReconstructionError)
    → b.sink.faults ≤ faults
    → SinkCause faults n.sink.faults e → Cause g xs b n e
sink_cause g xs b n faults e le (inl h) = subst (Cause g xs b n) (sym h.0) tt
sink_cause g xs b n faults e le (inr h) =
    let rose : Rose faults n.sink.faults = h.1 in
    let all : Rose b.sink.faults n.sink.faults = omega (arith, rose, le) in
    subst (Cause g xs b n) (sym h.0) all

-- it is no expired URL
sink_unspent : {A : Type 0} (before after : ℕ) (e : FileReconstructionError) → SinkCause before after e
    → e ≡ error.UrlExpired → A
sink_unspent before after e (inl h) u = absurd (let z : error.OutOfMemory ≡ error.UrlExpired = sym h.0 ∙ u in cc)
sink_unspent before after e (inr h) u = absurd (let z : error.IoError ≡ error.UrlExpired = sym h.0 ∙ u in cc)

-- and after an error it is to stop
pub whole_fails : (g : Setup) (b : RunTold) (m : Moment) (to : SinkTold) (k : ℕ) (e : FileReconstructionError)
    → IsWhole g b m → LastCall m.told.sink to k (Err e) → IsFailing g b (sunk m to) e
whole_fails g b m to k e s c = record {
  slack = s.slack;
  ties = tie_flush g b m.told m.events s.slack to c.took c.faults c.link s.ties;
  left = steady_leaves b.clients e s.slack s.leaves.hidden s.late s.leaves.ahead (λ v. s.told_calm);
  cause = sink_cause g s.slack.heard b (record m.told { sink = to }) m.told.sink.faults e s.ties.taken.faults c.cause;
  unfailed = sink_unfailed b.sink.faults to.faults m.told.sink.faults to.faults e c.cause;
  spent = λ h. sink_unspent m.told.sink.faults to.faults e c.cause h;
  halted = calm_halted b.signal.yes m.told.signal.yes e s.calm;
  under = λ u. s.under;
  cache_tells = s.cache_tells;
}

-- ---- after its error was recorded

pub failing_ends : (g : Setup) (b n : RunTold) (es fs : List Event) (e : FileReconstructionError) (answer : RunAnswer)
    → IsFailing g b (record { told = n; events = es }) e → EndFails es fs e answer
    → RunEnds g b (record { told = n; events = fs }) answer
failing_ends g b n es fs e answer s f =
    let x = f.error in
    subst (λ (a : RunAnswer). RunEnds g b (record { told = n; events = fs }) a) (sym f.is)
    (record {
      tied = record {
        slack = s.slack;
        ties = stopped_ties g b n es fs s.slack e x f.stopped s.spent s.ties;
        left = stopped_leaves b.clients s.slack es fs e x f.stopped s.left;
        cause = stopped_cause g s.slack.heard b n es fs e x f.stopped s.cause;
        under = stopped_under g es fs e x f.stopped s.under;
      };
      finished = tt;
      flushed = tt;
      cancelled = λ yes. stopped_halted es fs e x f.stopped (s.halted yes);
      unfailed = stopped_unfailed b.sink.faults n.sink.faults es fs e x f.stopped s.unfailed;
      cache_later = s.cache_tells;
    })

-- a run all of which is recorded, after the last call of its sink
pub recorded_ends : (g : Setup) (b : RunTold) (m : Moment) (to : SinkTold) (k : ℕ) (fs : List Event)
    (ended answer : RunAnswer) → IsWhole g b m → IsFinished g m.events k → LastCall m.told.sink to k ended
    → RecordedEnd m.events fs ended answer
    → RunEnds g b (record { told = record m.told { sink = to }; events = fs }) answer
recorded_ends g b m to k fs (Ok j) answer s f c r =
    subst (λ (x : List Event). RunEnds g b (record { told = record m.told { sink = to }; events = x }) answer)
    (sym r.ok.1)
    (subst (RunEnds g b (sunk m to)) (sym r.ok.0) (whole_ends g b m to k j s f c))
recorded_ends g b m to k fs (Err e) answer s f c r =
    failing_ends g b (record m.told { sink = to }) m.events fs e answer (whole_fails g b m to k e s c) r.err

-- ---- one call of `end_run`

steady_ended : {S : Type 0} (told : S → SinkTold) (v w : Sequential S) (g : Setup) (b : RunTold) (m : Moment)
    (l : Led) (fs : List Event) (ended answer : RunAnswer) → IsSteady told g b m no_loose l v
    → IsFinished g m.events (written m.events)
    → FinishSequential told v w ended → RecordedEnd m.events fs ended answer
    → RunEnds g b (record { told = record m.told { sink = told w.sink }; events = fs }) answer
steady_ended told v w g b m l fs ended answer s f c r =
    let i = s.writer in
    let last : LastCall (told v.sink) (told w.sink) (written m.events) ended =
    finish_last told v w (written m.events) ended i.kept i.open_still i.queue i.delivered c in
    recorded_ends g b m (told w.sink) (written m.events) fs ended answer (going_whole g b m l s.going) f
    (subst (λ (x : SinkTold). LastCall x (told w.sink) (written m.events) ended) (sym i.sink) last) r

failing_ended : {S : Type 0} (told : S → SinkTold) (v w : Sequential S) (g : Setup) (b : RunTold) (m : Moment)
    (fs : List Event) (e : FileReconstructionError) (ended answer : RunAnswer) → m.told.sink ≡ told v.sink
    → (ended ≡ Err e) × (w ≡ v)
    → RecordedEnd m.events fs ended answer → IsFailing g b m e
    → RunEnds g b (record { told = record m.told { sink = told w.sink }; events = fs }) answer
failing_ended {S = S} told v w g b m fs e ended answer at kept r s =
    let same : told w.sink ≡ m.told.sink = ap (λ (x : Sequential S). told x.sink) kept.1 ∙ sym at in
    let fails = subst (λ (x : RunAnswer). RecordedEnd m.events fs x answer) kept.0 r in
    subst (λ (k : SinkTold). RunEnds g b (record { told = record m.told { sink = k }; events = fs }) answer)
    (sym same) (failing_ends g b m.told m.events fs e answer s fails.err)

pub end_leads : {S : Type 0} (told : S → SinkTold) (v w : Sequential S) (es fs : List Event) (led : Answer)
    (answer : RunAnswer) → EndTurn told v w es fs led answer → EndLeads told v w es fs led answer
end_leads told v w es fs (Ok tt) answer t g m at is =
    let r = subst (λ (x : List Event). RecordedEnd x fs t.ended answer) (sym is) t.records in
    record { ok = λ b l s f. steady_ended told v w g b m l fs t.ended answer s f t.writer.ends r; err = λ b. tt }
end_leads told v w es fs (Err e) answer t g m at is =
    let r = subst (λ (x : List Event). RecordedEnd x fs t.ended answer) (sym is) t.records in
    record { ok = λ b l s f. tt; err = λ b s. failing_ended told v w g b m fs e t.ended answer at t.writer.keeps r s }
