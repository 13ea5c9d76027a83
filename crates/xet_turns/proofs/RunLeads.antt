-- A run from its start to its end.
use Rattle.std.proofs.Common.{◌≡◌, ◌<◌, Bool, true, false, cond, Option, Some, None, Ok, Err, List, [], ◌∷◌, length, refl, sym, subst, ◌∙◌, arith}
use Rattle.std.specs.Prelude.{map, nat_eq, MatchOption}
use Rattle.xet_outside.specs.Told.{ClientTold, SinkTold}
use Rattle.xet_error.specs.declared.error.FileReconstructionError.{FileReconstructionError}
use Rattle.xet_error.specs.declared.error.FileReconstructionError.TheVariants as error
use Rattle.xet_error.specs.declared.error.Setting.{Setting}
use Rattle.xet_error.specs.declared.error.Setting.TheVariants.{NoConnection, NoTries}
use Rattle.xet_events.specs.declared.event.Event.{Event}
use Rattle.xet_events.specs.Allowed.{IsRunning}
use Rattle.xet_writers.specs.Sequential.{Sequential}
use Rattle.xet_terms.specs.Settings.{failing_size}
use Rattle.xet_ties.specs.Causes.{refused_setting}
use Rattle.xet_ties.specs.RunCalls.{RunCall}
use Rattle.xet_ties.specs.Setup.{RunTold, Setup}
use Rattle.xet_ties.proofs.CallerLemmas.{runs, short_leaves}
use Rattle.xet_leader.specs.declared.leader.Job.{Job}
use Rattle.xet_turns.specs.Ending.{EndCall, RunAnswer, RunEnds}
use Rattle.xet_leader.specs.Led.{Led, setup_of_job}
use Rattle.xet_turns.specs.LoopRuns.{IsFresh, RunLed}
use Rattle.xet_leader.specs.Plans.{Answer}
use Rattle.xet_leader.specs.Starts.{LeadStarts}
use Rattle.xet_leader.specs.Steady.{IsFailing, IsSteady, Moment, no_loose}
use Rattle.xet_turns.specs.Turns.{IsSteadyRun, LeadRun}
use Rattle.xet_turns.proofs.EndTies.{IsWhole, start_whole}

-- ---- want of memory

pub short_fails : (g : Setup) (b : RunTold) (m : Moment) → IsWhole g b m → IsFailing g b m error.OutOfMemory
short_fails g b m s = record {
  slack = s.slack;
  ties = s.ties;
  left = short_leaves b.clients s.slack;
  cause = tt;
  unfailed = tt;
  spent = λ h. absurd (let z : error.OutOfMemory ≡ error.UrlExpired = h in cc);
  halted = λ yes. tt;
  under = λ u. absurd u;
  cache_tells = s.cache_tells;
}

-- a run that did nothing and wants memory
pub unbegun : {S : Type 0} (told : S → SinkTold) (g : Setup) (b : RunTold) (es : List Event) (w : Sequential S)
    (e : FileReconstructionError) → es ≡ [] → refused_setting g b.clients ≡ None → e ≡ error.OutOfMemory
    → RunLed told g b (record { told = b; events = es }) w (Err e)
unbegun told g b es w e is h memory = record {
  ok = tt;
  err =
      subst (λ (x : List Event). IsFailing g b (record { told = b; events = x }) e) (sym is)
      (subst (IsFailing g b (record { told = b; events = [] })) (sym memory)
      (short_fails g b (record { told = b; events = [] }) (start_whole g b h)));
}

-- ---- settings

-- a run whose settings can be met is lent a connection
pub some_client : {C : Type 0} (told : C → ClientTold) (g : Setup) (cs : List C)
    → refused_setting g (map told cs) ≡ None → 0 < length cs
some_client told g [] h = absurd (cc)
some_client told g (c ∷ cs) h = omega arith

cond_none : (b : Bool) (x : Setting) (o : Option Setting) → cond b (Some x) o ≡ None → o ≡ None
cond_none true x o h = absurd (let z : Some x ≡ None = h in cc)
cond_none false x o h = h

-- its fetch sizes can be met
pub sizes_met : (g : Setup) (cs : List ClientTold) → refused_setting g cs ≡ None
    → failing_size g.least g.greatest ≡ None
sizes_met g cs h =
    cond_none (nat_eq g.tries 0) NoTries (failing_size g.least g.greatest)
    (cond_none (nat_eq (length cs) 0) NoConnection
    (cond (nat_eq g.tries 0) (Some NoTries) (failing_size g.least g.greatest)) h)

pub memory_alone : (o : Option Setting) (P : Type 0) (Q : Setting → Type 0) → o ≡ None → MatchOption o P Q → P
memory_alone None P Q h m = m
memory_alone (Some x) P Q h m = absurd (let z : Some x ≡ None = h in cc)

-- ---- the start

-- a run from its start is steady
start_steady : {S : Type 0} (told : S → SinkTold) (j : Job) (b : RunTold) (l : Led) (v : Sequential S)
    → b.sink ≡ told v.sink → IsFresh v → LeadStarts j l → refused_setting (setup_of_job j) b.clients ≡ None
    → j.byte_range.start < j.byte_range.end
    → IsSteady told (setup_of_job j) b (record { told = b; events = [] }) no_loose l v
start_steady told j b l v sink f starts h some = record {
  going = starts b h some;
  writer = record {
    sink = sink;
    queue = f.queue;
    kept = f.kept;
    open_still = f.open_still;
    expected =
        f.expected;
    delivered = f.delivered;
  };
}

-- from that start
pub begins_steady : {S : Type 0} (told : S → SinkTold) (j : Job) (b : RunTold) (es : List Event) (l : Led)
    (v : Sequential S) → b.sink ≡ told v.sink → es ≡ [] → IsFresh v → LeadStarts j l
    → refused_setting (setup_of_job j) b.clients ≡ None
    → j.byte_range.start < j.byte_range.end → IsSteadyRun told (setup_of_job j) (record { told = b; events = es }) l v
begins_steady told j b es l v sink is f starts h some = record {
  start = b;
  steady = subst (λ (x : List Event). IsSteady told (setup_of_job j) b (record { told = b; events = x }) no_loose l v)
      (sym is) (start_steady told j b l v sink f starts h some);
}

loop_led : {S : Type 0} (told : S → SinkTold) (g : Setup) (b : RunTold) (m n : Moment) (l k : Led)
    (v w : Sequential S) (answer : Answer) → IsSteady told g b m no_loose l v → LeadRun told g m n l k v w answer
    → RunLed told g b n w answer
loop_led told g b m n l k v w (Ok tt) s c = record {
  ok =
      record { led = k; steady = c.call.ok b s; finished = c.done b s };
  err = tt;
}
loop_led told g b m n l k v w (Err e) s c = record { ok = tt; err = c.call.err b s }

-- after the loop
pub start_led : {S : Type 0} (told : S → SinkTold) (j : Job) (b : RunTold) (es : List Event) (n : Moment) (l k : Led)
    (v w : Sequential S) (answer : Answer) → b.sink ≡ told v.sink → es ≡ [] → IsFresh v → LeadStarts j l
    → refused_setting (setup_of_job j) b.clients ≡ None → j.byte_range.start < j.byte_range.end
    → LeadRun told (setup_of_job j) (record { told = b; events = es }) n l k v w answer
    → RunLed told (setup_of_job j) b n w answer
start_led told j b es n l k v w answer sink is f starts h some c =
    loop_led told (setup_of_job j) b (record { told = b; events = [] }) n l k v w answer
    (start_steady told j b l v sink f starts h some)
    (subst (λ (x : List Event). LeadRun told (setup_of_job j) (record { told = b; events = x }) n l k v w answer) is
    c)

-- ---- the end

-- no error is recorded yet
pub led_runs : {S : Type 0} (told : S → SinkTold) (g : Setup) (b : RunTold) (n : Moment) (w : Sequential S)
    (answer : Answer) → RunLed told g b n w answer → IsRunning n.events
led_runs told g b n w (Ok tt) r = r.ok.steady.going.led.running
led_runs told g b n w (Err e) r = let f : IsFailing g b n e = r.err in runs g b n.told n.events f.slack f.ties

pub led_ends : {S : Type 0} (told : S → SinkTold) (g : Setup) (b : RunTold) (m n : Moment) (v : Sequential S)
    (led : Answer) (answer : RunAnswer) → RunLed told g b m v led → EndCall told g m n v led answer
    → RunEnds g b n answer
led_ends told g b m n v (Ok tt) answer r c = let o = r.ok in c.ok b o.led o.steady o.finished
led_ends told g b m n v (Err e) answer r c = c.err b r.err

-- ---- the call

-- a run that is refused for a setting
pub refused_call : (g : Setup) (b : RunTold) (es : List Event) (x : Setting) → es ≡ []
    → refused_setting g b.clients ≡ Some x → RunCall g b b es (Err (error.ConfigurationError x))
refused_call g b es x is h = record {
  settings = λ e f. let z : Some x ≡ Some e = sym h ∙ f in record { answered = cc; events = is; same = refl };
  tied = λ f. absurd (let z : Some x ≡ None = sym h ∙ f in cc);
  finished = tt;
  flushed = tt;
  cancelled = λ yes. absurd (omega arith);
  unfailed = refl;
  empty = λ e. record {
    untouched = record { clients = refl; cache = refl; signal = refl; limits = refl };
    took = refl;
    none = tt;
    error = tt;
  };
  cache_later = λ s over tells. tells;
}

-- a run over a range that has bytes, whose settings can be met
pub ended_call : (g : Setup) (b : RunTold) (n : Moment) (answer : RunAnswer) → refused_setting g b.clients ≡ None
    → g.range.start < g.range.end → RunEnds g b n answer → RunCall g b n.told n.events answer
ended_call g b n answer h some r = record {
  settings = λ e f. absurd (let z : None ≡ Some e = sym h ∙ f in cc);
  tied = λ f. r.tied;
  finished = r.finished;
  flushed = r.flushed;
  cancelled = r.cancelled;
  unfailed = r.unfailed;
  empty = λ e. absurd (omega arith);
  cache_later = r.cache_later;
}
