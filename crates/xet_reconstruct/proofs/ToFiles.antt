-- Calls that write into a file.
use Rattle.std.proofs.Common.{◌≡◌, ℕ, Bool, List, Option, None, Some, Ok, Err, refl, sym, subst, ◌∙◌, ap, inl}
use Rattle.std.proofs.Common.{inr, arith}
use Rattle.std.specs.Prelude.{Result}
use Rattle.xet_base.specs.Store.{Store, window}
use Rattle.xet_outside.specs.Places.{before_place}
use Rattle.xet_outside.specs.Told.{Link, SinkTold, Took}
use Rattle.xet_error.specs.declared.error.FileReconstructionError.{FileReconstructionError}
use Rattle.xet_error.specs.declared.error.FileReconstructionError.TheVariants as error
use Rattle.xet_error.specs.declared.error.Setting.{Setting}
use Rattle.xet_events.specs.Limits.{LimitTold}
use Rattle.xet_ties.specs.Causes.{Cause, refused_setting}
use Rattle.xet_ties.specs.InCall.{Exchange, Look}
use Rattle.xet_ties.specs.Legal.{Legal}
use Rattle.xet_ties.specs.LegalWords.{IsExact, TookTested, TookWhole}
use Rattle.xet_ties.specs.RunCalls.{DidNothing, Unfailed}
use Rattle.xet_ties.specs.Setup.{RunTold, Setup}
use Rattle.xet_reconstruct.specs.steps.Placing.{ReadyCall}
use Rattle.xet_reconstruct.specs.ToFile.{IsUnready, StandAt, ToFileCall, placed_as}
use Rattle.xet_reconstruct.specs.Ran.{RanUnder}
use Rattle.xet_reconstruct.proofs.Halts.{halted_cause, halted_legal, halted_nothing, refused_legal}
use Rattle.xet_reconstruct.proofs.Mapping.{if_err, if_ok, on_ok}

-- ---- a sink told otherwise before a run, with the same bytes and faults

module _ (g : Setup) (b n : RunTold) (at : SinkTold) (flushed : Option ℕ) (faults : ℕ) (link : Link)
    (same : at.faults ≡ faults) where
  abbrev then_sink : SinkTold
  then_sink = record { took = at.took; flushed = flushed; faults = faults; link = link }

  abbrev at_start : RunTold
  at_start = record b { sink = at }

  abbrev other_start : RunTold
  other_start = record b { sink = then_sink }

  other_cause : (xs : List Exchange) (e : FileReconstructionError) → Cause g xs at_start n e
      → Cause g xs other_start n e
  other_cause xs error.OutOfMemory c = c
  other_cause xs error.ClientError c = c
  other_cause xs error.FileNotFound c = c
  other_cause xs error.UrlExpired c = c
  other_cause xs error.IoError c = omega (arith, same, c)
  other_cause xs (error.CorruptedReconstruction k) c = c
  other_cause xs (error.ConfigurationError s) c = c
  other_cause xs error.Cancelled c = c
  other_cause xs (error.InternalWriterError w) c = c

  other_tested : (xs : List Exchange) (ls : List Look) → TookTested g xs ls at n.sink
      → TookTested g xs ls then_sink n.sink
  other_tested xs ls t = record { planning = t.planning; pieces = t.pieces; each = t.each; took = t.took }

  other_whole : (xs : List Exchange) (ls : List Look) (k : ℕ) → TookWhole g xs ls at n.sink k
      → TookWhole g xs ls then_sink n.sink k
  other_whole xs ls k t = record {
    all = t.all;
    pieces = t.pieces;
    each = t.each;
    took = t.took;
    total = t.total;
  }

  other_nothing : (answer : Result ℕ FileReconstructionError) → DidNothing at_start n answer
      → DidNothing other_start n answer
  other_nothing answer d = record {
    untouched = record {
      clients = d.untouched.clients;
      cache = d.untouched.cache;
      signal = d.untouched.signal;
      limits = d.untouched.limits;
    };
    took = d.took;
    none = d.none;
    error = d.error;
  }

  pub other_legal : (answer : Result ℕ FileReconstructionError) → refused_setting g b.clients ≡ None
      → n.sink.link ≡ link → Legal g at_start n answer → Legal g other_start n answer
  other_legal answer h at_link l = record {
    told = l.told;
    exact = record {
      exact = λ s o c. if_ok answer (IsExact s g at n.sink) (IsExact s g then_sink n.sink)
          (λ k e. record { stored = e.stored; took = e.took; total = e.total }) (l.exact.exact s o c);
      prefix = l.exact.prefix;
      stored = l.exact.stored;
    };
    first = record {
      settings = λ e h2. absurd (let z : None ≡ Some e = sym h ∙ h2 in cc);
      empty = λ e. other_nothing answer (l.first.empty e);
    };
    cause = if_err answer (Cause g l.told.heard at_start n) (Cause g l.told.heard other_start n)
        (other_cause l.told.heard) l.cause;
    written = record {
      tested = other_tested l.told.heard l.told.looks l.written.tested;
      whole = if_ok answer (TookWhole g l.told.heard l.told.looks at n.sink)
          (TookWhole g l.told.heard l.told.looks then_sink n.sink) (other_whole l.told.heard l.told.looks) l.written.whole;
      flushed = l.written.flushed;
    };
    faults = record {
      cancelled = l.faults.cancelled;
      unfailed = subst (λ (k : ℕ). Unfailed k n.sink.faults answer) same l.faults.unfailed;
      clients_unfailed = l.faults.clients_unfailed;
    };
    queries = l.queries;
    blocks = l.blocks;
    tries = l.tries;
    cached = l.cached;
    later = record {
      goes_on = l.later.goes_on;
      past = l.later.past;
      cache_later = l.later.cache_later;
      sink_later = (let x = l.later.sink_later in omega (arith, x, same));
      signal_later = l.later.signal_later;
      counts_later = l.later.counts_later;
      link = at_link;
    };
  }

-- a run into a file that was made ready
ready_legal : (g : Setup) (b n : RunTold) (at : SinkTold) (answer : Result ℕ FileReconstructionError)
    → refused_setting g b.clients ≡ None → at.took ≡ b.sink.took → at.faults ≡ b.sink.faults
    → Legal g (record b { sink = at }) n answer → Legal g (placed_as n.sink.link b) n answer
ready_legal g b n at answer h took same l =
    subst (λ (t : Option (List ℕ)). Legal g (record b {
      sink = record { took = t; flushed = b.sink.flushed; faults = b.sink.faults; link = n.sink.link };
    }) n answer) took
    (other_legal g b n at b.sink.flushed b.sink.faults n.sink.link same answer h refl l)

-- ---- one call

-- a setting failed
pub refused_file : (limits : LimitTold) (g : Setup) (truncate : Bool) (place : ℕ) (b : RunTold) (e : Setting)
    → refused_setting g b.clients ≡ Some e → ToFileCall limits g truncate place b b (Err (error.ConfigurationError e))
refused_file limits g truncate place b e h =
    let unready : IsUnready truncate b b (Err (error.ConfigurationError e)) = record {
      nothing = record {
        untouched = record { clients = refl; cache = refl; signal = refl; limits = refl };
        took = refl;
        none = tt;
        error = tt;
      };
      fails = tt;
      cause = refl;
      left = inl refl;
    } in
    record {
      settings = λ x h2. (
        ap (λ (y : Setting). Err (error.ConfigurationError y))
            (let z : Some e ≡ Some x = sym h ∙ h2 in let w : e ≡ x = cc in w),
        refl,
      );
      legal = refused_legal g b e h;
      ran = inr unready;
      exact = λ s o c. tt;
      link = refl;
    }

-- the file could not be made ready
pub unready_file : (limits : LimitTold) (g : Setup) (truncate : Bool) (place at : ℕ) (b : RunTold) (to : SinkTold)
    (e : FileReconstructionError) → refused_setting g b.clients ≡ None
    → ReadyCall truncate at b.sink to (Err e) → ToFileCall limits g truncate place b (record b { sink = to }) (Err e)
unready_file limits g truncate place at b to e h r =
    let unready : IsUnready truncate b (record b { sink = to }) (Err e) = record {
      nothing = halted_nothing b to e r.took r.cause;
      fails = tt;
      cause = halted_cause b.sink.faults to.faults e r.cause;
      left = r.left;
    } in
    record {
      settings = λ x h2. absurd (let z : None ≡ Some x = sym h ∙ h2 in cc);
      legal = halted_legal g (placed_as to.link b) to e h r.took r.faults refl r.cause;
      ran = inr unready;
      exact = λ s o c. tt;
      link = r.link;
    }

exact_there : (g : Setup) (truncate : Bool) (place : ℕ) (b n : RunTold) (s : Store) (k : ℕ)
    → ((bytes : List ℕ) → Took b.sink.took n.sink.took bytes → StandAt truncate place b.sink n.sink bytes)
    → IsExact s g (placed_as n.sink.link b).sink n.sink k
    → StandAt truncate place b.sink n.sink (window s g.file g.range)
exact_there g truncate place b n s k stands e = stands (window s g.file g.range) e.took

-- the run went into it
pub ready_file : (limits : LimitTold) (g : Setup) (truncate : Bool) (place p : ℕ) (b n : RunTold) (at : SinkTold)
    (answer : Result ℕ FileReconstructionError) → p ≡ place → refused_setting g b.clients ≡ None
    → ReadyCall truncate p b.sink at (Ok tt) → Legal g (record b { sink = at }) n answer
    → RanUnder limits g (record b { sink = at }) n answer
    → ToFileCall limits g truncate place b n answer
ready_file limits g truncate place p b n at answer is h given l ran =
    let r = subst (λ (q : ℕ). ReadyCall truncate q b.sink at (Ok tt)) is given in
    let legal : Legal g (placed_as n.sink.link b) n answer = ready_legal g b n at answer h r.took r.unfailed l in
    let stands : (bytes : List ℕ) → Took b.sink.took n.sink.took bytes → StandAt truncate place b.sink n.sink bytes =
    λ bytes t. r.ready n.sink bytes (subst (λ (x : Option (List ℕ)). Took x n.sink.took bytes) (sym r.took) t) l.later.link in
    record {
      settings = λ x h2. absurd (let z : None ≡ Some x = sym h ∙ h2 in cc);
      legal = legal;
      ran = inl (record {
        ready = at;
        made = record { took = r.took; unfailed = r.unfailed; placed = r.placed; link = r.link };
        ran = ran;
        stands = stands;
      });
      exact = λ s o c. on_ok answer (IsExact s g (placed_as n.sink.link b).sink n.sink)
          (StandAt truncate place b.sink n.sink (window s g.file g.range))
          (λ k e. exact_there g truncate place b n s k stands e) (legal.exact.exact s o c);
      link = ap before_place l.later.link ∙ r.link;
    }
