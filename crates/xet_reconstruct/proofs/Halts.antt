-- Calls that end before any connection is asked.
use Rattle.std.proofs.Common.{◌≡◌, ℕ, ◌≤◌, Some, None, Err, [], ◌∷◌, refl, sym, subst, ◌∙◌, ap, ◌⊎◌, inl, inr, arith}
use Rattle.xet_outside.specs.Told.{Rose, SinkTold}
use Rattle.xet_error.specs.declared.error.FileReconstructionError.{FileReconstructionError}
use Rattle.xet_error.specs.declared.error.FileReconstructionError.TheVariants as error
use Rattle.xet_error.specs.declared.error.Setting.{Setting}
use Rattle.xet_events.specs.declared.event.Event.TheVariants.{Fail}
use Rattle.xet_events.specs.Allowed.{IsAllowedHistory}
use Rattle.xet_writers.specs.Calls.{SinkCause}
use Rattle.xet_ties.specs.Causes.{refused_setting}
use Rattle.xet_ties.specs.Legal.{Legal}
use Rattle.xet_ties.specs.RunCalls.{DidNothing, IsLocal, RunCall, RunTies}
use Rattle.xet_ties.specs.Setup.{RunTold, Setup}
use Rattle.xet_ties.specs.Moves.{no_slack}
use Rattle.xet_reconstruct.specs.ToFile.{UnreadyCause}
use Rattle.xet_ties.proofs.CallerLemmas.{legal_of, none_hidden, none_late, short_leaves, steady_leaves, tie_flush}
use Rattle.xet_ties.proofs.CallerLemmas.{tie_short, tie_start, tie_stop}

-- ---- a setting fails

pub refused_call : (g : Setup) (b : RunTold) (e : Setting) → refused_setting g b.clients ≡ Some e
    → RunCall g b b [] (Err (error.ConfigurationError e))
refused_call g b e h = record {
  settings = λ x h2. record {
    answered = ap (λ (y : Setting). Err (error.ConfigurationError y))
        (let z : Some e ≡ Some x = sym h ∙ h2 in let w : e ≡ x = cc in w);
    events = refl;
    same = refl;
  };
  tied = λ h2. absurd (let z : Some e ≡ None = sym h ∙ h2 in cc);
  finished = tt;
  flushed = tt;
  cancelled = λ yes. absurd (omega (arith, yes));
  unfailed = refl;
  empty = λ r. record {
    untouched = record { clients = refl; cache = refl; signal = refl; limits = refl };
    took = refl;
    none = tt;
    error = tt;
  };
  cache_later = λ s o c. c;
}

pub refused_legal : (g : Setup) (b : RunTold) (e : Setting) → refused_setting g b.clients ≡ Some e
    → Legal g b b (Err (error.ConfigurationError e))
refused_legal g b e h = legal_of g b b [] (Err (error.ConfigurationError e)) tt (refused_call g b e h)

-- ---- want of memory

pub short_ties : (g : Setup) (b : RunTold) (to : SinkTold) → refused_setting g b.clients ≡ None
    → to.took ≡ b.sink.took → b.sink.faults ≤ to.faults → to.link ≡ b.sink.link
    → RunTies g b (record b { sink = to }) [] (Some error.OutOfMemory)
short_ties g b to h took faults link =
    let sl = no_slack b.clients in
    record {
      slack = sl;
      ties = tie_short g b (record b { sink = to }) [] sl (tie_flush g b b [] sl to took faults link (tie_start g b h));
      left = short_leaves b.clients sl;
      cause = tt;
      under = λ u. absurd u;
    }

failed_ties : (g : Setup) (b : RunTold) (to : SinkTold) → refused_setting g b.clients ≡ None
    → to.took ≡ b.sink.took → b.sink.faults ≤ to.faults → to.link ≡ b.sink.link → Rose b.sink.faults to.faults
    → RunTies g b (record b { sink = to }) (Fail error.IoError ∷ []) (Some error.IoError)
failed_ties g b to h took faults link rose =
    let sl = no_slack b.clients in
    record {
      slack = sl;
      ties = tie_stop g b (record b { sink = to }) [] sl error.IoError (λ e. absurd (cc))
          (tie_flush g b b [] sl to took faults link (tie_start g b h));
      left = steady_leaves b.clients error.IoError sl (none_hidden b.clients) (none_late b.clients) refl (λ v. refl);
      cause = rose;
      under = λ u. absurd u;
    }

-- the sink took nothing, and nothing else was asked
nothing_done : (b : RunTold) (to : SinkTold) (e : FileReconstructionError) → to.took ≡ b.sink.took
    → (e ≡ error.OutOfMemory) ⊎ (e ≡ error.IoError) → DidNothing b (record b { sink = to }) (Err e)
nothing_done b to e took (inl is) = record {
  untouched = record { clients = refl; cache = refl; signal = refl; limits = refl };
  took = took;
  none = tt;
  error = subst IsLocal (sym is) tt;
}
nothing_done b to e took (inr is) = record {
  untouched = record { clients = refl; cache = refl; signal = refl; limits = refl };
  took = took;
  none = tt;
  error = subst IsLocal (sym is) tt;
}

pub short_call : (g : Setup) (b : RunTold) (to : SinkTold) → refused_setting g b.clients ≡ None
    → to.took ≡ b.sink.took → b.sink.faults ≤ to.faults → to.link ≡ b.sink.link
    → RunCall g b (record b { sink = to }) [] (Err error.OutOfMemory)
short_call g b to h took faults link = record {
  settings = λ e h2. absurd (let z : None ≡ Some e = sym h ∙ h2 in cc);
  tied = λ h2. short_ties g b to h took faults link;
  finished = tt;
  flushed = tt;
  cancelled = λ yes. tt;
  unfailed = tt;
  empty = λ e. nothing_done b to error.OutOfMemory took (inl refl);
  cache_later = λ s o c. c;
}

failed_call : (g : Setup) (b : RunTold) (to : SinkTold) → refused_setting g b.clients ≡ None
    → to.took ≡ b.sink.took → b.sink.faults ≤ to.faults → to.link ≡ b.sink.link
    → Rose b.sink.faults to.faults
    → RunCall g b (record b { sink = to }) (Fail error.IoError ∷ []) (Err error.IoError)
failed_call g b to h took faults link rose = record {
  settings = λ e h2. absurd (let z : None ≡ Some e = sym h ∙ h2 in cc);
  tied = λ h2. failed_ties g b to h took faults link rose;
  finished = tt;
  flushed = tt;
  cancelled = λ yes. absurd (omega (arith, yes));
  unfailed = tt;
  empty = λ e. nothing_done b to error.IoError took (inr refl);
  cache_later = λ s o c. c;
}

-- ---- a sink that took nothing

fail_allowed : IsAllowedHistory (Fail error.IoError ∷ [])
fail_allowed = (refl, tt)

-- it found no memory, or it failed, before anything else was asked
pub halted_legal : (g : Setup) (b : RunTold) (to : SinkTold) (e : FileReconstructionError)
    → refused_setting g b.clients ≡ None → to.took ≡ b.sink.took → b.sink.faults ≤ to.faults
    → to.link ≡ b.sink.link → SinkCause b.sink.faults to.faults e → Legal g b (record b { sink = to }) (Err e)
halted_legal g b to e h took faults link (inl is) =
    subst (λ (x : FileReconstructionError). Legal g b (record b { sink = to }) (Err x)) (sym is.0)
    (legal_of g b (record b { sink = to }) [] (Err error.OutOfMemory) tt (short_call g b to h took faults link))
halted_legal g b to e h took faults link (inr is) =
    subst (λ (x : FileReconstructionError). Legal g b (record b { sink = to }) (Err x)) (sym is.0)
    (legal_of g b (record b { sink = to }) (Fail error.IoError ∷ []) (Err error.IoError) fail_allowed
    (failed_call g b to h took faults link is.1))

pub halted_nothing : (b : RunTold) (to : SinkTold) (e : FileReconstructionError) → to.took ≡ b.sink.took
    → SinkCause b.sink.faults to.faults e → DidNothing b (record b { sink = to }) (Err e)
halted_nothing b to e took (inl is) = nothing_done b to e took (inl is.0)
halted_nothing b to e took (inr is) = nothing_done b to e took (inr is.0)

-- its error has its cause
pub halted_cause : (before after : ℕ) (e : FileReconstructionError) → SinkCause before after e
    → UnreadyCause before after e
halted_cause before after e (inl is) = subst (UnreadyCause before after) (sym is.0) is.1
halted_cause before after e (inr is) = subst (UnreadyCause before after) (sym is.0) is.1
