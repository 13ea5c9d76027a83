-- Legal answers whatever the source of limits tells.
use Rattle.std.proofs.Common.{ap, refl}
use Rattle.std.specs.Prelude.{ℕ, List, Result, Ok, Err, IfErr}
use Rattle.xet_error.specs.declared.error.FileReconstructionError.{FileReconstructionError}
use Rattle.xet_error.specs.declared.error.FileReconstructionError.TheVariants as error
use Rattle.xet_ties.specs.Causes.{Cause}
use Rattle.xet_ties.specs.InCall.{Exchange}
use Rattle.xet_ties.specs.Legal.{Legal}
use Rattle.xet_ties.specs.RunCalls.{DidNothing}
use Rattle.xet_ties.specs.Setup.{RunTold, Setup}
use Rattle.xet_reconstruct.specs.Lent.{no_limits}

if_err : {A E : Type 0} (r : Result A E) (P Q : E → Type 0) → ((e : E) → P e → Q e) → IfErr r P → IfErr r Q
if_err (Ok x) P Q f h = tt
if_err (Err e) P Q f h = f e h

-- the same told without its limits
abbrev pub unlimited : RunTold → RunTold
unlimited t = record t { limits = no_limits }

unlimited_cause : (g : Setup) (xs : List Exchange) (b n : RunTold) (e : FileReconstructionError) → Cause g xs b n e
    → Cause g xs (unlimited b) (unlimited n) e
unlimited_cause g xs b n error.OutOfMemory c = c
unlimited_cause g xs b n error.ClientError c = c
unlimited_cause g xs b n error.FileNotFound c = c
unlimited_cause g xs b n error.UrlExpired c = c
unlimited_cause g xs b n error.IoError c = c
unlimited_cause g xs b n (error.CorruptedReconstruction k) c = c
unlimited_cause g xs b n (error.ConfigurationError s) c = c
unlimited_cause g xs b n error.Cancelled c = c
unlimited_cause g xs b n (error.InternalWriterError w) c = c

unlimited_nothing : (b n : RunTold) (answer : Result ℕ FileReconstructionError) → DidNothing b n answer
    → DidNothing (unlimited b) (unlimited n) answer
unlimited_nothing b n answer d = record {
  untouched = record {
    clients = d.untouched.clients;
    cache = d.untouched.cache;
    signal = d.untouched.signal;
    limits = refl;
  };
  took = d.took;
  none = d.none;
  error = d.error;
}

pub unlimited_legal : (g : Setup) (b n : RunTold) (answer : Result ℕ FileReconstructionError) → Legal g b n answer
    → Legal g (unlimited b) (unlimited n) answer
unlimited_legal g b n answer l = record {
  told = l.told;
  exact = l.exact;
  first = record {
    settings = λ e h. ((l.first.settings e h).0, ap unlimited (l.first.settings e h).1);
    empty = λ e. unlimited_nothing b n answer (l.first.empty e);
  };
  cause = if_err answer (Cause g l.told.heard b n) (Cause g l.told.heard (unlimited b) (unlimited n))
      (unlimited_cause g l.told.heard b n) l.cause;
  written = l.written;
  faults = record {
    cancelled = l.faults.cancelled;
    unfailed = l.faults.unfailed;
    clients_unfailed = l.faults.clients_unfailed;
  };
  queries = l.queries;
  blocks = l.blocks;
  tries = l.tries;
  cached = l.cached;
  later = record {
    goes_on = l.later.goes_on;
    past = l.later.past;
    cache_later = l.later.cache_later;
    sink_later = l.later.sink_later;
    signal_later = l.later.signal_later;
    counts_later = l.later.counts_later;
    link = l.later.link;
  };
}
