-- Writes of a sink over another, by what the sink below did.
use Rattle.std.proofs.Common.{◌≡◌, ◌⊎◌, inl, inr, ℕ, Bool, true, false, List, Err, IsErrOf, Ok, Result}
use Rattle.std.proofs.Common.{refl, sym, ap, ◌∙◌, arith}
use Rattle.xet_outside.specs.declared.sink.SinkError.{SinkError}
use Rattle.xet_outside.specs.declared.sink.SinkError.TheVariants as sink_error
use Rattle.xet_outside.specs.Told.{SinkTold, FlushCall, WriteCall}
use Rattle.xet_sinks.specs.steps.Held.{WroteOut}
use Rattle.xet_sinks.proofs.Buffered.{with_nothing}

-- a write that calls nothing and finds no memory
pub refused : (a : SinkTold) (piece : List ℕ) → WriteCall a a piece (Err sink_error.OutOfMemory)
refused a piece = record {
  count = tt;
  some = λ _. tt;
  took = tt;
  prefix = λ x. cc;
  memory = λ _. refl;
  flushed = refl;
  link = refl;
  faults = omega arith;
  failed = λ x. cc;
  unfailed = tt;
  short = λ _. refl;
}

-- an error of one call is that of another with it
pub err_as : (T U : Type 0) (e : SinkError) → IsErrOf {T = T} {E = SinkError} (Err e) sink_error.Failed
    → IsErrOf {T = U} {E = SinkError} (Err e) sink_error.Failed
err_as T U sink_error.OutOfMemory x =
    absurd (let f : IsErrOf {T = T} {E = SinkError} (Err sink_error.OutOfMemory) sink_error.Failed = x in cc)
err_as T U sink_error.Failed x = refl

pub same_err : (T U : Type 0) (e f : SinkError) → ◌≡◌ {A = Result T SinkError} (Err e) (Err f)
    → ◌≡◌ {A = Result U SinkError} (Err e) (Err f)
same_err T U e f h = let s : e ≡ f = cc in ap Err s

-- the second of two, said otherwise
pub or_else : (A B C : Type 0) → (B → C) → A ⊎ B → A ⊎ C
or_else A B C f (inl a) = inl a
or_else A B C f (inr b) = inr (f b)

-- a write that ends where the buffer can't be written out
pub unwritten : (a b : SinkTold) (piece buffer : List ℕ) (out : ℕ) (stopped : Bool) (e : SinkError)
    → WroteOut a b buffer out stopped (Err e) → WriteCall a b piece (Err e)
unwritten a b piece buffer out stopped sink_error.OutOfMemory w = record {
  count = tt;
  some = λ _. tt;
  took = tt;
  prefix = λ x. cc;
  memory = λ _. w.took;
  flushed = w.flushed;
  link = w.link;
  faults = w.faults;
  failed = λ x. cc;
  unfailed = tt;
  short = λ _. w.short refl;
}
unwritten a b piece buffer out stopped sink_error.Failed w = record {
  count = tt;
  some = λ _. tt;
  took = tt;
  prefix = λ _. record { count = 0; within = omega arith; took = w.took ∙ sym (with_nothing a.took) };
  memory = λ x. cc;
  flushed = w.flushed;
  link = w.link;
  faults = w.faults;
  failed = λ _. w.failed refl;
  unfailed = tt;
  short = λ x. cc;
}

-- a write after the buffer was written out
pub written_after : (a b c : SinkTold) (piece buffer : List ℕ) (out : ℕ) (stopped : Bool) (answer : Result ℕ SinkError)
    → WroteOut a b buffer out stopped (Ok tt) → WriteCall b c piece answer → WriteCall a c piece answer
written_after a b c piece buffer out stopped answer w h = record {
  count = h.count;
  some = h.some;
  took = rw (← w.took) h.took;
  prefix = rw (← w.took) h.prefix;
  memory = rw (← w.took) h.memory;
  flushed = h.flushed ∙ w.flushed;
  link = h.link ∙ w.link;
  faults = rw (← w.unfailed) h.faults;
  failed = rw (← w.unfailed) h.failed;
  unfailed = rw (← w.unfailed) h.unfailed;
  short = rw (← w.unfailed) h.short;
}

-- a sink that runs after the buffer was written out
pub still_runs : (A B : Type 0) (stopped : Bool) → stopped ≡ false → (stopped ≡ true) ⊎ B → A ⊎ B
still_runs A B stopped f (inl t) = absurd (let e : true ≡ false = sym t ∙ f in cc)
still_runs A B stopped f (inr b) = inr b

-- nothing is written out by a sink that stopped
pub out_stopped : (a : SinkTold) (buffer : List ℕ) (out : ℕ) (stopped : Bool)
    → WroteOut a a buffer out stopped (Err sink_error.OutOfMemory)
out_stopped a buffer out stopped = record {
  took = refl;
  flushed = refl;
  link = refl;
  faults = omega arith;
  failed = λ x. cc;
  unfailed = tt;
  short = λ _. refl;
  empty = tt;
  whole = tt;
}

-- a flush that ends where the buffer can't be written out
pub unwritten_flush : (a b : SinkTold) (buffer : List ℕ) (out : ℕ) (stopped : Bool) (e : SinkError)
    → WroteOut a b buffer out stopped (Err e) → FlushCall a b (Err e)
unwritten_flush a b buffer out stopped e w = record {
  took = w.took;
  flushed = tt;
  unflushed = w.flushed;
  link = w.link;
  faults = w.faults;
  failed = w.failed;
  unfailed = tt;
  short = w.short;
}
