-- What the missing digit leaves.
use Rattle.std.proofs.Common.{ℕ, ◌≡◌, ◌<◌, Bool, false, true, List, [], ◌∷◌, slice_index, take}
use Rattle.std.proofs.Common.{Ok, Err, Result, refl, sym, ◌∙◌, arith}
use Rattle.xet_outside.specs.declared.sink.SinkError.{SinkError}
use Rattle.xet_outside.specs.declared.sink.SinkError.TheVariants as sink_error
use Rattle.xet_outside.specs.Told.{SinkTold, Took, FlushCall, WriteCall}
use Rattle.xet_sinks.specs.declared.pushing.Sent.TheVariants.{Whole, Memory, Fault}
use Rattle.xet_sinks.specs.HexText.{hex_told}
use Rattle.xet_sinks.specs.steps.HexPieces.{Stands}
use Rattle.xet_sinks.specs.steps.Pushed.{Pushed}
use Rattle.xet_sinks.specs.steps.Settled.{Settled}
use Rattle.xet_sinks.proofs.Buffered.{with_nothing}
use Rattle.xet_sinks.proofs.DigitsOut.{stands_settled, stands_failed}

pub settled_ok : (s k n m : SinkTold) (g : List ℕ) (at : ℕ) → Stands s.took k.took n.took g at false → 0 < at
    → Pushed n m (slice_index g at ∷ []) Whole → Settled (hex_told s k n g) (hex_told s k m g) 0 false (Ok tt)
settled_ok s k n m g at h l p = record {
  took = (stands_settled s.took k.took n.took m.took g at h l p.took).1;
  flushed = rw p.flushed refl;
  link = rw p.link refl;
  faults = p.faults;
  failed = λ x. cc;
  unfailed = p.unfailed;
  short = λ x. cc;
  whole = (refl, refl);
}

pub settled_err : (s k n m : SinkTold) (g : List ℕ) (at : ℕ) → Stands s.took k.took n.took g at false → 0 < at
    → Pushed n m (slice_index g at ∷ []) Fault → Settled (hex_told s k n g) (hex_told s k m g) at true
    (Err sink_error.Failed)
settled_err s k n m g at h l p = record {
  took = (stands_failed s.took k.took n.took m.took g at h l p.took).1;
  flushed = rw p.flushed refl;
  link = rw p.link refl;
  faults = p.faults;
  failed = λ _. p.failed refl;
  unfailed = tt;
  short = λ x. cc;
  whole = tt;
}

-- memory ran out before it was out
pub settled_memory : (s k n m : SinkTold) (g : List ℕ) (x at count : ℕ) (stopped : Bool)
    → Pushed n m (x ∷ []) (Memory count) → Settled (hex_told s k n g) (hex_told s k m g) at stopped
    (Err sink_error.OutOfMemory)
settled_memory s k n m g x at count stopped p =
    let l = p.took.0 in
    let none : count ≡ 0 = omega (arith, l) in
    let nothing : Took n.took m.took (take 0 (x ∷ [])) = rw none at p.took.1 in
    let same : m.took ≡ n.took = nothing ∙ with_nothing n.took in
    record {
      took = rw same refl;
      flushed = rw p.flushed refl;
      link = rw p.link refl;
      faults = p.faults;
      failed = λ x. cc;
      unfailed = tt;
      short = λ _. p.unfailed;
      whole = tt;
    }

-- nothing is called: no digit is missing, or the sink stopped
pub settled_none : (a : SinkTold) (at : ℕ) (stopped : Bool) → at ≡ 0 → stopped ≡ false → Settled a a at stopped (Ok tt)
settled_none a at stopped e f = record {
  took = refl;
  flushed = refl;
  link = refl;
  faults = omega arith;
  failed = λ x. cc;
  unfailed = refl;
  short = λ x. cc;
  whole = (e, f);
}

pub settled_stopped : (a : SinkTold) (at : ℕ) (stopped : Bool) → Settled a a at stopped (Err sink_error.OutOfMemory)
settled_stopped a at stopped = record {
  took = refl;
  flushed = refl;
  link = refl;
  faults = omega arith;
  failed = λ x. cc;
  unfailed = tt;
  short = λ _. refl;
  whole = tt;
}

-- a write that ends where the missing digit can't be sent
pub unsettled : (a b : SinkTold) (piece : List ℕ) (at : ℕ) (stopped : Bool) (e : SinkError)
    → Settled a b at stopped (Err e) → WriteCall a b piece (Err e)
unsettled a b piece at stopped sink_error.OutOfMemory w = record {
  count = tt;
  some = λ _. tt;
  took = tt;
  prefix = λ x. cc;
  memory = λ _. w.took;
  flushed = w.flushed;
  link = w.link;
  faults = w.faults;
  failed = λ x. cc;
  unfailed = tt;
  short = λ _. w.short refl;
}
unsettled a b piece at stopped sink_error.Failed w = record {
  count = tt;
  some = λ _. tt;
  took = tt;
  prefix = λ _. record { count = 0; within = omega arith; took = w.took ∙ sym (with_nothing a.took) };
  memory = λ x. cc;
  flushed = w.flushed;
  link = w.link;
  faults = w.faults;
  failed = λ _. w.failed refl;
  unfailed = tt;
  short = λ x. cc;
}

-- a write after nothing is missing
pub after_settled : (a b c : SinkTold) (piece : List ℕ) (at : ℕ) (stopped : Bool) (answer : Result ℕ SinkError)
    → Settled a b at stopped (Ok tt) → WriteCall b c piece answer → WriteCall a c piece answer
after_settled a b c piece at stopped answer w h = record {
  count = h.count;
  some = h.some;
  took = rw (← w.took) h.took;
  prefix = rw (← w.took) h.prefix;
  memory = rw (← w.took) h.memory;
  flushed = h.flushed ∙ w.flushed;
  link = h.link ∙ w.link;
  faults = rw (← w.unfailed) h.faults;
  failed = rw (← w.unfailed) h.failed;
  unfailed = rw (← w.unfailed) h.unfailed;
  short = rw (← w.unfailed) h.short;
}

-- a flush that ends where the missing digit can't be sent
pub unsettled_flush : (a b : SinkTold) (at : ℕ) (stopped : Bool) (e : SinkError)
    → Settled a b at stopped (Err e) → FlushCall a b (Err e)
unsettled_flush a b at stopped e w = record {
  took = w.took;
  flushed = tt;
  unflushed = w.flushed;
  link = w.link;
  faults = w.faults;
  failed = w.failed;
  unfailed = tt;
  short = w.short;
}
