-- Writes of a file in memory, by what became of the taken bytes.
use Rattle.std.proofs.Common.{◌≡◌, ℕ, List, ◌++◌, length, Some, Err, Ok, refl, sym, ap, arith}
use Rattle.std.proofs.Math.Seq.{take-length}
use Rattle.xet_outside.specs.declared.sink.SinkError.TheVariants as sink_error
use Rattle.xet_outside.specs.Told.{WriteCall}
use Rattle.xet_sinks.specs.MemFiles.{mem_told}
use Rattle.xet_sinks.proofs.WriteCalls.{refused}

-- they stayed
pub mem_refused : (took then : List ℕ) (flushed : ℕ) (content : List ℕ) (place taken : ℕ) (piece : List ℕ)
    → then ≡ took → WriteCall (mem_told took flushed content place taken) (mem_told then flushed content place taken)
    piece (Err sink_error.OutOfMemory)
mem_refused took then flushed content place taken piece e = rw e (refused _ _)

-- they grew by the piece
pub mem_took : (took then : List ℕ) (flushed : ℕ) (content : List ℕ) (place taken : ℕ) (piece : List ℕ)
    → then ≡ took ++ piece → WriteCall (mem_told took flushed content place taken)
    (mem_told then flushed content place taken) piece (Ok (length piece))
mem_took took then flushed content place taken piece e = rw e (record {
  count = omega arith;
  some = λ h. h;
  took = ap (λ (xs : List ℕ). Some (took ++ xs)) (sym (take-length piece));
  prefix = λ x. cc;
  memory = λ x. cc;
  flushed = refl;
  link = refl;
  faults = omega arith;
  failed = λ x. cc;
  unfailed = refl;
  short = λ x. cc;
})
