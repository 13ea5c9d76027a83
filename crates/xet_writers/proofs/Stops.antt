-- Where a write failed, among the ready terms, and what a write of all of them leaves.
use Rattle.std.proofs.Common.{◌≡◌, inl, inr, ℕ, zero, suc, ◌+◌, ◌-◌, ◌<◌, ◌≤◌, List, [], ◌∷◌, ◌++◌, take, drop, length, get_or, Some, Ok, Err, Result, ap, ◌∙◌, refl, arith, length-append}
use Rattle.std.specs.Prelude.{IsErrOf}
use Rattle.std.specs.List.{concat}
use Rattle.std.proofs.Math.Seq.{take-length}
use Rattle.xet_outside.specs.declared.sink.SinkError.{SinkError}
use Rattle.xet_outside.specs.declared.sink.SinkError.TheVariants as sink_error
use Rattle.xet_outside.specs.Told.{SinkTold, Rose}
use Rattle.xet_error.specs.declared.error.FileReconstructionError.TheVariants as error
use Rattle.xet_error.specs.Errors.{of_sink_error}
use Rattle.xet_queue.specs.Calls.{SinkCause}
use Rattle.xet_queue.specs.Pieces.{StoppedAt, WrotePieces, bytes_before}
use Rattle.xet_queue.specs.Queues.{admissions, ready}
use Rattle.xet_queue.specs.Sequential.{most_pieces}
use Rattle.xet_queue.specs.Sequential.{PassedAll}
use Rattle.xet_writers.specs.Sequential.{Sequential, Wrote}

-- one place alone has these bytes before it and the next within the piece
same_stop : (ps : List (List ℕ)) (j k count : ℕ) → bytes_before j ps ≤ count → count < bytes_before j ps + length (get_or ps j []) → bytes_before k ps ≤ count → count < bytes_before k ps + length (get_or ps k []) → j ≡ k
same_stop [] zero k count a b c d = absurd (omega arith)
same_stop [] (suc j) k count a b c d = absurd (omega arith)
same_stop (p ∷ ps) zero zero count a b c d = refl
same_stop (p ∷ ps) zero (suc k) count a b c d = let l = length-append p (concat (take k ps)) in absurd (omega arith)
same_stop (p ∷ ps) (suc j) zero count a b c d = let l = length-append p (concat (take j ps)) in absurd (omega arith)
same_stop (p ∷ ps) (suc j) (suc k) count a b c d =
    let l = length-append p (concat (take j ps)) in
    let m = length-append p (concat (take k ps)) in
    ap suc (same_stop ps j k (count - length p) (omega arith) (omega arith) (omega arith) (omega arith))

-- a place whose bytes before it were taken is one of the pieces, where a piece stopped within its own
stop_within : (ps : List (List ℕ)) (j k count : ℕ) → bytes_before j ps ≤ count → count < bytes_before k ps + length (get_or ps k []) → j ≤ length ps → j < length ps
stop_within [] j zero count a b w = absurd (omega arith)
stop_within [] j (suc k) count a b w = absurd (omega arith)
stop_within (p ∷ ps) zero k count a b w = omega arith
stop_within (p ∷ ps) (suc j) zero count a b w = let l = length-append p (concat (take j ps)) in absurd (omega arith)
stop_within (p ∷ ps) (suc j) (suc k) count a b w =
    let l = length-append p (concat (take j ps)) in
    let m = length-append p (concat (take k ps)) in
    let r = stop_within ps j k (count - length p) (omega arith) (omega arith) (omega arith) in
    omega arith

as_error : (most : ℕ) (ps : List (List ℕ)) (k taken : ℕ) (e : SinkError) → StoppedAt most ps k taken (e ≡ sink_error.OutOfMemory) → StoppedAt most ps k taken (of_sink_error e ≡ error.OutOfMemory)
as_error most ps k taken sink_error.OutOfMemory s = record { next = s.next; memory = λ _. s.memory refl; handed = s.handed }
as_error most ps k taken sink_error.Failed s = record { next = s.next; memory = λ x. cc; handed = s.handed }

cause_of : (b n : ℕ) (e : SinkError) → (IsErrOf {T = Unit {0}} (Err e) sink_error.Failed → Rose b n)
    → (IsErrOf {T = Unit {0}} (Err e) sink_error.OutOfMemory → n ≡ b) → SinkCause b n (of_sink_error e)
cause_of b n sink_error.OutOfMemory h s = inl (refl, s refl)
cause_of b n sink_error.Failed h s = inr (refl, h refl)

-- the terms that the answered writes fill are those before the one in which a write failed
pub wrote_part : {S : Type 0} (told : S → SinkTold) (b : Sequential S) (s : S) (p n : Sequential S) (count : ℕ) (e : SinkError) → WrotePieces (most_pieces b) (told b.sink) (told s) (ready b.queue) count (Err e) → PassedAll (record b { sink = s }) p count → n ≡ record p { kept = Some (of_sink_error e) } → Wrote told b n (Err (of_sink_error e))
wrote_part told b s p n count e w a h =
    let t = w.part in
    let u = a.passed in
    let k : n.sink ≡ s = ap (λ v. v.sink) h ∙ a.sink in
    let used = a.used in
    let above = t.took.above in
    let l = stop_within (ready b.queue) a.terms t.whole count a.used t.inside u.within in
    let z = same_stop (ready b.queue) a.terms t.whole count a.used (a.stuck l) t.place t.inside in
    record {
      whole = tt;
      part = inr (record {
        terms = a.terms;
        passed = record {
          within = u.within;
          queue = ap (λ v. v.queue) h ∙ u.queue;
          released = ap (λ v. v.released) h ∙ u.released;
          delivered = ap (λ v. v.delivered) h ∙ u.delivered;
          expected = ap (λ v. v.expected) h ∙ u.expected;
          finished = ap (λ v. v.finished) h ∙ u.finished;
          vectored = ap (λ v. v.vectored) h ∙ u.vectored;
        };
        took = record { count = t.took.count; above = omega arith; within = t.took.within; took = rw k t.took.took };
        stopped = rw z (as_error (most_pieces b) (ready b.queue) t.whole t.took.count e t.stopped);
        kept = ap (λ v. v.kept) h;
        cause = rw k (cause_of (told b.sink).faults (told s).faults e w.failed w.short);
      });
      flushed = rw k w.flushed;
      link = rw k w.link;
      faults = rw k w.faults;
    }

pub wrote_all : {S : Type 0} (told : S → SinkTold) (b : Sequential S) (s : S) (p : Sequential S) (count : ℕ) → WrotePieces (most_pieces b) (told b.sink) (told s) (ready b.queue) count (Ok tt) → PassedAll (record b { sink = s }) p count → Wrote told b p (Ok count)
wrote_all told b s p count w a =
    let u = a.passed in
    let z = a.whole w.whole.0 in
    record {
      whole = record {
        passed = record {
          within = omega arith;
          queue = u.queue ∙ ap (λ (j : ℕ). drop j b.queue) z;
          released = u.released ∙ ap (λ (j : ℕ). b.released ++ admissions (take j b.queue)) z;
          delivered = u.delivered ∙ ap (λ (j : ℕ). b.delivered + bytes_before j (ready b.queue)) z;
          expected = u.expected;
          finished = u.finished;
          vectored = u.vectored;
        };
        count_is = w.whole.0;
        took = rw a.sink w.whole.1;
        kept = a.kept;
        unfailed = rw a.sink w.unfailed;
      };
      part = tt;
      flushed = rw a.sink w.flushed;
      link = rw a.sink w.link;
      faults = rw a.sink w.faults;
    }
