-- What the pieces leave together, and a flush.
use Rattle.std.proofs.Common.{◌≡◌, ◌≢◌, ℕ, ◌+◌, ◌*◌, ◌<◌, ◌≤◌, Bool, List, ◌++◌, take, drop, length, Option, Ok, Err}
use Rattle.std.proofs.Common.{Result, refl, ◌∙◌, arith, length-drop, length-append, replicate}
use Rattle.std.specs.Prelude.{OnOk}
use Rattle.std.proofs.lemmas.List.{take-take, length-take, take_at}
use Rattle.hex.specs.Hex.{IsBytes, encode_lower, lower_digits}
use Rattle.hex.proofs.HexLemmas.{length-encode_with}
use Rattle.xet_outside.specs.declared.sink.SinkError.{SinkError}
use Rattle.xet_outside.specs.declared.sink.SinkError.TheVariants as sink_error
use Rattle.xet_outside.specs.Told.{SinkTold, Took, TookPrefix, WriteCall, FlushCall}
use Rattle.xet_outside.proofs.CallerLemmas.{took_more, prefix_more}
use Rattle.xet_sinks.specs.HexText.{hex_told, HexText}
use Rattle.xet_sinks.specs.steps.HexPieces.{Stands, Filled}
use Rattle.xet_sinks.specs.steps.Settled.{Settled}
use Rattle.xet_sinks.proofs.Buffered.{with_nothing}
use Rattle.xet_sinks.proofs.HexDigits.{all_hex-append, all_hex-drop, all_hex-encode}
use Rattle.xet_sinks.proofs.DigitsOut.{count_taken, hex_text}

abbrev zeros : List ℕ
zeros = replicate 256 48

-- what is in the array
pub filled : (bs out rest : List ℕ) → IsBytes bs → length bs ≤ 128 → out ≡ encode_lower bs → rest ≡ zeros
    → Filled (out ++ drop (2 * length bs) rest) bs
filled bs out rest b l e r =
    let c = length-encode_with lower_digits bs in
    let d = length-drop (2 * length bs) (zeros) in
    let a = length-append (encode_lower bs) (drop (2 * length bs) (zeros)) in
    let q : length (zeros) ≡ 256 = refl in
    let n : length (encode_lower bs ++ drop (2 * length bs) (zeros)) ≡ 256 = omega arith in
    rw (e, r) (record {
      bytes = b;
      size = n;
      hex = all_hex-append (encode_lower bs) (drop (2 * length bs) (zeros)) (all_hex-encode bs b)
          (all_hex-drop (2 * length bs) (zeros) refl);
      room = omega arith;
      front = take_at (encode_lower bs) (drop (2 * length bs) (zeros)) (2 * length bs) (omega arith);
    })

-- one piece more
pub put_more : (a b c : Option (List ℕ)) (piece : List ℕ) (at n k : ℕ) → k ≤ length (take n (drop at piece))
    → Took a b (take at piece) → Took b c (take k (take n (drop at piece))) → Took a c (take (at + k) piece)
put_more a b c piece at n k l t u =
    let m = length-take n (drop at piece) in
    let e : take k (take n (drop at piece)) ≡ take k (drop at piece) = take-take k n (drop at piece) (omega arith) in
    took_more a b c piece at k t (rw e at u)

pub put_within : (piece : List ℕ) (at n k : ℕ) → at ≤ length piece → k ≤ length (take n (drop at piece))
    → at + k ≤ length piece
put_within piece at n k i l =
    let m = length-take n (drop at piece) in
    let d = length-drop at piece in
    omega arith

pub put_some : (piece : List ℕ) (at n : ℕ) → at < length piece → 0 < n → 0 < length (take n (drop at piece))
put_some piece at n i l =
    let m = length-take n (drop at piece) in
    let d = length-drop at piece in
    omega arith

-- the last piece, of which only a part was taken
pub put_part : (a b c : SinkTold) (piece : List ℕ) (at n k : ℕ) → at < length piece → 0 < n
    → Took a.took b.took (take at piece) → b.flushed ≡ a.flushed → b.link ≡ a.link → b.faults ≡ a.faults
    → WriteCall b c (take n (drop at piece)) (Ok k) → WriteCall a c piece (Ok (at + k))
put_part a b c piece at n k i z t f g l h = record {
  count = put_within piece at n k (omega arith) h.count;
  some = λ _. let s = h.some (put_some piece at n i z) in omega arith;
  took = put_more a.took b.took c.took piece at n k h.count t h.took;
  prefix = λ x. cc;
  memory = λ x. cc;
  flushed = h.flushed ∙ f;
  link = h.link ∙ g;
  faults = let m = h.faults in omega arith;
  failed = λ x. cc;
  unfailed = h.unfailed ∙ l;
  short = λ x. cc;
}

prefix_less : (b c : Option (List ℕ)) (xs : List ℕ) (n : ℕ) → TookPrefix b c (take n xs) → TookPrefix b c xs
prefix_less b c xs n p =
    let m = length-take n xs in
    let w = p.within in
    let e : take p.count (take n xs) ≡ take p.count xs = take-take p.count n xs (omega arith) in
    record { count = p.count; within = omega arith; took = rw e at p.took }

pub put_failed : (a b c : SinkTold) (piece : List ℕ) (at n : ℕ) → at < length piece
    → Took a.took b.took (take at piece) → b.flushed ≡ a.flushed → b.link ≡ a.link → b.faults ≡ a.faults
    → WriteCall b c (take n (drop at piece)) (Err sink_error.Failed) → WriteCall a c piece (Err sink_error.Failed)
put_failed a b c piece at n i t f g l h = record {
  count = tt;
  some = λ _. tt;
  took = tt;
  prefix = λ _. prefix_more a.took b.took c.took piece at (omega arith) t
      (prefix_less b.took c.took (drop at piece) n (h.prefix refl));
  memory = λ x. cc;
  flushed = h.flushed ∙ f;
  link = h.link ∙ g;
  faults = let m = h.faults in omega arith;
  failed = λ _. let r = h.failed refl in omega arith;
  unfailed = tt;
  short = λ x. cc;
}

-- memory ran out before the first byte
pub put_none : (a b c : SinkTold) (piece : List ℕ) (at n : ℕ) → at ≡ 0 → Took a.took b.took (take at piece)
    → b.flushed ≡ a.flushed → b.link ≡ a.link → b.faults ≡ a.faults
    → WriteCall b c (take n (drop at piece)) (Err sink_error.OutOfMemory)
    → WriteCall a c piece (Err sink_error.OutOfMemory)
put_none a b c piece at n z t f g l h =
    let nothing : Took a.took b.took (take 0 piece) = rw z at t in
    let same : b.took ≡ a.took = nothing ∙ with_nothing a.took in record {
      count = tt;
      some = λ _. tt;
      took = tt;
      prefix = λ x. cc;
      memory = λ _. h.memory refl ∙ same;
      flushed = h.flushed ∙ f;
      link = h.link ∙ g;
      faults = let m = h.faults in omega arith;
      failed = λ x. cc;
      unfailed = tt;
      short = λ _. h.short refl ∙ l;
    }

-- and after some bytes
pub put_short : (a b c : SinkTold) (piece : List ℕ) (at n : ℕ) → at ≤ length piece → at ≢ 0
    → Took a.took b.took (take at piece) → b.flushed ≡ a.flushed → b.link ≡ a.link → b.faults ≡ a.faults
    → WriteCall b c (take n (drop at piece)) (Err sink_error.OutOfMemory) → WriteCall a c piece (Ok at)
put_short a b c piece at n i z t f g l h = record {
  count = i;
  some = λ _. omega (arith, z);
  took = h.memory refl ∙ t;
  prefix = λ x. cc;
  memory = λ x. cc;
  flushed = h.flushed ∙ f;
  link = h.link ∙ g;
  faults = let m = h.faults in omega arith;
  failed = λ x. cc;
  unfailed = h.short refl ∙ l;
  short = λ x. cc;
}

-- all of it was taken
pub put_whole : (a b : SinkTold) (piece : List ℕ) (at : ℕ) → at ≤ length piece → length piece ≤ at
    → Took a.took b.took (take at piece) → b.flushed ≡ a.flushed → b.link ≡ a.link → b.faults ≡ a.faults
    → WriteCall a b piece (Ok at)
put_whole a b piece at i w t f g l = record {
  count = i;
  some = λ h. omega (arith, h, w);
  took = t;
  prefix = λ x. cc;
  memory = λ x. cc;
  flushed = f;
  link = g;
  faults = omega (arith, l);
  failed = λ x. cc;
  unfailed = l;
  short = λ x. cc;
}

-- a flush, with nothing missing
pub flush_call : (a s k n m : SinkTold) (g : List ℕ) (at : ℕ) (stopped : Bool) (answer : Result (Unit {0}) SinkError)
    → Settled a (hex_told s k n g) at stopped (Ok tt) → Stands s.took k.took n.took g at stopped
    → FlushCall n m answer → FlushCall a (hex_told s k m g) answer
flush_call a s k n m g at stopped (Ok u) w h f =
    let l = f.faults in
    let v = w.faults in
    let z = f.flushed in record {
      took = rw f.took w.took;
      flushed = rw z (rw f.took (count_taken s.took k.took n.took g (rw (w.whole.0, w.whole.1) at h)));
      unflushed = tt;
      link = rw f.link w.link;
      faults = omega arith;
      failed = λ x. cc;
      unfailed = f.unfailed ∙ w.unfailed;
      short = λ x. cc;
    }
flush_call a s k n m g at stopped (Err sink_error.OutOfMemory) w h f =
    let l = f.faults in
    let v = w.faults in record {
      took = rw f.took w.took;
      flushed = tt;
      unflushed = rw f.unflushed w.flushed;
      link = rw f.link w.link;
      faults = omega arith;
      failed = λ x. cc;
      unfailed = tt;
      short = λ _. f.short refl ∙ w.unfailed;
    }
flush_call a s k n m g at stopped (Err sink_error.Failed) w h f =
    let l = f.faults in
    let v = w.faults in record {
      took = rw f.took w.took;
      flushed = tt;
      unflushed = rw f.unflushed w.flushed;
      link = rw f.link w.link;
      faults = omega arith;
      failed = λ x. let r = f.failed refl in omega arith;
      unfailed = tt;
      short = λ x. cc;
    }

pub flush_text : (a s k n m : SinkTold) (g : List ℕ) (at : ℕ) (stopped : Bool) (answer : Result (Unit {0}) SinkError)
    → Settled a (hex_told s k n g) at stopped (Ok tt) → Stands s.took k.took n.took g at stopped
    → FlushCall n m answer → OnOk answer (HexText s.took m.took (hex_told s k m g).took)
flush_text a s k n m g at stopped (Ok u) w h f = rw f.took
    (hex_text s.took k.took n.took g (rw (w.whole.0, w.whole.1) at h))
flush_text a s k n m g at stopped (Err e) w h f = tt
