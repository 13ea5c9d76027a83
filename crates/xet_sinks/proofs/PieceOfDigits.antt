-- What one piece of digits leaves.
use Rattle.std.proofs.Common.{◌≡◌, ℕ, ◌+◌, ◌*◌, ◌/◌, ◌%◌, ◌<◌, false, true, List, take, length, Ok, Err, refl, arith}
use Rattle.std.proofs.lemmas.List.{take_all}
use Rattle.hex.specs.Hex.{encode_lower, lower_digits}
use Rattle.hex.proofs.HexLemmas.{length-encode_with}
use Rattle.xet_outside.specs.declared.sink.SinkError.TheVariants as sink_error
use Rattle.xet_outside.specs.Told.{SinkTold, Took, WriteCall}
use Rattle.xet_sinks.specs.declared.pushing.Sent.TheVariants.{Whole, Memory, Fault}
use Rattle.xet_sinks.specs.HexText.{hex_told}
use Rattle.xet_sinks.specs.steps.HexPieces.{Stands, Filled}
use Rattle.xet_sinks.specs.steps.Pushed.{Pushed}
use Rattle.xet_sinks.proofs.DigitsOut.{took_digits, took_none, stands_even, stands_odd, stands_fault}

all_digits : (bs : List ℕ) → take (2 * length bs) (encode_lower bs) ≡ encode_lower bs
all_digits bs = let c = length-encode_with lower_digits bs in take_all (2 * length bs) (encode_lower bs) (omega arith)

pub sent_whole : (s k n m : SinkTold) (g f bs : List ℕ) → Stands s.took k.took n.took g 0 false → Filled f bs
    → Pushed n m (encode_lower bs) Whole → WriteCall (hex_told s k n g) (hex_told s n m f) bs (Ok (length bs))
    × Stands s.took n.took m.took f 0 false
sent_whole s k n m g f bs h w p =
    let e : Took n.took m.took (take (2 * length bs) (encode_lower bs)) = rw (all_digits bs) p.took in
    let t = took_digits s.took k.took n.took m.took g f bs (2 * length bs) h w.bytes (omega arith) w.front e in
    let c : (2 * length bs + 1) / 2 ≡ length bs = omega arith in (
      record {
        count = omega arith;
        some = λ l. l;
        took = rw c at t;
        prefix = λ x. cc;
        memory = λ x. cc;
        flushed = rw p.flushed refl;
        link = rw p.link refl;
        faults = p.faults;
        failed = λ x. cc;
        unfailed = p.unfailed;
        short = λ x. cc;
      },
      stands_even s.took k.took n.took m.took g f bs (2 * length bs) h w.bytes w.hex (omega arith) (omega arith) e,
    )

pub sent_none : (s k n m : SinkTold) (g f bs : List ℕ) → Stands s.took k.took n.took g 0 false → Filled f bs
    → Pushed n m (encode_lower bs) (Memory 0) → WriteCall (hex_told s k n g) (hex_told s n m f) bs
    (Err sink_error.OutOfMemory) × Stands s.took n.took m.took f 0 false
sent_none s k n m g f bs h w p =
    let t = took_digits s.took k.took n.took m.took g f bs 0 h w.bytes (omega arith) w.front p.took.1 in (
      record {
        count = tt;
        some = λ _. tt;
        took = tt;
        prefix = λ x. cc;
        memory = λ _. took_none _ _ t;
        flushed = rw p.flushed refl;
        link = rw p.link refl;
        faults = p.faults;
        failed = λ x. cc;
        unfailed = tt;
        short = λ _. p.unfailed;
      },
      stands_even s.took k.took n.took m.took g f bs 0 h w.bytes w.hex (omega arith) refl p.took.1,
    )

sent_some : (s k n m : SinkTold) (g f bs : List ℕ) (j : ℕ) → 0 < j → Stands s.took k.took n.took g 0 false
    → Filled f bs → Pushed n m (encode_lower bs) (Memory j)
    → WriteCall (hex_told s k n g) (hex_told s n m f) bs (Ok ((j + 1) / 2))
sent_some s k n m g f bs j z h w p =
    let c = length-encode_with lower_digits bs in
    let l = p.took.0 in
    record {
      count = omega arith;
      some = λ _. omega arith;
      took = took_digits s.took k.took n.took m.took g f bs j h w.bytes (omega arith) w.front p.took.1;
      prefix = λ x. cc;
      memory = λ x. cc;
      flushed = rw p.flushed refl;
      link = rw p.link refl;
      faults = p.faults;
      failed = λ x. cc;
      unfailed = p.unfailed;
      short = λ x. cc;
    }

pub sent_even : (s k n m : SinkTold) (g f bs : List ℕ) (j : ℕ) → 0 < j → j % 2 ≡ 0
    → Stands s.took k.took n.took g 0 false → Filled f bs → Pushed n m (encode_lower bs) (Memory j)
    → WriteCall (hex_told s k n g) (hex_told s n m f) bs (Ok ((j + 1) / 2)) × Stands s.took n.took m.took f 0 false
sent_even s k n m g f bs j z v h w p =
    let c = length-encode_with lower_digits bs in
    let l = p.took.0 in (
      sent_some s k n m g f bs j z h w p,
      stands_even s.took k.took n.took m.took g f bs j h w.bytes w.hex
          (omega arith) v p.took.1,
    )

pub sent_odd : (s k n m : SinkTold) (g f bs : List ℕ) (j : ℕ) → 0 < j → j % 2 ≡ 1
    → Stands s.took k.took n.took g 0 false → Filled f bs → Pushed n m (encode_lower bs) (Memory j)
    → WriteCall (hex_told s k n g) (hex_told s n m f) bs (Ok ((j + 1) / 2)) × Stands s.took n.took m.took f j false
sent_odd s k n m g f bs j z v h w p =
    let c = length-encode_with lower_digits bs in
    let l = p.took.0 in
    let r = w.room in (
      sent_some s k n m g f bs j z h w p,
      stands_odd s.took k.took n.took m.took g f bs j h w.bytes w.hex (omega arith)
          (omega arith) v p.took.1,
    )

pub sent_fault : (s k n m : SinkTold) (g f bs : List ℕ) (at : ℕ) → Stands s.took k.took n.took g 0 false → Filled f bs
    → Pushed n m (encode_lower bs) Fault → WriteCall (hex_told s k n g) (hex_told s n m f) bs (Err sink_error.Failed)
    × Stands s.took n.took m.took f at true
sent_fault s k n m g f bs at h w p =
    let c = length-encode_with lower_digits bs in
    let t = p.took in
    let i = t.within in (
      record {
        count = tt;
        some = λ _. tt;
        took = tt;
        prefix = λ _. record {
          count = (t.count + 1) / 2;
          within = omega arith;
          took = took_digits s.took k.took
              n.took m.took g f bs t.count h w.bytes (omega arith) w.front t.took;
        };
        memory = λ x. cc;
        flushed = rw p.flushed refl;
        link = rw p.link refl;
        faults = p.faults;
        failed = λ _. p.failed refl;
        unfailed = tt;
        short = λ x. cc;
      },
      stands_fault s.took k.took n.took m.took g f bs t.count at h w.bytes w.hex (omega arith) w.room t.took,
    )
