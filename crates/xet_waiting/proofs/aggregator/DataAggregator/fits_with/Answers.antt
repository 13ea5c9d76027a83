use Rattle.std.proofs.Common.{arith, refl}
use Rattle.std.proofs.lemmas.Bool.{false≢true}
use Rattle.xet_waiting.proofs.Rooms.{both-short, within-both}
use Rattle.xet_waiting.proofs.aggregator.DataAggregator.fits_with.Goals as goal

pub returns-then-num_bytes-gt-XORB_BYTES : goal.returns-then-num_bytes-gt-XORB_BYTES
returns-then-num_bytes-gt-XORB_BYTES c = (
  λ e. absurd (false≢true e),
  λ w. absurd (omega (arith, both-short c.args.self.now.chunks c.args.other.now.chunks w, c.num_bytes.ensures.bytes, c.num_bytes-2.ensures.bytes, c.if-num_bytes-gt-XORB_BYTES.true)),
)

pub returns : goal.returns
returns c = (
  λ e. within-both c.args.self.now.chunks c.args.other.now.chunks
      (omega (arith, c.num_chunks.ensures.chunks, c.num_chunks-2.ensures.chunks, c.if-num_chunks-gt-XORB_CHUNKS.false))
      (omega (arith, c.num_bytes.ensures.bytes, c.num_bytes-2.ensures.bytes, c.if-num_bytes-gt-XORB_BYTES.false)),
  λ w. refl,
)
