use Rattle.std.proofs.Common.{arith, refl}
use Rattle.std.proofs.lemmas.Bool.{false≢true}
use Rattle.xet_waiting.proofs.Rooms.{more-short, within-more}
use Rattle.xet_waiting.proofs.aggregator.DataAggregator.has_room.Goals as goal

pub returns-then-num_bytes-chunk-gt-XORB_BYTES : goal.returns-then-num_bytes-chunk-gt-XORB_BYTES
returns-then-num_bytes-chunk-gt-XORB_BYTES c = (
  λ e. absurd (false≢true e),
  λ w. absurd (omega (arith, more-short c.args.self.now.chunks c.args.chunk.now w, c.num_bytes.ensures.bytes, c.if-num_bytes-chunk-gt-XORB_BYTES.true)),
)

pub returns : goal.returns
returns c = (
  λ e. within-more c.args.self.now.chunks c.args.chunk.now
      (omega (arith, c.num_chunks.ensures.chunks, c.if-num_chunks-gt-XORB_CHUNKS.false))
      (omega (arith, c.num_bytes.ensures.bytes, c.if-num_bytes-chunk-gt-XORB_BYTES.false)),
  λ w. refl,
)
