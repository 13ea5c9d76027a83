use Rattle.std.proofs.Common.{arith}
use Rattle.xet_store.proofs.JoinedChunks.{place-le}
use Rattle.xet_store.proofs.mem_cut.offset_in.Goals as goal

pub place-requires-2 : goal.place-requires-2
place-requires-2 c = omega (arith, c.requires.some, c.requires.inside)

pub overflow_sub-place : goal.overflow_sub-place
overflow_sub-place c = omega (
  arith,
  place-le c.args.xorb.now.chunks c.args.term.now.from c.args.chunk c.requires.some,
)
