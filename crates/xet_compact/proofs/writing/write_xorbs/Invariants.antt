use Rattle.std.proofs.Common.{All, flat_map, take}
use Rattle.xet_compact.specs.Documents.{IsListableXorb}
use Rattle.xet_compact.specs.steps.Writes.{Adds, xorb_tokens}
use Rattle.xet_compact.proofs.writing.write_xorbs.Given as goal

abbrev pub invariant-loop-xorb : goal.invariant-loop-xorb
invariant-loop-xorb l = record {
  written : Adds l.initial.out l.out (flat_map xorb_tokens (take l.xorb-index l.xorbs));
  told : All IsListableXorb (take l.xorb-index l.xorbs);
}
