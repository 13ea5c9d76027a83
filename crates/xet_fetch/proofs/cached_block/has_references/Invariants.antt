use Rattle.std.proofs.Common.{◌≡◌, drop}
use Rattle.std.specs.List.{list_all}
use Rattle.xet_fetch.specs.CachedBlocks.{has_reference}
use Rattle.xet_fetch.proofs.cached_block.has_references.Given as goal

abbrev pub invariant-loop-reference : goal.invariant-loop-reference
invariant-loop-reference l =
    list_all (has_reference l.ranges l.entry) (drop l.reference-index l.reference-items) ≡ list_all (has_reference l.block.chunk_ranges l.entry) l.block.references
