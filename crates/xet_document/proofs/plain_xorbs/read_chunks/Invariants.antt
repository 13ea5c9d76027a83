use Rattle.std.proofs.Common.{◌≡◌, ℕ, List, Some, length}
use Rattle.serde_json.specs.Data.{Data, no_items}
use Rattle.xet_document.specs.Document.{chunks_of_items}
use Rattle.xet_document.specs.steps.Placed.{AddsChunks}
use Rattle.xet_document.proofs.Arrays.{ItemsSoFar, behind}
use Rattle.xet_document.proofs.plain_xorbs.read_chunks.Given as goal

abbrev pub invariant-chunks : goal.invariant-chunks
invariant-chunks l =
    (read : List Data) × (chunks : List (List ℕ)) × ItemsSoFar 124 l.initial.reader l.reader read
    × (chunks_of_items (behind read no_items) ≡ Some chunks) × AddsChunks l.initial.joined l.joined chunks

abbrev pub decreases-chunks : goal.decreases-chunks
decreases-chunks l = length l.reader
