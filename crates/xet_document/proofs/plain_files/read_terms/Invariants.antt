use Rattle.std.proofs.Common.{◌≡◌, List, Some, length, map}
use Rattle.std.specs.Prelude.{All}
use Rattle.serde_json.specs.Data.{Data, no_items}
use Rattle.xet_store.specs.Refusals.{stored_term}
use Rattle.xet_document.specs.Document.{terms_of_items}
use Rattle.xet_document.proofs.Arrays.{ItemsSoFar, behind}
use Rattle.xet_document.proofs.plain_files.read_terms.Given as goal

abbrev pub invariant-terms : goal.invariant-terms
invariant-terms l =
    (read : List Data) × ItemsSoFar 124 l.initial.reader l.reader read × (terms_of_items (behind read no_items) ≡ Some (map stored_term l.terms))
    × All (λ t. t.bytes ≡ 0) l.terms

abbrev pub decreases-terms : goal.decreases-terms
decreases-terms l = length l.reader
