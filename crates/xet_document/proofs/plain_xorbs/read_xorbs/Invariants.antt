use Rattle.std.proofs.Common.{length}
use Rattle.serde_json.specs.Data.{Members}
use Rattle.xet_document.specs.steps.Reads.{Lists, ListsXorb}
use Rattle.xet_document.proofs.Objects.{MembersSoFar}
use Rattle.xet_document.proofs.plain_xorbs.read_xorbs.Given as goal

abbrev pub invariant-members : goal.invariant-members
invariant-members l =
    (ms : Members) × MembersSoFar 125 l.initial.reader l.reader ms × Lists (λ k. k.text.now) (ListsXorb l.joined) ms l.places.entries

abbrev pub decreases-members : goal.decreases-members
decreases-members l = length l.reader
