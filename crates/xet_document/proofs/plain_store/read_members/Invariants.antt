use Rattle.std.proofs.Common.{length}
use Rattle.serde_json.specs.Data.{Members}
use Rattle.xet_document.specs.steps.Reads.{IsFound}
use Rattle.xet_document.proofs.Objects.{MembersSoFar}
use Rattle.xet_document.proofs.plain_store.read_members.Given as goal

abbrev pub invariant-members : goal.invariant-members
invariant-members l = (ms : Members) × MembersSoFar 126 l.initial.reader l.reader ms × IsFound ms l.found

abbrev pub decreases-members : goal.decreases-members
decreases-members l = length l.reader
