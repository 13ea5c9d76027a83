use Rattle.std.proofs.Common.{◌≡◌, ◌+◌, ◌*◌, List, false, length}
use Rattle.serde_json.specs.Data.{Data, Members, no_items}
use Rattle.serde_json.specs.Written.{items_have_float, members_have_float}
use Rattle.xet_document.proofs.Arrays.{ItemsSoFar, behind}
use Rattle.xet_document.proofs.Objects.{MembersSoFar}
use Rattle.xet_document.proofs.ignored.+pass.Given as goal

abbrev pub decreases-pass_value : goal.decreases-pass_value
decreases-pass_value l = 2 * l.depth

abbrev pub decreases-pass_items : goal.decreases-pass_items
decreases-pass_items l = 2 * l.depth + 1

abbrev pub decreases-pass_members : goal.decreases-pass_members
decreases-pass_members l = 2 * l.depth + 1

abbrev pub invariant-pass_items-items : goal.invariant-pass_items-items
invariant-pass_items-items l =
    (read : List Data) × ItemsSoFar l.depth l.initial.reader l.reader read × (items_have_float (behind read no_items) ≡ false)

abbrev pub decreases-pass_items-items : goal.decreases-pass_items-items
decreases-pass_items-items l = length l.reader

abbrev pub invariant-pass_members-members : goal.invariant-pass_members-members
invariant-pass_members-members l =
    (ms : Members) × MembersSoFar l.depth l.initial.reader l.reader ms × (members_have_float ms ≡ false)

abbrev pub decreases-pass_members-members : goal.decreases-pass_members-members
decreases-pass_members-members l = length l.reader
