use Rattle.std.proofs.Common.{◌≡◌, ◌≤◌, All, drop, length}
use Rattle.serde_json.specs.View.{members_view}
use Rattle.xet_compact.specs.Documents.{IsListableXorb, xorb_members}
use Rattle.xet_compact.proofs.documents.xorbs_value.Given as goal

abbrev pub invariant-loop-i : goal.invariant-loop-i
invariant-loop-i l = record {
  put : members_view l.members.entries ≡ xorb_members (drop l.i l.xorbs);
  told : All IsListableXorb (drop l.i l.xorbs);
}
