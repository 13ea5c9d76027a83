use Rattle.std.proofs.Common.{◌≡◌}
use Rattle.serde_json.specs.View.{members_view}
use Rattle.xet_audit.specs.Raws.{xorbs_of_members}
use Rattle.xet_audit.proofs.Members.{with_rest}
use Rattle.xet_audit.proofs.raw_value.raw_xorbs.Given as goal

abbrev pub invariant-loop-key : goal.invariant-loop-key
invariant-loop-key l = record {
  can : (goal.iterator-loop-key).can_next l.key-iterator;
  ends : (goal.iterator-loop-key).is_finite l.key-iterator;
  left : xorbs_of_members (members_view l.members.entries) ≡ with_rest l.xorbs (xorbs_of_members (members_view l.key-iterator));
}
