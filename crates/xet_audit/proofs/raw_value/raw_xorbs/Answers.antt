use Rattle.std.proofs.Common.{rules, ◌≡◌, ◌∙◌, ap, Some, string_bytes}
use Rattle.serde_json.specs.Data.{Members, member}
use Rattle.serde_json.specs.View.{members_view, view}
use Rattle.xet_audit.specs.Raws.{xorb_of_member, xorbs_of_members}
use Rattle.xet_audit.proofs.Members.{rest_more, with_first, with_rest}
use Rattle.xet_audit.proofs.raw_value.raw_xorbs.Goals as goal
use Rattle.xet_audit.proofs.raw_value.raw_xorbs.Goals.{In-Some}

-- the iterator is at this member
left : (c : In-Some) → xorbs_of_members (members_view c.args.members.now.entries)
    ≡ with_rest c.loop-key.xorbs (with_first (xorb_of_member (string_bytes c.in-Some.key.now) (view c.in-Some.value.now)) (xorbs_of_members (members_view c.next.new.self)))
left c =
    let e : members_view c.loop-key.key-iterator ≡ member (string_bytes c.in-Some.key.now) (view c.in-Some.value.now) (members_view c.next.new.self) = search rules in
    c.loop-key.invariant.left ∙ ap (λ (ms : Members). with_rest c.loop-key.xorbs (xorbs_of_members ms)) e

pub loop-key-preserved : goal.loop-key-preserved
loop-key-preserved c =
    let here = (goal.at.loop-key-preserved c).In-Some in
    let is : xorb_of_member (string_bytes c.in-Some.key.now) (view c.in-Some.value.now) ≡ Some c.in-Some-2.xorb = search rules in
    record {
      can = tt;
      ends = tt;
      left = rest_more _ c.loop-key.xorbs c.push.new.self _ _ c.in-Some-2.xorb (left here) is c.in_ok-push.ensures.ok;
    }
