use Rattle.std.proofs.Common.{rules, ◌≡◌, ◌∙◌, ap, sym, subst, Some, Ok, string_bytes}
use Rattle.serde_json.specs.Data.{Members, member}
use Rattle.serde_json.specs.View.{view, members_view}
use Rattle.xet_base.specs.Store.{Store, IsValid}
use Rattle.xet_document.specs.steps.AddedMembers.{with_xorbs_of}
use Rattle.xet_document.specs.Document.{xorb_of_member}
use Rattle.xet_document.proofs.DocumentMembers.{why_refused, xorbs_more, xorb_refused}
use Rattle.xet_document.proofs.StoreRefusals.{valid_after_xorb}
use Rattle.xet_document.proofs.value_store.add_xorbs.Goals as goal
use Rattle.xet_document.proofs.value_store.add_xorbs.Goals.{In-Some-2}

-- the member's xorb, and that the iterator is at this member
is : (c : In-Some-2) → xorb_of_member (string_bytes c.in-Some.key.now) (view c.in-Some.value.now) ≡ Some c.in-Some-2.xorb
is c = search rules

left : (c : In-Some-2) → with_xorbs_of c.args.store.now (members_view c.args.members.now.entries)
    ≡ with_xorbs_of c.loop-key.store (member (string_bytes c.in-Some.key.now) (view c.in-Some.value.now) (members_view c.next.new.self))
left c =
    let e : members_view c.loop-key.key-iterator ≡ member (string_bytes c.in-Some.key.now) (view c.in-Some.value.now) (members_view c.next.new.self) = search rules in
    c.loop-key.invariant.left ∙ ap (λ (ms : Members). with_xorbs_of c.loop-key.store ms) e

pub returns-then-not-branch : goal.returns-then-not-branch
returns-then-not-branch c =
    let here = (goal.at.returns-then-not-branch c).In-Some-2 in
    let not_added = rw c.if-not-branch.true at c.in_ok-was_added.ensures.added in
    let why = why_refused _ _ c.add_joined.ensures.refused not_added in
    xorb_refused c.args.store.now c.loop-key.store (members_view c.args.members.now.entries) (string_bytes c.in-Some.key.now) (view c.in-Some.value.now) (members_view c.next.new.self) c.in-Some-2.xorb
    (left here) (is here) why.0 why.1

pub loop-key-preserved : goal.loop-key-preserved
loop-key-preserved c =
    let here = (goal.at.loop-key-preserved c).In-Some-2 in
    let added : c.add_joined.result ≡ Ok tt = rw c.if-not-branch.false at c.in_ok-was_added.ensures.added in
    let now = rw added at c.add_joined.ensures.added in
    let accepted = rw added at c.add_joined.ensures.accepted in
    let more = xorbs_more c.args.store.now c.loop-key.store (members_view c.args.members.now.entries) (string_bytes c.in-Some.key.now) (view c.in-Some.value.now) (members_view c.next.new.self) c.in-Some-2.xorb (left here) (is here) in
    record {
      can = tt;
      ends = tt;
      left = more ∙ ap (λ (s : Store). with_xorbs_of s (members_view c.next.new.self)) (sym now);
      valid = subst IsValid (sym now) (valid_after_xorb c.loop-key.store c.in-Some-2.xorb c.loop-key.invariant.valid accepted);
    }
