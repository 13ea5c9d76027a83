use Rattle.std.proofs.Common.{rules, ◌≡◌, ◌∙◌, ap, sym, subst, Some, Ok, map, refl, string_bytes}
use Rattle.std.specs.Prelude.{option_and_then}
use Rattle.serde_json.specs.Data.{Members, member}
use Rattle.serde_json.specs.Find.{as_array}
use Rattle.serde_json.specs.View.{view, members_view}
use Rattle.xet_base.specs.HashText.{hash_of_text}
use Rattle.xet_base.specs.Store.{Store, IsValid}
use Rattle.xet_store.specs.Refusals.{stored_term}
use Rattle.xet_document.specs.steps.AddedMembers.{with_files_of}
use Rattle.xet_document.specs.Document.{file_of_member, terms_of_items}
use Rattle.xet_document.proofs.DocumentMembers.{why_refused, files_more, file_refused, file_is}
use Rattle.xet_document.proofs.StoreRefusals.{valid_after_file}
use Rattle.xet_document.proofs.value_store.add_files.Goals as goal
use Rattle.xet_document.proofs.value_store.add_files.Goals.{In-Some-2}

-- the member's file, and that the iterator is at this member
is : (c : In-Some-2) → file_of_member (string_bytes c.in-Some.key.now) (view c.in-Some.value.now) ≡ Some (record { hash = c.in-Ok.hash; terms = map stored_term c.in-Some-2.terms })
is c =
    let key = string_bytes c.in-Some.key.now in
    let value = view c.in-Some.value.now in
    let hash : hash_of_text key ≡ Some c.in-Ok.hash = search rules in
    let terms : Some (map stored_term c.in-Some-2.terms) ≡ option_and_then terms_of_items (as_array value) = search rules in
    file_is key value c.in-Ok.hash c.in-Some-2.terms hash terms

left : (c : In-Some-2) → with_files_of c.args.store.now (members_view c.args.members.now.entries)
    ≡ with_files_of c.loop-key.store (member (string_bytes c.in-Some.key.now) (view c.in-Some.value.now) (members_view c.next.new.self))
left c =
    let e : members_view c.loop-key.key-iterator ≡ member (string_bytes c.in-Some.key.now) (view c.in-Some.value.now) (members_view c.next.new.self) = search rules in
    c.loop-key.invariant.left ∙ ap (λ (ms : Members). with_files_of c.loop-key.store ms) e

pub returns-then-not-branch : goal.returns-then-not-branch
returns-then-not-branch c =
    let here = (goal.at.returns-then-not-branch c).In-Some-2 in
    let not_added = rw c.if-not-branch.true at c.in_ok-was_added.ensures.added in
    let why = why_refused _ _ c.add_file.ensures.refused not_added in
    file_refused c.args.store.now c.loop-key.store (members_view c.args.members.now.entries) (string_bytes c.in-Some.key.now) (view c.in-Some.value.now) (members_view c.next.new.self) _
    (left here) (is here) c.in-Some-2.terms refl why.0 why.1

pub loop-key-preserved : goal.loop-key-preserved
loop-key-preserved c =
    let here = (goal.at.loop-key-preserved c).In-Some-2 in
    let added : c.add_file.result ≡ Ok tt = rw c.if-not-branch.false at c.in_ok-was_added.ensures.added in
    let now = rw added at c.add_file.ensures.added in
    let accepted = rw added at c.add_file.ensures.accepted in
    let more = files_more c.args.store.now c.loop-key.store (members_view c.args.members.now.entries) (string_bytes c.in-Some.key.now) (view c.in-Some.value.now) (members_view c.next.new.self) _ (left here) (is here) in
    record {
      can = tt;
      ends = tt;
      left = more ∙ ap (λ (s : Store). with_files_of s (members_view c.next.new.self)) (sym now);
      valid = subst IsValid (sym now) (valid_after_file c.loop-key.store c.in-Ok.hash c.in-Some-2.terms c.loop-key.invariant.valid accepted);
    }
