use Rattle.std.proofs.Common.{rules, ◌≡◌, ◌∙◌, ◌++◌, ◌∷◌, [], ap, map, Some, string_bytes}
use Rattle.std.proofs.lemmas.List.{map_push}
use Rattle.std.proofs.lemmas.List.Elements.{All-push, All-same}
use Rattle.serde_json.specs.Data.{Members, member}
use Rattle.serde_json.specs.View.{members_view, view}
use Rattle.xet_document.specs.Document.{file_of_member, files_of_members}
use Rattle.xet_audit.specs.Raws.{file_of_raw}
use Rattle.xet_audit.specs.steps.Listed.{HasNoBytes}
use Rattle.xet_audit.proofs.Members.{rest_more, with_first, with_rest}
use Rattle.xet_audit.proofs.raw_value.raw_files.Goals as goal
use Rattle.xet_audit.proofs.raw_value.raw_files.Goals.{In-Some}

-- the iterator is at this member
left : (c : In-Some) → files_of_members (members_view c.args.members.now.entries)
    ≡ with_rest (map file_of_raw c.loop-key.files) (with_first (file_of_member (string_bytes c.in-Some.key.now) (view c.in-Some.value.now)) (files_of_members (members_view c.next.new.self)))
left c =
    let e : members_view c.loop-key.key-iterator ≡ member (string_bytes c.in-Some.key.now) (view c.in-Some.value.now) (members_view c.next.new.self) = search rules in
    c.loop-key.invariant.left ∙ ap (λ (ms : Members). with_rest (map file_of_raw c.loop-key.files) (files_of_members ms)) e

pub loop-key-preserved : goal.loop-key-preserved
loop-key-preserved c =
    let here = (goal.at.loop-key-preserved c).In-Some in
    let file = c.in-Some-2.file in
    let done = rw c.in-Some-2.is at c.in_ok-file.ensures in
    let listed = done.listed in
    let is : file_of_member (string_bytes c.in-Some.key.now) (view c.in-Some.value.now) ≡ Some (file_of_raw file) = search rules in
    let pushed : map file_of_raw c.push.new.self ≡ map file_of_raw c.loop-key.files ++ file_of_raw file ∷ [] = ap (map file_of_raw) c.in_ok-push.ensures.ok ∙ map_push file_of_raw c.loop-key.files file in
    record {
      can = tt;
      ends = tt;
      left = rest_more _ (map file_of_raw c.loop-key.files) (map file_of_raw c.push.new.self) _ _ (file_of_raw file) (left here) is pushed;
      uncounted = All-same HasNoBytes c.push.new.self (c.loop-key.files ++ file ∷ []) c.in_ok-push.ensures.ok (All-push HasNoBytes c.loop-key.files file c.loop-key.invariant.uncounted done.uncounted);
    }
