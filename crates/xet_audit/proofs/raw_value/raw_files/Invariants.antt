use Rattle.std.proofs.Common.{◌≡◌, map}
use Rattle.serde_json.specs.View.{members_view}
use Rattle.xet_document.specs.Document.{files_of_members}
use Rattle.xet_audit.specs.Raws.{file_of_raw}
use Rattle.xet_audit.specs.steps.Listed.{AreUncounted}
use Rattle.xet_audit.proofs.Members.{with_rest}
use Rattle.xet_audit.proofs.raw_value.raw_files.Given as goal

abbrev pub invariant-loop-key : goal.invariant-loop-key
invariant-loop-key l = record {
  can : (goal.iterator-loop-key).can_next l.key-iterator;
  ends : (goal.iterator-loop-key).is_finite l.key-iterator;
  left : files_of_members (members_view l.members.entries) ≡ with_rest (map file_of_raw l.files) (files_of_members (members_view l.key-iterator));
  uncounted : AreUncounted l.files;
}
