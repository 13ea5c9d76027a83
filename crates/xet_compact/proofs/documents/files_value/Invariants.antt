use Rattle.std.proofs.Common.{◌≡◌, ◌≤◌, All, drop, length, map}
use Rattle.serde_json.specs.View.{members_view}
use Rattle.xet_audit.specs.Raws.{file_of_raw}
use Rattle.xet_compact.specs.Documents.{IsListableFile, file_members}
use Rattle.xet_compact.proofs.documents.files_value.Given as goal

abbrev pub invariant-loop-i : goal.invariant-loop-i
invariant-loop-i l = record {
  put : members_view l.members.entries ≡ file_members (map file_of_raw (drop l.i l.files));
  told : All IsListableFile (map file_of_raw (drop l.i l.files));
}
