use Rattle.std.proofs.Common.{take, ◌≡◌}
use Rattle.xet_upload_parts.specs.CutNotes.{parts_of}
use Rattle.xet_upload_parts.proofs.file_tracker.parts_in.Given as goal

abbrev pub invariant-loop-file : goal.invariant-loop-file
invariant-loop-file l = l.parts ≡ parts_of l.xorb_hash (take l.file-index l.files)
