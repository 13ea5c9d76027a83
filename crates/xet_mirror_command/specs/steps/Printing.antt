-- What is printed of a run.
use Rattle.std.specs.Prelude.{ℕ, ◌⊎◌, List}
use Rattle.xet_outside.specs.Told.{SinkTold}
use Rattle.xet_mirror_parts.specs.declared.report.MirrorReport.{MirrorReport}
use Rattle.xet_room.specs.declared.status.Status.{Status}
use Rattle.xet_room.specs.Inputs.{MemoryPrinted}
use Rattle.xet_room.specs.Outcome.{Finished}
use Rattle.xet_mirror_command.specs.Mirror.{counts_text}

-- the text of a report
abbrev pub text_of_report : MirrorReport → List ℕ
text_of_report r = counts_text r.files_copied r.files_present r.xorbs_sent r.xorbs_present r.bytes_sent

-- this text was printed with its status, or `error memory`
abbrev pub OnePrinted : List ℕ → Status → SinkTold → SinkTold → Status → Type 0
OnePrinted whole end b n status = Finished whole end b n status ⊎ MemoryPrinted b n status
