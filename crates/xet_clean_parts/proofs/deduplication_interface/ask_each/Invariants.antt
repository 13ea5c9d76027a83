use Rattle.std.proofs.Common.{take, ◌≡◌}
use Rattle.std.specs.Prelude.{Ok}
use Rattle.xet_clean_parts.specs.Learnings.{Learns}
use Rattle.xet_upload_session.specs.Telling.{KeepsGroup, told_by}
use Rattle.xet_clean_parts.proofs.deduplication_interface.ask_each.Given as goal

abbrev pub invariant-loop-chunk : goal.invariant-loop-chunk
invariant-loop-chunk g l = Learns (told_by l.initial.session) (told_by l.session) (take l.chunk-index l.chunks) (Ok l.found) × (l.session.files.tracker ≡ l.initial.session.files.tracker) × KeepsGroup l.initial.session l.session
