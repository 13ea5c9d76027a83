use Rattle.std.proofs.Common.{◌≡◌, map, take}
use Rattle.xet_session_end.proofs.ending.file_records.Given as goal

abbrev pub invariant-loop-file : goal.invariant-loop-file
invariant-loop-file l = l.infos ≡ map (λ p. p.info) (take l.file-index l.files)
