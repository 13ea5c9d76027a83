use Rattle.std.proofs.Common.{All, flat_map, take}
use Rattle.xet_audit.specs.Raws.{file_of_raw}
use Rattle.xet_compact.specs.Documents.{IsListableFile}
use Rattle.xet_compact.specs.steps.Writes.{Adds, file_tokens}
use Rattle.xet_compact.proofs.writing.write_files.Given as goal

abbrev pub invariant-loop-file : goal.invariant-loop-file
invariant-loop-file l = record {
  written : Adds l.initial.out l.out (flat_map (λ f. file_tokens (file_of_raw f)) (take l.file-index l.files));
  told : All (λ f. IsListableFile (file_of_raw f)) (take l.file-index l.files);
}
