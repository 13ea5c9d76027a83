use Rattle.std.proofs.Common.{◌≡◌, ◌++◌, length, map}
use Rattle.std.specs.Prelude.{All}
use Rattle.std.specs.Vec.Iter.{into_iter_items, into_iter_len}
use Rattle.xet_document.specs.Listings.{stored_file}
use Rattle.xet_audit.specs.Raws.{file_of_raw}
use Rattle.xet_audit.specs.steps.Listed.{AreUncounted}
use Rattle.xet_audit.proofs.raw_text.raw_files.Given as goal

abbrev pub invariant-loop-file : goal.invariant-loop-file
invariant-loop-file l = record {
  left : map stored_file l.yielded ≡ map file_of_raw l.made;
  uncounted : AreUncounted l.made;
  taken : l.yielded ++ into_iter_items l.file-iterator ≡ into_iter_items l.initial.file-iterator;
  rest : All (λ f. All (λ t. t.bytes ≡ 0) f.terms) (into_iter_items l.file-iterator);
  len : into_iter_len l.file-iterator ≡ length (into_iter_items l.file-iterator);
}
