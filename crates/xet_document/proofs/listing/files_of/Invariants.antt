use Rattle.std.proofs.Common.{◌≡◌, ◌++◌, map}
use Rattle.xet_document.proofs.listing.files_of.Given as goal

abbrev pub invariant-loop-file : goal.invariant-loop-file
invariant-loop-file l = record {
  can : (goal.iterator-loop-file).can_next l.file-iterator;
  ends : (goal.iterator-loop-file).is_finite l.file-iterator;
  left : map (λ e. e.1) l.fn.files.entries ≡ l.made ++ map (λ e. e.1) l.file-iterator;
}
