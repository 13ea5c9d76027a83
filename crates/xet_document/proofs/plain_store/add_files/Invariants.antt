use Rattle.std.proofs.Common.{◌≡◌, map}
use Rattle.xet_base.specs.Store.{IsValid}
use Rattle.xet_document.specs.steps.AddedMembers.{with_files}
use Rattle.xet_document.specs.steps.Reads.{stored_file}
use Rattle.xet_document.proofs.plain_store.add_files.Given as goal

abbrev pub invariant-loop-file : goal.invariant-loop-file
invariant-loop-file l = record {
  can : (goal.iterator-loop-file).can_next l.file-iterator;
  ends : (goal.iterator-loop-file).is_finite l.file-iterator;
  left : with_files l.initial.store (map (λ e. stored_file e.1) l.fn.files.entries) ≡ with_files l.store (map (λ e. stored_file e.1) l.file-iterator);
  valid : IsValid l.store;
}
