use Rattle.std.proofs.Common.{arith, refl, ◌≡◌}
use Rattle.std.specs.Prelude.{Err}
use Rattle.xet_upload.specs.declared.data_error.DataError.TheVariants as data_error
use Rattle.xet_base.proofs.CallerLemmas.{err-of}
use Rattle.xet_upload_parts.proofs.CutNotes.{notes-empty, notes-none, notes-parts}
use Rattle.xet_upload_parts.proofs.file_tracker.FileTracker.register_cut.Goals as goal

pub returns-then-len-eq0 : goal.returns-then-len-eq0
returns-then-len-eq0 g c = record { notes = notes-empty _ _ _ _ _ (omega arith) refl; memory = tt }

pub returns-in_err-dependencies : goal.returns-in_err-dependencies
returns-in_err-dependencies g c =
    let e : c.from_residual.result ≡ Err data_error.OutOfMemory = err-of _ _ c.from_residual.ensures in
    rw e (record { notes = notes-none _ _ _ _ _ refl; memory = refl })

pub returns-in_err-note_xorb : goal.returns-in_err-note_xorb
returns-in_err-note_xorb g c =
    let e : c.from_residual-in_err-note_xorb.result ≡ Err c.in_err-note_xorb.field-0.0 =
    err-of _ _ c.from_residual-in_err-note_xorb.ensures in
    rw e (record { notes = notes-none _ _ _ _ _ c.in_err-note_xorb.ensures.err; memory = c.in_err-note_xorb.ensures.memory })

pub returns : goal.returns
returns g c = record {
  notes = notes-parts _ _ _ _ _ _ _ (omega arith) (rw c.as_slice.ensures c.in_ok-dependencies.ensures) c.num_bytes.ensures c.in_ok-note_xorb.ensures.ok c.note_parts.result c.note_parts.ensures.ok c.note_parts.ensures.err;
  memory = c.note_parts.ensures.memory;
}
