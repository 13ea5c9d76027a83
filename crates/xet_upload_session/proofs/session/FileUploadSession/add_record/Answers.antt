use Rattle.std.proofs.Common.{inl, inr, refl, ◌≡◌}
use Rattle.std.specs.Prelude.{Err}
use Rattle.xet_upload.specs.declared.data_error.DataError.TheVariants as data_error
use Rattle.xet_base.proofs.CallerLemmas.{err-of}
use Rattle.xet_upload_session.proofs.Cuts.{unadded}
use Rattle.xet_upload_session.proofs.Recording.{record-added, record-refused}
use Rattle.xet_upload_session.proofs.session.FileUploadSession.add_record.Goals as goal

pub returns-in_err-complete : goal.returns-in_err-complete
returns-in_err-complete g c =
    let e : c.from_residual.result ≡ Err data_error.OutOfMemory = err-of _ _ c.from_residual.ensures in
    rw e (record { call = unadded _ _ _; tracked = inr (refl, c.in_err-complete.ensures.err); group = (refl, refl) })

pub returns-in_err-add_xorb_block : goal.returns-in_err-add_xorb_block
returns-in_err-add_xorb_block g c =
    let e : c.from_residual-in_err-add_xorb_block.result ≡ Err c.in_err-add_xorb_block.field-0.0 =
    err-of _ _ c.from_residual-in_err-add_xorb_block.ensures in
    rw e (record {
      call = record { same = refl; recorded = record-refused _ _ _ _ _ (rw c.in_err-add_xorb_block.was at c.add_xorb_block.ensures) };
      tracked = inl c.in_ok-complete.ensures.ok;
      group = (refl, refl);
    })

pub returns : goal.returns
returns g c = record {
  call = record {
    same = refl;
    recorded = record-added _ _ _ _ _ _ _ (rw c.in_ok-add_xorb_block.was at c.add_xorb_block.ensures) c.add_uploaded_xorb_block.ensures;
  };
  tracked = inl c.in_ok-complete.ensures.ok;
  group = (refl, refl);
}
