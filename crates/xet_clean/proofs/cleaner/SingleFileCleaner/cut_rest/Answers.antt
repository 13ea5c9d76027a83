use Rattle.std.proofs.Common.{refl, ◌≡◌}
use Rattle.std.specs.Prelude.{Err}
use Rattle.xet_upload.specs.declared.data_error.DataError.TheVariants as data_error
use Rattle.xet_base.proofs.CallerLemmas.{err-of}
use Rattle.xet_clean_parts.proofs.CallerLemmas.{some-still}
use Rattle.xet_clean.proofs.cleaner.SingleFileCleaner.cut_rest.Goals as goal

pub returns-in_err-cuts-clause-puts : goal.returns-in_err-cuts-clause-puts
returns-in_err-cuts-clause-puts g c =
    let e : c.from_residual.result ≡ Err data_error.OutOfMemory = err-of _ _ c.from_residual.ensures in
    rw e (some-still _ _ _ _ _ _ refl tt)
