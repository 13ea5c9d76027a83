use Rattle.std.proofs.Common.{refl, ap, ◌≡◌}
use Rattle.std.specs.Prelude.{Err}
use Rattle.xet_upload.specs.declared.data_error.DataError.TheVariants as data_error
use Rattle.xet_clean.specs.Cleaners.{Cleaner}
use Rattle.xet_base.proofs.CallerLemmas.{err-of}
use Rattle.xet_clean.proofs.Taken.{taken-kept, taken-past, taken-short}
use Rattle.xet_clean.proofs.cleaner.SingleFileCleaner.take_in.Goals as goal

pub returns-in-Some : goal.returns-in-Some
returns-in-Some g c = taken-kept _ _ _ _ refl c.in-Some.is

pub returns-in-Some-past_total : goal.returns-in-Some-past_total
returns-in-Some-past_total g c =
    let past = c.in-Some-past_total.ensures.some in
    taken-past _ _ _ _ refl c.in_default.is past.0 past.1

pub push-requires : goal.push-requires
push-requires g c = c.past_total.ensures.fits c.in_default-past_total.is

pub returns-in_err-push : goal.returns-in_err-push
returns-in_err-push g c =
    let e : c.from_residual.result ≡ Err data_error.OutOfMemory = err-of _ _ c.from_residual.ensures in
    rw e (taken-short _ _ _ (ap (λ (z : Cleaner). z.failed) c.in_err-push.ensures.err) c.in_default.is
    (c.past_total.ensures.none c.in_default-past_total.is))

pub returns-in_err-cuts : goal.returns-in_err-cuts
returns-in_err-cuts g c =
    let e : c.from_residual-in_err-cuts.result ≡ Err data_error.OutOfMemory =
    err-of _ _ c.from_residual-in_err-cuts.ensures in
    rw e (taken-short _ _ _ (ap (λ (z : Cleaner). z.failed) c.in_ok-push.ensures.ok.same) c.in_default.is
    (c.past_total.ensures.none c.in_default-past_total.is))
