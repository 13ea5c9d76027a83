use Rattle.std.proofs.Common.{◌≡◌, ◌∙◌, ap, Err, Ok, Some, inl, inr, refl}
use Rattle.xet_base.proofs.CallerLemmas.{err-of}
use Rattle.xet_outside.specs.declared.block.BlockAnswer.TheVariants.{Bytes, Expired}
use Rattle.xet_outside.specs.declared.client.ClientError.{ClientError}
use Rattle.xet_error.specs.declared.error.FileReconstructionError.{FileReconstructionError}
use Rattle.xet_error.specs.Errors.{of_client_error}
use Rattle.xet_requests.proofs.fetched_block.ask.Goals as goal

pub returns-in_err-request : goal.returns-in_err-request
returns-in_err-request g c =
    let fault : FileReconstructionError = c.in_err-request.field-0.0 in
    let e : c.from_residual.result ≡ Err fault = err-of _ _ c.from_residual.ensures in
    rw e (inl (c.in_err-request.ensures.error, refl))

pub returns-in_err-bytes : goal.returns-in_err-bytes
returns-in_err-bytes g c =
    let fault : ClientError = c.in_err-bytes.field-0.0 in
    let asked : c.request.result ≡ Ok (Some c.in-Some.request) = c.in_ok-request.was ∙ ap Ok c.in-Some.is in
    let e : c.from_residual-in_err-bytes.result ≡ Err (of_client_error fault) = err-of _ _ c.from_residual-in_err-bytes.ensures in
    let request = rw asked at c.request.ensures in
    rw e (inr (inl (fault, record { request = c.in-Some.request; own = request.request; call = c.in_err-bytes.ensures }, refl)))

pub returns-in_err-found-in-Bytes : goal.returns-in_err-found-in-Bytes
returns-in_err-found-in-Bytes g c =
    let fault : FileReconstructionError = c.in_err-found-in-Bytes.field-0.0 in
    let asked : c.request.result ≡ Ok (Some c.in-Some.request) = c.in_ok-request.was ∙ ap Ok c.in-Some.is in
    let came : c.block.result ≡ Ok (Bytes c.in-Bytes.bytes) = c.in_ok-bytes.was ∙ ap Ok c.in-Bytes.is in
    let e : c.from_residual-in_err-found-in-Bytes.result ≡ Err fault = err-of _ _ c.from_residual-in_err-found-in-Bytes.ensures in
    let refused = rw c.in_err-found-in-Bytes.was at c.check.ensures in
    let request = rw asked at c.request.ensures in
    rw e (inr (inr (c.in-Bytes.bytes, record { request = c.in-Some.request; own = request.request; call = rw came at c.block.ensures }, refused.refused)))

pub returns-in-Bytes : goal.returns-in-Bytes
returns-in-Bytes g c =
    let asked : c.request.result ≡ Ok (Some c.in-Some.request) = c.in_ok-request.was ∙ ap Ok c.in-Some.is in
    let came : c.block.result ≡ Ok (Bytes c.in-Bytes.bytes) = c.in_ok-bytes.was ∙ ap Ok c.in-Bytes.is in
    let request = rw asked at c.request.ensures in
    let passed = c.in_ok-found-in-Bytes.ensures.passed in
    (record { request = c.in-Some.request; own = request.request; call = rw came at c.block.ensures }, passed.0, passed.1)

pub returns : goal.returns
returns g c =
    let asked : c.request.result ≡ Ok (Some c.in-Some.request) = c.in_ok-request.was ∙ ap Ok c.in-Some.is in
    let came : c.block.result ≡ Ok Expired = c.in_ok-bytes.was ∙ ap Ok c.in-Expired.is in
    let request = rw asked at c.request.ensures in
    record { request = c.in-Some.request; own = request.request; call = rw came at c.block.ensures }
