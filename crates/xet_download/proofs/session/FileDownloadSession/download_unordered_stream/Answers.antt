use Rattle.std.proofs.Common.{◌≡◌, Err, rules}
use Rattle.xet_upload.specs.declared.data_error.DataError.TheVariants as data_error
use Rattle.xet_stream_rules.specs.Unordered.{new_unordered}
use Rattle.xet_download.specs.Calls.{job_setup}
use Rattle.xet_download.specs.Telling.{job_of, told_by}
use Rattle.xet_download.specs.Streams.{forward_of}
use Rattle.xet_download.proofs.Streaming.{enlisted, no_stream, unbegun_stream}
use Rattle.xet_download.proofs.session.FileDownloadSession.download_unordered_stream.Goals as goal

pub returns-in_err-id : goal.returns-in_err-id
returns-in_err-id g c =
    let b = told_by g.C.Client.told g.K.ChunkCache.told c.args.self.now in
    let was : c.from_residual.result ≡ Err c.in_err-id.field-0.0 = search rules in
    unbegun_stream new_unordered b c.args.file_info.now (forward_of c.args.source_range) _ _ c.in_err-id.field-0.0
    (rw (c.forward-range.ensures, c.in_err-id.was) at c.open.ensures) was

pub returns-in_err-stream : goal.returns-in_err-stream
returns-in_err-stream g c =
    let b = told_by g.C.Client.told g.K.ChunkCache.told c.args.self.now in
    let was : c.from_residual-in_err-stream.result ≡ Err data_error.OutOfMemory = search rules in
    no_stream new_unordered b c.args.file_info.now (forward_of c.args.source_range) _ _ (c.in_ok-id.id, job_of c.in_ok-id.job)
    (rw (c.forward-range.ensures, c.in_ok-id.was) at c.open.ensures) was

pub returns : goal.returns
returns g c =
    let told = told_by g.C.Client.told g.K.ChunkCache.told in
    let job = job_of c.in_ok-id.job in
    let made : c.in_ok-stream.stream ≡ new_unordered (job_setup job) job.limits = search rules in
    enlisted new_unordered (told c.args.self.now) c.args.file_info.now (forward_of c.args.source_range) _ (told c.open.new.self) (c.in_ok-id.id, job)
    (rw (c.forward-range.ensures, c.in_ok-id.was) at c.open.ensures) _ c.in_ok-stream.stream made c.registered.ensures.ok
    c.registered.ensures.memory c.registered.ensures.err
