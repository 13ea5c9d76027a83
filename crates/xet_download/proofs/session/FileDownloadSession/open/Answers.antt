use Rattle.std.proofs.Common.{◌≡◌, Ok, Err, ap, rules}
use Rattle.xet_download.specs.Calls.{with_job}
use Rattle.xet_download.specs.Downloads.{finalizing}
use Rattle.xet_download.specs.Telling.{job_of, told_by}
use Rattle.xet_download.proofs.Calling.{is_open, late}
use Rattle.xet_download.proofs.Streaming.{opened, refused_open, reversed}
use Rattle.xet_download.proofs.session.FileDownloadSession.open.Goals as goal

pub returns-in_err-ended : goal.returns-in_err-ended
returns-in_err-ended g c =
    let b = told_by g.C.Client.told g.K.ChunkCache.told c.args.self.now in
    let e = c.in_err-ended.field-0.0 in
    let fin : finalizing b.finalized ≡ Err e = search rules in
    let was : c.from_residual.result ≡ Err e = search rules in
    refused_open b c.args.range c.args.info.now _ e (late b c.args.range c.args.info.now e fin)
    (ap (with_job (λ r. (r.0, job_of r.1))) was)

pub returns-in_err-range : goal.returns-in_err-range
returns-in_err-range g c =
    let b = told_by g.C.Client.told g.K.ChunkCache.told c.args.self.now in
    let e = c.in_err-range.field-0.0 in
    let fin : finalizing b.finalized ≡ Ok tt = search rules in
    let is : c.args.range ≡ Err e = search rules in
    let was : c.from_residual-in_err-range.result ≡ Err e = search rules in
    refused_open b c.args.range c.args.info.now _ e
    (reversed b c.args.range c.args.info.now e (is_open b tt fin) is)
    (ap (with_job (λ r. (r.0, job_of r.1))) was)

pub returns : goal.returns
returns g c =
    let b = told_by g.C.Client.told g.K.ChunkCache.told c.args.self.now in
    let fin : finalizing b.finalized ≡ Ok tt = search rules in
    let is : c.args.range ≡ Ok c.in_ok-range.range = search rules in
    opened b _ c.args.range c.in_ok-range.range c.args.info.now _ (is_open b tt fin) is c.begin.ensures
