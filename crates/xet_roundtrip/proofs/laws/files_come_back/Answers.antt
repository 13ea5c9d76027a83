use Rattle.xet_roundtrip.proofs.ComeBack.{accepted_comes_back, after_end, comes_back}
use Rattle.xet_roundtrip.proofs.laws.files_come_back.Goals as goal

pub returns : goal.returns
returns c =
    let exact = c.downloads_are_exact.ensures in
    let uploads = c.accepted_files_download.ensures in
    record {
      given = comes_back exact.writer exact.file exact.job;
      accepted =
          accepted_comes_back exact.writer exact.file exact.job c.records_are_accepted.ensures.reads;
      uploaded = record {
        finalize = after_end exact.writer exact.file exact.job uploads.finalize;
        files = after_end exact.writer exact.file exact.job uploads.files;
        report = after_end exact.writer exact.file exact.job uploads.report;
      };
    }
