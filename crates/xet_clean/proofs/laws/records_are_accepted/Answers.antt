use Rattle.xet_clean.proofs.Accepting.{accepted-reads, end-accepts}
use Rattle.xet_clean.proofs.laws.records_are_accepted.Goals as goal

pub returns : goal.returns
returns c = record {
  accepts = end-accepts;
  accepts_files = end-accepts;
  accepts_report = end-accepts;
  reads = accepted-reads;
}
