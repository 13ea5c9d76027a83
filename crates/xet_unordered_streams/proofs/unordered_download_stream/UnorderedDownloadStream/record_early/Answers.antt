use Rattle.xet_unordered_streams.proofs.Going.{recorded_end, recorded_falls, recorded_more, recorded_none, recorded_open}
use Rattle.xet_unordered_streams.proofs.unordered_download_stream.UnorderedDownloadStream.record_early.Goals as goal

pub early-init : goal.early-init
early-init g c = (recorded_none c.args.self.now, c.requires)

pub record_one-requires : goal.record_one-requires
record_one-requires g c = c.early.invariant.1

pub early-preserved : goal.early-preserved
early-preserved g c = (
  recorded_more c.args.self.now c.early.self c.record_one.new.self c.early.invariant.0
      (rw c.in-Ok-true.field-0-test at c.in-Ok-true.ensures),
  recorded_open c.early.self c.record_one.new.self (rw c.in-Ok-true.field-0-test at c.in-Ok-true.ensures) c.early.invariant.1,
)

pub early-smaller : goal.early-smaller
early-smaller g c =
    recorded_falls c.early.self c.record_one.new.self (rw c.in-Ok-true.field-0-test at c.in-Ok-true.ensures)

pub returns-in-Ok-false : goal.returns-in-Ok-false
returns-in-Ok-false g c =
    let o = rw c.in-Ok-false.field-0-test at c.in-Ok-false.ensures in
    recorded_end c.args.self.now c.early.self c.record_one.new.self c.early.invariant.0 c.early.invariant.1 o.0 o.1

pub returns-in-Err : goal.returns-in-Err
returns-in-Err g c = record {
  middle = c.early.self;
  recorded = c.early.invariant.0;
  still = c.early.invariant.1;
  short = c.in-Err.ensures;
}
