use Rattle.std.proofs.Common.{◌-◌, length}
use Rattle.xet_ties.specs.Saids.{some_of}
use Rattle.xet_stream_rules.specs.Streams.{IsOpen, delivered}
use Rattle.xet_unordered_streams.specs.steps.Pulling.{RecordedSo}
use Rattle.xet_unordered_streams.proofs.unordered_download_stream.UnorderedDownloadStream.record_early.Given as goal

-- so far given terms were recorded
abbrev pub invariant-early : goal.invariant-early
invariant-early g l = RecordedSo l.fn.self l.self × IsOpen l.self.stream

-- how many terms with bytes aren't
abbrev pub decreases-early : goal.decreases-early
decreases-early g l = length (some_of l.self.stream.events) - delivered l.self.stream.events
