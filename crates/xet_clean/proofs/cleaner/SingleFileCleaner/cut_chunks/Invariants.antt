use Rattle.std.proofs.Common.{◌≡◌, length}
use Rattle.std.specs.Prelude.{Ok}
use Rattle.xet_upload_session.specs.Telling.{KeepsGroup, told_by}
use Rattle.xet_clean.specs.Cleaners.{CutsChunks}
use Rattle.xet_clean_parts.specs.Cleanings.{Leaves}
use Rattle.xet_clean_parts.specs.FileCalls.{IsLate, IsPartOf, TellsOf}
use Rattle.xet_clean_parts.specs.Pending.{bytes_left}
use Rattle.xet_clean_parts.specs.SessionCalls.{Calls}
use Rattle.xet_clean.specs.Showing.{cleaner_of}
use Rattle.xet_clean.specs.steps.Cuts.{AreCuts}
use Rattle.xet_clean.proofs.cleaner.SingleFileCleaner.cut_chunks.Given as goal

abbrev pub invariant-chunks : goal.invariant-chunks
invariant-chunks g l = record {
  leaves : Leaves (told_by l.initial.session) (told_by l.session);
  cuts : CutsChunks l.last (told_by l.initial.session) (told_by l.session)
      (cleaner_of g.T.Cutter.told l.initial.self) (cleaner_of g.T.Cutter.told l.self);
  left : AreCuts (g.T.Cutter.told l.initial.self.cutter) l.last (bytes_left l.self.pending) l.cuts.items;
  failed : l.self.failed ≡ l.initial.self.failed;
  tells : TellsOf {A = Unit {0}} (IsPartOf l.initial.self.file_id) (IsLate l.initial.session.finalized)
      l.initial.session.files.tracker
      l.session.files.tracker (Ok tt);
  calls : Calls l.now (told_by l.initial.session) (told_by l.session);
  group : KeepsGroup l.initial.session l.session;
}

abbrev pub decreases-chunks : goal.decreases-chunks
decreases-chunks g l = length (bytes_left l.self.pending)
