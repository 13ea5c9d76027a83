use Rattle.std.proofs.Common.{◌≡◌, ◌+◌, ℕ, List, length}
use Rattle.std.specs.Prelude.{Ok}
use Rattle.xet_upload_session.specs.Telling.{KeepsGroup, told_by}
use Rattle.xet_clean_parts.specs.FileCalls.{IsLate, IsXorbCall, TellsOf}
use Rattle.xet_clean_parts.specs.SessionCalls.{Calls}
use Rattle.xet_clean.specs.Showing.{cleaner_of}
use Rattle.xet_upload_files.specs.steps.Uploading.{Poured}
use Rattle.xet_upload_files.proofs.uploads.pour.Given as goal

abbrev pub invariant-pieces : goal.invariant-pieces
invariant-pieces g l = record {
  bytes : List ℕ;
  poured : Poured (told_by l.initial.session) (told_by l.session) (g.I.Source.told l.initial.source)
      (g.I.Source.told l.source) (cleaner_of g.T.Cutter.told l.initial.cleaner) (cleaner_of g.T.Cutter.told l.cleaner) bytes;
  count : l.left + length bytes ≡ l.total;
  tells : TellsOf {A = Unit {0}} IsXorbCall (IsLate l.initial.session.finalized) l.initial.session.files.tracker
      l.session.files.tracker (Ok tt);
  calls : Calls l.now (told_by l.initial.session) (told_by l.session);
  group : KeepsGroup l.initial.session l.session;
}

abbrev pub decreases-pieces : goal.decreases-pieces
decreases-pieces g l = l.left
