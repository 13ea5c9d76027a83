use Rattle.std.proofs.Common.{◌≡◌, None, map, take}
use Rattle.xet_gaps.specs.Gaps.{missing_bytes, parts_of}
use Rattle.xet_reconstruct.specs.Lent.{lent_of}
use Rattle.xet_ties.specs.Causes.{refused_setting}
use Rattle.xet_ties.specs.Setup.{setup_of}
use Rattle.xet_resume.specs.steps.Filling.{AllDone}
use Rattle.xet_resume.proofs.filling.fill.Given as goal

-- the parts of the gaps before this one were read and counted
abbrev pub invariant-loop-gap : goal.invariant-loop-gap
invariant-loop-gap g l =
    AllDone l.config l.file_hash (parts_of (take l.gap-index l.gaps) l.range)
    (lent_of g.C.Client.told g.K.ChunkCache.told g.X.CancelSignal.told g.F.Sink.told l.fn.clients l.fn.cache l.fn.cancel
    l.fn.file)
    (lent_of g.C.Client.told g.K.ChunkCache.told g.X.CancelSignal.told g.F.Sink.told l.clients l.cache l.cancel l.file)
    × (l.count ≡ missing_bytes (parts_of (take l.gap-index l.gaps) l.range))
    × (refused_setting (setup_of l.file_hash l.range l.config) (map g.C.Client.told l.clients) ≡ None)
