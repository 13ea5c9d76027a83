use Rattle.std.proofs.Common.{take}
use Rattle.xet_mirror.specs.steps.FileCalls.{Mirroring}
use Rattle.xet_mirror.proofs.mirror.mirror_listed.Given as goal

abbrev pub invariant-loop-place : goal.invariant-loop-place
invariant-loop-place g l =
    Mirroring l.verify (take l.place l.files) (g.H.Shelf.told l.fn.shelf) (g.H.Shelf.told l.shelf) (g.T.Uploader.told l.fn.target) (g.T.Uploader.told l.target) l.copied
