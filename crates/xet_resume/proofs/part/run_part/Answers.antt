use Rattle.std.proofs.Common.{◌≡◌, ℕ, refl, subst, sym}
use Rattle.xet_reconstruct.specs.Lent.{lent_of}
use Rattle.xet_resume.specs.steps.Filling.{RanPart}
use Rattle.xet_resume.proofs.PartRuns.{ran_part}
use Rattle.xet_resume.proofs.part.run_part.Goals as goal

pub returns : goal.returns
returns g c =
    let a = c.args in
    let n = c.run-answer.new in
    let b = lent_of g.C.Client.told g.K.ChunkCache.told g.X.CancelSignal.told g.F.Sink.told a.clients.now a.cache.now
    a.cancel.now a.file.now in
    let after = lent_of g.C.Client.told g.K.ChunkCache.told g.X.CancelSignal.told g.F.Sink.told n.clients n.cache n.cancel
    n.writer in
    subst (λ (k : ℕ). RanPart a.config.now a.file_hash a.part b after k c.run-answer.result) (sym c.written.ensures)
    (ran_part a.config.now a.file_hash a.part b after n.core _ c.run-answer.result refl refl c.requires.some c.requires.settings
    c.check_history.ensures c.run-answer.ensures)
