use Rattle.xet_reconstruct.specs.Lent.{lent_of}
use Rattle.xet_resume.proofs.PartRuns.{part_ends, part_run, part_unplaced}
use Rattle.xet_resume.proofs.part.fill_part.Goals as goal

pub returns-in-Ok : goal.returns-in-Ok
returns-in-Ok g c =
    let a = c.args in
    let n = c.run_part-ran.new in
    let ran = c.run_part-ran.result in
    let r = c.run_part-ran.ensures in
    let b = lent_of g.C.Client.told g.K.ChunkCache.told g.X.CancelSignal.told g.F.Sink.told a.clients.now a.cache.now
    a.cancel.now a.file.now in
    let after = lent_of g.C.Client.told g.K.ChunkCache.told g.X.CancelSignal.told g.F.Sink.told n.clients n.cache n.cancel
    n.file in
    rw c.ended.ensures (part_ends a.config.now a.file_hash a.part b after ran.count ran.answer r.is
    (part_run a.config.now a.file_hash a.part b after (g.F.Sink.told c.set_place.new.file) ran.count ran.answer
    (rw c.in-Ok.is at c.set_place.ensures.seek) c.set_place.ensures.follows r))

pub returns-in-Err : goal.returns-in-Err
returns-in-Err g c =
    let a = c.args in
    let b = lent_of g.C.Client.told g.K.ChunkCache.told g.X.CancelSignal.told g.F.Sink.told a.clients.now a.cache.now
    a.cancel.now a.file.now in
    rw c.unplaced.ensures (part_unplaced a.config.now a.file_hash a.part b (g.F.Sink.told c.set_place.new.file) c.in-Err.error
    (rw c.in-Err.is at c.set_place.ensures.seek))
