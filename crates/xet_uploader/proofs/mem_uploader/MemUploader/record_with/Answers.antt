use Rattle.std.proofs.Common.{◌≡◌, sym, rules}
use Rattle.std.specs.Prelude.{None, Some}
use Rattle.xet_uploader.specs.XorbRecords.{first_with}
use Rattle.xet_uploader.proofs.ChunkFinds.{query_hit, query_miss}
use Rattle.xet_uploader.proofs.mem_uploader.MemUploader.record_with.Goals as goal

pub returns-in-Some : goal.returns-in-Some
returns-in-Some c =
    let old = c.args.self.now in
    let found : first_with old.records c.args.chunk.now ≡ Some c.in-Some.place = search rules in
    rw (← query_hit old.log.items c.args.chunk.now old.records c.in-Some.place old.indexed found, ← c.as_slice.ensures) c.record_at.ensures

pub returns-in-None : goal.returns-in-None
returns-in-None c =
    let old = c.args.self.now in
    let none : first_with old.records c.args.chunk.now ≡ None = search rules in
    sym (query_miss old.log.items c.args.chunk.now old.records old.indexed none)
