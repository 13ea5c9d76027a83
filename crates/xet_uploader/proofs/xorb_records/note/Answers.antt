use Rattle.std.proofs.Common.{◌≡◌, length, refl, rules}
use Rattle.std.specs.Prelude.{None, Some}
use Rattle.std.specs.BTreeMap.{Updates, get}
use Rattle.xet_base.specs.contracts.merklehash.MerkleHashOrd.TheImpl.{ghosts}
use Rattle.xet_uploader.specs.XorbRecords.{place_at}
use Rattle.xet_uploader.specs.steps.ChunkPlaces.{checked}
use Rattle.xet_uploader.proofs.NotedChunks.{noted-new}
use Rattle.xet_uploader.proofs.xorb_records.note.Goals as goal

pub returns-clause-ok : goal.returns-clause-ok
returns-clause-ok c =
    let places = c.args.places.now in
    let none : checked c.args.records.now c.args.hash.now (get ghosts.cmp places c.args.hash.now) ≡ None = search rules in
    let updates : Updates ghosts.cmp places c.insert.new.self c.args.hash.now (Some (place_at (length c.args.records.now) c.args.chunk)) = search rules in
    noted-new c.args.records.now c.args.hash.now (length c.args.records.now) c.args.chunk places c.insert.new.self refl none updates.0
