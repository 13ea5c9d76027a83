use Rattle.std.proofs.Common.{◌≡◌, false, rules}
use Rattle.std.specs.Prelude.{Some}
use Rattle.std.specs.BTreeMap.{Updates, get}
use Rattle.xet_base.specs.contracts.merklehash.MerkleHashOrd.TheImpl.{ghosts}
use Rattle.xet_shelves.specs.steps.HashPlaces.{is_at}
use Rattle.xet_shelves.proofs.HashNotes.{noted-new}
use Rattle.xet_shelves.proofs.put_hashes.note.Goals as goal

pub returns-clause-ok : goal.returns-clause-ok
returns-clause-ok c =
    let numbers = c.args.numbers.now in
    let hash = c.args.hash.now in
    let none : is_at c.args.hashes.now hash (get ghosts.cmp numbers hash) ≡ false = search rules in
    let updates : Updates ghosts.cmp numbers c.insert.new.self hash (Some c.args.number) = search rules in
    noted-new c.args.hashes.now hash c.args.number numbers c.insert.new.self none updates.0
