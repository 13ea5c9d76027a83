use Rattle.std.proofs.Common.{◌≡◌, ◌∙◌, List, Some, ap, length, refl, sym}
use Rattle.std.specs.Prelude.{slice_get}
use Rattle.std.proofs.lemmas.Bool.{ltb-true}
use Rattle.std.proofs.lemmas.Option.{slice_get_read}
use Rattle.xet_base.specs.declared.merklehash.MerkleHash.{MerkleHash}
use Rattle.xet_store.proofs.Searches.{position_near}
use Rattle.xet_store.proofs.mem_fetch.number_near.Goals as goal

pub returns-clause-number : goal.returns-clause-number
returns-clause-number c =
    let near = c.args.near in
    let x = c.in-Some.found.now in
    let read = c.keys.result.now in
    let at : slice_get c.args.hashes.now near ≡ Some x =
    ap (λ (l : List MerkleHash). slice_get l near) (sym c.keys.ensures)
    ∙ slice_get_read read (length read) near x refl (ltb-true near (length read) (sym c.in-Some.ensures.lookup.0))
    c.in-Some.ensures.lookup.1 in
    sym (position_near c.args.hashes.now near x c.args.hash c.requires.apart at (sym c.is_same.ensures
    ∙ c.if-is_same.true))
