use Rattle.std.proofs.Common.{◌≡◌, ◌∙◌, List, Some, ap, length, refl, sym}
use Rattle.std.specs.Prelude.{slice_get}
use Rattle.std.proofs.lemmas.Bool.{ltb-true}
use Rattle.std.proofs.lemmas.Option.{slice_get_read}
use Rattle.xet_base.specs.declared.merklehash.MerkleHash.{MerkleHash}
use Rattle.xet_audit.proofs.Tables.{position_near}
use Rattle.xet_audit.proofs.xorb_table.XorbTable.number_near.Goals as goal

pub returns : goal.returns
returns c =
    let keys = c.args.self.now.firsts.hashes in
    let near = c.args.near in
    let x = c.in-Some.found.now in
    let read = c.keys.result.now in
    let at : slice_get keys near ≡ Some x =
    ap (λ (l : List MerkleHash). slice_get l near) (sym c.keys.ensures)
    ∙ slice_get_read read (length read) near x refl (ltb-true near (length read) (sym c.in-Some.ensures.lookup.0))
    c.in-Some.ensures.lookup.1 in
    sym (position_near keys near x c.args.hash.now c.requires.table.apart at (sym c.is_same.ensures ∙ c.if-is_same.true))
