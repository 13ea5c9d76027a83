use Rattle.std.proofs.Common.{◌≡◌, ◌∙◌, List, Some, ap, length, refl, sym}
use Rattle.std.specs.Prelude.{slice_get}
use Rattle.std.proofs.lemmas.Bool.{ltb-true}
use Rattle.std.proofs.lemmas.Option.{slice_get_read}
use Rattle.xet_base.specs.declared.mdb_shard.Xorb.{Xorb}
use Rattle.xet_store.proofs.Searches.{find_near}
use Rattle.xet_store.proofs.mem_store.MemStore.placed_near.Goals as goal

pub returns : goal.returns
returns c =
    let place = c.args.near in
    let x = c.in-Some.xorb.now in
    let read = c.as_slice.result.now in
    let at : slice_get c.self.inside.xorbs place ≡ Some x =
    ap (λ (l : List Xorb). slice_get l place) (sym c.as_slice.ensures)
    ∙ slice_get_read read (length read) place x refl (ltb-true place (length read) (sym c.in-Some.ensures.lookup.0))
    c.in-Some.ensures.lookup.1 in
    record {
      found = rw (← c.self.view_is)
          (sym (find_near c.self.inside.xorbs place x c.args.hash.now c.self.invariant.xorbs_differ at
          (sym c.has_hash.ensures ∙ c.if-has_hash.true)));
    }
