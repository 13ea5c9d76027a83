use Rattle.std.proofs.Common.{◌∙◌, None, Some, sym}
use Rattle.xet_base.specs.declared.mdb_shard.Xorb.{Xorb}
use Rattle.xet_store.specs.Refusals.{stored_term}
use Rattle.xet_audit.specs.Raws.{store_of_raw}
use Rattle.xet_findings.specs.Places.{places_of}
use Rattle.xet_audit.proofs.Located.{kept_at, located, xorb_at}
use Rattle.xet_audit.proofs.Tables.{no_xorb_of}
use Rattle.xet_audit.proofs.TermStates.{state_none, state_some}
use Rattle.xet_audit.proofs.xorb_table.XorbTable.state.Goals as goal

pub returns-in_default : goal.returns-in_default
returns-in_default c =
    let s = store_of_raw c.args.self.now.raw.now in
    let t = stored_term c.args.term.now in
    let f = c.args.self.now.firsts in
    sym (state_none s t (no_xorb_of s f.hashes f.places.items c.requires.indexed.table t.xorb (sym c.requires.known ∙ c.in_default.is)))

pub returns-in-Some-bytes_between : goal.returns-in-Some-bytes_between
returns-in-Some-bytes_between c =
    let s = store_of_raw c.args.self.now.raw.now in
    let t = stored_term c.args.term.now in
    let f = c.args.self.now.firsts in
    let n = c.in-Some.number in
    let place = c.index-place.result.now in
    let key = sym c.requires.known ∙ c.in-Some.is in
    let table = c.requires.indexed.table in
    let x = xorb_at s f.hashes f.places.items table t.xorb n place key c.index-place.ensures in
    let is = located s f.hashes f.places.items table t.xorb n place key c.index-place.ensures in
    let own = kept_at s f.hashes f.places.items table t.xorb n place key c.index-place.ensures (λ (y : Xorb). places_of y.chunks) c.args.self.now.places c.requires.indexed.sized
    c.index-as_slice-place.result (rw c.as_slice.ensures at c.index-as_slice-place.is) in
    sym (state_some s t x (Some c.in-Some-bytes_between.length) is (c.in-Some-bytes_between.ensures x.chunks (c.as_slice-places.ensures ∙ own)))

pub returns-in-None : goal.returns-in-None
returns-in-None c =
    let s = store_of_raw c.args.self.now.raw.now in
    let t = stored_term c.args.term.now in
    let f = c.args.self.now.firsts in
    let n = c.in-Some.number in
    let place = c.index-place.result.now in
    let key = sym c.requires.known ∙ c.in-Some.is in
    let table = c.requires.indexed.table in
    let x = xorb_at s f.hashes f.places.items table t.xorb n place key c.index-place.ensures in
    let is = located s f.hashes f.places.items table t.xorb n place key c.index-place.ensures in
    let own = kept_at s f.hashes f.places.items table t.xorb n place key c.index-place.ensures (λ (y : Xorb). places_of y.chunks) c.args.self.now.places c.requires.indexed.sized
    c.index-as_slice-place.result (rw c.as_slice.ensures at c.index-as_slice-place.is) in
    sym (state_some s t x None is (c.in-None.ensures x.chunks (c.as_slice-places.ensures ∙ own)))
