use Rattle.std.proofs.Common.{◌≡◌, ◌<◌, ◌≤◌, append-nil, arith, get_or, length, map, sym, take, ◌∙◌}
use Rattle.xet_base.specs.declared.mdb_shard.Xorb.{Xorb}
use Rattle.xet_audit.specs.Findings.{is_later_xorb}
use Rattle.xet_audit.specs.Raws.{store_of_raw}
use Rattle.xet_audit.proofs.Lists.{at_all, at_more, found_all, one_more}
use Rattle.xet_audit.proofs.Tables.{any_earlier, hashed_all, hashed_count, hashed_more, no_table}
use Rattle.xet_audit.proofs.first_places.FirstPlaces.add_xorbs.Goals as goal

pub loop-a-init : goal.loop-a-init
loop-a-init c = record {
  table = no_table c.args.self.now.hashes c.args.self.now.places.items c.requires.hashes c.requires.places;
  found = sym (append-nil c.args.found.now.items);
}

pub loop-a-preserved : goal.loop-a-preserved
loop-a-preserved c =
    let l = c.loop-a in
    let s = store_of_raw c.args.raw.now in
    let xs = s.xorbs in
    let i = l.a in
    let within : i < length xs = rw c.as_slice-xorb-items.ensures at c.loop-a-test.true in
    let x = c.xorb-item.result in
    let is : x ≡ get_or xs i x = rw c.as_slice-xorb-items.ensures at c.xorb-item.is in
    let step = c.in_ok-later.ensures (map (λ x. x.hash) (take i xs)) l.invariant.table (hashed_count (λ (x : Xorb). x.hash) xs i (omega (arith, within))) in
    let later : c.in_ok-later.later ≡ is_later_xorb s i x = step.0 ∙ any_earlier (λ (x : Xorb). x.hash) (take i xs) x.hash in
    record {
      table = hashed_more (λ (x : Xorb). x.hash) xs i x _ _ within is step.1;
      found = one_more _ _ _ _ _ _ l.invariant.found (rw later at c.in_ok-add_if.ensures) (at_more 1 (is_later_xorb s) xs i x within is);
    }

pub returns : goal.returns
returns c =
    let l = c.loop-a in
    let s = store_of_raw c.args.raw.now in
    let past : length s.xorbs ≤ l.a = rw c.as_slice-xorb-items.ensures at c.loop-a-test.false in
    record {
      table = hashed_all (λ (x : Xorb). x.hash) s.xorbs l.a _ _ past l.invariant.table;
      found = found_all _ _ _ _ l.invariant.found (at_all 1 (is_later_xorb s) s.xorbs l.a past);
    }
