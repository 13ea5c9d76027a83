use Rattle.std.proofs.Common.{◌≡◌, ◌∙◌, rules, subst, sym, List}
use Rattle.std.proofs.lemmas.Fn.{dedup_same}
use Rattle.std.proofs.lemmas.List.Sorted.{answers_always}
use Rattle.xet_base.specs.declared.mdb_shard.Xorb.{Xorb}
use Rattle.xet_compact.specs.steps.Ascending.{AreXorbs, ClashesAt, NoneClashes}
use Rattle.xet_compact.proofs.AscendingLists.{clash_moved, merged_ascend, same_hash}
use Rattle.xet_compact.proofs.ascending.merged_xorbs.Goals as goal

pub returns-in-Some : goal.returns-in-Some
returns-in-Some c =
    let clash = subst (λ (xs : List Xorb). ClashesAt xs c.in-Some.hash) c.as_slice.ensures.value c.in-Some.ensures in
    record {
      merged = tt;
      cause = clash_moved c.args.xorbs.items c.sort_by_key.new.self.items c.in-Some.hash c.sort_by_key.ensures.permutation clash;
    }

pub returns : goal.returns
returns c =
    let keys = answers_always _ _ _ (λ f a r next called. search rules) in
    let sorted = c.in_ok-sort_by_key.ensures.sorted (λ (x : Xorb). x.hash) keys in
    let kept = dedup_same _ same_hash _ (λ x y b f' x' y' k. search rules) _ _ c.dedup_by_key.ensures.filtered in
    let none = subst NoneClashes c.as_slice.ensures.value c.in_default.ensures in
    record {
      merged = subst (λ (xs : List Xorb). AreXorbs c.args.xorbs.items xs) (sym (c.from_vec.ensures ∙ kept)) (merged_ascend
          c.args.xorbs.items c.sort_by_key.new.self.items c.sort_by_key.ensures.permutation sorted none);
      cause = tt;
    }
