use Rattle.std.proofs.Common.{◌≡◌, ◌∙◌, ◌<◌, ◌≤◌, ap, arith, subst, List, length, get_or}
use Rattle.std.proofs.lemmas.List.{take_all}
use Rattle.xet_base.specs.declared.mdb_shard.Xorb.{Xorb}
use Rattle.xet_audit.specs.Raws.{store_of_raw}
use Rattle.xet_compact.specs.declared.kept_xorb.KeptXorb.{KeptXorb}
use Rattle.xet_compact.proofs.KeptXorbs.{dropped_more, dropped_of}
use Rattle.xet_compact.proofs.kept_store.KeptStore.dropped_chunks.Goals as goal

pub overflow_sub-count : goal.overflow_sub-count
overflow_sub-count c =
    let me = c.args.self.now in
    let i = c.loop-i.i in
    let x = c.xorb-item.result in
    let k = c.index-kept-i.result in
    let items = c.as_slice-xorb-items.ensures in
    let here = subst (λ (xs : List Xorb). i < length xs) items c.loop-i-test.true in
    let at = c.xorb-item.is ∙ ap (λ (xs : List Xorb). get_or xs i x) items in
    let at_k = c.index-kept-i.is ∙ ap (λ (l : List KeptXorb). get_or l i k) c.as_slice-kept.ensures in
    let more = dropped_more me.raw.now me.index me.kept i x k c.requires here at at_k in
    let less = more.0 in
    let long = ap (λ (y : KeptXorb). length y.chunks) c.index-kept-i.is in
    omega (arith, less, long)

pub loop-i-preserved : goal.loop-i-preserved
loop-i-preserved c =
    let me = c.args.self.now in
    let i = c.loop-i.i in
    let x = c.xorb-item.result in
    let k = c.index-kept-i.result in
    let items = c.as_slice-xorb-items.ensures in
    let here = subst (λ (xs : List Xorb). i < length xs) items c.loop-i-test.true in
    let at = c.xorb-item.is ∙ ap (λ (xs : List Xorb). get_or xs i x) items in
    let at_k = c.index-kept-i.is ∙ ap (λ (l : List KeptXorb). get_or l i k) c.as_slice-kept.ensures in
    let more = dropped_more me.raw.now me.index me.kept i x k c.requires here at at_k in
    let less = more.0 in
    let sum = more.1 in
    let old = c.loop-i.invariant.1 in
    let long = ap (λ (y : KeptXorb). length y.chunks) c.index-kept-i.is in
    (omega (arith, here), omega (arith, sum, old, less, long))

pub returns : goal.returns
returns c =
    let raw = c.args.self.now.raw.now in
    let past = subst (λ (xs : List Xorb). length xs ≤ c.loop-i.i) c.as_slice-xorb-items.ensures c.loop-i-test.false in
    c.loop-i.invariant.1 ∙ ap (λ (xs : List Xorb). dropped_of (store_of_raw raw) xs) (take_all c.loop-i.i raw.xorbs past)
