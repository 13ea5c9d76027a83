use Rattle.std.proofs.Common.{◌≡◌, ◌∙◌, ◌<◌, ◌≤◌, ap, sym, subst, arith, List, ◌++◌, ◌∷◌, [], length, map, get_or, take}
use Rattle.std.proofs.lemmas.List.{get_or_default, map_more, take_all}
use Rattle.xet_base.specs.declared.mdb_shard.Xorb.{Xorb}
use Rattle.xet_base.specs.Store.{IsValidXorb}
use Rattle.xet_audit.specs.Raws.{store_of_raw}
use Rattle.xet_compact.specs.declared.kept_xorb.KeptXorb.{KeptXorb}
use Rattle.xet_compact.specs.steps.Kept.{kept_of}
use Rattle.xet_compact.proofs.KeptXorbs.{reached_keeps}
use Rattle.xet_compact.proofs.kept_store.keep_xorbs.Goals as goal

pub of-requires-clause-valid : goal.of-requires-clause-valid
of-requires-clause-valid c =
    let i = c.loop-i.i in
    let x = c.xorb-item.result in
    let items = c.as_slice-xorb-items.ensures in
    let here = subst (λ (xs : List Xorb). i < length xs) items c.loop-i-test.true in
    let at = c.xorb-item.is ∙ ap (λ (xs : List Xorb). get_or xs i x) items in
    subst IsValidXorb (sym at) (c.requires.valid.xorbs i x here)

pub of-requires-clause-long : goal.of-requires-clause-long
of-requires-clause-long c =
    let i = c.loop-i.i in
    let x = c.xorb-item.result in
    let items = c.as_slice-xorb-items.ensures in
    let here = subst (λ (xs : List Xorb). i < length xs) items c.loop-i-test.true in
    let at = c.xorb-item.is ∙ ap (λ (xs : List Xorb). get_or xs i x) items in
    let count = c.requires.reached.count in
    let rs = c.args.reaches.now in
    ap length (c.index-reaches-i.is ∙ get_or_default rs i c.index-reaches-i.result [] (omega (arith, count, here)))
    ∙ c.requires.reached.long i x here ∙ sym (ap (λ (y : Xorb). length y.chunks) at)

pub loop-i-preserved : goal.loop-i-preserved
loop-i-preserved c =
    let raw = c.args.raw.now in
    let s = store_of_raw raw in
    let i = c.loop-i.i in
    let x = c.xorb-item.result in
    let items = c.as_slice-xorb-items.ensures in
    let here = subst (λ (xs : List Xorb). i < length xs) items c.loop-i-test.true in
    let at = c.xorb-item.is ∙ ap (λ (xs : List Xorb). get_or xs i x) items in
    let count = c.requires.reached.count in
    let rs = c.args.reaches.now in
    let r = c.index-reaches-i.result in
    let one = c.in_ok-of.ensures ∙ reached_keeps s rs i x r c.requires.reached here at (c.index-reaches-i.is
    ∙ get_or_default rs i r [] (omega (arith, count, here))) in
    c.in_ok-push.ensures.ok
    ∙ ap (λ (l : List KeptXorb). l ++ c.in_ok-of.field-0 ∷ []) c.loop-i.invariant
    ∙ ap (λ (k : KeptXorb). map (kept_of s) (take i raw.xorbs) ++ k ∷ []) (one ∙ ap (kept_of s) at)
    ∙ sym (map_more (kept_of s) raw.xorbs i x here)

pub returns : goal.returns
returns c =
    let raw = c.args.raw.now in
    let past = subst (λ (xs : List Xorb). length xs ≤ c.loop-i.i) c.as_slice-xorb-items.ensures c.loop-i-test.false in
    c.loop-i.invariant ∙ ap (map (kept_of (store_of_raw raw))) (take_all c.loop-i.i raw.xorbs past)
