use Rattle.std.proofs.Common.{◌≡◌, ◌∙◌, ◌+◌, ap, sym, subst, List, ◌++◌, ◌∷◌, [], All, flat_map, take}
use Rattle.std.proofs.lemmas.List.{take_all, take_more}
use Rattle.std.proofs.lemmas.List.Elements.{All-nil, All-push}
use Rattle.xet_base.specs.declared.mdb_shard.Xorb.{Xorb}
use Rattle.xet_compact.specs.Documents.{IsListableXorb}
use Rattle.xet_compact.specs.steps.Writes.{Adds, xorb_tokens}
use Rattle.xet_compact.proofs.Writes.{adds_next, adds_none}
use Rattle.xet_compact.proofs.writing.write_xorbs.Goals as goal

pub loop-xorb-init : goal.loop-xorb-init
loop-xorb-init c = record { written = adds_none c.args.out.now; told = All-nil IsListableXorb }

pub loop-xorb-preserved : goal.loop-xorb-preserved
loop-xorb-preserved c =
    let xs = c.args.xorbs.now in
    let i = c.loop-xorb.xorb-index in
    let x = c.xorb-item.result in
    let w = c.loop-xorb.invariant in
    let more = take_more xs i x c.loop-xorb-test.true ∙ ap (λ (y : Xorb). take i xs ++ y ∷ []) (sym c.xorb-item.is) in
    record {
      written = adds_next xorb_tokens xs i x c.loop-xorb-test.true c.xorb-item.is w.written c.in_ok-write_xorb.ensures.written;
      told = subst (λ (l : List Xorb). All IsListableXorb l) (sym more) (All-push IsListableXorb (take i xs) x w.told
          c.in_ok-write_xorb.ensures.told);
    }

pub returns : goal.returns
returns c =
    let w = c.loop-xorb.invariant in
    let all = take_all c.loop-xorb.xorb-index c.args.xorbs.now c.loop-xorb-test.false in
    record {
      written = subst (λ (l : List Xorb). Adds c.args.out.now c.loop-xorb.out (flat_map xorb_tokens l)) all w.written;
      told = subst (λ (l : List Xorb). All IsListableXorb l) all w.told;
    }
