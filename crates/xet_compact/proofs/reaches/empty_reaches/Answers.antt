use Rattle.std.proofs.Common.{◌≡◌, ◌∙◌, ap, sym, subst, List, ℕ, [], length, map, replicate}
use Rattle.std.proofs.lemmas.List.{take_all}
use Rattle.xet_base.specs.declared.mdb_shard.Xorb.{Xorb}
use Rattle.xet_compact.specs.steps.Reaches.{AreReached}
use Rattle.xet_compact.proofs.Reached.{reached_none}
use Rattle.xet_compact.proofs.reaches.empty_reaches.Goals as goal

pub returns : goal.returns
returns c =
    let xs = c.args.xorbs.now in
    let all = c.loop-xorb.invariant ∙ ap (map (λ (x : Xorb). replicate (length x.chunks) 0)) (take_all c.loop-xorb.xorb-index
    xs c.loop-xorb-test.false) in
    subst (λ (rs : List (List ℕ)). AreReached xs [] rs) (sym all) (reached_none xs)
