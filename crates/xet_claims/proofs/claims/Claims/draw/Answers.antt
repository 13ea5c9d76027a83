use Rattle.std.proofs.Common.{rules, ap, sym, ◌∙◌}
use Rattle.xet_claims.proofs.PoolSteps.{draws}
use Rattle.xet_claims.proofs.claims.Claims.draw.Goals as goal

pub fetch_add-found-requires : goal.fetch_add-found-requires
fetch_add-found-requires c =
    (search rules, search rules, draws _ _ _ _ _ (c.requires.of.1 ∙ sym (ap (λ k. k.count) c.args.self.now.key)) c.requires.fresh)
