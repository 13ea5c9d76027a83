use Rattle.std.proofs.Common.{Some, sym}
use Rattle.xet_offers.proofs.TermOffers.{xorb_numbered}
use Rattle.xet_offers.proofs.reconstruction_terms.plan_offers.PlanOffers.number_near.Goals as goal

pub returns-then-is_at : goal.returns-then-is_at
returns-then-is_at c =
    xorb_numbered c.args.self.now.plan.now c.args.self.now.xorbs c.args.xorb.now (Some c.args.number) c.args.self.now.hashed (sym (c.is_at.ensures c.if-is_at.true))

pub returns-then-is_at-2 : goal.returns-then-is_at-2
returns-then-is_at-2 c =
    xorb_numbered c.args.self.now.plan.now c.args.self.now.xorbs c.args.xorb.now (Some c.saturating_add-next.result) c.args.self.now.hashed (sym (c.is_at-2.ensures c.if-is_at-2.true))
