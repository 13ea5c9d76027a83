use Rattle.std.proofs.Common.{refl}
use Rattle.xet_offers.specs.steps.Reached.{sum_of}
use Rattle.xet_offers.proofs.ReachedSums.{follow_bridge, follow_end}
use Rattle.xet_offers.proofs.reconstruction_terms.reached_sizes.ReachedSizes.follow.Goals as goal

pub returns-in_ok-reach-2 : goal.returns-in_ok-reach-2
returns-in_ok-reach-2 c =
    follow_bridge c.args.ranges.now c.args.term.now (sum_of c.args.self.now) (sum_of c.reach.new.self) (sum_of c.reach-in-Some-bridge_of.new.self) c.in-Some.before _ c.in-Some-bridge_of.next
    c.requires.ascend c.in-Some.ensures c.in-Some-bridge_of.ensures refl c.in_ok-reach.ensures c.in_ok-reach-2.ensures

pub returns-in_default-bridge_of : goal.returns-in_default-bridge_of
returns-in_default-bridge_of c =
    follow_end c.args.ranges.now c.args.term.now (sum_of c.args.self.now) (sum_of c.reach.new.self) c.in-Some.before _
    c.requires.ascend c.in-Some.ensures c.in_default-bridge_of.ensures refl c.in_ok-reach.ensures
