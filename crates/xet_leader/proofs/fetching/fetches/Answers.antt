use Rattle.std.proofs.Common.{rules}
use Rattle.xet_leader.proofs.AskedBlocks.{fetch_leads, fetches_own}
use Rattle.xet_leader.proofs.fetching.fetches.Goals as goal

pub returns-clause-own : goal.returns-clause-own
returns-clause-own g c = fetches_own _ _ _ c.fetches_of.result c.fetches_of.ensures.made

pub returns-clause-leads : goal.returns-clause-leads
returns-clause-leads g c = fetch_leads c.args.leader.now c.args.leader.now.fetches c.args.places.now
    c.fetches_of.result (search rules) c.fetches_of.ensures.memory
