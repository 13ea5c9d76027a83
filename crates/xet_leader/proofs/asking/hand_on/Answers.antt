use Rattle.std.proofs.Common.{◌∙◌, List, ap, map, refl}
use Rattle.xet_offers.specs.declared.reconstruction_terms.xorb_block.XorbBlock.{XorbBlock}
use Rattle.xet_leader.specs.declared.leader.LedPlan.{LedPlan}
use Rattle.xet_leader.specs.Led.{Led}
use Rattle.xet_leader.proofs.AskSteps.{joins_plans}
use Rattle.xet_leader.proofs.asking.hand_on.Goals as goal

pub returns-clause-handed : goal.returns-clause-handed
returns-clause-handed g c =
    let i = c.leader.inside in
    let v : Led = record {
      manager = i.manager;
      plans = i.plans.items;
      planned = i.planned;
      admitted = i.admitted;
      finished = i.finished;
      fetches = i.fetches;
    } in
    let x : LedPlan = record {
      number = c.args.number;
      first = i.planned;
      block = c.in-Some.block;
      tries = c.in-Ok.tries;
    } in
    joins_plans c.args.number v c.args.leader.now c.hand_out.new.self c.in-Some.block x c.push_back.new.self.items
    c.in-Some-checked_add.planned c.len.result c.leader.view_is c.in-Some.ensures
    (record {
      number_is = refl;
      first_is = refl;
      block_is = refl;
      tries_are = c.in-Ok.ensures
          ∙ ap (λ (xs : List XorbBlock). map (λ _. 0) xs) c.as_slice.ensures;
    }) c.len.ensures
    c.in-Some-checked_add.ensures c.in-Ok-push_back.ensures.items
