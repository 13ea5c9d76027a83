use Rattle.xet_leader.specs.Led.{Led, setup_of_job}
use Rattle.xet_ties.specs.PartCalls.{plan_query}
use Rattle.xet_leader.proofs.AskSteps.{allowed_inside}
use Rattle.xet_leader.proofs.asking.ask_first.Goals as goal

pub ask_plan-asked-requires-clause-allowed : goal.ask_plan-asked-requires-clause-allowed
ask_plan-asked-requires-clause-allowed g c =
    let i = c.leader.inside in
    let v : Led = record {
      manager = i.manager;
      plans = i.plans.items;
      planned = i.planned;
      admitted = i.admitted;
      finished = i.finished;
      fetches = i.fetches;
    } in
    allowed_inside v c.args.leader.now c.args.core.now
    (plan_query (setup_of_job c.args.job) c.args.due.query c.args.due.id) c.leader.view_is c.requires.allowed
