use Rattle.xet_leader.specs.Led.{Led, setup_of_job}
use Rattle.xet_leader.proofs.AskSteps.{due_of, one_asked}
use Rattle.xet_leader.proofs.NextQueries.{due_allowed}
use Rattle.xet_leader.proofs.asking.ask_due.Goals as goal

pub ask_first-requires-clause-allowed : goal.ask_first-requires-clause-allowed
ask_first-requires-clause-allowed g c =
    let i = c.leader.inside in
    let v : Led = record {
      manager = i.manager;
      plans = i.plans.items;
      planned = i.planned;
      admitted = i.admitted;
      finished = i.finished;
      fetches = i.fetches;
    } in
    let d = c.in-Ok-Some.due in
    due_allowed (setup_of_job c.args.job) c.args.core.now c.next_due.new.manager d.query d.id c.requires.runs
    (due_of (setup_of_job c.args.job) c.args.core.now v c.args.leader.now c.next_due.new.manager _ _
    c.in-Ok-Some.field-0 d c.leader.view_is c.in-Ok-Some.field-0-is c.in-Ok-Some.ensures c.requires.led)

pub returns-in-Ok-hand_on : goal.returns-in-Ok-hand_on
returns-in-Ok-hand_on g c =
    let i = c.leader.inside in
    let v : Led = record {
      manager = i.manager;
      plans = i.plans.items;
      planned = i.planned;
      admitted = i.admitted;
      finished = i.finished;
      fetches = i.fetches;
    } in
    one_asked c.args.job _ _ _ _ _ _ v c.args.leader.now c.ask_first.new.leader c.hand_on.new.leader
    c.next_due.new.manager c.in-Ok-Some.field-0 c.in-Ok-Some.due c.leader.view_is c.in-Ok-Some.field-0-is
    c.in-Ok-Some.ensures
    c.in-Ok.ensures.asked c.in-Ok.ensures.rest c.in-Ok-hand_on.ensures.handed
