use Rattle.xet_stages.proofs.TurnStarts.{start_fails, start_goes, start_stops}
use Rattle.xet_stages.proofs.starting.ask_then_admit.Goals as goal

pub returns-in-Err : goal.returns-in-Err
returns-in-Err g c = start_fails c.args.job _ _ _ _ _ _ _ c.args.leader.now c.ask.new.leader c.in-Err.error
    c.requires.past c.in-Err.ensures.leads

pub returns-in-Ok-admit : goal.returns-in-Ok-admit
returns-in-Ok-admit g c =
    start_goes c.args.job _ _ _ _ _ _ _ _ _ c.args.leader.now c.ask.new.leader c.admit.new.leader
    c.check_tries.ensures c.requires.past c.in-Ok.asked c.is_finished.result c.is_finished.ensures c.in-Ok.ensures.turn
    c.in-Ok.ensures.leads c.in-Ok.ensures.covered c.in-Ok-admit.ensures.turn
    c.in-Ok-admit.ensures.leads

pub returns-in-Err-admit : goal.returns-in-Err-admit
returns-in-Err-admit g c = start_stops c.args.job _ _ _ _ _ _ _ _ _ c.args.leader.now c.ask.new.leader
    c.admit.new.leader c.in-Ok.asked c.in-Err-admit.error c.requires.past c.in-Ok.ensures.leads c.in-Err-admit.ensures.leads

pub ask-requires-clause-some : goal.ask-requires-clause-some
ask-requires-clause-some g c = c.requires.some

pub ask-requires-clause-runs : goal.ask-requires-clause-runs
ask-requires-clause-runs g c = c.requires.runs

pub ask-requires-clause-led : goal.ask-requires-clause-led
ask-requires-clause-led g c = c.requires.led
