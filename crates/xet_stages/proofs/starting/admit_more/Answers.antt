use Rattle.xet_stages.proofs.TurnStarts.{start_short, start_waits}
use Rattle.xet_stages.proofs.starting.admit_more.Goals as goal

pub returns-in-Ok : goal.returns-in-Ok
returns-in-Ok g c = λ cs x.
    start_waits c.args.job.now cs x _ _ _ _ c.args.leader.now c.admit.new.leader c.check_tries.ensures c.requires
    c.in-Ok.ensures.turn c.in-Ok.ensures.leads

pub returns-in-Err : goal.returns-in-Err
returns-in-Err g c = λ cs x.
    start_short c.args.job.now cs x _ _ _ _ c.args.leader.now c.admit.new.leader c.in-Err.error c.in-Err.ensures.turn
    c.in-Err.ensures.leads
