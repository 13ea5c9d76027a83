use Rattle.xet_leader.proofs.Starting.{lead_starts}
use Rattle.xet_leader.proofs.leader.Leader.new.Goals as goal

pub returns-clause-starts : goal.returns-clause-starts
returns-clause-starts g c = lead_starts c.args.job.now _ c.in_ok-manager.manager c.new-2.result.items c.in_ok-manager.ensures.begun c.new-2.ensures.items c.check_manager.ensures
