use Rattle.xet_stages.proofs.WindowLeading.{window_leads}
use Rattle.xet_stages.proofs.queueing.window.Goals as goal

pub returns-clause-leads : goal.returns-clause-leads
returns-clause-leads g c = window_leads c.args.leader.now c.args.writer.now c.queue_next.new.writer
    c.queue_next.result c.queue_next.ensures

pub returns-clause-turn : goal.returns-clause-turn
returns-clause-turn g c = c.queue_next.ensures
