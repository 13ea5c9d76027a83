use Rattle.xet_parts.proofs.Answering.{taken_refused}
use Rattle.xet_parts.proofs.plan_asking.take_answer.Goals as goal

pub returns-in-Err : goal.returns-in-Err
returns-in-Err g c =
    taken_refused c.args.manager.now c.accept.new.self c.args.core.now c.args.due.query c.args.answer c.in-Err.error c.in-Err.ensures.past c.in-Err.ensures.other c.in-Err.ensures.kept
