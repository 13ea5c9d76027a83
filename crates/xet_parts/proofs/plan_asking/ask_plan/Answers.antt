use Rattle.xet_parts.proofs.Answering.{asked_none, asked_one}
use Rattle.xet_parts.proofs.plan_asking.ask_plan.Goals as goal

pub returns-in-Err : goal.returns-in-Err
returns-in-Err g c = asked_none _ _ _ _ _ _ c.in-Err.ensures

pub returns-in-Ok : goal.returns-in-Ok
returns-in-Ok g c = asked_one _ _ _ _ _ _ _ c.in-Ok.answer c.take_answer.result c.in-Ok.ensures c.take_answer.ensures

pub take_answer-requires-clause-asked : goal.take_answer-requires-clause-asked
take_answer-requires-clause-asked g c = c.requires.asked

pub take_answer-requires-clause-oldest : goal.take_answer-requires-clause-oldest
take_answer-requires-clause-oldest g c = c.requires.oldest
