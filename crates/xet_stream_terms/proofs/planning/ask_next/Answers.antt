use Rattle.std.proofs.Common.{Err, refl}
use Rattle.xet_stream_terms.proofs.PlannedTerms.{asks_false, asks_true}
use Rattle.xet_stream_terms.proofs.planning.ask_next.Goals as goal

pub ask-requires-clause-runs : goal.ask-requires-clause-runs
ask-requires-clause-runs g c = c.requires.carries.led.running

pub ask-requires-clause-led : goal.ask-requires-clause-led
ask-requires-clause-led g c = c.requires.carries.led.manager

pub returns-in-Ok-true : goal.returns-in-Ok-true
returns-in-Ok-true g c = asks_true c.args.job _ _ _ _ c.args.leader.now c.ask.new.leader c.in-Ok-true.field-0
    c.in-Ok-true.ensures.turn c.in-Ok-true.ensures.covered c.in-Ok-true.field-0-test _ c.plans_of-plans.result
    c.plans_of-plans.ensures c.is_last.ensures c.next_of.result c.next_of.ensures

pub returns-in-Ok-false : goal.returns-in-Ok-false
returns-in-Ok-false g c = asks_false c.args.job _ _ _ _ c.args.leader.now c.ask.new.leader c.in-Ok-false.field-0
    c.in-Ok-false.ensures.turn c.in-Ok-false.ensures.covered c.in-Ok-false.field-0-test _ refl

pub returns-in-Err : goal.returns-in-Err
returns-in-Err g c = record { asked = Err c.in-Err.error; turn = c.in-Err.ensures.turn; covered = tt; next = refl }
