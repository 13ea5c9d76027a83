use Rattle.xet_stages.proofs.starting.ask_and_admit.Goals as goal

pub returns-then-leader : goal.returns-then-leader
returns-then-leader g c = c.admit_more.ensures _ _

pub ask_then_admit-requires-clause-some : goal.ask_then_admit-requires-clause-some
ask_then_admit-requires-clause-some g c = c.requires.some

pub ask_then_admit-requires-clause-runs : goal.ask_then_admit-requires-clause-runs
ask_then_admit-requires-clause-runs g c = c.requires.runs

pub ask_then_admit-requires-clause-led : goal.ask_then_admit-requires-clause-led
ask_then_admit-requires-clause-led g c = c.requires.led

pub returns : goal.returns
returns g c = c.ask_then_admit.ensures
