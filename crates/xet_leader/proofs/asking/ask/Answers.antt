use Rattle.xet_leader.specs.Led.{setup_of_job}
use Rattle.xet_leader.proofs.AsksLeads.{ask_covered, ask_leads}
use Rattle.xet_leader.proofs.asking.ask.Goals as goal

pub returns-clause-leads : goal.returns-clause-leads
returns-clause-leads g c = ask_leads _ _ _ _ _ _ _ _ _ _ c.check_history.ensures c.ask_due.ensures

pub returns-clause-covered : goal.returns-clause-covered
returns-clause-covered g c = ask_covered (setup_of_job c.args.job) _ _ _ _ _ _ _ _ _ _ c.requires.led
    c.ask_due.ensures

pub ask_due-requires-clause-some : goal.ask_due-requires-clause-some
ask_due-requires-clause-some g c = c.requires.some

pub ask_due-requires-clause-runs : goal.ask_due-requires-clause-runs
ask_due-requires-clause-runs g c = c.requires.runs

pub ask_due-requires-clause-led : goal.ask_due-requires-clause-led
ask_due-requires-clause-led g c = c.requires.led

pub returns-clause-turn : goal.returns-clause-turn
returns-clause-turn g c = c.ask_due.ensures
