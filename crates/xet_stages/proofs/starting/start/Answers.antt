use Rattle.std.proofs.Common.{refl}
use Rattle.xet_stages.proofs.StartRefused.{start_refused}
use Rattle.xet_stages.proofs.starting.start.Goals as goal

pub returns-in-Err-record_terms-clause-leads : goal.returns-in-Err-record_terms-clause-leads
returns-in-Err-record_terms-clause-leads g c =
    start_refused c.args.job _ _ _ _ _ _ _ _ c.args.leader.now c.ask_and_admit.new.leader c.in-Ok.all
    c.in-Err-record_terms.error c.in-Err-record_terms.ensures.memory c.in-Ok.ensures

pub ask_and_admit-requires-clause-some : goal.ask_and_admit-requires-clause-some
ask_and_admit-requires-clause-some g c = c.requires.some

pub ask_and_admit-requires-clause-runs : goal.ask_and_admit-requires-clause-runs
ask_and_admit-requires-clause-runs g c = c.requires.runs

pub ask_and_admit-requires-clause-led : goal.ask_and_admit-requires-clause-led
ask_and_admit-requires-clause-led g c = c.requires.led

pub returns-in-Err-clause-leads : goal.returns-in-Err-clause-leads
returns-in-Err-clause-leads g c = c.in-Err.ensures

pub returns-in-Err-clause-parts : goal.returns-in-Err-clause-parts
returns-in-Err-clause-parts g c = refl

pub returns-in-Ok-record_terms-clause-leads : goal.returns-in-Ok-record_terms-clause-leads
returns-in-Ok-record_terms-clause-leads g c = c.in-Ok.ensures

pub returns-in-Ok-record_terms-clause-parts : goal.returns-in-Ok-record_terms-clause-parts
returns-in-Ok-record_terms-clause-parts g c = c.in-Ok-record_terms.ensures.parts

pub returns-in-Err-record_terms-clause-parts : goal.returns-in-Err-record_terms-clause-parts
returns-in-Err-record_terms-clause-parts g c = c.in-Err-record_terms.ensures.parts
