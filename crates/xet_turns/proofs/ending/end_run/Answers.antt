use Rattle.xet_turns.proofs.EndTies.{end_leads}
use Rattle.xet_turns.proofs.ending.end_run.Goals as goal

pub returns-clause-leads : goal.returns-clause-leads
returns-clause-leads g c = end_leads _ _ _ _ _ _ _ c.end_both.ensures
