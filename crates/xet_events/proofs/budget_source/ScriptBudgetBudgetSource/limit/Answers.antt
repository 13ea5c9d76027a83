use Rattle.std.proofs.Common.{rules}
use Rattle.xet_events.proofs.Scripts.{scripted-next}
use Rattle.xet_events.proofs.budget_source.ScriptBudgetBudgetSource.limit.Goals as goal

pub invariant_of-self-clause-in_order : goal.invariant_of-self-clause-in_order
invariant_of-self-clause-in_order g c =
    scripted-next _ _ _ _ _ c.args.self.now.in_order c.args.self.now.next (search rules) c.and-self.ensures
