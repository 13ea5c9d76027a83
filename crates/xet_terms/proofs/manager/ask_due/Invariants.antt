use Rattle.std.proofs.Common.{◌-◌, length}
use Rattle.xet_terms.proofs.Asking.{IsAsking}
use Rattle.xet_terms.proofs.manager.ask_due.Given as goal

abbrev pub invariant-due : goal.invariant-due
invariant-due g l = IsAsking l.fn.manager l.manager (g.C.Client.told l.fn.client) (g.C.Client.told l.client)

abbrev pub decreases-due : goal.decreases-due
decreases-due g l = length l.manager.queries - l.manager.asked
