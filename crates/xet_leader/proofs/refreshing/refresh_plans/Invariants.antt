use Rattle.xet_leader.proofs.Refreshed.{SoRefreshed}
use Rattle.xet_leader.proofs.refreshing.refresh_plans.Given as goal

abbrev pub invariant-loop-number : goal.invariant-loop-number
invariant-loop-number g l =
    let told = g.C.Client.told in
    SoRefreshed l.multirange l.stale l.number-index
    (record { client = told l.fn.client; events = l.fn.core; plans = l.fn.plans.items })
    (record { client = told l.client; events = l.core; plans = l.plans.items })
