use Rattle.xet_requests.specs.Refreshes.{refresh_of}
use Rattle.xet_fetch.proofs.Fetching.{IsFetching}
use Rattle.xet_fetch.proofs.block_fetch.fetch.Given as goal

abbrev pub invariant-loop-attempt : goal.invariant-loop-attempt
invariant-loop-attempt g l =
    IsFetching (refresh_of l.fn.urls l.settings.multirange l.blocks) l.block l.fn.urls l.urls (g.C.Client.told l.fn.client) (g.C.Client.told l.client) l.attempt l.settings.tries
