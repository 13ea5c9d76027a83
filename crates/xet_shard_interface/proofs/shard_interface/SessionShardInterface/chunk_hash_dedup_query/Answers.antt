use Rattle.xet_base.proofs.CallerLemmas.{err-of}
use Rattle.xet_shard_interface.proofs.Searches.{cache-answered, cache-failed, resumed-failed, resumed-found, session-failed, session-found}
use Rattle.xet_shard_interface.proofs.shard_interface.SessionShardInterface.chunk_hash_dedup_query.Goals as goal
use Rattle.std.specs.Prelude.{None, Some}

pub returns-in_err-found : goal.returns-in_err-found
returns-in_err-found g c =
    rw (err-of _ _ c.from_residual.ensures) (resumed-failed _ _ _ _ (rw c.in_err-found.was at c.find_resumed.ensures))

pub returns-in-Some : goal.returns-in-Some
returns-in-Some g c =
    resumed-found _ _ _ c.in-Some.found (rw (c.in_ok-found.was, c.in-Some.is) at c.find_resumed.ensures)

pub returns-in_err-found-2 : goal.returns-in_err-found-2
returns-in_err-found-2 g c =
    let resumed = rw (c.in_ok-found.was, c.in_default.is) at c.find_resumed.ensures in
    rw (err-of _ _ c.from_residual-in_err-found-2.ensures) (session-failed _ _ _ resumed _ _ (rw c.in_err-found-2.was at c.find.ensures))

pub returns-in-Some-2 : goal.returns-in-Some-2
returns-in-Some-2 g c =
    let resumed = rw (c.in_ok-found.was, c.in_default.is) at c.find_resumed.ensures in
    session-found _ _ _ resumed _ c.in-Some-2.found (rw (c.in_ok-found-2.was, c.in-Some-2.is) at c.find.ensures)

pub returns-in_err-found-3 : goal.returns-in_err-found-3
returns-in_err-found-3 g c =
    let resumed = rw (c.in_ok-found.was, c.in_default.is) at c.find_resumed.ensures in
    let session = rw (c.in_ok-found-2.was, c.in_default-2.is) at c.find.ensures in
    rw (err-of _ _ c.from_residual-in_err-found-3.ensures) (cache-failed _ _ _ resumed _ session _ _ (rw c.in_err-found-3.was at c.find-2.ensures))

pub returns-in-Some-3 : goal.returns-in-Some-3
returns-in-Some-3 g c =
    let resumed = rw (c.in_ok-found.was, c.in_default.is) at c.find_resumed.ensures in
    let session = rw (c.in_ok-found-2.was, c.in_default-2.is) at c.find.ensures in
    cache-answered _ _ _ resumed _ session _ (Some c.in-Some-3.found) (rw (c.in_ok-found-3.was, c.in-Some-3.is) at c.find-2.ensures)

pub returns : goal.returns
returns g c =
    let resumed = rw (c.in_ok-found.was, c.in_default.is) at c.find_resumed.ensures in
    let session = rw (c.in_ok-found-2.was, c.in_default-2.is) at c.find.ensures in
    cache-answered _ _ _ resumed _ session _ None (rw (c.in_ok-found-3.was, c.in_default-3.is) at c.find-2.ensures)
