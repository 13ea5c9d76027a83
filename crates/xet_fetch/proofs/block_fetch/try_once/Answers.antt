use Rattle.std.proofs.Common.{◌≡◌, ◌<◌, Err, arith, rules}
use Rattle.xet_base.proofs.CallerLemmas.{err-of}
use Rattle.xet_error.specs.declared.error.FileReconstructionError.{FileReconstructionError}
use Rattle.xet_requests.specs.Refreshes.{refresh_of}
use Rattle.xet_fetch.proofs.Fetching.{try_err, try_last, try_refreshed, try_some, try_unrefreshed}
use Rattle.xet_fetch.proofs.block_fetch.try_once.Goals as goal

pub returns-in_err-fetched : goal.returns-in_err-fetched
returns-in_err-fetched g c =
    let fault : FileReconstructionError = c.in_err-fetched.field-0.0 in
    let e : c.from_residual.result ≡ Err fault = err-of _ _ c.from_residual.ensures in
    rw e (try_err (refresh_of c.args.urls.now c.args.multirange c.args.blocks.now) c.args.block.now c.args.urls.now (g.C.Client.told c.args.client.now) (g.C.Client.told c.ask.new.client) c.args.left c.requires.some fault (rw c.in_err-fetched.was at c.ask.ensures))

pub returns-in-Some : goal.returns-in-Some
returns-in-Some g c =
    try_some (refresh_of c.args.urls.now c.args.multirange c.args.blocks.now) c.args.block.now c.args.urls.now (g.C.Client.told c.args.client.now) (g.C.Client.told c.ask.new.client) c.args.left c.in-Some.fetched (rw c.in-Some.is at c.in_ok-fetched.ensures)

pub returns-then-left-eq1 : goal.returns-then-left-eq1
returns-then-left-eq1 g c =
    try_last (refresh_of c.args.urls.now c.args.multirange c.args.blocks.now) c.args.block.now c.args.urls.now (g.C.Client.told c.args.client.now) (g.C.Client.told c.ask.new.client) c.args.left c.if-left-eq1.true (rw c.in_default.is at c.in_ok-fetched.ensures)

pub returns-in_err-refresh_retrieval_urls : goal.returns-in_err-refresh_retrieval_urls
returns-in_err-refresh_retrieval_urls g c =
    let fault : FileReconstructionError = c.in_err-refresh_retrieval_urls.field-0.0 in
    let e : c.from_residual-in_err-refresh_retrieval_urls.result ≡ Err fault = err-of _ _ c.from_residual-in_err-refresh_retrieval_urls.ensures in
    let more : 1 < c.args.left = omega (arith, c.if-left-eq1.false, c.requires.some) in
    rw e (try_unrefreshed c.args.block.now c.args.left c.args.urls.now c.refresh_retrieval_urls.new.table (g.C.Client.told c.args.client.now) (g.C.Client.told c.ask.new.client) (g.C.Client.told c.refresh_retrieval_urls.new.client)
    c.acquisition_id-id.result c.args.blocks.now c.args.multirange more (rw c.in_default.is at c.in_ok-fetched.ensures) fault (rw c.in_err-refresh_retrieval_urls.was at c.refresh_retrieval_urls.ensures))

pub returns : goal.returns
returns g c =
    let more : 1 < c.args.left = omega (arith, c.if-left-eq1.false, c.requires.some) in
    try_refreshed c.args.block.now c.args.left c.args.urls.now c.refresh_retrieval_urls.new.table (g.C.Client.told c.args.client.now) (g.C.Client.told c.ask.new.client) (g.C.Client.told c.refresh_retrieval_urls.new.client)
    c.acquisition_id-id.result c.args.blocks.now c.args.multirange more (rw c.in_default.is at c.in_ok-fetched.ensures) (search rules) c.in_ok-refresh_retrieval_urls.ensures
