use Rattle.std.proofs.Common.{◌≡◌, ◌<◌, ◌≤◌, ℕ, Err, rules}
use Rattle.xet_base.proofs.CallerLemmas.{err-of}
use Rattle.xet_error.specs.declared.error.FileReconstructionError.{FileReconstructionError}
use Rattle.xet_requests.specs.Refreshes.{refresh_of}
use Rattle.xet_fetch.proofs.Fetching.{fetch_done, fetch_fails, fetch_more, fetch_none, fetch_start}
use Rattle.xet_fetch.proofs.block_fetch.fetch.Goals as goal

pub returns-in_err-fetched : goal.returns-in_err-fetched
returns-in_err-fetched g c =
    let told = g.C.Client.told in
    let k : ℕ = c.loop-attempt.attempt in
    let tries : ℕ = c.args.settings.now.tries in
    let below : k < tries = search rules in
    let fault : FileReconstructionError = c.in_err-fetched.field-0.0 in
    let e : c.from_residual.result ≡ Err fault = err-of _ _ c.from_residual.ensures in
    rw e (fetch_fails c.args.block.now c.args.urls.now c.loop-attempt.urls c.try_once.new.urls c.args.blocks.now c.args.settings.now.multirange (told c.args.client.now) (told c.loop-attempt.client) (told c.try_once.new.client)
    k tries c.loop-attempt.invariant below fault (rw c.in_err-fetched.was at c.try_once.ensures))

pub returns-in-Some : goal.returns-in-Some
returns-in-Some g c =
    let told = g.C.Client.told in
    let k : ℕ = c.loop-attempt.attempt in
    let tries : ℕ = c.args.settings.now.tries in
    let below : k < tries = search rules in
    fetch_done c.args.block.now c.args.urls.now c.loop-attempt.urls c.try_once.new.urls c.args.blocks.now c.args.settings.now.multirange (told c.args.client.now) (told c.loop-attempt.client) (told c.try_once.new.client)
    k tries c.loop-attempt.invariant below c.in-Some.fetched (rw c.in-Some.is at c.in_ok-fetched.ensures)

pub loop-attempt-preserved : goal.loop-attempt-preserved
loop-attempt-preserved g c =
    let told = g.C.Client.told in
    let k : ℕ = c.loop-attempt.attempt in
    let tries : ℕ = c.args.settings.now.tries in
    let below : k < tries = search rules in
    fetch_more c.args.block.now c.args.urls.now c.loop-attempt.urls c.try_once.new.urls c.args.blocks.now c.args.settings.now.multirange (told c.args.client.now) (told c.loop-attempt.client) (told c.try_once.new.client)
    k tries c.loop-attempt.invariant below c.requires.in_blocks (rw c.in_default.is at c.in_ok-fetched.ensures)

pub loop-attempt-init : goal.loop-attempt-init
loop-attempt-init g c =
    fetch_start (refresh_of c.args.urls.now c.args.settings.now.multirange c.args.blocks.now) c.args.block.now c.args.urls.now (g.C.Client.told c.args.client.now) c.args.settings.now.tries c.requires.in_table

pub returns : goal.returns
returns g c =
    let told = g.C.Client.told in
    let k : ℕ = c.loop-attempt.attempt in
    let tries : ℕ = c.args.settings.now.tries in
    let past : tries ≤ k = search rules in
    fetch_none (refresh_of c.args.urls.now c.args.settings.now.multirange c.args.blocks.now) c.args.block.now c.args.urls.now c.loop-attempt.urls (told c.args.client.now) (told c.loop-attempt.client) k tries c.loop-attempt.invariant past
