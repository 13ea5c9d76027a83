use Rattle.std.proofs.Common.{◌≡◌, ◌∙◌, map, sym, true, false}
use Rattle.xet_leader.specs.Led.{setup_of_job}
use Rattle.xet_events.specs.Events.{is_kept}
use Rattle.xet_events.specs.Allowed.{IsMissing}
use Rattle.xet_stream_rules.specs.Moments.{at}
use Rattle.xet_stream_blocks.proofs.Calls.{can_look, carries_on, fetch_done, fetch_failed, found_done, look_failed, missing_on}
use Rattle.xet_stream_blocks.proofs.ProvidedBlocks.{provides_kept}
use Rattle.xet_stream_blocks.proofs.providing.provide.Goals as goal

pub returns-then-is_kept-clause-provides : goal.returns-then-is_kept-clause-provides
returns-then-is_kept-clause-provides g c = provides_kept (setup_of_job c.args.job)
    (at c.args.core.now c.args.leader.now (map g.C.Client.told c.args.clients.now) (g.K.ChunkCache.told c.args.cache.now))
    c.args.place (sym c.is_kept.ensures ∙ c.if-is_kept.true)

pub look_up_at-requires-clause-running : goal.look_up_at-requires-clause-running
look_up_at-requires-clause-running g c = c.requires.carries.led.running

pub look_up_at-requires-clause-can : goal.look_up_at-requires-clause-can
look_up_at-requires-clause-can g c = can_look (setup_of_job c.args.job) c.args.core.now c.args.leader.now
    c.requires.carries c.args.place (c.requires.missing (sym c.is_kept.ensures ∙ c.if-is_kept.false))

pub returns-in-Ok-true-clause-provides : goal.returns-in-Ok-true-clause-provides
returns-in-Ok-true-clause-provides g c = found_done (setup_of_job c.args.job) _ _ c.requires.carries _ _ _ _ _ c.args.place
    (c.requires.missing (sym c.is_kept.ensures ∙ c.if-is_kept.false)) c.in-Ok-true.field-0 c.in-Ok-true.field-0-test
    c.in-Ok-true.ensures

pub fetch-requires-clause-carries : goal.fetch-requires-clause-carries
fetch-requires-clause-carries g c = carries_on (setup_of_job c.args.job) _ _ c.requires.carries
    (map g.C.Client.told c.args.clients.now) _ _ _ _ c.args.place
    (c.requires.missing (sym c.is_kept.ensures ∙ c.if-is_kept.false)) c.in-Ok-false.field-0 c.in-Ok-false.field-0-test
    c.in-Ok-false.ensures

pub fetch-requires-clause-missing : goal.fetch-requires-clause-missing
fetch-requires-clause-missing g c = missing_on (setup_of_job c.args.job) _ _ c.requires.carries
    (map g.C.Client.told c.args.clients.now) _ _ _ _ c.args.place
    (c.requires.missing (sym c.is_kept.ensures ∙ c.if-is_kept.false)) c.in-Ok-false.field-0 c.in-Ok-false.field-0-test
    c.in-Ok-false.ensures

pub returns-in-Ok-false-clause-provides : goal.returns-in-Ok-false-clause-provides
returns-in-Ok-false-clause-provides g c = fetch_done (setup_of_job c.args.job) _ _ c.requires.carries
    (map g.C.Client.told c.args.clients.now) _ _ _ _ c.args.place
    (c.requires.missing (sym c.is_kept.ensures ∙ c.if-is_kept.false)) c.in-Ok-false.field-0 c.in-Ok-false.field-0-test
    c.in-Ok-false.ensures _ _ _ _ c.fetch.result c.fetch.ensures.fetches

pub returns-in-Ok-false-clause-fails : goal.returns-in-Ok-false-clause-fails
returns-in-Ok-false-clause-fails g c = fetch_failed (setup_of_job c.args.job) _ _ c.requires.carries
    (map g.C.Client.told c.args.clients.now) _ _ _ _ c.args.place
    (c.requires.missing (sym c.is_kept.ensures ∙ c.if-is_kept.false)) c.in-Ok-false.field-0 c.in-Ok-false.field-0-test
    c.in-Ok-false.ensures _ _ _ _ c.fetch.result c.fetch.ensures.fails

pub returns-in-Err-clause-fails : goal.returns-in-Err-clause-fails
returns-in-Err-clause-fails g c = look_failed (setup_of_job c.args.job) _ _ c.requires.carries _ _ _ _ _ c.args.place
    (c.requires.missing (sym c.is_kept.ensures ∙ c.if-is_kept.false)) c.in-Err.error c.in-Err.ensures
