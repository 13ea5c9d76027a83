use Rattle.std.proofs.Common.{true, subst, sym}
use Rattle.xet_leader.specs.Led.{setup_of_job}
use Rattle.xet_streams.specs.Parts.{limits_told}
use Rattle.std.specs.Prelude.{map}
use Rattle.xet_stream_rules.specs.Streams.{StreamView}
use Rattle.xet_streams.specs.steps.Pulling.{AsksFlag}
use Rattle.xet_streams.proofs.PullWays.{closed_pull, open_pull}
use Rattle.xet_streams.proofs.stepper.Stepper.pull.Goals as goal

pub returns-then-ask_flag-clause-call : goal.returns-then-ask_flag-clause-call
returns-then-ask_flag-clause-call g c =
    let i = c.self.inside in
    let v : StreamView = record {
      setup = setup_of_job i.job;
      events = i.core;
      led = i.leader;
      limits = limits_told i.limits.book i.limits.limit;
      told_error = i.told_error;
      cancelled = i.cancelled;
      seen = i.flag.seen;
      pulled = i.pulled;
    } in
    let cs = map g.C.Client.told c.args.clients.now in
    let k = g.K.ChunkCache.told c.args.cache.now in
    let flag : AsksFlag c.args.self.now v true = subst (λ (z : StreamView). AsksFlag c.args.self.now z true)
    (sym c.self.view_is) (subst (AsksFlag c.args.self.now c.ask_flag.new.self) c.if-ask_flag.true c.ask_flag.ensures) in
    closed_pull c.args.self.now v cs k flag c.check_history.ensures

pub returns-clause-call : goal.returns-clause-call
returns-clause-call g c = open_pull c.args.self.now c.ask_flag.new.self c.pull_open.new.self _ _ _ _ c.pull_open.result
    (subst (AsksFlag c.args.self.now c.ask_flag.new.self) c.if-ask_flag.false c.ask_flag.ensures)
    c.pull_open.ensures.pull
