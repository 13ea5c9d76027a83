use Rattle.std.proofs.Common.{length, subst, sym, None, Ok}
use Rattle.xet_stream_rules.specs.Pulls.{pulled_once}
use Rattle.xet_stream_rules.specs.declared.step.Step.TheVariants.{Ready}
use Rattle.std.specs.Prelude.{map}
use Rattle.std.proofs.lemmas.List.{length-map}
use Rattle.xet_leader.specs.Led.{setup_of_job}
use Rattle.xet_stream_rules.specs.Streams.{IsAtEnd, IsOpen, StreamView}
use Rattle.xet_streams.specs.Parts.{limits_told}
use Rattle.xet_streams.specs.steps.Pulling.{IsUnrefused, OpenPull}
use Rattle.xet_streams.proofs.PullWays.{ended_pull, stepped_pull}
use Rattle.xet_streams.proofs.stepper.Stepper.go_on.Goals as goal

pub returns-then-is_at_end-clause-pull : goal.returns-then-is_at_end-clause-pull
returns-then-is_at_end-clause-pull g c =
    let i = c.self.inside in
    let v : StreamView = record {
      setup = setup_of_job i.job;
      events = i.core;
      led = i.leader;
      limits = limits_told i.limits.book i.limits.limit;
      told_error = i.told_error;
      cancelled = i.cancelled;
      seen = i.flag.seen;
      pulled = i.pulled;
    } in
    let cs = map g.C.Client.told c.args.clients.now in
    let open_v : IsOpen v = subst IsOpen (sym c.self.view_is) c.requires.open in
    let unrefused = subst (λ (z : StreamView). IsUnrefused z (length c.args.clients.now)) (sym c.self.view_is)
    c.requires.unrefused in
    let end = subst (λ (z : StreamView). IsAtEnd z.setup.range z.events) (sym c.self.view_is)
    (c.is_at_end.ensures.yes c.if-is_at_end.true) in
    subst (λ (z : StreamView). OpenPull z (pulled_once v) cs cs (g.K.ChunkCache.told c.args.cache.now)
    (g.K.ChunkCache.told c.args.cache.now) (Ok (Ready None))) c.self.view_is
    (ended_pull v cs (g.K.ChunkCache.told c.args.cache.now) open_v
    (λ e r. unrefused cs (length-map c.args.clients.now g.C.Client.told) e r) end c.check_history.ensures)

pub returns-clause-pull : goal.returns-clause-pull
returns-clause-pull g c = stepped_pull c.args.self.now c.step.new.self (map g.C.Client.told c.args.clients.now) _ _ _
    c.step.result c.requires.open
    (λ e r. c.requires.unrefused (map g.C.Client.told c.args.clients.now)
    (length-map c.args.clients.now g.C.Client.told) e r) (c.is_at_end.ensures.no c.if-is_at_end.false)
    c.step.ensures.pull
