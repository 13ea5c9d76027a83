use Rattle.std.proofs.Common.{subst}
use Rattle.xet_stream_rules.specs.Streams.{IsOpen}
use Rattle.xet_stream_rules.specs.Unordered.{UnorderedView}
use Rattle.xet_unordered_streams.proofs.Steps.{ahead_admit, ahead_short, ahead_unopened}
use Rattle.xet_unordered_streams.proofs.unordered_download_stream.UnorderedDownloadStream.go_ahead.Goals as goal

pub returns-then-not-is_open : goal.returns-then-not-is_open
returns-then-not-is_open g c = ahead_unopened c.args.self.now
    (subst (λ (z : UnorderedView). IsOpen z.stream → ⊥) c.self.view_is (c.is_open.ensures.no c.if-not-is_open.true))

pub record_early-requires : goal.record_early-requires
record_early-requires g c =
    subst (λ (z : UnorderedView). IsOpen z.stream) c.self.view_is (c.is_open.ensures.yes c.if-not-is_open.false)

pub admit-requires : goal.admit-requires
admit-requires g c = c.in-Ok.ensures.1

pub returns-in-Ok : goal.returns-in-Ok
returns-in-Ok g c = ahead_admit c.args.self.now c.record_early.new.self c.admit.new.self c.admit.result
    c.in-Ok.ensures.0 c.in-Ok.ensures.1 c.in-Ok.ensures.2 c.admit.ensures

pub returns-in-Err : goal.returns-in-Err
returns-in-Err g c = ahead_short c.args.self.now c.record_early.new.self c.in-Err.error c.in-Err.ensures
