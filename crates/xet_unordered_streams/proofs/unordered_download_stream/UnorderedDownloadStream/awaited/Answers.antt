use Rattle.std.proofs.Common.{subst}
use Rattle.std.specs.Prelude.{MatchOption}
use Rattle.xet_stream_rules.specs.Unordered.{UnorderedView}
use Rattle.xet_unordered_streams.specs.steps.Pulling.{IsAwaitedIn}
use Rattle.xet_unordered_streams.proofs.Ordered.{awaited_in}
use Rattle.xet_unordered_streams.proofs.unordered_download_stream.UnorderedDownloadStream.awaited.Goals as goal

pub returns-clause-place : goal.returns-clause-place
returns-clause-place g c =
    let i = c.self.inside in
    subst (λ (z : UnorderedView). MatchOption c.awaited_next.result (Unit {0}) (IsAwaitedIn z)) c.self.view_is
    (awaited_in i.stepper i.delivered.items i.ended c.awaited_next.result c.awaited_next.ensures)
