use Rattle.std.proofs.Common.{subst}
use Rattle.xet_events.specs.Allowed.{IsAllowedHistory}
use Rattle.xet_stream_rules.specs.Unordered.{UnorderedView}
use Rattle.xet_unordered_streams.specs.Items.{ArePassed}
use Rattle.xet_unordered_streams.proofs.Placings.{passed_of}
use Rattle.xet_unordered_streams.proofs.unordered_download_stream.UnorderedDownloadStream.check_places.Goals as goal

pub returns-clause-allowed : goal.returns-clause-allowed
returns-clause-allowed g c =
    subst (λ (z : UnorderedView). IsAllowedHistory z.stream.events) c.self.view_is c.self.invariant.allowed

pub returns-clause-passed : goal.returns-clause-passed
returns-clause-passed g c =
    let i = c.self.inside in
    subst ArePassed c.self.view_is (passed_of i.stepper i.delivered.items i.early i.ended c.self.invariant)
