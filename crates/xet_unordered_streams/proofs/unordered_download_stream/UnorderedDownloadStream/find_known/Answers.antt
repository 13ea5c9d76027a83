use Rattle.std.proofs.Common.{subst, sym}
use Rattle.xet_stream_rules.specs.Streams.{IsOpen}
use Rattle.xet_stream_rules.specs.Unordered.{UnorderedView}
use Rattle.xet_unordered_streams.specs.steps.Giving.{KnownDue}
use Rattle.xet_unordered_streams.proofs.Gives.{known_is}
use Rattle.xet_unordered_streams.proofs.unordered_download_stream.UnorderedDownloadStream.find_known.Goals as goal

pub returns-clause-known : goal.returns-clause-known
returns-clause-known g c =
    let i = c.self.inside in
    subst (λ (z : UnorderedView). KnownDue z c.known_due.result) c.self.view_is
    (known_is i.stepper i.delivered.items i.early i.ended c.self.invariant
    (subst (λ (z : UnorderedView). IsOpen z.stream) (sym c.self.view_is) c.requires) c.known_due.result
    c.known_due.ensures)
