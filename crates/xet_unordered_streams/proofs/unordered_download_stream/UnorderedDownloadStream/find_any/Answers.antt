use Rattle.std.proofs.Common.{subst, sym}
use Rattle.xet_stream_rules.specs.Streams.{IsOpen}
use Rattle.xet_stream_rules.specs.Unordered.{UnorderedView}
use Rattle.xet_unordered_streams.specs.steps.Giving.{AnyDue}
use Rattle.xet_unordered_streams.proofs.Gives.{any_is}
use Rattle.xet_unordered_streams.proofs.unordered_download_stream.UnorderedDownloadStream.find_any.Goals as goal

pub any_due-requires : goal.any_due-requires
any_due-requires g c = subst (λ (z : UnorderedView). IsOpen z.stream) (sym c.self.view_is) c.requires

pub returns-clause-any : goal.returns-clause-any
returns-clause-any g c =
    let i = c.self.inside in
    subst (λ (z : UnorderedView). AnyDue z c.any_due.result) c.self.view_is
    (any_is i.stepper i.delivered.items i.early i.ended c.self.invariant
    (subst (λ (z : UnorderedView). IsOpen z.stream) (sym c.self.view_is) c.requires) c.any_due.result
    c.any_due.ensures)
