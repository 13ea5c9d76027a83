use Rattle.std.proofs.Common.{refl, subst, sym}
use Rattle.xet_stream_rules.specs.Streams.{IsOpen}
use Rattle.xet_stream_rules.specs.Unordered.{UnorderedView}
use Rattle.xet_unordered_streams.specs.steps.Giving.{FailsSo, KeepsOn}
use Rattle.xet_unordered_streams.proofs.Ordered.{told_placing}
use Rattle.xet_unordered_streams.proofs.unordered_download_stream.UnorderedDownloadStream.fail.Goals as goal

pub fail-told-requires-clause-still : goal.fail-told-requires-clause-still
fail-told-requires-clause-still g c = subst (λ (z : UnorderedView). IsOpen z.stream) (sym c.self.view_is) c.requires.still

pub invariant_of-self : goal.invariant_of-self
invariant_of-self g c =
    let i = c.self.inside in
    told_placing i.stepper c.fail-told.new.self i.delivered.items i.early c.args.error c.fail-told.result
    c.self.invariant c.fail-told.ensures.told c.fail-told.ensures.stands c.check_history.ensures

pub returns-clause-told : goal.returns-clause-told
returns-clause-told g c =
    let i = c.self.inside in
    let n : UnorderedView = record {
      stream = c.fail-told.new.self;
      delivered = i.delivered.items;
      ended = i.ended;
    } in
    subst (λ (z : UnorderedView). FailsSo z n c.args.error c.fail-told.result) c.self.view_is
    (record { told = c.fail-told.ensures.told; rest = refl })

pub returns-clause-stands : goal.returns-clause-stands
returns-clause-stands g c =
    let i = c.self.inside in
    let n : UnorderedView = record {
      stream = c.fail-told.new.self;
      delivered = i.delivered.items;
      ended = i.ended;
    } in
    subst (λ (z : UnorderedView). KeepsOn z n) c.self.view_is c.fail-told.ensures.stands
