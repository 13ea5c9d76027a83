use Rattle.std.proofs.Common.{refl, subst}
use Rattle.xet_stream_rules.specs.Unordered.{UnorderedView}
use Rattle.xet_unordered_streams.specs.steps.Pulling.{MayStepCall}
use Rattle.xet_unordered_streams.proofs.Ordered.{asked_placing}
use Rattle.xet_unordered_streams.proofs.unordered_download_stream.UnorderedDownloadStream.may_step.Goals as goal

pub invariant_of-self : goal.invariant_of-self
invariant_of-self g c =
    let i = c.self.inside in
    asked_placing i.stepper c.may_step.new.self i.delivered.items i.early c.args.connections c.may_step.result
    c.self.invariant c.may_step.ensures

pub returns : goal.returns
returns g c =
    let i = c.self.inside in
    let n : UnorderedView = record {
      stream = c.may_step.new.self;
      delivered = i.delivered.items;
      ended = i.ended;
    } in
    subst (λ (z : UnorderedView). MayStepCall z n c.args.connections c.may_step.result) c.self.view_is
    (c.may_step.ensures, refl)
