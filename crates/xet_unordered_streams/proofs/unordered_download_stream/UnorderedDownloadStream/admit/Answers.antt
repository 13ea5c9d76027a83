use Rattle.std.proofs.Common.{refl, subst, sym}
use Rattle.xet_stream_rules.specs.Streams.{IsOpen}
use Rattle.xet_stream_rules.specs.Unordered.{UnorderedView}
use Rattle.xet_unordered_streams.specs.steps.Pulling.{AdmitCall}
use Rattle.xet_unordered_streams.proofs.Ordered.{admit_caught, admit_placing}
use Rattle.xet_unordered_streams.proofs.unordered_download_stream.UnorderedDownloadStream.admit.Goals as goal

pub admit_ahead-answer-requires : goal.admit_ahead-answer-requires
admit_ahead-answer-requires g c = subst (λ (z : UnorderedView). IsOpen z.stream) (sym c.self.view_is) c.requires

pub invariant_of-self : goal.invariant_of-self
invariant_of-self g c =
    let i = c.self.inside in
    admit_placing i.stepper c.admit_ahead-answer.new.self i.delivered.items i.early c.admit_ahead-answer.result
    c.self.invariant c.admit_ahead-answer.ensures.call c.admit_ahead-answer.ensures.stands c.check_history.ensures

pub returns : goal.returns
returns g c =
    let i = c.self.inside in
    let n : UnorderedView = record {
      stream = c.admit_ahead-answer.new.self;
      delivered = i.delivered.items;
      ended = i.ended;
    } in
    subst (λ (z : UnorderedView). AdmitCall z n c.admit_ahead-answer.result) c.self.view_is (record {
      call = c.admit_ahead-answer.ensures.call;
      rest = refl;
      stands = c.admit_ahead-answer.ensures.stands;
      caught = λ ok h. admit_caught i.stepper c.admit_ahead-answer.new.self i.delivered.items i.early i.ended
          c.admit_ahead-answer.result c.self.invariant c.admit_ahead-answer.ensures.call
          c.admit_ahead-answer.ensures.stands c.check_history.ensures ok h;
    })
