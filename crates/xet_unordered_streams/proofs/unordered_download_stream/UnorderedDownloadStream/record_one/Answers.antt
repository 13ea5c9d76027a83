use Rattle.std.proofs.Common.{refl, subst, sym, false, Ok}
use Rattle.xet_stream_rules.specs.Streams.{IsOpen}
use Rattle.xet_stream_rules.specs.Unordered.{UnorderedView}
use Rattle.xet_unordered_streams.specs.steps.Pulling.{OneCall}
use Rattle.xet_unordered_streams.proofs.Going.{one_call, opens_next, unearly_caught}
use Rattle.xet_unordered_streams.proofs.Ordered.{recorded_any}
use Rattle.xet_unordered_streams.proofs.unordered_download_stream.UnorderedDownloadStream.record_one.Goals as goal

pub check_open-requires : goal.check_open-requires
check_open-requires g c = (subst (λ (z : UnorderedView). IsOpen z.stream) (sym c.self.view_is) c.requires).untold

pub record_given-answer-requires-clause-still : goal.record_given-answer-requires-clause-still
record_given-answer-requires-clause-still g c =
    subst (λ (z : UnorderedView). IsOpen z.stream) (sym c.self.view_is) c.requires

pub record_given-answer-requires-clause-next : goal.record_given-answer-requires-clause-next
record_given-answer-requires-clause-next g c =
    let i = c.self.inside in
    opens_next i.stepper i.delivered.items i.early c.self.invariant
    (subst (λ (z : UnorderedView). IsOpen z.stream) (sym c.self.view_is) c.requires) c.in-Some.next c.in-Some.ensures

pub invariant_of-self : goal.invariant_of-self
invariant_of-self g c =
    let i = c.self.inside in
    recorded_any i.stepper c.record_given-answer.new.self i.delivered.items i.early c.self.invariant
    (subst (λ (z : UnorderedView). IsOpen z.stream) (sym c.self.view_is) c.requires) c.in-Some.next c.in-Some.ensures
    c.record_given-answer.result c.record_given-answer.ensures.call c.check_history.ensures
    c.record_given-answer.ensures.stands

pub returns-in-Some : goal.returns-in-Some
returns-in-Some g c =
    let i = c.self.inside in
    let n : UnorderedView = record {
      stream = c.record_given-answer.new.self;
      delivered = i.delivered.items;
      ended = i.ended;
    } in
    subst (λ (z : UnorderedView). OneCall z n c.record_given-answer.result) c.self.view_is
    (one_call i.stepper i.delivered.items i.early c.self.invariant
    (subst (λ (z : UnorderedView). IsOpen z.stream) (sym c.self.view_is) c.requires) c.in-Some.next c.in-Some.ensures
    c.record_given-answer.new.self c.record_given-answer.result c.record_given-answer.ensures.call
    c.record_given-answer.ensures.stands i.ended)

pub returns-in-None : goal.returns-in-None
returns-in-None g c =
    let i = c.self.inside in
    subst (λ (z : UnorderedView). OneCall z z (Ok false)) c.self.view_is (
      refl,
      unearly_caught i.stepper i.delivered.items i.early c.self.invariant
          (subst (λ (z : UnorderedView). IsOpen z.stream) (sym c.self.view_is) c.requires) i.ended c.in-None.ensures
          c.check_open.ensures.begun,
    )
