use Rattle.std.proofs.Common.{inl, refl, subst, sym}
use Rattle.xet_stream_rules.specs.Streams.{IsOpen}
use Rattle.xet_stream_rules.specs.Unordered.{UnorderedView}
use Rattle.xet_unordered_streams.specs.Items.{FailsDue}
use Rattle.xet_unordered_streams.specs.steps.Giving.{KeepsOn}
use Rattle.xet_unordered_streams.proofs.Gives.{adds_none, adds_on, adds_one, fails_it, gives_it}
use Rattle.xet_unordered_streams.proofs.unordered_download_stream.UnorderedDownloadStream.give.Goals as goal

pub add_place-requires-clause-place : goal.add_place-requires-clause-place
add_place-requires-clause-place g c = c.requires.due.at

pub fail-requires-clause-still : goal.fail-requires-clause-still
fail-requires-clause-still g c =
    let same = adds_none c.args.self.now c.add_place.new.self c.args.due.place c.add_place.result c.if-not-add_place.true
    c.add_place.ensures in
    subst (λ (z : UnorderedView). IsOpen z.stream) (sym same) c.requires.still

pub returns-then-not-add_place-clause-gives : goal.returns-then-not-add_place-clause-gives
returns-then-not-add_place-clause-gives g c =
    let same = adds_none c.args.self.now c.add_place.new.self c.args.due.place c.add_place.result c.if-not-add_place.true
    c.add_place.ensures in
    subst (λ (z : UnorderedView). FailsDue z c.fail.new.self c.fail.result) same
    (fails_it c.add_place.new.self c.fail.new.self _ c.fail.result (inl refl) c.fail.ensures.told)

pub returns-then-not-add_place-clause-stands : goal.returns-then-not-add_place-clause-stands
returns-then-not-add_place-clause-stands g c =
    let same = adds_none c.args.self.now c.add_place.new.self c.args.due.place c.add_place.result c.if-not-add_place.true
    c.add_place.ensures in
    subst (λ (z : UnorderedView). KeepsOn z c.fail.new.self) same c.fail.ensures.stands

pub returns-clause-gives : goal.returns-clause-gives
returns-clause-gives g c = gives_it c.args.self.now c.add_place.new.self c.requires.still c.args.due c.requires.due
    (adds_one c.args.self.now c.add_place.new.self c.args.due.place c.add_place.result c.if-not-add_place.false
    c.add_place.ensures)

pub returns-clause-stands : goal.returns-clause-stands
returns-clause-stands g c = adds_on c.args.self.now c.add_place.new.self c.args.due.place c.add_place.result
    c.add_place.ensures
