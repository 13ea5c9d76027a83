use Rattle.std.proofs.Common.{◌≡◌, ◌++◌, ◌∷◌, [], ◌∙◌, ℕ, List, true, false, ap, subst, sym}
use Rattle.xet_stream_rules.specs.Streams.{IsOpen}
use Rattle.xet_stream_rules.specs.Unordered.{UnorderedView}
use Rattle.xet_unordered_streams.specs.Placing.{IsPlacing}
use Rattle.xet_unordered_streams.specs.steps.Giving.{AddsPlace, PlaceFor}
use Rattle.xet_unordered_streams.proofs.Gives.{placing_added}
use Rattle.xet_unordered_streams.proofs.Placings.{placing_same}
use Rattle.xet_unordered_streams.proofs.unordered_download_stream.UnorderedDownloadStream.add_place.Goals as goal

pub invariant_of-self : goal.invariant_of-self
invariant_of-self g c =
    let i = c.self.inside in
    subst (λ (xs : List ℕ). IsPlacing i.stepper xs i.early) (sym c.reserve.ensures.items) c.self.invariant

pub invariant_of-self-then-not-add : goal.invariant_of-self-then-not-add
invariant_of-self-then-not-add g c =
    let i = c.self.inside in
    subst (λ (xs : List ℕ). IsPlacing i.stepper xs c.add.new.self) (sym c.reserve.ensures.items)
    (placing_same i.stepper i.delivered.items i.early c.add.new.self (c.add.ensures.kept c.if-not-add.true)
    c.self.invariant)

pub invariant_of-self-2 : goal.invariant_of-self-2
invariant_of-self-2 g c =
    let i = c.self.inside in
    let pushed : c.push_reserved.new.self.items ≡ i.delivered.items ++ c.args.place ∷ [] =
    c.push_reserved.ensures.items ∙ ap (λ (xs : List ℕ). xs ++ c.args.place ∷ []) c.reserve.ensures.items in
    subst (λ (xs : List ℕ). IsPlacing i.stepper xs c.add.new.self) (sym pushed)
    (placing_added i.stepper i.delivered.items i.early i.ended c.self.invariant
    (subst (λ (z : UnorderedView). IsOpen z.stream) (sym c.self.view_is) c.requires.still) c.args.number c.args.place
    (subst (λ (z : UnorderedView). PlaceFor z c.args.number c.args.place) (sym c.self.view_is) c.requires.place)
    c.add.new.self
    (c.add.ensures.added c.if-not-add.false))

pub returns-then-is_err : goal.returns-then-is_err
returns-then-is_err g c =
    let i = c.self.inside in
    subst (λ (z : UnorderedView). AddsPlace z (record {
      stream = i.stepper;
      delivered = c.reserve.new.self.items;
      ended = i.ended;
    }) c.args.place false) c.self.view_is
    (ap (λ (xs : List ℕ). record { stream = i.stepper; delivered = xs; ended = i.ended }) c.reserve.ensures.items)

pub returns-then-not-add : goal.returns-then-not-add
returns-then-not-add g c =
    let i = c.self.inside in
    subst (λ (z : UnorderedView). AddsPlace z (record {
      stream = i.stepper;
      delivered = c.reserve.new.self.items;
      ended = i.ended;
    }) c.args.place false) c.self.view_is
    (ap (λ (xs : List ℕ). record { stream = i.stepper; delivered = xs; ended = i.ended }) c.reserve.ensures.items)

pub returns : goal.returns
returns g c =
    let i = c.self.inside in
    let pushed : c.push_reserved.new.self.items ≡ i.delivered.items ++ c.args.place ∷ [] =
    c.push_reserved.ensures.items ∙ ap (λ (xs : List ℕ). xs ++ c.args.place ∷ []) c.reserve.ensures.items in
    subst (λ (z : UnorderedView). AddsPlace z (record {
      stream = i.stepper;
      delivered = c.push_reserved.new.self.items;
      ended = i.ended;
    }) c.args.place true) c.self.view_is
    (ap (λ (xs : List ℕ). record { stream = i.stepper; delivered = xs; ended = i.ended }) pushed)
