use Rattle.std.proofs.Common.{◌≡◌, ◌∙◌, ◌+◌, ◌<◌, ◌∷◌, [], List, None, Some, ap, arith, false, get_or, length, sym, true}
use Rattle.std.specs.Prelude.{slice_get, slice_range}
use Rattle.std.proofs.lemmas.Option.{slice_get-get_or, slice_get_past}
use Rattle.xet_outside.specs.declared.plan.FetchRange.{FetchRange}
use Rattle.xet_offers.specs.Blocks.{lies_in}
use Rattle.xet_offers.proofs.EntryOffers.{one_range, there_at, there_past}
use Rattle.xet_offers.proofs.reconstruction_terms.entry_offers.EntryOffers.offer_at.Goals as goal

-- what the code reads past the ranges
abbrev no_range : FetchRange
no_range = record { chunks = record { start = 0; end = 0 }; bytes = record { start = 0; end = 0 } }

pub returns-then-place-ranges : goal.returns-then-place-ranges
returns-then-place-ranges c =
    let e = c.args.self.now.entry.now in
    let i = c.args.place in
    let read = c.as_slice-ranges.result.now in
    let got : slice_get e.ranges i ≡ None =
    ap (λ (l : List FetchRange). slice_get l i) (sym c.as_slice-ranges.ensures) ∙ slice_get_past read i (omega (arith, c.if-place-ranges.true)) in
    sym (there_past e c.args.term.now i got)

pub returns-then-not-lies_in : goal.returns-then-not-lies_in
returns-then-not-lies_in c =
    let e = c.args.self.now.entry.now in
    let i = c.args.place in
    let read = c.as_slice-ranges.result.now in
    let range = get_or read i no_range in
    let inside : i < length read = omega (arith, c.if-place-ranges.false) in
    let got : slice_get e.ranges i ≡ Some range = ap (λ (l : List FetchRange). slice_get l i) (sym c.as_slice-ranges.ensures) ∙ slice_get-get_or read i no_range inside in
    let lies : lies_in c.args.term.now range ≡ false = sym c.if-not-lies_in.ensures in
    sym (there_at e c.args.term.now i range false got lies)

pub returns : goal.returns
returns c =
    let e = c.args.self.now.entry.now in
    let i = c.args.place in
    let read = c.as_slice-ranges.result.now in
    let range = get_or read i no_range in
    let inside : i < length read = omega (arith, c.if-place-ranges.false) in
    let got : slice_get e.ranges i ≡ Some range = ap (λ (l : List FetchRange). slice_get l i) (sym c.as_slice-ranges.ensures) ∙ slice_get-get_or read i no_range inside in
    let lies : lies_in c.args.term.now range ≡ true = sym c.if-not-lies_in.ensures in
    let block : slice_range read i (i + 1) ≡ range ∷ [] = one_range read i no_range inside in
    (λ j. Some (record { url = e.url; range = range; block = block j; number = i; before = 0 })) ∙ sym (there_at e c.args.term.now i range true got lies)
