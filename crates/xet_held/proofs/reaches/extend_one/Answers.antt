use Rattle.std.proofs.Common.{◌≡◌, ◌∙◌, ap, sym, subst, arith, List, [], ℕ, ◌<◌, length, Some, is_some, get_or, set, max}
use Rattle.std.specs.Prelude.{slice_index}
use Rattle.std.proofs.lemmas.List.{get_or_default}
use Rattle.std.proofs.lemmas.Option.{same_Some}
use Rattle.xet_store.specs.Refusals.{stored_term}
use Rattle.xet_held.proofs.Reached.{extends_one}
use Rattle.xet_held.proofs.reaches.extend_one.Goals as goal

-- the number that was found is the term's place
pub unwrap-place-requires : goal.unwrap-place-requires
unwrap-place-requires c = ap is_some (c.number_of.ensures ∙ c.requires.within.found)

pub index_mut-requires : goal.index_mut-requires
index_mut-requires c =
    let w = c.requires.within in
    let place = same_Some c.unwrap-place.result w.place (sym c.unwrap-place.ensures ∙ c.number_of.ensures ∙ w.found) in
    let inside = w.inside in
    omega (arith, place, inside)

pub extend-requires : goal.extend-requires
extend-requires c =
    let w = c.requires.within in
    let place = same_Some c.unwrap-place.result w.place (sym c.unwrap-place.ensures ∙ c.number_of.ensures ∙ w.found) in
    let inside = w.inside in
    let some = w.some in
    let old = c.index_mut.result.now in
    let at : old ≡ get_or c.args.reaches.now.items w.place old = c.index_mut.ensures.value ∙ ap (λ (n : ℕ). get_or
    c.args.reaches.now.items n old) place in
    let long = ap length (at ∙ get_or_default c.args.reaches.now.items w.place old [] inside) in
    omega (arith, long, some)

pub returns : goal.returns
returns c =
    let w = c.requires.within in
    let place = same_Some c.unwrap-place.result w.place (sym c.unwrap-place.ensures ∙ c.number_of.ensures ∙ w.found) in
    let inside = w.inside in
    let some = w.some in
    let old = c.index_mut.result.now in
    let at : old ≡ get_or c.args.reaches.now.items w.place old = c.index_mut.ensures.value ∙ ap (λ (n : ℕ). get_or
    c.args.reaches.now.items n old) place in
    let long = ap length (at ∙ get_or_default c.args.reaches.now.items w.place old [] inside) in
    rw (place, c.extend.ensures) (extends_one c.args.index.now c.args.reaches.now.items (stored_term c.args.term.now) w.place
    old c.requires.apart w.found inside at (omega (arith, long, some)))
