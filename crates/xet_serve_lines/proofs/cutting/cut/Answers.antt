use Rattle.std.proofs.Common.{◌∙◌, ◌+◌, ◌<◌, ap, arith, length, rules, take}
use Rattle.std.specs.Prelude.{Some}
use Rattle.std.proofs.lemmas.List.{take_rest}
use Rattle.xet_serve_lines.proofs.Buffers.{cut_none, cut_some, place_within}
use Rattle.xet_serve_lines.proofs.cutting.cut.Goals as goal

pub returns-then-place-text-clause-parts : goal.returns-then-place-text-clause-parts
returns-then-place-text-clause-parts c =
    let k = c.first_place-place.result in
    cut_none c.args.sep k c.args.text.now c.first_place-place.ensures (omega arith)

pub returns-clause-parts : goal.returns-clause-parts
returns-clause-parts c =
    let k = c.first_place-place.result in
    let w = place_within c.args.sep c.args.text.now in
    let e = c.first_place-place.ensures in
    let inside : k < length c.args.text.now = omega (arith, w, e) in
    ap (λ l. Some (take k c.args.text.now, l)) (take_rest c.args.text.now (k + 1))
    ∙ cut_some c.args.sep k c.args.text.now e inside

pub slice_bounds-result-count : goal.slice_bounds-result-count
slice_bounds-result-count c =
    let w = place_within c.args.sep c.args.text.now in
    let e = c.first_place-place.ensures in
    let n = c.if-place-text.false in
    omega (arith, w, e, n)

pub slice_bounds-result-start : goal.slice_bounds-result-start
slice_bounds-result-start c =
    let w = place_within c.args.sep c.args.text.now in
    let e = c.first_place-place.ensures in
    let n = c.if-place-text.false in
    omega (arith, w, e, n)

pub overflow_add-result : goal.overflow_add-result
overflow_add-result c =
    let w = place_within c.args.sep c.args.text.now in
    let e = c.first_place-place.ensures in
    let n = c.if-place-text.false in
    let inside : c.first_place-place.result < length c.args.text.now = omega (arith, w, e, n) in
    search rules
