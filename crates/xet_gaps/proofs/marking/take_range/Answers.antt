use Rattle.std.proofs.Common.{◌≡◌, ◌∙◌, ◌<◌, ◌+◌, ◌-◌, ◌++◌, List, ap, arith, drop, get_or, length-drop, option_to_list, rules, slice_range, subst, sym}
use Rattle.std.proofs.lemmas.List.{get_or_default, take_rest}
use Rattle.xet_base.specs.declared.cas_types.FileRange.{FileRange}
use Rattle.xet_gaps.specs.Gaps.{some_range}
use Rattle.xet_gaps.specs.steps.Touching.{Touched}
use Rattle.xet_gaps.proofs.GapBytes.{range}
use Rattle.xet_gaps.proofs.Marked.{marked_from, untouched}
use Rattle.xet_gaps.proofs.marking.take_range.Goals as goal

pub returns-then-to-from-clause-left : goal.returns-then-to-from-clause-left
returns-then-to-from-clause-left c =
    let a = c.requires.are in
    let same : drop c.args.first c.deref.result.now ≡ drop c.args.first c.args.gaps.now.items = search rules in
    let touched = subst (λ (l : List FileRange). Touched l c.args.range c.find_touched-from.result.0 c.find_touched-from.result.1)
    (take_rest c.deref.result.now c.args.first ∙ same) c.find_touched-from.ensures in
    sym (untouched (drop c.args.first c.args.gaps.now.items) c.args.range c.find_touched-from.result.0 c.find_touched-from.result.1
    a.0 a.1 touched c.if-to-from.true)

pub returns-clause-left : goal.returns-clause-left
returns-clause-left c =
    let xs = c.args.gaps.now.items in
    let a = c.requires.are in
    let same : drop c.args.first c.deref.result.now ≡ drop c.args.first c.args.gaps.now.items = search rules in
    let touched = subst (λ (l : List FileRange). Touched l c.args.range c.find_touched-from.result.0 c.find_touched-from.result.1)
    (take_rest c.deref.result.now c.args.first ∙ same) c.find_touched-from.ensures in
    let none = c.if-to-from.false in
    let some : c.find_touched-from.result.0 < c.find_touched-from.result.1 = omega (arith, none) in
    let front = slice_range xs c.args.first (c.args.first + c.find_touched-from.result.0) in
    let back = drop (c.args.first + c.find_touched-from.result.1) xs in
    let within = touched.within in
    let size = length-drop c.args.first xs in
    let first = c.requires.first in
    let low : c.index.result.now ≡ get_or xs (c.args.first + c.find_touched-from.result.0) (range 0 0) =
    c.index.ensures ∙ get_or_default xs (c.args.first + c.find_touched-from.result.0) c.index.result.now (range 0 0)
    (omega (arith, some, within, size, first)) in
    let high : c.index-2.result.now ≡ get_or xs (c.args.first + c.find_touched-from.result.1 - 1) (range 0 0) =
    c.index-2.ensures ∙ get_or_default xs (c.args.first + c.find_touched-from.result.1 - 1) c.index-2.result.now (range 0 0)
    (omega (arith, some, within, size, first)) in
    c.replace.ensures.left
    ∙ ap (λ (l : List FileRange). front ++ (l ++ (option_to_list c.some_range-after.result ++ back))) c.some_range-before.ensures
    ∙ ap (λ (l : List FileRange). front ++ (some_range c.index.result.now.start c.args.range.start ++ (l ++ back)))
    c.some_range-after.ensures
    ∙ ap (λ (g : FileRange). front ++ (some_range g.start c.args.range.start
    ++ (some_range c.args.range.end c.index-2.result.now.end ++ back))) low
    ∙ ap (λ (g : FileRange). front
    ++ (some_range (get_or xs (c.args.first + c.find_touched-from.result.0) (range 0 0)).start c.args.range.start
    ++ (some_range c.args.range.end g.end ++ back))) high
    ∙ marked_from xs c.args.range (range 0 0) c.args.first c.find_touched-from.result.0 c.find_touched-from.result.1 a.0 a.1
    touched some
