use Rattle.std.proofs.Common.{arith, rules, ◌≡◌, get_or, false, reverse, length, ◌-◌, ap, sym, ◌∙◌}
use Rattle.std.specs.Prelude.{filter}
use Rattle.std.specs.List.{range_with_len}
use Rattle.std.proofs.lemmas.List.{get_or_default}
use Rattle.xet_outside.specs.Plan.{ranges_of}
use Rattle.xet_store.proofs.ChunkMarks.{marked_before, none_before, none_marked}
use Rattle.xet_store.proofs.touched_chunks.ranges_within.Goals as goal

pub loop-chunk-init : goal.loop-chunk-init
loop-chunk-init c =
    let ms = c.args.marks.now in
    let n = c.args.high in
    ap reverse c.new-backwards.ensures.items ∙ sym (ap ranges_of (none_marked ms n (length ms - n) c.requires.within.after))

pub loop-chunk-preserved-in-Continue-1 : goal.loop-chunk-preserved-in-Continue-1
loop-chunk-preserved-in-Continue-1 c =
    let ms = c.args.marks.now in
    let k = c.loop-chunk.chunk in
    let b = c.is_marked.result in
    let i = c.requires.within.inside in
    let some = c.loop-chunk-test.true in
    marked_before ms k b (reverse c.loop-chunk.backwards.items)
    (reverse c.add_before.new.backwards.items) (omega (arith, some)) (omega (arith, i)) c.if-is_marked.true
    (c.is_marked.ensures ∙ get_or_default ms (k - 1) false b (omega (arith, i, some))) c.in_ok-add_before.ensures
    c.loop-chunk.invariant

pub returns : goal.returns
returns c =
    let ms = c.args.marks.now in
    let k = c.loop-chunk.chunk in
    let low = c.loop-chunk-test.false in
    let w = c.requires.within in
    let order = w.order in
    let inside = w.inside in
    let e : reverse c.loop-chunk.backwards.items
    ≡ ranges_of (filter (λ j. get_or ms j false) (range_with_len 0 (length ms))) =
    c.loop-chunk.invariant
    ∙ ap ranges_of (none_before ms k (omega (arith, low, order, inside)) (λ j h. w.before j (omega (arith, h, low)))) in
    search rules
