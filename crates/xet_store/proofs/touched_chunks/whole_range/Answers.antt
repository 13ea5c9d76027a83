use Rattle.std.proofs.Common.{◌++◌, ◌∷◌, [], List, arith, ap, ◌∙◌}
use Rattle.xet_base.specs.declared.cas_types.ChunkRange.{ChunkRange}
use Rattle.xet_store.proofs.ChunkMarks.{no_ranges, whole_ranges}
use Rattle.xet_store.proofs.touched_chunks.whole_range.Goals as goal

pub returns-then-high-low : goal.returns-then-high-low
returns-then-high-low c =
    c.new-ranges.ensures
    ∙ no_ranges c.args.marks.now c.args.low c.args.high c.requires.within (omega (arith, c.if-high-low.true))

pub returns : goal.returns
returns c =
    let r : ChunkRange = record { start = c.args.low; end = c.args.high } in
    c.in_ok-push.ensures.ok
    ∙ ap (λ (x : ChunkRange). c.new-ranges.result ++ x ∷ []) c.new.ensures
    ∙ ap (λ (rs : List ChunkRange). rs ++ r ∷ []) c.new-ranges.ensures
    ∙ whole_ranges c.args.marks.now c.args.low c.args.high c.requires.within c.requires.whole
    (omega (arith, c.if-high-low.false))
