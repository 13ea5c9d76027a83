use Rattle.std.proofs.Common.{arith, ap, length, sym, ◌∙◌}
use Rattle.std.proofs.lemmas.Bool.{false≢true, leb-true}
use Rattle.xet_store.proofs.ChunkMarks.{more_marked, more_within, refilled}
use Rattle.xet_store.proofs.touched_chunks.TouchedChunks.mark.Goals as goal
use Rattle.xet_store.proofs.touched_chunks.TouchedChunks.mark.Goals.{then-self, else-self}
use Rattle.xet_store.proofs.touched_chunks.TouchedChunks.mark.Goals.{then-range-self, else-range-self}

pub mark_range-requires : goal.mark_range-requires
mark_range-requires c =
    omega (arith, c.requires, ap length c.as_mut_slice.ensures.value, ap length c.self.view_is)

pub invariant_of-self : goal.invariant_of-self
invariant_of-self c =
    let t = c.self.inside in
    let was = c.self.invariant in
    let ns = c.mark_range.new.marks in
    let range = c.args.range in
    let same = c.mark_range.auto.marks ∙ ap length c.as_mut_slice.ensures.value in
    let view = ap length c.self.view_is in
    let more = rw c.as_mut_slice.ensures.value at c.mark_range.ensures in
    rw (refilled t.marks.len t.marks.items ns t.marks.ok.0 same, c.min-self-inside.ensures, c.max-self-inside.ensures) (
      omega (arith, same, was.0),
      more_within t.marks.items ns t.low t.high range.start range.end same (omega (arith, c.requires, view)) more was.1,
      λ whole. elim c.if-range-self.branch [
        | then-range-self w ↦ elim c.if-self.branch [
          | then-self v ↦ more_marked t.marks.items ns t.low t.high range.start range.end more
              (was.2 v.if-self.true) (leb-true range.start t.high (sym v.value-is ∙ w.if-range-self.true))
              (leb-true t.low range.end (sym w.self-is ∙ whole))
          | else-self v ↦ absurd (false≢true (sym v.if-self.false ∙ sym v.value-is ∙ w.if-range-self.true))
        ]
        | else-range-self w ↦ absurd (false≢true (sym w.if-range-self.false ∙ sym w.self-is ∙ whole))
      ],
    )

pub returns-clause-length : goal.returns-clause-length
returns-clause-length c =
    let vec = c.self.inside.marks in
    let same = c.mark_range.auto.marks ∙ ap length c.as_mut_slice.ensures.value in
    ap length (refilled vec.len vec.items c.mark_range.new.marks vec.ok.0 same) ∙ same ∙ ap length c.self.view_is

pub returns-clause-marks : goal.returns-clause-marks
returns-clause-marks c =
    let vec = c.self.inside.marks in
    let same = c.mark_range.auto.marks ∙ ap length c.as_mut_slice.ensures.value in
    let more = rw (c.as_mut_slice.ensures.value, c.self.view_is) at c.mark_range.ensures in
    rw (refilled vec.len vec.items c.mark_range.new.marks vec.ok.0 same) more
