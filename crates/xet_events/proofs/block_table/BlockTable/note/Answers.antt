use Rattle.std.proofs.Common.{◌≡◌, ℕ, List, ap, get_or}
use Rattle.xet_events.specs.declared.block_table.BlockMark.{BlockMark}
use Rattle.xet_events.specs.BlockTables.{blank, mark_at, rows_of}
use Rattle.xet_events.proofs.BlockMarks.{after_err, after_ok, on_err, row_kept, row_written}
use Rattle.xet_events.proofs.block_table.BlockTable.note.Goals as goal

pub returns-in_err-reach_row-clause-err : goal.returns-in_err-reach_row-clause-err
returns-in_err-reach_row-clause-err c =
    let kept : (p b : ℕ) → mark_at (rows_of c.reach_row.new.rows) p b ≡ mark_at (rows_of c.args.self.now.rows) p b = λ p b. ap (λ (row : List BlockMark). get_or row b blank) (c.reach_row.ensures.same p) in
    on_err _ kept

pub returns-clause-ok : goal.returns-clause-ok
returns-clause-ok c =
    after_ok c.write.result
    (row_written (rows_of c.args.self.now.rows) c.reach_row.new.rows c.args.id c.index_mut.result.now c.write.new.row c.reach_row.ensures.same c.in_ok-reach_row.ensures.long c.index_mut.ensures.value c.args.mark)
    c.write.ensures.ok

pub returns-clause-err : goal.returns-clause-err
returns-clause-err c =
    after_err c.write.result
    (row_kept (rows_of c.args.self.now.rows) c.reach_row.new.rows c.args.id c.index_mut.result.now c.write.new.row c.reach_row.ensures.same c.in_ok-reach_row.ensures.long c.index_mut.ensures.value)
    c.write.ensures.err
