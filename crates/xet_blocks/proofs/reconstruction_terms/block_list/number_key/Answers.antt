use Rattle.std.proofs.Common.{◌≡◌, ℕ, List, None, ap, get_or}
use Rattle.std.specs.Prelude.{Option}
use Rattle.xet_blocks.specs.declared.reconstruction_terms.block_list.BlockKey.{BlockKey}
use Rattle.xet_blocks.proofs.BlockNumbers.{after_err, after_ok, on_err, row_kept, row_written}
use Rattle.xet_blocks.specs.steps.BlockKeys.{number_at, rows_of}
use Rattle.xet_blocks.proofs.reconstruction_terms.block_list.number_key.Goals as goal

pub returns-in_err-reach_row-clause-err : goal.returns-in_err-reach_row-clause-err
returns-in_err-reach_row-clause-err c =
    let kept : (k : BlockKey) → number_at (rows_of c.reach_row.new.rows) k ≡ number_at (rows_of c.args.rows.now) k = λ k. ap (λ (row : List (Option ℕ)). get_or row k.number None) (c.reach_row.ensures.same k.place) in
    on_err _ kept

pub returns-clause-ok : goal.returns-clause-ok
returns-clause-ok c =
    after_ok c.write.result
    (row_written (rows_of c.args.rows.now) c.reach_row.new.rows c.args.key c.index_mut.result.now c.write.new.row c.reach_row.ensures.same c.in_ok-reach_row.ensures.long c.index_mut.ensures.value c.args.number)
    c.write.ensures.ok

pub returns-clause-err : goal.returns-clause-err
returns-clause-err c =
    after_err c.write.result
    (row_kept (rows_of c.args.rows.now) c.reach_row.new.rows c.args.key c.index_mut.result.now c.write.new.row c.reach_row.ensures.same c.in_ok-reach_row.ensures.long c.index_mut.ensures.value)
    c.write.ensures.err
