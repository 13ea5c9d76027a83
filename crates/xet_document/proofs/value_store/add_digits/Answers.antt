use Rattle.std.proofs.Common.{arith, eqb-true, length, sym}
use Rattle.xet_document.proofs.DocumentChunks.{chunk_of-empty, chunk_of-odd}
use Rattle.xet_document.proofs.value_store.add_digits.Goals as goal
use Rattle.xet_document.proofs.value_store.add_digits.Goals.{then-is_empty-via-then-is_empty, then-is_empty-via-else-is_empty+then-text-ne0}

pub returns-then-is_empty : goal.returns-then-is_empty
returns-then-is_empty c =
    let text = c.args.text.now in
    elim c.then-is_empty.branch [
      | then-is_empty-via-then-is_empty w ↦ rw (chunk_of-empty text (eqb-true (length text) 0 (sym w.if-is_empty.ensures)))
      | then-is_empty-via-else-is_empty+then-text-ne0 w ↦ rw (chunk_of-odd text (omega (arith, w.if-text-ne0)))
    ]
