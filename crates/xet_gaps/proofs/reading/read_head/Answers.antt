use Rattle.std.proofs.Common.{◌≡◌, ◌++◌, codes, rules}
use Rattle.xet_gaps.proofs.TextPieces.{no_head_size}
use Rattle.xet_gaps.proofs.reading.read_head.Goals as goal

pub returns-in_err-length : goal.returns-in_err-length
returns-in_err-length c =
    let at : c.args.text.now ≡ codes "xet-gaps 1\n" ++ c.in_ok-words.words.now = search rules in
    rw c.from_residual-in_err-length.ensures (no_head_size c.args.text.now c.in_ok-words.words.now c.in_ok-file.number.now
    c.in_ok-file.file at (rw c.in_ok-file.was at c.read_hash.ensures) (rw c.in_err-length.was at c.read_number.ensures))
