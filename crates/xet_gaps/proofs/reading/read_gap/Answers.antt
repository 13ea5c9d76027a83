use Rattle.std.proofs.Common.{◌≡◌, ◌<◌, ◌^◌, rules}
use Rattle.xet_gaps.proofs.TextPieces.{no_end}
use Rattle.xet_gaps.proofs.reading.read_gap.Goals as goal

pub returns-in_err-end : goal.returns-in_err-end
returns-in_err-end c =
    let small : c.in_ok-start.start < 2 ^ 64 = search rules in
    rw c.from_residual-in_err-end.ensures (no_end c.args.text.now c.in_ok-start.number.now c.in_ok-start.start small
    (rw c.in_ok-start.was at c.read_number.ensures) (rw c.in_err-end.was at c.read_number-2.ensures))
