use Rattle.std.proofs.Common.{◌≡◌, ◌<◌, All, length, rules, subst}
use Rattle.xet_gaps.proofs.writing.recall.Goals as goal

pub returns-clause-hash : goal.returns-clause-hash
returns-clause-hash c =
    let same : c.as_slice.result.now ≡ c.args.file.now.0 = search rules in
    let size : length c.args.file.now.0 ≡ 32 = search rules in
    (size, subst (All (λ b. b < 256)) same c.recall_bytes.ensures)
