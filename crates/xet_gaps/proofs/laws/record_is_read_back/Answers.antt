use Rattle.std.proofs.Common.{◌≡◌, rules}
use Rattle.xet_gaps.specs.Texts.{record_text}
use Rattle.xet_gaps.proofs.TextsRead.{read_back}
use Rattle.xet_gaps.proofs.laws.record_is_read_back.Goals as goal

pub returns-clause-same : goal.returns-clause-same
returns-clause-same c =
    let text : c.as_str.result.now ≡ record_text c.args.gaps.now = search rules in
    read_back c.args.gaps.now c.as_str.result.now c.from_text.result c.to_text.ensures.is text c.from_text.ensures.record_of
    c.from_text.ensures.is
