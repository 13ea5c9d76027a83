use Rattle.xet_gaps.proofs.TextsRead as texts
use Rattle.xet_gaps.proofs.laws.texts_differ.Goals as goal

pub returns : goal.returns
returns c = texts.texts_differ
