use Rattle.xet_clean_parts.proofs.CallerLemmas.{fixed-cuts-file}
use Rattle.xet_clean.proofs.laws.fixed_cutters_cut_alike.Goals as goal

pub returns : goal.returns
returns c = fixed-cuts-file
