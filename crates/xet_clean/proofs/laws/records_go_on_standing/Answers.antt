use Rattle.xet_clean.proofs.Accepting.{cleaner-grown, counts-keep, cut-keeps, file-keeps, learning-cleaners, learning-keeps, leaves-keeps, register-keeps, search-keeps}
use Rattle.xet_clean.proofs.laws.records_go_on_standing.Goals as goal

pub returns : goal.returns
returns c = record {
  leaves = leaves-keeps;
  register = register-keeps;
  search = search-keeps;
  cut = cut-keeps;
  file = file-keeps;
  counts = counts-keep;
  learning = learning-keeps;
  cleaners = cleaner-grown;
  cleaners_learning = learning-cleaners;
}
