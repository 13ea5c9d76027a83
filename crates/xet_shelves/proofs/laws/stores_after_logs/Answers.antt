use Rattle.xet_shelves.proofs.AfterStores.{after-append, after_finds_files, after_finds_xorbs}
use Rattle.xet_shelves.proofs.AfterStores.{has_file-after, has_xorb-after}
use Rattle.xet_shelves.proofs.TriedStores.{after-gives}
use Rattle.xet_shelves.proofs.laws.stores_after_logs.Goals as goal

pub returns : goal.returns
returns c = record {
  xorbs = after_finds_xorbs;
  files = after_finds_files;
  looks = λ s log h. (has_xorb-after s log h, has_file-after s log h);
  more = after-append;
  gives = λ s t log h. after-gives log s t h;
}
