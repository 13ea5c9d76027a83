use Rattle.xet_blocks.proofs.BlockUrls as urls
use Rattle.xet_blocks.proofs.laws.url_of_first.Goals as goal

pub returns : goal.returns
returns c = urls.url_of_first
