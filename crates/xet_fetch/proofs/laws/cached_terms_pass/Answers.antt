use Rattle.xet_fetch.proofs.CachedTerms.{cached_terms_pass}
use Rattle.xet_fetch.proofs.laws.cached_terms_pass.Goals as goal

pub returns : goal.returns
returns c = cached_terms_pass
