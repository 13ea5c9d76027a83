use Rattle.std.proofs.Common.{sym}
use Rattle.xet_offers.proofs.reconstruction_terms.listed_offers.find_near.Goals as goal

pub returns-in-Some : goal.returns-in-Some
returns-in-Some c = sym c.in-Some.ensures
