use Rattle.xet_compact.proofs.Alike.{compacted_again, compacted_alike}
use Rattle.xet_compact.proofs.laws.compacted_stores_are_alike.Goals as goal

pub returns : goal.returns
returns c = record { alike = compacted_alike; again = compacted_again }
