use Rattle.xet_compact.proofs.Serving.{compacted_serves}
use Rattle.xet_compact.proofs.laws.compacted_stores_serve.Goals as goal

pub returns : goal.returns
returns c = compacted_serves
