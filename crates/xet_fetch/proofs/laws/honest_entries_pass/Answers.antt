use Rattle.xet_fetch.proofs.HonestEntries.{honest_entries_pass}
use Rattle.xet_fetch.proofs.laws.honest_entries_pass.Goals as goal

pub returns : goal.returns
returns c = honest_entries_pass
