use Rattle.serde_json.specs.View.{view}
use Rattle.xet_audit.proofs.RawTexts.{by_value, no_data}
use Rattle.xet_audit.proofs.raw_text.tree_raw.Goals as goal

pub returns-in-Some-clause-listed : goal.returns-in-Some-clause-listed
returns-in-Some-clause-listed c = by_value _ (view c.in-Some.value) c.raw_of.result (rw c.in-Some.is at c.in_ok-value.ensures) c.raw_of.ensures.listed

pub returns-in-None-clause-listed : goal.returns-in-None-clause-listed
returns-in-None-clause-listed c = no_data _ (rw c.in-None.is at c.in_ok-value.ensures)
