use Rattle.serde_json.specs.View.{view}
use Rattle.xet_document.proofs.TextStores.{by_value}
use Rattle.xet_document.proofs.text_store.tree_store.Goals as goal

pub returns-in-Some : goal.returns-in-Some
returns-in-Some c = by_value _ (view c.in-Some.value) c.store_of.result (rw c.in-Some.is at c.in_ok-value.ensures) c.store_of.ensures

pub returns-in-None : goal.returns-in-None
returns-in-None c = λ s has. (rw c.in-None.is at c.in_ok-value.ensures) has.data_of has.reads
