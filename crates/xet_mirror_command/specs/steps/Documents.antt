-- Documents of stores under the keys of a value.
use Rattle.std.specs.Prelude.{ℕ, ◌≡◌, List, Some, codes}
use Rattle.serde_json.specs.Data.{Data}
use Rattle.serde_json.specs.Find.{get}
use Rattle.xet_base.specs.Store.{Store}
use Rattle.xet_document.specs.Document.{IsDocumentOf}
use Rattle.xet_shelves.specs.After.{Agree}
use Rattle.xet_mirror_command.specs.declared.input.Stores.{Stores}

-- the value has a document of this store under the key
pub record HasDocument (key : List ℕ) (d : Data) (s : Store) : Type 0 where
  pub part : Data
  pub part_is : get key d ≡ Some part
  pub of : IsDocumentOf part s

-- it has none of any store there
abbrev pub LacksDocument : List ℕ → Data → Type 0
LacksDocument key d = (s : Store) → HasDocument key d s → ⊥

-- the value has documents of these two stores
pub record AreStoresOf (d : Data) (stores : Stores) : Type 0 where
  pub source : HasDocument (codes "source") d stores.source
  pub target : HasDocument (codes "target") d stores.target

-- it has not two such documents
abbrev pub LacksStores : Data → Type 0
LacksStores d = (s t : Store) → HasDocument (codes "source") d s → HasDocument (codes "target") d t → ⊥

-- the same, of stores that agree
abbrev pub AreAgreeing : Data → Stores → Type 0
AreAgreeing d stores = AreStoresOf d stores × Agree stores.source stores.target

abbrev pub LacksAgreeing : Data → Type 0
LacksAgreeing d = (s t : Store) → HasDocument (codes "source") d s → HasDocument (codes "target") d t → Agree s t → ⊥
