-- The store that the input lists.
use Rattle.std.specs.Prelude.{ℕ, ◌≡◌, List, Some}
use Rattle.xet_base.specs.Store.{Store}
use Rattle.xet_document.specs.Document.{HasStore, NoStore}
use Rattle.xet_outside.specs.Told.{SourceTold}

-- what is left of the input is a document of no store
abbrev pub OfNoDocument : SourceTold → Type 0
OfNoDocument before = (text : List ℕ) → before.left ≡ Some text → NoStore text

-- it is a document of this store
abbrev pub IsOfStore : SourceTold → Store → Type 0
IsOfStore before s = (text : List ℕ) → before.left ≡ Some text → HasStore text s
