-- Documents under the keys of a value, and what they list.
use Rattle.std.proofs.Common.{◌≡◌, ℕ, List, Err, Ok, Some, None, sym, subst, ◌∙◌, ap, codes}
use Rattle.std.specs.Prelude.{IfOk, MatchOption, Option, Result, option_and_then}
use Rattle.serde_json.specs.Data.{Data}
use Rattle.serde_json.specs.Find.{get}
use Rattle.xet_base.specs.declared.error.OutOfMemory.{OutOfMemory}
use Rattle.xet_base.specs.declared.merklehash.MerkleHash.{MerkleHash}
use Rattle.xet_base.specs.Store.{Store}
use Rattle.xet_document.specs.Document.{IsDocumentOf, IsNoDocument, NoData, Reads, listed_store}
use Rattle.xet_mirror_command.specs.declared.input.MirrorInput.{MirrorInput}
use Rattle.xet_mirror_command.specs.declared.input.Stores.{Stores}
use Rattle.xet_mirror_command.specs.MirrorInput.{HasMirror, IsMirrorOf, IsNoMirror, NoMirror, hashes_of_data}
use Rattle.xet_mirror_command.specs.steps.Documents.{AreAgreeing, HasDocument, LacksAgreeing, LacksDocument, LacksStores}
use Rattle.xet_shelves.specs.After.{Agree}

some_same : {A : Type 0} {x y : A} → Some x ≡ Some y → x ≡ y
some_same e = cc

module _ (key : List ℕ) (d : Data) where
  -- the value has no such key
  pub none_at : get key d ≡ None → LacksDocument key d
  none_at none s has = let e = has.part_is in absurd cc

  -- what it has there is no document
  pub no_document_at : (part : Data) → get key d ≡ Some part → IsNoDocument part → LacksDocument key d
  no_document_at part is none s has =
      let same : part ≡ has.part = some_same (sym is ∙ has.part_is) in
      none s (subst (λ (p : Data). IsDocumentOf p s) (sym same) has.of)

  -- it is of one store alone
  pub same_store : (s t : Store) → HasDocument key d s → HasDocument key d t → s ≡ t
  same_store s t a b =
      let same : a.part ≡ b.part = some_same (sym a.part_is ∙ b.part_is) in
      some_same (sym a.of.listed ∙ ap listed_store same ∙ b.of.listed)

module _ (d : Data) where
  pub lacks_source : LacksDocument (codes "source") d → LacksStores d
  lacks_source none s t a b = none s a

  pub lacks_target : LacksDocument (codes "target") d → LacksStores d
  lacks_target none s t a b = none t b

  pub lacks_agreeing : LacksStores d → LacksAgreeing d
  lacks_agreeing none s t a b agree = none s t a b

  -- the two stores don't agree
  pub disagree : (s t : Store) → HasDocument (codes "source") d s → HasDocument (codes "target") d t → (Agree s t → ⊥)
      → LacksAgreeing d
  disagree s t a b not u v has_u has_v agree =
      let first : u ≡ s = same_store (codes "source") d u s has_u a in
      let second : v ≡ t = same_store (codes "target") d v t has_v b in
      not (subst (λ (x : Store). Agree x t) first (subst (λ (x : Store). Agree u x) second agree))

  -- ---- with the list of files

  pub mirror_none_files : option_and_then hashes_of_data (get (codes "files") d) ≡ None → IsNoMirror d
  mirror_none_files none s t files is = let e = is.files_are in absurd cc

  pub mirror_none_stores : LacksAgreeing d → IsNoMirror d
  mirror_none_stores none s t files is =
      none s t (record { part = is.source; part_is = is.source_is; of = is.source_of })
      (record { part = is.target; part_is = is.target_is; of = is.target_of }) is.agree

  pub mirror_of : (stores : Stores) (files : List MerkleHash) → AreAgreeing d stores
      → option_and_then hashes_of_data (get (codes "files") d) ≡ Some files
      → IsMirrorOf d stores.source stores.target files
  mirror_of stores files are is = record {
    source = are.0.source.part;
    source_is = are.0.source.part_is;
    source_of = are.0.source.of;
    target = are.0.target.part;
    target_is = are.0.target.part_is;
    target_of = are.0.target.of;
    files_are = is;
    agree = are.1;
  }

-- ---- of a text

module _ (text : List ℕ) where
  pub no_data : NoData text → NoMirror text
  no_data none s t files has = none has.data_of has.reads

  same_data : (d e : Data) → Reads text d → Reads text e → d ≡ e
  same_data d e a b = some_same (sym a.value ∙ b.value)

  pub no_mirror : (d : Data) → Reads text d → IsNoMirror d → NoMirror text
  no_mirror d reads none s t files has =
      none s t files (subst (λ (e : Data). IsMirrorOf e s t files) (same_data has.data_of d has.reads reads) has.is)

  -- what an answer over its value says of the text
  pub of_value : (d : Data) (answer : Result (Option MirrorInput) OutOfMemory) → Reads text d
      → IfOk answer (λ o. MatchOption o (IsNoMirror d) (λ i. IsMirrorOf d i.stores.source i.stores.target i.files))
      → IfOk answer (λ o. MatchOption o (NoMirror text) (λ i. HasMirror text i.stores.source i.stores.target i.files))
  of_value d (Err e) reads is = tt
  of_value d (Ok None) reads none = no_mirror d reads none
  of_value d (Ok (Some i)) reads is = record { data_of = d; reads = reads; is = is }
