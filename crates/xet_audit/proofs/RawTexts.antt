-- The raw store of a text.
use Rattle.std.proofs.Common.{◌≡◌, List, ℕ, Option, Some, None, codes, sym, ◌∙◌, subst, inl, inr}
use Rattle.std.specs.Prelude.{◌⊎◌, MatchOption, Result, Ok, Err, IfOk, option_and_then}
use Rattle.serde_json.specs.Data.{Data}
use Rattle.serde_json.specs.Find.{as_object, get}
use Rattle.xet_base.specs.Store.{Store}
use Rattle.xet_document.specs.Document.{HasListing, LacksPart, NoData, Reads}
use Rattle.xet_document.specs.Listings.{listing_store}
use Rattle.xet_document.specs.declared.listing.Listing.{Listing}
use Rattle.xet_audit.specs.declared.raw_store.RawStore.{RawStore}
use Rattle.xet_audit.specs.Raws.{HasRaw, Lists, ListsNone, NoRaw, store_of_raw}
use Rattle.xet_audit.proofs.Members.{no_files_list, no_xorbs_list}
use Rattle.xet_audit.proofs.Strict.{raw_from_strict}

same_data : (x y : Data) → ◌≡◌ {A = Option Data} (Some x) (Some y) → x ≡ y
same_data x y e = cc

-- a text reads as one value, so its raw store is that of this value
pub by_value : {E : Type 0} (text : List ℕ) (d : Data) (r : Result (Option RawStore) E) → Reads text d → IfOk r (λ o. MatchOption o (ListsNone d) (λ raw. Lists d (store_of_raw raw)))
    → IfOk r (λ o. MatchOption o (NoRaw text) (λ raw. HasRaw text (store_of_raw raw)))
by_value text d (Err e) reads h = tt
by_value text d (Ok None) reads h = λ s has. h s (subst (λ (x : Data). Lists x s) (same_data has.data_of d (sym has.reads.value ∙ reads.value)) has.lists)
by_value text d (Ok (Some raw)) reads h = record { data_of = d; reads = reads; lists = h }

pub no_data : (text : List ℕ) → NoData text → NoRaw text
no_data text none s has = none has.data_of has.reads

-- a text that lacks xorbs or files lists none
pub lacks_raw : (text : List ℕ) → LacksPart text → NoRaw text
lacks_raw text l s has = go l.lacks
  where
    lists : Lists l.data_of s
    lists = subst (λ (x : Data). Lists x s) (same_data has.data_of l.data_of (sym has.reads.value ∙ l.value)) has.lists

    go : (option_and_then as_object (get (codes "xorbs") l.data_of) ≡ None) ⊎ (option_and_then as_object (get (codes "files") l.data_of) ≡ None) → ⊥
    go (inl none) = no_xorbs_list l.data_of none s lists
    go (inr none) = no_files_list l.data_of none s lists

-- what one pass lists
pub listing_raw : (text : List ℕ) (s t : Store) → HasListing text s → s ≡ t → HasRaw text t
listing_raw text s t l e = subst (HasRaw text) e (record {
  data_of = l.data_of;
  reads = l.reads;
  lists = record { listed = raw_from_strict l.data_of s l.listed; no_float = l.no_float };
})

pub of_listing : {E : Type 0} (text : List ℕ) (l : Listing) (r : Result (Option RawStore) E) → HasListing text (listing_store l)
    → IfOk r (λ o. MatchOption o ⊥ (λ raw. store_of_raw raw ≡ listing_store l)) → IfOk r (λ o. MatchOption o (NoRaw text) (λ raw. HasRaw text (store_of_raw raw)))
of_listing text l (Err e) has h = tt
of_listing text l (Ok None) has h = absurd h
of_listing text l (Ok (Some raw)) has h = listing_raw text (listing_store l) (store_of_raw raw) has (sym h)
