-- What was found of a document, with one more member.
use Rattle.std.proofs.Common.{◌≡◌, ◌==◌, List, ℕ, codes, false, Option, None, Some, ap, slice_index, sym, ◌∙◌}
use Rattle.std.proofs.lemmas.Bool.{false≢true}
use Rattle.std.specs.BTreeMap.{BTreeMap}
use Rattle.serde_json.specs.Data.{Data, Members, object, put}
use Rattle.serde_json.specs.Written.{has_float}
use Rattle.serde_json.proofs.Views.{get_member-put, get_member-put_other}
use Rattle.xet_document.specs.declared.plain_files.ListedFile.{ListedFile}
use Rattle.xet_document.specs.declared.plain_store.Found.{Found}
use Rattle.xet_document.specs.declared.plain_xorbs.ListedXorbs.{ListedXorbs}
use Rattle.xet_document.specs.declared.text_key.TextKey.{TextKey}
use Rattle.xet_document.specs.steps.Reads.{Holds, IsFound, ListsFiles, ListsXorbs}
use Rattle.xet_document.proofs.Floats.{member_free}
use Rattle.xet_document.proofs.PlainDocuments.{files_free, xorbs_free}

files_differ : codes "files" ≡ codes "xorbs" → ⊥
files_differ e = false≢true (sym (ap (λ s. slice_index s 0 == 102) e))

-- under another key
pub still_holds : {F : Type 0} (key k : List ℕ) (IsListed : Members → F → Type 0) (d : Data) (ms : Members) (o : Option F) → (key ≡ k → ⊥) → Holds key IsListed ms o → Holds key IsListed (put k d ms) o
still_holds key k IsListed d ms None other h = get_member-put_other key k d ms other ∙ h
still_holds key k IsListed d ms (Some f) other h = (h.0, get_member-put_other key k d ms other ∙ h.1, h.2)

-- under the key itself
pub now_holds : {F : Type 0} (key : List ℕ) (IsListed : Members → F → Type 0) (own ms : Members) (f : F) → IsListed own f → Holds key IsListed (put key (object own) ms) (Some f)
now_holds key IsListed own ms f lists = (own, get_member-put key (object own) ms, lists)

-- a member with a key of neither kind
pub found_other : (k : List ℕ) (d : Data) (ms : Members) (found : Found) → (codes "xorbs" ≡ k → ⊥) → (codes "files" ≡ k → ⊥) → has_float d ≡ false → IsFound ms found → IsFound (put k d ms) found
found_other k d ms found no_xorbs no_files free h = record {
  xorbs = still_holds (codes "xorbs") k ListsXorbs d ms found.xorbs no_xorbs h.xorbs;
  files = still_holds (codes "files") k ListsFiles d ms found.files no_files h.files;
  no_float = member_free k d ms h.no_float free;
}

-- the xorbs
pub found_xorbs : (own ms : Members) (l : ListedXorbs) (old new : Found) → new.xorbs ≡ Some l → new.files ≡ old.files → ListsXorbs own l → IsFound ms old → IsFound (put (codes "xorbs") (object own) ms) new
found_xorbs own ms l old new xorbs files lists h = record {
  xorbs = rw xorbs (now_holds (codes "xorbs") ListsXorbs own ms l lists);
  files = rw files (still_holds (codes "files") (codes "xorbs") ListsFiles (object own) ms old.files files_differ h.files);
  no_float = member_free (codes "xorbs") (object own) ms h.no_float (xorbs_free (λ k. k.text.now) l.joined own l.places.entries lists);
}

-- the files
pub found_files : (own ms : Members) (l : BTreeMap TextKey ListedFile) (old new : Found) → new.files ≡ Some l → new.xorbs ≡ old.xorbs → ListsFiles own l → IsFound ms old → IsFound (put (codes "files") (object own) ms) new
found_files own ms l old new files xorbs lists h = record {
  xorbs = rw xorbs (still_holds (codes "xorbs") (codes "files") ListsXorbs (object own) ms old.xorbs (λ e. files_differ (sym e)) h.xorbs);
  files = rw files (now_holds (codes "files") ListsFiles own ms l lists);
  no_float = member_free (codes "files") (object own) ms h.no_float (files_free (λ k. k.text.now) own l.entries lists);
}
