use Rattle.std.proofs.Common.{◌≡◌, ◌∙◌, ◌+◌, ◌-◌, ◌<◌, ap, sym, subst, arith, List, ℕ, [], ◌∷◌, length, drop, map, All}
use Rattle.std.proofs.lemmas.List.{drop_all, drop_more}
use Rattle.std.proofs.lemmas.List.Elements.{All-cons, All-nil}
use Rattle.hex.specs.Hex.{encode_lower}
use Rattle.serde_json.specs.Data.{Data, Members, array, object, put}
use Rattle.serde_json.specs.View.{members_view}
use Rattle.serde_json.proofs.Views.{view-Object}
use Rattle.xet_base.specs.declared.mdb_shard.FileDataSequenceEntry.{FileDataSequenceEntry}
use Rattle.xet_base.specs.declared.stored.StoredFile.{StoredFile}
use Rattle.xet_store.specs.Refusals.{stored_term}
use Rattle.xet_audit.specs.declared.raw_store.RawFile.{RawFile}
use Rattle.xet_audit.specs.Raws.{file_of_raw}
use Rattle.xet_compact.specs.Documents.{IsListableFile, IsListableTerm, file_members, term_items}
use Rattle.xet_compact.proofs.RawFiles.{listable_file}
use Rattle.xet_compact.proofs.documents.files_value.Goals as goal

pub loop-i-init : goal.loop-i-init
loop-i-init c =
    let fs = c.args.files.now in
    let none = drop_all (length fs) fs (omega arith) in
    record {
      put = ap members_view c.new-members.ensures.empty ∙ sym (ap (λ (l : List RawFile). file_members (map file_of_raw l)) none);
      told = subst (λ (l : List RawFile). All IsListableFile (map file_of_raw l)) (sym none) (All-nil IsListableFile);
    }

pub loop-i-preserved : goal.loop-i-preserved
loop-i-preserved c =
    let fs = c.args.files.now in
    let k = c.loop-i.i in
    let f = c.index-files-i.result in
    let w = c.loop-i.invariant in
    let here : k - 1 < length fs = omega arith in
    let back : k - 1 + 1 ≡ k = omega arith in
    let more : drop (k - 1) fs ≡ f ∷ drop k fs = drop_more fs (k - 1) f here ∙ ap (λ (y : RawFile). y ∷ drop (k - 1 + 1) fs)
    (sym c.index-files-i.is) ∙ ap (λ (n : ℕ). f ∷ drop n fs) back in
    let value = c.in_ok-terms.ensures.value ∙ ap (λ (ts : List FileDataSequenceEntry). array (term_items (map stored_term ts)))
    c.as_slice.ensures in
    let terms = subst (λ (ts : List FileDataSequenceEntry). All (λ t. IsListableTerm (stored_term t)) ts) c.as_slice.ensures
    c.in_ok-terms.ensures.told in
    record {
      put = c.in_ok-put_hash.ensures.put
          ∙ ap (λ (d : Data). put (encode_lower f.hash.0) d (members_view c.loop-i.members.entries)) value
          ∙ ap (λ (ms : Members). put (encode_lower f.hash.0) (array (term_items (map stored_term f.terms))) ms) w.put
          ∙ sym (ap (λ (l : List RawFile). file_members (map file_of_raw l)) more);
      told = subst (λ (l : List RawFile). All IsListableFile (map file_of_raw l)) (sym more) (All-cons IsListableFile
          (file_of_raw f) (map file_of_raw (drop k fs)) (listable_file f c.put_hash.ensures.told terms) w.told);
    }

pub returns-clause-value : goal.returns-clause-value
returns-clause-value c =
    let none : c.loop-i.i ≡ 0 = omega arith in
    view-Object c.loop-i.members ∙ ap object (c.loop-i.invariant.put ∙ ap (λ (n : ℕ). file_members (map file_of_raw (drop n
    c.args.files.now))) none)

pub returns-clause-told : goal.returns-clause-told
returns-clause-told c =
    let none : c.loop-i.i ≡ 0 = omega arith in
    subst (λ (n : ℕ). All IsListableFile (map file_of_raw (drop n c.args.files.now))) none c.loop-i.invariant.told
