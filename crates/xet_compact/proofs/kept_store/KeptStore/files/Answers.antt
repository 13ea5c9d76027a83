use Rattle.std.proofs.Common.{◌≡◌, ◌∙◌, ◌<◌, ◌≤◌, length, ap, sym, subst, arith, List, ◌++◌, ◌∷◌, [], All, map, take, get_or}
use Rattle.std.proofs.lemmas.List.{map_more, map_push, take_all}
use Rattle.std.proofs.lemmas.List.Elements.{All-push}
use Rattle.xet_base.specs.declared.stored.StoredFile.{StoredFile}
use Rattle.xet_audit.specs.declared.raw_store.RawFile.{RawFile}
use Rattle.xet_audit.specs.Raws.{file_of_raw, store_of_raw}
use Rattle.xet_compact.specs.Compacts.{kept_file}
use Rattle.xet_compact.proofs.RawFiles.{file_terms_in}
use Rattle.xet_compact.proofs.kept_store.KeptStore.files.Goals as goal

pub file-requires-clause-terms : goal.file-requires-clause-terms
file-requires-clause-terms c =
    let raw = c.args.self.now.raw.now in
    let i = c.loop-file.file-index in
    let f = c.file-item.result in
    let items = c.as_slice-file-items.ensures in
    let here = subst (λ (fs : List RawFile). i < length fs) items c.loop-file-test.true in
    let at = c.file-item.is ∙ ap (λ (fs : List RawFile). get_or fs i f) items in
    file_terms_in raw i f c.requires.valid here at

pub loop-file-preserved : goal.loop-file-preserved
loop-file-preserved c =
    let raw = c.args.self.now.raw.now in
    let s = store_of_raw raw in
    let i = c.loop-file.file-index in
    let f = c.file-item.result in
    let w = c.loop-file.invariant in
    let new = c.in_ok-file.field-0 in
    let k = c.in_ok-file.ensures in
    let items = c.as_slice-file-items.ensures in
    let inside = subst (λ (fs : List RawFile). i < length fs) items c.loop-file-test.true in
    let at = c.file-item.is ∙ ap (λ (fs : List RawFile). get_or fs i f) items in
    let here = map_more file_of_raw raw.files i f inside ∙ ap (λ (g : RawFile). map file_of_raw (take i raw.files)
    ++ file_of_raw g ∷ []) (sym at) in
    rw c.in_ok-push.ensures.items (record {
      are = map_push file_of_raw c.loop-file.files.items new
          ∙ ap (λ (l : List StoredFile). l ++ file_of_raw new ∷ []) w.are
          ∙ ap (λ (g : StoredFile). map (kept_file s) (map file_of_raw (take i raw.files)) ++ g ∷ []) k.is
          ∙ sym (map_push (kept_file s) (map file_of_raw (take i raw.files)) (file_of_raw f))
          ∙ sym (ap (map (kept_file s)) here);
      uncounted = All-push (λ (r : RawFile). All (λ t. t.bytes ≡ 0) r.terms) c.loop-file.files.items new w.uncounted k.uncounted;
    })

pub returns : goal.returns
returns c =
    let raw = c.args.self.now.raw.now in
    let w = c.loop-file.invariant in
    let past = subst (λ (fs : List RawFile). length fs ≤ c.loop-file.file-index) c.as_slice-file-items.ensures
    c.loop-file-test.false in
    record {
      are = w.are ∙ ap (λ (fs : List RawFile). map (kept_file (store_of_raw raw)) (map file_of_raw fs)) (take_all
          c.loop-file.file-index raw.files past);
      uncounted = w.uncounted;
    }
