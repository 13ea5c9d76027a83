use Rattle.std.proofs.Common.{◌≡◌, ◌∙◌, ◌<◌, ◌≤◌, ap, sym, subst, List, ◌++◌, ◌∷◌, [], All, AllPairs, false, get_or, length, map, take}
use Rattle.std.proofs.lemmas.List.{map_more, take_all}
use Rattle.xet_base.specs.declared.merklehash.MerkleHash.{MerkleHash}
use Rattle.xet_base.specs.declared.mdb_shard.FileDataSequenceEntry.{FileDataSequenceEntry}
use Rattle.xet_base.specs.declared.stored.StoredFile.{StoredFile}
use Rattle.xet_base.specs.Hashes.{hash_eq}
use Rattle.xet_store.specs.Refusals.{stored_term}
use Rattle.xet_audit.specs.declared.raw_store.RawFile.{RawFile}
use Rattle.xet_audit.specs.Raws.{file_of_raw, store_of_raw}
use Rattle.xet_held.specs.Reaches.{Extends, IsWithin}
use Rattle.xet_compact.specs.steps.Reaches.{AreReached}
use Rattle.xet_compact.proofs.Placed.{hashes_apart}
use Rattle.xet_compact.proofs.RawFiles.{terms_in}
use Rattle.xet_compact.proofs.Reached.{reached_more, within_of}
use Rattle.xet_compact.proofs.reaches.reaches_of.Goals as goal

pub extend_all-requires-clause-apart : goal.extend_all-requires-clause-apart
extend_all-requires-clause-apart c =
    subst (λ (hs : List MerkleHash). AllPairs (λ a b. hash_eq a b ≡ false) hs) (sym c.requires.indexed)
    (hashes_apart c.args.raw.now.xorbs c.requires.valid.xorbs_differ)

pub extend_all-requires-clause-within : goal.extend_all-requires-clause-within
extend_all-requires-clause-within c =
    let raw = c.args.raw.now in
    let i = c.loop-file.file-index in
    let f = c.file-item.result in
    let items = c.as_slice-file-items.ensures in
    let here = subst (λ (fs : List RawFile). i < length fs) items c.loop-file-test.true in
    let at = c.file-item.is ∙ ap (λ (fs : List RawFile). get_or fs i f) items in
    let terms = terms_in raw i f c.requires.valid here at in
    subst (λ (ts : List FileDataSequenceEntry). All (λ t. IsWithin c.args.index.now c.loop-file.reaches.items (stored_term t)) ts)
    (sym c.as_slice-in-loop-file.ensures) (λ k d l. subst (λ (hs : List MerkleHash). IsWithin hs c.loop-file.reaches.items (stored_term
    (get_or f.terms k d))) (sym c.requires.indexed) (within_of (store_of_raw raw) c.loop-file.reaches.items (map file_of_raw
    (take i raw.files)) (stored_term (get_or f.terms k d)) c.loop-file.invariant (terms k d l)))

pub loop-file-preserved : goal.loop-file-preserved
loop-file-preserved c =
    let raw = c.args.raw.now in
    let i = c.loop-file.file-index in
    let f = c.file-item.result in
    let items = c.as_slice-file-items.ensures in
    let at = c.file-item.is ∙ ap (λ (fs : List RawFile). get_or fs i f) items in
    let more = map_more file_of_raw raw.files i f (subst (λ (fs : List RawFile). i < length fs) items c.loop-file-test.true) in
    let here : map file_of_raw (take i raw.files) ++ file_of_raw (get_or raw.files i f) ∷ []
    ≡ map file_of_raw (take i raw.files) ++ file_of_raw f ∷ [] = ap (λ (g : RawFile). map file_of_raw (take i raw.files)
    ++ file_of_raw g ∷ []) (sym at) in
    let step = subst (λ (ts : List FileDataSequenceEntry). Extends c.args.index.now c.loop-file.reaches.items
    c.extend_all.new.reaches.items (map stored_term ts)) c.as_slice-in-loop-file.ensures c.extend_all.ensures in
    subst (λ (fs : List StoredFile). AreReached raw.xorbs fs c.extend_all.new.reaches.items) (sym (more ∙ here))
    (reached_more raw.xorbs c.args.index.now (map file_of_raw (take i raw.files)) (file_of_raw f) c.loop-file.reaches.items
    c.extend_all.new.reaches.items c.requires.indexed c.loop-file.invariant step)

pub returns : goal.returns
returns c =
    let raw = c.args.raw.now in
    let past = subst (λ (fs : List RawFile). length fs ≤ c.loop-file.file-index) c.as_slice-file-items.ensures
    c.loop-file-test.false in
    subst (λ (fs : List RawFile). AreReached raw.xorbs (map file_of_raw fs) c.loop-file.reaches.items) (take_all
    c.loop-file.file-index raw.files past) c.loop-file.invariant
