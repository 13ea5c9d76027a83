use Rattle.std.proofs.Common.{◌≡◌, ◌∙◌, ◌<◌, ◌≤◌, ap, sym, subst, arith, List, ◌++◌, ◌∷◌, [], length, map, take, get_or}
use Rattle.std.proofs.lemmas.List.{length-map, get_or-map, map_more, map_push, take_all}
use Rattle.std.proofs.lemmas.List.Elements.{All-push}
use Rattle.xet_base.specs.declared.mdb_shard.FileDataSequenceEntry.{FileDataSequenceEntry}
use Rattle.xet_base.specs.declared.stored.StoredFile.{StoredFile}
use Rattle.xet_base.specs.declared.stored.StoredTerm.{StoredTerm}
use Rattle.xet_base.specs.Store.{IsTermIn}
use Rattle.xet_store.specs.Refusals.{stored_term}
use Rattle.xet_audit.specs.Raws.{store_of_raw}
use Rattle.xet_compact.specs.Compacts.{kept_term}
use Rattle.xet_compact.proofs.kept_store.KeptStore.file.Goals as goal

-- the default of a read
abbrev no_term : FileDataSequenceEntry
no_term = record { xorb = record { 0 = [] }; from = 0; to = 0; bytes = 0 }

pub term-requires-clause-inside : goal.term-requires-clause-inside
term-requires-clause-inside c =
    let s = store_of_raw c.args.self.now.raw.now in
    let ts = c.args.file.now.terms in
    let i = c.loop-term.term-index in
    let items = c.as_slice-term-items.ensures in
    let here = subst (λ (l : List FileDataSequenceEntry). i < length l) items c.loop-term-test.true in
    let long = length-map ts stored_term in
    subst (λ (l : List FileDataSequenceEntry). IsTermIn s (stored_term (get_or l i no_term))) (sym items)
    (subst (λ (t : StoredTerm). IsTermIn s t) (get_or-map stored_term ts i no_term (stored_term no_term) here)
    (c.requires.terms i (stored_term no_term) (omega (arith, here, long))))

pub loop-term-preserved : goal.loop-term-preserved
loop-term-preserved c =
    let s = store_of_raw c.args.self.now.raw.now in
    let ts = c.args.file.now.terms in
    let i = c.loop-term.term-index in
    let items = c.as_slice-term-items.ensures in
    let inside = subst (λ (l : List FileDataSequenceEntry). i < length l) items c.loop-term-test.true in
    let w = c.loop-term.invariant in
    let new = c.term.result in
    let here = map_more stored_term ts i no_term inside in
    let is = c.term.ensures.renumbered ∙ ap (λ (l : List FileDataSequenceEntry). kept_term s (stored_term (get_or l i no_term))) items in
    rw c.in_ok-push.ensures.ok (record {
      are = map_push stored_term c.loop-term.terms new
          ∙ ap (λ (l : List StoredTerm). l ++ stored_term new ∷ []) w.are
          ∙ ap (λ (t : StoredTerm). map (kept_term s) (map stored_term (take i ts)) ++ t ∷ []) is
          ∙ sym (map_push (kept_term s) (map stored_term (take i ts)) (stored_term (get_or ts i no_term)))
          ∙ sym (ap (map (kept_term s)) here);
      uncounted = All-push (λ (t : FileDataSequenceEntry). t.bytes ≡ 0) c.loop-term.terms new w.uncounted c.term.ensures.uncounted;
    })

pub returns : goal.returns
returns c =
    let s = store_of_raw c.args.self.now.raw.now in
    let w = c.loop-term.invariant in
    let past = subst (λ (l : List FileDataSequenceEntry). length l ≤ c.loop-term.term-index) c.as_slice-term-items.ensures
    c.loop-term-test.false in
    let all = w.are ∙ ap (λ (ts : List FileDataSequenceEntry). map (kept_term s) (map stored_term ts)) (take_all
    c.loop-term.term-index c.args.file.now.terms past) in
    record {
      is = ap (λ (ts : List StoredTerm). let f : StoredFile = record { hash = c.args.file.now.hash; terms = ts } in f) all;
      uncounted = w.uncounted;
    }
