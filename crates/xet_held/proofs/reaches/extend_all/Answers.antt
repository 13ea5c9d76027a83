use Rattle.std.proofs.Common.{◌∙◌, ap, sym, subst, List, [], get_or, map, take}
use Rattle.std.proofs.lemmas.List.{map_more, take_all}
use Rattle.xet_base.specs.declared.mdb_shard.FileDataSequenceEntry.{FileDataSequenceEntry}
use Rattle.xet_base.specs.declared.stored.StoredTerm.{StoredTerm}
use Rattle.xet_store.specs.Refusals.{stored_term}
use Rattle.xet_held.specs.Reaches.{Extends}
use Rattle.xet_held.proofs.Reached.{extends_more, extends_none, within_after}
use Rattle.xet_held.proofs.reaches.extend_all.Goals as goal

pub loop-term-init : goal.loop-term-init
loop-term-init c = extends_none c.args.index.now c.args.reaches.now.items

pub extend_one-requires-clause-within : goal.extend_one-requires-clause-within
extend_one-requires-clause-within c =
    let i = c.loop-term.term-index in
    let t : FileDataSequenceEntry = record { xorb = record { 0 = [] }; from = 0; to = 0; bytes = 0 } in
    within_after c.args.index.now c.args.reaches.now.items c.loop-term.reaches.items (map stored_term (take i c.args.terms.now))
    (stored_term (get_or c.args.terms.now i t)) c.loop-term.invariant (c.requires.within i t c.loop-term-test.true)

pub loop-term-preserved : goal.loop-term-preserved
loop-term-preserved c =
    let i = c.loop-term.term-index in
    let ts = c.args.terms.now in
    let t : FileDataSequenceEntry = record { xorb = record { 0 = [] }; from = 0; to = 0; bytes = 0 } in
    subst (λ (us : List StoredTerm). Extends c.args.index.now c.args.reaches.now.items c.extend_one.new.reaches.items us)
    (sym (map_more stored_term ts i t c.loop-term-test.true)) (extends_more c.args.index.now c.args.reaches.now.items
    c.loop-term.reaches.items c.extend_one.new.reaches.items (map stored_term (take i ts)) _ c.loop-term.invariant
    c.extend_one.ensures)

pub returns : goal.returns
returns c =
    let ts = c.args.terms.now in
    subst (λ (us : List FileDataSequenceEntry). Extends c.args.index.now c.args.reaches.now.items c.loop-term.reaches.items
    (map stored_term us)) (take_all c.loop-term.term-index ts c.loop-term-test.false) c.loop-term.invariant
