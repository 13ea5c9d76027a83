use Rattle.std.proofs.Common.{[], get_or, ◌∙◌, map, sym, ap, subst, take_all}
use Rattle.std.specs.List.{flat_map}
use Rattle.xet_base.specs.Store.{chunks_of_term}
use Rattle.xet_base.specs.declared.mdb_shard.FileDataSequenceEntry.{FileDataSequenceEntry}
use Rattle.xet_store.specs.Refusals.{stored_term}
use Rattle.xet_audit.specs.Findings.{are_short}
use Rattle.xet_audit.specs.Raws.{store_of_raw}
use Rattle.xet_audit.specs.steps.Records.{Fed}
use Rattle.xet_audit.proofs.Hashing.{fed_none, feed_term_more, long_within}
use Rattle.xet_audit.proofs.Lists.{self_at, mapped_at, mapped_past, mapped_within}
use Rattle.xet_audit.proofs.TermStates.{all_in}
use Rattle.xet_audit.proofs.hash_faults.feed_terms.Goals as goal

-- the default of a read
abbrev no_term : FileDataSequenceEntry
no_term = record { xorb = record { 0 = [] }; from = 0; to = 0; bytes = 0 }

pub loop-term-init : goal.loop-term-init
loop-term-init c = fed_none c.args.hasher.now

pub feed_term-requires-clause-inside : goal.feed_term-requires-clause-inside
feed_term-requires-clause-inside c =
    let s = store_of_raw c.args.table.now.raw.now in
    let raw = c.args.terms.now in
    let i = c.loop-term.term-index in
    let term = get_or raw i no_term in
    all_in s (map stored_term raw) i (stored_term term) (mapped_within stored_term raw i c.loop-term-test.true) (mapped_at stored_term raw i term c.loop-term-test.true (self_at raw i no_term c.loop-term-test.true)) c.requires.inside

pub loop-term-preserved : goal.loop-term-preserved
loop-term-preserved c =
    let s = store_of_raw c.args.table.now.raw.now in
    let raw = c.args.terms.now in
    let i = c.loop-term.term-index in
    let term = get_or raw i no_term in
    feed_term_more s (map stored_term raw) i (stored_term term) (mapped_within stored_term raw i c.loop-term-test.true) (mapped_at stored_term raw i term c.loop-term-test.true (self_at raw i no_term c.loop-term-test.true))
    c.args.hasher.now c.loop-term.hasher c.feed_term.new.hasher c.loop-term.invariant (rw c.in-Some.is at c.feed_term.ensures)

pub returns-in_default : goal.returns-in_default
returns-in_default c =
    let s = store_of_raw c.args.table.now.raw.now in
    let raw = c.args.terms.now in
    let i = c.loop-term.term-index in
    let term = get_or raw i no_term in
    let is = mapped_at stored_term raw i term c.loop-term-test.true (self_at raw i no_term c.loop-term-test.true) in
    long_within s (map stored_term raw) i (stored_term term) (mapped_within stored_term raw i c.loop-term-test.true)
    (ap (λ u. are_short (chunks_of_term s u)) (sym is) ∙ (rw c.in_default.is at c.feed_term.ensures))

pub returns : goal.returns
returns c =
    let s = store_of_raw c.args.table.now.raw.now in
    let ts = map stored_term c.args.terms.now in
    let i = c.loop-term.term-index in
    let all = take_all i ts (mapped_past stored_term c.args.terms.now i c.loop-term-test.false) in
    subst (λ us. Fed c.args.hasher.now c.loop-term.hasher (flat_map (chunks_of_term s) us)) all c.loop-term.invariant
