use Rattle.std.proofs.Common.{◌∙◌, List, ap, arith, map, subst, sym, ℕ}
use Rattle.std.specs.Prelude.{slice_range}
use Rattle.xet_base.specs.declared.mdb_shard.Xorb.{Xorb}
use Rattle.xet_store.specs.Refusals.{stored_term}
use Rattle.xet_audit.specs.Findings.{are_short}
use Rattle.xet_audit.specs.Raws.{store_of_raw}
use Rattle.xet_audit.specs.steps.Records.{Fed, record_of}
use Rattle.xet_audit.proofs.Hashing.{part_records, records_count}
use Rattle.xet_audit.proofs.Located.{kept_at, located, never_in, number_in, term_chunks, term_order, xorb_at}
use Rattle.xet_audit.proofs.Tables.{no_xorb_of}
use Rattle.xet_audit.proofs.hash_faults.feed_term.Goals as goal

pub returns-in_default : goal.returns-in_default
returns-in_default c =
    let s = store_of_raw c.args.table.now.raw.now in
    let t = stored_term c.args.term.now in
    let f = c.args.table.now.firsts in
    absurd (never_in s t (no_xorb_of s f.hashes f.places.items c.requires.indexed.table t.xorb (sym c.number_near.ensures ∙ c.in_default.is)) c.requires.inside)

pub index-requires : goal.index-requires
index-requires c =
    let s = store_of_raw c.args.table.now.raw.now in
    let f = c.args.table.now.firsts in
    let inside = number_in s f.hashes f.places.items c.requires.indexed.table c.args.term.now.xorb c.in-Some.number 0 (sym c.number_near.ensures ∙ c.in-Some.is) in
    let same = f.places.ok.0 in
    omega (arith, inside, same)

pub part-requires-clause-order : goal.part-requires-clause-order
part-requires-clause-order c =
    let s = store_of_raw c.args.table.now.raw.now in
    let t = stored_term c.args.term.now in
    let f = c.args.table.now.firsts in
    let n = c.in-Some.number in
    let place = c.index.result.now in
    let key = sym c.number_near.ensures ∙ c.in-Some.is in
    let table = c.requires.indexed.table in
    let x = xorb_at s f.hashes f.places.items table t.xorb n place key c.index.ensures in
    let is = located s f.hashes f.places.items table t.xorb n place key c.index.ensures in
    let own = c.as_slice-own.ensures ∙ kept_at s f.hashes f.places.items table t.xorb n place key c.index.ensures (λ (y : Xorb). map record_of y.chunks) c.args.records.now c.requires.known
    c.index-records-index.result c.index-records-index.is in
    let order = term_order s t x is c.requires.inside in
    let from = order.0 in
    omega (arith, from)

pub part-requires-clause-inside : goal.part-requires-clause-inside
part-requires-clause-inside c =
    let s = store_of_raw c.args.table.now.raw.now in
    let t = stored_term c.args.term.now in
    let f = c.args.table.now.firsts in
    let n = c.in-Some.number in
    let place = c.index.result.now in
    let key = sym c.number_near.ensures ∙ c.in-Some.is in
    let table = c.requires.indexed.table in
    let x = xorb_at s f.hashes f.places.items table t.xorb n place key c.index.ensures in
    let is = located s f.hashes f.places.items table t.xorb n place key c.index.ensures in
    let own = c.as_slice-own.ensures ∙ kept_at s f.hashes f.places.items table t.xorb n place key c.index.ensures (λ (y : Xorb). map record_of y.chunks) c.args.records.now c.requires.known
    c.index-records-index.result c.index-records-index.is in
    let order = term_order s t x is c.requires.inside in
    let to = order.1 in
    let count = records_count c.as_slice-own.result.now x.chunks own in
    omega (arith, to, count)

pub returns-then-feed : goal.returns-then-feed
returns-then-feed c =
    let s = store_of_raw c.args.table.now.raw.now in
    let t = stored_term c.args.term.now in
    let f = c.args.table.now.firsts in
    let n = c.in-Some.number in
    let place = c.index.result.now in
    let key = sym c.number_near.ensures ∙ c.in-Some.is in
    let table = c.requires.indexed.table in
    let x = xorb_at s f.hashes f.places.items table t.xorb n place key c.index.ensures in
    let is = located s f.hashes f.places.items table t.xorb n place key c.index.ensures in
    let own = c.as_slice-own.ensures ∙ kept_at s f.hashes f.places.items table t.xorb n place key c.index.ensures (λ (y : Xorb). map record_of y.chunks) c.args.records.now c.requires.known
    c.index-records-index.result c.index-records-index.is in
    let order = term_order s t x is c.requires.inside in
    let are = c.part.ensures ∙ part_records c.as_slice-own.result.now x.chunks t.from t.to own in
    let fed = rw c.if-feed.true at (c.feed.ensures (slice_range x.chunks t.from t.to) are) in
    subst (λ (cs : List (List ℕ)). Fed c.args.hasher.now c.feed.new.hasher cs) (sym (term_chunks s t x is)) fed

pub returns-else-feed : goal.returns-else-feed
returns-else-feed c =
    let s = store_of_raw c.args.table.now.raw.now in
    let t = stored_term c.args.term.now in
    let f = c.args.table.now.firsts in
    let n = c.in-Some.number in
    let place = c.index.result.now in
    let key = sym c.number_near.ensures ∙ c.in-Some.is in
    let table = c.requires.indexed.table in
    let x = xorb_at s f.hashes f.places.items table t.xorb n place key c.index.ensures in
    let is = located s f.hashes f.places.items table t.xorb n place key c.index.ensures in
    let own = c.as_slice-own.ensures ∙ kept_at s f.hashes f.places.items table t.xorb n place key c.index.ensures (λ (y : Xorb). map record_of y.chunks) c.args.records.now c.requires.known
    c.index-records-index.result c.index-records-index.is in
    let order = term_order s t x is c.requires.inside in
    let are = c.part.ensures ∙ part_records c.as_slice-own.result.now x.chunks t.from t.to own in
    ap are_short (term_chunks s t x is) ∙ (rw c.if-feed.false at (c.feed.ensures (slice_range x.chunks t.from t.to) are))
