use Rattle.std.proofs.Common.{[], get_or, ◌∙◌, map, sym, ap, take_all}
use Rattle.std.specs.List.{list_all}
use Rattle.xet_base.specs.declared.mdb_shard.FileDataSequenceEntry.{FileDataSequenceEntry}
use Rattle.xet_store.specs.Refusals.{is_term_in, stored_term}
use Rattle.xet_audit.specs.Raws.{store_of_raw}
use Rattle.xet_audit.proofs.Lists.{self_at, mapped_at, mapped_past, mapped_within}
use Rattle.xet_audit.proofs.TermStates.{in_more, not_in, not_inside, state_in}
use Rattle.xet_audit.proofs.hash_faults.resolves.Goals as goal

-- the default of a read
abbrev no_term : FileDataSequenceEntry
no_term = record { xorb = record { 0 = [] }; from = 0; to = 0; bytes = 0 }

pub loop-term-preserved : goal.loop-term-preserved
loop-term-preserved c =
    let s = store_of_raw c.args.table.now.raw.now in
    let raw = c.args.terms.now in
    let i = c.loop-term.term-index in
    let term = get_or raw i no_term in
    in_more s (map stored_term raw) i (stored_term term) (mapped_within stored_term raw i c.loop-term-test.true) (mapped_at stored_term raw i term c.loop-term-test.true (self_at raw i no_term c.loop-term-test.true))
    c.loop-term.invariant (state_in s (stored_term term) _ (sym c.state.ensures ∙ c.in-Inside.is))

pub returns-in_default : goal.returns-in_default
returns-in_default c =
    let s = store_of_raw c.args.table.now.raw.now in
    let raw = c.args.terms.now in
    let i = c.loop-term.term-index in
    let term = get_or raw i no_term in
    sym (not_in s (map stored_term raw) i (stored_term term) (mapped_within stored_term raw i c.loop-term-test.true)
    (mapped_at stored_term raw i term c.loop-term-test.true (self_at raw i no_term c.loop-term-test.true))
    (not_inside s (stored_term term) (λ n e. c.in_default.not-Inside n (c.state.ensures ∙ e))))

pub returns : goal.returns
returns c =
    let s = store_of_raw c.args.table.now.raw.now in
    let ts = map stored_term c.args.terms.now in
    let i = c.loop-term.term-index in
    sym (ap (list_all (is_term_in s)) (sym (take_all i ts (mapped_past stored_term c.args.terms.now i c.loop-term-test.false))) ∙ c.loop-term.invariant)
