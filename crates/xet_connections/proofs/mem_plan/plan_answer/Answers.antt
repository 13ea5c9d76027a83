use Rattle.std.proofs.Common.{rules, ◌≡◌, ◌∙◌, Some}
use Rattle.xet_base.specs.Store.{file_of}
use Rattle.xet_store.proofs.CallerLemmas.{found_terms, found_short, found_walk, found_within}
use Rattle.xet_connections.proofs.mem_plan.plan_answer.Goals as goal

pub planned_terms-requires-clause-stored : goal.planned_terms-requires-clause-stored
planned_terms-requires-clause-stored c =
    let found : Some c.in-Some.stored.now ≡ file_of c.args.store.now c.args.file.now = search rules in
    found_terms c.args.store.now c.file.ensures.valid c.args.file.now c.in-Some.stored.now c.terms.result.now found
    c.terms.ensures

pub planned_terms-requires-clause-short : goal.planned_terms-requires-clause-short
planned_terms-requires-clause-short c =
    let found : Some c.in-Some.stored.now ≡ file_of c.args.store.now c.args.file.now = search rules in
    found_short c.args.store.now c.file.ensures.valid c.args.file.now c.in-Some.stored.now c.terms.result.now found
    c.terms.ensures

pub plan_xorbs-requires : goal.plan_xorbs-requires
plan_xorbs-requires c =
    let found : Some c.in-Some.stored.now ≡ file_of c.args.store.now c.args.file.now = search rules in
    found_within c.args.store.now c.args.file.now c.args.range c.in-Some.stored.now c.terms.result.now
    c.as_slice.result.now found c.terms.ensures (c.as_slice.ensures ∙ c.in_ok-planned.ensures.terms)

pub planned_terms-requires-clause-walk : goal.planned_terms-requires-clause-walk
planned_terms-requires-clause-walk c =
    let found : Some c.in-Some.stored.now ≡ file_of c.args.store.now c.args.file.now = search rules in
    found_walk c.args.store.now c.args.file.now c.in-Some.stored.now c.terms.result.now c.args.from.passed
    c.args.from.place found c.terms.ensures c.requires.walk
