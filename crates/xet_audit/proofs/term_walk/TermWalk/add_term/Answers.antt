use Rattle.std.proofs.Common.{ap, ◌∙◌}
use Rattle.xet_store.specs.Refusals.{stored_term}
use Rattle.xet_audit.specs.Raws.{store_of_raw}
use Rattle.xet_audit.specs.steps.Terms.{is_outside_state, is_unnamed}
use Rattle.xet_audit.proofs.Marking.{number_within}
use Rattle.xet_audit.proofs.TermStates.{outside_is, unnamed_is}
use Rattle.xet_audit.proofs.term_walk.TermWalk.add_term.Goals as goal

pub mark-requires : goal.mark-requires
mark-requires c = number_within c.args.table.now.firsts.hashes c.args.term.now.xorb c.args.self.now.named.items c.args.number c.requires.known c.requires.count

pub returns-clause-unnamed : goal.returns-clause-unnamed
returns-clause-unnamed c =
    let s = store_of_raw c.args.table.now.raw.now in
    let t = stored_term c.args.term.now in
    rw (c.is_unnamed.ensures ∙ ap is_unnamed c.state-state.ensures ∙ unnamed_is s t) at c.in_ok-add_if.ensures

pub returns-clause-outside : goal.returns-clause-outside
returns-clause-outside c =
    let s = store_of_raw c.args.table.now.raw.now in
    let t = stored_term c.args.term.now in
    rw (c.is_outside.ensures ∙ ap is_outside_state c.state-state.ensures ∙ outside_is s t) at c.in_ok-add_if-2.ensures
