use Rattle.xet_clean_parts.proofs.Naming.{all-taken, first-next, names-next}
use Rattle.xet_clean_parts.proofs.named_terms.unlisted_among.Goals as goal

pub returns-in-Some-clause-some : goal.returns-in-Some-clause-some
returns-in-Some-clause-some g c =
    first-next c.args.session.now.listed.hashes.items c.args.terms.now c.loop-term.term-index c.in-Some.hash
    c.loop-term-test.true c.loop-term.invariant c.in-Some.ensures.some c.in-Some.ensures.missing

pub loop-term-preserved : goal.loop-term-preserved
loop-term-preserved g c =
    names-next c.args.session.now.listed.hashes.items c.args.terms.now c.loop-term.term-index c.loop-term-test.true
    c.loop-term.invariant (c.unlisted.ensures.none c.in_default.is)

pub returns-clause-none : goal.returns-clause-none
returns-clause-none g c =
    λ e. all-taken c.args.session.now.listed.hashes.items c.args.terms.now c.loop-term.term-index
    c.loop-term-test.false c.loop-term.invariant
