use Rattle.std.proofs.Common.{sym, ◌∙◌}
use Rattle.xet_clean_parts.proofs.Naming.{first-front, last-some, names-last, names-none}
use Rattle.xet_clean_parts.proofs.named_terms.first_unlisted.Goals as goal

pub returns-in-Some-clause-some : goal.returns-in-Some-clause-some
returns-in-Some-clause-some g c =
    first-front c.args.session.now.listed.hashes.items c.args.parts.now.terms _ _ c.in-Some.hash
    (sym c.terms.ensures ∙ c.split-last.ensures) c.in-Some.ensures.some

pub returns-in-None-clause-none : goal.returns-in-None-clause-none
returns-in-None-clause-none g c =
    λ e. names-none c.args.session.now.listed.hashes.items c.args.parts.now.terms c.split-last.result.0.now
    c.split-last.result.1 (sym c.terms.ensures ∙ c.split-last.ensures) c.in-None.is
    (c.unlisted_among.ensures.none c.in_default.is)

pub returns-in-Some-last-clause-some : goal.returns-in-Some-last-clause-some
returns-in-Some-last-clause-some g c =
    last-some c.args.session.now.listed.hashes.items c.args.parts.now.terms c.split-last.result.0.now
    c.split-last.result.1 c.in-Some-last.term c.unlisted.result (sym c.terms.ensures ∙ c.split-last.ensures)
    c.in-Some-last.is (c.unlisted_among.ensures.none c.in_default.is) c.unlisted.ensures.some c.unlisted.ensures.missing

pub returns-in-Some-last-clause-none : goal.returns-in-Some-last-clause-none
returns-in-Some-last-clause-none g c =
    λ e. names-last c.args.session.now.listed.hashes.items c.args.parts.now.terms c.split-last.result.0.now
    c.split-last.result.1 c.in-Some-last.term (sym c.terms.ensures ∙ c.split-last.ensures) c.in-Some-last.is
    (c.unlisted_among.ensures.none c.in_default.is) (c.unlisted.ensures.none e)
