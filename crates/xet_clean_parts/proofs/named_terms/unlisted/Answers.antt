use Rattle.xet_clean_parts.proofs.Naming.{named-one}
use Rattle.xet_clean_parts.proofs.named_terms.unlisted.Goals as goal

pub returns-then-lists-clause-none : goal.returns-then-lists-clause-none
returns-then-lists-clause-none g c =
    λ e. named-one _ _ _ c.in-Stored.is (c.lists.ensures.yes c.if-lists.true)
