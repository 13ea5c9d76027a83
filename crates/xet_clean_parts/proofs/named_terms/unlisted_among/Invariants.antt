use Rattle.std.proofs.Common.{take}
use Rattle.xet_clean_parts.specs.Cleanings.{AreNamed}
use Rattle.xet_clean_parts.proofs.named_terms.unlisted_among.Given as goal

abbrev pub invariant-loop-term : goal.invariant-loop-term
invariant-loop-term g l = AreNamed l.session.listed.hashes.items (take l.term-index l.terms)
