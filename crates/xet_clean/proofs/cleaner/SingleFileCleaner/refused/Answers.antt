use Rattle.std.proofs.Common.{refl, inl, inr, sym, ◌∙◌}
use Rattle.xet_clean.proofs.cleaner.SingleFileCleaner.refused.Goals as goal

pub returns-then-is_finalized-clause-some : goal.returns-then-is_finalized-clause-some
returns-then-is_finalized-clause-some g c = inl (sym c.is_finalized.ensures.is ∙ c.if-is_finalized.true, refl)

pub returns-in-Some-clause-some : goal.returns-in-Some-clause-some
returns-in-Some-clause-some g c = inr (inl (sym c.is_finalized.ensures.is ∙ c.if-is_finalized.false, c.in-Some.is))

pub returns-in-None-clause-none : goal.returns-in-None-clause-none
returns-in-None-clause-none g c = λ _. record {
  unfinalized = sym c.is_finalized.ensures.is ∙ c.if-is_finalized.false;
  unfailed = c.in_default.is;
  named = c.first_unlisted.ensures.none c.in-None.is;
}

pub returns-in-Some-first_unlisted-clause-some : goal.returns-in-Some-first_unlisted-clause-some
returns-in-Some-first_unlisted-clause-some g c = inr (inr (
  sym c.is_finalized.ensures.is ∙ c.if-is_finalized.false,
  c.in_default.is,
  c.in-Some-first_unlisted.hash,
  c.in-Some-first_unlisted.ensures.some,
  refl,
))
