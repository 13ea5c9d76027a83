use Rattle.std.proofs.Common.{refl}
use Rattle.xet_clean_parts.proofs.CallerLemmas.{growth-none, growth-some, tells-none, tracks-tells, tracks-why}
use Rattle.xet_clean.proofs.cleaner.SingleFileCleaner.grow.Goals as goal

pub returns-in-Some : goal.returns-in-Some
returns-in-Some g c = record {
  same = refl;
  why = tt;
  tells = tells-none _ _ _ _ _ refl tt;
  grows = growth-none _ _ _ _ _ c.in-Some.is;
  group = (refl, refl);
}

pub returns-in-None : goal.returns-in-None
returns-in-None g c = record {
  same = c.grow_file.ensures.same;
  why = tracks-why _ _ _ c.grow_file.result c.grow_file.ensures.tracks;
  tells = tracks-tells _ _ _ _ _ _ (refl, refl, c.in-None.is) (refl, refl, c.in-None.is) c.grow_file.ensures.tracks;
  grows = growth-some _ _ _ _ _ c.grow_file.result c.in-None.is c.grow_file.ensures.tracks;
  group = c.grow_file.ensures.group;
}
