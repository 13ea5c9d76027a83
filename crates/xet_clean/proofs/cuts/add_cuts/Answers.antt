use Rattle.std.proofs.Common.{rules, ◌≡◌, ◌∙◌}
use Rattle.std.specs.Prelude.{Ok, Some}
use Rattle.xet_clean.proofs.FoundCuts.{walk-more}
use Rattle.xet_clean.proofs.cuts.add_cuts.Goals as goal

pub chunks-preserved : goal.chunks-preserved
chunks-preserved g c =
    let is : c.find_cut.result ≡ Ok (Some c.in-Ok-Some.more) = search rules in
    let old = c.chunks.invariant in
    record {
      walk = walk-more _ _ _ _ _ _ _ old.walk (rw (is, old.kept) at c.find_cut.ensures.some);
      kept = c.find_cut.ensures.kept ∙ old.kept;
    }
