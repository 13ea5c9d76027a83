use Rattle.std.proofs.Common.{refl, rules, ◌≡◌}
use Rattle.std.specs.Prelude.{Ok}
use Rattle.xet_clean_parts.proofs.CallerLemmas.{tells-err, tells-ok}
use Rattle.xet_clean.proofs.Feeding.{adds-err, adds-ok}
use Rattle.xet_clean.proofs.cleaner.SingleFileCleaner.add_taken.Goals as goal

pub returns-in-Ok : goal.returns-in-Ok
returns-in-Ok g c =
    let is : c.feed_taken.result ≡ Ok tt = search rules in
    record {
      adds = λ x bytes t. adds-ok _ _ _ _ _ tt tt (rw is at c.feed_taken.ensures.feeds x bytes t);
      tells = λ x bytes t. tells-ok _ _ _ _ _ tt (rw is at c.feed_taken.ensures.tells x bytes t);
      grows = λ x bytes t. rw is at c.feed_taken.ensures.grows x bytes t;
      calls = c.feed_taken.ensures.calls;
      group = c.feed_taken.ensures.group;
    }

pub returns-in-Err : goal.returns-in-Err
returns-in-Err g c = record {
  adds = λ x bytes t. adds-err _ _ _ _ _ _ _ (rw c.in-Err.is at c.feed_taken.ensures.feeds x bytes t)
      (rw c.unwrap_or.ensures refl);
  tells = λ x bytes t. tells-err _ _ _ _ _ (rw c.in-Err.is at c.feed_taken.ensures.tells x bytes t);
  grows = λ x bytes t. tt;
  calls = c.feed_taken.ensures.calls;
  group = c.feed_taken.ensures.group;
}
