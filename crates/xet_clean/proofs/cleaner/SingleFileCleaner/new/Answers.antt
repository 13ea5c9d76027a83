use Rattle.std.proofs.Common.{refl}
use Rattle.xet_clean.proofs.Feeding.{new-stands}
use Rattle.xet_clean.proofs.cleaner.SingleFileCleaner.new.Goals as goal

pub returns : goal.returns
returns g c = record {
  cleaner = record {
    size_is = refl;
    policy_is = refl;
    tell_is = refl;
    parts = c.new.ensures;
    pending = c.new-2.ensures;
    fed = refl;
    counts = c.new-4.ensures;
    failed = refl;
    stands = λ s. new-stands s _ c.new.ensures c.new-2.ensures refl c.new-3.ensures;
  };
  number = refl;
}
