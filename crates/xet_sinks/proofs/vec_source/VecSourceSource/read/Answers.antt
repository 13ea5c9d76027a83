use Rattle.std.proofs.Common.{rules, arith, ap, Some, drop}
use Rattle.std.proofs.lemmas.Grind.{common_steps}
use Rattle.xet_sinks.proofs.ReadFront.{drop-read}
use Rattle.xet_sinks.proofs.vec_source.VecSourceSource.read.Goals as goal

pub returns-clause-call : goal.returns-clause-call
returns-clause-call c =
    let s = c.args.self.now in
    let k = c.min-count.result in
    record {
      count = grind (arith, common_steps);
      took = ap Some (drop-read s.bytes.items c.copy_from_slice.new.self (drop k c.args.into.now) s.at k
          (grind (arith, common_steps)) (grind (arith, common_steps)));
      end = grind (arith, common_steps);
      kept = search rules;
      faults = search rules;
      failed = search rules;
      unfailed = search rules;
    }
