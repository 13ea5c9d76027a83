use Rattle.std.proofs.Common.{◌∙◌, sym, ⊎_elim}
use Rattle.std.proofs.lemmas.Option.{none-some}
use Rattle.xet_bench.proofs.Filing.{takes_file}
use Rattle.xet_bench.proofs.made_store.add_file.Goals as goal

pub only_memory-requires : goal.only_memory-requires
only_memory-requires c =
    let takes = takes_file c.args.count _ c.ranges.count.fits c.in_ok-terms.ensures in
    ⊎_elim (λ m. m) (λ r. absurd (none-some _ (sym takes ∙ rw c.requires at r))) c.in-Err.ensures.refused
