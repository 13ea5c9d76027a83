use Rattle.std.proofs.Common.{◌∙◌, sym, ⊎_elim}
use Rattle.std.proofs.lemmas.Option.{none-some}
use Rattle.xet_bench.proofs.Making.{takes_next, xorbs_more}
use Rattle.xet_bench.proofs.made_store.add_xorb.Goals as goal

pub only_memory-requires : goal.only_memory-requires
only_memory-requires c =
    let takes = takes_next c.args.number c.requires.small in
    ⊎_elim (λ m. m)
    (λ r. absurd (none-some _ (sym takes ∙ rw (c.requires.before, c.in_ok-xorb.ensures) at r)))
    c.in-Err.ensures.refused

pub returns-in-Ok : goal.returns-in-Ok
returns-in-Ok c = rw (c.in-Ok.ensures.added, c.requires.before, c.in_ok-xorb.ensures, xorbs_more c.args.number)
