use Rattle.std.proofs.Common.{ℕ, subst, sym, arith}
use Rattle.xet_events.specs.Allowed.{Adjoin}
use Rattle.xet_events.proofs.Plans.{goes_on, joins_on}
use Rattle.xet_events.proofs.index.adjoin.Goals as goal
use Rattle.xet_events.proofs.index.adjoin.Goals.{then-term-end-via-then-term-end, then-term-end-via-else-term-end+then-term-end-2, then-term-end-via-else-term-end+else-term-end-2+then-term-blocks}

pub returns-then-term-end-clause-no : goal.returns-then-term-end-clause-no
returns-then-term-end-clause-no g c = λ _ adjoin.
    let on = goes_on c.loop-at.end c.block_count-blocks.result (g.S.PlanSource.terms c.args.source.now) c.loop-at.at c.term-term.result c.term-term.ensures
    (c.loop-at.invariant.forward (subst (λ (n : ℕ). Adjoin c.args.place n (g.S.PlanSource.terms c.args.source.now)) (sym c.block_count-blocks.ensures) adjoin)) in
    elim c.then-term-end.branch [
      | then-term-end-via-then-term-end w ↦ w.if-term-end.true on.0
      | then-term-end-via-else-term-end+then-term-end-2 w ↦ omega (arith, on.1)
      | then-term-end-via-else-term-end+else-term-end-2+then-term-blocks w ↦ omega (arith, on.2)
    ]

pub loop-at-preserved : goal.loop-at-preserved
loop-at-preserved g c =
    let ts = g.S.PlanSource.terms c.args.source.now in
    let blocks : ℕ = c.block_count-blocks.result in
    let i = c.loop-at.at in
    let t = c.term-term.result in
    record {
      forward = λ h. (goes_on c.loop-at.end blocks ts i t c.term-term.ensures (c.loop-at.invariant.forward h)).3;
      back = λ h. c.loop-at.invariant.back (joins_on c.loop-at.end blocks ts i t c.term-term.ensures c.if-term-end.false (omega arith) (omega arith) h);
    }
