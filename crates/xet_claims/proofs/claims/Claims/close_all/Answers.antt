use Rattle.std.proofs.Common.{rules, ap, sym, ◌∙◌}
use Rattle.std.proofs.Common.{min}
use Rattle.xet_claims.specs.declared.claim_rule.Limits.{Limits}
use Rattle.xet_claims.specs.ClaimViews.{once_below}
use Rattle.xet_claims.specs.ClaimPasses.{IsPassOf}
use Rattle.xet_claims.proofs.Gathered.{closing_starts, closing_goes_on, popped, closed}
use Rattle.xet_claims.proofs.claims.Claims.close_all.Goals as goal

pub loop-next-init : goal.loop-next-init
loop-next-init c =
    let p = popped (λ q. IsPassOf c.args.self q) _ _ _ c.in-Some.ensures.items c.requires.of in
    record { of = p.1; all = p.0; closing = closing_starts _ _ _ c.in-Some.ensures.items }

pub gather-requires : goal.gather-requires
gather-requires c =
    let p = popped (λ q. IsPassOf c.args.self q) _ _ _ c.in-Some-pop.ensures.items c.loop-next.invariant.all in
    record { of = (c.loop-next.invariant.of, p.1) }

pub loop-next-preserved : goal.loop-next-preserved
loop-next-preserved c =
    let p = popped (λ q. IsPassOf c.args.self q) _ _ _ c.in-Some-pop.ensures.items c.loop-next.invariant.all in
    record { of = c.gather.ensures.of; all = p.0; closing = closing_goes_on _ _ _ _ _ _ c.loop-next.invariant.closing c.in-Some-pop.ensures.items c.gather.ensures.both }

pub returns-clause-all : goal.returns-clause-all
returns-clause-all c x =
    let i = c.loop-next.invariant in
    let k = closed _ _ _ c.args.self c.args.self.table.shared.key _ _ _ _ i.closing (search rules) (c.requires.all ∙ sym (ap (λ k. k.passes) c.args.self.key)) c.close_with-closed.ensures.values.2 c.word-taken.ensures in
    k.0 x ∙ ap (once_below x) (ap (λ (l : Limits). min c.word-taken.result l.count) c.args.self.key ∙ sym c.min.ensures)

pub returns-clause-none : goal.returns-clause-none
returns-clause-none c some =
    let i = c.loop-next.invariant in
    let k = closed _ _ _ c.args.self c.args.self.table.shared.key _ _ _ _ i.closing (search rules) (c.requires.all ∙ sym (ap (λ k. k.passes) c.args.self.key)) c.close_with-closed.ensures.values.2 c.word-taken.ensures in
    c.min.ensures ∙ (ap (λ (l : Limits). min c.word-taken.result l.count) (sym c.args.self.key) ∙ (k.1 some ∙ ap (λ (l : Limits). l.count) c.args.self.key))

pub returns-clause-quiet : goal.returns-clause-quiet
returns-clause-quiet c none_raised =
    let i = c.loop-next.invariant in
    let k = closed _ _ _ c.args.self c.args.self.table.shared.key _ _ _ _ i.closing (search rules) (c.requires.all ∙ sym (ap (λ k. k.passes) c.args.self.key)) c.close_with-closed.ensures.values.2 c.word-taken.ensures in
    k.2 none_raised
