use Rattle.std.proofs.Common.{◌≡◌, ◌++◌, ◌∷◌, [], List, refl, rules, subst, sym, Some}
use denote.Text.{Utf8}
use denote.Shadow.{shadow}
use Rattle.xet_base.specs.declared.cas_types.FileRange.{FileRange}
use Rattle.xet_gaps.specs.steps.Reading.{IsSmall, ReadUpTo}
use Rattle.xet_gaps.proofs.TextsRead.{no_gap, out_of_order, read_are, read_more}
use Rattle.xet_gaps.proofs.reading.read_gaps.Goals as goal

pub returns-in_default-clause-cause : goal.returns-in_default-clause-cause
returns-in_default-clause-cause c = λ e.
    let some : c.loop-rest.rest.now ≡ [] → ⊥ = search rules in
    no_gap c.args.length c.args.text.now c.loop-rest.rest.now c.loop-rest.gaps.items c.loop-rest.last c.ranges.length.fits
    c.loop-rest.invariant.1 some (rw c.in_default.is at c.read_gap.ensures)

pub returns-then-not-is_next-clause-cause : goal.returns-then-not-is_next-clause-cause
returns-then-not-is_next-clause-cause c = λ e.
    let small : IsSmall c.in-Some.gap = search rules in
    out_of_order c.args.length c.args.text.now c.loop-rest.rest.now c.in-Some.behind.now c.loop-rest.gaps.items c.loop-rest.last
    c.in-Some.gap c.ranges.length.fits small (rw c.in-Some.is at c.read_gap.ensures) c.loop-rest.invariant.1
    (λ p. let z = c.if-not-is_next.ensures.1 p in absurd (cc))

pub loop-rest-preserved : goal.loop-rest-preserved
loop-rest-preserved c =
    let text : shadow (Utf8 c.in-Some.behind.now) = search rules in
    let small : IsSmall c.in-Some.gap = search rules in
    let pushed : c.push.new.self.items ≡ c.loop-rest.gaps.items ++ c.in-Some.gap ∷ [] = search rules in (
      text,
      subst (λ (l : List FileRange).
          ReadUpTo c.args.length c.args.text.now c.in-Some.behind.now l (Some c.in-Some.gap.end)) (sym pushed)
          (read_more c.args.length c.args.text.now c.loop-rest.rest.now c.in-Some.behind.now c.loop-rest.gaps.items c.loop-rest.last
          c.in-Some.gap c.ranges.length.fits small (rw c.in-Some.is at c.read_gap.ensures) c.loop-rest.invariant.1
          (c.if-not-is_next.ensures.0 refl)),
    )

pub returns-clause-are : goal.returns-clause-are
returns-clause-are c =
    read_are c.args.length c.args.text.now c.loop-rest.rest.now c.loop-rest.gaps.items c.loop-rest.last c.loop-rest.invariant.1
