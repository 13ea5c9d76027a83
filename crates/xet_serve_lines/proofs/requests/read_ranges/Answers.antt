use Rattle.std.proofs.Common.{◌≡◌, ◌∷◌, ◌++◌, ℕ, [], arith, rules, subst}
use Rattle.xet_serve_lines.proofs.Ranges.{RangesSoFar, ranges_bad, ranges_last, ranges_many, ranges_more, ranges_start}
use Rattle.xet_serve_lines.proofs.requests.read_ranges.Goals as goal

pub loop-number-init : goal.loop-number-init
loop-number-init c = rw c.new-ranges.ensures.items (ranges_start c.args.text.now)

pub returns-in_default : goal.returns-in_default
returns-in_default c =
    ranges_bad c.args.text.now c.loop-number.rest.now c.first_part.result.0.now _ c.loop-number._number c.loop-number.ranges.items
    c.loop-number.invariant c.first_part.ensures (rw c.in_default.is at c.read_range.ensures)

pub returns-in_default-behind : goal.returns-in_default-behind
returns-in_default-behind c =
    let pushed : c.push.new.self.items ≡ c.loop-number.ranges.items ++ c.in-Some.range ∷ [] = search rules in
    rw pushed (ranges_last c.args.text.now c.loop-number.rest.now c.first_part.result.0.now c.loop-number._number
    c.loop-number.ranges.items c.in-Some.range c.loop-number.invariant (rw c.in_default-behind.is at c.first_part.ensures)
    (rw c.in-Some.is at c.read_range.ensures) c.loop-number-test.true)

pub loop-number-preserved : goal.loop-number-preserved
loop-number-preserved c =
    let pushed : c.push.new.self.items ≡ c.loop-number.ranges.items ++ c.in-Some.range ∷ [] = search rules in
    rw pushed (ranges_more c.args.text.now c.loop-number.rest.now c.first_part.result.0.now c.in-Some-behind.behind.now
    c.loop-number._number c.loop-number.ranges.items c.in-Some.range c.loop-number.invariant
    (rw c.in-Some-behind.is at c.first_part.ensures) (rw c.in-Some.is at c.read_range.ensures))

pub returns : goal.returns
returns c =
    let low = c.loop-number-test.false in
    let high = c.loop-number.auto._number-end in
    let all : c.loop-number._number ≡ 16 = omega (arith, low, high) in
    ranges_many c.args.text.now c.loop-number.rest.now c.loop-number.ranges.items
    (subst (λ (n : ℕ). RangesSoFar c.args.text.now c.loop-number.rest.now n c.loop-number.ranges.items) all
    c.loop-number.invariant)
