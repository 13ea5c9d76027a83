use Rattle.std.proofs.Common.{◌≡◌, ◌∙◌, ◌<◌, ◌-◌, ◌++◌, ◌∷◌, ℕ, ap, arith, drop, insert, rules, slice_range}
use Rattle.xet_gaps.proofs.ListParts.{inserted, lasted}
use Rattle.xet_gaps.proofs.marking.put_last.Goals as goal

pub returns-then-low-to-clause-left : goal.returns-then-low-to-clause-left
returns-then-low-to-clause-left c =
    let xs = c.args.gaps.now.items in
    let o = c.requires.order in
    let first = o.0 in
    let low = o.1 in
    let end = c.requires.end in
    let put : c.insert.new.self.items ≡ insert xs c.args.low c.args.after = search rules in
    ap (drop c.args.first) put
    ∙ inserted xs c.args.after c.args.first c.args.low first (omega (arith, low, end))
    ∙ ap (λ (n : ℕ). slice_range xs c.args.first c.args.low ++ c.args.after ∷ drop n xs) c.if-low-to.true

pub returns-clause-left : goal.returns-clause-left
returns-clause-left c =
    let o = c.requires.order in
    let low = o.1 in
    let other = c.if-low-to.false in
    let some : c.args.low < c.args.to = omega (arith, low, other) in
    c.close.ensures.left
    ∙ lasted c.args.gaps.now.items c.args.after c.args.first c.args.low c.args.to o.0 some c.requires.end
