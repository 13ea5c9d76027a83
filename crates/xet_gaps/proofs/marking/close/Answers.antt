use Rattle.std.proofs.Common.{◌≡◌, ◌∙◌, ◌-◌, ◌++◌, ℕ, ap, drop, length, rules, slice_range, take}
use Rattle.std.specs.List.{copy_within}
use Rattle.std.proofs.lemmas.List.Folds.{drop_split}
use Rattle.xet_gaps.proofs.ListParts.{closed}
use Rattle.xet_gaps.proofs.marking.close.Goals as goal

pub returns-then-low-high-clause-left : goal.returns-then-low-high-clause-left
returns-then-low-high-clause-left c =
    let xs = c.args.gaps.now.items in
    drop_split xs c.args.first c.args.low c.requires.order.0
    ∙ ap (λ (n : ℕ). slice_range xs c.args.first c.args.low ++ drop n xs) c.if-low-high.true

pub returns-clause-left : goal.returns-clause-left
returns-clause-left c =
    let xs = c.args.gaps.now.items in
    let size : c.len-end.result ≡ length xs = search rules in
    let cut : c.truncate.new.self.items
    ≡ take (c.len-end.result - (c.args.high - c.args.low)) (copy_within xs c.args.high c.len-end.result c.args.low) = search rules in
    ap (drop c.args.first) cut
    ∙ closed xs c.args.first c.args.low c.args.high c.len-end.result c.requires.order.0 c.requires.order.1 c.requires.end size
