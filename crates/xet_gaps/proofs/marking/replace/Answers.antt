use Rattle.std.proofs.Common.{◌≡◌, ◌∙◌, ◌++◌, ap, drop, option_to_list, slice_range, sym, Option}
use Rattle.xet_base.specs.declared.cas_types.FileRange.{FileRange}
use Rattle.xet_gaps.proofs.ListParts.{firsted}
use Rattle.xet_gaps.proofs.marking.replace.Goals as goal

pub returns-in-Some-clause-left : goal.returns-in-Some-clause-left
returns-in-Some-clause-left c =
    let xs = c.args.gaps.now.items in
    c.put_after-in-Some.ensures.left
    ∙ firsted xs (option_to_list c.args.after) c.in-Some.before c.args.first c.args.from c.args.to c.requires.order.0 c.requires.order.1
    c.requires.end
    ∙ ap (λ (o : Option FileRange). slice_range xs c.args.first c.args.from
    ++ (option_to_list o ++ (option_to_list c.args.after ++ drop c.args.to xs))) (sym c.in-Some.is)
