use Rattle.std.proofs.Common.{◌∙◌, ap, rules}
use Rattle.std.proofs.lemmas.List.Sorted.{answers_always, IsNonDecreasingBy-from_sort}
use Rattle.xet_blocks.specs.TermBlocks.{by_start}
use Rattle.xet_blocks.proofs.BlockReferences.{by_start-from_sort, few_by_start, start}
use Rattle.xet_blocks.proofs.reconstruction_terms.plan_blocks.sorted_by_start.Goals as goal

pub returns-then-len-lt2 : goal.returns-then-len-lt2
returns-then-len-lt2 c = few_by_start c.args.references (search rules)

pub returns : goal.returns
returns c =
    let keys = answers_always _ _ _ (λ f a r next called. search rules) in
    let stable = c.sort_by_key.ensures.stable start keys in
    let sorted = c.in_ok-sort_by_key.ensures.sorted start keys in
    c.from_vec.ensures ∙ by_start-from_sort _ _ (IsNonDecreasingBy-from_sort start _ sorted) stable
    ∙ ap by_start (c.in_ok-sorted.ensures.items ∙ c.as_slice.ensures)
