use Rattle.std.proofs.Common.{◌∙◌, ◌<◌, List, ap, subst, sym}
use Rattle.std.specs.Prelude.{All}
use Rattle.std.specs.List.Sorted.{IsNonDecreasingBy}
use Rattle.xet_offers.specs.declared.reconstruction_terms.xorb_block.XorbReference.{XorbReference}
use Rattle.xet_blocks.specs.TermBlocks.{by_start}
use Rattle.xet_blocks.proofs.BlockReferences.{all_by_start, by_start_rises, start}
use Rattle.xet_blocks.proofs.reconstruction_terms.plan_blocks.finish_block.Goals as goal

pub determine_size_if_possible-requires-clause-some : goal.determine_size_if_possible-requires-clause-some
determine_size_if_possible-requires-clause-some c =
    let sorted = c.as_slice-2.ensures ∙ c.in_ok-block.ensures ∙ ap by_start c.replace-references.ensures.value in
    subst (λ (rs : List XorbReference). All (λ r. r.term_chunks.start < r.term_chunks.end) rs) (sym sorted)
    (all_by_start (λ r. r.term_chunks.start < r.term_chunks.end) c.args.block.now.references c.requires.some)

pub determine_size_if_possible-requires-clause-sorted : goal.determine_size_if_possible-requires-clause-sorted
determine_size_if_possible-requires-clause-sorted c =
    subst (λ (rs : List XorbReference). IsNonDecreasingBy start rs) (sym (c.as_slice-2.ensures ∙ c.in_ok-block.ensures)) (by_start_rises c.replace-references.result)
