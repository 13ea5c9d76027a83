use Rattle.std.proofs.Common.{◌≡◌, ◌++◌, ◌∙◌, List, ap, arith, drop, length, map, subst, sym, take, ℕ}
use Rattle.std.proofs.Math.Seq.{take-append_seam}
use Rattle.std.specs.Prelude.{All}
use Rattle.std.specs.List.{enumerate_from}
use Rattle.xet_offers.specs.declared.reconstruction_terms.xorb_block.XorbBlock.{XorbBlock}
use Rattle.xet_blocks.specs.steps.Planning.{IsUnfinished, finished, plan_block, with_starts}
use Rattle.xet_blocks.proofs.BlockReferences.{all_unfinished, finished_blocks}
use Rattle.xet_blocks.proofs.PlacedTerms.{some_with_starts}
use Rattle.xet_blocks.proofs.reconstruction_terms.plan_blocks.PlanBlocks.xorb_blocks.Goals as goal

pub finish_blocks-requires : goal.finish_blocks-requires
finish_blocks-requires c =
    let terms = with_starts c.args.plan.now.terms c.args.self.now.starts in
    subst (λ (l : List XorbBlock). All IsUnfinished l) (sym c.in_ok-add_references.ensures)
    (all_unfinished terms 0 c.args.self.now.blocks c.requires.ascend (some_with_starts c.args.plan.now.terms c.args.self.now.starts c.requires.some))

pub returns : goal.returns
returns c =
    let terms = with_starts c.args.plan.now.terms c.args.self.now.starts in
    let made = c.in_ok-blocks.blocks in
    let blocks = c.finish_blocks.new.blocks in
    let count : made.len ≡ length blocks = omega (arith, c.finish_blocks.auto.blocks, c.add_references.auto.blocks, c.as_mut_slice-all.ensures.len) in
    c.from_vec.ensures
    ∙ ap (λ (n : ℕ). take n (blocks ++ drop (length blocks) made.items)) count
    ∙ take-append_seam blocks (drop (length blocks) made.items)
    ∙ c.in_ok-finish_blocks.ensures
    ∙ ap (λ (l : List XorbBlock). map finished l) c.in_ok-add_references.ensures
    ∙ finished_blocks terms (enumerate_from 0 (map plan_block c.args.self.now.blocks))
