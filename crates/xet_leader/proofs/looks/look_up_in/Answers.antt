use Rattle.std.proofs.Common.{ℕ, ◌<◌, ◌∙◌, List, length, subst, sym}
use Rattle.xet_offers.specs.declared.reconstruction_terms.xorb_block.XorbBlock.{XorbBlock}
use Rattle.xet_leader.proofs.LookSteps.{block_again, block_read, looked_in}
use Rattle.xet_leader.proofs.looks.look_up_in.Goals as goal

pub index_mut-requires : goal.index_mut-requires
index_mut-requires g c =
    let xs = c.into_inner-blocks.result in
    let same = c.into_inner-blocks.ensures ∙ c.replace-blocks.ensures.value in
    subst (λ (n : ℕ). c.args.place.block < n) (sym xs.ok.0)
    (subst (λ (ys : List XorbBlock). c.args.place.block < length ys) (sym same) c.requires.within)

pub look_up_one-found-requires : goal.look_up_one-found-requires
look_up_one-found-requires g c =
    let xs = c.into_inner-blocks.result in
    let same = c.into_inner-blocks.ensures ∙ c.replace-blocks.ensures.value in
    c.requires.allowed c.index_mut.result.now (block_read c.args.plan.now xs.items xs.len c.args.place.block
    c.index_mut.result.now same xs.ok.0 c.requires.within c.index_mut.ensures.value)

pub returns : goal.returns
returns g c =
    let xs = c.into_inner-blocks.result in
    let same = c.into_inner-blocks.ensures ∙ c.replace-blocks.ensures.value in
    looked_in _ _ _ _ c.args.plan.now _ c.args.place c.index_mut.result.now c.look_up_one-found.new.block
    c.look_up_one-found.result (block_read c.args.plan.now xs.items xs.len c.args.place.block
    c.index_mut.result.now same xs.ok.0 c.requires.within c.index_mut.ensures.value)
    (block_again c.args.plan.now xs.items _ c.args.place.block c.look_up_one-found.new.block same c.from_vec.ensures)
    c.look_up_one-found.ensures
