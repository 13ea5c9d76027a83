use Rattle.std.proofs.Common.{◌≡◌, None, Some, get_or, sym, ◌∙◌, ap, rules}
use Rattle.std.specs.Prelude.{slice_get}
use Rattle.std.proofs.lemmas.Option.{slice_get-get_or}
use Rattle.xet_offers.specs.declared.reconstruction_terms.xorb_block.XorbBlock.{XorbBlock}
use Rattle.xet_fetch.proofs.Fetching.{retrieved}
use Rattle.xet_fetch.proofs.block_fetch.retrieve_data.Goals as goal

pub returns : goal.returns
returns g c =
    let xs = c.args.blocks.now in
    let i = c.args.index in
    let v : XorbBlock = c.index-blocks-index.result in
    let w : XorbBlock = get_or xs i c.index-blocks-index-2.result in
    let within = c.requires.of_plan.within in
    let first : slice_get xs i ≡ Some v = slice_get-get_or xs i v within ∙ ap Some (sym c.index-blocks-index.is) in
    let second : slice_get xs i ≡ Some w = slice_get-get_or xs i c.index-blocks-index-2.result within in
    let empty : v.kept ≡ None = search rules in
    retrieved xs i c.args.settings.now c.args.url_info.now c.data_at.new.urls _ _ v w c.keep.new.self c.in_ok-found.found first second empty c.keep.ensures c.in_ok-found.ensures
