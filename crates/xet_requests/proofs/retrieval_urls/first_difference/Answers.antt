use Rattle.std.proofs.Common.{◌≡◌, ◌<◌, true, length, sym, ◌∙◌, ap, rules}
use Rattle.xet_offers.specs.declared.reconstruction_terms.xorb_block.XorbBlock.{XorbBlock}
use Rattle.xet_requests.specs.Refreshes.{extent_of, same_extent}
use Rattle.xet_requests.proofs.Differences.{difference_from, difference_later, difference_long}
use Rattle.xet_requests.proofs.retrieval_urls.first_difference.Goals as goal

pub loop-index-preserved : goal.loop-index-preserved
loop-index-preserved c =
    let x : XorbBlock = c.index-before-index.result in
    let y : XorbBlock = c.index-now-index.result in
    let within : c.loop-index.index < length c.args.before.now = search rules in
    let same : same_extent (extent_of x) (extent_of y) ≡ true = sym c.has_same_extent.ensures ∙ c.if-not-has_same_extent.false in
    difference_later c.args.before.now c.args.now.now c.loop-index.index x y within (sym c.index-before-index.is) c.if-now-index.false (sym c.index-now-index.is) same ∙ c.loop-index.invariant

pub returns-then-before-now : goal.returns-then-before-now
returns-then-before-now c =
    let long : length c.args.before.now < length c.args.now.now = search rules in
    let at : c.loop-index.index ≡ length c.args.before.now = search rules in
    sym (difference_long c.args.before.now c.args.now.now long) ∙ ap (difference_from c.args.before.now c.args.now.now) (sym at) ∙ c.loop-index.invariant
