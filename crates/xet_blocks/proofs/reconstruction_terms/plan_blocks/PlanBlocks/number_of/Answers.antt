use Rattle.std.proofs.Common.{◌≡◌, ◌∙◌, ap, refl, sym, None, Some}
use Rattle.xet_blocks.specs.steps.BlockKeys.{key_of, place_of_key}
use Rattle.xet_blocks.proofs.BlockWalk.{numbered_found, numbered_new}
use Rattle.xet_blocks.proofs.reconstruction_terms.plan_blocks.PlanBlocks.number_of.Goals as goal

pub push-requires : goal.push-requires
push-requires c = ap (place_of_key c.args.self.now.blocks) (sym c.key.ensures) ∙ sym c.in_default.ensures

pub returns-in-Some : goal.returns-in-Some
returns-in-Some c =
    let blocks = c.args.self.now.blocks in
    let at : place_of_key blocks (key_of c.args.block) ≡ Some c.in-Some.number = ap (place_of_key blocks) (sym c.key.ensures) ∙ sym c.in-Some.ensures in
    record { number = numbered_found blocks blocks c.args.block c.in-Some.number c.requires at refl; starts = refl }

pub returns : goal.returns
returns c =
    let blocks = c.args.self.now.blocks in
    let none : place_of_key blocks (key_of c.args.block) ≡ None = ap (place_of_key blocks) (sym c.key.ensures) ∙ sym c.in_default.ensures in
    record { number = numbered_new blocks _ c.args.block c.len-number.result c.requires none c.in_ok-push.ensures.ok c.len-number.ensures; starts = refl }
