use Rattle.std.proofs.Common.{◌≡◌, None, Some, false, refl, rules, true}
use Rattle.std.specs.Prelude.{slice_get}
use Rattle.std.specs.Option.{is_none}
use Rattle.xet_leader.proofs.ChangedPlans.{read_none, read_some}
use Rattle.xet_leader.proofs.KeptSteps.{block_had, block_none, block_there}
use Rattle.xet_leader.proofs.keeping.keep_at.Goals as goal

pub returns-in_default : goal.returns-in_default
returns-in_default c =
    let at : slice_get c.args.blocks.now.items c.args.block ≡ None =
    read_none c.args.blocks.now.items c.args.blocks.now.len c.args.block c.args.blocks.now.ok.0
    c.in_default.ensures.variant.1 in
    block_none c.args.found c.args.block c.args.blocks.now.items at

pub returns-then-is_none : goal.returns-then-is_none
returns-then-is_none c =
    let at : slice_get c.args.blocks.now.items c.args.block ≡ Some c.in-Some.of.now =
    read_some c.args.blocks.now.items c.args.blocks.now.len c.args.block c.in-Some.of.now c.args.blocks.now.ok.0
    (c.in-Some.ensures.variant.0 refl) c.in-Some.ensures.value in
    let none : is_none c.in-Some.of.now.kept ≡ true = search rules in
    block_there c.args.found c.args.block c.args.blocks.now.items c.in-Some.of.now c.keep.new.self at none
    c.keep.ensures

pub returns-else-is_none : goal.returns-else-is_none
returns-else-is_none c =
    let at : slice_get c.args.blocks.now.items c.args.block ≡ Some c.in-Some.of.now =
    read_some c.args.blocks.now.items c.args.blocks.now.len c.args.block c.in-Some.of.now c.args.blocks.now.ok.0
    (c.in-Some.ensures.variant.0 refl) c.in-Some.ensures.value in
    let some : is_none c.in-Some.of.now.kept ≡ false = search rules in
    block_had c.args.found c.args.block c.args.blocks.now.items c.in-Some.of.now at some
