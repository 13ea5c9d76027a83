use Rattle.std.proofs.Common.{get_or, inl}
use Rattle.std.proofs.lemmas.List.{get_or_default}
use Rattle.xet_leader.specs.declared.missing_blocks.BlockAt.{BlockAt}
use Rattle.xet_leader.proofs.Counting.{count_all, count_more, count_spent}
use Rattle.xet_leader.proofs.expiries.count_all.Goals as goal

abbrev no_block : BlockAt
no_block = record { plan = 0; block = 0 }

pub loop-at-preserved : goal.loop-at-preserved
loop-at-preserved c =
    let late = c.args.late.now in
    let i = c.loop-at.at-index in
    let at = get_or late i no_block in
    count_more c.args.tries late i at c.args.plans.now.items c.loop-at.plans.items c.count_one.new.plans.items
    c.args.stale.now c.loop-at.stale c.add_stale.new.stale c.loop-at-test.true
    (get_or_default late i no_block at c.loop-at-test.true) c.in-Ok.ensures c.in-Ok-add_stale.ensures
    c.loop-at.invariant

pub returns-in-Err : goal.returns-in-Err
returns-in-Err c =
    let late = c.args.late.now in
    let i = c.loop-at.at-index in
    let at = get_or late i no_block in
    count_spent c.args.tries late i at c.args.plans.now.items c.loop-at.plans.items c.count_one.new.plans.items
    c.args.stale.now c.loop-at.stale c.in-Err.error c.loop-at-test.true
    (get_or_default late i no_block at c.loop-at-test.true) c.in-Err.ensures c.loop-at.invariant _

pub returns-in-Err-add_stale : goal.returns-in-Err-add_stale
returns-in-Err-add_stale c =
    record { counted_are = tt; stale_are = tt; left = tt; err = inl c.from.ensures }

pub returns : goal.returns
returns c = count_all c.args.tries c.args.late.now c.loop-at.at-index c.args.plans.now.items c.loop-at.plans.items
    c.args.stale.now c.loop-at.stale c.loop-at-test.false c.loop-at.invariant
