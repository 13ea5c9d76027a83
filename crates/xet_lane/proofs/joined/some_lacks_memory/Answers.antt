use Rattle.std.proofs.Common.{◌≡◌, ◌<◌, ◌≤◌, ◌∙◌, sym, get_or, length, true, false}
use Rattle.xet_lane.specs.JoinErrors.{lacks_memory}
use Rattle.xet_lane.specs.Ends.{ended}
use Rattle.xet_lane.proofs.FirstErrors.{lacking, none_lacks, not_lacking}
use Rattle.xet_lane.proofs.joined.some_lacks_memory.Goals as goal

pub returns-then-lacks_memory : goal.returns-then-lacks_memory
returns-then-lacks_memory c =
    let below : c.loop-end.end-index < length c.args.ends.now = c.loop-end-test.true in
    let here : get_or c.args.ends.now c.loop-end.end-index c.end-item.result ≡ c.end-item.result = sym c.end-item.is in
    let lacks : lacks_memory (ended c.end-item.result) ≡ true = sym c.lacks_memory.ensures ∙ c.if-lacks_memory.true
    in
    sym (lacking _ _ _ below here lacks) ∙ c.loop-end.invariant

pub loop-end-preserved : goal.loop-end-preserved
loop-end-preserved c =
    let below : c.loop-end.end-index < length c.args.ends.now = c.loop-end-test.true in
    let here : get_or c.args.ends.now c.loop-end.end-index c.end-item.result ≡ c.end-item.result = sym c.end-item.is in
    let suffices : lacks_memory (ended c.end-item.result) ≡ false =
    sym c.lacks_memory.ensures ∙ c.if-lacks_memory.false in
    sym (not_lacking _ _ _ below here suffices) ∙ c.loop-end.invariant

pub returns : goal.returns
returns c =
    let over : length c.args.ends.now ≤ c.loop-end.end-index = c.loop-end-test.false in
    sym (none_lacks _ _ over) ∙ c.loop-end.invariant
