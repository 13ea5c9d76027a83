use Rattle.std.proofs.Common.{◌≡◌, ◌∙◌, sym, Some}
use Rattle.std.specs.Prelude.{option_and_then}
use Rattle.serde_json.specs.Find.{as_str}
use Rattle.serde_json.specs.View.{view}
use Rattle.xet_base.specs.HashText.{hash_of_text}
use Rattle.xet_mirror_command.proofs.Items.{hashes_end, hashes_more, hashes_stop}
use Rattle.xet_mirror_command.proofs.input.hashes_of.Goals as goal

pub loop-item-preserved : goal.loop-item-preserved
loop-item-preserved c =
    let l = c.loop-item in
    let some : Some c.in-Some.hash ≡ option_and_then hash_of_text (as_str (view c.item-item.result)) = rw c.in-Some.is at c.hash_in.ensures in
    rw c.in_ok-push.ensures.ok (hashes_more c.args.items.now l.item-index l.hashes _ l.invariant c.item-item.result c.loop-item-test.true c.item-item.is c.in-Some.hash some)

pub returns-in_default : goal.returns-in_default
returns-in_default c =
    let l = c.loop-item in
    sym (hashes_stop c.args.items.now l.item-index l.hashes _ l.invariant c.item-item.result c.loop-item-test.true c.item-item.is
    (sym c.in_default.is ∙ c.hash_in.ensures))

pub returns : goal.returns
returns c =
    let l = c.loop-item in
    sym (hashes_end c.args.items.now l.item-index l.hashes _ l.invariant c.loop-item-test.false)
