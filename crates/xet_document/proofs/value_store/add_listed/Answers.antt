use Rattle.std.proofs.Common.{inl}
use Rattle.serde_json.specs.View.{members_view}
use Rattle.xet_document.proofs.DocumentMembers.{adds_both}
use Rattle.xet_document.proofs.value_store.add_listed.Goals as goal

pub returns-then-not-branch : goal.returns-then-not-branch
returns-then-not-branch c = inl (rw c.if-not-branch.true at c.in_ok-add_xorbs.ensures)

pub returns : goal.returns
returns c =
    adds_both c.args.store.now c.add_xorbs.new.store c.add_files.new.store (members_view c.args.xorbs.now.entries) (members_view c.args.files.now.entries) c.add_files.result
    (rw c.if-not-branch.false at c.in_ok-add_xorbs.ensures) c.add_files.ensures
