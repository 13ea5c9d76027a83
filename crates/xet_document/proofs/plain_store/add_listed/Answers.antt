use Rattle.std.proofs.Common.{◌++◌}
use Rattle.xet_document.specs.steps.Reads.{stored_files}
use Rattle.xet_document.proofs.Adding.{takes_both}
use Rattle.xet_document.proofs.plain_store.add_listed.Goals as goal

pub returns-then-not-branch : goal.returns-then-not-branch
returns-then-not-branch c = λ v.
    (rw c.if-not-branch.true at c.in_ok-add_xorbs.ensures) (c.args.store.now.files ++ stored_files c.args.listed.files) v

pub returns : goal.returns
returns c =
    takes_both c.args.store.now c.add_xorbs.new.store c.add_files.new.store c.args.listed c.add_files.result (rw c.if-not-branch.false at c.in_ok-add_xorbs.ensures) c.add_files.ensures
