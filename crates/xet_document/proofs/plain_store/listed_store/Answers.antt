use Rattle.xet_document.proofs.plain_store.listed_store.Goals as goal

pub returns-then-branch : goal.returns-then-branch
returns-then-branch c = rw (c.if-branch.true, c.new-store.ensures) at c.in_ok-add_listed.ensures

pub returns-else-branch : goal.returns-else-branch
returns-else-branch c = rw (c.if-branch.false, c.new-store.ensures) at c.in_ok-add_listed.ensures
