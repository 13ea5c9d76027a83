use Rattle.std.proofs.Common.{◌≡◌, rules}
use Rattle.std.specs.Prelude.{None, Some}
use Rattle.xet_shelves.specs.steps.Tries.{each_put, put_files, put_xorb}
use Rattle.xet_shelves.proofs.TriedStores.{tried-all, tried-no-file, tried-no-xorb}
use Rattle.xet_shelves.proofs.store_after.add_log.Goals as goal

pub returns-then-not-branch : goal.returns-then-not-branch
returns-then-not-branch c =
    let store = c.args.store.now in
    let puts = c.args.puts.now in
    let none : each_put put_xorb store puts ≡ None = search rules in
    tried-no-xorb store puts none

pub returns-then-not-branch-2 : goal.returns-then-not-branch-2
returns-then-not-branch-2 c =
    let store = c.args.store.now in
    let puts = c.args.puts.now in
    let xorbs : each_put put_xorb store puts ≡ Some c.add_xorbs.new.store = search rules in
    let none : each_put put_files c.add_xorbs.new.store puts ≡ None = search rules in
    tried-no-file store puts c.add_xorbs.new.store xorbs none

pub returns : goal.returns
returns c =
    let store = c.args.store.now in
    let puts = c.args.puts.now in
    let xorbs : each_put put_xorb store puts ≡ Some c.add_xorbs.new.store = search rules in
    let files : each_put put_files c.add_xorbs.new.store puts ≡ Some c.add_records.new.store = search rules in
    (tried-all store puts c.add_xorbs.new.store xorbs c.add_records.new.store files, c.recall_valid.ensures)
