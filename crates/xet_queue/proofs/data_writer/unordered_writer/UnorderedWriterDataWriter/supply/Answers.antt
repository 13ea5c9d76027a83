use Rattle.std.proofs.Common.{rules, ◌≡◌, None, map}
use Rattle.xet_queue.specs.Calls.{supply_fault}
use Rattle.xet_queue.specs.Unordered.{range_of}
use Rattle.xet_queue.proofs.Completing.{supply_sums}
use Rattle.xet_queue.proofs.data_writer.unordered_writer.UnorderedWriterDataWriter.supply.Goals as goal

pub returns-clause-sums : goal.returns-clause-sums
returns-clause-sums c =
    let f : supply_fault (map range_of c.args.self.now.wanted) c.args.start c.args.bytes ≡ None = search rules in
    supply_sums c.args.self.now c.complete_first.new.self c.args.start c.args.bytes c.complete_first.result f c.complete_first.ensures
