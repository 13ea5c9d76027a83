use Rattle.xet_queue.proofs.Completing.{set_waiting}
use Rattle.xet_queue.proofs.data_writer.unordered_writer.UnorderedWriterDataWriter.set_next_term_data_source.Goals as goal

pub returns-in-Wanted-clause-sums : goal.returns-in-Wanted-clause-sums
returns-in-Wanted-clause-sums c = set_waiting c.args.self.now c.wait.new.self c.args.byte_range c.args.admission c.wait.result c.wait.ensures.done c.wait.ensures.memory
