use Rattle.std.proofs.Common.{rules, ◌≡◌, []}
use Rattle.xet_queue.specs.Queues.{wanted}
use Rattle.xet_writers.proofs.Ends.{done_any, failed_any, same_bytes, unfailed_any}
use Rattle.xet_queue.proofs.CallerLemmas.{none_wanted}
use Rattle.xet_writers.proofs.data_writer.sequential_writer.SequentialWriterDataWriter.finish.Goals as goal

pub write_last-requires-clause-whole : goal.write_last-requires-clause-whole
write_last-requires-clause-whole g c = none_wanted (wanted c.args.self.now.queue) (search rules)

pub returns-clause-told : goal.returns-clause-told
returns-clause-told g c =
    let w : wanted c.args.self.now.queue ≡ [] = none_wanted (wanted c.args.self.now.queue) (search rules) in
    let f = failed_any g.S.Sink.told c.args.self.now c.write_last.new.self c.write_last.result w c.write_last.ensures in
    let u = unfailed_any g.S.Sink.told c.args.self.now c.write_last.new.self c.write_last.result c.write_last.ensures in
    let d = done_any g.S.Sink.told c.args.self.now c.write_last.new.self c.write_last.result w c.write_last.ensures in
    record { refused = search rules; done = λ open_ none. d; failed = λ open_ none. f; bytes = same_bytes g.S.Sink.told c.args.self.now c.write_last.new.self c.write_last.result c.write_last.ensures; faults = c.write_last.ensures.faults; unfailed = u }
