use Rattle.std.proofs.Common.{rules}
use Rattle.xet_progress_state.proofs.Counting.{counted_back}
use Rattle.xet_progress_state.proofs.depend.past_total.Goals as goal

pub returns-in_default-clause-same : goal.returns-in_default-clause-same
returns-in_default-clause-same c = counted_back c.args.files.now.items c.count_in.new.files.items c.take_back.new.files.items c.args.dependencies.now (search rules) (search rules)

pub returns-clause-same : goal.returns-clause-same
returns-clause-same c = counted_back c.args.files.now.items c.count_in.new.files.items c.take_back-2.new.files.items _ (c.in-Some.ensures.1) (search rules)
