use Rattle.std.proofs.Common.{rules, arith}
use Rattle.xet_progress_state.proofs.Sums.{transfer_fits}
use Rattle.xet_progress_state.proofs.group.GroupState.add_transfer.Goals as goal

pub overflow_add-self-2 : goal.overflow_add-self-2
overflow_add-self-2 c =
    let s = c.self.inside in
    let f = transfer_fits s.items.entries s.added s.finished s.sums c.self.invariant c.args.total c.args.completed (search rules) (omega arith) in
    omega (arith, f)
