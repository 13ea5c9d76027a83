use Rattle.std.proofs.Common.{sym, ◌≡◌, ◌+◌, Some, arith}
use Rattle.std.specs.Map.{lookup, set_value}
use Rattle.xet_progress_state.specs.Group.{IsWithinItem, is_id}
use Rattle.xet_progress_state.proofs.Sums.{found_is, group_set, transfer_within}
use Rattle.xet_progress_state.proofs.group.GroupState.report_transfer_bytes_completed.Goals as goal

pub overflow_add-self : goal.overflow_add-self
overflow_add-self c =
    let s = c.self.inside in
    let at : lookup (is_id c.args.id) s.items.entries ≡ Some c.in-Some.item.now = sym c.in-Some.ensures.value in
    let was = found_is IsWithinItem (is_id c.args.id) s.items.entries c.in-Some.item.now c.self.invariant.within.each at in
    let t = was.transfer in
    let g = group_set s.items.entries s.added s.finished s.sums (record s.sums { total_transfer_bytes_completed = s.sums.total_transfer_bytes_completed + c.args.increment }) c.self.invariant c.args.id c.in-Some.item.now
    (record c.in-Some.item.now { transfer_bytes_completed = c.in-Some.item.now.transfer_bytes_completed + c.args.increment }) at (record { bytes = was.bytes; transfer = omega (arith, t) }) (omega arith) (omega arith) (omega arith) (omega arith) in
    let le = transfer_within (set_value (is_id c.args.id) s.items.entries (record c.in-Some.item.now { transfer_bytes_completed = c.in-Some.item.now.transfer_bytes_completed + c.args.increment })) s.added s.finished (record s.sums { total_transfer_bytes_completed = s.sums.total_transfer_bytes_completed + c.args.increment }) g in
    omega (arith, le)

pub invariant_of-self : goal.invariant_of-self
invariant_of-self c =
    let s = c.self.inside in
    let at : lookup (is_id c.args.id) s.items.entries ≡ Some c.in-Some.item.now = sym c.in-Some.ensures.value in
    let was = found_is IsWithinItem (is_id c.args.id) s.items.entries c.in-Some.item.now c.self.invariant.within.each at in
    let t = was.transfer in
    let e : c.add_transferred.new.items.entries ≡ set_value (is_id c.args.id) s.items.entries (record c.in-Some.item.now { transfer_bytes_completed = c.in-Some.item.now.transfer_bytes_completed + c.args.increment }) = (rw at at c.add_transferred.ensures) in
    rw e (group_set s.items.entries s.added s.finished s.sums (record s.sums { total_transfer_bytes_completed = s.sums.total_transfer_bytes_completed + c.args.increment }) c.self.invariant c.args.id c.in-Some.item.now
    (record c.in-Some.item.now { transfer_bytes_completed = c.in-Some.item.now.transfer_bytes_completed + c.args.increment }) at (record { bytes = was.bytes; transfer = omega (arith, t) }) (omega arith) (omega arith) (omega arith) (omega arith))
