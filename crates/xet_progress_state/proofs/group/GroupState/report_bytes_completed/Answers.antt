use Rattle.std.proofs.Common.{rules, sym, ◌≡◌, ◌+◌, Some, arith}
use Rattle.std.specs.Map.{lookup, set_value}
use Rattle.xet_progress_state.specs.Group.{IsWithinItem, is_id}
use Rattle.xet_progress_state.proofs.Sums.{sum_fits, group_more, found_is}
use Rattle.xet_progress_state.proofs.group.GroupState.report_bytes_completed.Goals as goal

pub overflow_add-self : goal.overflow_add-self
overflow_add-self c =
    let s = c.self.inside in
    let at : lookup (is_id c.args.id) s.items.entries ≡ Some c.in-Some.item.now = sym c.in-Some.ensures.value in
    let w = (found_is IsWithinItem (is_id c.args.id) s.items.entries c.in-Some.item.now c.self.invariant.within.each at).bytes in
    let f = sum_fits s.items.entries s.added s.finished s.sums c.self.invariant c.args.id c.in-Some.item.now at c.args.increment (omega arith) (search rules) in
    omega (arith, f)

pub invariant_of-self : goal.invariant_of-self
invariant_of-self c =
    let s = c.self.inside in
    let at : lookup (is_id c.args.id) s.items.entries ≡ Some c.in-Some.item.now = sym c.in-Some.ensures.value in
    let w = (found_is IsWithinItem (is_id c.args.id) s.items.entries c.in-Some.item.now c.self.invariant.within.each at).bytes in
    let g = group_more s.items.entries s.added s.finished s.sums c.self.invariant c.args.id c.in-Some.item.now at c.args.increment (omega arith) in
    let e : c.add_completed.new.items.entries ≡ set_value (is_id c.args.id) s.items.entries (record c.in-Some.item.now { bytes_completed = c.in-Some.item.now.bytes_completed + c.args.increment }) = (rw at at c.add_completed.ensures) in
    rw e g
