use Rattle.std.proofs.Common.{rules, ◌≡◌, None, false}
use Rattle.std.specs.Prelude.{is_some}
use Rattle.std.specs.Map.{lookup}
use Rattle.xet_progress_state.specs.Group.{is_id}
use Rattle.xet_progress_state.proofs.Groups.{group_after, new_item_call, none_some}
use Rattle.xet_progress_state.proofs.group.GroupState.new_item.Goals as goal

absent : (c : goal.After-add_blank) → lookup (is_id c.args.id) c.self.inside.items.entries ≡ None
absent c =
    let some : is_some (lookup (is_id c.args.id) c.self.inside.items.entries) ≡ false = search rules in
    none_some (lookup (is_id c.args.id) c.self.inside.items.entries) some

pub invariant_of-self : goal.invariant_of-self
invariant_of-self c =
    let s = c.self.inside in
    group_after s.items.entries c.add_blank.new.items.entries s.added s.finished s.sums c.args.id c.args.name.now c.add_blank.result c.self.invariant (absent c) c.add_blank.ensures.ok c.add_blank.ensures.memory

pub returns : goal.returns
returns c =
    let s = c.self.inside in
    rw (← c.self.view_is) (new_item_call (record { items = s.items.entries; added = s.added; finished = s.finished }) c.add_blank.new.items.entries c.args.id c.args.name.now c.add_blank.result (absent c) c.add_blank.ensures.ok c.add_blank.ensures.memory)
