use Rattle.std.proofs.Common.{◌≡◌, drop}
use Rattle.serde_json.specs.View.{view, items_view, members_view}
use Rattle.serde_json.specs.Written.{has_float, items_have_float, members_have_float}
use Rattle.xet_document.proofs.value_store.+holds_float.Given as goal

abbrev pub decreases-holds_float : goal.decreases-holds_float
decreases-holds_float l = goal.size-holds_float l

abbrev pub invariant-loop-item : goal.invariant-loop-item
invariant-loop-item l = has_float (view l.value) ≡ items_have_float (items_view (drop l.item-index l.item-items))

abbrev pub invariant-loop-key : goal.invariant-loop-key
invariant-loop-key l =
    (goal.iterator-loop-key).can_next l._key-iterator ×
    (goal.iterator-loop-key).is_finite l._key-iterator ×
    (has_float (view l.value) ≡ members_have_float (members_view l._key-iterator))
