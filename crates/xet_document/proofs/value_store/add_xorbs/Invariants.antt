use Rattle.std.proofs.Common.{◌≡◌}
use Rattle.serde_json.specs.View.{members_view}
use Rattle.xet_base.specs.Store.{IsValid}
use Rattle.xet_document.specs.steps.AddedMembers.{with_xorbs_of}
use Rattle.xet_document.proofs.value_store.add_xorbs.Given as goal

abbrev pub invariant-loop-key : goal.invariant-loop-key
invariant-loop-key l = record {
  can : (goal.iterator-loop-key).can_next l.key-iterator;
  ends : (goal.iterator-loop-key).is_finite l.key-iterator;
  left : with_xorbs_of l.initial.store (members_view l.members.entries) ≡ with_xorbs_of l.store (members_view l.key-iterator);
  valid : IsValid l.store;
}
