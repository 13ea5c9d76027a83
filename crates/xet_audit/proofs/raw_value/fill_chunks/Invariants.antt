use Rattle.std.proofs.Common.{◌≡◌, [], drop}
use Rattle.serde_json.specs.View.{items_view}
use Rattle.xet_audit.specs.Raws.{chunks_of_items}
use Rattle.xet_audit.proofs.Members.{with_rest}
use Rattle.xet_audit.proofs.raw_value.fill_chunks.Given as goal

abbrev pub invariant-loop-item : goal.invariant-loop-item
invariant-loop-item l = record {
  left : chunks_of_items (items_view l.items) ≡ with_rest l.chunks (chunks_of_items (items_view (drop l.item-index l.items)));
  empty : l.room.items ≡ [];
}
