use Rattle.std.proofs.Common.{◌≡◌, ◌++◌, drop}
use Rattle.std.specs.Prelude.{option_map}
use Rattle.serde_json.specs.View.{items_view}
use Rattle.xet_mirror_command.specs.MirrorInput.{hashes_of_items}
use Rattle.xet_mirror_command.proofs.input.hashes_of.Given as goal

abbrev pub invariant-loop-item : goal.invariant-loop-item
invariant-loop-item l =
    hashes_of_items (items_view l.items) ≡ option_map (λ rest. l.hashes ++ rest) (hashes_of_items (items_view (drop l.item-index l.items)))
