-- The items that a short list keeps.
use Rattle.std.specs.Prelude.{List, []}
use Rattle.xet_base.specs.declared.short_list.Kept.{Kept}
use Rattle.xet_base.specs.declared.short_list.Kept.TheVariants.{Empty, One, Many}

-- the items, wherever they are
abbrev pub kept_items : {T : Type 0} → Kept T → List T
kept_items Empty = []
kept_items (One items) = items
kept_items (Many v) = v.items
