use Rattle.std.proofs.Common.{◌≡◌, ◌++◌, map, take}
use Rattle.xet_audit.specs.Findings.{each_at, is_later_xorb}
use Rattle.xet_audit.specs.Raws.{store_of_raw}
use Rattle.xet_audit.specs.steps.Tables.{IsTable}
use Rattle.xet_audit.proofs.first_places.FirstPlaces.add_xorbs.Given as goal

abbrev pub invariant-loop-a : goal.invariant-loop-a
invariant-loop-a l =
    let s = store_of_raw l.raw in record {
      table : IsTable (map (λ x. x.hash) (take l.a s.xorbs)) l.self.hashes l.self.places.items;
      found : l.found.items ≡ l.initial.found.items ++ each_at 1 (is_later_xorb s) (take l.a s.xorbs);
    }
