-- Tables of a raw store's xorbs.
use Rattle.std.specs.Prelude.{◌≡◌, map}
use Rattle.xet_audit.specs.declared.xorb_table.XorbTable.{XorbTable}
use Rattle.xet_findings.specs.Places.{places_of}
use Rattle.xet_audit.specs.steps.Tables.{IsTable}

-- the table has the hashes of its raw store's xorbs, and the places of each one's chunks
pub record IsIndexed (t : XorbTable) : Type 0 where
  pub table : IsTable (map (λ x. x.hash) t.raw.now.xorbs) t.firsts.hashes t.firsts.places.items
  pub sized : t.places ≡ map (λ x. places_of x.chunks) t.raw.now.xorbs
