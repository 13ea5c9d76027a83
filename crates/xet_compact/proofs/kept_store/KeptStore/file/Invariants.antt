use Rattle.std.proofs.Common.{◌≡◌, All, map, take}
use Rattle.xet_store.specs.Refusals.{stored_term}
use Rattle.xet_audit.specs.Raws.{store_of_raw}
use Rattle.xet_compact.specs.Compacts.{kept_term}
use Rattle.xet_compact.proofs.kept_store.KeptStore.file.Given as goal

abbrev pub invariant-loop-term : goal.invariant-loop-term
invariant-loop-term l = record {
  are : map stored_term l.terms
      ≡ map (kept_term (store_of_raw l.self.raw.now)) (map stored_term (take l.term-index l.file.terms));
  uncounted : All (λ t. t.bytes ≡ 0) l.terms;
}
