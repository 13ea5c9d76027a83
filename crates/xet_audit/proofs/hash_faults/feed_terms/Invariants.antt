use Rattle.std.proofs.Common.{map, take}
use Rattle.std.specs.List.{flat_map}
use Rattle.xet_base.specs.Store.{chunks_of_term}
use Rattle.xet_store.specs.Refusals.{stored_term}
use Rattle.xet_audit.specs.Raws.{store_of_raw}
use Rattle.xet_audit.specs.steps.Records.{Fed}
use Rattle.xet_audit.proofs.hash_faults.feed_terms.Given as goal

abbrev pub invariant-loop-term : goal.invariant-loop-term
invariant-loop-term l = Fed l.initial.hasher l.hasher (flat_map (chunks_of_term (store_of_raw l.table.raw.now)) (take l.term-index (map stored_term l.terms)))
