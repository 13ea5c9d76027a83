-- What is printed of a store.
use Rattle.std.specs.Prelude.{ℕ, ◌≡◌, ◌≢◌, ◌⊎◌, ◌++◌, List, [], ◌∷◌, length, codes}
use Rattle.std.specs.Fmt.{decimal}
use Rattle.xet_outside.specs.Told.{SinkTold}
use Rattle.xet_base.specs.Store.{Store}
use Rattle.xet_audit.specs.Findings.{faults}
use Rattle.xet_audit.specs.Raws.{HasRaw, store_of_raw}
use Rattle.xet_compact.specs.declared.compaction.Compacted.{Compacted}
use Rattle.xet_compact.specs.Documents.{document_text}
use Rattle.xet_room.specs.declared.status.Status.{Status}
use Rattle.xet_room.specs.declared.status.Status.TheVariants.{BadHash, BadStore, Done}
use Rattle.xet_room.specs.Inputs.{MemoryPrinted}
use Rattle.xet_room.specs.Outcome.{Finished}
use Rattle.xet_room.specs.Texts.{line}
use Rattle.xet_compact_command.specs.Compact.{CompactClash, CompactDone}

-- the last line: how many xorbs a compacted store has, and how many chunks were dropped
abbrev pub counts_line : Compacted → List ℕ
counts_line c = codes "ok " ++ decimal (length c.store.xorbs) ++ codes " " ++ decimal c.dropped_chunks ++ 10 ∷ []

-- what there is to print of a store, valid or not
abbrev pub StorePrints : Store → Status → List ℕ → Type 0
StorePrints s Done whole = CompactDone s whole
StorePrints s BadHash whole = CompactClash s whole
StorePrints s BadStore whole = (faults s ≢ []) × (whole ≡ line BadStore)
StorePrints s _ whole = ⊥

-- this text was printed with its status, or `error memory`
abbrev pub OnePrinted : List ℕ → Status → SinkTold → SinkTold → Status → Type 0
OnePrinted whole end b n status = Finished whole end b n status ⊎ MemoryPrinted b n status

-- the document of a compacted store, which lists that store, and the last line were printed, or `error memory`
abbrev pub StorePrinted : Compacted → SinkTold → SinkTold → Status → Type 0
StorePrinted c b n status =
    (HasRaw (document_text (store_of_raw c.store)) (store_of_raw c.store)
    × Finished (document_text (store_of_raw c.store) ++ 10 ∷ counts_line c) Done b n status)
    ⊎ MemoryPrinted b n status
