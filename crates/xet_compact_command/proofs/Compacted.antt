-- What is printed of a store that is compacted, and of the text that lists it.
use Rattle.std.proofs.Common.{◌≡◌, ◌≢◌, ℕ, List, [], ◌∷◌, ◌++◌, refl, ap, inl, inr}
use Rattle.std.specs.Prelude.{codes, length}
use Rattle.std.specs.Fmt.{decimal}
use Rattle.xet_outside.specs.Told.{SinkTold}
use Rattle.xet_base.specs.declared.merklehash.MerkleHash.{MerkleHash}
use Rattle.xet_base.specs.Store.{Store}
use Rattle.xet_audit.specs.Findings.{faults}
use Rattle.xet_audit.specs.Raws.{HasRaw, NoRaw, store_of_raw}
use Rattle.xet_compact.specs.declared.compaction.Compacted.{Compacted}
use Rattle.xet_compact.specs.Compacts.{Clashes, IsCompacted, dropped_count}
use Rattle.xet_compact.specs.Documents.{document_text}
use Rattle.xet_room.specs.declared.status.Status.{Status}
use Rattle.xet_room.specs.declared.status.Status.TheVariants.{BadHash, BadStore, Done}
use Rattle.xet_room.specs.Inputs.{SomePrinted, TextPrinted}
use Rattle.xet_room.specs.Outcome.{Finished}
use Rattle.xet_room.specs.Texts.{hash_line, line}
use Rattle.xet_compact_command.specs.Compact.{CompactPrints}
use Rattle.xet_compact_command.specs.steps.Printing.{OnePrinted, StorePrinted, StorePrints, counts_line}

module _ (s : Store) (b n : SinkTold) (status : Status) where
  -- the store that it is compacted to
  pub compacted_printed : (c : Compacted) → faults s ≡ [] → IsCompacted s (store_of_raw c.store) → c.dropped_chunks ≡ dropped_count s
      → StorePrinted c b n status → SomePrinted (StorePrints s) b n status
  compacted_printed c valid is dropped (inr h) = inr h
  compacted_printed c valid is dropped (inl h) =
      inl (
        Done,
        document_text (store_of_raw c.store) ++ 10 ∷ counts_line c,
        record {
          faultless = valid;
          compacted = store_of_raw c.store;
          is = is;
          reads = h.0;
          whole_is = ap (λ (k : ℕ). document_text (store_of_raw c.store) ++ 10 ∷ (codes "ok " ++ decimal (length c.store.xorbs) ++ codes " " ++ decimal k ++ 10 ∷ [])) dropped;
        },
        h.1,
      )

  -- a clash
  pub clash_printed : (hash : MerkleHash) → (faults s ≡ []) × Clashes s hash → OnePrinted (hash_line hash.0) BadHash b n status → SomePrinted (StorePrints s) b n status
  clash_printed hash why (inr h) = inr h
  clash_printed hash why (inl h) =
      inl (BadHash, hash_line hash.0, record { faultless = why.0; hash = hash; clash = why.1; whole_is = refl }, h)

  -- the store isn't valid
  pub invalid_printed : faults s ≢ [] → Finished (line BadStore) BadStore b n status → SomePrinted (StorePrints s) b n status
  invalid_printed some h = inl (BadStore, line BadStore, (some, refl), h)

module _ (text : List ℕ) (b n : SinkTold) (status : Status) where
  -- the text lists this store
  pub listed_printed : (s : Store) → HasRaw text s → SomePrinted (StorePrints s) b n status → TextPrinted CompactPrints text b n status
  listed_printed s has (inr h) = inr h
  listed_printed s has (inl h) = inl (h.0, h.1, by_status h.0 h.2, h.3)
    where
      by_status : (own : Status) → StorePrints s own h.1 → CompactPrints text own h.1
      by_status Done p = (s, has, p)
      by_status BadHash p = (s, has, p)
      by_status BadStore p = (inr (record { store = s; has = has; some = p.0 }), p.1)
      by_status _ p = absurd p

  -- it lists none
  pub unlisted_printed : NoRaw text → Finished (line BadStore) BadStore b n status → TextPrinted CompactPrints text b n status
  unlisted_printed none h = inl (BadStore, line BadStore, (inl none, refl), h)
