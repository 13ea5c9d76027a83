use Rattle.std.proofs.Common.{◌≡◌, All, map, take}
use Rattle.xet_audit.specs.Raws.{file_of_raw, store_of_raw}
use Rattle.xet_compact.specs.Compacts.{kept_file}
use Rattle.xet_compact.proofs.kept_store.KeptStore.files.Given as goal

abbrev pub invariant-loop-file : goal.invariant-loop-file
invariant-loop-file l = record {
  are : map file_of_raw l.files.items
      ≡ map (kept_file (store_of_raw l.self.raw.now)) (map file_of_raw (take l.file-index l.self.raw.now.files));
  uncounted : All (λ f. All (λ t. t.bytes ≡ 0) f.terms) l.files.items;
}
