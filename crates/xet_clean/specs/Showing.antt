-- A cleaner as contracts see it.
use Rattle.xet_clean.specs.Cleaners.{Cleaner}
use Rattle.xet_clean_parts.specs.Pending.{bytes_left}
use Rattle.xet_clean_parts.specs.Places.{Telling}
use Rattle.xet_clean.specs.declared.cleaner.SingleFileCleaner.{SingleFileCleaner}

-- where `told` is what its cutter tells
abbrev pub cleaner_of : {T : Type 0} → (T → Telling) → SingleFileCleaner T → Cleaner
cleaner_of told c = record {
  file_id = c.file_id;
  size = c.size;
  policy = c.policy;
  tell = told c.cutter;
  parts = c.parts;
  pending = bytes_left c.pending;
  hasher = c.hasher;
  fed = c.fed;
  counts = c.counts;
  failed = c.failed;
}
