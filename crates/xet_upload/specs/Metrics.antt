-- Counts of an upload.
use Rattle.std.specs.Prelude.{ℕ, ◌+◌, ◌-◌, ◌^◌, min}
use Rattle.xet_upload.specs.declared.metrics.DeduplicationMetrics.{DeduplicationMetrics}

abbrev pub no_counts : DeduplicationMetrics
no_counts = record {
  total_bytes = 0;
  deduped_bytes = 0;
  new_bytes = 0;
  total_chunks = 0;
  deduped_chunks = 0;
  new_chunks = 0;
  xorb_bytes_uploaded = 0;
  shard_bytes_uploaded = 0;
  total_bytes_uploaded = 0;
}

-- a sum that stops at 2 ^ 64 - 1
abbrev pub capped_sum : ℕ → ℕ → ℕ
capped_sum a b = min (a + b) (2 ^ 64 - 1)

-- the counts of both
abbrev pub both : DeduplicationMetrics → DeduplicationMetrics → DeduplicationMetrics
both m n = record {
  total_bytes = capped_sum m.total_bytes n.total_bytes;
  deduped_bytes = capped_sum m.deduped_bytes n.deduped_bytes;
  new_bytes = capped_sum m.new_bytes n.new_bytes;
  total_chunks = capped_sum m.total_chunks n.total_chunks;
  deduped_chunks = capped_sum m.deduped_chunks n.deduped_chunks;
  new_chunks = capped_sum m.new_chunks n.new_chunks;
  xorb_bytes_uploaded = capped_sum m.xorb_bytes_uploaded n.xorb_bytes_uploaded;
  shard_bytes_uploaded = capped_sum m.shard_bytes_uploaded n.shard_bytes_uploaded;
  total_bytes_uploaded = capped_sum m.total_bytes_uploaded n.total_bytes_uploaded;
}
