use Rattle.std.proofs.Common.{refl}
use Rattle.xet_mirror_parts.proofs.Gathers.{infos_more}
use Rattle.xet_mirror_parts.proofs.xorb_record.record_of.Goals as goal

pub loop-bytes-preserved : goal.loop-bytes-preserved
loop-bytes-preserved c =
    infos_more c.as_slice-bytes-items.result.now c.loop-bytes.bytes-index c.bytes-item.result c.loop-bytes.chunks
    c.push.new.self _ c.loop-bytes-test.true c.bytes-item.is c.loop-bytes.invariant
    (rw (c.chunk_hash.ensures, c.as_slice.ensures, c.min.ensures, c.len.ensures.value) refl)
    c.in_ok-push.ensures.ok
