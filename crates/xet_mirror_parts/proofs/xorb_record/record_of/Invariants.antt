use Rattle.std.proofs.Common.{◌≡◌, map, take}
use Rattle.xet_uploader.specs.Uploads.{capped_info}
use Rattle.xet_mirror_parts.proofs.xorb_record.record_of.Given as goal

abbrev pub invariant-loop-bytes : goal.invariant-loop-bytes
invariant-loop-bytes l = l.chunks ≡ map capped_info (take l.bytes-index l.bytes-items)
