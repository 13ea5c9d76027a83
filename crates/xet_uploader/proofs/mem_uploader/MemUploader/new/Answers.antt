use Rattle.std.proofs.Common.{refl}
use Rattle.xet_uploader.proofs.mem_uploader.MemUploader.new.Goals as goal

pub invariant_of-result : goal.invariant_of-result
invariant_of-result c = record { indexed = rw (c.new.ensures.items, c.new-2.ensures) refl }
