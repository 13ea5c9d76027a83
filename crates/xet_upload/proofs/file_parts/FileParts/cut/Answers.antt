use Rattle.std.proofs.Common.{ap, length}
use Rattle.xet_waiting.specs.Waitings.{Waiting}
use Rattle.xet_upload.proofs.Kept.{counted-renamed}
use Rattle.xet_upload.proofs.file_parts.FileParts.cut.Goals as goal

pub invariant_of-self-2 : goal.invariant_of-self-2
invariant_of-self-2 c = rw c.name_own.ensures (counted-renamed (length c.finalize.new.self.chunks) c.in_ok-raw.raw.xorb.hash c.self.inside.terms, ap (λ (w : Waiting). w.files) c.in_ok-raw.ensures.emptied)
