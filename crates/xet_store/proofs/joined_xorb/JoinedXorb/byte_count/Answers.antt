use Rattle.std.proofs.Common.{◌∙◌, ap, length, sym}
use Rattle.xet_store.proofs.JoinedParts.{concat-parts}
use Rattle.xet_store.proofs.joined_xorb.JoinedXorb.byte_count.Goals as goal

pub returns : goal.returns
returns c =
    rw (← c.self.view_is) (c.len.ensures.value ∙ sym (ap length (concat-parts c.self.inside.bytes 0 c.self.inside.ends.items c.self.invariant)))
