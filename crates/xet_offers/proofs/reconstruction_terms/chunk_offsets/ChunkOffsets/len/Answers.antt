use Rattle.std.proofs.Common.{◌≡◌, ap, length, sym, ◌∙◌}
use Rattle.xet_offers.specs.ChunkOffsets.{pairs_of, run}
use Rattle.xet_offers.proofs.ChunkRuns.{length-run}
use Rattle.xet_offers.proofs.reconstruction_terms.chunk_offsets.ChunkOffsets.len.Goals as goal

pub returns-in-Run : goal.returns-in-Run
returns-in-Run c =
    let first = c.in-Run.field-0 in
    let same : run first c.in-Run.places ≡ c.args.self.now = sym (ap pairs_of c.in-Run.is) ∙ c.self.view_is in
    c.len.ensures ∙ sym (length-run first c.in-Run.places) ∙ ap length same
