use Rattle.std.proofs.Common.{◌≡◌, ◌+◌, ◌-◌, ◌^◌, ◌++◌, ◌∷◌, [], ◌∙◌, arith, min}
use Rattle.xet_blocks.proofs.reconstruction_terms.plan_blocks.PlanBlocks.add_term.Goals as goal

pub returns : goal.returns
returns c =
    let offer = c.args.offer.now in
    let term = c.args.term.now in
    let same : c.number_of.new.self.starts ≡ c.args.self.now.starts = c.number_of.ensures.starts in
    let start : c.saturating_add.result ≡ min (offer.before + (term.range.start - offer.range.chunks.start)) (2 ^ 64 - 1) =
    omega (arith, c.saturating_add.ensures, c.from-inside.ensures, c.first_chunk.ensures.value) in
    record {
      number = c.in_ok-block.block;
      numbered = c.in_ok-block.ensures.number;
      starts = c.in_ok-push.ensures.ok ∙ (λ i. same i ++ record { block = c.in_ok-block.block; start_index = start i } ∷ []);
      fits = c.first_chunk.ensures.fits;
    }
