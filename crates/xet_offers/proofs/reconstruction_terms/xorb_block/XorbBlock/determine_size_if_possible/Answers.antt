use Rattle.std.proofs.Common.{◌≡◌, ◌∙◌, ◌^◌, ◌<◌, ap, length, map, sym}
use Rattle.std.specs.Prelude.{sum}
use Rattle.std.proofs.lemmas.Bool.{ltb-true}
use Rattle.xet_base.specs.declared.cas_types.ChunkRange.{ChunkRange}
use Rattle.xet_offers.specs.declared.reconstruction_terms.xorb_block.XorbReference.{XorbReference}
use Rattle.xet_offers.specs.Chain.{first_start, last_end}
use Rattle.xet_offers.specs.steps.Reached.{size_between, sum_of}
use Rattle.xet_offers.proofs.ReachedSums.{fits_more, known_is, last_end_is, reached_all, reached_more, size}
use Rattle.xet_offers.proofs.WholeSizes.{first_start_is, whole_is}
use Rattle.xet_offers.proofs.reconstruction_terms.xorb_block.XorbBlock.determine_size_if_possible.Goals as goal

-- what the code reads past the terms
abbrev no_reference : XorbReference
no_reference = record { term_chunks = record { start = 0; end = 0 }; uncompressed_size = 0 }

pub follow-requires-clause-fits : goal.follow-requires-clause-fits
follow-requires-clause-fits c n e =
    let total : sum (map size c.args.terms.now) < 2 ^ 64 = ltb-true (sum (map size c.args.terms.now)) (2 ^ 64) (sym c.if-not-sizes_fit.ensures) in
    fits_more c.args.xorb_ranges.now c.args.terms.now (first_start c.args.xorb_ranges.now) (sum_of c.loop-term.reached) c.loop-term.term-index _ n no_reference c.loop-term-test.true c.loop-term.invariant total e

pub loop-term-preserved : goal.loop-term-preserved
loop-term-preserved c =
    reached_more c.args.xorb_ranges.now c.args.terms.now (first_start c.args.xorb_ranges.now) (sum_of c.loop-term.reached) (sum_of c.follow.new.self) c.loop-term.term-index no_reference
    c.requires.some c.requires.sorted c.loop-term-test.true c.loop-term.invariant c.in_ok-follow.ensures

pub returns-in-Some : goal.returns-in-Some
returns-in-Some c =
    let ranges = c.args.xorb_ranges.now in
    let terms = c.args.terms.now in
    let some : 0 < length ranges = ltb-true 0 (length ranges) (sym c.in-Some-Some.ensures.item.0) in
    let start : c.in-Some-Some.first.now.start ≡ first_start ranges = first_start_is ranges c.in-Some-Some.first.now (ap (λ (r : ChunkRange). r.start) c.in-Some-Some.ensures.item.1) some in
    let end : c.in-Some-Some.last.now.end ≡ last_end ranges = ap (λ (r : ChunkRange). r.end) c.in-Some-Some.ensures'.item.1 ∙ last_end_is ranges c.in-Some-Some.last.now some in
    let total : sum (map size terms) < 2 ^ 64 = ltb-true (sum (map size terms)) (2 ^ 64) (sym c.if-not-sizes_fit.ensures) in
    whole_is ranges terms c.in-Some.size some c.requires.some total (c.in-Some.ensures ∙ (λ i. size_between (start i) (end i) terms))

pub returns : goal.returns
returns c =
    let ranges = c.args.xorb_ranges.now in
    let terms = c.args.terms.now in
    let some : 0 < length ranges = ltb-true 0 (length ranges) (sym c.in-Some-Some.ensures.item.0) in
    let end : c.in-Some-Some.last.now.end ≡ last_end ranges = ap (λ (r : ChunkRange). r.end) c.in-Some-Some.ensures'.item.1 ∙ last_end_is ranges c.in-Some-Some.last.now some in
    let total : sum (map size terms) < 2 ^ 64 = ltb-true (sum (map size terms)) (2 ^ 64) (sym c.if-not-sizes_fit.ensures) in
    c.sum.ensures ∙ ap (sum_of c.loop-term.reached) end
    ∙ reached_all ranges terms (sum_of c.loop-term.reached) c.loop-term.term-index some c.requires.some c.loop-term-test.false c.loop-term.invariant
    ∙ sym (known_is ranges terms some total)
