use Rattle.std.proofs.Common.{◌≡◌, ◌∙◌, ◌+◌, ◌<◌, [], arith, get_or, length, List, rules, subst, sym, take, ℕ}
use Rattle.std.specs.Prelude.{All}
use Rattle.xet_outside.specs.declared.plan.PlanTerm.{PlanTerm}
use Rattle.xet_blocks.specs.declared.reconstruction_terms.plan_blocks.TermStart.{TermStart}
use Rattle.xet_blocks.specs.steps.Planning.{with_start, with_starts}
use Rattle.xet_blocks.proofs.BlockReferences.{unsorted_count, unsorted_more}
use Rattle.xet_blocks.proofs.PlacedTerms.{with_starts-take}
use Rattle.xet_blocks.proofs.reconstruction_terms.plan_blocks.PlanBlocks.add_references.Goals as goal

-- what the code reads past the terms, and past their starts
abbrev no_term : PlanTerm
no_term = record { xorb = record { 0 = [] }; unpacked_length = 0; range = record { start = 0; end = 0 } }

abbrev no_start : TermStart
no_start = record { block = 0; start_index = 0 }

-- a term's number is below the number of blocks
low_at : (ss starts : List TermStart) (n i : ℕ) → All (λ s. s.block < n) ss → starts ≡ ss → i < length starts → (get_or starts i no_start).block < n
low_at ss starts n i within same l = subst (λ (l : List TermStart). All (λ s. s.block < n) l) (sym same) within i no_start l

pub bounds-blocks-starts : goal.bounds-blocks-starts
bounds-blocks-starts c =
    let starts = c.as_slice-starts.result.now in
    let i = c.loop-number.number in
    let terms = with_starts (take i c.as_slice-term-items.result.now) starts in
    let long : length starts ≡ length c.as_slice-term-items.result.now =
    (λ i. length (c.as_slice-starts.ensures i)) ∙ c.requires.started ∙ (λ i. length (sym c.as_slice-term-items.ensures i)) in
    let low = low_at c.args.self.now.starts starts (length c.args.self.now.blocks) i c.requires.within c.as_slice-starts.ensures (omega (arith, long, c.loop-number-test.true)) in
    let count = (λ i. length (c.loop-number.invariant i)) ∙ unsorted_count terms c.args.self.now.blocks in
    omega (arith, low, count)

pub offset_bounds-blocks-starts : goal.offset_bounds-blocks-starts
offset_bounds-blocks-starts c = let low = bounds-blocks-starts c in search rules

pub loop-number-preserved : goal.loop-number-preserved
loop-number-preserved c =
    let terms = c.as_slice-term-items.result.now in
    let starts = c.as_slice-starts.result.now in
    let i = c.loop-number.number in
    let t = get_or terms i no_term in
    let s = get_or starts i no_start in
    let long : length starts ≡ length terms =
    (λ i. length (c.as_slice-starts.ensures i)) ∙ c.requires.started ∙ (λ i. length (sym c.as_slice-term-items.ensures i)) in
    let inside : i < length starts = omega (arith, long, c.loop-number-test.true) in
    let low = low_at c.args.self.now.starts starts (length c.args.self.now.blocks) i c.requires.within c.as_slice-starts.ensures inside in
    unsorted_more (with_starts (take i terms) starts) (with_starts (take (i + 1) terms) starts) (with_start t s) c.args.self.now.blocks c.loop-number.blocks c.index-blocks-starts.result c.push.new.self
    c.loop-number.invariant (with_starts-take terms starts i no_term no_start c.loop-number-test.true inside) low c.in_ok-push.ensures.ok
