-- When two ranges or blocks are equal.
use Rattle.std.proofs.Common.{◌≡◌, true, refl, ◌∙◌, ap, eqb}
use Rattle.std.proofs.lemmas.Bool.{and_parts, and_from, eqb-true, eq-eqb}
use lib.Pointwise.{pointwise, pointwise_decides}
use Rattle.xet_base.specs.declared.cas_types.ChunkRange.{ChunkRange}
use Rattle.xet_base.specs.Hashes.{hash_eq}
use Rattle.xet_base.proofs.CallerLemmas.{hash_eq-true, eq-hash_eq}
use Rattle.xet_offers.specs.Blocks.{PlanBlock, block_ranges, range_eq, same_block}

pub range_decides : (a b : ChunkRange) → (range_eq a b ≡ true → a ≡ b) × (a ≡ b → range_eq a b ≡ true)
range_decides a b = (
  λ h. let p = and_parts (eqb a.start b.start) (eqb a.end b.end) h in
      let e = eqb-true a.start b.start p.0 in let f = eqb-true a.end b.end p.1 in
      λ i. record { start = e i; end = f i },
  λ e. and_from (eqb a.start b.start) (eqb a.end b.end) (eq-eqb a.start b.start (ap (λ (r : ChunkRange). r.start) e)) (eq-eqb a.end b.end (ap (λ (r : ChunkRange). r.end) e)),
)

pub same_block-true : (a b : PlanBlock) → same_block a b ≡ true → (a.xorb ≡ b.xorb) × (block_ranges a ≡ block_ranges b)
same_block-true a b h =
    let p = and_parts (hash_eq a.xorb b.xorb) (pointwise range_eq (block_ranges a) (block_ranges b)) h in
    (hash_eq-true a.xorb b.xorb p.0, (pointwise_decides range_decides (block_ranges a) (block_ranges b)).0 p.1)

pub eq-same_block : (a b : PlanBlock) → a.xorb ≡ b.xorb → block_ranges a ≡ block_ranges b → same_block a b ≡ true
eq-same_block a b e f = and_from _ _ (eq-hash_eq a.xorb b.xorb e) ((pointwise_decides range_decides (block_ranges a) (block_ranges b)).1 f)

pub same_block-chain : (a b c : PlanBlock) → same_block a b ≡ true → same_block b c ≡ true → same_block a c ≡ true
same_block-chain a b c h k =
    let x = same_block-true a b h in
    let y = same_block-true b c k in
    eq-same_block a c (x.0 ∙ y.0) (x.1 ∙ y.1)

pub same_block-own : (b : PlanBlock) → same_block b b ≡ true
same_block-own b = eq-same_block b b refl refl
