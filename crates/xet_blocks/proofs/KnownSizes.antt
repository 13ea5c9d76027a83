-- Over a valid store the size that the terms of a plan tell of a block is its length, so an honest block passes its tests.
use Rattle.std.proofs.Common.{◌≡◌, ℕ, suc, ◌-◌, ◌^◌, Bool, true, false, cond, List, [], ◌∷◌, ◌++◌, drop, filter, get_or, length, map, take, ltb, refl, sym, ◌∙◌, ap, subst, Some, None}
use Rattle.std.specs.Prelude.{All, Option, slice_range, sum, unwrap_or}
use Rattle.std.specs.List.{concat, flat_map}
use Rattle.std.proofs.lemmas.Bool.{eq-eqb}
use Rattle.std.proofs.lemmas.List.{drop-map, take-map}
use Rattle.std.proofs.lemmas.List.Elements.{All-filter, All-map, filter_passes}
use Rattle.xet_base.specs.declared.merklehash.MerkleHash.{MerkleHash}
use Rattle.xet_base.specs.declared.cas_types.ChunkRange.{ChunkRange}
use Rattle.xet_base.specs.declared.cas_types.FileRange.{FileRange}
use Rattle.xet_base.specs.Lists.{first_some}
use Rattle.xet_base.specs.Ranges.{Ascend, Covers}
use Rattle.xet_base.specs.Store.{Store, chunks_of}
use Rattle.xet_outside.specs.declared.block.BlockBytes.{BlockBytes}
use Rattle.xet_outside.specs.declared.plan.PlanTerm.{PlanTerm}
use Rattle.xet_outside.specs.Plan.{Shape, block_of, lengths, plan_of, plan_terms}
use Rattle.xet_outside.proofs.CallerLemmas.{IsPlanTerm, plan_terms_are, sum_lengths}
use Rattle.xet_error.specs.declared.error.Corruption.{Corruption}
use Rattle.xet_error.specs.declared.error.Corruption.TheVariants.{BlockLength}
use Rattle.xet_offers.specs.declared.reconstruction_terms.xorb_block.XorbReference.{XorbReference}
use Rattle.xet_offers.specs.Blocks.{PlanBlock, block_ranges, blocks_of, same_block, term_block}
use Rattle.xet_offers.specs.BlockChecks.{count_test, failed_block_test, length_test, order_test}
use Rattle.xet_offers.specs.Chain.{chain_sum, known_size}
use Rattle.xet_blocks.specs.Laws.{IsSized, KnownSizes}
use Rattle.xet_blocks.specs.TermBlocks.{reference_of, references}
use Rattle.xet_blocks.proofs.ChainSums.{chains_sum}
use Rattle.xet_offers.proofs.CallerLemmas.{firsts_all, same_block-true}
use Rattle.xet_blocks.proofs.HonestBlocks.{IsBlockOf, block_found}
use Rattle.xet_blocks.proofs.BlockReferences.{all_by_start}

-- the lengths of some chunks are some of the lengths
slice-lengths : (cs : List (List ℕ)) (a b : ℕ) → slice_range (lengths cs) a b ≡ lengths (slice_range cs a b)
slice-lengths cs a b = ap (λ (l : List ℕ). take (b - a) l) (drop-map (λ c. length c) a cs) ∙ take-map (λ c. length c) (b - a) (drop a cs)

lengths_of_block : (cs : List (List ℕ)) (rs : List ChunkRange) → sum (flat_map (λ r. slice_range (lengths cs) r.start r.end) rs) ≡ length (concat (flat_map (λ r. slice_range cs r.start r.end) rs))
lengths_of_block cs rs = ap sum (joined rs) ∙ sum_lengths (flat_map (λ r. slice_range cs r.start r.end) rs)
  where
    both : (xs ys : List (List ℕ)) → lengths (xs ++ ys) ≡ lengths xs ++ lengths ys
    both [] ys = refl
    both (x ∷ xs) ys = ap (λ l. length x ∷ l) (both xs ys)

    joined : (rs : List ChunkRange) → flat_map (λ r. slice_range (lengths cs) r.start r.end) rs ≡ lengths (flat_map (λ r. slice_range cs r.start r.end) rs)
    joined [] = refl
    joined (r ∷ rs) =
        let here = slice-lengths cs r.start r.end in
        let rest = joined rs in
        (λ i. here i ++ rest i) ∙ sym (both (slice_range cs r.start r.end) (flat_map (λ r. slice_range cs r.start r.end) rs))

-- a block is that of a term of the plan
pub record IsTermsBlock (s : Store) (p : Shape) (multi : Bool) (b : PlanBlock) : Type 0 where
  pub term : PlanTerm
  pub is : b ≡ term_block p multi term
  pub fits : IsBlockOf s term b

module _ (s : Store) (f : MerkleHash) (q : FileRange) (multi : Bool) where
  abbrev p : Shape
  p = plan_of s f q

  -- each term, with its block
  record HasBlock (t : PlanTerm) : Type 0 where
    planned : IsPlanTerm s t
    fits : IsBlockOf s t (term_block p multi t)

  terms_have : All HasBlock (plan_terms s f q)
  terms_have = λ k d h.
      let t = get_or (plan_terms s f q) k d in
      let found = block_found s f q multi k d h in
      let is : term_block p multi t ≡ found.0 = ap (λ (o : Option PlanBlock). unwrap_or o (record { xorb = t.xorb; ranges = [] })) found.1 in
      record { planned = plan_terms_are s f q k d h; fits = subst (IsBlockOf s t) (sym is) found.2 }

  blocks_have : All (IsTermsBlock s p multi) (blocks_of p multi)
  blocks_have =
      firsts_all same_block (IsTermsBlock s p multi) (map (term_block p multi) (plan_terms s f q))
      (All-map (IsTermsBlock s p multi) (term_block p multi) (plan_terms s f q) (λ k d h. let has = terms_have k d h in record { term = get_or (plan_terms s f q) k d; is = refl; fits = has.fits }))

  -- the references of a block have its chunks' lengths
  references_sized : (b : PlanBlock) → IsTermsBlock s p multi b → All (IsSized (lengths (chunks_of s b.xorb)) (block_ranges b)) (references p multi b)
  references_sized b is =
      all_by_start (IsSized (lengths (chunks_of s b.xorb)) (block_ranges b)) (map reference_of own)
      (All-map (IsSized (lengths (chunks_of s b.xorb)) (block_ranges b)) reference_of own (λ k d h.
      let t = get_or own k d in
      let has = All-filter in_block HasBlock (plan_terms s f q) terms_have k d h in
      let same = same_block-true b (term_block p multi t) (filter_passes in_block (plan_terms s f q) k d h) in
      sized t has.planned has.fits same.0 same.1))
    where
      in_block : PlanTerm → Bool
      in_block t = same_block b (term_block p multi t)

      own : List PlanTerm
      own = filter in_block (plan_terms s f q)

      sized : (t : PlanTerm) → IsPlanTerm s t → IsBlockOf s t (term_block p multi t) → b.xorb ≡ (term_block p multi t).xorb → block_ranges b ≡ block_ranges (term_block p multi t)
          → IsSized (lengths (chunks_of s b.xorb)) (block_ranges b) (reference_of t)
      sized t planned fits xorb ranges =
          let same : t.xorb ≡ b.xorb = sym (xorb ∙ fits.xorb) in
          record {
            some = planned.some;
            lies = subst (λ (rs : List ChunkRange). Covers t.range.start t.range.end rs) (sym ranges) fits.covers;
            size = planned.size ∙ sym (sum_lengths (slice_range (chunks_of s t.xorb) t.range.start t.range.end))
                ∙ ap (λ (x : MerkleHash). sum (lengths (slice_range (chunks_of s x) t.range.start t.range.end))) same
                ∙ ap sum (sym (slice-lengths (chunks_of s b.xorb) t.range.start t.range.end));
          }

  -- so a size that they tell is the block's length
  pub told_size : (b : PlanBlock) → IsTermsBlock s p multi b → (n : ℕ) → known_size (block_ranges b) (references p multi b) ≡ Some n → n ≡ length (block_of s b.xorb (block_ranges b)).bytes
  told_size b is n e =
      let cs = chunks_of s b.xorb in
      let xorb : is.term.xorb ≡ b.xorb = sym is.fits.xorb in
      let long : length cs ≡ length (lengths cs) = sym (length-lengths cs) in
      let ascends : Ascend 0 (length (lengths cs)) (block_ranges b) =
      subst (λ (n : ℕ). Ascend 0 n (block_ranges b)) (ap (λ (x : MerkleHash). length (chunks_of s x)) xorb ∙ long) is.fits.ascends in
      chains_sum (lengths cs) (block_ranges b) (references p multi b) n ascends (references_sized b is) (chain (block_ranges b) (references p multi b) e)
      ∙ lengths_of_block cs (block_ranges b)
    where
      length-lengths : (cs : List (List ℕ)) → length (lengths cs) ≡ length cs
      length-lengths [] = refl
      length-lengths (c ∷ cs) = ap (λ (n : ℕ). suc n) (length-lengths cs)

      chain : (rs : List ChunkRange) (ts : List XorbReference) → known_size rs ts ≡ Some n → chain_sum rs ts ≡ Some n
      chain [] ts e = e
      chain (r ∷ rs) ts e = go (ltb (sum (map (λ t. t.uncompressed_size) ts)) (2 ^ 64)) e
        where
          go : (b : Bool) → cond b (chain_sum (r ∷ rs) ts) None ≡ Some n → chain_sum (r ∷ rs) ts ≡ Some n
          go true e = e
          go false e = cc

pub known_sizes : KnownSizes
known_sizes s v f q multi = λ k d h. told_size s f q multi (get_or (blocks_of (plan_of s f q) multi) k d) (blocks_have s f q multi k d h)

-- ---- the test of the length

pub length_passes : (size : Option ℕ) (b : BlockBytes) → ((n : ℕ) → size ≡ Some n → n ≡ length b.bytes) → length_test size b ≡ None
length_passes None b h = refl
length_passes (Some n) b h = ap (λ x. cond x None (Some (BlockLength n (length b.bytes)))) (eq-eqb n (length b.bytes) (h n refl))

-- the tests with a size are those without one, and then that of the length
pub sized_passes : (rs : List ChunkRange) (size : Option ℕ) (b : BlockBytes) → failed_block_test rs None b ≡ None → length_test size b ≡ None → failed_block_test rs size b ≡ None
sized_passes rs size b h l = go (count_test rs b) (order_test b) h
  where
    go : (x y : Option Corruption) → first_some (x ∷ y ∷ None ∷ []) ≡ None → first_some (x ∷ y ∷ length_test size b ∷ []) ≡ None
    go None None e = ap (λ (o : Option Corruption). first_some (o ∷ [])) l
    go None (Some y) e = cc
    go (Some x) y e = cc
