-- Plans of a valid store: their blocks, terms and refreshes pass their tests, and their terms reach the file's end.
use Rattle.std.proofs.Common.{◌≡◌, ℕ, zero, suc, ◌+◌, ◌-◌, ◌^◌, ◌<◌, Bool, min, List, [], ◌∷◌, length, map, Some}
use Rattle.std.proofs.Common.{None, refl, ap, subst, ◌∙◌, arith}
use Rattle.std.specs.Prelude.{option_map, slice_get}
use Rattle.std.specs.List.{enumerate_from}
use Rattle.std.proofs.lemmas.List.{length-map}
use Rattle.std.proofs.lemmas.List.Elements.{All-get_or}
use Rattle.std.proofs.lemmas.List.FromFn.{length-enumerate_from}
use Rattle.std.proofs.lemmas.Option.{get_or_from_slice_get, slice_get_within}
use Rattle.xet_base.specs.declared.cas_types.FileRange.{FileRange}
use Rattle.xet_base.specs.declared.unique_id.UniqueId.{UniqueId}
use Rattle.xet_base.specs.Lists.{firsts}
use Rattle.xet_base.specs.Store.{IsValid, Store}
use Rattle.xet_outside.specs.declared.plan.Plan.{Plan}
use Rattle.xet_outside.specs.declared.plan.PlanAnswer.{PlanAnswer}
use Rattle.xet_outside.specs.declared.plan.PlanAnswer.TheVariants.{Found}
use Rattle.xet_outside.specs.declared.plan.PlanTerm.{PlanTerm}
use Rattle.xet_outside.specs.Plan.{Shape, shape}
use Rattle.xet_outside.specs.Told.{IsHonest}
use Rattle.xet_blocks.specs.declared.reconstruction_terms.file_term.TermBlock.{TermBlock}
use Rattle.xet_offers.specs.declared.reconstruction_terms.xorb_block.XorbBlock.{XorbBlock}
use Rattle.xet_offers.specs.Blocks.{PlanBlock, block_ranges, blocks_of, same_block, term_block, transfer_sum}
use Rattle.xet_blocks.specs.PlanQuery.{PlanQuery}
use Rattle.xet_offers.specs.PlanChecks.{covered}
use Rattle.xet_blocks.specs.TermBlocks.{IsTermBlock, urls_of, xorb_block, xorb_blocks}
use Rattle.xet_blocks.specs.Terms.{terms_of}
use Rattle.xet_fetch.specs.Fetches.{IsHonestFor}
use Rattle.xet_fetch.specs.Refreshes.{Extent, extent_of, plan_extents, refusal_of}
use Rattle.xet_fetch.proofs.CallerLemmas.{honest_tables}
use Rattle.xet_ties.specs.Setup.{Setup}

-- ---- a plan's blocks by their numbers

numbered_at : (p : Shape) (multi : Bool) (n k : ℕ) (bs : List PlanBlock)
    → slice_get (map (xorb_block p multi) (enumerate_from n bs)) k
    ≡ option_map (λ b. xorb_block p multi (n + k, b)) (slice_get bs k)
numbered_at p multi n k [] = refl
numbered_at p multi n zero (b ∷ bs) =
    let e : n ≡ n + 0 = omega arith in ap (λ (i : ℕ). Some (xorb_block p multi (i, b))) e
numbered_at p multi n (suc k) (b ∷ bs) =
    let e : (n + 1) + k ≡ n + suc k = omega arith in
    numbered_at p multi (n + 1) k bs
    ∙ ap (λ (i : ℕ). option_map (λ c. xorb_block p multi (i, c)) (slice_get bs k)) e

pub block_at : (p : Shape) (multi : Bool) (k : ℕ) (b : PlanBlock) → slice_get (blocks_of p multi) k ≡ Some b
    → slice_get (xorb_blocks p multi) k ≡ Some (xorb_block p multi (k, b))
block_at p multi k b is =
    let e : 0 + k ≡ k = omega arith in
    numbered_at p multi 0 k (blocks_of p multi)
    ∙ ap (option_map (λ c. xorb_block p multi (0 + k, c))) is
    ∙ ap (λ (i : ℕ). Some (xorb_block p multi (i, b))) e

numbered_extents : (p : Shape) (multi : Bool) (k : ℕ) (bs : List PlanBlock)
    → map extent_of (map (xorb_block p multi) (enumerate_from k bs)) ≡ map (λ b. (b.xorb, block_ranges b)) bs
numbered_extents p multi k [] = refl
numbered_extents p multi k (b ∷ bs) =
    ap (λ (l : List Extent). (b.xorb, block_ranges b) ∷ l) (numbered_extents p multi (k + 1) bs)

-- a plan with terms has blocks
some_blocks : (p : Plan) (multi : Bool) (ts : List PlanTerm) → p.terms ≡ ts → 0 < length ts
    → 0 < length (xorb_blocks (shape p) multi)
some_blocks p multi [] e some = absurd (omega (arith, some))
some_blocks p multi (t ∷ ts) e some =
    let bs : List PlanBlock = blocks_of (shape p) multi in
    let c : length bs ≡ length (firsts same_block (map (term_block (shape p) multi) (t ∷ ts))) =
    ap (λ (l : List PlanTerm). length (firsts same_block (map (term_block (shape p) multi) l))) e in
    let a = length-map (enumerate_from 0 bs) (xorb_block (shape p) multi) in
    let b = length-enumerate_from 0 bs in
    omega (arith, a, b, c)

-- ---- the blocks and refreshes of a store's plan

-- the table of a plan
abbrev id_of : UniqueId
id_of = record { plan = 0; refresh = 0 }

abbrev made_query : Setup → FileRange → PlanQuery
made_query g q = record { file = g.file; range = q; multirange = g.multirange; id = id_of }

abbrev made_block : Setup → Plan → FileRange → TermBlock
made_block g p q = record {
  byte_range = covered (shape p) q;
  transfer_bytes = min (transfer_sum (blocks_of (shape p) g.multirange)) (2 ^ 64 - 1);
  terms = terms_of (shape p) q g.multirange;
  blocks = xorb_blocks (shape p) g.multirange;
  urls = record {
    file_hash = g.file;
    byte_range = covered (shape p) q;
    acquisition_id = id_of;
    retrieval_urls = urls_of p g.multirange;
  };
}

is_made : (g : Setup) (p : Plan) (q : FileRange) → IsTermBlock p (made_query g q) (made_block g p q)
is_made g p q = record {
  range = refl;
  transfer = refl;
  terms = refl;
  blocks = refl;
  urls = refl;
  of_file = refl;
  of_query = refl;
  with_id = refl;
}

module _ (s : Store) (v : IsValid s) (g : Setup) (p : Plan) (q : FileRange) (h : IsHonest s g.file q (Found p))
    (some : 0 < length p.terms) where
  abbrev extents : List Extent
  extents = map extent_of (xorb_blocks (shape p) g.multirange)

  -- the store's answer to the plan's refresh is not refused
  abbrev Refreshes : List Extent → Type 0
  Refreshes es = (a : PlanAnswer) → IsHonest s g.file (covered (shape p) q) a
      → refusal_of (covered (shape p) q) g.multirange es a ≡ None

  pub honest_block : (k : ℕ) (b : XorbBlock) → slice_get (xorb_blocks (shape p) g.multirange) k ≡ Some b
      → IsHonestFor s (record {
        file = g.file;
        range = covered (shape p) q;
        multirange = g.multirange;
        blocks = extents;
      }) b
  honest_block k b at =
      let bs = xorb_blocks (shape p) g.multirange in
      let all = honest_tables s v p (made_query g q) (made_block g p q) (is_made g p q) h some in
      subst (IsHonestFor s _) (get_or_from_slice_get bs k b b at)
      (All-get_or (IsHonestFor s _) bs k b (slice_get_within bs k b at) all)

  -- a block and its refresh
  by_block : (bs : List XorbBlock) → xorb_blocks (shape p) g.multirange ≡ bs → 0 < length bs → Refreshes extents
  by_block [] e n = absurd (omega (arith, n))
  by_block (b ∷ bs) e n = (honest_block 0 b (ap (λ (l : List XorbBlock). slice_get l 0) e)).refreshes

  pub refresh_passes : Refreshes (plan_extents (shape p) g.multirange)
  refresh_passes =
      subst Refreshes (numbered_extents (shape p) g.multirange 0 (blocks_of (shape p) g.multirange))
      (by_block (xorb_blocks (shape p) g.multirange) refl (some_blocks p g.multirange p.terms refl some))
