-- What a refresh of a leader's plan asks, and that a valid store's answers to it are not refused.
use Rattle.std.proofs.Common.{◌≡◌, ℕ, ◌+◌, ◌-◌, ◌^◌, ◌<◌, ◌≤◌, Bool, min, List, [], ◌∷◌, length, Option, None, Some, refl, sym, subst, ◌∙◌, ap, arith}
use Rattle.std.specs.Prelude.{IsSome, map, option_map, unwrap_or}
use Rattle.std.specs.List.{concat, enumerate_from, flat_map}
use Rattle.std.proofs.Math.Nat.{lt_of_not-le}
use Rattle.std.proofs.lemmas.List.{length-map}
use Rattle.std.proofs.lemmas.List.FromFn.{length-enumerate_from}
use Rattle.xet_base.specs.declared.cas_types.FileRange.{FileRange}
use Rattle.xet_base.specs.declared.merklehash.MerkleHash.{MerkleHash}
use Rattle.xet_base.specs.declared.stored.StoredFile.{StoredFile}
use Rattle.xet_base.specs.declared.unique_id.UniqueId.{UniqueId}
use Rattle.xet_base.specs.Lists.{firsts}
use Rattle.xet_base.specs.Store.{IsValid, Store, bytes_of, chunks_of_term, file_of}
use Rattle.xet_outside.specs.declared.plan.Plan.{Plan}
use Rattle.xet_outside.specs.declared.plan.PlanAnswer.{PlanAnswer}
use Rattle.xet_outside.specs.declared.plan.PlanAnswer.TheVariants.{Found}
use Rattle.xet_outside.specs.declared.plan.PlanTerm.{PlanTerm}
use Rattle.xet_outside.specs.Plan.{Shape, plan_of, shape}
use Rattle.xet_outside.specs.Told.{IsHonest}
use Rattle.xet_blocks.specs.declared.reconstruction_terms.file_term.TermBlock.{TermBlock}
use Rattle.xet_offers.specs.declared.reconstruction_terms.xorb_block.XorbBlock.{XorbBlock}
use Rattle.xet_offers.specs.Blocks.{PlanBlock, block_ranges, blocks_of, same_block, term_block, transfer_sum}
use Rattle.xet_blocks.specs.PlanQuery.{PlanQuery}
use Rattle.xet_offers.specs.PlanChecks.{covered}
use Rattle.xet_blocks.specs.TermBlocks.{IsTermBlock, urls_of, xorb_block, xorb_blocks}
use Rattle.xet_blocks.specs.Terms.{terms_of}
use Rattle.xet_fetch.specs.Refreshes.{Extent, extent_of, plan_extents, refusal_of}
use Rattle.xet_fetch.proofs.CallerLemmas.{honest_tables}
use Rattle.xet_ties.specs.Setup.{Setup}
use Rattle.xet_ties.proofs.CallerLemmas.{past_none}
use Rattle.xet_parts.specs.PlanRefreshes.{again}
use Rattle.xet_ties.specs.PartCalls.{plan_refresh}
use Rattle.xet_leader.specs.declared.leader.LedPlan.{LedPlan}
use Rattle.xet_leader.specs.Led.{IsLedTable, bare}

-- ---- what is asked again

numbered_extents : (p : Shape) (multi : Bool) (k : ℕ) (bs : List PlanBlock)
    → map extent_of (map (xorb_block p multi) (enumerate_from k bs)) ≡ map (λ b. (b.xorb, block_ranges b)) bs
numbered_extents p multi k [] = refl
numbered_extents p multi k (b ∷ bs) = ap (λ (l : List Extent). (b.xorb, block_ranges b) ∷ l)
    (numbered_extents p multi (k + 1) bs)

bare_extents : (xs : List XorbBlock) → map extent_of (map bare xs) ≡ map extent_of xs
bare_extents [] = refl
bare_extents (x ∷ xs) = ap (λ (l : List Extent). extent_of x ∷ l) (bare_extents xs)

made_extents : (p : Shape) (multi : Bool) → map extent_of (xorb_blocks p multi) ≡ plan_extents p multi
made_extents p multi = numbered_extents p multi 0 (blocks_of p multi)

led_extents : (p : Shape) (multi : Bool) (xs : List XorbBlock) → map bare xs ≡ xorb_blocks p multi
    → map extent_of xs ≡ plan_extents p multi
led_extents p multi xs is = sym (bare_extents xs) ∙ ap (λ (l : List XorbBlock). map extent_of l) is
    ∙ made_extents p multi

-- a leader's plan asks the refresh of its plan
pub asks_again : (g : Setup) (l : LedPlan) (p : Plan) (q : FileRange) (multi : Bool) → g.multirange ≡ multi
    → map bare l.block.blocks ≡ xorb_blocks (shape p) g.multirange → IsLedTable g l (covered (shape p) q)
    → again l.block multi ≡ plan_refresh g p q
asks_again g l p q multi same is table =
    let blocks : map extent_of l.block.blocks ≡ plan_extents (shape p) g.multirange =
    led_extents (shape p) g.multirange l.block.blocks is in
    λ i. record { file = table.file i; range = table.range_is i; multirange = sym same i; blocks = blocks i }

-- ---- a valid store's answers

empty_file : (s : Store) (f : MerkleHash) → file_of s f ≡ None → length (bytes_of s f) ≡ 0
empty_file s f e = ap (λ o. length (concat (flat_map (chunks_of_term s)
    (unwrap_or (option_map (λ x. x.terms) o) [])))) e

some_terms : (s : Store) → IsValid s → (f : MerkleHash) (q : FileRange) (p : Plan) → shape p ≡ plan_of s f q
    → 0 < length p.terms → length (bytes_of s f) ≤ q.start → ⊥
some_terms s v f q p is some past =
    let n = ap length (ap (λ (x : Shape). x.terms) is ∙ past_none s v f q past) in
    omega (arith, n, some)

pub honest_query : (s : Store) → IsValid s → (f : MerkleHash) (q : FileRange) (p : Plan) → shape p ≡ plan_of s f q
    → 0 < length p.terms → IsHonest s f q (Found p)
honest_query s v f q p is some = (stored (file_of s f) refl, lt_of_not-le (some_terms s v f q p is some), is)
  where
    stored : (o : Option StoredFile) → file_of s f ≡ o → IsSome o
    stored None e = absurd (let z = empty_file s f e in some_terms s v f q p is some (omega (arith, z)))
    stored (Some x) e = refl

-- a plan with terms has blocks
some_blocks : (p : Plan) (multi : Bool) (t : PlanTerm) (ts : List PlanTerm) → p.terms ≡ t ∷ ts
    → 0 < length (xorb_blocks (shape p) multi)
some_blocks p multi t ts e =
    let bs : List PlanBlock = blocks_of (shape p) multi in
    let c : length bs ≡ length (firsts same_block (map (term_block (shape p) multi) (t ∷ ts))) =
    ap (λ (l : List PlanTerm). length (firsts same_block (map (term_block (shape p) multi) l))) e in
    let a = length-map (enumerate_from 0 bs) (xorb_block (shape p) multi) in
    let b = length-enumerate_from 0 bs in
    omega (arith, a, b, c)

-- the table of a plan
abbrev pub id_of : UniqueId
id_of = record { plan = 0; refresh = 0 }

abbrev pub made_query : Setup → FileRange → PlanQuery
made_query g q = record { file = g.file; range = q; multirange = g.multirange; id = id_of }

abbrev pub made_block : Setup → Plan → FileRange → TermBlock
made_block g p q = record {
  byte_range = covered (shape p) q;
  transfer_bytes = min (transfer_sum (blocks_of (shape p) g.multirange)) (2 ^ 64 - 1);
  terms = terms_of (shape p) q g.multirange;
  blocks = xorb_blocks (shape p) g.multirange;
  urls = record {
    file_hash = g.file;
    byte_range = covered (shape p) q;
    acquisition_id = id_of;
    retrieval_urls = urls_of p g.multirange;
  };
}

pub is_made : (g : Setup) (p : Plan) (q : FileRange) → IsTermBlock p (made_query g q) (made_block g p q)
is_made g p q = record {
  range = refl;
  transfer = refl;
  terms = refl;
  blocks = refl;
  urls = refl;
  of_file = refl;
  of_query = refl;
  with_id = refl;
}

-- the store's answers to the refresh of a plan that is its own pass
pub refresh_passes : (g : Setup) (s : Store) → IsValid s → (p : Plan) (q : FileRange) → shape p ≡ plan_of s g.file q
    → 0 < length p.terms
    → (a : PlanAnswer) → IsHonest s g.file (covered (shape p) q) a
    → refusal_of (covered (shape p) q) g.multirange (plan_extents (shape p) g.multirange) a ≡ None
refresh_passes g s v p q is some a h = by p.terms refl
  where
    pass : (t : PlanTerm) → 0 < length (xorb_blocks (shape p) g.multirange)
        → refusal_of (covered (shape p) q) g.multirange (plan_extents (shape p) g.multirange) a ≡ None
    pass t w =
        let d = xorb_block (shape p) g.multirange (0, term_block (shape p) g.multirange t) in
        let all = honest_tables s v p (made_query g q) (made_block g p q) (is_made g p q)
        (honest_query s v g.file q p is some) some in
        subst (λ (es : List Extent). refusal_of (covered (shape p) q) g.multirange es a ≡ None)
        (made_extents (shape p) g.multirange) ((all 0 d w).refreshes a h)

    by : (ts : List PlanTerm) → p.terms ≡ ts → refusal_of (covered (shape p) q) g.multirange
        (plan_extents (shape p) g.multirange) a ≡ None
    by [] e = absurd (let n = ap (λ (l : List PlanTerm). length l) e in omega (arith, n, some))
    by (t ∷ ts) e = pass t (some_blocks p g.multirange t ts e)
