-- Each term of an honest plan has a block, whose ranges ascend and cover it.
use Rattle.std.proofs.Common.{◌≡◌, ℕ, ◌+◌, ◌≤◌, ◌<◌, Bool, true, false, cond, ◌&&◌, ◌||◌, List, [], ◌∷◌, length, refl, sym, ◌∙◌, ap, arith, map, get_or, inl, inr, subst}
use Rattle.std.specs.Prelude.{Some, None, Option, find, option_map, option_and_then, unwrap_or, slice_get, nat_le, nat_lt}
use Rattle.std.specs.List.{flat_map, list_any, position_or_len}
use Rattle.std.proofs.lemmas.Bool.{false≢true, and_parts, and_from, leb-true, le-leb, lt-ltb}
use Rattle.std.proofs.lemmas.List.{append-nil, get_or-map, length-map}
use Rattle.std.proofs.lemmas.List.Folds.{find_at, list_any_at}
use Rattle.xet_base.specs.declared.merklehash.MerkleHash.{MerkleHash}
use Rattle.xet_base.specs.declared.cas_types.FileRange.{FileRange}
use Rattle.xet_base.specs.declared.cas_types.ChunkRange.{ChunkRange}
use Rattle.xet_base.specs.Hashes.{hash_eq}
use Rattle.xet_base.specs.Lists.{firsts}
use Rattle.xet_base.specs.Store.{Store, chunks_of}
use Rattle.xet_base.proofs.CallerLemmas.{find_some, firsts_keeps, hash_eq-true, eq-hash_eq, hash_eq-chain}
use Rattle.xet_outside.specs.declared.plan.PlanTerm.{PlanTerm}
use Rattle.xet_outside.specs.Plan.{XorbShape}
use Rattle.xet_outside.specs.declared.plan.FetchRange.{FetchRange}
use Rattle.xet_outside.specs.Plan.{plan_of, plan_terms, plan_xorb, fetch_range, ranges_of, touched_numbers}
use Rattle.xet_base.specs.Ranges.{Ascend, Covers}
use Rattle.xet_outside.proofs.CallerLemmas.{IsPlanTerm, plan_terms_are, runs_ascend, runs_cover}
use Rattle.xet_offers.proofs.CallerLemmas.{eq-same_block, find-map, same_block-chain, same_block-true}
use Rattle.xet_offers.specs.Blocks.{PlanBlock, block_ranges, same_block, lies_in, entry_blocks, plan_xorb_of, block_of_term, term_block, blocks_of}

-- ---- the xorb of a term

-- a term's xorb is in the plan
pub xorb_found : (s : Store) (f : MerkleHash) (q : FileRange) (k : ℕ) (d : PlanTerm) → k < length (plan_terms s f q)
    → plan_xorb_of (plan_of s f q) (get_or (plan_terms s f q) k d).xorb ≡ Some (plan_xorb s (plan_terms s f q) (get_or (plan_terms s f q) k d).xorb)
xorb_found s f q k d h =
    let ts = plan_terms s f q in
    let x = (get_or ts k d).xorb in
    let hs = map (λ (t : PlanTerm). t.xorb) ts in
    let here : hash_eq (get_or hs k d.xorb) x ≡ true = eq-hash_eq (get_or hs k d.xorb) x (get_or-map (λ (t : PlanTerm). t.xorb) ts k d d.xorb h) in
    let l : k < length hs = omega (arith, length-map ts (λ (t : PlanTerm). t.xorb)) in
    let any = firsts_keeps hash_eq hash_eq-chain x hs (list_any_at (λ y. hash_eq y x) hs k d.xorb l here) in
    let found = find_some (λ y. hash_eq y x) (firsts hash_eq hs) any in
    find-map (plan_xorb s ts) (λ (y : XorbShape). hash_eq y.xorb x) (firsts hash_eq hs)
    ∙ ap (λ (o : Option MerkleHash). option_map (plan_xorb s ts) o) found.1
    ∙ ap (λ (y : MerkleHash). Some (plan_xorb s ts y)) (hash_eq-true found.0 x found.2)

-- ---- the ranges of a xorb

-- the touched numbers have a term's chunks
numbers_cover : (s : Store) (ts : List PlanTerm) (k : ℕ) (d : PlanTerm) → k < length ts → IsPlanTerm s (get_or ts k d)
    → Covers (get_or ts k d).range.start (get_or ts k d).range.end (ranges_of (touched_numbers ts (get_or ts k d).xorb (length (chunks_of s (get_or ts k d).xorb))))
numbers_cover s ts k d h is =
    let t = get_or ts k d in
    let n = length (chunks_of s t.xorb) in
    let inside : t.range.end ≤ n = is.inside in
    runs_cover (λ j. list_any (λ u. hash_eq u.xorb t.xorb && nat_le u.range.start j && nat_lt j u.range.end) ts) 0 n t.range.start t.range.end (omega arith) is.some (omega arith)
    (λ j l m. list_any_at (λ u. hash_eq u.xorb t.xorb && nat_le u.range.start j && nat_lt j u.range.end) ts k d h
    (and_from _ _ (and_from _ _ (eq-hash_eq t.xorb t.xorb refl) (le-leb t.range.start j l)) (lt-ltb j t.range.end m)))

pub numbers_ascend : (ts : List PlanTerm) (x : MerkleHash) (n : ℕ) → Ascend 0 n (ranges_of (touched_numbers ts x n))
numbers_ascend ts x n =
    let e : 0 + n ≡ n = omega arith in
    subst (λ (m : ℕ). Ascend 0 m (ranges_of (touched_numbers ts x n))) e
    (runs_ascend (λ j. list_any (λ u. hash_eq u.xorb x && nat_le u.range.start j && nat_lt j u.range.end) ts) 0 n)

lies : (t : PlanTerm) (r : FetchRange) → t.range.start < t.range.end → r.chunks.start ≤ t.range.start → t.range.end ≤ r.chunks.end → lies_in t r ≡ true
lies t r w h k = and_from _ _ (le-leb _ _ h) (and_from _ _ (lt-ltb _ _ w) (le-leb _ _ k))

-- a term that is covered lies in one of the fetch ranges
lies_any : (s : Store) (x : MerkleHash) (t : PlanTerm) (rs : List ChunkRange) → t.range.start < t.range.end → Covers t.range.start t.range.end rs → list_any (lies_in t) (map (fetch_range s x) rs) ≡ true
lies_any s x t [] w c = absurd c
lies_any s x t (r ∷ rs) w (inl d) = ap (λ b. b || list_any (lies_in t) (map (fetch_range s x) rs)) (lies t (fetch_range s x r) w d.0 d.1)
lies_any s x t (r ∷ rs) w (inr d) = or_right _ _ (lies_any s x t rs w d)
  where
    or_right : (a b : Bool) → b ≡ true → (a || b) ≡ true
    or_right true b e = refl
    or_right false b e = e

covers_from_lies : (t : PlanTerm) (frs : List FetchRange) → list_any (lies_in t) frs ≡ true → Covers t.range.start t.range.end (map (λ r. r.chunks) frs)
covers_from_lies t [] h = absurd (false≢true h)
covers_from_lies t (r ∷ frs) h = go (lies_in t r) refl h (λ k. covers_from_lies t frs k)
  where
    go : (b : Bool) → lies_in t r ≡ b → (b || list_any (lies_in t) frs) ≡ true → (list_any (lies_in t) frs ≡ true → Covers t.range.start t.range.end (map (λ r. r.chunks) frs)) → Covers t.range.start t.range.end (r.chunks ∷ map (λ r. r.chunks) frs)
    go true e k next =
        let p = and_parts _ _ e in let p2 = and_parts _ _ p.1 in
        inl (leb-true _ _ p.0, leb-true _ _ p2.1)
    go false e k next = inr (next k)

chunks_of_fetch : (s : Store) (x : MerkleHash) (rs : List ChunkRange) → map (λ r. r.chunks) (map (fetch_range s x) rs) ≡ rs
chunks_of_fetch s x [] = refl
chunks_of_fetch s x (r ∷ rs) = ap (λ z. r ∷ z) (chunks_of_fetch s x rs)

-- ---- the block of a term

-- the block is of the term's xorb, and its ranges ascend within it and cover the term
pub record IsBlockOf (s : Store) (t : PlanTerm) (b : PlanBlock) : Type 0 where
  pub xorb : b.xorb ≡ t.xorb
  pub ascends : Ascend 0 (length (chunks_of s t.xorb)) (block_ranges b)
  pub covers : Covers t.range.start t.range.end (block_ranges b)

-- one block of each range
abbrev single : MerkleHash → FetchRange → PlanBlock
single x r = record { xorb = x; ranges = r ∷ [] }

single_found : (s : Store) (x : MerkleHash) (t : PlanTerm) (low high : ℕ) (rs : List ChunkRange) → t.range.start < t.range.end → Ascend low high rs → Covers t.range.start t.range.end rs
    → (b : PlanBlock) × (find (λ b. list_any (lies_in t) b.ranges) (map (single x) (map (fetch_range s x) rs)) ≡ Some b) × (b.xorb ≡ x) × Ascend 0 high (block_ranges b) × Covers t.range.start t.range.end (block_ranges b)
single_found s x t low high [] w a c = absurd c
single_found s x t low high (r ∷ rs) w a c =
    go (lies_in t (fetch_range s x r) || false) refl c (λ d. single_found s x t r.end high rs w a.3 d)
  where
    go : (b : Bool) → (lies_in t (fetch_range s x r) || false) ≡ b → Covers t.range.start t.range.end (r ∷ rs)
        → (Covers t.range.start t.range.end rs → (b : PlanBlock) × (find (λ b. list_any (lies_in t) b.ranges) (map (single x) (map (fetch_range s x) rs)) ≡ Some b) × (b.xorb ≡ x) × Ascend 0 high (block_ranges b) × Covers t.range.start t.range.end (block_ranges b))
        → (c : PlanBlock) × (cond b (Some (single x (fetch_range s x r))) (find (λ b. list_any (lies_in t) b.ranges) (map (single x) (map (fetch_range s x) rs))) ≡ Some c) × (c.xorb ≡ x) × Ascend 0 high (block_ranges c) × Covers t.range.start t.range.end (block_ranges c)
    go true e c next = (
      single x (fetch_range s x r),
      refl,
      refl,
      (omega arith, a.1, a.2, tt),
      covers_from_lies t (fetch_range s x r ∷ []) e,
    )
    go false e (inl d) next = absurd (false≢true (sym e ∙ ap (λ b. b || false) (lies t (fetch_range s x r) w d.0 d.1)))
    go false e (inr d) next = next d

-- the same of a plan's xorb, with multirange on or off
block_among : (s : Store) (ts : List PlanTerm) (multi : Bool) (t : PlanTerm) → t.range.start < t.range.end
    → Covers t.range.start t.range.end (ranges_of (touched_numbers ts t.xorb (length (chunks_of s t.xorb))))
    → (b : PlanBlock) × (find (λ b. list_any (lies_in t) b.ranges) (flat_map (entry_blocks multi t.xorb) (plan_xorb s ts t.xorb).entries) ≡ Some b) × IsBlockOf s t b
block_among s ts true t w c =
    let n = length (chunks_of s t.xorb) in
    let rs = ranges_of (touched_numbers ts t.xorb n) in
    let frs = map (fetch_range s t.xorb) rs in
    let b : PlanBlock = record { xorb = t.xorb; ranges = frs } in (
      b,
      ap (λ x. cond x (Some b) None) (lies_any s t.xorb t rs w c),
      record {
        xorb = refl;
        ascends = subst (λ (z : List ChunkRange). Ascend 0 n z) (sym (chunks_of_fetch s t.xorb rs)) (numbers_ascend ts t.xorb n);
        covers = subst (λ (z : List ChunkRange). Covers t.range.start t.range.end z) (sym (chunks_of_fetch s t.xorb rs)) c;
      },
    )
block_among s ts false t w c =
    let n = length (chunks_of s t.xorb) in
    let rs = ranges_of (touched_numbers ts t.xorb n) in
    let found = single_found s t.xorb t 0 n rs w (numbers_ascend ts t.xorb n) c in (
      found.0,
      ap (λ z. find (λ b. list_any (lies_in t) b.ranges) z) (append-nil (map (single t.xorb) (map (fetch_range s t.xorb) rs))) ∙ found.1,
      record { xorb = found.2; ascends = found.3; covers = found.4 },
    )

-- each term of an honest plan has a block
pub block_found : (s : Store) (f : MerkleHash) (q : FileRange) (multi : Bool) (k : ℕ) (d : PlanTerm) → k < length (plan_terms s f q)
    → (b : PlanBlock) × (block_of_term (plan_of s f q) multi (get_or (plan_terms s f q) k d) ≡ Some b) × IsBlockOf s (get_or (plan_terms s f q) k d) b
block_found s f q multi k d h =
    let ts = plan_terms s f q in
    let t = get_or ts k d in
    let is = plan_terms_are s f q k d h in
    let found = block_among s ts multi t is.some (numbers_cover s ts k d h is) in (
      found.0,
      ap (λ (o : Option XorbShape). option_and_then (λ (x : XorbShape). find (λ b. list_any (lies_in t) b.ranges) (flat_map (entry_blocks multi x.xorb) x.entries)) o) (xorb_found s f q k d h) ∙ found.1,
      found.2,
    )

-- and that block's number in the list of blocks gives one of the same xorb and ranges
pub block_listed : (s : Store) (f : MerkleHash) (q : FileRange) (multi : Bool) (k : ℕ) (d : PlanTerm) → k < length (plan_terms s f q)
    → (b : PlanBlock)
    × (slice_get (blocks_of (plan_of s f q) multi) (position_or_len (λ b. same_block b (term_block (plan_of s f q) multi (get_or (plan_terms s f q) k d))) (blocks_of (plan_of s f q) multi)) ≡ Some b)
    × (block_ranges (term_block (plan_of s f q) multi (get_or (plan_terms s f q) k d)) ≡ block_ranges b)
    × IsBlockOf s (get_or (plan_terms s f q) k d) b
block_listed s f q multi k d h =
    let p = plan_of s f q in
    let ts = plan_terms s f q in
    let t = get_or ts k d in
    let found = block_found s f q multi k d h in
    let b = term_block p multi t in
    let is_b : b ≡ found.0 = ap (λ (o : Option PlanBlock). unwrap_or o (record { xorb = t.xorb; ranges = [] })) found.1 in
    let bs = map (term_block p multi) ts in
    let at = get_or-map (term_block p multi) ts k d (term_block p multi d) h in
    let here : same_block (get_or bs k (term_block p multi d)) b ≡ true = eq-same_block (get_or bs k (term_block p multi d)) b
    (ap (λ (x : PlanBlock). x.xorb) at) (ap (λ (x : PlanBlock). block_ranges x) at) in
    let l : k < length bs = omega (arith, length-map ts (term_block p multi)) in
    let any = firsts_keeps same_block same_block-chain b bs (list_any_at (λ c. same_block c b) bs k (term_block p multi d) l here) in
    let got = find_some (λ c. same_block c b) (firsts same_block bs) any in
    let same = same_block-true got.0 b got.2 in (
      got.0,
      sym (find_at (λ c. same_block c b) (firsts same_block bs)) ∙ got.1,
      sym same.1,
      record {
        xorb = same.0 ∙ ap (λ (x : PlanBlock). x.xorb) is_b ∙ found.2.xorb;
        ascends = subst (λ (z : List ChunkRange). Ascend 0 (length (chunks_of s t.xorb)) z) (sym (ap block_ranges is_b) ∙ sym same.1) found.2.ascends;
        covers = subst (λ (z : List ChunkRange). Covers t.range.start t.range.end z) (sym (ap block_ranges is_b) ∙ sym same.1) found.2.covers;
      },
    )
