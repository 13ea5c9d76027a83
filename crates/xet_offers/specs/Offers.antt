-- The ranges that the entries of a plan's xorbs offer, each with its block and its URL.
use Rattle.std.specs.Prelude.{ℕ, ◌+◌, ◌-◌, ◌^◌, Bool, false, cond, List, [], ◌∷◌, ◌++◌, length, map, find, min, Option}
use Rattle.std.specs.Prelude.{option_and_then}
use Rattle.std.specs.List.{flat_map, position_or_len}
use Rattle.xet_base.specs.declared.merklehash.MerkleHash.{MerkleHash}
use Rattle.xet_base.specs.Hashes.{hash_eq}
use Rattle.xet_base.specs.Lists.{firsts}
use Rattle.xet_outside.specs.declared.plan.FetchEntry.{FetchEntry}
use Rattle.xet_outside.specs.declared.plan.FetchRange.{FetchRange}
use Rattle.xet_outside.specs.declared.plan.Plan.{Plan}
use Rattle.xet_outside.specs.declared.plan.PlanTerm.{PlanTerm}
use Rattle.xet_outside.specs.declared.plan.PlanXorb.{PlanXorb}
use Rattle.xet_offers.specs.declared.reconstruction_terms.listed_offers.Offer.{Offer}
use Rattle.xet_offers.specs.Blocks.{PlanBlock, lies_in}

-- a range that is offered: its URL, the ranges of its block, the number of the block's first range among those of the
-- xorb, and how many chunks of the block come before it
pub record Offered : Type 0 where
  pub url : List ℕ
  pub range : FetchRange
  pub block : List FetchRange
  pub number : ℕ
  pub before : ℕ

abbrev pub offered : Offer → Offered
offered o = record { url = o.url.now; range = o.range; block = o.block.now; number = o.number; before = o.before }

-- some ranges of a block, where the first has so many chunks of the block before it
abbrev pub ranges_from : ℕ → List ℕ → List FetchRange → ℕ → List FetchRange → List Offered
ranges_from n u b before [] = []
ranges_from n u b before (r ∷ rs) =
    record { url = u; range = r; block = b; number = n; before = before }
    ∷ ranges_from n u b (min (before + (r.chunks.end - r.chunks.start)) (2 ^ 64 - 1)) rs

-- a URL, and the ranges of a block that it serves
abbrev pub Candidate : Type 0
Candidate = List ℕ × List FetchRange

-- the blocks that an entry offers: one of all its ranges, or one of each
abbrev pub entry_candidates : Bool → FetchEntry → List Candidate
entry_candidates multi e = cond multi ((e.url, e.ranges) ∷ []) (map (λ r. (e.url, r ∷ [])) e.ranges)

abbrev pub candidates : Bool → PlanXorb → List Candidate
candidates multi x = flat_map (entry_candidates multi) x.fetch

-- the ranges of blocks, where the first one has this number
abbrev pub offers_from : ℕ → List Candidate → List Offered
offers_from n [] = []
offers_from n (c ∷ cs) = ranges_from n c.0 c.1 0 c.1 ++ offers_from (n + length c.1) cs

abbrev pub xorb_offers : Bool → PlanXorb → List Offered
xorb_offers multi x = offers_from 0 (candidates multi x)

-- what one entry offers where each of its ranges is a block
abbrev pub entry_offers : FetchEntry → List Offered
entry_offers e = offers_from 0 (entry_candidates false e)

-- of the xorbs with one hash the first alone
abbrev pub first_xorbs : List PlanXorb → List PlanXorb
first_xorbs xs = firsts (λ x y. hash_eq x.xorb y.xorb) xs

-- the place of the xorb with a hash among these
abbrev pub xorb_place : Plan → MerkleHash → ℕ
xorb_place p h = position_or_len (λ x. hash_eq x.xorb h) (first_xorbs p.xorbs)

-- the first offer in which the term lies, of the first xorb of the plan with the term's hash
abbrev pub offer_of_term : Plan → Bool → PlanTerm → Option Offered
offer_of_term p multi t =
    let first = λ (x : PlanXorb). find (λ o. lies_in t o.range) (xorb_offers multi x) in
    option_and_then first (find (λ y. hash_eq y.xorb t.xorb) p.xorbs)

-- the block of these ranges
abbrev pub ranges_block : MerkleHash → List FetchRange → PlanBlock
ranges_block x rs = record { xorb = x; ranges = rs }
