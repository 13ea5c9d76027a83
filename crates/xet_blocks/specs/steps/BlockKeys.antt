-- Keys of blocks, and the table of their numbers.
use Rattle.std.specs.Prelude.{ℕ, ◌≡◌, ◌&&◌, Bool, Option, None, List, [], Vec, map, nat_eq, position, slice_index_or}
use Rattle.std.specs.declared.alloc.Global.{Global}
use Rattle.xet_blocks.specs.declared.reconstruction_terms.block_list.BlockKey.{BlockKey}
use Rattle.xet_blocks.specs.declared.reconstruction_terms.block_list.OfferedBlock.{OfferedBlock}
use Rattle.xet_base.specs.declared.merklehash.MerkleHash.{MerkleHash}
use Rattle.xet_offers.specs.Offers.{Offered}

-- the block is that of an offer of the xorb with this hash and number
pub record IsBlockOf (h : MerkleHash) (at : ℕ) (o : Offered) (b : OfferedBlock) : Type 0 where
  pub xorb : b.xorb.now ≡ h
  pub place : b.place ≡ at
  pub number : b.number ≡ o.number
  pub ranges : b.ranges.now ≡ o.block
  pub url : b.url.now ≡ o.url

-- the number of the block's xorb, and the block's own among those of the xorb
abbrev pub key_of : OfferedBlock → BlockKey
key_of b = record { place = b.place; number = b.number }

-- two keys are equal
abbrev pub same_key : BlockKey → BlockKey → Bool
same_key a b = nat_eq a.place b.place && nat_eq a.number b.number

-- the place of the block with a key among these
abbrev pub place_of_key : List OfferedBlock → BlockKey → Option ℕ
place_of_key bs k = position (λ c. same_key (key_of c) k) bs

-- the rows of a table
abbrev pub rows_of : Vec (Vec (Option ℕ) Global) Global → List (List (Option ℕ))
rows_of v = map (λ r. r.items) v.items

-- the row of a xorb, which is empty past the table's end
abbrev pub row_at : List (List (Option ℕ)) → ℕ → List (Option ℕ)
row_at rows p = slice_index_or rows p []

-- the number that a table has for a key
abbrev pub number_at : List (List (Option ℕ)) → BlockKey → Option ℕ
number_at rows k = slice_index_or (row_at rows k.place) k.number None

-- the table has the number of each block, and nothing else
abbrev pub HasNumbers : List OfferedBlock → List (List (Option ℕ)) → Type 0
HasNumbers bs rows = (k : BlockKey) → number_at rows k ≡ place_of_key bs k
