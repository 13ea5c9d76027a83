-- What the reached chunks of a block say.
use Rattle.std.specs.Prelude.{ℕ, List, [], ◌∷◌, ◌&&◌, cond, nat_eq, nat_lt, Option, Some, None}
use Rattle.std.specs.Ordering.{nat_cmp}
use Rattle.std.specs.BTreeMap.{get}
use Rattle.xet_base.specs.declared.cas_types.ChunkRange.{ChunkRange}
use Rattle.xet_offers.specs.declared.reconstruction_terms.reached_sizes.ReachedSizes.{ReachedSizes}
use Rattle.xet_offers.specs.declared.reconstruction_terms.xorb_block.XorbReference.{XorbReference}

-- how many bytes come before a chunk that is reached
abbrev pub sum_of : ReachedSizes → ℕ → Option ℕ
sum_of r p = get nat_cmp r.sums p

-- where a range that ends here bridges to, the first of them
abbrev pub bridge_of : List ChunkRange → ℕ → Option ℕ
bridge_of [] a = None
bridge_of (r ∷ []) a = None
bridge_of (r ∷ s ∷ rs) a = cond (nat_eq r.end a && nat_lt a s.start) (Some s.start) (bridge_of (s ∷ rs) a)

-- a sum at this place alone
abbrev pub reached_here : ℕ → ℕ → ℕ → Option ℕ
reached_here place n p = cond (nat_eq place p) (Some n) None

-- how many bytes the first term has, where it starts and ends at these chunks
abbrev pub size_between : ℕ → ℕ → List XorbReference → Option ℕ
size_between start end [] = None
size_between start end (t ∷ ts) =
    cond (nat_eq t.term_chunks.start start && nat_eq t.term_chunks.end end) (Some t.uncompressed_size) None
