-- The ties after a block was offered to the cache.
use Rattle.std.proofs.Common.{◌≡◌, List, [], ◌∷◌, Option, Some, None, Ok, Err, refl, sym, subst, ◌∙◌, ap, ⊎_elim}
use Rattle.std.specs.Prelude.{All, IfSome, MatchOption, Result}
use Rattle.std.proofs.lemmas.List.Elements.{All-push}
use Rattle.xet_base.specs.declared.cas_types.ChunkRange.{ChunkRange}
use Rattle.xet_base.specs.Store.{IsValid, Store}
use Rattle.xet_outside.specs.Plan.{block_of}
use Rattle.xet_outside.specs.Told.{CacheEntry, CacheTold, Grew}
use Rattle.xet_error.specs.declared.error.FileReconstructionError.{FileReconstructionError}
use Rattle.xet_offers.specs.declared.reconstruction_terms.xorb_block.XorbBlock.{XorbBlock}
use Rattle.xet_offers.specs.declared.reconstruction_terms.xorb_block.XorbBlockData.{XorbBlockData}
use Rattle.xet_offers.specs.BlockChecks.{block_data}
use Rattle.xet_fetch.specs.CachedBlocks.{IsOffered, entry_of}
use Rattle.xet_fetch.proofs.CallerLemmas.{entries_return}
use Rattle.xet_ties.specs.Setup.{CacheTells, IsHonestEntry}
use Rattle.xet_ties.specs.PartCalls.{OfferOneCall, OffersCall, offers_in}
use Rattle.xet_ties.proofs.CallerLemmas.{offers_none, offers_one}
use Rattle.xet_parts.specs.Offers.{OfferBlockCall, OffersKept}

kept_offers : (x : XorbBlock) (o : Option XorbBlockData) (m n : CacheTold) → x.kept ≡ o → OffersKept x o m n → OffersCall m n x (offers_in x o)
kept_offers x None m n e h = subst (λ (c : CacheTold). OffersCall m c x 0) (sym h) (offers_none x m)
kept_offers x (Some d) m n e h = offers_one x m n d e h

-- a call keeps the ties, where the data that it offers was served
pub offer_block_ties : (x : XorbBlock) (m n : CacheTold) (answer : Result (Unit {0}) FileReconstructionError) → OfferBlockCall x m n answer → OfferOneCall m n x answer
offer_block_ties x m n (Ok v) c = record { done = kept_offers x x.kept m n refl c.offered; kept = tt; memory = tt }
offer_block_ties x m n (Err e) c = record { done = tt; kept = c.unoffered; memory = c.memory }

-- ---- the store that the cache tells

same_tells : (s : Store) (m n : CacheTold) → n ≡ m → CacheTells s m → CacheTells s n
same_tells s m n e t = subst (CacheTells s) (sym e) t

grew_tells : (s : Store) (o p : Option (List CacheEntry)) (e : CacheEntry) → Grew o p e → IsHonestEntry s e → MatchOption o ⊥ (λ es. All (IsHonestEntry s) es) → MatchOption p ⊥ (λ es. All (IsHonestEntry s) es)
grew_tells s None p e g honest t = absurd t
grew_tells s (Some es) p e g honest t = subst (λ (o : Option (List CacheEntry)). MatchOption o ⊥ (λ l. All (IsHonestEntry s) l)) (sym g) (All-push (IsHonestEntry s) es e t honest)

honest_entry : (s : Store) → IsValid s → (x : XorbBlock) (r : ChunkRange) (d : XorbBlockData) → d ≡ block_data (r ∷ []) (block_of s x.xorb_hash (r ∷ [])) → IsHonestEntry s (x.xorb_hash, r, entry_of d)
honest_entry s v x r d made holds = ap entry_of made ∙ entries_return s v x.xorb_hash (r ∷ []) holds

data_tells : (s : Store) → IsValid s → (x : XorbBlock) (rs : List ChunkRange) (m n : CacheTold) (d : XorbBlockData) → IsOffered x rs m n (entry_of d) → d ≡ block_data rs (block_of s x.xorb_hash rs) → CacheTells s m → CacheTells s n
data_tells s v x [] m n d o made t = same_tells s m n o t
data_tells s v x (r ∷ q ∷ rs) m n d o made t = same_tells s m n o t
data_tells s v x (r ∷ []) m n d o made t =
    ⊎_elim
    (λ (e : n.entries ≡ m.entries). subst (λ (p : Option (List CacheEntry)). MatchOption p ⊥ (λ l. All (IsHonestEntry s) l)) (sym e) t)
    (λ (g : Grew m.entries n.entries (x.xorb_hash, r, entry_of d)). grew_tells s m.entries n.entries (x.xorb_hash, r, entry_of d) g (honest_entry s v x r d made) t)
    o.0

kept_tells : (s : Store) → IsValid s → (x : XorbBlock) (o : Option XorbBlockData) (m n : CacheTold) → OffersKept x o m n → IfSome o (λ d. d ≡ block_data x.chunk_ranges (block_of s x.xorb_hash x.chunk_ranges)) → CacheTells s m → CacheTells s n
kept_tells s v x None m n h made t = same_tells s m n h t
kept_tells s v x (Some d) m n h made t = data_tells s v x x.chunk_ranges m n d h made t

-- a cache that tells a valid store tells it afterwards, where the block keeps the store's data
pub offer_tells : (s : Store) → IsValid s → (x : XorbBlock) (m n : CacheTold) (answer : Result (Unit {0}) FileReconstructionError) → OfferBlockCall x m n answer
    → IfSome x.kept (λ d. d ≡ block_data x.chunk_ranges (block_of s x.xorb_hash x.chunk_ranges)) → CacheTells s m → CacheTells s n
offer_tells s v x m n (Ok a) c made t = kept_tells s v x x.kept m n c.offered made t
offer_tells s v x m n (Err e) c made t = same_tells s m n c.unoffered t

-- and so after a look, which leaves the entries
pub look_tells : (s : Store) (m n : CacheTold) → n.entries ≡ m.entries → CacheTells s m → CacheTells s n
look_tells s m n e t = subst (λ (p : Option (List CacheEntry)). MatchOption p ⊥ (λ l. All (IsHonestEntry s) l)) (sym e) t
