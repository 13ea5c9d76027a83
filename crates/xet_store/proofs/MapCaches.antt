-- What the keys of a cache in memory tell of its entries.
use Rattle.std.proofs.Common.{◌≡◌, ℕ, zero, suc, ◌<◌, Bool, true, false, cond, ◌&&◌, List, [], ◌∷◌, ◌++◌, length, get_or, Some, None, Ok, Err, Option, refl, sym, ◌∙◌, ap, arith}
use Rattle.std.specs.Prelude.{Contains, IfSome, IsSome, MatchOption, is_some, find, nat_eq, option_map, position, slice_get}
use Rattle.std.specs.List.{position_or_len}
use Rattle.std.specs.Ordering.{is_eq}
use Rattle.std.proofs.lemmas.Bool.{and_parts, eqb-true}
use Rattle.std.proofs.lemmas.List.Folds.{find_at}
use Rattle.std.proofs.lemmas.Option.{slice_get_past, slice_get-get_or}
use Rattle.xet_base.specs.declared.cas_types.ChunkRange.{ChunkRange}
use Rattle.xet_base.specs.declared.merklehash.MerkleHash.{MerkleHash}
use Rattle.xet_base.specs.Hashes.{hash_eq}
use Rattle.xet_base.proofs.CallerLemmas.{hash_eq-true, place_none, place_within, position_no, position_some}
use Rattle.xet_outside.specs.declared.block.BlockBytes.{BlockBytes}
use Rattle.xet_outside.specs.declared.chunk_cache.CacheError.TheVariants as cache_error
use Rattle.xet_store.specs.declared.map_cache.CacheKey.{CacheKey}
use Rattle.xet_store.specs.contracts.map_cache.CacheKeyOrd.TheImpl.{ghosts}
use Rattle.xet_store.specs.contracts.map_cache.CacheKeyOrd.TheImpl.Laws.{matches_eq-law}
use Rattle.xet_store.specs.MapCaches.{MapPut, entry_at, has_key, key_of}
use Rattle.xet_outside.specs.Told.{CacheEntry, GetCall}

-- two keys are in one place of the order exactly where xorb and range are equal
key_cmp : (e : CacheEntry) (key : CacheKey) → is_eq (ghosts.cmp (key_of e) key) ≡ has_key key.xorb key.range e
key_cmp e key = sym (matches_eq-law (key_of e) key)

position-key : (es : List CacheEntry) (key : CacheKey) → position (λ e. is_eq (ghosts.cmp (key_of e) key)) es ≡ position (has_key key.xorb key.range) es
position-key es key = λ i. position (λ e. key_cmp e key i) es

-- the number of a key is that of its entry
pub numbered : (es : List CacheEntry) (key : CacheKey) (o : Option ℕ) → o ≡ position (λ e. is_eq (ghosts.cmp (key_of e) key)) es
    → MatchOption o (entry_at es key.xorb key.range ≡ None) (λ i. (i < length es) × (entry_at es key.xorb key.range ≡ option_map (λ (e : CacheEntry). e.2) (slice_get es i)))
numbered es key None h =
    let none = place_none (has_key key.xorb key.range) es (position_no (has_key key.xorb key.range) es (sym (h ∙ position-key es key))) in
    ap (option_map (λ (e : CacheEntry). e.2)) (find_at (has_key key.xorb key.range) es ∙ slice_get_past es (position_or_len (has_key key.xorb key.range) es) (omega arith))
numbered es key (Some i) h =
    let some = position_some (has_key key.xorb key.range) es i (sym (h ∙ position-key es key)) in
    let within = place_within (has_key key.xorb key.range) es some.0 in
    (omega (arith, some.1, within), ap (option_map (λ (e : CacheEntry). e.2)) (find_at (has_key key.xorb key.range) es ∙ ap (slice_get es) some.1))

-- the entry of a key is an entry with this key
pub entry_among : (es : List CacheEntry) (x : MerkleHash) (r : ChunkRange) (b : BlockBytes) → entry_at es x r ≡ Some b → Contains es (x, r, b)
entry_among [] x r b h = absurd (cc)
entry_among (e ∷ es) x r b h = go (has_key x r e) refl h (λ k. entry_among es x r b k)
  where
    later : Contains es (x, r, b) → Contains (e ∷ es) (x, r, b)
    later (k, w, at) = (suc k, omega arith, at)

    go : (t : Bool) → has_key x r e ≡ t → option_map (λ (e : CacheEntry). e.2) (cond t (Some e) (find (has_key x r) es)) ≡ Some b → (entry_at es x r ≡ Some b → Contains es (x, r, b)) → Contains (e ∷ es) (x, r, b)
    go false k h next = later (next h)
    go true k h next =
        let parts = and_parts (hash_eq e.0 x) (nat_eq e.1.start r.start && nat_eq e.1.end r.end) k in
        let ends = and_parts (nat_eq e.1.start r.start) (nat_eq e.1.end r.end) parts.1 in
        let xorb : e.0 ≡ x = hash_eq-true e.0 x parts.0 in
        let start = eqb-true e.1.start r.start ends.0 in
        let end = eqb-true e.1.end r.end ends.1 in
        let block : e.2 ≡ b = cc in
        (0, omega arith, λ i. (xorb i, record { start = start i; end = end i }, block i))

-- one look
pub got : (es : List CacheEntry) (ls ms : List (MerkleHash × ChunkRange × Option BlockBytes)) (offers : ℕ) (x : MerkleHash) (r : ChunkRange) (o : Option BlockBytes) → o ≡ entry_at es x r → ms ≡ ls ++ (x, r, o) ∷ []
    → GetCall (record { entries = Some es; looked = Some ls; offers = Some offers; faults = 0 }) (record { entries = Some es; looked = Some ms; offers = Some offers; faults = 0 }) x r (Ok o)
got es ls ms offers x r o e looked = record {
  entries = refl;
  found = found o e;
  looked = ap Some looked;
  looked_failed = λ h. absurd (cc);
  maybe_looked = λ h. absurd (cc);
  offers = refl;
  faults = omega arith;
  failed = λ h. absurd (cc);
}
  where
    found : (o : Option BlockBytes) → o ≡ entry_at es x r → IfSome o (λ b. Contains es (x, r, b))
    found None e = tt
    found (Some b) e = entry_among es x r b (sym e)

-- one offer, by the number of the key
abbrev Number : List CacheEntry → MerkleHash → ChunkRange → Option ℕ → Type 0
Number es x r o = MatchOption o (entry_at es x r ≡ None) (λ i. (i < length es) × (entry_at es x r ≡ option_map (λ (e : CacheEntry). e.2) (slice_get es i)))

none_some : {A : Type 0} (o : Option A) → o ≡ None → IsSome o → ⊥
none_some None e h = cc
none_some (Some x) e h = cc

pub put_left : (es : List CacheEntry) (x : MerkleHash) (r : ChunkRange) (b : BlockBytes) (o : Option ℕ) → Number es x r o → is_some o ≡ true → MapPut es es x r b (Ok tt)
put_left es x r b None n h = absurd (cc)
put_left es x r b (Some i) n h = record {
  added = λ none. absurd (go (slice_get es i) (slice_get_some es i n.0) (sym n.1 ∙ none));
  left = λ some. (refl, refl);
  kept = tt;
  memory = tt;
}
  where
    slice_get_some : (es : List CacheEntry) (i : ℕ) → i < length es → IsSome (slice_get es i)
    slice_get_some [] i h = absurd (omega arith)
    slice_get_some (e ∷ es) zero h = refl
    slice_get_some (e ∷ es) (suc i) h = slice_get_some es i (omega arith)

    go : (o : Option CacheEntry) → IsSome o → option_map (λ (e : CacheEntry). e.2) o ≡ None → ⊥
    go None s e = cc
    go (Some k) s e = cc

pub put_refused : (es : List CacheEntry) (x : MerkleHash) (r : ChunkRange) (b : BlockBytes) (o : Option ℕ) → Number es x r o → is_some o ≡ false → MapPut es es x r b (Err cache_error.OutOfMemory)
put_refused es x r b (Some i) n h = absurd (cc)
put_refused es x r b None n h = record { added = λ none. tt; left = λ some. absurd (none_some (entry_at es x r) n some); kept = refl; memory = refl }

pub put_added : (es fs : List CacheEntry) (x : MerkleHash) (r : ChunkRange) (b : BlockBytes) (o : Option ℕ) → Number es x r o → is_some o ≡ false → fs ≡ es ++ (x, r, b) ∷ [] → MapPut es fs x r b (Ok tt)
put_added es fs x r b (Some i) n h e = absurd (cc)
put_added es fs x r b None n h e = record { added = λ none. e; left = λ some. absurd (none_some (entry_at es x r) n some); kept = tt; memory = tt }

-- a copy of the entry of this number
pub copied_entry : (es fs : List CacheEntry) (i : ℕ) (d : CacheEntry) (b : BlockBytes) (o : Option BlockBytes) → fs ≡ es
    → (i < length es) × (o ≡ option_map (λ (e : CacheEntry). e.2) (slice_get es i)) → b ≡ (get_or fs i d).2 → Some b ≡ o
copied_entry es fs i d b o e at is =
    ap Some (is ∙ ap (λ (xs : List CacheEntry). (get_or xs i d).2) e)
    ∙ sym (at.1 ∙ ap (option_map (λ (e : CacheEntry). e.2)) (slice_get-get_or es i d at.0))
