-- An index of chunks after one more record, and after records were taken off.
use Rattle.std.proofs.Common.{◌≡◌, ℕ, zero, suc, ◌+◌, ◌<◌, ◌≤◌, Bool, true, false, cond, List, [], ◌∷◌, ◌++◌, length, take, drop, get_or, refl, sym, ◌∙◌, ap, subst, arith, ◌⊎◌, inl, inr}
use Rattle.std.specs.Prelude.{Option, Some, None, option_map, option_and_then, slice_get}
use Rattle.std.specs.Option.{option_or}
use Rattle.std.specs.List.{list_any, position_from}
use Rattle.std.specs.Ordering.{is_eq}
use Rattle.std.specs.BTreeMap.{BTreeMap, get}
use Rattle.std.proofs.lemmas.Bool.{cases_lt, or_parts, true≢false, lt-ltb, le-ltb}
use Rattle.std.proofs.lemmas.List.{length_push, length-take, drop_more}
use Rattle.std.proofs.lemmas.Iterator.Adapters.{position_from-zero}
use Rattle.std.proofs.lemmas.List.Quantifiers.{position-Some}
use Rattle.std.proofs.lemmas.Option.{none-some, same_Some, slice_get_past, slice_get-get_or}
use lib.Dec.{ltb}
use Rattle.xet_base.specs.declared.merklehash.MerkleHash.{MerkleHash}
use Rattle.xet_base.specs.contracts.merklehash.MerkleHashOrd.TheImpl.{ghosts}
use Rattle.xet_base.specs.contracts.merklehash.MerkleHashOrd.TheImpl.Laws.{matches_eq-law}
use Rattle.xet_base.specs.declared.mdb_shard.ChunkInfo.{ChunkInfo}
use Rattle.xet_base.specs.declared.mdb_shard.MDBXorbInfo.{MDBXorbInfo}
use Rattle.xet_base.specs.Hashes.{hash_eq}
use Rattle.xet_base.proofs.CallerLemmas.{hash_eq-true, position_no}
use Rattle.xet_uploader.specs.declared.xorb_records.ChunkPlace.{ChunkPlace}
use Rattle.xet_uploader.specs.XorbRecords.{chunk_with, first_with, place_at, one_later}
use Rattle.xet_uploader.specs.steps.ChunkPlaces.{hash_at, is_hash, checked, Places, noted, Noted, NotedFrom, Kept}

-- two hashes are in one place of the order exactly where their bytes are equal
hash_cmp : (a b : MerkleHash) → is_eq (ghosts.cmp a b) ≡ hash_eq a b
hash_cmp a b = sym (matches_eq-law a b)

-- ---- elements of lists that grow

slice_get-front : {A : Type 0} (xs ys : List A) (i : ℕ) → i < length xs → slice_get (xs ++ ys) i ≡ slice_get xs i
slice_get-front [] ys i h = absurd (omega (arith, h))
slice_get-front (x ∷ xs) ys zero h = refl
slice_get-front (x ∷ xs) ys (suc i) h = slice_get-front xs ys i (omega (arith, h))

slice_get-last : {A : Type 0} (xs : List A) (y : A) → slice_get (xs ++ y ∷ []) (length xs) ≡ Some y
slice_get-last [] y = refl
slice_get-last (x ∷ xs) y = slice_get-last xs y

slice_get-take : {A : Type 0} (xs : List A) (n i : ℕ) → i < n → slice_get (take n xs) i ≡ slice_get xs i
slice_get-take xs zero i h = absurd (omega (arith, h))
slice_get-take [] (suc n) i h = refl
slice_get-take (x ∷ xs) (suc n) zero h = refl
slice_get-take (x ∷ xs) (suc n) (suc i) h = slice_get-take xs n i (omega (arith, h))

none_passes : {A : Type 0} (p : A → Bool) (xs : List A) (k : ℕ) (x : A) → list_any p xs ≡ false → slice_get xs k ≡ Some x → p x ≡ false
none_passes p [] k x h e = absurd (none-some x e)
none_passes p (y ∷ xs) zero x h e = ap p (sym (same_Some y x e)) ∙ (or_parts (p y) (list_any p xs) h).0
none_passes p (y ∷ xs) (suc k) x h e = none_passes p xs k x (or_parts (p y) (list_any p xs) h).1 e

any_info : ChunkInfo
any_info = record { hash = record { 0 = [] }; length = 0 }

-- ---- the first place

pub first_with-push : (rs : List MDBXorbInfo) (r : MDBXorbInfo) (h : MerkleHash)
    → first_with (rs ++ r ∷ []) h ≡ option_or (first_with rs h) (option_map (place_at (length rs)) (chunk_with h r))
first_with-push [] r h = go (chunk_with h r)
  where
    go : (c : Option ℕ) → option_or (option_map (place_at 0) c) None ≡ option_map (place_at 0) c
    go None = refl
    go (Some j) = refl
first_with-push (x ∷ xs) r h = go (chunk_with h x) (first_with xs h) (first_with (xs ++ r ∷ []) h) (chunk_with h r) (first_with-push xs r h)
  where
    go : (c : Option ℕ) (o n : Option ChunkPlace) (d : Option ℕ) → n ≡ option_or o (option_map (place_at (length xs)) d)
        → option_or (option_map (place_at 0) c) (option_map one_later n)
        ≡ option_or (option_or (option_map (place_at 0) c) (option_map one_later o)) (option_map (place_at (suc (length xs))) d)
    go (Some j) o n d e = refl
    go None (Some p) n d e = ap (option_map one_later) e
    go None None n None e = ap (option_map one_later) e
    go None None n (Some j) e = ap (option_map one_later) e

-- ---- places that have their hash

hash_at-same : (rs ss : List MDBXorbInfo) (p : ChunkPlace) → slice_get rs p.xorb ≡ slice_get ss p.xorb → hash_at rs p ≡ hash_at ss p
hash_at-same rs ss p e = ap (λ (o : Option MDBXorbInfo). option_and_then (λ r. option_map (λ c. c.hash) (slice_get r.chunks p.chunk)) o) e

hash_at-is : (rs : List MDBXorbInfo) (p : ChunkPlace) (o : Option MDBXorbInfo) → slice_get rs p.xorb ≡ o
    → hash_at rs p ≡ option_and_then (λ r. option_map (λ c. c.hash) (slice_get r.chunks p.chunk)) o
hash_at-is rs p o e = ap (λ (o : Option MDBXorbInfo). option_and_then (λ r. option_map (λ c. c.hash) (slice_get r.chunks p.chunk)) o) e

pub checked-is : (rs : List MDBXorbInfo) (h : MerkleHash) (o : Option ChunkPlace) (p : ChunkPlace) → checked rs h o ≡ Some p → (o ≡ Some p) × (is_hash h (hash_at rs p) ≡ true)
checked-is rs h None p e = absurd (none-some p e)
checked-is rs h (Some q) p e = go (is_hash h (hash_at rs q)) refl e
  where
    go : (b : Bool) → is_hash h (hash_at rs q) ≡ b → cond b (Some q) None ≡ Some p → (Some q ≡ Some p) × (is_hash h (hash_at rs p) ≡ true)
    go true k e = (e, ap (λ (z : ChunkPlace). is_hash h (hash_at rs z)) (sym (same_Some q p e)) ∙ k)
    go false k e = absurd (none-some p e)

checked-no : (rs : List MDBXorbInfo) (h : MerkleHash) (p : ChunkPlace) → checked rs h (Some p) ≡ None → is_hash h (hash_at rs p) ≡ false
checked-no rs h p e = go (is_hash h (hash_at rs p)) e
  where
    go : (b : Bool) → cond b (Some p) None ≡ None → b ≡ false
    go false e = refl
    go true e = absurd (none-some p (sym e))

checked-yes : (rs : List MDBXorbInfo) (h : MerkleHash) (p : ChunkPlace) → is_hash h (hash_at rs p) ≡ true → checked rs h (Some p) ≡ Some p
checked-yes rs h p e = ap (λ (b : Bool). cond b (Some p) None) e

checked-none : (rs : List MDBXorbInfo) (h : MerkleHash) (p : ChunkPlace) → is_hash h (hash_at rs p) ≡ false → checked rs h (Some p) ≡ None
checked-none rs h p e = ap (λ (b : Bool). cond b (Some p) None) e

-- such a place is inside the records
within : (rs : List MDBXorbInfo) (h : MerkleHash) (p : ChunkPlace) → is_hash h (hash_at rs p) ≡ true → p.xorb < length rs
within rs h p e = go (cases_lt p.xorb (length rs))
  where
    go : (p.xorb < length rs) ⊎ (length rs ≤ p.xorb) → p.xorb < length rs
    go (inl lt) = lt
    go (inr ge) = absurd (true≢false (sym e ∙ ap (is_hash h) (hash_at-is rs p None (slice_get_past rs p.xorb ge))))

-- no place of the next record has its hash yet
next_none : (rs : List MDBXorbInfo) (h : MerkleHash) (n j : ℕ) → n ≡ length rs → checked rs h (Some (place_at n j)) ≡ None
next_none rs h n j e =
    checked-none rs h (place_at n j) (ap (is_hash h) (hash_at-is rs (place_at n j) None (slice_get_past rs n (omega (arith, e)))))

-- what is noted of the next record changes no place that has its hash
pub checked_noted : (rs : List MDBXorbInfo) (h : MerkleHash) (o : Option ChunkPlace) (c : Option ℕ) → checked rs h (noted rs h o c) ≡ checked rs h o
checked_noted rs h o None = refl
checked_noted rs h o (Some j) = go (checked rs h o) refl
  where
    go : (q : Option ChunkPlace) → checked rs h o ≡ q → checked rs h (option_or (checked rs h o) (Some (place_at (length rs) j))) ≡ checked rs h o
    go None e = ap (λ (q : Option ChunkPlace). checked rs h (option_or q (Some (place_at (length rs) j)))) e ∙ next_none rs h (length rs) j refl ∙ sym e
    go (Some p) e =
        let is = checked-is rs h o p e in
        ap (λ (q : Option ChunkPlace). checked rs h (option_or q (Some (place_at (length rs) j)))) e ∙ checked-yes rs h p is.1 ∙ sym e

-- ---- the next record is added

module _ (rs : List MDBXorbInfo) (r : MDBXorbInfo) (h : MerkleHash) where
  -- a place that had the hash has it
  push-yes : (p : ChunkPlace) → is_hash h (hash_at rs p) ≡ true → is_hash h (hash_at (rs ++ r ∷ []) p) ≡ true
  push-yes p e = ap (is_hash h) (hash_at-same (rs ++ r ∷ []) rs p (slice_get-front rs (r ∷ []) p.xorb (within rs h p e))) ∙ e

  -- the noted chunk has it
  push-new : (j : ℕ) → chunk_with h r ≡ Some j → is_hash h (hash_at (rs ++ r ∷ []) (place_at (length rs) j)) ≡ true
  push-new j e =
      let found = position-Some (λ c. hash_eq c.hash h) r.chunks j any_info e in
      ap (is_hash h) (hash_at-is (rs ++ r ∷ []) (place_at (length rs) j) (Some r) (slice_get-last rs r)
      ∙ ap (λ (o : Option ChunkInfo). option_map (λ c. c.hash) o) (slice_get-get_or r.chunks j any_info found.0))
      ∙ found.1

  -- and no other place of the new record
  other-chunk : chunk_with h r ≡ None → (k : ℕ) (o : Option ChunkInfo) → slice_get r.chunks k ≡ o → is_hash h (option_map (λ c. c.hash) o) ≡ false
  other-chunk e k None f = refl
  other-chunk e k (Some c) f = none_passes (λ c. hash_eq c.hash h) r.chunks k c (position_no (λ c. hash_eq c.hash h) r.chunks e) f

  push-no : (p : ChunkPlace) → chunk_with h r ≡ None → is_hash h (hash_at rs p) ≡ false → is_hash h (hash_at (rs ++ r ∷ []) p) ≡ false
  push-no p e k = go (cases_lt p.xorb (length rs))
    where
      size : length (rs ++ r ∷ []) ≡ length rs + 1
      size = length_push rs r

      past : (length rs < p.xorb) ⊎ (p.xorb ≤ length rs) → length rs ≤ p.xorb → is_hash h (hash_at (rs ++ r ∷ []) p) ≡ false
      past (inl lt) ge = ap (is_hash h) (hash_at-is (rs ++ r ∷ []) p None (slice_get_past (rs ++ r ∷ []) p.xorb (omega (arith, lt, size))))
      past (inr le) ge =
          let at : p.xorb ≡ length rs = omega (arith, le, ge) in
          let is : slice_get (rs ++ r ∷ []) p.xorb ≡ Some r = ap (slice_get (rs ++ r ∷ [])) at ∙ slice_get-last rs r in
          ap (is_hash h) (hash_at-is (rs ++ r ∷ []) p (Some r) is) ∙ other-chunk e p.chunk (slice_get r.chunks p.chunk) refl

      go : (p.xorb < length rs) ⊎ (length rs ≤ p.xorb) → is_hash h (hash_at (rs ++ r ∷ []) p) ≡ false
      go (inl lt) = ap (is_hash h) (hash_at-same (rs ++ r ∷ []) rs p (slice_get-front rs (r ∷ []) p.xorb lt)) ∙ k
      go (inr ge) = past (cases_lt (length rs) p.xorb) ge

  checked-push : (o : Option ChunkPlace) → checked (rs ++ r ∷ []) h (noted rs h o (chunk_with h r)) ≡ option_or (checked rs h o) (option_map (place_at (length rs)) (chunk_with h r))
  checked-push o = go (checked rs h o) refl (chunk_with h r) refl
    where
      all : List MDBXorbInfo
      all = rs ++ r ∷ []

      old : (c : Option ℕ) (p : ChunkPlace) → checked rs h o ≡ Some p → noted rs h o c ≡ Some p
      old None p e = (checked-is rs h o p e).0
      old (Some j) p e = ap (λ (q : Option ChunkPlace). option_or q (Some (place_at (length rs) j))) e

      stays : (o : Option ChunkPlace) → chunk_with h r ≡ None → checked rs h o ≡ None → checked all h o ≡ None
      stays None e f = refl
      stays (Some p) e f = checked-none all h p (push-no p e (checked-no rs h p f))

      go : (q : Option ChunkPlace) → checked rs h o ≡ q → (c : Option ℕ) → chunk_with h r ≡ c → checked all h (noted rs h o c) ≡ option_or q (option_map (place_at (length rs)) c)
      go (Some p) e c f = ap (checked all h) (old c p e) ∙ checked-yes all h p (push-yes p (checked-is rs h o p e).1)
      go None e (Some j) f =
          ap (λ (q : Option ChunkPlace). checked all h (option_or q (Some (place_at (length rs) j)))) e ∙ checked-yes all h (place_at (length rs) j) (push-new j f)
      go None e None f = stays o f e

-- where all chunks of the next record are noted, the index is that of the records with it
pub places-push : (rs : List MDBXorbInfo) (r : MDBXorbInfo) (before after : BTreeMap MerkleHash ChunkPlace)
    → Places ghosts.cmp rs before → NotedFrom ghosts.cmp rs r.chunks 0 before after → Places ghosts.cmp (rs ++ r ∷ []) after
places-push rs r before after old new h =
    let first : position_from (λ c. hash_eq c.hash h) 0 r.chunks ≡ chunk_with h r = sym (position_from-zero (λ c. hash_eq c.hash h) r.chunks) in
    let is : get ghosts.cmp after h ≡ noted rs h (get ghosts.cmp before h) (chunk_with h r) = new h ∙ ap (noted rs h (get ghosts.cmp before h)) first in
    ap (checked (rs ++ r ∷ []) h) is ∙ checked-push rs r h (get ghosts.cmp before h)
    ∙ ap (λ (q : Option ChunkPlace). option_or q (option_map (place_at (length rs)) (chunk_with h r))) (old h) ∙ sym (first_with-push rs r h)

-- ---- one chunk is noted

pub noted-kept : (rs : List MDBXorbInfo) (cs : List ChunkInfo) (k : ℕ) (before after : BTreeMap MerkleHash ChunkPlace) → NotedFrom ghosts.cmp rs cs k before after → Kept ghosts.cmp rs before after
noted-kept rs cs k before after n h =
    ap (checked rs h) (n h) ∙ checked_noted rs h (get ghosts.cmp before h) (position_from (λ c. hash_eq c.hash h) k (drop k cs))

pub kept-both : (rs : List MDBXorbInfo) (a b c : BTreeMap MerkleHash ChunkPlace) → Kept ghosts.cmp rs a b → Kept ghosts.cmp rs b c → Kept ghosts.cmp rs a c
kept-both rs a b c n m h = m h ∙ n h

-- one more before those that are
pub noted-step : (rs : List MDBXorbInfo) (cs : List ChunkInfo) (k : ℕ) (g : MerkleHash) (d : ChunkInfo) (a b c : BTreeMap MerkleHash ChunkPlace)
    → k < length cs → g ≡ (get_or cs k d).hash → NotedFrom ghosts.cmp rs cs (k + 1) a b → Noted ghosts.cmp rs g k b c → NotedFrom ghosts.cmp rs cs k a c
noted-step rs cs k g d a b c low is n m h =
    let t = λ (c : ChunkInfo). hash_eq c.hash h in
    let rest = position_from t (k + 1) (drop (k + 1) cs) in
    let at : position_from t k (drop k cs) ≡ cond (hash_eq g h) (Some k) rest =
    ap (position_from t k) (drop_more cs k d low) ∙ ap (λ (z : MerkleHash). cond (hash_eq z h) (Some k) rest) (sym is) in
    m h ∙ ap (λ (o : Option ChunkPlace). cond (hash_eq g h) (noted rs h o (Some k)) o) (n h) ∙ go (hash_eq g h) (get ghosts.cmp a h) rest
    ∙ sym (ap (noted rs h (get ghosts.cmp a h)) at)
  where
    go : (e : Bool) (o : Option ChunkPlace) (p : Option ℕ) → cond e (noted rs h (noted rs h o p) (Some k)) (noted rs h o p) ≡ noted rs h o (cond e (Some k) p)
    go true o p = ap (λ (q : Option ChunkPlace). option_or q (Some (place_at (length rs) k))) (checked_noted rs h o p)
    go false o p = refl

-- the same, where the numbers are known by equations alone
pub noted-back : (rs : List MDBXorbInfo) (cs : List ChunkInfo) (k j m : ℕ) (g : MerkleHash) (d : ChunkInfo) (a b c : BTreeMap MerkleHash ChunkPlace)
    → j ≡ k → m ≡ k + 1 → k < length cs → g ≡ (get_or cs j d).hash → NotedFrom ghosts.cmp rs cs m a b → Noted ghosts.cmp rs g j b c → NotedFrom ghosts.cmp rs cs k a c
noted-back rs cs k j m g d a b c e f low is n o =
    let P : ℕ → Type 0 = λ z. NotedFrom ghosts.cmp rs cs z a b in
    let Q : ℕ → Type 0 = λ z. Noted ghosts.cmp rs g z b c in
    noted-step rs cs k g d a b c low (is ∙ ap (λ (z : ℕ). (get_or cs z d).hash) e) (subst P f n) (subst Q e o)

-- and one in which it has none, after the place of the new chunk was put there
pub noted-new : (rs : List MDBXorbInfo) (g : MerkleHash) (n j : ℕ) (before after : BTreeMap MerkleHash ChunkPlace) → n ≡ length rs → checked rs g (get ghosts.cmp before g) ≡ None
    → ((h : MerkleHash) → get ghosts.cmp after h ≡ cond (is_eq (ghosts.cmp g h)) (Some (place_at n j)) (get ghosts.cmp before h)) → Noted ghosts.cmp rs g j before after
noted-new rs g n j before after size e put h =
    put h ∙ ap (λ (b : Bool). cond b (Some (place_at n j)) (get ghosts.cmp before h)) (hash_cmp g h) ∙ go (hash_eq g h) refl
  where
    go : (b : Bool) → hash_eq g h ≡ b → cond b (Some (place_at n j)) (get ghosts.cmp before h) ≡ cond b (noted rs h (get ghosts.cmp before h) (Some j)) (get ghosts.cmp before h)
    go false k = refl
    go true k =
        let here : checked rs h (get ghosts.cmp before h) ≡ None = ap (λ (z : MerkleHash). checked rs z (get ghosts.cmp before z)) (sym (hash_eq-true g h k)) ∙ e in
        ap (λ (i : ℕ). Some (place_at i j)) size ∙ sym (ap (λ (q : Option ChunkPlace). option_or q (Some (place_at (length rs) j))) here)

-- ---- records are taken off

-- the place, where it is below a number
abbrev below : ℕ → Option ChunkPlace → Option ChunkPlace
below n None = None
below n (Some p) = cond (ltb p.xorb n) (Some p) None

below-yes : (n : ℕ) (p : ChunkPlace) → p.xorb < n → below n (Some p) ≡ Some p
below-yes n p h = ap (λ (b : Bool). cond b (Some p) None) (lt-ltb p.xorb n h)

below-no : (n : ℕ) (p : ChunkPlace) → n ≤ p.xorb → below n (Some p) ≡ None
below-no n p h = ap (λ (b : Bool). cond b (Some p) None) (le-ltb p.xorb n h)

below-zero : (o : Option ChunkPlace) → below 0 o ≡ None
below-zero None = refl
below-zero (Some p) = below-no 0 p (omega arith)

below-later : (n : ℕ) (o : Option ChunkPlace) → option_map one_later (below n o) ≡ below (suc n) (option_map one_later o)
below-later n None = refl
below-later n (Some p) = go (cases_lt p.xorb n)
  where
    go : (p.xorb < n) ⊎ (n ≤ p.xorb) → option_map one_later (below n (Some p)) ≡ below (suc n) (Some (one_later p))
    go (inl lt) = ap (option_map one_later) (below-yes n p lt) ∙ sym (below-yes (suc n) (one_later p) (omega (arith, lt)))
    go (inr ge) = ap (option_map one_later) (below-no n p ge) ∙ sym (below-no (suc n) (one_later p) (omega (arith, ge)))

first_with-take : (rs : List MDBXorbInfo) (n : ℕ) (h : MerkleHash) → first_with (take n rs) h ≡ below n (first_with rs h)
first_with-take rs zero h = sym (below-zero (first_with rs h))
first_with-take [] (suc n) h = refl
first_with-take (x ∷ xs) (suc n) h = go (chunk_with h x) (first_with xs h) (first_with (take n xs) h) (first_with-take xs n h)
  where
    go : (c : Option ℕ) (o m : Option ChunkPlace) → m ≡ below n o → option_or (option_map (place_at 0) c) (option_map one_later m) ≡ below (suc n) (option_or (option_map (place_at 0) c) (option_map one_later o))
    go (Some j) o m e = sym (below-yes (suc n) (place_at 0 j) (omega arith))
    go None o m e = ap (option_map one_later) e ∙ below-later n o

checked-take : (rs : List MDBXorbInfo) (n : ℕ) (h : MerkleHash) (o : Option ChunkPlace) → checked (take n rs) h o ≡ below n (checked rs h o)
checked-take rs n h None = refl
checked-take rs n h (Some p) = go (cases_lt p.xorb n) (is_hash h (hash_at rs p)) refl
  where
    go : (p.xorb < n) ⊎ (n ≤ p.xorb) → (b : Bool) → is_hash h (hash_at rs p) ≡ b → checked (take n rs) h (Some p) ≡ below n (cond b (Some p) None)
    go (inl lt) b e =
        ap (λ (q : Option MerkleHash). cond (is_hash h q) (Some p) None) (hash_at-same (take n rs) rs p (slice_get-take rs n p.xorb lt)) ∙ ap (λ (c : Bool). cond c (Some p) None) e ∙ some b
      where
        some : (b : Bool) → cond b (Some p) None ≡ below n (cond b (Some p) None)
        some true = sym (below-yes n p lt)
        some false = refl
    go (inr ge) b e =
        checked-none (take n rs) h p (ap (is_hash h) (hash_at-is (take n rs) p None (slice_get_past (take n rs) p.xorb (omega (arith, ge, length-take n rs))))) ∙ none b
      where
        none : (b : Bool) → None ≡ below n (cond b (Some p) None)
        none true = sym (below-no n p ge)
        none false = refl

pub places-take : (rs : List MDBXorbInfo) (n : ℕ) (m : BTreeMap MerkleHash ChunkPlace) → Places ghosts.cmp rs m → Places ghosts.cmp (take n rs) m
places-take rs n m old h = checked-take rs n h (get ghosts.cmp m h) ∙ ap (below n) (old h) ∙ sym (first_with-take rs n h)
