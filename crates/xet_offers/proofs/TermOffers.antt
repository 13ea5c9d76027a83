-- The offer of a term: its block, and the block's URL.
use Rattle.std.proofs.Common.{◌≡◌, ℕ, suc, ◌+◌, ◌-◌, ◌^◌, min, Bool, true, false, cond, not, ◌||◌, ◌<◌, List, [], ◌∷◌, ◌++◌, drop, get_or, length, map, take, eqb, refl, sym, ◌∙◌, ap, subst, arith, Some, None}
use Rattle.std.specs.Prelude.{filter, find, slice_range, position, is_none, IsSome, MatchOption, Option, option_and_then, option_map, slice_get}
use Rattle.std.specs.List.{flat_map, list_any}
use Rattle.std.proofs.lemmas.Bool.{eq-eqb, eqb-true, false≢true}
use Rattle.std.proofs.lemmas.List.{append-nil, append_assoc, drop_more, length-append, map-append, length-map}
use Rattle.std.proofs.lemmas.Option.{same_Some, slice_get-map}
use Rattle.xet_base.specs.declared.merklehash.MerkleHash.{MerkleHash}
use Rattle.xet_base.specs.Hashes.{hash_eq}
use Rattle.xet_base.specs.Lists.{first_some, firsts}
use Rattle.xet_base.proofs.CallerLemmas.{eq-hash_eq, find_none-position, find_some, firsts-push, hash_eq-true, hash_eq-chain, position_some}
use Rattle.xet_outside.specs.declared.plan.FetchEntry.{FetchEntry}
use Rattle.xet_outside.specs.declared.plan.FetchRange.{FetchRange}
use Rattle.xet_outside.specs.declared.plan.Plan.{Plan}
use Rattle.xet_outside.specs.declared.plan.PlanTerm.{PlanTerm}
use Rattle.xet_outside.specs.declared.plan.PlanXorb.{PlanXorb}
use Rattle.xet_outside.specs.Plan.{XorbShape, shape, xorb_shape}
use Rattle.xet_offers.proofs.Lookups.{any-find, any-map, find-append, find-map, find-place, find_passes, position-map}
use Rattle.xet_offers.specs.Blocks.{PlanBlock, block_of_term, entry_blocks, lies_in, plan_xorb_of}
use Rattle.xet_offers.specs.declared.reconstruction_terms.listed_offers.Offer.{Offer}
use Rattle.xet_offers.specs.declared.reconstruction_terms.plan_offers.XorbOffers.{XorbOffers}
use Rattle.xet_offers.specs.steps.OfferLists.{offers_of}
use Rattle.xet_offers.specs.Offers.{Candidate, Offered, candidates, entry_candidates, first_xorbs, offer_of_term, offered, offers_from, ranges_block, ranges_from, xorb_offers, xorb_place}

-- ---- the first xorbs

-- where what is the same passes alike, the first that passes is among the first ones
module _ {A : Type 0} (same : A → A → Bool) (p : A → Bool) (alike : (x y : A) → same x y ≡ true → p y ≡ true → p x ≡ true) where
  find-filter : (x : A) → p x ≡ false → (xs : List A) → find p (filter (λ y. not (same x y)) xs) ≡ find p xs
  find-filter x e [] = refl
  find-filter x e (y ∷ ys) = go (same x y) refl (p y) refl (find-filter x e ys)
    where
      go : (b : Bool) → same x y ≡ b → (c : Bool) → p y ≡ c → find p (filter (λ z. not (same x z)) ys) ≡ find p ys
          → find p (cond (not b) (y ∷ filter (λ z. not (same x z)) ys) (filter (λ z. not (same x z)) ys)) ≡ cond c (Some y) (find p ys)
      go true s true q k = absurd (false≢true (sym e ∙ alike x y s q))
      go true s false q k = k
      go false s c q k = ap (λ b. cond b (Some y) (find p (filter (λ z. not (same x z)) ys))) q ∙ ap (λ o. cond c (Some y) o) k

  pub find-firsts : (xs : List A) → find p (firsts same xs) ≡ find p xs
  find-firsts [] = refl
  find-firsts (x ∷ xs) = go (p x) refl (find-firsts xs)
    where
      go : (b : Bool) → p x ≡ b → find p (firsts same xs) ≡ find p xs → cond b (Some x) (find p (filter (λ y. not (same x y)) (firsts same xs))) ≡ cond b (Some x) (find p xs)
      go true e k = refl
      go false e k = find-filter x e (firsts same xs) ∙ k

-- of the xorbs with one hash the first alone is looked up
pub found_first : (xs : List PlanXorb) (h : MerkleHash) → find (λ x. hash_eq x.xorb h) (first_xorbs xs) ≡ find (λ x. hash_eq x.xorb h) xs
found_first xs h = find-firsts (λ x y. hash_eq x.xorb y.xorb) (λ x. hash_eq x.xorb h) (λ x y s q. hash_eq-chain x.xorb y.xorb h s q) xs

-- the xorb of the plan with a hash stands at its place
pub placed_xorb : (p : Plan) (h : MerkleHash) → find (λ x. hash_eq x.xorb h) p.xorbs ≡ slice_get (first_xorbs p.xorbs) (xorb_place p h)
placed_xorb p h = sym (found_first p.xorbs h) ∙ find-place (λ x. hash_eq x.xorb h) (first_xorbs p.xorbs)

pub plan_xorb_of-shape : (p : Plan) (h : MerkleHash) → plan_xorb_of (shape p) h ≡ option_map xorb_shape (find (λ x. hash_eq x.xorb h) p.xorbs)
plan_xorb_of-shape p h = find-map xorb_shape (λ y. hash_eq y.xorb h) p.xorbs

-- ---- the number of a xorb

-- a xorb has a number exactly where it is in the plan, and that is its place among those that differ
pub xorb_numbered : (p : Plan) (xs : List XorbOffers) (h : MerkleHash) (o : Option ℕ) → map (λ x. x.xorb) xs ≡ map (λ x. x.xorb) (first_xorbs p.xorbs) → o ≡ position (λ (x : XorbOffers). hash_eq x.xorb h) xs
    → MatchOption o (plan_xorb_of (shape p) h ≡ None) (λ n. IsSome (plan_xorb_of (shape p) h) × (n ≡ xorb_place p h))
xorb_numbered p xs h o hashed e = go o (e ∙ same)
  where
    is : PlanXorb → Bool
    is x = hash_eq x.xorb h

    same : position (λ (x : XorbOffers). hash_eq x.xorb h) xs ≡ position is (first_xorbs p.xorbs)
    same =
        sym (position-map (λ (x : XorbOffers). x.xorb) (λ y. hash_eq y h) xs) ∙ ap (λ (l : List MerkleHash). position (λ y. hash_eq y h) l) hashed
        ∙ position-map (λ (x : PlanXorb). x.xorb) (λ y. hash_eq y h) (first_xorbs p.xorbs)

    shaped : plan_xorb_of (shape p) h ≡ option_map xorb_shape (find is (first_xorbs p.xorbs))
    shaped = plan_xorb_of-shape p h ∙ ap (λ f. option_map xorb_shape f) (sym (found_first p.xorbs h))

    go : (o : Option ℕ) → o ≡ position is (first_xorbs p.xorbs) → MatchOption o (plan_xorb_of (shape p) h ≡ None) (λ n. IsSome (plan_xorb_of (shape p) h) × (n ≡ xorb_place p h))
    go None e = shaped ∙ ap (λ f. option_map xorb_shape f) (find_none-position is (first_xorbs p.xorbs) (sym e))
    go (Some n) e =
        let at = position_some is (first_xorbs p.xorbs) n (sym e) in
        let found = find_some is (first_xorbs p.xorbs) at.0 in
        (subst (λ (o : Option XorbShape). IsSome o) (sym (shaped ∙ ap (λ f. option_map xorb_shape f) found.1)) refl, sym at.1)

-- the offers of a term's xorb stand at its number
pub offer_at : (p : Plan) (multi : Bool) (lists : List (List Offered)) → lists ≡ map (xorb_offers multi) (first_xorbs p.xorbs) → (t : PlanTerm) (i : ℕ) → i ≡ xorb_place p t.xorb
    → offer_of_term p multi t ≡ option_and_then (λ os. find (λ o. lies_in t o.range) os) (slice_get lists i)
offer_at p multi lists listed t i at =
    let xorb : find (λ x. hash_eq x.xorb t.xorb) p.xorbs ≡ slice_get (first_xorbs p.xorbs) i = placed_xorb p t.xorb ∙ ap (λ (k : ℕ). slice_get (first_xorbs p.xorbs) k) (sym at) in
    ap (λ o. option_and_then (λ x. find (λ o. lies_in t o.range) (xorb_offers multi x)) o) xorb
    ∙ through (slice_get (first_xorbs p.xorbs) i)
    ∙ sym (ap (λ o. option_and_then (λ os. find (λ o. lies_in t o.range) os) o) (ap (λ l. slice_get l i) listed ∙ slice_get-map (xorb_offers multi) (first_xorbs p.xorbs) i))
  where
    through : (o : Option PlanXorb) → option_and_then (λ x. find (λ o. lies_in t o.range) (xorb_offers multi x)) o ≡ option_and_then (λ os. find (λ o. lies_in t o.range) os) (option_map (xorb_offers multi) o)
    through None = refl
    through (Some x) = refl

-- two xorbs of the plan have one place exactly where their hashes are equal
pub places_tell : (p : Plan) (h k : MerkleHash) (x y : PlanXorb) → find (λ z. hash_eq z.xorb h) p.xorbs ≡ Some x → find (λ z. hash_eq z.xorb k) p.xorbs ≡ Some y
    → eqb (xorb_place p h) (xorb_place p k) ≡ hash_eq h k
places_tell p h k x y e f = go (hash_eq h k) refl (eqb (xorb_place p h) (xorb_place p k)) refl
  where
    is_h : x.xorb ≡ h
    is_h = hash_eq-true x.xorb h (find_passes (λ z. hash_eq z.xorb h) p.xorbs x e)

    is_k : y.xorb ≡ k
    is_k = hash_eq-true y.xorb k (find_passes (λ z. hash_eq z.xorb k) p.xorbs y f)

    one : xorb_place p h ≡ xorb_place p k → x ≡ y
    one at = same_Some x y (sym e ∙ placed_xorb p h ∙ ap (λ (n : ℕ). slice_get (first_xorbs p.xorbs) n) at ∙ sym (placed_xorb p k) ∙ f)

    go : (b : Bool) → hash_eq h k ≡ b → (c : Bool) → eqb (xorb_place p h) (xorb_place p k) ≡ c → c ≡ b
    go true m true n = refl
    go false m false n = refl
    go true m false n = absurd (false≢true (sym n ∙ eq-eqb (xorb_place p h) (xorb_place p k) (ap (xorb_place p) (hash_eq-true h k m))))
    go false m true n =
        let same : h ≡ k = sym is_h ∙ ap (λ (z : PlanXorb). z.xorb) (one (eqb-true (xorb_place p h) (xorb_place p k) n)) ∙ is_k in
        absurd (false≢true (sym m ∙ eq-hash_eq h k same))

-- ---- the walk over a plan's xorbs

-- the offers of the first xorbs
pub record IsListed (multi : Bool) (xs : List PlanXorb) (made : List XorbOffers) : Type 0 where
  pub hashed : map (λ x. x.xorb) made ≡ map (λ x. x.xorb) (first_xorbs xs)
  pub listed : map (λ x. offers_of x.offers) made ≡ map (xorb_offers multi) (first_xorbs xs)

-- whether a hash is among the first xorbs
seen : (xs : List PlanXorb) (made : List XorbOffers) (h : MerkleHash) → map (λ x. x.xorb) made ≡ map (λ x. x.xorb) (first_xorbs xs)
    → list_any (λ x. hash_eq x.xorb h) (first_xorbs xs) ≡ not (is_none (find (λ (x : XorbOffers). hash_eq x.xorb h) made))
seen xs made h hashed =
    sym (any-map (λ (x : PlanXorb). x.xorb) (λ y. hash_eq y h) (first_xorbs xs)) ∙ sym (ap (λ (l : List MerkleHash). list_any (λ y. hash_eq y h) l) hashed)
    ∙ any-map (λ (x : XorbOffers). x.xorb) (λ y. hash_eq y h) made ∙ any-find (λ (x : XorbOffers). hash_eq x.xorb h) made

same_xorb-chain : (x y z : PlanXorb) → hash_eq x.xorb y.xorb ≡ true → hash_eq y.xorb z.xorb ≡ true → hash_eq x.xorb z.xorb ≡ true
same_xorb-chain x y z h k = hash_eq-chain x.xorb y.xorb z.xorb h k

-- one more xorb is a first one where its hash is not there
more_first : (xs ys : List PlanXorb) (x : PlanXorb) (made : List XorbOffers) (none : Bool) → map (λ x. x.xorb) made ≡ map (λ x. x.xorb) (first_xorbs xs) → ys ≡ xs ++ x ∷ []
    → is_none (find (λ (v : XorbOffers). hash_eq v.xorb x.xorb) made) ≡ none → first_xorbs ys ≡ cond (not none) (first_xorbs xs) (first_xorbs xs ++ x ∷ [])
more_first xs ys x made none hashed e h =
    ap first_xorbs e ∙ firsts-push (λ y z. hash_eq y.xorb z.xorb) same_xorb-chain xs x
    ∙ ap (λ b. cond b (first_xorbs xs) (first_xorbs xs ++ x ∷ [])) (seen xs made x.xorb hashed ∙ ap not h)

-- a xorb whose hash is there changes nothing
pub listed_seen : (multi : Bool) (xs ys : List PlanXorb) (x : PlanXorb) (made made' : List XorbOffers) → IsListed multi xs made → ys ≡ xs ++ x ∷ []
    → is_none (find (λ (v : XorbOffers). hash_eq v.xorb x.xorb) made) ≡ false → made' ≡ made → IsListed multi ys made'
listed_seen multi xs ys x made made' w e there same =
    let kept : first_xorbs ys ≡ first_xorbs xs = more_first xs ys x made false w.hashed e there in
    record {
      hashed = ap (λ (l : List XorbOffers). map (λ x. x.xorb) l) same ∙ w.hashed ∙ ap (map (λ x. x.xorb)) (sym kept);
      listed = ap (λ (l : List XorbOffers). map (λ x. offers_of x.offers) l) same ∙ w.listed ∙ ap (map (xorb_offers multi)) (sym kept);
    }

-- a new one is added at the end
pub listed_new : (multi : Bool) (xs ys : List PlanXorb) (x : PlanXorb) (made made' : List XorbOffers) (v : XorbOffers) → IsListed multi xs made → ys ≡ xs ++ x ∷ []
    → is_none (find (λ (v : XorbOffers). hash_eq v.xorb x.xorb) made) ≡ true → v.xorb ≡ x.xorb → offers_of v.offers ≡ xorb_offers multi x → made' ≡ made ++ v ∷ [] → IsListed multi ys made'
listed_new multi xs ys x made made' v w e none hash offers more =
    let longer : first_xorbs ys ≡ first_xorbs xs ++ x ∷ [] = more_first xs ys x made true w.hashed e none in
    record {
      hashed = ap (λ (l : List XorbOffers). map (λ x. x.xorb) l) more ∙ map-append (λ (x : XorbOffers). x.xorb) made (v ∷ []) ∙ (λ i. w.hashed i ++ hash i ∷ [])
          ∙ sym (ap (map (λ x. x.xorb)) longer ∙ map-append (λ x. x.xorb) (first_xorbs xs) (x ∷ []));
      listed = ap (λ (l : List XorbOffers). map (λ x. offers_of x.offers) l) more ∙ map-append (λ (x : XorbOffers). offers_of x.offers) made (v ∷ []) ∙ (λ i. w.listed i ++ offers i ∷ [])
          ∙ sym (ap (map (xorb_offers multi)) longer ∙ map-append (xorb_offers multi) (first_xorbs xs) (x ∷ []));
    }

-- so the xorb is listed, whether or not it was added
pub listed_more : (multi : Bool) (xs ys : List PlanXorb) (x : PlanXorb) (made made' : List XorbOffers) (v : XorbOffers) (added : Bool) → IsListed multi xs made → ys ≡ xs ++ x ∷ []
    → is_none (find (λ (v : XorbOffers). hash_eq v.xorb x.xorb) made) ≡ added → v.xorb ≡ x.xorb → offers_of v.offers ≡ xorb_offers multi x → made' ≡ cond added (made ++ v ∷ []) made
    → IsListed multi ys made'
listed_more multi xs ys x made made' v true w e none hash offers more = listed_new multi xs ys x made made' v w e none hash offers more
listed_more multi xs ys x made made' v false w e there hash offers more = listed_seen multi xs ys x made made' w e there more

-- ---- the offers of blocks

abbrev lies : PlanTerm → Offered → Bool
lies t o = lies_in t o.range

abbrev lies_among : PlanTerm → Candidate → Bool
lies_among t c = list_any (lies_in t) c.1

abbrev pub candidate_of : Offered → Candidate
candidate_of o = (o.url, o.block)

length-ranges_from : (n : ℕ) (u : List ℕ) (b : List FetchRange) (before : ℕ) (rs : List FetchRange) → length (ranges_from n u b before rs) ≡ length rs
length-ranges_from n u b before [] = refl
length-ranges_from n u b before (r ∷ rs) = ap (λ (k : ℕ). suc k) (length-ranges_from n u b (min (before + (r.chunks.end - r.chunks.start)) (2 ^ 64 - 1)) rs)

-- more blocks behind
pub offers_from-append : (n : ℕ) (cs ds : List Candidate) → offers_from n (cs ++ ds) ≡ offers_from n cs ++ offers_from (n + length (offers_from n cs)) ds
offers_from-append n [] ds = let e : n ≡ n + 0 = omega arith in ap (λ (k : ℕ). offers_from k ds) e
offers_from-append n (c ∷ cs) ds =
    let m = n + length c.1 in
    let head = ranges_from n c.0 c.1 0 c.1 in
    let long = length-append head (offers_from m cs) in
    let same = length-ranges_from n c.0 c.1 0 c.1 in
    let at : m + length (offers_from m cs) ≡ n + length (head ++ offers_from m cs) = omega (arith, long, same) in
    ap (λ l. head ++ l) (offers_from-append m cs ds ∙ ap (λ (k : ℕ). offers_from m cs ++ offers_from k ds) at)
    ∙ sym (append_assoc head (offers_from m cs) (offers_from (n + length (head ++ offers_from m cs)) ds))

-- what one more step of a walk over blocks adds
pub more_offers : (old new : List Offer) (cs ds : List Candidate) (all : List Offered) → map offered new ≡ map offered old ++ offers_from (length old) cs
    → map offered old ++ offers_from (length old) (cs ++ ds) ≡ all → map offered new ++ offers_from (length new) ds ≡ all
more_offers old new cs ds all made before =
    let n = length old in
    let long : length new ≡ n + length (offers_from n cs) = omega (arith, length-map new offered, ap (λ (l : List Offered). length l) made, length-append (map offered old) (offers_from n cs), length-map old offered) in
    (λ i. made i ++ offers_from (long i) ds)
    ∙ append_assoc (map offered old) (offers_from n cs) (offers_from (n + length (offers_from n cs)) ds)
    ∙ ap (λ l. map offered old ++ l) (sym (offers_from-append n cs ds))
    ∙ before

-- the same of an entry, and of a range
pub more_entry : (old new : List Offer) (multi : Bool) (es : List FetchEntry) (i : ℕ) (d : FetchEntry) (all : List Offered) → i < length es → map offered new ≡ map offered old ++ offers_from (length old) (entry_candidates multi (get_or es i d))
    → map offered old ++ offers_from (length old) (flat_map (entry_candidates multi) (drop i es)) ≡ all → map offered new ++ offers_from (length new) (flat_map (entry_candidates multi) (drop (i + 1) es)) ≡ all
more_entry old new multi es i d all l made before =
    more_offers old new (entry_candidates multi (get_or es i d)) (flat_map (entry_candidates multi) (drop (i + 1) es)) all made
    (sym (ap (λ (l : List FetchEntry). map offered old ++ offers_from (length old) (flat_map (entry_candidates multi) l)) (drop_more es i d l)) ∙ before)

pub more_range : (old new : List Offer) (u : List ℕ) (rs : List FetchRange) (i : ℕ) (d : FetchRange) (all : List Offered) → i < length rs → map offered new ≡ map offered old ++ ranges_from (length old) u (slice_range rs i (i + 1)) 0 (slice_range rs i (i + 1))
    → map offered old ++ offers_from (length old) (map (λ r. (u, r ∷ [])) (drop i rs)) ≡ all → map offered new ++ offers_from (length new) (map (λ r. (u, r ∷ [])) (drop (i + 1) rs)) ≡ all
more_range old new u rs i d all l made before =
    let one : slice_range rs i (i + 1) ≡ get_or rs i d ∷ [] =
    let n : i + 1 - i ≡ 1 = omega arith in
    ap (λ (k : ℕ). take k (drop i rs)) n ∙ ap (λ (l : List FetchRange). take 1 l) (drop_more rs i d l) in
    more_offers old new ((u, get_or rs i d ∷ []) ∷ []) (map (λ r. (u, r ∷ [])) (drop (i + 1) rs)) all
    (made ∙ ap (λ (b : List FetchRange). map offered old ++ ranges_from (length old) u b 0 b) one ∙ ap (λ l. map offered old ++ l) (sym (append-nil (ranges_from (length old) u (get_or rs i d ∷ []) 0 (get_or rs i d ∷ [])))))
    (sym (ap (λ (l : List FetchRange). map offered old ++ offers_from (length old) (map (λ r. (u, r ∷ [])) l)) (drop_more rs i d l)) ∙ before)

module _ (t : PlanTerm) where
  -- among the ranges of a block the first that has the term is of this block
  found_in : (n : ℕ) (u : List ℕ) (b : List FetchRange) (before : ℕ) (rs : List FetchRange) → option_map candidate_of (find (lies t) (ranges_from n u b before rs)) ≡ cond (list_any (lies_in t) rs) (Some (u, b)) None
  found_in n u b before [] = refl
  found_in n u b before (r ∷ rs) = go (lies_in t r) (found_in n u b (min (before + (r.chunks.end - r.chunks.start)) (2 ^ 64 - 1)) rs)
    where
      rest : List Offered
      rest = ranges_from n u b (min (before + (r.chunks.end - r.chunks.start)) (2 ^ 64 - 1)) rs

      o : Offered
      o = record { url = u; range = r; block = b; number = n; before = before }

      go : (x : Bool) → option_map candidate_of (find (lies t) rest) ≡ cond (list_any (lies_in t) rs) (Some (u, b)) None
          → option_map candidate_of (cond x (Some o) (find (lies t) rest)) ≡ cond (x || list_any (lies_in t) rs) (Some (u, b)) None
      go true e = refl
      go false e = e

  -- the first range that has the term is of the first block that has it
  pub found_candidate : (n : ℕ) (cs : List Candidate) → option_map candidate_of (find (lies t) (offers_from n cs)) ≡ find (lies_among t) cs
  found_candidate n [] = refl
  found_candidate n (c ∷ cs) =
      let head = ranges_from n c.0 c.1 0 c.1 in
      let tail = offers_from (n + length c.1) cs in
      ap (λ o. option_map candidate_of o) (find-append (lies t) head tail)
      ∙ go (find (lies t) head) (find (lies t) tail) (list_any (lies_in t) c.1) (found_in n c.0 c.1 0 c.1) (found_candidate (n + length c.1) cs)
    where
      go : (f g : Option Offered) (x : Bool) → option_map candidate_of f ≡ cond x (Some (c.0, c.1)) None → option_map candidate_of g ≡ find (lies_among t) cs
          → option_map candidate_of (first_some (f ∷ g ∷ [])) ≡ cond x (Some c) (find (lies_among t) cs)
      go None None true e h = cc
      go None (Some o) true e h = cc
      go None None false e h = h
      go None (Some o) false e h = h
      go (Some o) g true e h = e
      go (Some o) g false e h = cc

-- ---- the block of a term

-- the blocks that a xorb's entries offer
pub shape_blocks : (multi : Bool) (x : PlanXorb) → flat_map (entry_blocks multi x.xorb) (map (λ e. e.ranges) x.fetch) ≡ map (λ c. ranges_block x.xorb c.1) (candidates multi x)
shape_blocks multi x = go x.fetch
  where
    block : Candidate → PlanBlock
    block c = ranges_block x.xorb c.1

    ones : (u : List ℕ) (rs : List FetchRange) → map (λ r. ranges_block x.xorb (r ∷ [])) rs ≡ map block (map (λ r. (u, r ∷ [])) rs)
    ones u [] = refl
    ones u (r ∷ rs) = ap (λ l. ranges_block x.xorb (r ∷ []) ∷ l) (ones u rs)

    one : (m : Bool) (e : FetchEntry) → entry_blocks m x.xorb e.ranges ≡ map block (entry_candidates m e)
    one true e = refl
    one false e = ones e.url e.ranges

    go : (es : List FetchEntry) → flat_map (entry_blocks multi x.xorb) (map (λ e. e.ranges) es) ≡ map block (flat_map (entry_candidates multi) es)
    go [] = refl
    go (e ∷ es) =
        let head = one multi e in
        let tail = go es in
        (λ i. head i ++ tail i) ∙ sym (map-append block (entry_candidates multi e) (flat_map (entry_candidates multi) es))

option_map-map : {A B C : Type 0} (f : A → B) (g : B → C) (o : Option A) → option_map g (option_map f o) ≡ option_map (λ x. g (f x)) o
option_map-map f g None = refl
option_map-map f g (Some x) = refl

-- the term's block is that of its offer
pub block_of_offer : (p : Plan) (multi : Bool) (t : PlanTerm) → block_of_term (shape p) multi t ≡ option_map (λ o. ranges_block t.xorb o.block) (offer_of_term p multi t)
block_of_offer p multi t = ap (λ o. option_and_then in_xorb o) (plan_xorb_of-shape p t.xorb) ∙ go (find (λ x. hash_eq x.xorb t.xorb) p.xorbs) refl
  where
    in_xorb : XorbShape → Option PlanBlock
    in_xorb x = find (λ b. list_any (lies_in t) b.ranges) (flat_map (entry_blocks multi x.xorb) x.entries)

    in_offers : PlanXorb → Option Offered
    in_offers x = find (lies t) (xorb_offers multi x)

    block : Offered → PlanBlock
    block o = ranges_block t.xorb o.block

    go : (f : Option PlanXorb) → find (λ x. hash_eq x.xorb t.xorb) p.xorbs ≡ f → option_and_then in_xorb (option_map xorb_shape f) ≡ option_map block (option_and_then in_offers f)
    go None e = refl
    go (Some x) e =
        let same : x.xorb ≡ t.xorb = hash_eq-true x.xorb t.xorb (find_passes (λ y. hash_eq y.xorb t.xorb) p.xorbs x e) in
        let as_block : Candidate → PlanBlock = λ c. ranges_block x.xorb c.1 in
        ap (λ l. find (λ b. list_any (lies_in t) b.ranges) l) (shape_blocks multi x)
        ∙ find-map as_block (λ b. list_any (lies_in t) b.ranges) (candidates multi x)
        ∙ ap (λ o. option_map as_block o) (sym (found_candidate t 0 (candidates multi x)))
        ∙ option_map-map candidate_of as_block (in_offers x)
        ∙ (λ i. option_map (λ (o : Offered). ranges_block (same i) o.block) (in_offers x))
