-- The walk over a plan's terms that lists their blocks.
use Rattle.std.proofs.Common.{◌≡◌, ℕ, zero, suc, ◌+◌, ◌-◌, ◌<◌, ◌≤◌, Bool, true, false, cond, not, ◌&&◌, ◌^◌, List, [], ◌∷◌, ◌++◌, length, map, get_or, take, eqb, leb, ltb, refl, sym, ◌∙◌, ap, subst, arith, Some, None}
use Rattle.std.specs.Prelude.{All, MatchOption, Option, find, is_none, min, option_and_then, option_map, position, unwrap_or}
use Rattle.std.specs.List.{enumerate_from, flat_map, list_any, position_or_len}
use Rattle.std.proofs.lemmas.Bool.{false≢true, and_parts, leb-true, ltb-true}
use Rattle.std.proofs.lemmas.List.{length-map, map-append, take_more, length-take}
use Rattle.std.proofs.lemmas.Option.{same_Some}
use Rattle.std.proofs.lemmas.List.Elements.{All-head, All-push, All-tail}
use lib.Pointwise.{pointwise}
use Rattle.xet_base.specs.declared.merklehash.MerkleHash.{MerkleHash}
use Rattle.xet_base.specs.Hashes.{hash_eq}
use Rattle.xet_base.specs.Lists.{first_some, firsts}
use Rattle.xet_base.proofs.CallerLemmas.{AllFound, IsWalked, hash_eq-true, place, place_within, walked_found, walked_new}
use Rattle.xet_outside.specs.declared.plan.FetchEntry.{FetchEntry}
use Rattle.xet_outside.specs.declared.plan.FetchRange.{FetchRange}
use Rattle.xet_outside.specs.declared.plan.Plan.{Plan}
use Rattle.xet_outside.specs.declared.plan.PlanTerm.{PlanTerm}
use Rattle.xet_outside.specs.declared.plan.PlanXorb.{PlanXorb}
use Rattle.xet_outside.specs.Plan.{Shape, shape}
use Rattle.xet_blocks.specs.declared.reconstruction_terms.plan_blocks.TermStart.{TermStart}
use Rattle.xet_blocks.specs.declared.reconstruction_terms.plan_blocks.PlanBlocks.{PlanBlocks}
use Rattle.xet_blocks.specs.declared.reconstruction_terms.block_list.OfferedBlock.{OfferedBlock}
use Rattle.xet_offers.specs.Blocks.{PlanBlock, block_of_term, block_ranges, blocks_of, entry_blocks, lies_in, range_eq, same_block, start_index, term_block}
use Rattle.xet_offers.specs.Offers.{Candidate, Offered, candidates, entry_candidates, offer_of_term, ranges_block, xorb_offers, xorb_place}
use Rattle.xet_blocks.specs.steps.BlockKeys.{IsBlockOf, key_of, place_of_key, same_key}
use Rattle.xet_blocks.specs.steps.Planning.{HasChunks, HasRanges, IsNumbered, IsOfTerm, IsPlaced, IsPlanned, IsToldApart, number_in, plan_block}
use Rattle.xet_blocks.specs.TermBlocks.{block_url}
use Rattle.xet_offers.specs.PlanChecks.{ranges_test, unordered}
use Rattle.xet_offers.proofs.CallerLemmas.{any_by_chunks, block_of_offer, candidate_of, eq-same_ranges, find-append, find-map, find_passes, found_candidate, numbers_tell, offer_ascends, offer_starts, places_tell, position-map, same_block-chain, same_block-own, same_ranges-true}

-- ---- numbers of blocks

pub enumerate-push : {A : Type 0} (n : ℕ) (xs : List A) (x : A) → enumerate_from n (xs ++ x ∷ []) ≡ enumerate_from n xs ++ (n + length xs, x) ∷ []
enumerate-push n [] x = let e : n ≡ n + 0 = omega arith in ap (λ (k : ℕ). (k, x) ∷ []) e
enumerate-push n (y ∷ ys) x =
    let e : n + 1 + length ys ≡ n + suc (length ys) = omega arith in
    ap (λ l. (n, y) ∷ l) (enumerate-push (n + 1) ys x ∙ ap (λ (k : ℕ). enumerate_from (n + 1) ys ++ (k, x) ∷ []) e)

-- one more block of the list has the next number
pub numbered-push : {B : Type 0} (f : ℕ × PlanBlock → B) (xs : List OfferedBlock) (i : ℕ) (d : OfferedBlock) → i < length xs
    → map f (enumerate_from 0 (map plan_block (take (i + 1) xs))) ≡ map f (enumerate_from 0 (map plan_block (take i xs))) ++ f (i, plan_block (get_or xs i d)) ∷ []
numbered-push f xs i d l =
    let x = get_or xs i d in
    let more : map plan_block (take (i + 1) xs) ≡ map plan_block (take i xs) ++ plan_block x ∷ [] = ap (λ (l : List OfferedBlock). map plan_block l) (take_more xs i d l) ∙ map-append plan_block (take i xs) (x ∷ []) in
    let at : 0 + length (map plan_block (take i xs)) ≡ i = omega (arith, length-map (take i xs) plan_block, length-take {A = OfferedBlock}) in
    ap (λ (l : List PlanBlock). map f (enumerate_from 0 l)) more
    ∙ ap (λ l. map f l) (enumerate-push 0 (map plan_block (take i xs)) (plan_block x))
    ∙ map-append f (enumerate_from 0 (map plan_block (take i xs))) ((0 + length (map plan_block (take i xs)), plan_block x) ∷ [])
    ∙ ap (λ (k : ℕ). map f (enumerate_from 0 (map plan_block (take i xs))) ++ f (k, plan_block x) ∷ []) at

-- ---- keys of blocks

places_alike : {A : Type 0} (p q : A → Bool) (xs : List A) → All (λ x. p x ≡ q x) xs → position_or_len p xs ≡ position_or_len q xs
places_alike p q [] h = refl
places_alike p q (x ∷ xs) h =
    let here : p x ≡ q x = All-head (λ x. p x ≡ q x) x xs h in
    let rest = places_alike p q xs (All-tail (λ x. p x ≡ q x) x xs h) in
    λ i. cond (not (here i)) (1 + rest i) 0

position_alike : {A : Type 0} (p q : A → Bool) (xs : List A) → All (λ x. p x ≡ q x) xs → position p xs ≡ position q xs
position_alike p q xs h = ap (λ (n : ℕ). cond (ltb n (length xs)) (Some n) None) (places_alike p q xs h)

-- the place of a block's key is the block's number, where the keys tell it from the others
pub position-key : (blocks : List OfferedBlock) (b : OfferedBlock) → IsToldApart b blocks → place_of_key blocks (key_of b) ≡ number_in blocks b
position-key blocks b apart =
    position_alike (λ c. same_key (key_of c) (key_of b)) (λ c. same_block (plan_block c) (plan_block b)) blocks apart
    ∙ sym (position-map plan_block (λ c. same_block c (plan_block b)) blocks)

-- a block that is there keeps the list, and one that is not is added
pub numbered_found : (before after : List OfferedBlock) (b : OfferedBlock) (n : ℕ) → IsToldApart b before → place_of_key before (key_of b) ≡ Some n → after ≡ before → IsNumbered before after b n
numbered_found before after b n apart at same =
    let P : Option ℕ → Type 0 = λ o. MatchOption o ((after ≡ before ++ b ∷ []) × (n ≡ length before)) (λ i. (after ≡ before) × (n ≡ i)) in
    subst P (sym (sym (position-key before b apart) ∙ at)) (same, refl)

pub numbered_new : (before after : List OfferedBlock) (b : OfferedBlock) (n : ℕ) → IsToldApart b before → place_of_key before (key_of b) ≡ None → after ≡ before ++ b ∷ [] → n ≡ length before → IsNumbered before after b n
numbered_new before after b n apart at more number =
    let P : Option ℕ → Type 0 = λ o. MatchOption o ((after ≡ before ++ b ∷ []) × (n ≡ length before)) (λ i. (after ≡ before) × (n ≡ i)) in
    subst P (sym (sym (position-key before b apart) ∙ at)) (more, number)

-- ---- the block of a term with an offer

abbrev pub start_of : Shape → Bool → PlanTerm → ℕ
start_of p multi t = start_index (block_ranges (term_block p multi t)) t.range.start

-- the block of a term with an offer is that of the offer
pub term_block_of_offer : (p : Plan) (multi : Bool) (t : PlanTerm) (o : Offered) → offer_of_term p multi t ≡ Some o → term_block (shape p) multi t ≡ ranges_block t.xorb o.block
term_block_of_offer p multi t o h =
    ap (λ b. unwrap_or b (record { xorb = t.xorb; ranges = [] })) (block_of_offer p multi t ∙ ap (λ f. option_map (λ (o : Offered). ranges_block t.xorb o.block) f) h)

-- the term lies in its range
pub lies_in_offer : (p : Plan) (multi : Bool) (t : PlanTerm) (o : Offered) → offer_of_term p multi t ≡ Some o → lies_in t o.range ≡ true
lies_in_offer p multi t o h = go (find (λ y. hash_eq y.xorb t.xorb) p.xorbs) h
  where
    go : (f : Option PlanXorb) → option_and_then (λ x. find (λ o. lies_in t o.range) (xorb_offers multi x)) f ≡ Some o → lies_in t o.range ≡ true
    go None e = cc
    go (Some x) e = find_passes (λ (o : Offered). lies_in t o.range) (xorb_offers multi x) o e

-- and starts in it
pub starts_in_offer : (p : Plan) (multi : Bool) (t : PlanTerm) (o : Offered) → offer_of_term p multi t ≡ Some o → o.range.chunks.start ≤ t.range.start
starts_in_offer p multi t o h =
    leb-true o.range.chunks.start t.range.start (and_parts (leb o.range.chunks.start t.range.start) (ltb t.range.start t.range.end && leb t.range.end o.range.chunks.end) (lies_in_offer p multi t o h)).0

pub some_of_offer : (p : Plan) (multi : Bool) (t : PlanTerm) (o : Offered) → offer_of_term p multi t ≡ Some o → t.range.start < t.range.end
some_of_offer p multi t o h =
    let low = and_parts (leb o.range.chunks.start t.range.start) (ltb t.range.start t.range.end && leb t.range.end o.range.chunks.end) (lies_in_offer p multi t o h) in
    ltb-true t.range.start t.range.end (and_parts (ltb t.range.start t.range.end) (leb t.range.end o.range.chunks.end) low.1).0

-- and starts so many chunks after the range
pub start_of_offer : (p : Plan) (multi : Bool) (t : PlanTerm) (o : Offered) → ranges_test (shape p) multi ≡ None → t.range.start < 2 ^ 64 → offer_of_term p multi t ≡ Some o
    → (o.range.chunks.start ≤ t.range.start) × (start_of (shape p) multi t ≡ o.before + (t.range.start - o.range.chunks.start)) × (start_of (shape p) multi t ≤ t.range.start)
start_of_offer p multi t o passed fits h =
    let at = offer_starts p multi t o passed fits h in
    let block : start_of (shape p) multi t ≡ start_index (map (λ r. r.chunks) o.block) t.range.start = ap (λ (b : PlanBlock). start_index (block_ranges b) t.range.start) (term_block_of_offer p multi t o h) in
    (at.inside, omega (arith, block, at.count), omega (arith, block, at.within))

-- two blocks with offers of terms are told apart by their keys
pub told_apart : (p : Plan) (multi : Bool) (b : OfferedBlock) (bs : List OfferedBlock) → IsOfTerm p multi b → All (IsOfTerm p multi) bs → IsToldApart b bs
told_apart p multi b bs of all k d l = two (get_or bs k d) b (all k d l) of
  where
    in_xorb : PlanTerm → PlanXorb → Option Offered
    in_xorb t x = find (λ o. lies_in t o.range) (xorb_offers multi x)

    -- the xorb of a term with an offer
    xorb_of : (t : PlanTerm) (o : Offered) (f : Option PlanXorb) → find (λ z. hash_eq z.xorb t.xorb) p.xorbs ≡ f → option_and_then (in_xorb t) f ≡ Some o
        → (x : PlanXorb) × (find (λ z. hash_eq z.xorb t.xorb) p.xorbs ≡ Some x)
    xorb_of t o None e h = cc
    xorb_of t o (Some x) e h = (x, e)

    at : (a b : OfferedBlock) (x : IsOfTerm p multi a) (y : IsOfTerm p multi b) (f : Option PlanXorb) → option_and_then (in_xorb x.term) f ≡ Some x.offer
        → option_and_then (in_xorb y.term) f ≡ Some y.offer
        → eqb a.number b.number ≡ pointwise range_eq (block_ranges (plan_block a)) (block_ranges (plan_block b))
    at a b x y None e g = cc
    at a b x y (Some z) e g =
        let ranges : List FetchRange → List FetchRange → Bool = λ rs ss. pointwise range_eq (map (λ r. r.chunks) rs) (map (λ r. r.chunks) ss) in
        (λ i. eqb (x.block.number i) (y.block.number i)) ∙ numbers_tell x.term y.term 0 (candidates multi z) x.offer y.offer e g
        ∙ (λ i. ranges (sym x.block.ranges i) (sym y.block.ranges i))

    two : (a b : OfferedBlock) → IsOfTerm p multi a → IsOfTerm p multi b → same_key (key_of a) (key_of b) ≡ same_block (plan_block a) (plan_block b)
    two a b x y =
        let first = xorb_of x.term x.offer (find (λ z. hash_eq z.xorb x.term.xorb) p.xorbs) refl x.found in
        let second = xorb_of y.term y.offer (find (λ z. hash_eq z.xorb y.term.xorb) p.xorbs) refl y.found in
        let places : eqb a.place b.place ≡ hash_eq a.xorb.now b.xorb.now =
        (λ i. eqb (x.block.place i) (y.block.place i)) ∙ places_tell p x.term.xorb y.term.xorb first.0 second.0 first.1 second.1 ∙ (λ i. hash_eq (sym x.block.xorb i) (sym y.block.xorb i)) in
        ap (λ c. c && eqb a.number b.number) places ∙ go (hash_eq a.xorb.now b.xorb.now) refl
      where
        go : (c : Bool) → hash_eq a.xorb.now b.xorb.now ≡ c → (c && eqb a.number b.number) ≡ (c && pointwise range_eq (block_ranges (plan_block a)) (block_ranges (plan_block b)))
        go false e = refl
        go true e =
            let same : a.xorb.now ≡ b.xorb.now = hash_eq-true a.xorb.now b.xorb.now e in
            let hashes : x.term.xorb ≡ y.term.xorb = sym x.block.xorb ∙ same ∙ y.block.xorb in
            at a b x y (find (λ z. hash_eq z.xorb y.term.xorb) p.xorbs)
            (sym (ap (λ (h : MerkleHash). option_and_then (in_xorb x.term) (find (λ z. hash_eq z.xorb h) p.xorbs)) hashes) ∙ x.found) y.found

-- ---- the URL of a block

abbrev as_block : MerkleHash → Candidate → List ℕ × PlanBlock
as_block h c = (c.0, ranges_block h c.1)

-- what a xorb offers as blocks with their URLs
look : Bool → PlanXorb → List (List ℕ × PlanBlock)
look multi x = flat_map (λ e. map (λ c. (e.url, c)) (entry_blocks multi x.xorb e.ranges)) x.fetch

look_is : (multi : Bool) (x : PlanXorb) → look multi x ≡ map (as_block x.xorb) (candidates multi x)
unfolding look
look_is multi x = go x.fetch
  where
    with : List ℕ → PlanBlock → List ℕ × PlanBlock
    with u c = (u, c)

    ones : (u : List ℕ) (rs : List FetchRange) → map (λ c. (u, c)) (map (λ r. ranges_block x.xorb (r ∷ [])) rs) ≡ map (as_block x.xorb) (map (λ r. (u, r ∷ [])) rs)
    ones u [] = refl
    ones u (r ∷ rs) = ap (λ l. (u, ranges_block x.xorb (r ∷ [])) ∷ l) (ones u rs)

    one : (m : Bool) (e : FetchEntry) → map (λ c. (e.url, c)) (entry_blocks m x.xorb e.ranges) ≡ map (as_block x.xorb) (entry_candidates m e)
    one true e = refl
    one false e = ones e.url e.ranges

    go : (es : List FetchEntry) → flat_map (λ e. map (λ c. (e.url, c)) (entry_blocks multi x.xorb e.ranges)) es ≡ map (as_block x.xorb) (flat_map (entry_candidates multi) es)
    go [] = refl
    go (e ∷ es) =
        let head = one multi e in
        let tail = go es in
        (λ i. head i ++ tail i) ∙ sym (map-append (as_block x.xorb) (entry_candidates multi e) (flat_map (entry_candidates multi) es))

abbrev offers_block : PlanBlock → List ℕ × PlanBlock → Bool
offers_block b c = same_block c.1 b

abbrev same_ranges : List FetchRange → List FetchRange → Bool
same_ranges rs ss = pointwise range_eq (map (λ r. r.chunks) rs) (map (λ r. r.chunks) ss)

-- among a xorb's blocks the first with the ranges of the found one is the found one
first_block : (t : PlanTerm) (cs : List Candidate) (c : Candidate) → find (λ (d : Candidate). list_any (lies_in t) d.1) cs ≡ Some c → find (λ (d : Candidate). same_ranges d.1 c.1) cs ≡ Some c
first_block t [] c h = cc
first_block t (d ∷ ds) c h = go (list_any (lies_in t) d.1) refl h (λ k. first_block t ds c k)
  where
    rest : Option Candidate
    rest = find (λ (d : Candidate). same_ranges d.1 c.1) ds

    go : (b : Bool) → list_any (lies_in t) d.1 ≡ b → cond b (Some d) (find (λ (d : Candidate). list_any (lies_in t) d.1) ds) ≡ Some c
        → (find (λ (d : Candidate). list_any (lies_in t) d.1) ds ≡ Some c → rest ≡ Some c) → cond (same_ranges d.1 c.1) (Some d) rest ≡ Some c
    go true e k next =
        let same : d ≡ c = same_Some d c k in
        ap (λ b. cond b (Some d) rest) (eq-same_ranges d.1 c.1 (ap (λ (x : Candidate). map (λ r. r.chunks) x.1) same)) ∙ k
    go false e k next = at (same_ranges d.1 c.1) refl (find_passes (λ (d : Candidate). list_any (lies_in t) d.1) ds c k)
      where
        at : (b : Bool) → same_ranges d.1 c.1 ≡ b → list_any (lies_in t) c.1 ≡ true → cond b (Some d) rest ≡ Some c
        at false s l = next k
        at true s l = absurd (false≢true (sym e ∙ any_by_chunks t d.1 c.1 (same_ranges-true d.1 c.1 s) ∙ l))

-- a xorb of another hash offers no such block, and one of the hash offers it where it offers the ranges
find_apart : (x : PlanXorb) (h : MerkleHash) (rs : List FetchRange) (cs : List Candidate) → hash_eq x.xorb h ≡ false → find (offers_block (ranges_block h rs)) (map (as_block x.xorb) cs) ≡ None
find_apart x h rs [] e = refl
find_apart x h rs (c ∷ cs) e =
    ap (λ b. cond (b && same_ranges c.1 rs) (Some (as_block x.xorb c)) (find (offers_block (ranges_block h rs)) (map (as_block x.xorb) cs))) e
    ∙ find_apart x h rs cs e

find_here : (x : PlanXorb) (h : MerkleHash) (rs : List FetchRange) (cs : List Candidate) → hash_eq x.xorb h ≡ true
    → find (offers_block (ranges_block h rs)) (map (as_block x.xorb) cs) ≡ option_map (as_block x.xorb) (find (λ (d : Candidate). same_ranges d.1 rs) cs)
find_here x h rs cs e =
    find-map (as_block x.xorb) (offers_block (ranges_block h rs)) cs
    ∙ ap (λ b. option_map (as_block x.xorb) (find (λ (d : Candidate). b && same_ranges d.1 rs) cs)) e

-- the URL of a term's block is that of its offer
pub url_of_offer : (p : Plan) (multi : Bool) (t : PlanTerm) (o : Offered) → offer_of_term p multi t ≡ Some o → block_url p multi (ranges_block t.xorb o.block) ≡ o.url
unfolding look
url_of_offer p multi t o h = ap (λ f. unwrap_or f []) (go p.xorbs h)
  where
    block : PlanBlock
    block = ranges_block t.xorb o.block

    url : List ℕ × PlanBlock → List ℕ
    url c = c.0

    step : (x : PlanXorb) (xs : List PlanXorb) → find (offers_block block) (look multi x ++ flat_map (look multi) xs)
        ≡ first_some (find (offers_block block) (map (as_block x.xorb) (candidates multi x)) ∷ find (offers_block block) (flat_map (look multi) xs) ∷ [])
    step x xs =
        find-append (offers_block block) (look multi x) (flat_map (look multi) xs)
        ∙ ap (λ l. first_some (find (offers_block block) l ∷ find (offers_block block) (flat_map (look multi) xs) ∷ [])) (look_is multi x)

    only : {A : Type 0} (f : Option A) → first_some (f ∷ []) ≡ f
    only None = refl
    only (Some a) = refl

    go : (xs : List PlanXorb) → option_and_then (λ x. find (λ o. lies_in t o.range) (xorb_offers multi x)) (find (λ y. hash_eq y.xorb t.xorb) xs) ≡ Some o
        → option_map url (find (offers_block block) (flat_map (look multi) xs)) ≡ Some o.url
    go [] e = cc
    go (x ∷ xs) e = ap (λ f. option_map url f) (step x xs) ∙ at (hash_eq x.xorb t.xorb) refl e (λ k. go xs k)
      where
        rest : Option (List ℕ × PlanBlock)
        rest = find (offers_block block) (flat_map (look multi) xs)

        at : (b : Bool) → hash_eq x.xorb t.xorb ≡ b → option_and_then (λ x. find (λ o. lies_in t o.range) (xorb_offers multi x)) (cond b (Some x) (find (λ y. hash_eq y.xorb t.xorb) xs)) ≡ Some o
            → (option_and_then (λ x. find (λ o. lies_in t o.range) (xorb_offers multi x)) (find (λ y. hash_eq y.xorb t.xorb) xs) ≡ Some o → option_map url rest ≡ Some o.url)
            → option_map url (first_some (find (offers_block block) (map (as_block x.xorb) (candidates multi x)) ∷ rest ∷ [])) ≡ Some o.url
        at true s k next =
            let candidate : find (λ (c : Candidate). list_any (lies_in t) c.1) (candidates multi x) ≡ Some (candidate_of o) =
            sym (found_candidate t 0 (candidates multi x)) ∙ ap (λ f. option_map candidate_of f) k in
            ap (λ f. option_map url (first_some (f ∷ rest ∷ [])))
            (find_here x t.xorb o.block (candidates multi x) s ∙ ap (λ f. option_map (as_block x.xorb) f) (first_block t (candidates multi x) (candidate_of o) candidate))
        at false s k next =
            ap (λ f. option_map url (first_some (f ∷ rest ∷ []))) (find_apart x t.xorb o.block (candidates multi x) s)
            ∙ ap (λ f. option_map url f) (only rest) ∙ next k

-- ---- the walk over the terms

-- the blocks and the places of these terms
pub record IsWalk (p : Plan) (multi : Bool) (ts : List PlanTerm) (s : PlanBlocks) : Type 0 where
  pub walked : IsWalked same_block same_block-own same_block-chain (map plan_block s.blocks) (map (λ t. t.block) s.starts) (map (term_block (shape p) multi) ts)
  pub starts : map (λ t. t.start_index) s.starts ≡ map (start_of (shape p) multi) ts
  pub urls : map (λ b. b.url.now) s.blocks ≡ map (λ b. block_url p multi (plan_block b)) s.blocks
  pub of_terms : All (IsOfTerm p multi) s.blocks
  pub ascend : All HasRanges s.blocks
  pub some : All HasChunks ts

walked_to : (fs fs' : List PlanBlock) (ps ps' : List ℕ) (xs xs' : List PlanBlock) → IsWalked same_block same_block-own same_block-chain fs ps xs → fs ≡ fs' → ps ≡ ps' → xs ≡ xs' → IsWalked same_block same_block-own same_block-chain fs' ps' xs'
walked_to fs fs' ps ps' xs xs' w e f g =
    subst (λ (l : List PlanBlock). IsWalked same_block same_block-own same_block-chain l ps' xs') e
    (subst (λ (l : List ℕ). IsWalked same_block same_block-own same_block-chain fs l xs') f
    (subst (λ (l : List PlanBlock). IsWalked same_block same_block-own same_block-chain fs ps l) g w))

-- one more term, with its block's number
pub walk_more : (p : Plan) (multi : Bool) (ts ts' : List PlanTerm) (before now : PlanBlocks) (t : PlanTerm) (o : Offered) (b : OfferedBlock) → IsWalk p multi ts before → ts' ≡ ts ++ t ∷ []
    → IsBlockOf t.xorb (xorb_place p t.xorb) o b → offer_of_term p multi t ≡ Some o → IsPlaced before now t o b → ranges_test (shape p) multi ≡ None → IsWalk p multi ts' now
walk_more p multi ts ts' before now t o b w more of found added passed =
    let fits : t.range.start < 2 ^ 32 = added.fits in
    let longer : now.starts ≡ before.starts ++ placed ∷ [] = added.starts in
    let at = start_of_offer p multi t o passed (omega (arith, fits)) found in
    let start : placed.start_index ≡ start_of (shape p) multi t = omega (arith, at.0, at.1, at.2, fits) in
    record {
      walked = go (number_in before.blocks b) refl added.numbered longer;
      starts = ap (λ (l : List TermStart). map (λ t. t.start_index) l) longer ∙ map-append (λ (t : TermStart). t.start_index) before.starts (placed ∷ [])
          ∙ (λ i. w.starts i ++ start i ∷ []) ∙ sym (ap (λ (l : List PlanTerm). map (start_of (shape p) multi) l) more ∙ map-append (start_of (shape p) multi) ts (t ∷ []));
      urls = urls (number_in before.blocks b) added.numbered;
      of_terms = more_of (IsOfTerm p multi) (number_in before.blocks b) added.numbered w.of_terms (record { term = t; offer = o; found = found; block = of });
      ascend = more_of HasRanges (number_in before.blocks b) added.numbered w.ascend (subst (λ (rs : List FetchRange). unordered 0 rs ≡ false) (sym of.ranges) (offer_ascends p multi t o passed found));
      some = subst (λ (l : List PlanTerm). All HasChunks l) (sym more) (All-push HasChunks ts t w.some (some_of_offer p multi t o found));
    }
  where
    n : ℕ
    n = added.number

    placed : TermStart
    placed = record { block = n; start_index = min (o.before + (t.range.start - o.range.chunks.start)) (2 ^ 64 - 1) }

    block : term_block (shape p) multi t ≡ plan_block b
    block = term_block_of_offer p multi t o found ∙ (λ i. ranges_block (sym of.xorb i) (sym of.ranges i))

    blocks : map (term_block (shape p) multi) ts ++ plan_block b ∷ [] ≡ map (term_block (shape p) multi) ts'
    blocks = ap (λ (x : PlanBlock). map (term_block (shape p) multi) ts ++ x ∷ []) (sym block) ∙ sym (ap (λ (l : List PlanTerm). map (term_block (shape p) multi) l) more ∙ map-append (term_block (shape p) multi) ts (t ∷ []))

    Numbered : Option ℕ → Type 0
    Numbered f = MatchOption f ((now.blocks ≡ before.blocks ++ b ∷ []) × (n ≡ length before.blocks)) (λ i. (now.blocks ≡ before.blocks) × (n ≡ i))

    more_of : (P : OfferedBlock → Type 0) (f : Option ℕ) → Numbered f → All P before.blocks → P b → All P now.blocks
    more_of P None (added, last) all one = subst (λ (l : List OfferedBlock). All P l) (sym added) (All-push P before.blocks b all one)
    more_of P (Some i) (kept, here) all one = subst (λ (l : List OfferedBlock). All P l) (sym kept) all

    go : (f : Option ℕ) → number_in before.blocks b ≡ f → Numbered f → now.starts ≡ before.starts ++ placed ∷ []
        → IsWalked same_block same_block-own same_block-chain (map plan_block now.blocks) (map (λ t. t.block) now.starts) (map (term_block (shape p) multi) ts')
    go None none (added, last) longer =
        let count : n ≡ length (map plan_block before.blocks) = last ∙ sym (length-map before.blocks plan_block) in
        walked_to (map plan_block before.blocks ++ plan_block b ∷ []) (map plan_block now.blocks) (map (λ t. t.block) before.starts ++ n ∷ []) (map (λ t. t.block) now.starts)
        (map (term_block (shape p) multi) ts ++ plan_block b ∷ []) (map (term_block (shape p) multi) ts')
        (walked_new same_block same_block-own same_block-chain (map plan_block before.blocks) (map (λ t. t.block) before.starts) (map (term_block (shape p) multi) ts) (plan_block b) n count w.walked none)
        (sym (ap (λ (l : List OfferedBlock). map plan_block l) added ∙ map-append plan_block before.blocks (b ∷ [])))
        (sym (ap (λ (l : List TermStart). map (λ t. t.block) l) longer ∙ map-append (λ (t : TermStart). t.block) before.starts (placed ∷ [])))
        blocks
    go (Some i) some (kept, here) longer =
        walked_to (map plan_block before.blocks) (map plan_block now.blocks) (map (λ t. t.block) before.starts ++ i ∷ []) (map (λ t. t.block) now.starts)
        (map (term_block (shape p) multi) ts ++ plan_block b ∷ []) (map (term_block (shape p) multi) ts')
        (walked_found same_block same_block-own same_block-chain (map plan_block before.blocks) (map (λ t. t.block) before.starts) (map (term_block (shape p) multi) ts) (plan_block b) i w.walked some)
        (sym (ap (λ (l : List OfferedBlock). map plan_block l) kept))
        (ap (λ (j : ℕ). map (λ t. t.block) before.starts ++ j ∷ []) (sym here) ∙ sym (ap (λ (l : List TermStart). map (λ t. t.block) l) longer ∙ map-append (λ (t : TermStart). t.block) before.starts (placed ∷ [])))
        blocks

    urls : (f : Option ℕ) → Numbered f → map (λ b. b.url.now) now.blocks ≡ map (λ b. block_url p multi (plan_block b)) now.blocks
    urls None (added, last) =
        let all : now.blocks ≡ before.blocks ++ b ∷ [] = added in
        let here : b.url.now ≡ block_url p multi (plan_block b) =
        of.url ∙ sym (url_of_offer p multi t o found) ∙ (λ i. block_url p multi (ranges_block (sym of.xorb i) (sym of.ranges i))) in
        ap (λ (l : List OfferedBlock). map (λ b. b.url.now) l) all ∙ map-append (λ (b : OfferedBlock). b.url.now) before.blocks (b ∷ [])
        ∙ (λ i. w.urls i ++ here i ∷ [])
        ∙ sym (ap (λ (l : List OfferedBlock). map (λ b. block_url p multi (plan_block b)) l) all ∙ map-append (λ (b : OfferedBlock). block_url p multi (plan_block b)) before.blocks (b ∷ []))
    urls (Some i) (kept, here) =
        ap (λ (l : List OfferedBlock). map (λ b. b.url.now) l) kept ∙ w.urls ∙ sym (ap (λ (l : List OfferedBlock). map (λ b. block_url p multi (plan_block b)) l) kept)

-- ---- its end

starts_of : (fs : List PlanBlock) (p : Shape) (multi : Bool) (ss : List TermStart) (ts : List PlanTerm) → map (λ t. t.block) ss ≡ map (place same_block fs) (map (term_block p multi) ts)
    → map (λ t. t.start_index) ss ≡ map (start_of p multi) ts → ss ≡ map (λ t. record { block = place same_block fs (term_block p multi t); start_index = start_of p multi t }) ts
starts_of fs p multi [] [] a b = refl
starts_of fs p multi [] (t ∷ ts) a b = cc
starts_of fs p multi (x ∷ xs) [] a b = cc
starts_of fs p multi (x ∷ xs) (t ∷ ts) a b =
    let number : x.block ≡ place same_block fs (term_block p multi t) = cc in
    let start : x.start_index ≡ start_of p multi t = cc in
    let a' : map (λ t. t.block) xs ≡ map (place same_block fs) (map (term_block p multi) ts) = cc in
    let b' : map (λ t. t.start_index) xs ≡ map (start_of p multi) ts = cc in
    let next = starts_of fs p multi xs ts a' b' in
    λ i. record { block = number i; start_index = start i } ∷ next i

placed_within : (fs : List PlanBlock) (n : ℕ) → n ≡ length fs → (ps : List TermStart) (xs : List PlanBlock) → map (λ t. t.block) ps ≡ map (place same_block fs) xs → AllFound same_block fs xs → All (λ t. t.block < n) ps
placed_within fs n e [] xs a h k d l = absurd (omega arith)
placed_within fs n e (p ∷ ps) [] a h k d l = cc
placed_within fs n e (p ∷ ps) (x ∷ xs) a h zero d l =
    let number : p.block ≡ place same_block fs x = cc in
    omega (arith, number, e, place_within (λ y. same_block y x) fs h.0)
placed_within fs n e (p ∷ ps) (x ∷ xs) a h (suc k) d l =
    let a' : map (λ t. t.block) ps ≡ map (place same_block fs) xs = cc in
    placed_within fs n e ps xs a' h.1 k d (omega arith)

pub walk_planned : (p : Plan) (multi : Bool) (ts : List PlanTerm) (s : PlanBlocks) → IsWalk p multi ts s → ts ≡ p.terms → IsPlanned p multi s
walk_planned p multi ts s w e =
    let all : map plan_block s.blocks ≡ blocks_of (shape p) multi = w.walked.firsts_are ∙ ap (λ (l : List PlanTerm). firsts same_block (map (term_block (shape p) multi) l)) e in
    let start_in : List PlanBlock → PlanTerm → TermStart = λ fs t. record { block = place same_block fs (term_block (shape p) multi t); start_index = start_of (shape p) multi t } in
    record {
      blocks = all;
      starts = starts_of (map plan_block s.blocks) (shape p) multi s.starts ts w.walked.places_are w.starts ∙ (λ i. map (start_in (all i)) (e i));
      urls = w.urls;
      within = placed_within (map plan_block s.blocks) (length s.blocks) (sym (length-map s.blocks plan_block)) s.starts (map (term_block (shape p) multi) ts) w.walked.places_are w.walked.all_found;
      ascend = w.ascend;
      some = subst (λ (l : List PlanTerm). All HasChunks l) e w.some;
    }

-- ---- a term lies in a range exactly where it has an offer

pub has_offer : (p : Plan) (multi : Bool) (t : PlanTerm) (o : Offered) → offer_of_term p multi t ≡ Some o → is_none (block_of_term (shape p) multi t) ≡ false
has_offer p multi t o h = ap is_none (block_of_offer p multi t ∙ ap (λ f. option_map (λ (o : Offered). ranges_block t.xorb o.block) f) h)

pub has_no_offer : (p : Plan) (multi : Bool) (t : PlanTerm) → offer_of_term p multi t ≡ None → is_none (block_of_term (shape p) multi t) ≡ true
has_no_offer p multi t h = ap is_none (block_of_offer p multi t ∙ ap (λ f. option_map (λ (o : Offered). ranges_block t.xorb o.block) f) h)
