-- The ranges that one entry offers, each as a block: the one in which a term lies.
use Rattle.std.proofs.Common.{◌≡◌, ℕ, zero, suc, ◌+◌, ◌-◌, ◌<◌, Bool, true, false, cond, List, [], ◌∷◌, drop, get_or, leb, length, map, refl, sym, take, ◌∙◌, ap, subst, arith, Some, None}
use Rattle.std.specs.Prelude.{Option, find, option_and_then, option_map, slice_get, slice_range}
use Rattle.std.specs.List.Sorted.{IsPartitionPoint}
use Rattle.std.proofs.lemmas.List.{drop_more, length-map}
use Rattle.xet_outside.specs.declared.plan.FetchEntry.{FetchEntry}
use Rattle.xet_outside.specs.declared.plan.FetchRange.{FetchRange}
use Rattle.xet_outside.specs.declared.plan.PlanTerm.{PlanTerm}
use Rattle.xet_offers.specs.Blocks.{lies_in}
use Rattle.xet_offers.specs.PlanChecks.{unordered}
use Rattle.xet_offers.specs.Offers.{Offered, entry_offers, offers_from}
use Rattle.xet_offers.proofs.AscendingSearch as ascending

-- what a range of an entry offers, by the entry's URL and the range's number
abbrev pub range_offer : List ℕ → ℕ → FetchRange → Offered
range_offer u n r = record { url = u; range = r; block = r ∷ []; number = n; before = 0 }

abbrev range_of : Offered → FetchRange
range_of o = o.range

-- what ranges offer, where the first has this number
abbrev each : ℕ → List ℕ → List FetchRange → List Offered
each n u rs = offers_from n (map (λ r. (u, r ∷ [])) rs)

ranges_of : (n : ℕ) (u : List ℕ) (rs : List FetchRange) → map range_of (each n u rs) ≡ rs
ranges_of n u [] = refl
ranges_of n u (r ∷ rs) = ap (λ l. r ∷ l) (ranges_of (n + length (r ∷ [])) u rs)

offer_there : (n : ℕ) (u : List ℕ) (rs : List FetchRange) (i : ℕ) → slice_get (each n u rs) i ≡ option_map (range_offer u (n + i)) (slice_get rs i)
offer_there n u [] i = refl
offer_there n u (r ∷ rs) zero = let e : n ≡ n + 0 = omega arith in ap (λ (k : ℕ). Some (range_offer u k r)) e
offer_there n u (r ∷ rs) (suc i) =
    let e : n + length (r ∷ []) + i ≡ n + suc i = omega arith in
    offer_there (n + length (r ∷ [])) u rs i ∙ ap (λ (k : ℕ). option_map (range_offer u k) (slice_get rs i)) e

-- the term's offer among these, where it is at a place
abbrev pub there : PlanTerm → List Offered → ℕ → Option Offered
there t os i = option_and_then (λ o. cond (lies_in t o.range) (Some o) None) (slice_get os i)

-- at a place past the ranges there is none, and at a range it is the range's where the term lies in that
pub there_past : (e : FetchEntry) (t : PlanTerm) (i : ℕ) → slice_get e.ranges i ≡ None → there t (entry_offers e) i ≡ None
there_past e t i got =
    ap (λ f. option_and_then (λ (o : Offered). cond (lies_in t o.range) (Some o) None) f)
    (offer_there 0 e.url e.ranges i ∙ ap (λ f. option_map (range_offer e.url (0 + i)) f) got)

pub there_at : (e : FetchEntry) (t : PlanTerm) (i : ℕ) (r : FetchRange) (b : Bool) → slice_get e.ranges i ≡ Some r → lies_in t r ≡ b → there t (entry_offers e) i ≡ cond b (Some (range_offer e.url i r)) None
there_at e t i r b got lies =
    let z : 0 + i ≡ i = omega arith in
    ap (λ f. option_and_then (λ (o : Offered). cond (lies_in t o.range) (Some o) None) f)
    (offer_there 0 e.url e.ranges i ∙ ap (λ f. option_map (range_offer e.url (0 + i)) f) got)
    ∙ (λ j. cond (lies j) (Some (range_offer e.url (z j) r)) None)

-- the range at a place alone
pub one_range : (rs : List FetchRange) (i : ℕ) (d : FetchRange) → i < length rs → slice_range rs i (i + 1) ≡ get_or rs i d ∷ []
one_range rs i d l =
    let n : i + 1 - i ≡ 1 = omega arith in
    ap (λ (k : ℕ). take k (drop i rs)) n ∙ ap (λ (l : List FetchRange). take 1 l) (drop_more rs i d l)

-- ---- the search

get_mapped : {A B : Type 0} (f : A → B) (xs : List A) (k : ℕ) (d : A) → get_or (map f xs) k (f d) ≡ f (get_or xs k d)
get_mapped f [] k d = refl
get_mapped f (x ∷ xs) zero d = refl
get_mapped f (x ∷ xs) (suc k) d = get_mapped f xs k d

module _ (e : FetchEntry) (ordered : unordered 0 e.ranges ≡ false) where
  offers_ascend : unordered 0 (map range_of (entry_offers e)) ≡ false
  offers_ascend = ap (λ (l : List FetchRange). unordered 0 l) (ranges_of 0 e.url e.ranges) ∙ ordered

  same_range : (k : ℕ) (d : Offered) → get_or e.ranges k d.range ≡ (get_or (entry_offers e) k d).range
  same_range k d = ap (λ (l : List FetchRange). get_or l k d.range) (sym (ranges_of 0 e.url e.ranges)) ∙ get_mapped range_of (entry_offers e) k d

  -- the place where the ranges' ends pass a chunk is that of the offers
  part_of : (c i : ℕ) → IsPartitionPoint (λ (r : FetchRange). leb r.chunks.end c ≡ true) (λ (r : FetchRange). leb r.chunks.end c ≡ false) e.ranges i
      → IsPartitionPoint (λ (o : Offered). leb o.range.chunks.end c ≡ true) (λ (o : Offered). leb o.range.chunks.end c ≡ false) (entry_offers e) i
  part_of c i part =
      let long : length (entry_offers e) ≡ length e.ranges =
      sym (length-map (entry_offers e) range_of) ∙ ap (λ (l : List FetchRange). length l) (ranges_of 0 e.url e.ranges) in (
        λ k d low high. subst (λ (r : FetchRange). leb r.chunks.end c ≡ true) (same_range k d) (part.0 k d.range low high),
        λ k d low high. subst (λ (r : FetchRange). leb r.chunks.end c ≡ false) (same_range k d) (part.1 k d.range low (omega (arith, long, high))),
      )

  pub found_by_halves : (t : PlanTerm) (i : ℕ) → IsPartitionPoint (λ (r : FetchRange). leb r.chunks.end t.range.start ≡ true) (λ (r : FetchRange). leb r.chunks.end t.range.start ≡ false) e.ranges i
      → find (λ o. lies_in t o.range) (entry_offers e) ≡ there t (entry_offers e) i
  found_by_halves t i part = ascending.find_by_halves range_of (entry_offers e) t i offers_ascend (part_of t.range.start i part)

  -- and one that is found at any place is the first
  pub found_near : (t : PlanTerm) (i : ℕ) (o : Offered) → there t (entry_offers e) i ≡ Some o → find (λ o. lies_in t o.range) (entry_offers e) ≡ Some o
  found_near t i o h = go (slice_get (entry_offers e) i) refl h
    where
      go : (f : Option Offered) → slice_get (entry_offers e) i ≡ f → option_and_then (λ (x : Offered). cond (lies_in t x.range) (Some x) None) f ≡ Some o → find (λ o. lies_in t o.range) (entry_offers e) ≡ Some o
      go None at k = cc
      go (Some x) at k = has (lies_in t x.range) refl k
        where
          has : (b : Bool) → lies_in t x.range ≡ b → cond b (Some x) None ≡ Some o → find (λ o. lies_in t o.range) (entry_offers e) ≡ Some o
          has true lies k = ascending.find_there range_of (entry_offers e) t i x offers_ascend at lies ∙ k
          has false lies k = cc
