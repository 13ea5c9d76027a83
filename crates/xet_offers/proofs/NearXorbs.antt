-- The number of a xorb among those of a plan that differ, by what stands there.
use Rattle.std.proofs.Common.{◌≡◌, ℕ, ◌<◌, Bool, true, false, not, List, [], ◌∷◌, get_or, length, map, refl, sym, ◌∙◌, ap, arith, Some}
use Rattle.std.specs.Prelude.{AllPairs, filter, position, slice_get}
use Rattle.std.specs.List.{position_or_len}
use Rattle.std.proofs.lemmas.Bool.{false≢true, lt-ltb}
use Rattle.std.proofs.lemmas.List.{get_or-map, length-map}
use Rattle.std.proofs.lemmas.List.Elements.{All-weaker, filter_passes}
use Rattle.std.proofs.lemmas.List.Kept.{AllPairs-cons, AllPairs-filter}
use Rattle.std.proofs.lemmas.List.Sums.{position_or_len_is}
use Rattle.std.proofs.lemmas.Option.{get_or_from_slice_get, slice_get_within}
use Rattle.xet_base.specs.declared.merklehash.MerkleHash.{MerkleHash}
use Rattle.xet_base.specs.Hashes.{hash_eq}
use Rattle.xet_base.specs.Lists.{firsts}
use Rattle.xet_base.proofs.CallerLemmas.{hash_eq-true}
use Rattle.xet_outside.specs.declared.plan.PlanXorb.{PlanXorb}
use Rattle.xet_offers.specs.declared.reconstruction_terms.plan_offers.XorbOffers.{XorbOffers}
use Rattle.xet_offers.specs.Offers.{first_xorbs}

not_true : (b : Bool) → not b ≡ true → b ≡ false
not_true true h = absurd (false≢true h)
not_true false h = refl

-- no two of the first ones are the same
firsts_differ : {A : Type 0} (same : A → A → Bool) (xs : List A) → AllPairs (λ a b. same a b ≡ false) (firsts same xs)
firsts_differ same [] = λ i j d l m. absurd (omega arith)
firsts_differ same (x ∷ xs) =
    AllPairs-cons (λ a b. same a b ≡ false) x (filter (λ y. not (same x y)) (firsts same xs))
    (All-weaker (λ y. not (same x y) ≡ true) (λ y. same x y ≡ false) (λ y h. not_true (same x y) h) (filter (λ y. not (same x y)) (firsts same xs)) (filter_passes (λ y. not (same x y)) (firsts same xs)))
    (AllPairs-filter (λ a b. same a b ≡ false) (λ y. not (same x y)) (firsts same xs) (firsts_differ same xs))

-- where a xorb with this hash stands, there is its place
pub near_is : (ps : List PlanXorb) (xs : List XorbOffers) (i : ℕ) (x : XorbOffers) (h : MerkleHash) → map (λ x. x.xorb) xs ≡ map (λ x. x.xorb) (first_xorbs ps)
    → slice_get xs i ≡ Some x → hash_eq x.xorb h ≡ true → position (λ (v : XorbOffers). hash_eq v.xorb h) xs ≡ Some i
near_is ps xs i x h hashed at here =
    let hash : XorbOffers → MerkleHash = λ x. x.xorb in
    let first : PlanXorb → MerkleHash = λ x. x.xorb in
    let p : XorbOffers → Bool = λ v. hash_eq v.xorb h in
    let fs = first_xorbs ps in
    let within = slice_get_within xs i x at in
    let is : get_or xs i x ≡ x = get_or_from_slice_get xs i x x at in
    let long : length xs ≡ length fs = sym (length-map xs hash) ∙ ap length hashed ∙ length-map fs first in
    let same : x.xorb ≡ h = hash_eq-true x.xorb h here in
    let none : PlanXorb = record { xorb = h; fetch = [] } in
    let there : (k : ℕ) → k < length xs → (get_or xs k x).xorb ≡ (get_or fs k none).xorb =
    λ k l. sym (get_or-map hash xs k x h l) ∙ ap (λ (hs : List MerkleHash). get_or hs k h) hashed ∙ get_or-map first fs k none h (omega (arith, long)) in
    let own : h ≡ (get_or fs i none).xorb = sym same ∙ ap hash (sym is) ∙ there i within in
    let before : (k : ℕ) → k < i → p (get_or xs k x) ≡ false =
    λ k l. (λ j. hash_eq (there k (omega (arith, within)) j) (own j))
    ∙ firsts_differ (λ (x y : PlanXorb). hash_eq x.xorb y.xorb) ps k i none l (omega (arith, within, long)) in
    let place : position_or_len p xs ≡ i = position_or_len_is p xs i x (omega (arith, within)) before (λ l. ap p is ∙ here) in
    rw (lt-ltb (position_or_len p xs) (length xs) (omega (arith, place, within))) (ap Some place)
