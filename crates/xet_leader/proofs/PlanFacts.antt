-- What a leader's plan has of its terms and blocks.
use Rattle.std.proofs.Common.{◌≡◌, ℕ, ◌+◌, ◌-◌, ◌<◌, suc, zero, Bool, true, false, List, [], ◌∷◌, length, take, drop, refl, sym, subst, ◌∙◌, ap, arith}
use Rattle.std.specs.Prelude.{◌||◌, ◌++◌, map, option_map, Some, slice_get}
use Rattle.std.specs.List.{enumerate_from, list_any}
use Rattle.std.proofs.lemmas.List.{length-map}
use Rattle.std.proofs.lemmas.Option.{slice_get-map}
use Rattle.xet_base.specs.declared.cas_types.FileRange.{FileRange}
use Rattle.xet_base.proofs.CallerLemmas.{firsts_keeps, place_within}
use Rattle.xet_outside.specs.Plan.{Shape, shape}
use Rattle.xet_outside.specs.declared.plan.PlanTerm.{PlanTerm}
use Rattle.xet_blocks.specs.declared.reconstruction_terms.file_term.FileTerm.{FileTerm}
use Rattle.xet_offers.specs.declared.reconstruction_terms.xorb_block.XorbBlock.{XorbBlock}
use Rattle.xet_offers.specs.Blocks.{PlanBlock, blocks_of, same_block, term_block}
use Rattle.xet_blocks.specs.TermBlocks.{xorb_block, xorb_blocks}
use Rattle.xet_blocks.specs.Terms.{terms_from, terms_of}
use Rattle.xet_offers.proofs.CallerLemmas.{eq-same_block, same_block-true}
use Rattle.xet_events.specs.declared.event.Event.{Event}
use Rattle.xet_ties.specs.Setup.{RunTold, Setup}
use Rattle.xet_ties.specs.Ties.{Slack}
use Rattle.xet_leader.specs.declared.leader.LedPlan.{LedPlan}
use Rattle.xet_leader.specs.FetchLists.{Each}
use Rattle.xet_leader.specs.Led.{EachLedBlock, IsLedBlock, IsLedPlan, bare}

-- ---- facts of each element

pub each_take : {A : Type 0} (P : A → Type 0) (n : ℕ) (xs : List A) → Each P xs → Each P (take n xs)
each_take P zero xs a = tt
each_take P (suc n) [] a = tt
each_take P (suc n) (x ∷ xs) a = (a.0, each_take P n xs a.1)

pub each_drop : {A : Type 0} (P : A → Type 0) (n : ℕ) (xs : List A) → Each P xs → Each P (drop n xs)
each_drop P zero xs a = a
each_drop P (suc n) [] a = tt
each_drop P (suc n) (x ∷ xs) a = each_drop P n xs a.1

pub each_weaker : {A : Type 0} (P Q : A → Type 0) (xs : List A) → ((x : A) → P x → Q x) → Each P xs → Each Q xs
each_weaker P Q [] f a = tt
each_weaker P Q (x ∷ xs) f a = (f x a.0, each_weaker P Q xs f a.1)

pub each_append : {A : Type 0} (P : A → Type 0) (xs ys : List A) → Each P xs → Each P ys → Each P (xs ++ ys)
each_append P [] ys a b = b
each_append P (x ∷ xs) ys a b = (a.0, each_append P xs ys a.1 b)

pub each_front : {A : Type 0} (P : A → Type 0) (xs ys : List A) → Each P (xs ++ ys) → Each P xs
each_front P [] ys a = tt
each_front P (x ∷ xs) ys a = (a.0, each_front P xs ys a.1)

pub each_back : {A : Type 0} (P : A → Type 0) (xs ys : List A) → Each P (xs ++ ys) → Each P ys
each_back P [] ys a = a
each_back P (x ∷ xs) ys a = each_back P xs ys a.1

-- ---- the block of a term

same_chain : (a b c : PlanBlock) → same_block a b ≡ true → same_block b c ≡ true → same_block a c ≡ true
same_chain a b c h k = let p = same_block-true a b h in let q = same_block-true b c k in
    eq-same_block a c (p.0 ∙ q.0) (p.1 ∙ q.1)

same_own : (a : PlanBlock) → same_block a a ≡ true
same_own a = eq-same_block a a refl refl

-- the block of each of these terms is listed
abbrev AreListed : Shape → Bool → List PlanTerm → Type 0
AreListed p multi ts = Each (λ t. list_any (λ b. same_block b (term_block p multi t)) (blocks_of p multi) ≡ true) ts

all_listed : (p : Shape) (multi : Bool) → AreListed p multi p.terms
all_listed p multi = each_weaker Among _ p.terms keeps (own p.terms)
  where
    Among : PlanTerm → Type 0
    Among t = list_any (λ b. same_block b (term_block p multi t)) (map (term_block p multi) p.terms) ≡ true

    keeps : (t : PlanTerm) → Among t → list_any (λ b. same_block b (term_block p multi t)) (blocks_of p multi) ≡ true
    keeps t h = firsts_keeps same_block same_chain (term_block p multi t) (map (term_block p multi) p.terms) h

    or_yes : (v w : Bool) → w ≡ true → (v || w) ≡ true
    or_yes true w h = refl
    or_yes false w h = h

    or_first : (v w : Bool) → v ≡ true → (v || w) ≡ true
    or_first true w h = refl
    or_first false w h = absurd (cc)

    own : (ts : List PlanTerm) → Each (λ t. list_any (λ b. same_block b (term_block p multi t))
        (map (term_block p multi) ts) ≡ true) ts
    own [] = tt
    own (t ∷ ts) = (
      or_first (same_block (term_block p multi t) (term_block p multi t)) _ (same_own (term_block p multi t)),
      each_weaker _ _ ts (λ u h. or_yes (same_block (term_block p multi t) (term_block p multi u)) _ h) (own ts),
    )

within_from : (p : Shape) (q : FileRange) (multi : Bool) (place offset : ℕ) (ts : List PlanTerm)
    → AreListed p multi ts → Each (λ (t : FileTerm). t.xorb_block < length (blocks_of p multi))
    (terms_from p q multi place offset ts)
within_from p q multi place offset [] a = tt
within_from p q multi place offset (t ∷ ts) a = (
  place_within (λ b. same_block b (term_block p multi t))
      (blocks_of p multi) a.0,
  within_from p q multi (place + (t.unpacked_length - offset)) 0 ts a.1,
)

length_enumerated : (n : ℕ) (bs : List PlanBlock) → length (enumerate_from n bs) ≡ length bs
length_enumerated n [] = refl
length_enumerated n (b ∷ bs) = ap suc (length_enumerated (n + 1) bs)

pub blocks_length : (p : Shape) (multi : Bool) → length (xorb_blocks p multi) ≡ length (blocks_of p multi)
blocks_length p multi = length-map (enumerate_from 0 (blocks_of p multi)) (xorb_block p multi)
    ∙ length_enumerated 0 (blocks_of p multi)

-- each term of a leader's plan has one of its blocks
pub terms_within : (g : Setup) (b : RunTold) (es : List Event) (sl : Slack) (stale : List ℕ) (l : LedPlan)
    → IsLedPlan g b es sl stale l → Each (λ (t : FileTerm). t.xorb_block < length l.block.blocks) l.block.terms
terms_within g b es sl stale l a =
    let p = shape a.plan in
    let long : length l.block.blocks ≡ length (blocks_of p g.multirange) =
    sym (length-map l.block.blocks bare) ∙ ap length a.blocks ∙ blocks_length p g.multirange in
    let all : Each (λ (t : FileTerm). t.xorb_block < length (blocks_of p g.multirange))
    (terms_of p a.query g.multirange) = within_from p a.query g.multirange a.query.start p.offset p.terms
    (all_listed p g.multirange) in
    subst (λ (n : ℕ). Each (λ (t : FileTerm). t.xorb_block < n) l.block.terms) (sym long)
    (subst (Each (λ (t : FileTerm). t.xorb_block < length (blocks_of p g.multirange))) (sym a.terms) all)

-- ---- a block by its number

numbered_from : (p : Shape) (multi : Bool) (n : ℕ) (bs : List PlanBlock) (k : ℕ) (x : XorbBlock)
    → slice_get (map (xorb_block p multi) (enumerate_from n bs)) k ≡ Some x
    → (c : PlanBlock) × (slice_get bs k ≡ Some c) × (xorb_block p multi (n + k, c) ≡ x)
numbered_from p multi n [] k x h = absurd (cc)
numbered_from p multi n (c ∷ bs) zero x h = (
  c,
  refl,
  ap (λ (m : ℕ). xorb_block p multi (m, c)) (let z : n + 0 ≡ n = omega arith in z)
      ∙ (let z : xorb_block p multi (n, c) ≡ x = cc in z),
)
numbered_from p multi n (c ∷ bs) (suc k) x h =
    let r = numbered_from p multi (n + 1) bs k x h in
    (r.0, r.1, ap (λ (m : ℕ). xorb_block p multi (m, r.0)) (let z : n + suc k ≡ n + 1 + k = omega arith in z) ∙ r.2)

-- the block of this number of a leader's plan is that of its plan
pub block_is : (g : Setup) (b : RunTold) (es : List Event) (sl : Slack) (stale : List ℕ) (l : LedPlan)
    (a : IsLedPlan g b es sl stale l) (k : ℕ) (x : XorbBlock) → slice_get l.block.blocks k ≡ Some x
    → (c : PlanBlock) × (slice_get (blocks_of (shape a.plan) g.multirange) k ≡ Some c)
    × (bare x ≡ xorb_block (shape a.plan) g.multirange (k, c))
block_is g b es sl stale l a k x h =
    let at : slice_get (xorb_blocks (shape a.plan) g.multirange) k ≡ Some (bare x) =
    ap (λ (xs : List XorbBlock). slice_get xs k) (sym a.blocks) ∙ slice_get-map bare l.block.blocks k
    ∙ ap (option_map bare) h in
    let r = numbered_from (shape a.plan) g.multirange 0 (blocks_of (shape a.plan) g.multirange) k (bare x) at in (
      r.0,
      r.1,
      sym r.2 ∙ ap (λ (m : ℕ). xorb_block (shape a.plan) g.multirange (m, r.0))
          (let z : 0 + k ≡ k = omega arith in z),
    )

-- and what the leader knows of it
pub led_block : (b : RunTold) (es : List Event) (sl : Slack) (p j i : ℕ) (ts : List ℕ) (xs : List XorbBlock)
    (x : XorbBlock) → slice_get xs i ≡ Some x → EachLedBlock b es sl p j ts xs
    → (t : ℕ) × IsLedBlock b es sl p (j + i) t x
led_block b es sl p j i [] [] x h a = absurd (cc)
led_block b es sl p j i [] (y ∷ xs) x h a = absurd a
led_block b es sl p j i (t ∷ ts) [] x h a = absurd a
led_block b es sl p j zero (t ∷ ts) (y ∷ xs) x h a =
    let same : y ≡ x = cc in (
      t,
      subst (λ (k : ℕ). IsLedBlock b es sl p k t x) (let z : j ≡ j + 0 = omega arith in z)
          (subst (λ (z : XorbBlock). IsLedBlock b es sl p j t z) same a.0),
    )
led_block b es sl p j (suc i) (t ∷ ts) (y ∷ xs) x h a =
    let r = led_block b es sl p (j + 1) i ts xs x h a.1 in
    (r.0, subst (λ (k : ℕ). IsLedBlock b es sl p k r.0 x) (let z : j + 1 + i ≡ j + suc i = omega arith in z) r.1)
