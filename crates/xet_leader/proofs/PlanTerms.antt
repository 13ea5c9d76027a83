-- The terms of an accepted plan adjoin from its query's start on, each in one of its blocks, and end where its bytes
-- do.
use Rattle.std.proofs.Common.{◌≡◌, ℕ, ◌+◌, ◌-◌, ◌≤◌, ◌<◌, Bool, true, false, cond, List, [], ◌∷◌, ◌++◌, length, min, refl, sym, ◌∙◌, ap, arith, map, subst, append_assoc}
use Rattle.std.specs.Prelude.{Some, None, option_and_then, sum, nat_lt, ◌||◌}
use Rattle.std.specs.List.{last_or, list_any, position_or_len}
use Rattle.std.proofs.lemmas.Bool.{ltb-false}
use Rattle.std.proofs.lemmas.List.Sums.{sum_by-cons}
use Rattle.xet_base.specs.declared.cas_types.FileRange.{FileRange}
use Rattle.xet_base.proofs.CallerLemmas.{firsts_keeps, place_within}
use Rattle.xet_outside.specs.declared.plan.PlanTerm.{PlanTerm}
use Rattle.xet_outside.specs.Plan.{Shape}
use Rattle.xet_error.specs.declared.error.Corruption.TheVariants.{Trim}
use Rattle.xet_offers.specs.Blocks.{PlanBlock, blocks_of, same_block, term_block}
use Rattle.xet_offers.specs.PlanChecks.{covered, IsAccepted, sizes_from}
use Rattle.xet_blocks.specs.Terms.{terms_from, terms_of}
use Rattle.xet_offers.proofs.CallerLemmas.{eq-same_block, same_block-true}
use Rattle.xet_blocks.proofs.CallerLemmas.{tested}
use Rattle.xet_events.specs.Allowed.{Adjoin}
use Rattle.xet_events.specs.Events.{last_of}
use Rattle.xet_history.specs.TrueHistory.{planned_term}
use Rattle.xet_ties.specs.History.{actual_range}

sum-cons : (n : ℕ) (ns : List ℕ) → sum (n ∷ ns) ≡ n + sum ns
sum-cons n ns = sum_by-cons (λ x. x) n ns

-- the sum of all sizes but the last
abbrev but_last : List ℕ → ℕ
but_last [] = 0
but_last (n ∷ []) = 0
but_last (n ∷ m ∷ ms) = n + but_last (m ∷ ms)

last_split : (n : ℕ) (ns : List ℕ) → (m : ℕ) × (last_or None (n ∷ ns) ≡ Some m)
    × (but_last (n ∷ ns) + m ≡ sum (n ∷ ns))
last_split n [] = (n, refl, omega (arith, sum-cons n []))
last_split n (m ∷ ms) =
    let next = last_split m ms in
    let is = next.2 in
    (next.0, next.1, omega (arith, is, sum-cons n (m ∷ ms)))

none_from_cond : {A : Type 0} (b : Bool) (x : A) → cond b (Some x) None ≡ None → b ≡ false
none_from_cond false x e = refl
none_from_cond true x e = cc

-- all but the last end at or before the query's end
rest_within : (start end n : ℕ) (ns : List ℕ)
    → option_and_then (λ last. cond (nat_lt last (start + sum (n ∷ ns) - end))
    (Some (Trim (start + sum (n ∷ ns) - end) last)) None) (last_or None (n ∷ ns)) ≡ None
    → start + but_last (n ∷ ns) ≤ end
rest_within start end n ns h =
    let last = last_split n ns in
    let is = last.2 in
    let over = start + sum (n ∷ ns) - end in
    let at : cond (nat_lt last.0 over) (Some (Trim over last.0)) None ≡ None =
    sym (ap (option_and_then (λ last. cond (nat_lt last over) (Some (Trim over last)) None)) last.1) ∙ h in
    let few = ltb-false last.0 over (none_from_cond (nat_lt last.0 over) (Trim over last.0) at) in
    omega (arith, few, is)

sizes_zero : (ts : List PlanTerm) → map (λ t. t.unpacked_length) ts ≡ sizes_from 0 ts
sizes_zero [] = refl
sizes_zero (t ∷ ts) = let e : t.unpacked_length ≡ t.unpacked_length - 0 = omega arith in
    ap (λ (n : ℕ). n ∷ map (λ t. t.unpacked_length) ts) e

-- ---- blocks

block_chain : (a b c : PlanBlock) → same_block a b ≡ true → same_block b c ≡ true → same_block a c ≡ true
block_chain a b c h k =
    let x = same_block-true a b h in
    let y = same_block-true b c k in
    eq-same_block a c (x.0 ∙ y.0) (x.1 ∙ y.1)

any_at : (f : PlanTerm → PlanBlock) (before : List PlanTerm) (t : PlanTerm) (ts : List PlanTerm)
    → list_any (λ y. same_block y (f t)) (map f (before ++ t ∷ ts)) ≡ true
any_at f [] t ts = ap (λ (v : Bool). v || list_any (λ y. same_block y (f t)) (map f ts))
    (eq-same_block (f t) (f t) refl refl)
any_at f (u ∷ us) t ts = ap (λ (v : Bool). same_block (f u) (f t) || v) (any_at f us t ts)
    ∙ or_yes (same_block (f u) (f t))
  where
    or_yes : (v : Bool) → (v || true) ≡ true
    or_yes true = refl
    or_yes false = refl

-- ---- the terms

block_within : (p : Shape) (multi : Bool) (before : List PlanTerm) (t : PlanTerm) (ts : List PlanTerm)
    → p.terms ≡ before ++ t ∷ ts
    → position_or_len (λ b. same_block b (term_block p multi t)) (blocks_of p multi) < length (blocks_of p multi)
block_within p multi before t ts is =
    place_within (λ b. same_block b (term_block p multi t)) (blocks_of p multi)
    (firsts_keeps same_block block_chain (term_block p multi t) (map (term_block p multi) p.terms)
    (ap (λ (l : List PlanTerm). list_any (λ y. same_block y (term_block p multi t)) (map (term_block p multi) l)) is
    ∙ any_at (term_block p multi) before t ts))

terms_adjoin : (p : Shape) (q : FileRange) (multi : Bool) (place o : ℕ) (before ts : List PlanTerm)
    → p.terms ≡ before ++ ts → place + but_last (sizes_from o ts) ≤ q.end
    → Adjoin place (length (blocks_of p multi)) (map planned_term (terms_from p q multi place o ts))
terms_adjoin p q multi place o before [] is within = tt
terms_adjoin p q multi place o before (t ∷ []) is within =
    (refl, omega (arith, within), block_within p multi before t [] is, tt)
terms_adjoin p q multi place o before (t ∷ u ∷ us) is within =
    let n = t.unpacked_length - o in
    let more : but_last (u.unpacked_length ∷ map (λ t. t.unpacked_length) us) ≡ but_last (sizes_from 0 (u ∷ us)) =
    ap but_last (sizes_zero (u ∷ us)) in
    let whole : min (place + n) q.end ≡ place + n = omega (arith, within) in (
      refl,
      omega (arith, within),
      block_within p multi before t (u ∷ us) is,
      subst (λ (x : ℕ). Adjoin x (length (blocks_of p multi))
          (map planned_term (terms_from p q multi (place + n) 0 (u ∷ us)))) (sym whole)
          (terms_adjoin p q multi (place + n) 0 (before ++ t ∷ []) (u ∷ us)
          (is ∙ sym (append_assoc before (t ∷ []) (u ∷ us))) (omega (arith, within, more))),
    )

-- those of an accepted plan
pub plan_adjoins : (p : Shape) (q : FileRange) (multi : Bool) → IsAccepted p q multi
    → Adjoin q.start (length (blocks_of p multi)) (map planned_term (terms_of p q multi))
plan_adjoins p q multi a = go p.terms refl (tested p q multi a).trim
  where
    go : (ts : List PlanTerm) → p.terms ≡ ts
        → option_and_then (λ last. cond (nat_lt last (q.start + sum (sizes_from p.offset ts) - q.end))
        (Some (Trim (q.start + sum (sizes_from p.offset ts) - q.end) last)) None)
        (last_or None (sizes_from p.offset ts)) ≡ None
        → Adjoin q.start (length (blocks_of p multi)) (map planned_term (terms_from p q multi q.start p.offset ts))
    go [] e h = tt
    go (t ∷ ts) e h = terms_adjoin p q multi q.start p.offset [] (t ∷ ts) e
        (rest_within q.start q.end (t.unpacked_length - p.offset) (map (λ t. t.unpacked_length) ts) h)

-- ---- where they end

ends_from : (p : Shape) (q : FileRange) (multi : Bool) (place o low : ℕ) (t : PlanTerm) (ts : List PlanTerm)
    → last_of low (map (λ t. t.byte_range.end) (map planned_term (terms_from p q multi place o (t ∷ ts)))) ≡ min
    (place + sum (sizes_from o (t ∷ ts))) q.end
ends_from p q multi place o low t [] = let s = sum-cons (t.unpacked_length - o) [] in omega (arith, s)
ends_from p q multi place o low t (u ∷ us) =
    let n = t.unpacked_length - o in
    let next = ends_from p q multi (place + n) 0 (min (place + n) q.end) u us in
    let s = sum-cons n (map (λ t. t.unpacked_length) (u ∷ us)) in
    let z = ap sum (sizes_zero (u ∷ us)) in
    next ∙ omega (arith, s, z)

-- a plan with terms covers what they do
pub covers : (p : Shape) (q : FileRange) (multi : Bool) → 0 < length p.terms
    → actual_range q (map planned_term (terms_of p q multi)) ≡ covered p q
covers p q multi some = ap (λ (n : ℕ). let r : FileRange = record { start = q.start; end = n } in r) (go p.terms some)
  where
    go : (ts : List PlanTerm) → 0 < length ts → last_of q.start
        (map (λ t. t.byte_range.end) (map planned_term (terms_from p q multi q.start p.offset ts))) ≡ min
        (q.start + sum (sizes_from p.offset ts)) q.end
    go [] h = absurd (omega arith)
    go (t ∷ ts) h = ends_from p q multi q.start p.offset q.start t ts
