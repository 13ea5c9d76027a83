-- The fetches of missing blocks, of which no two are of one, are of new pairs.
use Rattle.std.proofs.Common.{◌≡◌, ◌⊎◌, ℕ, ◌+◌, ◌<◌, ◌≤◌, ◌==◌, ◌||◌, Bool, true, false, cond, List, [], ◌∷◌, ◌++◌, refl, subst, ap, arith, inl, inr, ⊎_elim}
use Rattle.std.specs.Prelude.{count_by, map}
use Rattle.std.specs.List.{list_any}
use Rattle.std.proofs.lemmas.Bool.{and_parts, eqb-true}
use Rattle.xet_outside.proofs.CallerLemmas.{count_by-cons}
use Rattle.xet_events.specs.declared.event.Event.{Event}
use Rattle.xet_events.specs.declared.event.Event.TheVariants.{Planned, Admit, Fetched, Cached, Expired, Refreshed, Wrote, Fail, Cancel}
use Rattle.xet_events.specs.Events.{is_kept, keeps}
use Rattle.xet_ties.specs.Lanes.{Ask}
use Rattle.xet_ties.specs.Recordings.{asks_for, AreUnkept}
use Rattle.xet_ties.specs.History.{fetches}
use Rattle.xet_ties.specs.Ties.{is_pair}
use Rattle.xet_ties.proofs.Telling.{count-same}

fetch_keeps : (p k : ℕ) (e : Event) → keeps p k e ≡ false → fetches p k e ≡ false
fetch_keeps p k (Planned plan query terms blocks) h = refl
fetch_keeps p k (Admit limit) h = refl
fetch_keeps p k (Fetched lane plan block) h = h
fetch_keeps p k (Cached plan block) h = refl
fetch_keeps p k (Expired lane plan block) h = refl
fetch_keeps p k (Refreshed plan) h = refl
fetch_keeps p k (Wrote taken) h = refl
fetch_keeps p k (Fail error) h = refl
fetch_keeps p k Cancel h = refl

or_parts : (v w : Bool) → (v || w) ≡ false → (v ≡ false) × (w ≡ false)
or_parts true w h = absurd (cc)
or_parts false w h = (refl, h)

-- a block that isn't kept wasn't fetched
pub none_fetched : (p k : ℕ) (es : List Event) → is_kept es p k ≡ false → count_by (fetches p k) es ≡ 0
none_fetched p k [] h = refl
none_fetched p k (e ∷ es) h =
    let o = or_parts (keeps p k e) (list_any (keeps p k) es) h in
    let r = none_fetched p k es o.1 in
    let c = count_by-cons (fetches p k) e es in
    let z = ap {B = ℕ} (λ (v : Bool). cond v 1 0) (fetch_keeps p k e o.0) in
    omega (arith, r, c, z)

-- a block that an event doesn't keep was fetched before it, where it was
pub fetched_before : (es : List Event) (e : Event) (p k : ℕ) → keeps p k e ≡ false → 0 < count_by (fetches p k) (es ++ e ∷ []) → 0 < count_by (fetches p k) es
fetched_before es e p k off h = let c = count-same (fetches p k) es e (fetch_keeps p k e off) in omega (arith, c, h)

among : (es : List Event) (fs : List Ask) (p k : ℕ) → AreUnkept es fs → (count_by (is_pair p k) (map asks_for fs) ≡ 0) ⊎ (is_kept es p k ≡ false)
among es [] p k u = inl refl
among es (a ∷ fs) p k u = by (is_pair p k (asks_for a)) refl (among es fs p k u.1)
  where
    by : (v : Bool) → is_pair p k (asks_for a) ≡ v → (count_by (is_pair p k) (map asks_for fs) ≡ 0) ⊎ (is_kept es p k ≡ false) → (count_by (is_pair p k) (asks_for a ∷ map asks_for fs) ≡ 0) ⊎ (is_kept es p k ≡ false)
    by true e r =
        let t = and_parts (a.request.acquisition.plan == p) (a.request.index == k) e in
        let x : a.request.acquisition.plan ≡ p = eqb-true a.request.acquisition.plan p t.0 in
        let y : a.request.index ≡ k = eqb-true a.request.index k t.1 in
        inr (subst (λ (i : ℕ). is_kept es i k ≡ false) x (subst (λ (j : ℕ). is_kept es a.request.acquisition.plan j ≡ false) y u.0))
    by false e r = ⊎_elim (λ (n : count_by (is_pair p k) (map asks_for fs) ≡ 0). inl (let c = count_by-cons (is_pair p k) (asks_for a) (map asks_for fs) in let z = ap {B = ℕ} (λ (v : Bool). cond v 1 0) e in omega (arith, n, c, z))) inr r

-- the first premise of a round
pub new_pairs : (es : List Event) (fs : List Ask) → AreUnkept es fs → ((p k : ℕ) → count_by (is_pair p k) (map asks_for fs) ≤ 1) → ((p k : ℕ) → count_by (fetches p k) es ≤ 1) → (p k : ℕ) → count_by (fetches p k) es + count_by (is_pair p k) (map asks_for fs) ≤ 1
new_pairs es fs u once before p k = ⊎_elim old new (among es fs p k u)
  where
    old : count_by (is_pair p k) (map asks_for fs) ≡ 0 → count_by (fetches p k) es + count_by (is_pair p k) (map asks_for fs) ≤ 1
    old n = let b = before p k in omega (arith, n, b)

    new : is_kept es p k ≡ false → count_by (fetches p k) es + count_by (is_pair p k) (map asks_for fs) ≤ 1
    new h = let z = none_fetched p k es h in let o = once p k in omega (arith, z, o)
