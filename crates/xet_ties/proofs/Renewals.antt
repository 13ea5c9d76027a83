-- No more refreshes than expired answers: each refresh is of a plan that is stale, and one expired answer makes one plan
-- stale.
use Rattle.std.proofs.Common.{◌≡◌, ℕ, ◌+◌, ◌≤◌, ◌==◌, ◌||◌, Bool, true, false, cond, List, [], ◌∷◌, ◌++◌, length, refl, sym, ◌∙◌, ap, arith}
use Rattle.std.specs.Prelude.{count_by, filter}
use Rattle.std.specs.List.{list_any}
use Rattle.std.proofs.lemmas.Bool.{eq-eqb, eqb-true}
use Rattle.xet_events.specs.declared.event.Event.{Event}
use Rattle.xet_events.specs.declared.event.Event.TheVariants.{Planned, Admit, Fetched, Cached, Expired, Refreshed, Wrote, Fail, Cancel}
use Rattle.xet_events.specs.Allowed.{IsAllowed, IsAllowedHistory}
use Rattle.xet_events.specs.Events.{expiry_in, is_stale, last_of}
use Rattle.xet_events.proofs.CallerLemmas.{kept_along, stale-push}
use Rattle.xet_ties.specs.History.{is_expiry, is_refresh}
use Rattle.xet_ties.proofs.Telling.{count-more, count-same}

-- a plan is among these
abbrev among : ℕ → List ℕ → Bool
among p ps = list_any (λ q. q == p) ps

-- these plans without one of them
abbrev without : ℕ → List ℕ → List ℕ
without p [] = []
without p (q ∷ qs) = cond (q == p) (without p qs) (q ∷ without p qs)

without_most : (p : ℕ) (qs : List ℕ) → length (without p qs) ≤ length qs
without_most p [] = omega arith
without_most p (q ∷ qs) = by (without_most p qs) (q == p)
  where
    by : length (without p qs) ≤ length qs → (v : Bool) → length (cond v (without p qs) (q ∷ without p qs)) ≤ length (q ∷ qs)
    by r true = omega (arith, r)
    by r false = omega (arith, r)

without_less : (p : ℕ) (qs : List ℕ) → among p qs ≡ true → length (without p qs) + 1 ≤ length qs
without_less p [] h = absurd (cc)
without_less p (q ∷ qs) h = by (without_most p qs) (λ i. without_less p qs i) (q == p) h
  where
    by : length (without p qs) ≤ length qs → (among p qs ≡ true → length (without p qs) + 1 ≤ length qs) → (v : Bool) → (v || among p qs) ≡ true → length (cond v (without p qs) (q ∷ without p qs)) + 1 ≤ length (q ∷ qs)
    by m r true i = omega (arith, m)
    by m r false i = let s = r i in omega (arith, s)

-- another plan stays among them
without_keeps : (p r : ℕ) (qs : List ℕ) → (p == r) ≡ false → among r qs ≡ true → among r (without p qs) ≡ true
without_keeps p r [] apart h = absurd (cc)
without_keeps p r (q ∷ qs) apart h = by (λ i. without_keeps p r qs apart i) (q == p) refl (q == r) refl h
  where
    by : (among r qs ≡ true → among r (without p qs) ≡ true) → (v : Bool) → (q == p) ≡ v → (w : Bool) → (q == r) ≡ w → (w || among r qs) ≡ true → among r (cond v (without p qs) (q ∷ without p qs)) ≡ true
    by more true e true f i = absurd (let same : p ≡ q = sym (eqb-true q p e) in let z = eq-eqb p r (same ∙ eqb-true q r f) in cc)
    by more true e false f i = more i
    by more false e true f i = ap (λ (w : Bool). w || among r (without p qs)) f
    by more false e false f i = ap (λ (w : Bool). w || among r (without p qs)) f ∙ more i

-- the stale plans, each for an expired answer of its own
record StaleOnes (es : List Event) : Type 0 where
  pub plans : List ℕ
  pub few : count_by is_refresh es + length plans ≤ count_by is_expiry es
  pub all : (p : ℕ) → is_stale es p ≡ true → among p plans ≡ true

-- an event that makes no plan stale and refreshes none
stale_same : (es : List Event) (e : Event) → is_refresh e ≡ false → is_expiry e ≡ false → ((p : ℕ) → expiry_in p e ≡ []) → StaleOnes es → StaleOnes (es ++ e ∷ [])
stale_same es e no_refresh no_expiry none s = record {
  plans = s.plans;
  few = let f = s.few in let r = count-same is_refresh es e no_refresh in let x = count-same is_expiry es e no_expiry in omega (arith, f, r, x);
  all = λ p h. s.all p (sym (stale-push es e p ∙ ap (λ (l : List Bool). last_of (is_stale es p) l) (none p)) ∙ h);
}

stale_expired : (es : List Event) (lane q k : ℕ) → StaleOnes es → StaleOnes (es ++ Expired lane q k ∷ [])
stale_expired es lane q k s = record {
  plans = q ∷ s.plans;
  few = let f = s.few in let r = count-same is_refresh es (Expired lane q k) refl in let x = count-more is_expiry es (Expired lane q k) refl in omega (arith, f, r, x);
  all = λ p h. by p (q == p) (sym (stale-push es (Expired lane q k) p) ∙ h);
}
  where
    by : (p : ℕ) (v : Bool) → last_of (is_stale es p) (filter (λ _. v) (true ∷ [])) ≡ true → (v || among p s.plans) ≡ true
    by p true h = refl
    by p false h = s.all p h

stale_refreshed : (es : List Event) (q : ℕ) → is_stale es q ≡ true → StaleOnes es → StaleOnes (es ++ Refreshed q ∷ [])
stale_refreshed es q stale s = record {
  plans = without q s.plans;
  few =
      let f = s.few in
      let l = without_less q s.plans (s.all q stale) in
      let r = count-more is_refresh es (Refreshed q) refl in
      let x = count-same is_expiry es (Refreshed q) refl in
      omega (arith, f, l, r, x);
  all = λ p h. by p (q == p) refl (sym (stale-push es (Refreshed q) p) ∙ h);
}
  where
    by : (p : ℕ) (v : Bool) → (q == p) ≡ v → last_of (is_stale es p) (filter (λ _. v) (false ∷ [])) ≡ true → among p (without q s.plans) ≡ true
    by p true e h = absurd (let z : false ≡ true = h in cc)
    by p false e h = without_keeps q p s.plans e (s.all p h)

stale_after : (es : List Event) (e : Event) → IsAllowed es e → StaleOnes es → StaleOnes (es ++ e ∷ [])
stale_after es (Planned plan query terms blocks) a s = stale_same es (Planned plan query terms blocks) refl refl (λ p. refl) s
stale_after es (Admit limit) a s = stale_same es (Admit limit) refl refl (λ p. refl) s
stale_after es (Fetched lane plan block) a s = stale_same es (Fetched lane plan block) refl refl (λ p. refl) s
stale_after es (Cached plan block) a s = stale_same es (Cached plan block) refl refl (λ p. refl) s
stale_after es (Expired lane plan block) a s = stale_expired es lane plan block s
stale_after es (Refreshed plan) a s = stale_refreshed es plan a.1 s
stale_after es (Wrote taken) a s = stale_same es (Wrote taken) refl refl (λ p. refl) s
stale_after es (Fail error) a s = stale_same es (Fail error) refl refl (λ p. refl) s
stale_after es Cancel a s = stale_same es Cancel refl refl (λ p. refl) s

stale_ones : (es : List Event) → IsAllowedHistory es → StaleOnes es
stale_ones es a = kept_along StaleOnes stale_after (record { plans = []; few = omega arith; all = λ p h. absurd (cc) }) es a

-- with one more for a plan that is stale
pub stale_few : (es : List Event) (p : ℕ) → IsAllowedHistory es → is_stale es p ≡ true → count_by is_refresh es + 1 ≤ count_by is_expiry es
stale_few es p a h =
    let s = stale_ones es a in
    let f = s.few in
    let l = without_less p s.plans (s.all p h) in
    omega (arith, f, l)

pub refreshes_few : (es : List Event) → IsAllowedHistory es → count_by is_refresh es ≤ count_by is_expiry es
refreshes_few es a =
    let s = stale_ones es a in
    let f = s.few in
    omega (arith, f)
