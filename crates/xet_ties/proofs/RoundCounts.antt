-- How many rounds show in a history after the events of one.
use Rattle.std.proofs.Common.{◌≡◌, ◌⊎◌, ℕ, ◌+◌, ◌-◌, ◌≤◌, Bool, true, false, cond, List, [], ◌∷◌, ◌++◌, length, refl, sym, ◌∙◌, ap, arith, inl, inr}
use Rattle.std.specs.Prelude.{map, not, ◌&&◌}
use Rattle.xet_events.specs.declared.event.Event.{Event}
use Rattle.xet_events.specs.Events.{last_of}
use Rattle.xet_ties.specs.History.{ends_in_round, is_fetch, round_in}

-- a round goes on, or the signal was asked for one
abbrev pub MayFetch : List Event → ℕ → Type 0
MayFetch es spare = (ends_in_round es ≡ true) ⊎ (1 ≤ spare)

last_push : (b : Bool) (es : List Event) (e : Event) → last_of b (map is_fetch (es ++ e ∷ [])) ≡ is_fetch e
last_push b [] e = refl
last_push b (x ∷ es) e = last_push (is_fetch x) es e

-- it goes on after an event of a fetch
pub goes_fetching : (es : List Event) (e : Event) → is_fetch e ≡ true → ends_in_round (es ++ e ∷ []) ≡ true
goes_fetching es e h = last_push false es e ∙ h

-- what an event of a fetch takes of the asks that are left
pub record Takes (es : List Event) (e : Event) (spare : ℕ) : Type 0 where
  pub left : ℕ
  pub fits : length (round_in es e) + left ≤ spare
  pub goes : MayFetch (es ++ e ∷ []) left

pub takes : (es : List Event) (e : Event) (spare : ℕ) → is_fetch e ≡ true → MayFetch es spare → Takes es e spare
takes es e spare is may = go (ends_in_round es) refl may
  where
    cost : (v : Bool) → ends_in_round es ≡ v → length (round_in es e) ≡ length (cond (true && not v) (e ∷ []) [])
    cost v h = ap (λ (u : Bool). length (cond (u && not (ends_in_round es)) (e ∷ []) [])) is ∙ ap (λ (u : Bool). length (cond (true && not u) (e ∷ []) [])) h

    go : (v : Bool) → ends_in_round es ≡ v → MayFetch es spare → Takes es e spare
    go true h m = record { left = spare; fits = let c = cost true h in omega (arith, c); goes = inl (goes_fetching es e is) }
    go false h (inl k) = absurd (let z : false ≡ true = sym h ∙ k in cc)
    go false h (inr some) = record { left = spare - 1; fits = let c = cost false h in omega (arith, c, some); goes = inl (goes_fetching es e is) }
