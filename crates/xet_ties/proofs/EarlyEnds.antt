-- Plans that end before their queries do, after one more event.
use Rattle.std.proofs.Common.{◌≡◌, false, List, [], ◌∷◌, ◌++◌, refl, ◌∙◌, inl, inr, ◌⊎◌, ⊎_elim}
use Rattle.std.proofs.lemmas.List.Elements.{All-nil}
use Rattle.xet_events.specs.declared.event.Event.{Event}
use Rattle.xet_events.specs.declared.event.Event.TheVariants.{Planned, Admit, Fetched, Cached, Expired, Refreshed, Wrote, Fail, Cancel}
use Rattle.xet_events.specs.Events.{is_plan}
use Rattle.xet_history.specs.TrueHistory.{EndsEarly, SomeEndsEarly, queries_in}
use Rattle.xet_ties.specs.Setup.{Setup}
use Rattle.xet_ties.specs.Ties.{CutsRange, EndsLast, IsLong}
use Rattle.xet_ties.proofs.Telling.{count-same}

-- no query cuts a range
pub cuts_none : (g : Setup) → CutsRange g []
cuts_none g = record { from = tt; long = All-nil (IsLong g) }

-- an event without a query ends nothing
never_early : (e : Event) → queries_in e ≡ [] → EndsEarly e → ⊥
never_early (Planned plan query terms blocks) none h = let z : query ∷ [] ≡ [] = none in absurd (cc)
never_early (Admit limit) none h = h
never_early (Fetched lane plan block) none h = h
never_early (Cached plan block) none h = h
never_early (Expired lane plan block) none h = h
never_early (Refreshed plan) none h = h
never_early (Wrote taken) none h = h
never_early (Fail error) none h = h
never_early Cancel none h = h

-- a plan that ended early is one of the events before, or the last one
pub early_back : (es : List Event) (e : Event) → SomeEndsEarly (es ++ e ∷ []) → SomeEndsEarly es ⊎ EndsEarly e
early_back [] e h = ⊎_elim (λ (k : EndsEarly e). inr k) (λ (k : ⊥). absurd k) h
early_back (x ∷ es) e h =
    ⊎_elim
    (λ (k : EndsEarly x). inl (inl k))
    (λ (k : SomeEndsEarly (es ++ e ∷ [])).
    ⊎_elim (λ (j : SomeEndsEarly es). inl (inr j)) (λ (j : EndsEarly e). inr j) (early_back es e k))
    h

-- so none after an event without a query
pub goes_same : (es : List Event) (e : Event) → queries_in e ≡ [] → (SomeEndsEarly es → ⊥)
    → SomeEndsEarly (es ++ e ∷ []) → ⊥
goes_same es e none goes h = ⊎_elim (λ (k : SomeEndsEarly es). goes k) (λ (k : EndsEarly e). never_early e none k) (early_back es e h)

-- ---- no plan after it

pub ends_same : (es : List Event) (e : Event) → is_plan e ≡ false → EndsLast es → EndsLast (es ++ e ∷ [])
ends_same [] e off h = (λ k. refl, tt)
ends_same (x ∷ es) e off h = (λ k. count-same is_plan es e off ∙ h.0 k, ends_same es e off h.1)

pub ends_push : (es : List Event) (e : Event) → (SomeEndsEarly es → ⊥) → EndsLast (es ++ e ∷ [])
ends_push [] e none = (λ k. refl, tt)
ends_push (x ∷ es) e none = (λ k. absurd (none (inl k)), ends_push es e (λ k. none (inr k)))
