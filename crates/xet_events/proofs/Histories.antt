-- Inductions over allowed histories.
use Rattle.std.proofs.Common.{List, [], ◌∷◌, ◌++◌, sym, subst}
use Rattle.std.proofs.lemmas.List.{append-nil}
use Rattle.std.proofs.Common.{append_assoc}
use Rattle.xet_events.specs.declared.event.Event.{Event}
use Rattle.xet_events.specs.Allowed.{IsAllowed, AllowedAfter, IsAllowedHistory}

-- what each allowed event keeps holds after all
pub kept_from : (P : List Event → Type 0) → ((es : List Event) (e : Event) → IsAllowed es e → P es → P (es ++ e ∷ []))
    → (before es : List Event) → AllowedAfter before es → P before → P (before ++ es)
kept_from P step before [] a h = subst P (sym (append-nil before)) h
kept_from P step before (e ∷ es) a h =
    subst P (append_assoc before (e ∷ []) es) (kept_from P step (before ++ e ∷ []) es a.1 (step before e a.0 h))

pub kept_along : (P : List Event → Type 0) → ((es : List Event) (e : Event) → IsAllowed es e → P es → P (es ++ e ∷ []))
    → P [] → (es : List Event) → IsAllowedHistory es → P es
kept_along P step h es a = kept_from P step [] es a h

-- an allowed history in two parts
pub allowed_parts : (before xs ys : List Event) → AllowedAfter before (xs ++ ys) → AllowedAfter before xs × AllowedAfter (before ++ xs) ys
allowed_parts before [] ys a = (tt, subst (λ (l : List Event). AllowedAfter l ys) (sym (append-nil before)) a)
allowed_parts before (x ∷ xs) ys a =
    let r = allowed_parts (before ++ x ∷ []) xs ys a.1 in
    ((a.0, r.0), subst (λ (l : List Event). AllowedAfter l ys) (append_assoc before (x ∷ []) xs) r.1)

pub allowed_join : (before xs ys : List Event) → AllowedAfter before xs → AllowedAfter (before ++ xs) ys → AllowedAfter before (xs ++ ys)
allowed_join before [] ys a b = subst (λ (l : List Event). AllowedAfter l ys) (append-nil before) b
allowed_join before (x ∷ xs) ys a b =
    (a.0, allowed_join (before ++ x ∷ []) xs ys a.1 (subst (λ (l : List Event). AllowedAfter l ys) (sym (append_assoc before (x ∷ []) xs)) b))

-- one more allowed event
pub allowed_push : (es : List Event) (e : Event) → IsAllowedHistory es → IsAllowed es e → IsAllowedHistory (es ++ e ∷ [])
allowed_push es e a h = allowed_join [] es (e ∷ []) a (h, tt)
