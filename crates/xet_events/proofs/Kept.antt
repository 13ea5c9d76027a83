-- What is kept stays kept, is kept once, and no answer for it expires.
use Rattle.std.proofs.Common.{◌≡◌, ℕ, ◌+◌, ◌≤◌, ◌==◌, ◌&&◌, ◌||◌, Bool, true, false, cond, List, [], ◌∷◌, ◌++◌, Some, None, Option, refl, sym, ◌∙◌, ap, arith}
use Rattle.std.specs.Prelude.{count_by, map}
use Rattle.std.specs.List.{list_any}
use Rattle.std.proofs.lemmas.Bool.{eqb-true, and_parts, or_parts, or_left, false≢true, false_from_ne_true}
use Rattle.std.proofs.lemmas.List.{map-append}
use Rattle.xet_base.specs.Lists.{first_some}
use Rattle.xet_events.proofs.Counts.{count_by-cons}
use Rattle.xet_events.specs.declared.event.Event.{Event}
use Rattle.xet_events.specs.declared.event.Event.TheVariants.{Planned, Admit, Fetched, Cached, Expired, Refreshed, Wrote, Fail, Cancel}
use Rattle.xet_events.specs.Events.{keeps, is_kept, expires, error_in}
use Rattle.xet_events.specs.Allowed.{IsAllowed, AllowedAfter}
use Rattle.xet_events.specs.Laws.{KeptOnce, NoneExpiresAfter, FirstErrorStays}
use Rattle.xet_events.proofs.Push.{count_by-push, any-push}
use Rattle.xet_events.proofs.Histories.{kept_along, allowed_parts}

count_none : {X : Type 0} (p : X → Bool) (xs : List X) → list_any p xs ≡ false → count_by p xs ≡ 0
count_none p [] h = refl
count_none p (x ∷ xs) h =
    let r = or_parts (p x) (list_any p xs) h in
    let rest = count_none p xs r.1 in
    count_by-cons p x xs ∙ ap (λ b. cond b 1 0 + count_by p xs) r.0 ∙ omega (arith, rest)

-- a test of both numbers of a block
pub same_numbers : (a b x y : ℕ) → (a == x && b == y) ≡ true → (a ≡ x) × (b ≡ y)
same_numbers a b x y h = let r = and_parts (a == x) (b == y) h in (eqb-true a x r.0, eqb-true b y r.1)

-- where a block may be kept it isn't kept yet
once_more : (es : List Event) (e : Event) (a b p q : ℕ) → keeps p q e ≡ (a == p && b == q) → is_kept es a b ≡ false
    → count_by (keeps p q) es ≤ 1 → count_by (keeps p q) (es ++ e ∷ []) ≤ 1
once_more es e a b p q is absent h =
    let n = count_by-push (keeps p q) es e in
    go (keeps p q e) refl n
  where
    go : (t : Bool) → keeps p q e ≡ t → count_by (keeps p q) (es ++ e ∷ []) ≡ count_by (keeps p q) es + cond t 1 0 → count_by (keeps p q) (es ++ e ∷ []) ≤ 1
    go true e n =
        let r = same_numbers a b p q (sym is ∙ e) in
        let here : is_kept es p q ≡ false = ap (λ (k : ℕ). is_kept es k q) (sym r.0) ∙ ap (λ (k : ℕ). is_kept es a k) (sym r.1) ∙ absent in
        let none = count_none (keeps p q) es here in
        omega (arith, n, none)
    go false e n = omega (arith, n, h)

not_more : (es : List Event) (e : Event) (p q : ℕ) → keeps p q e ≡ false → count_by (keeps p q) es ≤ 1 → count_by (keeps p q) (es ++ e ∷ []) ≤ 1
not_more es e p q off h =
    let n : count_by (keeps p q) (es ++ e ∷ []) ≡ count_by (keeps p q) es + 0 = count_by-push (keeps p q) es e ∙ ap (λ b. count_by (keeps p q) es + cond b 1 0) off in
    omega (arith, n, h)

step : (p q : ℕ) (es : List Event) (e : Event) → IsAllowed es e → count_by (keeps p q) es ≤ 1 → count_by (keeps p q) (es ++ e ∷ []) ≤ 1
step p q es (Planned plan query terms blocks) a h = not_more es (Planned plan query terms blocks) p q refl h
step p q es (Admit limit) a h = not_more es (Admit limit) p q refl h
step p q es (Fetched lane plan block) a h = once_more es (Fetched lane plan block) plan block p q refl (a.1).absent h
step p q es (Cached plan block) a h = once_more es (Cached plan block) plan block p q refl (a.1).absent h
step p q es (Expired lane plan block) a h = not_more es (Expired lane plan block) p q refl h
step p q es (Refreshed plan) a h = not_more es (Refreshed plan) p q refl h
step p q es (Wrote taken) a h = not_more es (Wrote taken) p q refl h
step p q es (Fail error) a h = not_more es (Fail error) p q refl h
step p q es Cancel a h = not_more es Cancel p q refl h

pub kept_once : KeptOnce
kept_once es a p q = kept_along (λ l. count_by (keeps p q) l ≤ 1) (step p q) (omega arith) es a

-- an Expired event isn't allowed where the block is kept
none_expires : (p q : ℕ) (es : List Event) (e : Event) → is_kept es p q ≡ true → IsAllowed es e → expires p q e ≡ false
none_expires p q es (Planned plan query terms blocks) h a = refl
none_expires p q es (Admit limit) h a = refl
none_expires p q es (Fetched lane plan block) h a = refl
none_expires p q es (Cached plan block) h a = refl
none_expires p q es (Expired lane plan block) h a =
    false_from_ne_true (plan == p && block == q) (λ t.
    let r = same_numbers plan block p q t in
    let here : is_kept es plan block ≡ true = ap (λ (k : ℕ). is_kept es k block) r.0 ∙ ap (λ (k : ℕ). is_kept es p k) r.1 ∙ h in
    false≢true (sym (a.1).absent ∙ here))
none_expires p q es (Refreshed plan) h a = refl
none_expires p q es (Wrote taken) h a = refl
none_expires p q es (Fail error) h a = refl
none_expires p q es Cancel h a = refl

none_after : (p q : ℕ) (before after : List Event) → AllowedAfter before after → is_kept before p q ≡ true → list_any (expires p q) after ≡ false
none_after p q before [] a h = refl
none_after p q before (e ∷ es) a h =
    let here = none_expires p q before e h a.0 in
    let still : is_kept (before ++ e ∷ []) p q ≡ true = any-push (keeps p q) before e ∙ or_left (is_kept before p q) (keeps p q e) h in
    ap (λ b. b || list_any (expires p q) es) here ∙ none_after p q (before ++ e ∷ []) es a.1 still

pub none_expires_after : NoneExpiresAfter
none_expires_after before after a p q h = none_after p q before after (allowed_parts [] before after a).1 h

first_stays : {A : Type 0} (xs ys : List (Option A)) (x : A) → first_some xs ≡ Some x → first_some (xs ++ ys) ≡ Some x
first_stays [] ys x h = absurd (cc)
first_stays (None ∷ xs) ys x h = first_stays xs ys x h
first_stays (Some y ∷ xs) ys x h = h

pub first_error_stays : FirstErrorStays
first_error_stays before after e h = ap first_some (map-append error_in before after) ∙ first_stays (map error_in before) (map error_in after) e h
