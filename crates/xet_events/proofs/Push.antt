-- What the words on a history say after one more event.
use Rattle.std.proofs.Common.{◌≡◌, ℕ, ◌+◌, ◌||◌, Bool, true, false, cond, List, [], ◌∷◌, ◌++◌, Option, Some, None, refl, ◌∙◌, ap, arith}
use Rattle.std.specs.Prelude.{map, count_by}
use Rattle.std.specs.List.{flat_map, list_any}
use Rattle.std.specs.Option.{option_or}
use Rattle.std.proofs.lemmas.List.{append-nil, map-append}
use Rattle.std.proofs.lemmas.List.Sums.{sum_by_push}
use Rattle.std.proofs.lemmas.List.Folds.{list_any-append}
use Rattle.std.proofs.lemmas.Grind.{flat_map-append}
use Rattle.xet_base.specs.Lists.{first_some}
use Rattle.xet_events.proofs.Counts.{count_by-cons}
use Rattle.xet_events.specs.declared.event.Event.{Event}
use Rattle.xet_events.specs.Events.{Task, last_of, planned, planned_end, tasks_in, written, taken_in, expiry_in, is_stale, first_error, error_in}

pub count_by-push : {X : Type 0} (p : X → Bool) (xs : List X) (x : X) → count_by p (xs ++ x ∷ []) ≡ count_by p xs + cond (p x) 1 0
count_by-push p [] x = let h = count_by-cons p x [] in omega (arith, h)
count_by-push p (y ∷ ys) x =
    let h = count_by-push p ys x in
    let a = count_by-cons p y (ys ++ x ∷ []) in
    let b = count_by-cons p y ys in
    omega (arith, h, a, b)

pub any-push : {X : Type 0} (p : X → Bool) (xs : List X) (x : X) → list_any p (xs ++ x ∷ []) ≡ (list_any p xs || p x)
any-push p xs x = list_any-append p xs (x ∷ []) ∙ ap (λ (b : Bool). list_any p xs || b) (or_false (p x))
  where
    or_false : (b : Bool) → (b || false) ≡ b
    or_false true = refl
    or_false false = refl

pub flat-push : {X A : Type 0} (f : X → List A) (xs : List X) (x : X) → flat_map f (xs ++ x ∷ []) ≡ flat_map f xs ++ f x
flat-push f xs x = flat_map-append f xs (x ∷ []) ∙ ap (λ l. flat_map f xs ++ l) (append-nil (f x))

pub planned-push : (es : List Event) (e : Event) → planned (es ++ e ∷ []) ≡ planned es ++ tasks_in e
planned-push es e = flat-push tasks_in es e

pub written-push : (es : List Event) (e : Event) → written (es ++ e ∷ []) ≡ written es + taken_in e
written-push es e = sum_by_push taken_in es e

pub first_some-push : {A : Type 0} (os : List (Option A)) (o : Option A) → first_some (os ++ o ∷ []) ≡ option_or (first_some os) o
first_some-push [] None = refl
first_some-push [] (Some x) = refl
first_some-push (None ∷ os) o = first_some-push os o
first_some-push (Some x ∷ os) o = refl

pub error-push : (es : List Event) (e : Event) → first_error (es ++ e ∷ []) ≡ option_or (first_error es) (error_in e)
error-push es e = ap first_some (map-append error_in es (e ∷ [])) ∙ first_some-push (map error_in es) (error_in e)

pub last_of-append : {A : Type 0} (d : A) (xs ys : List A) → last_of d (xs ++ ys) ≡ last_of (last_of d xs) ys
last_of-append d [] ys = refl
last_of-append d (x ∷ xs) ys = last_of-append x xs ys

pub stale-push : (es : List Event) (e : Event) (p : ℕ) → is_stale (es ++ e ∷ []) p ≡ last_of (is_stale es p) (expiry_in p e)
stale-push es e p = ap (λ l. last_of false l) (flat-push (expiry_in p) es e) ∙ last_of-append false (flat_map (expiry_in p) es) (expiry_in p e)

pub end-push : (es : List Event) (e : Event) (place : ℕ) → planned_end (es ++ e ∷ []) place ≡ last_of (planned_end es place) (map (λ t. t.term.byte_range.end) (tasks_in e))
end-push es e place =
    ap (λ (l : List Task). last_of place (map (λ t. t.term.byte_range.end) l)) (planned-push es e)
    ∙ ap (λ l. last_of place l) (map-append (λ (t : Task). t.term.byte_range.end) (planned es) (tasks_in e))
    ∙ last_of-append place (map (λ t. t.term.byte_range.end) (planned es)) (map (λ t. t.term.byte_range.end) (tasks_in e))
