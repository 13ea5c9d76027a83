-- The term at the front of the queue of those that wait.
use Rattle.std.proofs.Common.{◌≡◌, ℕ, suc, zero, ◌+◌, ◌≤◌, ◌⊎◌, List, [], ◌∷◌, drop, Option, Some, None, refl, subst, ◌∙◌, ap}
use Rattle.std.specs.Prelude.{map, count_by, slice_get, MatchOption, option_map}
use Rattle.xet_events.specs.declared.event.Event.{Event}
use Rattle.xet_events.specs.declared.index.WaitingTerm.{WaitingTerm}
use Rattle.xet_events.specs.declared.index.Index.{Index}
use Rattle.xet_events.specs.Events.{Task, size, planned, is_admit, unwritten}
use Rattle.xet_events.specs.Allowed.{MayAdmit}
use Rattle.xet_events.specs.Indexes.{IsIndexed, waiting_of}

front_of : {A B : Type 0} (f : A → B) (n : ℕ) (xs : List A) → slice_get (map f (drop n xs)) 0 ≡ option_map f (slice_get xs n)
front_of f zero [] = refl
front_of f zero (x ∷ xs) = refl
front_of f (suc n) [] = refl
front_of f (suc n) (x ∷ xs) = front_of f n xs

-- the first waiting term is the next planned one
pub waiting_front : (es : List Event) (i : Index) → IsIndexed es i → slice_get i.waiting.items 0 ≡ option_map waiting_of (slice_get (planned es) (count_by is_admit es))
waiting_front es i x = ap (λ (l : List WaitingTerm). slice_get l 0) x.waiting_are ∙ front_of waiting_of (count_by is_admit es) (planned es)

pub may_admit : (limit : ℕ) (es : List Event) (w : WaitingTerm) → option_map waiting_of (slice_get (planned es) (count_by is_admit es)) ≡ Some w
    → (unwritten es ≡ 0) ⊎ (unwritten es + w.length ≤ limit) → MayAdmit limit es
may_admit limit es w h m = go (slice_get (planned es) (count_by is_admit es)) h
  where
    go : (o : Option Task) → option_map waiting_of o ≡ Some w → MatchOption o ⊥ (λ t. (unwritten es ≡ 0) ⊎ (unwritten es + size t ≤ limit))
    go None h = absurd (cc)
    go (Some t) h = let e : w.length ≡ size t = cc in subst (λ (n : ℕ). (unwritten es ≡ 0) ⊎ (unwritten es + n ≤ limit)) e m

pub may_admit_back : (limit : ℕ) (es : List Event) (w : WaitingTerm) → option_map waiting_of (slice_get (planned es) (count_by is_admit es)) ≡ Some w
    → MayAdmit limit es → (unwritten es ≡ 0) ⊎ (unwritten es + w.length ≤ limit)
may_admit_back limit es w h m = go (slice_get (planned es) (count_by is_admit es)) h m
  where
    go : (o : Option Task) → option_map waiting_of o ≡ Some w → MatchOption o ⊥ (λ t. (unwritten es ≡ 0) ⊎ (unwritten es + size t ≤ limit)) → (unwritten es ≡ 0) ⊎ (unwritten es + w.length ≤ limit)
    go None h m = absurd (cc)
    go (Some t) h m = let e : size t ≡ w.length = cc in subst (λ (n : ℕ). (unwritten es ≡ 0) ⊎ (unwritten es + n ≤ limit)) e m
