-- What the words on a history say after one more event.
use Rattle.std.proofs.Common.{◌≡◌, ℕ, ◌+◌, Bool, true, false, cond, List, [], ◌∷◌, ◌++◌, refl, sym, subst, ◌∙◌, ap, arith, append_assoc, Some, None, Option}
use Rattle.std.specs.Prelude.{All, count_by, map, option_to_list, slice_get}
use Rattle.std.specs.List.{flat_map}
use Rattle.std.proofs.lemmas.List.Elements.{All-cons, All-head, All-nil, All-tail}
use Rattle.xet_base.specs.declared.cas_types.FileRange.{FileRange}
use Rattle.xet_base.specs.Lists.{first_some}
use Rattle.xet_events.specs.declared.event.PlannedBlock.{PlannedBlock}
use Rattle.xet_events.specs.Events.{last_of}
use Rattle.std.proofs.lemmas.List.{append-nil}
use Rattle.xet_outside.proofs.CallerLemmas.{count_by-cons}
use Rattle.xet_events.specs.declared.event.Event.{Event}
use Rattle.xet_events.proofs.CallerLemmas.{count_by-push, flat-push}
use Rattle.xet_ties.specs.History.{EachAfter, block_at, blocks_in, expiry_of, is_expired, range_at, range_in, telling}

pub telling-after : {A : Type 0} (says : List Event → Event → List A) (before es : List Event) (e : Event) → telling says before (es ++ e ∷ []) ≡ telling says before es ++ says (before ++ es) e
telling-after says before [] e = append-nil (says before e) ∙ ap (λ (l : List Event). says l e) (sym (append-nil before))
telling-after says before (x ∷ es) e =
    ap (λ l. says before x ++ l) (telling-after says (before ++ x ∷ []) es e)
    ∙ sym (append_assoc (says before x) (telling says (before ++ x ∷ []) es) (says ((before ++ x ∷ []) ++ es) e))
    ∙ ap (λ (l : List Event). (says before x ++ telling says (before ++ x ∷ []) es) ++ says l e) (append_assoc before (x ∷ []) es)

pub telling-push : {A : Type 0} (says : List Event → Event → List A) (es : List Event) (e : Event) → telling says [] (es ++ e ∷ []) ≡ telling says [] es ++ says es e
telling-push says es e = telling-after says [] es e

-- an event that says nothing
pub telling-same : {A : Type 0} (says : List Event → Event → List A) (es : List Event) (e : Event) → says es e ≡ [] → telling says [] (es ++ e ∷ []) ≡ telling says [] es
telling-same says es e h = telling-push says es e ∙ ap (λ l. telling says [] es ++ l) h ∙ append-nil (telling says [] es)

each-after : (P : List Event → Event → Type 0) (before es : List Event) (e : Event) → EachAfter P before es → P (before ++ es) e → EachAfter P before (es ++ e ∷ [])
each-after P before [] e a h = (subst (λ (l : List Event). P l e) (append-nil before) h, tt)
each-after P before (x ∷ es) e a h = (a.0, each-after P (before ++ x ∷ []) es e a.1 (subst (λ (l : List Event). P l e) (sym (append_assoc before (x ∷ []) es)) h))

pub each-push : (P : List Event → Event → Type 0) (es : List Event) (e : Event) → EachAfter P [] es → P es e → EachAfter P [] (es ++ e ∷ [])
each-push P es e a h = each-after P [] es e a h

pub count-append : {X : Type 0} (p : X → Bool) (xs ys : List X) → count_by p (xs ++ ys) ≡ count_by p xs + count_by p ys
count-append p [] ys = omega arith
count-append p (x ∷ xs) ys = let h = count-append p xs ys in let a = count_by-cons p x (xs ++ ys) in let b = count_by-cons p x xs in omega (arith, h, a, b)

-- a count that an event leaves
pub count-same : {X : Type 0} (p : X → Bool) (xs : List X) (x : X) → p x ≡ false → count_by p (xs ++ x ∷ []) ≡ count_by p xs
count-same p xs x h = count_by-push p xs x ∙ ap (λ b. count_by p xs + cond b 1 0) h ∙ omega arith

-- a count that it raises
pub count-more : {X : Type 0} (p : X → Bool) (xs : List X) (x : X) → p x ≡ true → count_by p (xs ++ x ∷ []) ≡ count_by p xs + 1
count-more p xs x h = count_by-push p xs x ∙ ap (λ b. count_by p xs + cond b 1 0) h

-- ---- what is said first

-- the first value stays
pub first_stays : {A B : Type 0} (f : A → Option B) (xs : List A) (x : A) (y : B) → first_some (map f xs) ≡ Some y → first_some (map f (xs ++ x ∷ [])) ≡ Some y
first_stays f [] x y h = absurd (cc)
first_stays {B = B} f (z ∷ xs) x y h = go (λ k. first_stays f xs x y k) (f z) refl h
  where
    go : (first_some (map f xs) ≡ Some y → first_some (map f (xs ++ x ∷ [])) ≡ Some y) → (o : Option B) → f z ≡ o → first_some (o ∷ map f xs) ≡ Some y → first_some (f z ∷ map f (xs ++ x ∷ [])) ≡ Some y
    go more None e k = ap (λ v. first_some (v ∷ map f (xs ++ x ∷ []))) e ∙ more k
    go more (Some w) e k = ap (λ v. first_some (v ∷ map f (xs ++ x ∷ []))) e ∙ k

at_none : (k : ℕ) (x : PlannedBlock) → flat_map (λ (bs : List PlannedBlock). option_to_list (slice_get bs k)) (option_to_list None) ≡ x ∷ [] → ⊥
at_none k x h = cc

-- a planned block stays
pub block_at-push : (es : List Event) (e : Event) (p k : ℕ) (x : PlannedBlock) → block_at es p k ≡ x ∷ [] → block_at (es ++ e ∷ []) p k ≡ x ∷ []
block_at-push es e p k x h = go (first_some (map (blocks_in p) es)) refl
  where
    of : Option (List PlannedBlock) → List PlannedBlock
    of o = flat_map (λ (bs : List PlannedBlock). option_to_list (slice_get bs k)) (option_to_list o)

    go : (o : Option (List PlannedBlock)) → first_some (map (blocks_in p) es) ≡ o → block_at (es ++ e ∷ []) p k ≡ x ∷ []
    go None f = absurd (at_none k x (sym (ap of f) ∙ h))
    go (Some bs) f = ap of (first_stays (blocks_in p) es e bs f) ∙ sym (ap of f) ∙ h

range_none : (r : FileRange) → option_to_list None ≡ r ∷ [] → ⊥
range_none r h = cc

-- so does the actual range of a plan
pub range_at-push : (es : List Event) (e : Event) (p : ℕ) (r : FileRange) → range_at es p ≡ r ∷ [] → range_at (es ++ e ∷ []) p ≡ r ∷ []
range_at-push es e p r h = go (first_some (map (range_in p) es)) refl
  where
    of : Option FileRange → List FileRange
    of o = option_to_list o

    go : (o : Option FileRange) → first_some (map (range_in p) es) ≡ o → range_at (es ++ e ∷ []) p ≡ r ∷ []
    go None f = absurd (range_none r (sym (ap of f) ∙ h))
    go (Some q) f = ap of (first_stays (range_in p) es e q f) ∙ sym (ap of f) ∙ h

pub expired-push : (es : List Event) (e : Event) (p k : ℕ) → expiry_of p k e ≡ [] → is_expired (es ++ e ∷ []) p k ≡ is_expired es p k
expired-push es e p k h = ap (λ (l : List Bool). last_of false l) (flat-push (expiry_of p k) es e ∙ ap (λ (l : List Bool). flat_map (expiry_of p k) es ++ l) h ∙ append-nil (flat_map (expiry_of p k) es))

-- ---- facts of all elements of joined lists

pub all_left : {A : Type 0} (P : A → Type 0) (xs ys : List A) → All P (xs ++ ys) → All P xs
all_left P [] ys a = All-nil P
all_left P (x ∷ xs) ys a = All-cons P x xs (All-head P x (xs ++ ys) a) (all_left P xs ys (All-tail P x (xs ++ ys) a))

pub all_right : {A : Type 0} (P : A → Type 0) (xs ys : List A) → All P (xs ++ ys) → All P ys
all_right P [] ys a = a
all_right P (x ∷ xs) ys a = all_right P xs ys (All-tail P x (xs ++ ys) a)
