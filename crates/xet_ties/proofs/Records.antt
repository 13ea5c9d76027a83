-- Events that are recorded one after another.
use Rattle.std.proofs.Common.{◌≡◌, ℕ, zero, suc, ◌+◌, ◌<◌, ◌≤◌, List, [], ◌∷◌, ◌++◌, take, drop, length, refl, sym, subst, ◌∙◌, ap, arith, append_assoc}
use Rattle.std.specs.Prelude.{Ok, Err, get_or}
use Rattle.std.specs.List.{flat_map}
use Rattle.std.proofs.lemmas.List.{append-nil}
use Rattle.std.proofs.lemmas.Grind.{flat_map-append}
use Rattle.xet_error.specs.declared.error.FileReconstructionError.{FileReconstructionError}
use Rattle.xet_events.specs.declared.event.Event.{Event}
use Rattle.xet_events.specs.Allowed.{AllowedAfter}
use Rattle.xet_ties.specs.Recordings.{Recorded}

-- ---- events that are allowed one after another

pub allowed_first : (before xs ys : List Event) → AllowedAfter before (xs ++ ys) → AllowedAfter before xs
allowed_first before [] ys a = tt
allowed_first before (x ∷ xs) ys a = (a.0, allowed_first (before ++ x ∷ []) xs ys a.1)

pub allowed_rest : (before xs ys : List Event) → AllowedAfter before (xs ++ ys) → AllowedAfter (before ++ xs) ys
allowed_rest before [] ys a = subst (λ (l : List Event). AllowedAfter l ys) (sym (append-nil before)) a
allowed_rest before (x ∷ xs) ys a = subst (λ (l : List Event). AllowedAfter l ys) (append_assoc before (x ∷ []) xs) (allowed_rest (before ++ x ∷ []) xs ys a.1)

-- ---- the events of a list, element by element

drop_suc : {A : Type 0} (xs : List A) (k : ℕ) (d : A) → k < length xs → drop k xs ≡ get_or xs k d ∷ drop (suc k) xs
drop_suc [] k d h = absurd (omega arith)
drop_suc (x ∷ xs) zero d h = refl
drop_suc (x ∷ xs) (suc k) d h = drop_suc xs k d (omega arith)

take_suc : {A : Type 0} (xs : List A) (k : ℕ) (d : A) → k < length xs → take (suc k) xs ≡ take k xs ++ get_or xs k d ∷ []
take_suc [] k d h = absurd (omega arith)
take_suc (x ∷ xs) zero d h = refl
take_suc (x ∷ xs) (suc k) d h = ap (λ l. x ∷ l) (take_suc xs k d (omega arith))

pub drop_at : {A : Type 0} (xs : List A) (k : ℕ) (d : A) → k < length xs → drop k xs ≡ get_or xs k d ∷ drop (k + 1) xs
drop_at xs k d h = let e : suc k ≡ k + 1 = omega arith in drop_suc xs k d h ∙ ap (λ (j : ℕ). get_or xs k d ∷ drop j xs) e

pub take_at : {A : Type 0} (xs : List A) (k : ℕ) (d : A) → k < length xs → take (k + 1) xs ≡ take k xs ++ get_or xs k d ∷ []
take_at xs k d h = let e : suc k ≡ k + 1 = omega arith in ap (λ (j : ℕ). take j xs) (sym e) ∙ take_suc xs k d h

take_front : {A : Type 0} (xs ys : List A) (k : ℕ) → (j : ℕ) × (xs ++ take k ys ≡ take j (xs ++ ys))
take_front [] ys k = (k, refl)
take_front (x ∷ xs) ys k = let r = take_front xs ys k in (suc r.0, ap (λ l. x ∷ l) r.1)

-- those of the first elements were recorded, and those of the others are allowed
pub record SoFar {A : Type 0} (f : A → List Event) (xs : List A) (k : ℕ) (es now : List Event) : Type 0 where
  pub are : now ≡ es ++ flat_map f (take k xs)
  pub left : AllowedAfter now (flat_map f (drop k xs))

pub so_none : {A : Type 0} (f : A → List Event) (xs : List A) (es : List Event) → AllowedAfter es (flat_map f xs) → SoFar f xs 0 es es
so_none f xs es a = record { are = sym (append-nil es); left = a }

-- the next element's are allowed
pub so_next : {A : Type 0} (f : A → List Event) (xs : List A) (k : ℕ) (d : A) (es now : List Event) → k < length xs → SoFar f xs k es now → AllowedAfter now (f (get_or xs k d))
so_next f xs k d es now h s =
    let e : flat_map f (drop k xs) ≡ f (get_or xs k d) ++ flat_map f (drop (k + 1) xs) = ap (λ l. flat_map f l) (drop_at xs k d h) in
    allowed_first now (f (get_or xs k d)) (flat_map f (drop (k + 1) xs)) (subst (λ (l : List Event). AllowedAfter now l) e s.left)

pub so_more : {A : Type 0} (f : A → List Event) (xs : List A) (k : ℕ) (d : A) (es now next : List Event) → k < length xs → next ≡ now ++ f (get_or xs k d) → SoFar f xs k es now → SoFar f xs (k + 1) es next
so_more f xs k d es now next h e s =
    let x = get_or xs k d in
    let one : flat_map f (x ∷ []) ≡ f x = append-nil (f x) in
    let more : flat_map f (take (k + 1) xs) ≡ flat_map f (take k xs) ++ f x = ap (λ l. flat_map f l) (take_at xs k d h) ∙ flat_map-append f (take k xs) (x ∷ []) ∙ ap (λ (l : List Event). flat_map f (take k xs) ++ l) one in
    let rest : flat_map f (drop k xs) ≡ f x ++ flat_map f (drop (k + 1) xs) = ap (λ l. flat_map f l) (drop_at xs k d h) in
    record {
      are = e ∙ ap (λ (l : List Event). l ++ f x) s.are ∙ append_assoc es (flat_map f (take k xs)) (f x) ∙ ap (λ (l : List Event). es ++ l) (sym more);
      left = subst (λ (l : List Event). AllowedAfter l (flat_map f (drop (k + 1) xs))) (sym e) (allowed_rest now (f x) (flat_map f (drop (k + 1) xs)) (subst (λ (l : List Event). AllowedAfter now l) rest s.left));
    }

-- ---- the answer

take_drop : {A : Type 0} (l : List A) (i : ℕ) → take i l ++ drop i l ≡ l
take_drop [] zero = refl
take_drop [] (suc i) = refl
take_drop (z ∷ l) zero = refl
take_drop (z ∷ l) (suc i) = ap (λ m. z ∷ m) (take_drop l i)

take_within : (u v : List Event) (i : ℕ) → (m : ℕ) × (take i u ≡ take m (u ++ v))
take_within [] v zero = (0, refl)
take_within [] v (suc i) = (0, refl)
take_within (z ∷ u) v zero = (0, refl)
take_within (z ∷ u) v (suc i) = let m = take_within u v i in (suc m.0, ap (λ l. z ∷ l) m.1)

take_all : {A : Type 0} (xs : List A) (k : ℕ) → length xs ≤ k → take k xs ≡ xs
take_all [] zero h = refl
take_all [] (suc k) h = refl
take_all (x ∷ xs) zero h = absurd (omega arith)
take_all (x ∷ xs) (suc k) h = ap (λ l. x ∷ l) (take_all xs k (omega arith))

pub so_all : {A : Type 0} (f : A → List Event) (xs : List A) (k : ℕ) (es now : List Event) → length xs ≤ k → SoFar f xs k es now → Recorded {A = Unit {0}} es now (flat_map f xs) (Ok tt)
so_all f xs k es now h s = record { all = s.are ∙ ap (λ l. es ++ flat_map f l) (take_all xs k h); some = tt; memory = tt }

pub so_short : {A : Type 0} (f : A → List Event) (xs : List A) (k : ℕ) (d : A) (es now next : List Event) (x : FileReconstructionError) → k < length xs → Recorded {A = Unit {0}} now next (f (get_or xs k d)) (Err x) → SoFar f xs k es now
    → Recorded {A = Unit {0}} es next (flat_map f xs) (Err x)
so_short f xs k d es now next x h r s =
    let y = get_or xs k d in
    let j = r.some.0 in
    let a = flat_map f (take k xs) in
    let b = flat_map f (drop (k + 1) xs) in
    let whole : flat_map f xs ≡ a ++ (f y ++ b) = ap (λ l. flat_map f l) (sym (take_drop xs k)) ∙ flat_map-append f (take k xs) (drop k xs) ∙ ap (λ l. a ++ flat_map f l) (drop_at xs k d h) in
    let front = take_within (f y) b j in
    let joined = take_front a (f y ++ b) front.0 in
    record {
      all = tt;
      some = (joined.0, r.some.1 ∙ ap (λ (l : List Event). l ++ take j (f y)) s.are ∙ append_assoc es a (take j (f y)) ∙ ap (λ (l : List Event). es ++ (a ++ l)) front.1 ∙ ap (λ (l : List Event). es ++ l) joined.1 ∙ ap (λ (l : List Event). es ++ take joined.0 l) (sym whole));
      memory = r.memory;
    }

-- the same, by the element that stands there
pub short_at : {A : Type 0} (f : A → List Event) (xs : List A) (k : ℕ) (y : A) (es now next : List Event) (x : FileReconstructionError) → k < length xs → y ≡ get_or xs k y → Recorded {A = Unit {0}} now next (f y) (Err x) → SoFar f xs k es now
    → Recorded {A = Unit {0}} es next (flat_map f xs) (Err x)
short_at {A = A} f xs k y es now next x h at r s =
    so_short f xs k y es now next x h (subst (λ (z : A). Recorded {A = Unit {0}} now next (f z) (Err x)) at r) s
