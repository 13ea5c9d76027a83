-- The bytes of a window are tested, where those before it are all bytes of the terms before it.
use Rattle.std.proofs.Common.{◌≡◌, ℕ, zero, suc, ◌+◌, ◌≤◌, Bool, true, false, List, [], ◌∷◌, ◌++◌, length, take, drop, refl, sym, subst, ◌∙◌, ap, arith, append_assoc, length-append}
use Rattle.std.specs.Prelude.{filter, nat_lt}
use Rattle.std.specs.List.{AllZip, concat, sum_by}
use Rattle.std.proofs.lemmas.Bool.{ltb-false, ltb-true}
use Rattle.std.proofs.lemmas.List.{length-drop, take-append-drop}
use Rattle.std.proofs.lemmas.List.Elements.{filter-append}
use Rattle.std.proofs.lemmas.List.Folds.{concat-append}
use Rattle.std.proofs.lemmas.List.Sums.{sum_by-append}
use Rattle.xet_events.specs.declared.event.Event.{Event}
use Rattle.xet_events.specs.Events.{Task, planned, size}
use Rattle.xet_history.specs.Laws.{IsPrefix}
use Rattle.xet_ties.specs.InCall.{Exchange, Look}
use Rattle.xet_ties.specs.Saids.{IsTaskPiece, IsTested, has_bytes, some_of}
use Rattle.xet_ties.specs.Setup.{Setup}
use Rattle.xet_ties.proofs.Wholes.{none_left, some_sum, tasks_sized}

-- ---- lists

same_front : {A : Type 0} (xs us ys vs : List A) → xs ++ us ≡ ys ++ vs → length xs ≡ length ys → xs ≡ ys
same_front [] us [] vs e n = refl
same_front [] us (y ∷ ys) vs e n = absurd (omega (arith, n))
same_front (x ∷ xs) us [] vs e n = absurd (omega (arith, n))
same_front (x ∷ xs) us (y ∷ ys) vs e n =
    let h : x ≡ y = cc in
    let t : xs ++ us ≡ ys ++ vs = cc in
    ap (λ z. z ∷ xs) h ∙ ap (λ l. y ∷ l) (same_front xs us ys vs t (omega (arith, n)))

zip_take : {A B : Type 0} (P : A → B → Type 0) (k : ℕ) (xs : List A) (ys : List B) → AllZip P xs ys → AllZip P (take k xs) (take k ys)
zip_take P zero [] [] z = tt
zip_take P zero [] (y ∷ ys) z = absurd z
zip_take P zero (x ∷ xs) [] z = absurd z
zip_take P zero (x ∷ xs) (y ∷ ys) z = tt
zip_take P (suc k) [] [] z = tt
zip_take P (suc k) [] (y ∷ ys) z = absurd z
zip_take P (suc k) (x ∷ xs) [] z = absurd z
zip_take P (suc k) (x ∷ xs) (y ∷ ys) z = (z.0, zip_take P k xs ys z.1)

zip_both : {A B : Type 0} (P : A → B → Type 0) (xs : List A) (ys : List B) (us : List A) (vs : List B) → AllZip P xs ys → AllZip P us vs → AllZip P (xs ++ us) (ys ++ vs)
zip_both P [] [] us vs z w = w
zip_both P [] (y ∷ ys) us vs z w = absurd z
zip_both P (x ∷ xs) [] us vs z w = absurd z
zip_both P (x ∷ xs) (y ∷ ys) us vs z w = (z.0, zip_both P xs ys us vs z.1 w)

zip_length : {A B : Type 0} (P : A → B → Type 0) (xs : List A) (ys : List B) → AllZip P xs ys → length xs ≡ length ys
zip_length P [] [] z = refl
zip_length P [] (y ∷ ys) z = absurd z
zip_length P (x ∷ xs) [] z = absurd z
zip_length P (x ∷ xs) (y ∷ ys) z = let r = zip_length P xs ys z.1 in omega (arith, r)

-- the first elements of joined lists, so many as the first list has, and those of the first of three with the second
take_front : {A : Type 0} (xs ys : List A) → take (length xs) (xs ++ ys) ≡ xs
take_front [] [] = refl
take_front [] (y ∷ ys) = refl
take_front (x ∷ xs) ys = ap (λ l. x ∷ l) (take_front xs ys)

take_less : {A : Type 0} (k m : ℕ) (xs : List A) → k ≤ m → take k (take m xs) ≡ take k xs
take_less zero zero xs h = refl
take_less zero (suc m) [] h = refl
take_less zero (suc m) (x ∷ xs) h = refl
take_less (suc k) zero xs h = absurd (omega (arith, h))
take_less (suc k) (suc m) [] h = refl
take_less (suc k) (suc m) (x ∷ xs) h = ap (λ l. x ∷ l) (take_less k m xs (omega (arith, h)))

-- ---- a window

-- what was taken is joined pieces of just the terms before the window
pub record Before (g : Setup) (xs : List Exchange) (looks : List Look) (fs : List Task) (taken : List ℕ) : Type 0 where
  pub pieces : List (List ℕ)
  pub each : AllZip (IsTaskPiece g xs looks) fs pieces
  pub are : taken ≡ concat pieces

before_it : (g : Setup) (xs : List Exchange) (looks : List Look) (es : List Event) (fs ns : List Task) (taken : List ℕ) → ((m : ℕ) → sum_by size (drop m fs) ≡ 0 → drop m fs ≡ []) → some_of es ≡ fs ++ ns → length taken ≡ sum_by size fs → IsTested g xs looks es taken
    → Before g xs looks fs taken
before_it g xs looks es fs ns taken none are sized u = by (nat_lt (length u.pieces) (length fs)) refl
  where
    P : Task → List ℕ → Type 0
    P = IsTaskPiece g xs looks

    each : AllZip P (take (length u.pieces) (fs ++ ns)) u.pieces
    each = subst (λ (l : List Task). AllZip P (take (length u.pieces) l) u.pieces) are u.each

    long : length taken + length u.from.rest ≡ length (concat u.pieces)
    long = sym (length-append taken u.from.rest) ∙ ap length u.from.joined

    first : take (length fs) (fs ++ ns) ≡ fs
    first = take_front fs ns

    by : (v : Bool) → nat_lt (length u.pieces) (length fs) ≡ v → Before g xs looks fs taken
    by true e =
        let less = ltb-true (length u.pieces) (length fs) e in
        let m = length u.pieces in
        let short : take m (fs ++ ns) ≡ take m fs = sym (take_less m (length fs) (fs ++ ns) (omega (arith, less))) ∙ ap (λ l. take m l) first in
        let sums = tasks_sized g xs looks (take m fs) u.pieces (subst (λ (l : List Task). AllZip P l u.pieces) short each) in
        let parts = sym (ap (λ (l : List Task). sum_by size l) (take-append-drop m fs)) ∙ sum_by-append size (take m fs) (drop m fs) in
        let gone : drop m fs ≡ [] = none m (omega (arith, sums, parts, long, sized)) in
        let n = ap (λ (l : List Task). length l) gone in
        let d = length-drop m fs in
        absurd (omega (arith, n, d, less))
    by false e =
        let more = ltb-false (length u.pieces) (length fs) e in
        let m = length u.pieces in
        let k = length fs in
        let zip : AllZip P fs (take k u.pieces) = subst (λ (l : List Task). AllZip P l (take k u.pieces)) (take_less k m (fs ++ ns) more ∙ first) (zip_take P k (take m (fs ++ ns)) u.pieces each) in
        let sums = tasks_sized g xs looks fs (take k u.pieces) zip in
        let parts : concat u.pieces ≡ concat (take k u.pieces) ++ concat (drop k u.pieces) = sym (ap concat (take-append-drop k u.pieces)) ∙ concat-append (take k u.pieces) (drop k u.pieces) in
        record {
          pieces = take k u.pieces;
          each = zip;
          are = same_front taken u.from.rest (concat (take k u.pieces)) (concat (drop k u.pieces)) (u.from.joined ∙ parts) (omega (arith, sums, sized));
        }

-- so with the window's bytes it is tested
pub window_tested : (g : Setup) (xs : List Exchange) (looks : List Look) (es : List Event) (k : ℕ) (ts rest : List Task) (taken : List ℕ) (new : List (List ℕ)) (bytes : List ℕ)
    → length taken ≡ sum_by size (take k (planned es)) → drop k (planned es) ≡ ts ++ rest → AllZip (IsTaskPiece g xs looks) (filter has_bytes ts) new → IsPrefix bytes (concat new) → IsTested g xs looks es taken
    → IsTested g xs looks es (taken ++ bytes)
window_tested g xs looks es k ts rest taken new bytes sized next zip front u =
    let fs : List Task = filter has_bytes (take k (planned es)) in
    let gs : List Task = filter has_bytes ts in
    let hs : List Task = filter has_bytes rest in
    let parts : some_of es ≡ fs ++ (gs ++ hs) =
    sym (ap (λ l. filter has_bytes l) (take-append-drop k (planned es))) ∙ filter-append has_bytes (take k (planned es)) (drop k (planned es))
    ∙ ap (λ l. fs ++ filter has_bytes l) next ∙ ap (λ l. fs ++ l) (filter-append has_bytes ts rest) in
    let some = some_sum (take k (planned es)) in
    let b = before_it g xs looks es fs (gs ++ hs) taken (λ m. none_left m (take k (planned es))) parts (omega (arith, sized, some)) u in
    let both = zip_both (IsTaskPiece g xs looks) fs b.pieces gs new b.each zip in
    let count : length (b.pieces ++ new) ≡ length (fs ++ gs) = sym (zip_length (IsTaskPiece g xs looks) (fs ++ gs) (b.pieces ++ new) both) in
    let taking : take (length (b.pieces ++ new)) (some_of es) ≡ fs ++ gs =
    ap (λ n. take n (some_of es)) count ∙ ap (λ l. take (length (fs ++ gs)) l) (parts ∙ sym (append_assoc fs gs hs)) ∙ take_front (fs ++ gs) hs in
    record {
      pieces = b.pieces ++ new;
      each = subst (λ (l : List Task). AllZip (IsTaskPiece g xs looks) l (b.pieces ++ new)) (sym taking) both;
      from = record {
        rest = front.rest;
        joined = append_assoc taken bytes front.rest ∙ ap (λ l. taken ++ l) front.joined ∙ ap (λ l. l ++ concat new) b.are ∙ sym (concat-append b.pieces new);
      };
    }
