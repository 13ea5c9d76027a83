-- Findings of one kind, with one element more.
use Rattle.std.proofs.Common.{◌≡◌, ℕ, ◌+◌, ◌<◌, ◌≤◌, Bool, true, false, cond, List, [], ◌∷◌, ◌++◌, length, map, take, get_or, refl, sym, ◌∙◌, ap, arith, append_assoc, append-nil}
use Rattle.std.specs.Prelude.{filter}
use Rattle.std.specs.List.{enumerate_from, flat_map}
use Rattle.std.proofs.lemmas.List.{get_or-map, get_or_default, length-map, length-take-le, map-append, take_all, take_more}
use Rattle.std.proofs.lemmas.List.Concat.{flat_map-append}
use Rattle.std.proofs.lemmas.List.Elements.{filter-append}
use Rattle.xet_findings.specs.declared.finding.Finding.{Finding}
use Rattle.xet_audit.specs.Findings.{each_at, each_part, each_within, finding}

-- ---- lists that grow

-- what was found before, and one part more
pub one_more : {A : Type 0} (start found now before one after : List A) → found ≡ start ++ before → now ≡ found ++ one
    → after ≡ before ++ one → now ≡ start ++ after
one_more {A} start found now before one after was add more =
    add ∙ ap (λ (fs : List A). fs ++ one) was ∙ append_assoc start before one ∙ ap (λ (fs : List A). start ++ fs) (sym more)

-- nothing more
pub none_more : {A : Type 0} (start found : List A) → found ≡ start → found ≡ start ++ []
none_more start found e = e ∙ sym (append-nil start)

-- two parts more
pub two_more : {A : Type 0} (start found now one two : List A) → found ≡ start ++ one → now ≡ found ++ two → now ≡ start ++ (one ++ two)
two_more {A} start found now one two was add = add ∙ ap (λ (fs : List A). fs ++ two) was ∙ append_assoc start one two

-- the elements so far, with the next
pub next : {A : Type 0} (xs : List A) (i : ℕ) (x : A) → i < length xs → x ≡ get_or xs i x → take (i + 1) xs ≡ take i xs ++ x ∷ []
next {A} xs i x h is = take_more xs i x h ∙ ap (λ (y : A). take i xs ++ y ∷ []) (sym is)

-- an element of a mapped list
pub mapped_at : {A B : Type 0} (f : A → B) (xs : List A) (i : ℕ) (x : A) → i < length xs → x ≡ get_or xs i x → f x ≡ get_or (map f xs) i (f x)
mapped_at f xs i x h is = ap f is ∙ sym (get_or-map f xs i x (f x) h)

pub mapped_within : {A B : Type 0} (f : A → B) (xs : List A) (i : ℕ) → i < length xs → i < length (map f xs)
mapped_within f xs i h = omega (arith, length-map xs f)

pub mapped_past : {A B : Type 0} (f : A → B) (xs : List A) (i : ℕ) → length xs ≤ i → length (map f xs) ≤ i
mapped_past f xs i h = omega (arith, length-map xs f)

-- an element read by its place, at any default
pub self_at : {A : Type 0} (xs : List A) (i : ℕ) (d : A) → i < length xs → get_or xs i d ≡ get_or xs i (get_or xs i d)
self_at xs i d h = get_or_default xs i d (get_or xs i d) h

-- what was made of each element, by its place
pub mapped_read : {A B : Type 0} (f : A → B) (xs : List A) (kept : List B) (i : ℕ) (x : A) (b : B) → kept ≡ map f xs → i < length xs → x ≡ get_or xs i x → b ≡ get_or kept i b → b ≡ f x
mapped_read {B = B} f xs kept i x b all h is at = at ∙ ap (λ (bs : List B). get_or bs i b) all ∙ get_or-map f xs i x b h ∙ ap f (sym is)

-- ---- elements with their places

numbered-push : {A : Type 0} (n m : ℕ) (xs : List A) (x : A) → n + length xs ≡ m → enumerate_from n (xs ++ x ∷ []) ≡ enumerate_from n xs ++ (m, x) ∷ []
numbered-push {A} n m [] x e = let same : n ≡ m = omega arith in ap (λ (k : ℕ). let p : ℕ × A = (k, x) in p ∷ []) same
numbered-push {A} n m (y ∷ xs) x e = ap (λ (ps : List (ℕ × A)). (n, y) ∷ ps) (numbered-push (n + 1) m xs x (omega arith))

one_kept : {A B : Type 0} (f : A → B) (b : Bool) (x : A) → map f (cond b (x ∷ []) []) ≡ cond b (f x ∷ []) []
one_kept f true x = refl
one_kept f false x = refl

-- the findings for those that pass, by a place or by two
module _ {A : Type 0} (make : ℕ → Finding) (test : ℕ × A → Bool) where
  abbrev kept : List A → List Finding
  kept xs = map (λ (p : ℕ × A). make p.0) (filter test (enumerate_from 0 xs))

  kept-push : (n : ℕ) (xs : List A) (x : A) → length xs ≡ n → kept (xs ++ x ∷ []) ≡ kept xs ++ cond (test (n, x)) (make n ∷ []) []
  kept-push n xs x e =
      ap (λ (ps : List (ℕ × A)). map (λ (p : ℕ × A). make p.0) (filter test ps)) (numbered-push 0 n xs x (omega arith))
      ∙ ap (map (λ (p : ℕ × A). make p.0)) (filter-append test (enumerate_from 0 xs) ((n, x) ∷ []))
      ∙ map-append (λ (p : ℕ × A). make p.0) (filter test (enumerate_from 0 xs)) (cond (test (n, x)) ((n, x) ∷ []) [])
      ∙ ap (λ (fs : List Finding). kept xs ++ fs) (one_kept (λ (p : ℕ × A). make p.0) (test (n, x)) (n, x))

  kept_more : (xs : List A) (i : ℕ) (x : A) → i < length xs → x ≡ get_or xs i x → kept (take (i + 1) xs) ≡ kept (take i xs) ++ cond (test (i, x)) (make i ∷ []) []
  kept_more xs i x h is = ap kept (next xs i x h is) ∙ kept-push i (take i xs) x (length-take-le i xs (omega arith))

pub at_more : {A : Type 0} (kind : ℕ) (test : ℕ → A → Bool) (xs : List A) (i : ℕ) (x : A) → i < length xs → x ≡ get_or xs i x
    → each_at kind test (take (i + 1) xs) ≡ each_at kind test (take i xs) ++ cond (test i x) (finding kind i 0 ∷ []) []
at_more {A} kind test xs i x h is = kept_more (λ n. finding kind n 0) (λ (p : ℕ × A). test p.0 p.1) xs i x h is

pub part_more : {B : Type 0} (kind : ℕ) (test : B → Bool) (a : ℕ) (ys : List B) (i : ℕ) (y : B) → i < length ys → y ≡ get_or ys i y
    → each_part kind test a (take (i + 1) ys) ≡ each_part kind test a (take i ys) ++ cond (test y) (finding kind a i ∷ []) []
part_more {B} kind test a ys i y h is = kept_more (λ n. finding kind a n) (λ (p : ℕ × B). test p.1) ys i y h is

pub within_more : {A B : Type 0} (kind : ℕ) (parts : A → List B) (test : B → Bool) (xs : List A) (i : ℕ) (x : A) → i < length xs → x ≡ get_or xs i x
    → each_within kind parts test (take (i + 1) xs) ≡ each_within kind parts test (take i xs) ++ each_part kind test i (parts x)
within_more {A} kind parts test xs i x h is =
    let one : ℕ × A → List Finding = λ p. each_part kind test p.0 (parts p.1) in
    let before = take i xs in
    ap (each_within kind parts test) (next xs i x h is)
    ∙ ap (flat_map one) (numbered-push 0 i before x (omega (arith, length-take-le i xs (omega arith))))
    ∙ flat_map-append one (enumerate_from 0 before) ((i, x) ∷ [])
    ∙ ap (λ (fs : List Finding). flat_map one (enumerate_from 0 before) ++ fs) (append-nil (one (i, x)))

-- all of them
pub at_all : {A : Type 0} (kind : ℕ) (test : ℕ → A → Bool) (xs : List A) (i : ℕ) → length xs ≤ i → each_at kind test (take i xs) ≡ each_at kind test xs
at_all kind test xs i past = ap (each_at kind test) (take_all i xs past)

pub part_all : {B : Type 0} (kind : ℕ) (test : B → Bool) (a : ℕ) (ys : List B) (i : ℕ) → length ys ≤ i → each_part kind test a (take i ys) ≡ each_part kind test a ys
part_all kind test a ys i past = ap (each_part kind test a) (take_all i ys past)

pub within_all : {A B : Type 0} (kind : ℕ) (parts : A → List B) (test : B → Bool) (xs : List A) (i : ℕ) → length xs ≤ i
    → each_within kind parts test (take i xs) ≡ each_within kind parts test xs
within_all kind parts test xs i past = ap (each_within kind parts test) (take_all i xs past)

-- found with all of them
pub found_all : {A : Type 0} (start found some all : List A) → found ≡ start ++ some → some ≡ all → found ≡ start ++ all
found_all {A} start found some all e f = e ∙ ap (λ (fs : List A). start ++ fs) f

-- one part more of what was found alone
pub grown : {A : Type 0} (found now before one after : List A) → found ≡ before → now ≡ found ++ one → after ≡ before ++ one → now ≡ after
grown {A} found now before one after was add more = add ∙ ap (λ (fs : List A). fs ++ one) was ∙ sym more

-- what was found in xorbs, in files and in terms
pub all_seven : {A : Type 0} (f0 f1 f2 f3 a b c d e f g : List A) → f1 ≡ f0 ++ (a ++ (b ++ c)) → f2 ≡ f1 ++ d → f3 ≡ f2 ++ (e ++ f ++ g)
    → f3 ≡ f0 ++ (a ++ b ++ c ++ d ++ e ++ f ++ g)
all_seven {A} f0 f1 f2 f3 a b c d e f g h1 h2 h3 =
    let one : f1 ≡ f0 ++ (a ++ b ++ c) = h1 ∙ ap (λ (xs : List A). f0 ++ xs) (sym (append_assoc a b c)) in
    let two = two_more f0 f1 f2 (a ++ b ++ c) d one h2 in
    let last : f3 ≡ f2 ++ e ++ f ++ g = h3 ∙ sym (append_assoc f2 (e ++ f) g) ∙ ap (λ (xs : List A). xs ++ g) (sym (append_assoc f2 e f)) in
    let five = two_more f0 f2 (f2 ++ e) (a ++ b ++ c ++ d) e two refl in
    let six = two_more f0 (f2 ++ e) (f2 ++ e ++ f) (a ++ b ++ c ++ d ++ e) f five refl in
    two_more f0 (f2 ++ e ++ f) f3 (a ++ b ++ c ++ d ++ e ++ f) g six last

-- three lists behind one another
pub three_more : {A : Type 0} (f0 f1 f2 f3 a b c : List A) → f1 ≡ f0 ++ a → f2 ≡ f1 ++ b → f3 ≡ f2 ++ c → f3 ≡ f0 ++ (a ++ b ++ c)
three_more f0 f1 f2 f3 a b c h1 h2 h3 = two_more f0 f2 f3 (a ++ b) c (two_more f0 f1 f2 a b h1 h2) h3

-- ---- elements that are taken one after another

pub taken_more : {A : Type 0} (ys all rest next : List A) (x : A) → ys ++ rest ≡ all → rest ≡ x ∷ next → (ys ++ x ∷ []) ++ next ≡ all
taken_more {A} ys all rest next x taken e = append_assoc ys (x ∷ []) next ∙ ap (λ (r : List A). ys ++ r) (sym e) ∙ taken

pub all_taken : {A : Type 0} (ys all rest : List A) → ys ++ rest ≡ all → length rest ≡ 0 → ys ≡ all
all_taken ys all [] taken e = sym (append-nil ys) ∙ taken
all_taken ys all (x ∷ rest) taken e = absurd (omega arith)

pub mapped_push : {A B C : Type 0} (f : A → C) (g : B → C) (ys : List A) (made now : List B) (x : A) (y : B) → map f ys ≡ map g made → f x ≡ g y → now ≡ made ++ y ∷ []
    → map f (ys ++ x ∷ []) ≡ map g now
mapped_push {C = C} f g ys made now x y left same push =
    map-append f ys (x ∷ []) ∙ ap (λ (cs : List C). cs ++ f x ∷ []) left ∙ ap (λ (c : C). map g made ++ c ∷ []) same
    ∙ sym (ap (map g) push ∙ map-append g made (y ∷ []))
