-- Numbers of eight bytes compare as their bytes do.
use Rattle.std.proofs.Common.{◌≡◌, ℕ, zero, suc, ◌+◌, ◌*◌, ◌<◌, ◌≤◌, true, false, List, [], ◌∷◌, length, take, drop, refl, sym, ◌∙◌, ap, arith, All}
use Rattle.std.specs.declared.cmp.Ordering.{Ordering}
use Rattle.std.specs.declared.cmp.Ordering.TheVariants.{Less, Equal, Greater}
use Rattle.std.specs.Ordering.{is_ne, nat_cmp, ordering_then}
use Rattle.std.specs.Cmp.Lexicographic.{slice_cmp}
use Rattle.std.proofs.lemmas.Bool.{false≢true, true≢false}
use Rattle.std.proofs.lemmas.Bool.Decides.{nat_tests}
use Rattle.std.proofs.lemmas.List.{drop-drop, drop_all, length-drop, length-take}
use Rattle.std.proofs.lemmas.List.Elements.{All-head, All-tail}
use Rattle.xet_base.specs.Words.{number_of}

then_assoc : (a b c : Ordering) → ordering_then (ordering_then a b) c ≡ ordering_then a (ordering_then b c)
then_assoc Less b c = refl
then_assoc Equal b c = refl
then_assoc Greater b c = refl

then_equal : (a : Ordering) → ordering_then a Equal ≡ a
then_equal Less = refl
then_equal Equal = refl
then_equal Greater = refl

-- one digit more on each side
digit : (m n x y : ℕ) → x < 256 → y < 256 → nat_cmp (m * 256 + x) (n * 256 + y) ≡ ordering_then (nat_cmp m n) (nat_cmp x y)
digit m n x y p q = grind (arith, nat_tests)

-- numbers compare as the bytes that write them, where there are as many
pub numbers_cmp : (m n : ℕ) (xs ys : List ℕ) → length xs ≡ length ys → All (λ b. b < 256) xs → All (λ b. b < 256) ys → nat_cmp (number_of m xs) (number_of n ys) ≡ ordering_then (nat_cmp m n) (slice_cmp nat_cmp xs ys)
numbers_cmp m n [] [] e p q = sym (then_equal (nat_cmp m n))
numbers_cmp m n [] (y ∷ ys) e p q = cc
numbers_cmp m n (x ∷ xs) [] e p q = cc
numbers_cmp m n (x ∷ xs) (y ∷ ys) e p q =
    let tails : length xs ≡ length ys = omega (arith, e) in
    numbers_cmp (m * 256 + x) (n * 256 + y) xs ys tails (All-tail (λ b. b < 256) x xs p) (All-tail (λ b. b < 256) y ys q)
    ∙ ap (λ o. ordering_then o (slice_cmp nat_cmp xs ys)) (digit m n x y (All-head (λ b. b < 256) x xs p) (All-head (λ b. b < 256) y ys q))
    ∙ then_assoc (nat_cmp m n) (nat_cmp x y) (slice_cmp nat_cmp xs ys)

-- lists that are long enough compare by their first elements, and then by the rest
pub split : (k : ℕ) (xs ys : List ℕ) → k ≤ length xs → k ≤ length ys
    → slice_cmp nat_cmp xs ys ≡ ordering_then (slice_cmp nat_cmp (take k xs) (take k ys)) (slice_cmp nat_cmp (drop k xs) (drop k ys))
split zero xs ys p q = refl
split (suc k) [] ys p q = absurd (omega (arith, p))
split (suc k) (x ∷ xs) [] p q = absurd (omega (arith, q))
split (suc k) (x ∷ xs) (y ∷ ys) p q =
    ap (λ o. ordering_then (nat_cmp x y) o) (split k xs ys (omega (arith, p)) (omega (arith, q)))
    ∙ sym (then_assoc (nat_cmp x y) (slice_cmp nat_cmp (take k xs) (take k ys)) (slice_cmp nat_cmp (drop k xs) (drop k ys)))

-- how the eight bytes from a place on compare
abbrev pub word_cmp : List ℕ → List ℕ → ℕ → Ordering
word_cmp xs ys i = slice_cmp nat_cmp (take 8 (drop i xs)) (take 8 (drop i ys))

next : (xs ys : List ℕ) (i j : ℕ) → length xs ≡ 32 → length ys ≡ 32 → i + 8 ≡ j → j ≤ 32 → slice_cmp nat_cmp (drop i xs) (drop i ys) ≡ ordering_then (word_cmp xs ys i) (slice_cmp nat_cmp (drop j xs) (drop j ys))
next xs ys i j p q h w =
    let long : 8 ≤ length (drop i xs) = omega (arith, length-drop i xs, p, h, w) in
    let alike : 8 ≤ length (drop i ys) = omega (arith, length-drop i ys, q, h, w) in
    let left = drop-drop 8 i xs in
    let right = drop-drop 8 i ys in
    split 8 (drop i xs) (drop i ys) long alike ∙ rw (left, right, h) refl

-- lists of 32 bytes compare by their four words
words_cmp : (xs ys : List ℕ) → length xs ≡ 32 → length ys ≡ 32
    → slice_cmp nat_cmp xs ys ≡ ordering_then (word_cmp xs ys 0) (ordering_then (word_cmp xs ys 8) (ordering_then (word_cmp xs ys 16) (word_cmp xs ys 24)))
words_cmp xs ys p q =
    let end : slice_cmp nat_cmp (drop 32 xs) (drop 32 ys) ≡ Equal = rw (drop_all 32 xs (omega (arith, p)), drop_all 32 ys (omega (arith, q))) refl in
    next xs ys 0 8 p q refl (omega (arith))
    ∙ ap (λ o. ordering_then (word_cmp xs ys 0) o) (next xs ys 8 16 p q refl (omega (arith))
    ∙ ap (λ o. ordering_then (word_cmp xs ys 8) o) (next xs ys 16 24 p q refl (omega (arith))
    ∙ ap (λ o. ordering_then (word_cmp xs ys 16) o) (next xs ys 24 32 p q refl (omega (arith)) ∙ ap (λ o. ordering_then (word_cmp xs ys 24) o) end ∙ then_equal (word_cmp xs ys 24))))

equal : (o : Ordering) → is_ne o ≡ false → o ≡ Equal
equal Less h = absurd (true≢false h)
equal Equal h = refl
equal Greater h = absurd (true≢false h)

-- what is decided stays so
pub settled : (o p : Ordering) → is_ne o ≡ true → ordering_then o p ≡ o
settled Less p h = refl
settled Equal p h = absurd (false≢true h)
settled Greater p h = refl

-- words before are equal, and this one is not
pub by_second : (xs ys : List ℕ) → length xs ≡ 32 → length ys ≡ 32 → is_ne (word_cmp xs ys 0) ≡ false → is_ne (word_cmp xs ys 8) ≡ true → word_cmp xs ys 8 ≡ slice_cmp nat_cmp xs ys
by_second xs ys p q a b = sym (rw (words_cmp xs ys p q, equal (word_cmp xs ys 0) a) (settled (word_cmp xs ys 8) _ b))

pub by_third : (xs ys : List ℕ) → length xs ≡ 32 → length ys ≡ 32 → is_ne (word_cmp xs ys 0) ≡ false → is_ne (word_cmp xs ys 8) ≡ false → is_ne (word_cmp xs ys 16) ≡ true → word_cmp xs ys 16 ≡ slice_cmp nat_cmp xs ys
by_third xs ys p q a b c = sym (rw (words_cmp xs ys p q, equal (word_cmp xs ys 0) a, equal (word_cmp xs ys 8) b) (settled (word_cmp xs ys 16) _ c))

pub by_last : (xs ys : List ℕ) → length xs ≡ 32 → length ys ≡ 32 → is_ne (word_cmp xs ys 0) ≡ false → is_ne (word_cmp xs ys 8) ≡ false → is_ne (word_cmp xs ys 16) ≡ false → word_cmp xs ys 24 ≡ slice_cmp nat_cmp xs ys
by_last xs ys p q a b c = sym (rw (words_cmp xs ys p q, equal (word_cmp xs ys 0) a, equal (word_cmp xs ys 8) b, equal (word_cmp xs ys 16) c) refl)

-- the eight bytes from a place on compare as their numbers do
pub word_cmp-numbers : (xs ys : List ℕ) (i : ℕ) → length xs ≡ 32 → length ys ≡ 32 → All (λ b. b < 256) (take 8 (drop i xs)) → All (λ b. b < 256) (take 8 (drop i ys))
    → nat_cmp (number_of 0 (take 8 (drop i xs))) (number_of 0 (take 8 (drop i ys))) ≡ word_cmp xs ys i
word_cmp-numbers xs ys i p q a b =
    let alike : length (take 8 (drop i xs)) ≡ length (take 8 (drop i ys)) = omega (arith, length-take 8 (drop i xs), length-take 8 (drop i ys), length-drop i xs, length-drop i ys, p, q) in
    numbers_cmp 0 0 (take 8 (drop i xs)) (take 8 (drop i ys)) alike a b
