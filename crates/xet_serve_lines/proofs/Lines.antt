-- The lines of bytes.
use Rattle.std.proofs.Common.{◌≡◌, ℕ, ◌<◌, ◌==◌, Bool, false, cond, List, [], ◌∷◌, ◌++◌, length, refl, ◌∙◌, ap, arith}
use Rattle.std.proofs.lemmas.List.Elements.{All-head, All-tail}
use Rattle.xet_serve_lines.specs.Lines.{HasNoEnd, in_front, lines_of}

-- a byte that is no line end stands in front of the first line
on_first : (x : ℕ) (xs : List ℕ) → (x == 10) ≡ false → lines_of (x ∷ xs) ≡ in_front x (lines_of xs)
on_first x xs h = ap (λ (b : Bool). cond b ([] ∷ lines_of xs) (in_front x (lines_of xs))) h

head_of : (x : ℕ) (xs : List ℕ) → HasNoEnd (x ∷ xs) → (x == 10) ≡ false
head_of x xs h = All-head (λ (b : ℕ). (b == 10) ≡ false) x xs h

tail_of : (x : ℕ) (xs : List ℕ) → HasNoEnd (x ∷ xs) → HasNoEnd xs
tail_of x xs h = All-tail (λ (b : ℕ). (b == 10) ≡ false) x xs h

-- a line and its line end
pub lines_more : (line rest : List ℕ) → HasNoEnd line → lines_of (line ++ 10 ∷ rest) ≡ line ∷ lines_of rest
lines_more [] rest h = refl
lines_more (x ∷ xs) rest h =
    on_first x (xs ++ 10 ∷ rest) (head_of x xs h)
    ∙ ap (λ (ls : List (List ℕ)). in_front x ls) (lines_more xs rest (tail_of x xs h))

-- a line without one
pub lines_last : (line : List ℕ) → HasNoEnd line → 0 < length line → lines_of line ≡ line ∷ []
lines_last [] h some = absurd (omega (arith, some))
lines_last (x ∷ []) h some = on_first x [] (head_of x [] h)
lines_last (x ∷ y ∷ xs) h some =
    on_first x (y ∷ xs) (head_of x (y ∷ xs) h)
    ∙ ap (λ (ls : List (List ℕ)). in_front x ls) (lines_last (y ∷ xs) (tail_of x (y ∷ xs) h) (omega arith))

-- bytes begin with a line that may go on behind them
pub record FirstLine (front rest : List ℕ) : Type 0 where
  pub more : List ℕ
  pub others : List (List ℕ)
  pub is : lines_of (front ++ rest) ≡ (front ++ more) ∷ others

abbrev first_of : List (List ℕ) → List ℕ
first_of [] = []
first_of (l ∷ ls) = l

abbrev others_of : List (List ℕ) → List (List ℕ)
others_of [] = []
others_of (l ∷ ls) = ls

fronted : (x : ℕ) (ls : List (List ℕ)) → in_front x ls ≡ (x ∷ first_of ls) ∷ others_of ls
fronted x [] = refl
fronted x (l ∷ ls) = refl

first_is : (front rest : List ℕ) → HasNoEnd front → 0 < length front
    → lines_of (front ++ rest) ≡ (front ++ first_of (lines_of rest)) ∷ others_of (lines_of rest)
first_is [] rest h some = absurd (omega (arith, some))
first_is (x ∷ []) rest h some = on_first x rest (head_of x [] h) ∙ fronted x (lines_of rest)
first_is (x ∷ y ∷ xs) rest h some =
    on_first x ((y ∷ xs) ++ rest) (head_of x (y ∷ xs) h)
    ∙ ap (λ (ls : List (List ℕ)). in_front x ls) (first_is (y ∷ xs) rest (tail_of x (y ∷ xs) h) (omega arith))

pub line_first : (front rest : List ℕ) → HasNoEnd front → 0 < length front → FirstLine front rest
line_first front rest h some = record {
  more = first_of (lines_of rest);
  others = others_of (lines_of rest);
  is = first_is front rest h some;
}
