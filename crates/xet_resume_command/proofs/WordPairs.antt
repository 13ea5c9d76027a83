-- The words of ranges, two each.
use Rattle.std.proofs.Common.{◌≡◌, ℕ, ◌+◌, ◌-◌, ◌≤◌, List, [], ◌∷◌, length, map, get_or, take, drop, Option, Some, ap, sym, ◌∙◌, arith}
use Rattle.std.specs.Prelude.{option_and_then}
use Rattle.std.proofs.lemmas.List.{take_all}
use Rattle.xet_base.specs.declared.cas_types.FileRange.{FileRange}
use Rattle.xet_resume_command.specs.declared.wanted.ResumeWanted.{ResumeWanted}
use Rattle.xet_resume_command.specs.Words.{range_of_words, with_range, with_words}

-- the first two words are one range more
pub words_more : {X : Type 0} (bytes : X → List ℕ) (w v : ResumeWanted) (r : FileRange) (rest : List X) (a b : X)
    → 2 ≤ length rest → a ≡ get_or rest 0 a → b ≡ get_or rest 1 b
    → range_of_words (bytes a) (bytes b) ≡ Some r → with_range w r ≡ Some v
    → with_words w (map bytes rest) ≡ with_words v (map bytes (take (length rest - 2) (drop 2 rest)))
words_more bytes w v r [] a b long x y f g = absurd (omega (arith, long))
words_more bytes w v r (c ∷ []) a b long x y f g = absurd (omega (arith, long))
words_more {X} bytes w v r (c ∷ d ∷ more) a b long x y f g =
    ap (λ (p : X). option_and_then (λ u. with_words u (map bytes more))
    (option_and_then (with_range w) (range_of_words (bytes p) (bytes d)))) (sym x)
    ∙ ap (λ (p : X). option_and_then (λ u. with_words u (map bytes more))
    (option_and_then (with_range w) (range_of_words (bytes a) (bytes p)))) (sym y)
    ∙ ap (λ (o : Option FileRange). option_and_then (λ u. with_words u (map bytes more))
    (option_and_then (with_range w) o)) f
    ∙ ap (λ (o : Option ResumeWanted). option_and_then (λ u. with_words u (map bytes more)) o) g
    ∙ ap (λ (l : List X). with_words v (map bytes l)) (sym (take_all (length (c ∷ d ∷ more) - 2) more (omega arith)))
