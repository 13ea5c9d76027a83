-- Joined chunks, one more at a time.
use Rattle.std.proofs.Common.{◌≡◌, ℕ, ◌+◌, ◌<◌, List, [], ◌∷◌, ◌++◌, take, ◌∙◌, ap, get_or, length}
use Rattle.std.proofs.lemmas.List.{append-nil, take_more}
use Rattle.std.proofs.lemmas.List.Folds.{concat-append}
use Rattle.std.specs.List.{concat}

pub concat_more : (cs : List (List ℕ)) (i : ℕ) (d : List ℕ) → i < length cs → concat (take (i + 1) cs) ≡ concat (take i cs) ++ get_or cs i d
concat_more cs i d h = ap concat (take_more cs i d h) ∙ concat-append (take i cs) (get_or cs i d ∷ []) ∙ ap (λ (xs : List ℕ). concat (take i cs) ++ xs) (append-nil (get_or cs i d))
