-- The options, word by word.
use Rattle.std.proofs.Common.{◌≡◌, ℕ, ◌+◌, ◌<◌, List, [], ◌∷◌, length, map, get_or, drop, zero, suc, Option, Some, None, sym, ap, ◌∙◌, arith}
use Rattle.std.specs.Prelude.{option_and_then}
use Rattle.std.proofs.lemmas.List.{drop_more}
use Rattle.xet_get_command.specs.declared.options.Options.{Options}
use Rattle.xet_get_command.specs.GetOptions.{options_from, options_of, with_word}

one_more : (ws : List (List ℕ)) (o : Options) (i : ℕ) (w : List ℕ) (next : Option Options) → i < length ws → get_or ws i w ≡ w → with_word o w ≡ next
    → options_from o (drop i ws) ≡ option_and_then (λ n. options_from n (drop (i + 1) ws)) next
one_more ws o i w next within at is =
    ap (options_from o) (drop_more ws i w within) ∙ ap (λ (v : List ℕ). option_and_then (λ n. options_from n (drop (i + 1) ws)) (with_word o v)) at
    ∙ ap (option_and_then (λ n. options_from n (drop (i + 1) ws))) is

pub word_stops : (ws : List (List ℕ)) (o : Options) (i : ℕ) (w : List ℕ) → i < length ws → get_or ws i w ≡ w → options_of ws ≡ options_from o (drop i ws) → with_word o w ≡ None → None ≡ options_of ws
word_stops ws o i w within at so_far is = sym (so_far ∙ one_more ws o i w None within at is)

pub word_more : (ws : List (List ℕ)) (o next : Options) (i : ℕ) (w : List ℕ) → i < length ws → get_or ws i w ≡ w → options_of ws ≡ options_from o (drop i ws) → with_word o w ≡ Some next
    → options_of ws ≡ options_from next (drop (i + 1) ws)
word_more ws o next i w within at so_far is = so_far ∙ one_more ws o i w (Some next) within at is

-- an item of a list that is made of others
pub item_at : {X : Type 0} (f : X → List ℕ) (xs : List X) (i : ℕ) (x : X) (w : List ℕ) → i < length xs → get_or xs i x ≡ x → f x ≡ w → get_or (map f xs) i w ≡ w
item_at f [] i x w within at is = absurd (omega arith)
item_at f (y ∷ xs) zero x w within at is = ap f at ∙ is
item_at f (y ∷ xs) (suc i) x w within at is = item_at f xs i x w (omega arith) at is
