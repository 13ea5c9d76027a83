-- One more answer of a script of limits.
use Rattle.std.proofs.Common.{ℕ, zero, suc, ◌≡◌, min, List, [], ◌∷◌, ◌++◌, length, refl, sym, ap, ◌∙◌, arith, length-append}
use Rattle.std.specs.Prelude.{Option, slice_get, unwrap_or}
use Rattle.xet_events.specs.Limits.{scripted}

-- the answer after n others: the script's number there, or 0
scripted-more : (n : ℕ) (ls : List ℕ) → scripted (suc n) ls ≡ scripted n ls ++ unwrap_or (slice_get ls n) 0 ∷ []
scripted-more zero [] = refl
scripted-more zero (l ∷ ls) = refl
scripted-more (suc n) [] = ap (λ l. 0 ∷ l) (scripted-more n [])
scripted-more (suc n) (l ∷ ls) = ap (λ k. l ∷ k) (scripted-more n ls)

-- past the end of a script all numbers are the same
at_most : (n : ℕ) (ls : List ℕ) → slice_get ls (min n (length ls)) ≡ slice_get ls n
at_most zero [] = refl
at_most (suc n) [] = refl
at_most zero (l ∷ ls) =
    let e : min zero (length (l ∷ ls)) ≡ zero = omega arith in
    ap (λ (k : ℕ). slice_get (l ∷ ls) k) e
at_most (suc n) (l ∷ ls) =
    let e : min (suc n) (length (l ∷ ls)) ≡ suc (min n (length ls)) = omega arith in
    ap (λ (k : ℕ). slice_get (l ∷ ls) k) e ∙ at_most n ls

-- the list with the next answer is a script's again
pub scripted-next : (place limit : ℕ) (ls before after : List ℕ) → before ≡ scripted (length before) ls → place ≡ min (length before) (length ls)
    → limit ≡ unwrap_or (slice_get ls place) 0 → after ≡ before ++ limit ∷ [] → after ≡ scripted (length after) ls
scripted-next place limit ls before after so at next grew =
    let n = length before in
    let here : limit ≡ unwrap_or (slice_get ls n) 0 =
    next ∙ ap (λ (k : ℕ). unwrap_or (slice_get ls k) 0) at ∙ ap (λ (o : Option ℕ). unwrap_or o 0) (at_most n ls) in
    let longer : length after ≡ suc n = omega (arith, ap length grew, length-append before (limit ∷ [])) in
    grew
    ∙ ap (λ l. l ++ limit ∷ []) so
    ∙ ap (λ (k : ℕ). scripted n ls ++ k ∷ []) here
    ∙ sym (scripted-more n ls)
    ∙ ap (λ (k : ℕ). scripted k ls) (sym longer)
