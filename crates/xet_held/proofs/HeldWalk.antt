-- The walk over a xorb's chunks.
use Rattle.std.proofs.Common.{◌≡◌, ℕ, ◌+◌, ◌<◌, ◌≤◌, max, Bool, true, false, cond, List, [], ◌∷◌, ◌++◌, length, map, get_or, take, refl, sym, ◌∙◌, ap, arith}
use Rattle.std.specs.Prelude.{nat_lt}
use Rattle.std.specs.List.{range_with_len}
use Rattle.std.proofs.lemmas.List.{length-append, length-take-le, take_all, take_more}
use Rattle.std.proofs.lemmas.List.FromFn.{map-range_with_len_more}
use Rattle.xet_held.specs.Held.{greatest, is_reached, new_numbers, passing}
use Rattle.xet_held.proofs.CallerLemmas.{kept, kept-append, length-kept, passed}
use Rattle.xet_held.proofs.Reached.{greatest_more}

-- the chunks that are held among the first ones, and their new numbers
pub record HeldSoFar (ends : List ℕ) (chunks : List (List ℕ)) (i end' : ℕ) (held : List (List ℕ)) (numbers : List ℕ) : Type 0 where
  pub within : i ≤ length chunks
  pub end_is : end' ≡ greatest (take i ends)
  pub held_is : held ≡ kept (is_reached ends) 0 (take i chunks)
  pub numbers_are : numbers ≡ map (λ k. passed (is_reached ends) 0 k) (range_with_len 0 i)
  pub few : length held ≤ i

pub held_none : (ends : List ℕ) (chunks : List (List ℕ)) → HeldSoFar ends chunks 0 0 [] []
held_none ends chunks = record {
  within = omega arith;
  end_is = refl;
  held_is = refl;
  numbers_are = refl;
  few = omega arith;
}

-- the number of the chunk at this place
held_before_here : (p : ℕ → Bool) (chunks : List (List ℕ)) (i : ℕ) → i ≤ length chunks
    → length (kept p 0 (take i chunks)) ≡ passed p 0 i
held_before_here p chunks i h =
    length-kept p 0 (take i chunks) ∙ ap (λ (n : ℕ). passed p 0 n) (length-take-le i chunks h)

pub held_more : (ends : List ℕ) (chunks : List (List ℕ)) (i end' : ℕ) (held : List (List ℕ)) (numbers : List ℕ)
    (c : List ℕ) (e : ℕ)
    → length ends ≡ length chunks → HeldSoFar ends chunks i end' held numbers → i < length chunks
    → c ≡ get_or chunks i c → e ≡ get_or ends i 0
    → HeldSoFar ends chunks (i + 1) (max end' e) (held ++ cond (nat_lt i (max end' e)) (c ∷ []) []) (numbers ++ length held ∷ [])
held_more ends chunks i end' held numbers c e long w here at at_end =
    let p = is_reached ends in
    let reach : max end' e ≡ greatest (take (i + 1) ends) = ap (λ (n : ℕ). max n e) w.end_is ∙ ap (λ (n : ℕ). max
    (greatest (take i ends)) n) at_end ∙ sym (greatest_more ends i (omega (arith, here, long))) in
    let place : 0 + length (take i chunks) ≡ i = omega (arith, length-take-le i chunks (omega (arith, here))) in
    let one : kept p (0 + length (take i chunks)) (c ∷ []) ≡ cond (nat_lt i (max end' e)) (c ∷ []) [] = ap (λ (n : ℕ).
    kept p n (c ∷ [])) place ∙ kept_one i c ∙ ap (λ (n : ℕ). cond (nat_lt i n) (c ∷ []) []) (sym reach) in
    let more : take (i + 1) chunks ≡ take i chunks ++ c ∷ [] = take_more chunks i c here ∙ ap (λ (d : List ℕ).
    take i chunks ++ d ∷ []) (sym at) in
    let number : length held ≡ passed p 0 i = ap length w.held_is ∙ held_before_here p chunks i (omega (arith, here)) in
    let few = w.few in
    let short = at_most_one (nat_lt i (max end' e)) in
    let long_held = length-append held (cond (nat_lt i (max end' e)) (c ∷ []) []) in
    record {
      within = omega (arith, here);
      end_is = reach;
      held_is = ap (λ (h : List (List ℕ)). h ++ cond (nat_lt i (max end' e)) (c ∷ []) []) w.held_is
          ∙ ap (λ (t : List (List ℕ)). kept p 0 (take i chunks) ++ t) (sym one)
          ∙ sym (kept-append p 0 (take i chunks) (c ∷ []))
          ∙ sym (ap (λ (cs : List (List ℕ)). kept p 0 cs) more);
      numbers_are = ap (λ (ns : List ℕ). ns ++ length held ∷ []) w.numbers_are
          ∙ ap (λ (n : ℕ). map (λ k. passed p 0 k) (range_with_len 0 i) ++ n ∷ []) number
          ∙ sym (map-range_with_len_more (λ k. passed p 0 k) 0 i i (omega arith));
      few = omega (arith, few, short, long_held);
    }
  where
    kept_one : (n : ℕ) (c : List ℕ) → kept (is_reached ends) n (c ∷ []) ≡ cond (is_reached ends n) (c ∷ []) []
    kept_one n c = go (is_reached ends n)
      where
        go : (b : Bool) → map (λ (q : ℕ × List ℕ). q.1) (cond b ((n, c) ∷ []) []) ≡ cond b (c ∷ []) []
        go true = refl
        go false = refl

    at_most_one : (b : Bool) → length (cond b (c ∷ []) []) ≤ 1
    at_most_one true = omega arith
    at_most_one false = omega arith

pub held_all : (ends : List ℕ) (chunks : List (List ℕ)) (i end' : ℕ) (held : List (List ℕ)) (numbers : List ℕ)
    → HeldSoFar ends chunks i end' held numbers → length chunks ≤ i
    → (held ≡ passing (is_reached ends) chunks) × (numbers ++ length held ∷ [] ≡ new_numbers (is_reached ends) (length chunks))
held_all ends chunks i end' held numbers w past =
    let p = is_reached ends in
    let within = w.within in
    let same : i ≡ length chunks = omega (arith, within, past) in
    let number : length held ≡ passed p 0 i = ap length w.held_is ∙ held_before_here p chunks i within in (
      w.held_is ∙ ap (λ (cs : List (List ℕ)). kept p 0 cs) (take_all i chunks past),
      ap (λ (ns : List ℕ). ns ++ length held ∷ []) w.numbers_are
          ∙ ap (λ (n : ℕ). map (λ k. passed p 0 k) (range_with_len 0 i) ++ n ∷ []) number
          ∙ sym (map-range_with_len_more (λ k. passed p 0 k) 0 i i (omega arith))
          ∙ ap (λ (n : ℕ). map (λ k. passed p 0 k) (range_with_len 0 (n + 1))) same,
    )
