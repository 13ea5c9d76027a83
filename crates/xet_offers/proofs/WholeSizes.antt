-- The size that a term tells which has all chunks of its block.
use Rattle.std.proofs.Common.{◌≡◌, ℕ, zero, suc, ◌+◌, ◌^◌, ◌<◌, Bool, true, false, cond, ◌&&◌, ◌||◌, List, [], ◌∷◌, get_or, length, map, eqb, refl, sym, ◌∙◌, ap, arith, Some, None}
use Rattle.std.specs.Prelude.{All, Option, option_map, sum}
use Rattle.std.proofs.lemmas.Bool.{eq-eqb, eqb-true}
use Rattle.std.proofs.lemmas.Bool.Decides.{nat_tests}
use Rattle.std.proofs.lemmas.List.Elements.{All-head}
use Rattle.xet_base.specs.declared.cas_types.ChunkRange.{ChunkRange}
use Rattle.xet_base.specs.Lists.{first_some}
use Rattle.xet_offers.specs.declared.reconstruction_terms.xorb_block.XorbReference.{XorbReference}
use Rattle.xet_offers.specs.Chain.{bridges, chain_sum, first_start, known_size, last_end, leads, sum_at, sum_by_term}
use Rattle.xet_offers.specs.steps.Reached.{size_between}
use Rattle.xet_offers.proofs.ReachedSums.{IsSome_term, known_is, pick, size}

pub first_start_is : (rs : List ChunkRange) (d : ChunkRange) → d.start ≡ (get_or rs 0 d).start → 0 < length rs → d.start ≡ first_start rs
first_start_is [] d e l = absurd (omega arith)
first_start_is (r ∷ rs) d e l = e

-- the sum at the first chunk is 0
start_sum : (rs : List ChunkRange) (ts : List XorbReference) (first n p : ℕ) → 0 < n → first ≡ p → sum_at rs ts first n p ≡ Some 0
start_sum rs ts first zero p l e = absurd (omega arith)
start_sum rs ts first (suc n) p l e = ap (λ b. pick b (Some 0) (first_some (map (sum_by_term rs (sum_at rs ts first n) p) ts))) (eq-eqb first p e)

pub whole_is : (rs : List ChunkRange) (ts : List XorbReference) (n : ℕ) → 0 < length rs → All IsSome_term ts → sum (map size ts) < 2 ^ 64
    → Some n ≡ size_between (first_start rs) (last_end rs) ts → Some n ≡ known_size rs ts
whole_is [] ts n l a m h = absurd (omega arith)
whole_is (r ∷ rs) [] n l a m h = cc
whole_is (r ∷ rs) (t ∷ ts) n l a m h = go (eqb t.term_chunks.start r.start) refl (eqb t.term_chunks.end (last_end (r ∷ rs))) refl h ∙ sym (known_is (r ∷ rs) (t ∷ ts) l m)
  where
    all : List XorbReference
    all = t ∷ ts

    end : ℕ
    end = last_end (r ∷ rs)

    before : ℕ → Option ℕ
    before = sum_at (r ∷ rs) all r.start end

    go : (b : Bool) → eqb t.term_chunks.start r.start ≡ b → (c : Bool) → eqb t.term_chunks.end end ≡ c → Some n ≡ cond (b && c) (Some t.uncompressed_size) None → Some n ≡ chain_sum (r ∷ rs) all
    go true e true f h =
        let from : t.term_chunks.start ≡ r.start = eqb-true t.term_chunks.start r.start e in
        let to : t.term_chunks.end ≡ end = eqb-true t.term_chunks.end end f in
        let some : t.term_chunks.start < t.term_chunks.end = All-head IsSome_term t ts a in
        let rises : r.start < end = omega (arith, from, to, some) in
        let apart : eqb r.start end ≡ false = grind (arith, nat_tests) in
        let led : leads (r ∷ rs) t.term_chunks.end end ≡ true = ap (λ b. b || bridges (r ∷ rs) t.term_chunks.end end) f in
        let at : before t.term_chunks.start ≡ Some 0 = start_sum (r ∷ rs) all r.start end t.term_chunks.start (omega (arith, rises)) (sym from) in
        let zero_more : t.uncompressed_size + 0 ≡ t.uncompressed_size = omega arith in
        let here : sum_by_term (r ∷ rs) before end t ≡ Some t.uncompressed_size =
        ap (λ b. pick b (option_map (λ n. t.uncompressed_size + n) (before t.term_chunks.start)) None) led
        ∙ ap (λ o. option_map (λ n. t.uncompressed_size + n) o) at ∙ ap Some zero_more in
        h ∙ sym (ap (λ b. pick b (Some 0) (first_some (map (sum_by_term (r ∷ rs) before end) all))) apart
        ∙ ap (λ (o : Option ℕ). first_some (o ∷ map (sum_by_term (r ∷ rs) before end) ts)) here)
    go true e false f h = cc
    go false e c f h = cc
