-- Terms tell a size exactly where a chain of them exists.
use Rattle.std.proofs.Common.{◌≡◌, ℕ, zero, suc, ◌+◌, Bool, true, false, List, [], ◌∷◌, ◌++◌, map, eqb, refl, sym, ◌∙◌, ap, subst, arith, Some, None}
use Rattle.std.specs.Prelude.{All, Contains, IsSome, Option, option_map}
use Rattle.std.proofs.lemmas.Bool.{eqb-true, eq-eqb}
use Rattle.std.proofs.lemmas.List.Elements.{All-append, All-cons, All-head, All-nil, All-tail}
use Rattle.xet_base.specs.declared.cas_types.ChunkRange.{ChunkRange}
use Rattle.xet_base.specs.Lists.{first_some}
use Rattle.xet_offers.specs.declared.reconstruction_terms.xorb_block.XorbReference.{XorbReference}
use Rattle.xet_offers.specs.Chain.{HasChain, Links, chain_sum, last_end, leads, sum_at, sum_by_term}
use Rattle.xet_blocks.specs.Laws.{ChainsExist}
use Rattle.xet_offers.proofs.CallerLemmas.{IsSome_term, final, final_is, pick, size}

links-append : (rs : List ChunkRange) (p q e : ℕ) (ts : List XorbReference) (t : XorbReference) → Links rs p ts q → t.term_chunks.start ≡ q → leads rs t.term_chunks.end e ≡ true → Links rs p (ts ++ t ∷ []) e
links-append rs p q e [] t l s h = (s ∙ sym l, e, h, refl)
links-append rs p q e (u ∷ us) t l s h = (l.0, l.1, l.2, links-append rs l.1 q e us t l.3 s h)

-- a sum that is found is that of a term whose start has one
record IsFoundBy (rs : List ChunkRange) (before : ℕ → Option ℕ) (p : ℕ) (ts : List XorbReference) : Type 0 where
  term : XorbReference
  among : Contains ts term
  leading : leads rs term.term_chunks.end p ≡ true
  sum : ℕ
  told : before term.term_chunks.start ≡ Some sum

found_by : (rs : List ChunkRange) (before : ℕ → Option ℕ) (p n : ℕ) (ts : List XorbReference) → first_some (map (sum_by_term rs before p) ts) ≡ Some n → IsFoundBy rs before p ts
found_by rs before p n [] h = cc
found_by rs before p n (t ∷ ts) h = go (leads rs t.term_chunks.end p) refl (before t.term_chunks.start) refl h (λ k. found_by rs before p n ts k)
  where
    later : IsFoundBy rs before p ts → IsFoundBy rs before p (t ∷ ts)
    later f = record { term = f.term; among = (suc f.among.0, omega (arith, f.among.1), f.among.2); leading = f.leading; sum = f.sum; told = f.told }

    go : (b : Bool) → leads rs t.term_chunks.end p ≡ b → (o : Option ℕ) → before t.term_chunks.start ≡ o
        → first_some (pick b (option_map (λ n. size t + n) (before t.term_chunks.start)) None ∷ map (sum_by_term rs before p) ts) ≡ Some n
        → (first_some (map (sum_by_term rs before p) ts) ≡ Some n → IsFoundBy rs before p ts) → IsFoundBy rs before p (t ∷ ts)
    go false e o f k next = later (next k)
    go true e None f k next =
        let none : first_some (None ∷ map (sum_by_term rs before p) ts) ≡ Some n = sym (ap (λ o. first_some (option_map (λ n. size t + n) o ∷ map (sum_by_term rs before p) ts)) f) ∙ k in
        later (next none)
    go true e (Some m) f k next = record { term = t; among = (0, omega arith, refl); leading = e; sum = m; told = f }

module _ (rs : List ChunkRange) (all : List XorbReference) (first : ℕ) where
  pub record Leads (p : ℕ) : Type 0 where
    pub chain : List XorbReference
    pub among : All (λ t. Contains all t) chain
    pub links : Links rs first chain p

  -- a chain leads to a place that has a sum
  chain_to : (n p m : ℕ) → sum_at rs all first n p ≡ Some m → Leads p
  chain_to zero p m h = cc
  chain_to (suc n) p m h = go (eqb first p) refl h (λ q k e. chain_to n q k e)
    where
      go : (b : Bool) → eqb first p ≡ b → pick b (Some 0) (first_some (map (sum_by_term rs (sum_at rs all first n) p) all)) ≡ Some m
          → ((q k : ℕ) → sum_at rs all first n q ≡ Some k → Leads q) → Leads p
      go true e k next = record { chain = []; among = All-nil (λ t. Contains all t); links = eqb-true first p e }
      go false e k next =
          let f = found_by rs (sum_at rs all first n) p m all k in
          let before = next f.term.term_chunks.start f.sum f.told in
          record {
            chain = before.chain ++ f.term ∷ [];
            among = All-append (λ t. Contains all t) before.chain (f.term ∷ []) before.among (All-cons (λ t. Contains all t) f.term [] f.among (All-nil (λ t. Contains all t)));
            links = links-append rs first f.term.term_chunks.start p before.chain f.term before.links refl f.leading;
          }

  -- where a term's start has a sum, so has each place to which it leads
  sum_from : (p : ℕ) (t : XorbReference) (ts : List XorbReference) → Contains ts t → leads rs t.term_chunks.end p ≡ true → IsSome (final rs all first t.term_chunks.start) → IsSome (first_some (map (sum_by_term rs (final rs all first) p) ts))
  sum_from p t [] c l s = absurd (omega (arith, c.1))
  sum_from p t (u ∷ us) (zero, m, c) l s =
      let same : u ≡ t = c in
      here (final rs all first t.term_chunks.start) refl s (ap (λ (v : XorbReference). sum_by_term rs (final rs all first) p v) same ∙ ap (λ b. pick b (option_map (λ n. size t + n) (final rs all first t.term_chunks.start)) None) l)
    where
      here : (o : Option ℕ) → final rs all first t.term_chunks.start ≡ o → IsSome o → sum_by_term rs (final rs all first) p u ≡ option_map (λ n. size t + n) (final rs all first t.term_chunks.start)
          → IsSome (first_some (map (sum_by_term rs (final rs all first) p) (u ∷ us)))
      here None e h k = cc
      here (Some n) e h k =
          let is : sum_by_term rs (final rs all first) p u ≡ Some (size t + n) = k ∙ ap (λ o. option_map (λ n. size t + n) o) e in
          subst (λ (o : Option ℕ). IsSome (first_some (o ∷ map (sum_by_term rs (final rs all first) p) us))) (sym is) refl
  sum_from p t (u ∷ us) (suc k, m, c) l s = more (sum_by_term rs (final rs all first) p u) (sum_from p t us (k, omega (arith, m), c) l s)
    where
      more : (o : Option ℕ) → IsSome (first_some (map (sum_by_term rs (final rs all first) p) us)) → IsSome (first_some (o ∷ map (sum_by_term rs (final rs all first) p) us))
      more None h = h
      more (Some n) h = refl

  final_from : All IsSome_term all → (p : ℕ) (t : XorbReference) → Contains all t → leads rs t.term_chunks.end p ≡ true → IsSome (final rs all first t.term_chunks.start) → IsSome (final rs all first p)
  final_from some p t c l s = subst IsSome (sym (final_is rs all first some p)) (go (eqb first p) (sum_from p t all c l s))
    where
      go : (b : Bool) → IsSome (first_some (map (sum_by_term rs (final rs all first) p) all)) → IsSome (pick b (Some 0) (first_some (map (sum_by_term rs (final rs all first) p) all)))
      go true h = refl
      go false h = h

  sum_along : All IsSome_term all → (q e : ℕ) (ts : List XorbReference) → All (λ t. Contains all t) ts → Links rs q ts e → IsSome (final rs all first q) → IsSome (final rs all first e)
  sum_along some q e [] among l s = subst (λ (p : ℕ). IsSome (final rs all first p)) l s
  sum_along some q e (t ∷ ts) among l s =
      sum_along some l.1 e ts (All-tail (λ t. Contains all t) t ts among) l.3
      (final_from some l.1 t (All-head (λ t. Contains all t) t ts among) l.2 (subst (λ (p : ℕ). IsSome (final rs all first p)) (sym l.0) s))

  first_has : IsSome (final rs all first first)
  first_has = subst (λ (b : Bool). IsSome (pick b (Some 0) (first_some (map (sum_by_term rs (sum_at rs all first first) first) all)))) (sym (eq-eqb first first refl)) refl

pub chains_exist : ChainsExist
chains_exist r rs all some = (λ h. to (chain_sum (r ∷ rs) all) refl h, λ c. sum_along (r ∷ rs) all r.start some r.start (last_end (r ∷ rs)) c.chain c.among c.links (first_has (r ∷ rs) all r.start))
  where
    to : (o : Option ℕ) → chain_sum (r ∷ rs) all ≡ o → IsSome o → HasChain (r ∷ rs) all
    to None e h = cc
    to (Some n) e h = let f = chain_to (r ∷ rs) all r.start (suc (last_end (r ∷ rs))) (last_end (r ∷ rs)) n e in record { chain = f.chain; among = f.among; links = f.links }
