-- Xorbs that are made one after the other, and chunks that are in one of them at most.
use Rattle.std.proofs.Common.{◌≡◌, ℕ, ◌+◌, ◌≤◌, inl, inr, List, [], ◌∷◌, ◌++◌, sym, ◌∙◌, ap, subst, arith}
use Rattle.std.specs.Prelude.{All}
use Rattle.std.specs.List.{sum_by}
use Rattle.std.proofs.lemmas.List.{append-nil, append_assoc}
use Rattle.std.proofs.lemmas.List.Concat.{flat_map-append}
use Rattle.std.proofs.lemmas.List.Elements.{All-append, All-cons, All-head, All-nil, All-same, All-tail}
use Rattle.std.proofs.lemmas.List.Sums.{sum_by-append, sum_by-cons}
use Rattle.xet_base.specs.declared.mdb_shard.Xorb.{Xorb}
use Rattle.xet_clean_parts.specs.Made.{AreFull, AreInTurn, AreMadeInTurn, AreNoMore, IsMadeOf, IsNextUnfit, IsPickedFrom, joined_chunks}
use Rattle.xet_clean_parts.proofs.Picked.{made-wider, picked-all, picked-behind, picked-both, picked-first, picked-front, picked-trans}

-- ---- what chunks weigh

-- what is picked weighs no more
pub picked-weight : (weight : List ℕ → ℕ) (xs ys : List (List ℕ)) → IsPickedFrom xs ys
    → sum_by weight xs ≤ sum_by weight ys
picked-weight weight xs [] p = let none = ap (λ (ws : List (List ℕ)). sum_by weight ws) p in omega (arith, none)
picked-weight weight xs (y ∷ ys) (inl p) =
    let less = picked-weight weight xs ys p in
    let all = sum_by-cons weight y ys in
    omega (arith, less, all)
picked-weight weight xs (y ∷ ys) (inr p) =
    let less = picked-weight weight p.0 ys p.2 in
    let whole = ap (λ (ws : List (List ℕ)). sum_by weight ws) p.1 in
    let one = sum_by-cons weight y p.0 in
    let all = sum_by-cons weight y ys in
    omega (arith, less, whole, one, all)

-- the chunks of two lists of xorbs, and others behind them
pub joined-both : (xs ys : List Xorb) → joined_chunks (xs ++ ys) ≡ joined_chunks xs ++ joined_chunks ys
joined-both xs ys = flat_map-append (λ (x : Xorb). x.chunks) xs ys

pub joined-weight : (weight : List ℕ → ℕ) (xs ys : List Xorb) → sum_by weight (joined_chunks (xs ++ ys))
    ≡ sum_by weight (joined_chunks xs) + sum_by weight (joined_chunks ys)
joined-weight weight xs ys = ap (λ (cs : List (List ℕ)). sum_by weight cs) (joined-both xs ys)
    ∙ sum_by-append weight (joined_chunks xs) (joined_chunks ys)

pub left-weight : (weight : List ℕ → ℕ) (xs ys : List Xorb) (left : List (List ℕ))
    → sum_by weight (joined_chunks (xs ++ ys) ++ left)
    ≡ (sum_by weight (joined_chunks xs) + sum_by weight (joined_chunks ys)) + sum_by weight left
left-weight weight xs ys left = sum_by-append weight (joined_chunks (xs ++ ys)) left
    ∙ ap (λ (k : ℕ). k + sum_by weight left) (joined-weight weight xs ys)

-- ---- two lists in turn

pub turns-both : (xs ys ms us vs ns : List Xorb) → AreInTurn xs ys ms → AreInTurn us vs ns
    → AreInTurn (xs ++ us) (ys ++ vs) (ms ++ ns)
turns-both xs ys [] us vs ns p q =
    let P : List Xorb → Type 0 = λ zs. AreInTurn (zs ++ us) (ys ++ vs) ns in
    let Q : List Xorb → Type 0 = λ zs. AreInTurn us (zs ++ vs) ns in
    subst P (sym p.0) (subst Q (sym p.1) q)
turns-both xs ys (m ∷ ms) us vs ns (inl p) q =
    inl (p.0 ++ us, ap (λ (zs : List Xorb). zs ++ us) p.1, turns-both p.0 ys ms us vs ns p.2 q)
turns-both xs ys (m ∷ ms) us vs ns (inr p) q =
    inr (p.0 ++ vs, ap (λ (zs : List Xorb). zs ++ vs) p.1, turns-both xs p.0 ms us vs ns p.2 q)

pub turns-weight : (weight : List ℕ → ℕ) (xs ys ms : List Xorb) → AreInTurn xs ys ms
    → sum_by weight (joined_chunks xs) + sum_by weight (joined_chunks ys) ≡ sum_by weight (joined_chunks ms)
turns-weight weight xs ys [] p =
    let one = ap (λ (zs : List Xorb). sum_by weight (joined_chunks zs)) p.0 in
    let two = ap (λ (zs : List Xorb). sum_by weight (joined_chunks zs)) p.1 in
    omega (arith, one, two)
turns-weight weight xs ys (m ∷ ms) (inl p) =
    let rest = turns-weight weight p.0 ys ms p.2 in
    let whole = ap (λ (zs : List Xorb). sum_by weight (joined_chunks zs)) p.1 in
    let one = sum_by-append weight m.chunks (joined_chunks p.0) in
    let all = sum_by-append weight m.chunks (joined_chunks ms) in
    omega (arith, rest, whole, one, all)
turns-weight weight xs ys (m ∷ ms) (inr p) =
    let rest = turns-weight weight xs p.0 ms p.2 in
    let whole = ap (λ (zs : List Xorb). sum_by weight (joined_chunks zs)) p.1 in
    let one = sum_by-append weight m.chunks (joined_chunks p.0) in
    let all = sum_by-append weight m.chunks (joined_chunks ms) in
    omega (arith, rest, whole, one, all)

-- what is so of all is so of both
pub turns-all : (P : Xorb → Type 0) (xs ys ms : List Xorb) → AreInTurn xs ys ms → All P ms → All P xs × All P ys
turns-all P xs ys [] p a = (All-same P xs [] p.0 a, All-same P ys [] p.1 a)
turns-all P xs ys (m ∷ ms) (inl p) a =
    let rest = turns-all P p.0 ys ms p.2 (All-tail P m ms a) in
    (All-same P xs (m ∷ p.0) p.1 (All-cons P m p.0 (All-head P m ms a) rest.0), rest.1)
turns-all P xs ys (m ∷ ms) (inr p) a =
    let rest = turns-all P xs p.0 ms p.2 (All-tail P m ms a) in
    (rest.0, All-same P ys (m ∷ p.0) p.1 (All-cons P m p.0 (All-head P m ms a) rest.1))

-- ---- full xorbs

unfit-more : (own xs more : List (List ℕ)) → IsNextUnfit own xs → IsNextUnfit own (xs ++ more)
unfit-more own [] more u = absurd u
unfit-more own (c ∷ cs) more u = u

full-both : (ms ns : List Xorb) (mid left more : List (List ℕ)) → joined_chunks ns ++ left ≡ mid ++ more
    → AreFull ms mid → AreFull ns left → AreFull (ms ++ ns) left
full-both [] ns mid left more e f g = g
full-both (x ∷ ms) ns mid left more e f g = (
  subst (IsNextUnfit x.chunks) (sym later) (unfit-more x.chunks (joined_chunks ms ++ mid) more f.0),
  full-both ms ns mid left more e f.1 g,
)
  where
    later : joined_chunks (ms ++ ns) ++ left ≡ (joined_chunks ms ++ mid) ++ more
    later = ap (λ (cs : List (List ℕ)). cs ++ left) (joined-both ms ns)
        ∙ append_assoc (joined_chunks ms) (joined_chunks ns) left
        ∙ ap (λ (cs : List (List ℕ)). joined_chunks ms ++ cs) e ∙ sym (append_assoc (joined_chunks ms) mid more)

-- ---- what is made in turn

-- no xorb, and some chunks are left
pub turn-none : (own cut left more : List (List ℕ)) → IsPickedFrom more cut → left ≡ own ++ more
    → AreMadeInTurn own cut left []
turn-none own cut left more p e =
    record { are = All-nil (IsMadeOf (own ++ cut)); more = more; picked = p; joined = e; full = tt }

-- one xorb of all own chunks, since the next chunk doesn't fit
pub turn-one : (own cut more : List (List ℕ)) (x : Xorb) → x.chunks ≡ own → IsMadeOf own x → IsPickedFrom more cut
    → IsNextUnfit own more → AreMadeInTurn own cut more (x ∷ [])
turn-one own cut more x is made p unfit = record {
  are = made-wider own (own ++ cut) (x ∷ []) (picked-front own own cut (picked-all own))
      (All-cons (IsMadeOf own) x [] made (All-nil (IsMadeOf own)));
  more = more;
  picked = p;
  joined = ap (λ (cs : List (List ℕ)). cs ++ more) (append-nil x.chunks ∙ is);
  full = (subst (λ (cs : List (List ℕ)). IsNextUnfit cs more) (sym is) unfit, tt);
}

-- what is left is picked from all
pub turn-left : (own cut left : List (List ℕ)) (made : List Xorb) → AreMadeInTurn own cut left made
    → IsPickedFrom left (own ++ cut)
turn-left own cut left made t =
    picked-trans left (own ++ t.more) (own ++ cut) (subst (IsPickedFrom left) t.joined (picked-behind
    (joined_chunks made) left left (picked-all left))) (picked-both own t.more own cut (picked-all own) t.picked)

-- in two calls
pub turn-then : (own mid left cut cuts : List (List ℕ)) (ms ns : List Xorb) → AreMadeInTurn own cut mid ms
    → AreMadeInTurn mid cuts left ns → AreMadeInTurn own (cut ++ cuts) left (ms ++ ns)
turn-then own mid left cut cuts ms ns one two =
    let all = own ++ (cut ++ cuts) in
    record {
      are = All-append (IsMadeOf all) ms ns (made-wider (own ++ cut) all ms front one.are)
          (made-wider (mid ++ cuts) all ns later two.are);
      more = one.more ++ two.more;
      picked = picked-both one.more two.more cut cuts one.picked two.picked;
      joined = ap (λ (cs : List (List ℕ)). cs ++ left) (joined-both ms ns)
          ∙ append_assoc (joined_chunks ms) (joined_chunks ns) left
          ∙ ap (λ (cs : List (List ℕ)). joined_chunks ms ++ cs) two.joined
          ∙ sym (append_assoc (joined_chunks ms) mid two.more)
          ∙ ap (λ (cs : List (List ℕ)). cs ++ two.more) one.joined ∙ append_assoc own one.more two.more;
      full = full-both ms ns mid left two.more two.joined one.full two.full;
    }
  where
    front : IsPickedFrom (own ++ cut) (own ++ (cut ++ cuts))
    front = picked-both own cut own (cut ++ cuts) (picked-all own) (picked-front cut cut cuts (picked-all cut))

    later : IsPickedFrom (mid ++ cuts) (own ++ (cut ++ cuts))
    later = subst (IsPickedFrom (mid ++ cuts)) (append_assoc own cut cuts)
        (picked-first mid (own ++ cut) cuts (turn-left own cut mid ms one))

-- they and what is left are no more than the chunks
pub turn-weight : (own cut left : List (List ℕ)) (made : List Xorb) → AreMadeInTurn own cut left made
    → AreNoMore (joined_chunks made ++ left) (own ++ cut)
turn-weight own cut left made t weight =
    let same = ap (λ (cs : List (List ℕ)). sum_by weight cs) t.joined in
    let less = picked-weight weight (own ++ t.more) (own ++ cut)
    (picked-both own t.more own cut (picked-all own) t.picked) in
    omega (arith, same, less)
