-- Chunks that are picked from others, and xorbs that are made of them.
use Rattle.std.proofs.Common.{◌≡◌, ℕ, ◌≤◌, inl, inr, List, [], ◌∷◌, ◌++◌, length, refl, sym, ◌∙◌, ap, subst, arith}
use Rattle.std.specs.Prelude.{All}
use Rattle.std.specs.List.{concat}
use Rattle.std.proofs.lemmas.List.{append-nil, append_assoc, length-append, map-append}
use Rattle.std.proofs.lemmas.List.Elements.{All-weaker}
use Rattle.std.proofs.lemmas.List.Folds.{concat-append}
use Rattle.xet_base.specs.declared.merklehash.MerkleHash.{MerkleHash}
use Rattle.xet_base.specs.declared.mdb_shard.ChunkInfo.{ChunkInfo}
use Rattle.xet_base.specs.declared.mdb_shard.Xorb.{Xorb}
use Rattle.xet_base.specs.Digests.{info_of, infos_of}
use Rattle.xet_upload.specs.FileDatas.{FoundAdded, OwnAdded, Parts, cut_parts}
use Rattle.xet_upload.specs.Waitings.{IsWithin, Waiting}
use Rattle.xet_clean_parts.specs.Made.{CutInto, IsMadeOf, IsPickedFrom}

-- ---- chunks that are picked

pub picked-none : (ys : List (List ℕ)) → IsPickedFrom [] ys
picked-none [] = refl
picked-none (y ∷ ys) = inl (picked-none ys)

pub picked-all : (ys : List (List ℕ)) → IsPickedFrom ys ys
picked-all [] = refl
picked-all (y ∷ ys) = inr (ys, refl, picked-all ys)

pub picked-same : (xs ys zs : List (List ℕ)) → xs ≡ ys → IsPickedFrom ys zs → IsPickedFrom xs zs
picked-same xs ys zs e p = subst (λ (ws : List (List ℕ)). IsPickedFrom ws zs) (sym e) p

pub picked-both : (xs us ys vs : List (List ℕ)) → IsPickedFrom xs ys → IsPickedFrom us vs
    → IsPickedFrom (xs ++ us) (ys ++ vs)
picked-both xs us [] vs p q = picked-same (xs ++ us) us vs (ap (λ (ws : List (List ℕ)). ws ++ us) p) q
picked-both xs us (y ∷ ys) vs (inl p) q = inl (picked-both xs us ys vs p q)
picked-both xs us (y ∷ ys) vs (inr p) q =
    inr (p.0 ++ us, ap (λ (ws : List (List ℕ)). ws ++ us) p.1, picked-both p.0 us ys vs p.2 q)

pub picked-trans : (xs ys zs : List (List ℕ)) → IsPickedFrom xs ys → IsPickedFrom ys zs → IsPickedFrom xs zs
picked-trans xs ys [] p q = subst (λ (ws : List (List ℕ)). IsPickedFrom xs ws) q p
picked-trans xs ys (z ∷ zs) p (inl q) = inl (picked-trans xs ys zs p q)
picked-trans xs ys (z ∷ zs) p (inr q) =
    go (subst (λ (ws : List (List ℕ)). IsPickedFrom xs ws) q.1 p) (λ us r. picked-trans us q.0 zs r q.2)
  where
    go : IsPickedFrom xs (z ∷ q.0) → ((us : List (List ℕ)) → IsPickedFrom us q.0 → IsPickedFrom us zs)
        → IsPickedFrom xs (z ∷ zs)
    go (inl r) later = inl (later xs r)
    go (inr r) later = inr (r.0, r.1, later r.0 r.2)

-- more stands behind, or before
pub picked-front : (xs ys more : List (List ℕ)) → IsPickedFrom xs ys → IsPickedFrom xs (ys ++ more)
picked-front xs ys more p =
    picked-same xs (xs ++ []) (ys ++ more) (sym (append-nil xs)) (picked-both xs [] ys more p (picked-none more))

pub picked-behind : (front xs ys : List (List ℕ)) → IsPickedFrom xs ys → IsPickedFrom xs (front ++ ys)
picked-behind front xs ys p = picked-both [] xs front ys (picked-none front) p

-- the first of two parts, picked from others
pub picked-first : (xs ys more : List (List ℕ)) → IsPickedFrom xs ys → IsPickedFrom (xs ++ more) (ys ++ more)
picked-first xs ys more p = picked-both xs more ys more p (picked-all more)

-- first from some with a few more, and these from others with a few more
pub picked-later : (xs ys zs cut cuts : List (List ℕ)) → IsPickedFrom xs (ys ++ cuts) → IsPickedFrom ys (zs ++ cut)
    → IsPickedFrom xs (zs ++ (cut ++ cuts))
picked-later xs ys zs cut cuts p q =
    let P : List (List ℕ) → Type 0 = λ ws. IsPickedFrom xs ws in
    subst P (append_assoc zs cut cuts) (picked-trans xs (ys ++ cuts) ((zs ++ cut) ++ cuts) p
    (picked-first ys (zs ++ cut) cuts q))

-- ---- what is picked is no more

pub picked-count : (xs ys : List (List ℕ)) → IsPickedFrom xs ys → length xs ≤ length ys
picked-count xs [] p = let none = ap (λ (ws : List (List ℕ)). length ws) p in omega (arith, none)
picked-count xs (y ∷ ys) (inl p) = let less = picked-count xs ys p in omega (arith, less)
picked-count xs (y ∷ ys) (inr p) =
    let less = picked-count p.0 ys p.2 in
    let whole = ap (λ (ws : List (List ℕ)). length ws) p.1 in
    omega (arith, less, whole)

pub picked-bytes : (xs ys : List (List ℕ)) → IsPickedFrom xs ys → length (concat xs) ≤ length (concat ys)
picked-bytes xs [] p = let none = ap (λ (ws : List (List ℕ)). length (concat ws)) p in omega (arith, none)
picked-bytes xs (y ∷ ys) (inl p) =
    let less = picked-bytes xs ys p in
    let all = length-append y (concat ys) in
    omega (arith, less, all)
picked-bytes xs (y ∷ ys) (inr p) =
    let less = picked-bytes p.0 ys p.2 in
    let whole = ap (λ (ws : List (List ℕ)). length (concat ws)) p.1 in
    let one = length-append y (concat p.0) in
    let all = length-append y (concat ys) in
    omega (arith, less, whole, one, all)

-- so it is within the limits of a xorb
pub picked-within : (xs ys : List (List ℕ)) → IsPickedFrom xs ys → IsWithin ys → IsWithin xs
picked-within xs ys p w =
    let count = picked-count xs ys p in
    let bytes = picked-bytes xs ys p in
    let most = w.0 in
    let room = w.1 in
    (omega (arith, count, most), omega (arith, bytes, room))

-- ---- xorbs that are made

pub made-wider : (cs ds : List (List ℕ)) (made : List Xorb) → IsPickedFrom cs ds → All (IsMadeOf cs) made
    → All (IsMadeOf ds) made
made-wider cs ds made p a = All-weaker (IsMadeOf cs) (IsMadeOf ds) one made a
  where
    one : (x : Xorb) → IsMadeOf cs x → IsMadeOf ds x
    one x m = record {
      honest = m.honest;
      picked = picked-trans x.chunks cs ds m.picked p;
      some = m.some;
      storable = m.storable;
    }

-- ---- chunks that are cut

infos-more : (is js ks : List ChunkInfo) (cut cuts : List (List ℕ)) → js ≡ is ++ infos_of cut
    → ks ≡ js ++ infos_of cuts → ks ≡ is ++ infos_of (cut ++ cuts)
infos-more is js ks cut cuts e f =
    f ∙ ap (λ (l : List ChunkInfo). l ++ infos_of cuts) e ∙ append_assoc is (infos_of cut) (infos_of cuts)
    ∙ ap (λ (l : List ChunkInfo). is ++ l) (sym (map-append info_of cut cuts))

pub into-both : (p q r : Parts) (cut cuts : List (List ℕ)) → CutInto p q cut → CutInto q r cuts
    → CutInto p r (cut ++ cuts)
into-both p q r cut cuts one two = record {
  own = picked-later r.own.chunks q.own.chunks p.own.chunks cut cuts two.own one.own;
  infos = infos-more p.infos q.infos r.infos cut cuts one.infos two.infos;
}

-- nothing was cut
pub into-none : (p q : Parts) → q.own.chunks ≡ p.own.chunks → q.infos ≡ p.infos → CutInto p q []
into-none p q e f = record {
  own = picked-same q.own.chunks p.own.chunks (p.own.chunks ++ []) e
      (picked-front p.own.chunks p.own.chunks [] (picked-all p.own.chunks));
  infos = f ∙ sym (append-nil p.infos);
}

-- the chunks that wait became a xorb
pub into-cut : (p : Parts) → CutInto p (cut_parts p) []
into-cut p = record { own = picked-none (p.own.chunks ++ []); infos = sym (append-nil p.infos) }

-- one chunk more, that waits or was found
pub into-own : (p q r : Parts) (c : List ℕ) → CutInto p q [] → OwnAdded q c r → CutInto p r (c ∷ [])
into-own p q r c i added =
    let one : CutInto q r (c ∷ []) = record {
      own = picked-same r.own.chunks (q.own.chunks ++ c ∷ []) (q.own.chunks ++ c ∷ [])
          (ap (λ (w : Waiting). w.chunks) added.own) (picked-all (q.own.chunks ++ c ∷ []));
      infos = added.infos;
    } in
    into-both p q r [] (c ∷ []) i one

pub into-found : (p q : Parts) (x : MerkleHash) (i : ℕ) (c : List ℕ) → FoundAdded p x i (info_of c) q
    → CutInto p q (c ∷ [])
into-found p q x i c added = record {
  own = picked-same q.own.chunks p.own.chunks (p.own.chunks ++ c ∷ []) (ap (λ (w : Waiting). w.chunks) added.own)
      (picked-front p.own.chunks p.own.chunks (c ∷ []) (picked-all p.own.chunks));
  infos = added.infos;
}

pub into-same : (p q r : Parts) (cut : List (List ℕ)) → p ≡ q → CutInto p r cut → CutInto q r cut
into-same p q r cut e i = subst (λ (z : Parts). CutInto z r cut) e i

-- bytes that were cut in two calls
pub bytes-later : (bs xs : List ℕ) (rest : List ℕ) (cut cuts : List (List ℕ)) → bs ≡ concat cut ++ xs
    → xs ≡ concat cuts ++ rest → bs ≡ concat (cut ++ cuts) ++ rest
bytes-later bs xs rest cut cuts e f =
    e ∙ ap (λ (ys : List ℕ). concat cut ++ ys) f ∙ sym (append_assoc (concat cut) (concat cuts) rest)
    ∙ ap (λ (ys : List ℕ). ys ++ rest) (sym (concat-append cut cuts))
