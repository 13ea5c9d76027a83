-- What an aggregator keeps: limits, and own terms that lie within the chunks.
use Rattle.std.proofs.Common.{◌≡◌, ℕ, ◌+◌, ◌<◌, ◌≤◌, ◌^◌, List, [], ◌∷◌, ◌++◌, length, map, take, drop, sym, ◌∙◌, ap, subst, arith}
use Rattle.std.specs.Prelude.{All}
use Rattle.std.specs.List.{concat}
use Rattle.std.proofs.lemmas.List.{map-append, append-nil, drop_all, length-append, length-map, take_all}
use Rattle.std.proofs.lemmas.List.Elements.{All-nil, All-cons, All-append, All-map, All-weaker}
use Rattle.std.proofs.lemmas.List.Folds.{concat-append}
use Rattle.xet_base.specs.declared.mdb_shard.ChunkInfo.{ChunkInfo}
use Rattle.xet_base.specs.Digests.{info_of}
use Rattle.xet_waiting.specs.declared.waiting.TermXorb.{TermXorb}
use Rattle.xet_waiting.specs.declared.waiting.TermXorb.TheVariants.{Own, Stored}
use Rattle.xet_waiting.specs.declared.waiting.WaitingTerm.{WaitingTerm}
use Rattle.xet_waiting.specs.declared.waiting.WaitingFile.{WaitingFile}
use Rattle.xet_waiting.specs.Waitings.{AreCounted, IsCounted, IsKept, IsWithin, LiesIn, file_shifted, shift_by, shifted}

-- ---- own terms

lies-more : (n m : ℕ) (x : TermXorb) (a b : ℕ) → n ≤ m → LiesIn n x a b → LiesIn m x a b
lies-more n m Own a b h k = (k.0, omega (arith, h, k.1))
lies-more n m (Stored x) a b h k = tt

lies-shifted : (n m : ℕ) (x : TermXorb) (a b : ℕ) → n + m < 2 ^ 32 → LiesIn m x a b → LiesIn (n + m) x (shift_by n x a) (shift_by n x b)
lies-shifted n m Own a b h k = let low = k.0 in let high = k.1 in (omega (arith, h, low, high), omega (arith, h, low, high))
lies-shifted n m (Stored x) a b h k = tt

pub counted-more : (n m : ℕ) (ts : List WaitingTerm) → n ≤ m → All (IsCounted n) ts → All (IsCounted m) ts
counted-more n m ts h all = All-weaker (IsCounted n) (IsCounted m) (λ t k. lies-more n m t.xorb t.from t.to h k) ts all

counted-shifted : (n m : ℕ) (ts : List WaitingTerm) → n + m < 2 ^ 32 → All (IsCounted m) ts → All (IsCounted (n + m)) (map (shifted n) ts)
counted-shifted n m ts h all =
    All-map (IsCounted (n + m)) (shifted n) ts (All-weaker (IsCounted m) (λ t. IsCounted (n + m) (shifted n t)) (λ t k. lies-shifted n m t.xorb t.from t.to h k) ts all)

-- ---- files

files-more : (n m : ℕ) (fs : List WaitingFile) → n ≤ m → AreCounted n fs → AreCounted m fs
files-more n m fs h all = All-weaker (λ (f : WaitingFile). All (IsCounted n) f.terms) (λ f. All (IsCounted m) f.terms) (λ f k. counted-more n m f.terms h k) fs all

files-shifted : (n m : ℕ) (fs : List WaitingFile) → n + m < 2 ^ 32 → AreCounted m fs → AreCounted (n + m) (map (file_shifted n) fs)
files-shifted n m fs h all =
    All-map (λ (f : WaitingFile). All (IsCounted (n + m)) f.terms) (file_shifted n) fs
    (All-weaker (λ (f : WaitingFile). All (IsCounted m) f.terms) (λ f. All (IsCounted (n + m)) (file_shifted n f).terms) (λ f k. counted-shifted n m f.terms h k) fs all)

-- ---- what an aggregator keeps

-- one chunk more
pub kept-more : (cs : List (List ℕ)) (infos : List ChunkInfo) (n : ℕ) (fs : List WaitingFile) (c : List ℕ) → IsKept cs infos n fs → IsWithin (cs ++ c ∷ []) → 0 < length c → IsKept (cs ++ c ∷ []) (infos ++ info_of c ∷ []) (n + length c) fs
kept-more cs infos n fs c h w some = record {
  infos_are = ap (λ (xs : List ChunkInfo). xs ++ info_of c ∷ []) h.infos_are ∙ sym (map-append info_of cs (c ∷ []));
  bytes_are =
      let both = ap length (concat-append cs (c ∷ [])) in
      let one = ap length (append-nil c) in
      omega (arith, h.bytes_are, both, one, length-append (concat cs) (concat (c ∷ [])));
  within = w;
  some = All-append (λ (c : List ℕ). 0 < length c) cs (c ∷ []) h.some (All-cons (λ (c : List ℕ). 0 < length c) c [] some (All-nil (λ (c : List ℕ). 0 < length c)));
  counted = files-more (length cs) (length (cs ++ c ∷ [])) fs (omega (arith, length-append cs (c ∷ []))) h.counted;
}

-- two after one another
pub kept-both : (cs ds : List (List ℕ)) (infos more : List ChunkInfo) (n m : ℕ) (fs gs : List WaitingFile) → IsKept cs infos n fs → IsKept ds more m gs → IsWithin (cs ++ ds) → IsKept (cs ++ ds) (infos ++ more) (n + m) (fs ++ map (file_shifted (length cs)) gs)
kept-both cs ds infos more n m fs gs h k w = record {
  infos_are = let a = h.infos_are in let b = k.infos_are in let e = map-append info_of cs ds in cc;
  bytes_are =
      let both = ap length (concat-append cs ds) in
      omega (arith, h.bytes_are, k.bytes_are, both, length-append (concat cs) (concat ds));
  within = w;
  some = All-append (λ (c : List ℕ). 0 < length c) cs ds h.some k.some;
  counted =
      let size = length-append cs ds in
      let few : length cs + length ds < 2 ^ 32 = omega (arith, size, w.0) in
      let P : ℕ → Type 0 = λ z. AreCounted z (fs ++ map (file_shifted (length cs)) gs) in
      subst P (sym size) (All-append (λ (f : WaitingFile). All (IsCounted (length cs + length ds)) f.terms) fs (map (file_shifted (length cs)) gs)
      (files-more (length cs) (length cs + length ds) fs (omega arith) h.counted)
      (files-shifted (length cs) (length ds) gs few k.counted));
}

-- the same, where the number by which terms are moved on is known by an equation alone
pub kept-merged : (cs ds : List (List ℕ)) (infos more : List ChunkInfo) (n m by : ℕ) (fs gs : List WaitingFile) → by ≡ length cs → IsKept cs infos n fs → IsKept ds more m gs → IsWithin (cs ++ ds) → IsKept (cs ++ ds) (infos ++ more) (n + m) (fs ++ map (file_shifted by) gs)
kept-merged cs ds infos more n m by fs gs e h k w =
    let P : ℕ → Type 0 = λ z. IsKept (cs ++ ds) (infos ++ more) (n + m) (fs ++ map (file_shifted z) gs) in
    subst P (sym e) (kept-both cs ds infos more n m fs gs h k w)

-- a slice of a whole list was changed in place, element by element
pub written : {A : Type 0} (f : A → A) (xs ys : List A) (n : ℕ) → xs ≡ ys → n ≡ length ys → take n (map f xs ++ drop (length (map f xs)) ys) ≡ map f ys
written {A} f xs ys n e h =
    let size = length-map ys f in
    let rest : drop (length (map f ys)) ys ≡ [] = drop_all (length (map f ys)) ys (omega (arith, size)) in
    ap (λ (zs : List A). take n (map f zs ++ drop (length (map f zs)) ys)) e
    ∙ ap (λ (zs : List A). take n (map f ys ++ zs)) rest
    ∙ ap (take n) (append-nil (map f ys)) ∙ take_all n (map f ys) (omega (arith, size, h))
