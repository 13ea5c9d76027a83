-- Terms that were named stay as they are where a xorb is named.
use Rattle.std.proofs.Common.{◌≡◌, ℕ, ◌-◌, ◌≤◌, List, [], ◌∷◌, ◌++◌, length, map, take, drop, refl, sym, ◌∙◌, ap, arith}
use Rattle.std.specs.Prelude.{Some, None}
use borrow.Rule.Slice.PartMut.{put_mid}
use Rattle.std.proofs.lemmas.List.{append-nil, drop_all, length-drop, length-map, map-append, take-append-drop, take_all}
use Rattle.xet_base.specs.declared.merklehash.MerkleHash.{MerkleHash}
use Rattle.xet_waiting.specs.declared.waiting.WaitingTerm.{WaitingTerm}
use Rattle.xet_upload.specs.FileDatas.{renamed}

pub renamed-twice : (g h : MerkleHash) (ts : List WaitingTerm) → map (renamed g) (map (renamed h) ts) ≡ map (renamed h) ts
renamed-twice g h [] = refl
renamed-twice g h (t ∷ ts) = ap (λ (us : List WaitingTerm). renamed h t ∷ us) (renamed-twice g h ts)

-- the rest alone is named
pub renamed-rest : (h : MerkleHash) (n : ℕ) (ts : List WaitingTerm) → map (renamed h) (take n ts) ≡ take n ts → take n ts ++ map (renamed h) (drop n ts) ≡ map (renamed h) ts
renamed-rest h n ts e =
    ap (λ (us : List WaitingTerm). us ++ map (renamed h) (drop n ts)) (sym e)
    ∙ sym (map-append (renamed h) (take n ts) (drop n ts))
    ∙ ap (map (renamed h)) (take-append-drop n ts)

-- all were named
pub renamed-all : (g h : MerkleHash) (n : ℕ) (ts us : List WaitingTerm) → us ≡ map (renamed h) ts → n ≡ length us → map (renamed g) (take n us) ≡ take n us
renamed-all g h n ts us e size =
    let all = take_all n us (omega (arith, size)) in
    ap (map (renamed g)) (all ∙ e) ∙ renamed-twice g h ts ∙ sym (all ∙ e)

-- the rest was written
pub renamed-written : (h : MerkleHash) (n : ℕ) (ts us : List WaitingTerm) → n ≤ length ts → map (renamed h) (take n ts) ≡ take n ts → us ≡ map (renamed h) (take (length ts - n) (drop n ts)) → put_mid n (length ts - n) ts us ≡ map (renamed h) ts
renamed-written h n ts us low e is =
    let size = length-drop n ts in
    let rest : take (length ts - n) (drop n ts) ≡ drop n ts = take_all (length ts - n) (drop n ts) (omega (arith, size)) in
    let behind : drop (length ts - n) (drop n ts) ≡ [] = drop_all (length ts - n) (drop n ts) (omega (arith, size)) in
    ap (λ (vs : List WaitingTerm). take n ts ++ (us ++ vs)) behind
    ∙ ap (λ (vs : List WaitingTerm). take n ts ++ vs) (append-nil us ∙ is ∙ ap (map (renamed h)) rest)
    ∙ renamed-rest h n ts e

-- what is kept where all were named
pub named-kept : (h : MerkleHash) (n count : ℕ) (ts us : List WaitingTerm) (t : WaitingTerm) → us ≡ map (renamed h) ts → n ≡ count → count ≡ length ts
    → (Some t ≡ None → us ≡ []) × (n ≤ length us) × ((g : MerkleHash) → map (renamed g) (take n us) ≡ take n us)
named-kept h n count ts us t e a b =
    let size = ap length e in
    let mapped = length-map ts (renamed h) in (
      λ f. absurd (let k : Some t ≡ None = f in cc),
      omega arith,
      λ g. renamed-all g h n ts us e (omega arith),
    )
