-- Numbers of chunks beside their offsets.
use Rattle.std.proofs.Common.{◌≡◌, ℕ, suc, ◌+◌, ◌-◌, ◌≤◌, ◌<◌, List, [], ◌∷◌, ◌++◌, length, take, drop, min, get_or, refl, sym, ◌∙◌, ap, arith, zip}
use Rattle.std.specs.List.{range_with_len}
use Rattle.std.proofs.lemmas.List.{append-nil, append_assoc, drop-drop, drop_more, drop_min, get_or-take, length-append, length-drop, length-take, nil_from_length, take_rest}
use Rattle.std.proofs.lemmas.List.FromFn.{length-range_with_len}
use Rattle.std.proofs.lemmas.Slice.Zip.{length-zip}
use Rattle.xet_base.specs.declared.cas_types.ChunkRange.{ChunkRange}
use Rattle.xet_offers.specs.BlockChecks.{numbers_in}

zip-nil : {A B : Type 0} (xs : List A) → zip {X = B} xs [] ≡ []
zip-nil [] = refl
zip-nil (x ∷ xs) = refl

pub zip-append : {A B : Type 0} (xs ys : List A) (zs : List B) → zip (xs ++ ys) zs ≡ zip xs zs ++ zip ys (drop (length xs) zs)
zip-append [] ys zs = refl
zip-append (x ∷ xs) ys [] = sym (zip-nil ys)
zip-append (x ∷ xs) ys (z ∷ zs) = ap (λ r. (x, z) ∷ r) (zip-append xs ys zs)

-- the numbers from a place on, with what stands there
pub zip_more : (start len i d : ℕ) (zs : List ℕ) → i < len → i < length zs
    → zip (range_with_len (start + i) (len - i)) (drop i zs) ≡ (start + i, get_or zs i d) ∷ zip (range_with_len (start + (i + 1)) (len - (i + 1))) (drop (i + 1) zs)
zip_more start len i d zs h k =
    let e : len - i ≡ suc (len - (i + 1)) = omega arith in
    let f : start + i + 1 ≡ start + (i + 1) = omega arith in
    ap (λ (n : ℕ). zip (range_with_len (start + i) n) (drop i zs)) e
    ∙ ap (λ (l : List ℕ). zip ((start + i) ∷ range_with_len (start + i + 1) (len - (i + 1))) l) (drop_more zs i d k)
    ∙ ap (λ (n : ℕ). (start + i, get_or zs i d) ∷ zip (range_with_len n (len - (i + 1))) (drop (i + 1) zs)) f

-- past the last number, or past the last offset, nothing is left
pub zip_over : (start len i : ℕ) (zs : List ℕ) → min len (length zs) ≤ i → zip (range_with_len (start + i) (len - i)) (drop i zs) ≡ []
zip_over start len i zs h =
    nil_from_length _ (omega (arith, length-zip (range_with_len (start + i) (len - i)) (drop i zs), length-range_with_len (start + i) (len - i), length-drop i zs))

-- the offsets that are left, behind those of the ranges so far
pub zip_behind : {A B : Type 0} (xs ys : List A) (zs : List B) → zip (xs ++ ys) zs ≡ zip xs zs ++ zip ys (drop (length (zip xs zs)) zs)
zip_behind xs ys zs =
    zip-append xs ys zs ∙ ap (λ l. zip xs zs ++ zip ys l) (sym (drop_min (length xs) zs) ∙ ap (λ (n : ℕ). drop n zs) (sym (length-zip xs zs)))

-- one pair more, behind those that were pushed
pub pushed_more : (ps new all : List (ℕ × ℕ)) (start len i n : ℕ) (zs : List ℕ) → n ≡ min len (length zs) → i < length (take n zs)
    → new ≡ ps ++ (start + i, get_or (take n zs) i 0) ∷ []
    → ps ++ zip (range_with_len (start + i) (len - i)) (drop i zs) ≡ all
    → new ++ zip (range_with_len (start + (i + 1)) (len - (i + 1))) (drop (i + 1) zs) ≡ all
pushed_more ps new all start len i n zs e h f g =
    let l = length-take n zs in
    let step = zip_more start len i 0 zs (omega arith) (omega arith) in
    let at = get_or-take n zs i 0 (omega arith) in
    let rest = zip (range_with_len (start + (i + 1)) (len - (i + 1))) (drop (i + 1) zs) in
    let a = append_assoc ps ((start + i, get_or zs i 0) ∷ []) rest in
    cc

pub pushed_all : (ps all : List (ℕ × ℕ)) (start len i n : ℕ) (zs : List ℕ) → n ≡ min len (length zs) → length (take n zs) ≤ i
    → ps ++ zip (range_with_len (start + i) (len - i)) (drop i zs) ≡ all → ps ≡ all
pushed_all ps all start len i n zs e h g =
    let l = length-take n zs in
    let none = zip_over start len i zs (omega arith) in
    let a = append-nil ps in
    cc

-- the pairs of one range more
pub pushed_range : (ps new all : List (ℕ × ℕ)) (rs : List ChunkRange) (i : ℕ) (d : ChunkRange) (n : ℕ) (zs : List ℕ) → n ≡ length ps → i < length rs → length ps ≤ length zs
    → new ≡ ps ++ zip (range_with_len (get_or rs i d).start ((get_or rs i d).end - (get_or rs i d).start)) (take (length zs - n) (drop n zs))
    → ps ++ zip (numbers_in (drop i rs)) (drop (length ps) zs) ≡ all
    → (length new ≤ length zs) × (new ++ zip (numbers_in (drop (i + 1) rs)) (drop (length new) zs) ≡ all)
pushed_range ps new all rs i d n zs m h k f g =
    let r = get_or rs i d in
    let xs = range_with_len r.start (r.end - r.start) in
    let ys = numbers_in (drop (i + 1) rs) in
    let rest = drop (length ps) zs in
    let e : new ≡ ps ++ zip xs rest = f ∙ ap (λ l. ps ++ zip xs l) (take_rest zs n ∙ ap (λ (n : ℕ). drop n zs) m) in
    let next : numbers_in (drop i rs) ≡ xs ++ ys = ap numbers_in (drop_more rs i d h) in
    let split = zip_behind xs ys rest in
    let size : length new ≡ length ps + length (zip xs rest) = ap length e ∙ length-append ps (zip xs rest) in
    let at = drop-drop (length (zip xs rest)) (length ps) zs in
    let a = append_assoc ps (zip xs rest) (zip ys (drop (length new) zs)) in
    (omega (arith, size, length-zip xs rest, length-drop (length ps) zs), cc)
