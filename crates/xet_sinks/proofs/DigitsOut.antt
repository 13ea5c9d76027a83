-- How the inner sink stands after some digits.
use Rattle.std.proofs.Common.{◌≡◌, ℕ, zero, suc, ◌+◌, ◌-◌, ◌*◌, ◌/◌, ◌%◌, ◌<◌, ◌≤◌, Bool, true, false, List, []}
use Rattle.std.proofs.Common.{◌∷◌, ◌++◌, take, drop, length, slice_index, Option, Some, None, refl, sym, ap, ◌∙◌}
use Rattle.std.proofs.Common.{arith, append_assoc, append-nil, length-append, length-drop, inl, inr, ◌⊎◌}
use Rattle.std.proofs.lemmas.Bool.{false≢true, cases_lt}
use Rattle.std.proofs.lemmas.List.{drop_all, length-take-le, get_or-take, take_all, drop-append-le}
use Rattle.std.proofs.lemmas.Grind.{common_steps}
use Rattle.std.specs.Prelude.{is_some, option_map}
use Rattle.hex.specs.Hex.{IsBytes, encode_lower, lower_digits}
use Rattle.hex.proofs.HexLemmas.{length-encode_with}
use Rattle.xet_outside.specs.Told.{Took, TookPrefix}
use Rattle.xet_sinks.specs.HexText.{all_hex, bytes_of, even, list_of, since, steps, next_digit, taken, value_of}
use Rattle.xet_sinks.specs.HexText.{HexText, HexPrefix, MissesOne}
use Rattle.xet_sinks.specs.steps.HexPieces.{Stands}
use Rattle.xet_sinks.proofs.HexDigits.{all_hex-append, all_hex-take, all_hex-at, all_hex-encode, bytes_after}
use Rattle.xet_sinks.proofs.HexDigits.{bytes_owed, even-append, even_owed, even-take, bytes_taken, text_back}
use Rattle.xet_sinks.proofs.HexDigits.{length-bytes, length-even}

no_some : {A : Type 0} (x : A) → Some x ≡ None → ⊥
no_some x e = cc

some_same : {A : Type 0} (x y : A) → Some x ≡ Some y → x ≡ y
some_same x y e = cc

-- what was there at first is at the front
long : (s : Option (List ℕ)) (xs : List ℕ) → Took s (Some xs) (since s (Some xs)) → length (list_of s) ≤ length xs
long None xs e = omega arith
long (Some zs) xs e =
    let f = ap length (some_same _ _ e) in
    grind (arith, common_steps)

since_none : (s : Option (List ℕ)) → since s None ≡ []
since_none s = drop_all (length (list_of s)) [] (omega arith)

pub took_none : (n m : Option (List ℕ)) → Took n m [] → m ≡ n
took_none None m e = e
took_none (Some xs) m e = e ∙ ap Some (append-nil xs)

since_more : (s : Option (List ℕ)) (xs ys : List ℕ) → Took s (Some xs) (since s (Some xs))
    → since s (Some (xs ++ ys)) ≡ since s (Some xs) ++ ys
since_more s xs ys e = drop-append-le (length (list_of s)) xs ys (long s xs e)

began_more : (s : Option (List ℕ)) (xs ys : List ℕ) → Took s (Some xs) (since s (Some xs))
    → Took s (Some (xs ++ ys)) (since s (Some (xs ++ ys)))
began_more None xs ys e = absurd (no_some _ e)
began_more (Some zs) xs ys e =
    let m = since_more (Some zs) xs ys e in
    let f : xs ≡ zs ++ drop (length zs) xs = some_same _ _ e in
    ap Some (ap (λ (us : List ℕ). us ++ ys) f ∙ append_assoc zs (drop (length zs) xs) ys ∙ ap
    (λ (us : List ℕ). zs ++ us) (sym m))

-- ---- the digit that was missing

-- it went out
pub stands_settled : (s k n m : Option (List ℕ)) (g : List ℕ) (at : ℕ) → Stands s k n g at false → 0 < at
    → Took n m (slice_index g at ∷ []) → Stands s k m g 0 false × (taken s k m g ≡ taken s k n g)
stands_settled s k None m g at h l e = rw e (
  record {
    began = h.began;
    hex = h.hex;
    piece = h.piece;
    next = λ z.
        absurd (false≢true (sym z ∙ rw (since_none s) refl));
    whole = λ _ _. rw (since_none s) refl;
    owed = λ _ w. absurd
        (omega arith);
  },
  refl,
)
stands_settled s k (Some xs) m g at h l e =
    let d = slice_index g at in
    let o = h.owed refl l in
    let p = o.1 refl in
    let w : since s (Some (xs ++ d ∷ [])) ≡ since s (Some xs) ++ d ∷ [] = since_more s xs (d ∷ []) h.began in
    rw e (
      record {
        began = began_more s xs (d ∷ []) h.began;
        hex = rw w (all_hex-append (since s (Some xs)) (d ∷ []) h.hex (rw (all_hex-at at g o.0 h.piece) refl));
        piece = h.piece;
        next = λ z. absurd (false≢true (sym z ∙ rw w (even_owed d (since s (Some xs)) p.1)));
        whole = λ _ _. rw w (even_owed d (since s (Some xs)) p.1);
        owed = λ _ z. absurd (omega arith);
      },
      ap Some (rw (w, p.0) (bytes_owed d _ (since s (Some xs)) p.1)),
    )

-- nothing more is sent
pub stands_stopped : (s k n : Option (List ℕ)) (g : List ℕ) (at : ℕ) → Stands s k n g at false → Stands s k n g at true
stands_stopped s k n g at h = record {
  began = h.began;
  hex = h.hex;
  piece = h.piece;
  next = h.next;
  whole = λ z _.
      absurd (false≢true (sym z));
  owed = λ z _. absurd (false≢true (sym z));
}

-- it may have gone out
pub stands_failed : (s k n m : Option (List ℕ)) (g : List ℕ) (at : ℕ) → Stands s k n g at false → 0 < at
    → TookPrefix n m (slice_index g at ∷ []) → Stands s k m g at true × (taken s k m g ≡ taken s k n g)
stands_failed s k n m g at h l p = by_count p.count p.within p.took
  where
    by_count : (c : ℕ) → c ≤ 1 → Took n m (take c (slice_index g at ∷ [])) → Stands s k m g at true
        × (taken s k m g ≡ taken s k n g)
    by_count zero w e = rw (took_none n m e) (stands_stopped s k n g at h, refl)
    by_count (suc zero) w e =
        let t = stands_settled s k n m g at h l e in
        let u = t.0 in (
          record {
            began = u.began;
            hex = u.hex;
            piece = u.piece;
            next = u.next;
            whole = λ z _. absurd
                (false≢true (sym z));
            owed = λ z _. absurd (false≢true (sym z));
          },
          t.1,
        )
    by_count (suc (suc c)) w e = absurd (omega arith)

-- ---- a piece

-- so many digits of it went out: what is told
pub took_digits : (s k n m : Option (List ℕ)) (g f : List ℕ) (bs : List ℕ) (j : ℕ) → Stands s k n g 0 false
    → IsBytes bs → j ≤ 2 * length bs → take (2 * length bs) f ≡ encode_lower bs → Took n m (take j (encode_lower bs))
    → Took (taken s k n g) (taken s n m f) (take ((j + 1) / 2) bs)
took_digits s k None m g f bs j h b l q e = rw e refl
took_digits s k (Some xs) m g f bs j h b l q e =
    let t = take j (encode_lower bs) in
    let c = length-encode_with lower_digits bs in
    let n : length t ≡ j = length-take-le j (encode_lower bs) (omega arith) in
    let w = since_more s xs t h.began in
    let r : steps (Some xs) (Some (xs ++ t)) ≡ j = let z = length-append xs t in omega arith in
    let d : j % 2 ≡ 1 → slice_index f j ≡ slice_index (encode_lower bs) j = λ o. sym
    (get_or-take (2 * length bs) f j 0 (omega arith)) ∙ ap (λ (us : List ℕ). slice_index us j) q in
    rw e (ap Some (rw (w, r) (bytes_after (slice_index f j) (next_digit k (Some xs) g) (since s (Some xs)) t
    (h.whole refl refl) ∙ ap (λ (us : List ℕ). bytes_of (next_digit k (Some xs) g) (since s (Some xs)) ++ us)
    (bytes_taken (slice_index f j) j bs b l d))))

core : (s k n m : Option (List ℕ)) (g : List ℕ) (t : List ℕ) → Stands s k n g 0 false → all_hex t ≡ true → Took n m t
    → Took s m (since s m) × (all_hex (since s m) ≡ true)
core s k None m g t h a e = rw e (h.began, h.hex)
core s k (Some xs) m g t h a e = rw e (
  began_more s xs t h.began,
  rw (since_more s xs t h.began)
      (all_hex-append (since s (Some xs)) t h.hex a),
)

-- and nothing is missing
pub stands_even : (s k n m : Option (List ℕ)) (g f : List ℕ) (bs : List ℕ) (j : ℕ) → Stands s k n g 0 false
    → IsBytes bs → all_hex f ≡ true → j ≤ 2 * length bs → j % 2 ≡ 0 → Took n m (take j (encode_lower bs))
    → Stands s n m f 0 false
stands_even s k n m g f bs j h b a l v e =
    let r = core s k n m g (take j (encode_lower bs)) h (all_hex-take j (encode_lower bs) (all_hex-encode bs b)) e in
    record {
      began = r.0;
      hex = r.1;
      piece = a;
      next = λ z. absurd (false≢true (sym z ∙ is_even n h e));
      whole = λ _ _. is_even n h e;
      owed = λ _ z. absurd (omega arith);
    }
  where
    is_even : (n : Option (List ℕ)) → Stands s k n g 0 false → Took n m (take j (encode_lower bs))
        → even (since s m) ≡ true
    is_even None h e = rw (e, since_none s) refl
    is_even (Some xs) h e = rw (
      e,
      since_more s xs (take j (encode_lower bs)) h.began,
      even-append (since s (Some xs))
          (take j (encode_lower bs)) (h.whole refl refl),
    ) ((even-take j bs l).0 v)

-- and the digit at this place is missing
pub stands_odd : (s k n m : Option (List ℕ)) (g f : List ℕ) (bs : List ℕ) (j : ℕ) → Stands s k n g 0 false
    → IsBytes bs → all_hex f ≡ true → j < length f → j ≤ 2 * length bs → j % 2 ≡ 1
    → Took n m (take j (encode_lower bs)) → Stands s n m f j false
stands_odd s k n m g f bs j h b a i l v e =
    let r = core s k n m g (take j (encode_lower bs)) h (all_hex-take j (encode_lower bs) (all_hex-encode bs b)) e in
    record {
      began = r.0;
      hex = r.1;
      piece = a;
      next = λ z. is_next n h e z;
      whole = λ _ z. absurd (omega arith);
      owed = λ _ _. (i, λ y. is_odd n h e y);
    }
  where
    is_next : (n : Option (List ℕ)) → Stands s k n g 0 false → Took n m (take j (encode_lower bs))
        → even (since s m) ≡ false → steps n m < length f
    is_next None h e z = absurd (false≢true (sym (rw (e, since_none s) at z)))
    is_next (Some xs) h e z =
        let t = take j (encode_lower bs) in
        let c = length-encode_with lower_digits bs in
        let n : length t ≡ j = length-take-le j (encode_lower bs) (omega arith) in
        rw e (let y = length-append xs t in omega arith)

    is_odd : (n : Option (List ℕ)) → Stands s k n g 0 false → Took n m (take j (encode_lower bs)) → is_some m ≡ true
        → (steps n m ≡ j) × (even (since s m) ≡ false)
    is_odd None h e y = absurd (false≢true (rw e at y))
    is_odd (Some xs) h e y =
        let t = take j (encode_lower bs) in
        let c = length-encode_with lower_digits bs in
        let n : length t ≡ j = length-take-le j (encode_lower bs) (omega arith) in
        rw e (
          let z = length-append xs t in omega arith,
          rw
              (since_more s xs t h.began, even-append (since s (Some xs)) t (h.whole refl refl))
              ((even-take j bs l).1 v),
        )

-- some prefix of it went out
pub stands_fault : (s k n m : Option (List ℕ)) (g f : List ℕ) (bs : List ℕ) (j at : ℕ) → Stands s k n g 0 false
    → IsBytes bs → all_hex f ≡ true → j ≤ 2 * length bs → 2 * length bs ≤ length f
    → Took n m (take j (encode_lower bs)) → Stands s n m f at true
stands_fault s k n m g f bs j at h b a l w e = elim (parity j) [
  | inl v ↦ stands_stopped_at at (stands_even s k n m g f bs j h b a l v e)
  | inr v ↦ stands_stopped_at at (stands_odd s k n m g f bs j h b a (omega arith) l v e)
]
  where
    parity : (j : ℕ) → (j % 2 ≡ 0) ⊎ (j % 2 ≡ 1)
    parity j = elim (cases_lt 0 (j % 2)) [
      | inl v ↦ inr (omega arith)
      | inr v ↦ inl (omega arith)
    ]

    stands_stopped_at : {i : ℕ} (at : ℕ) → Stands s n m f i false → Stands s n m f at true
    stands_stopped_at at h = record {
      began = h.began;
      hex = h.hex;
      piece = h.piece;
      next = h.next;
      whole = λ z _.
          absurd (false≢true (sym z));
      owed = λ z _. absurd (false≢true (sym z));
    }

-- ---- what a caller sees

encode_none : (s n : Option (List ℕ)) → n ≡ None → Took s n (since s n) → s ≡ None
encode_none None n e t = refl
encode_none (Some zs) n e t = absurd (no_some _ (sym t ∙ e))

any_digit : (d e : ℕ) (xs : List ℕ) → even xs ≡ true → bytes_of d xs ≡ bytes_of e xs
any_digit d e [] h = refl
any_digit d e (x ∷ []) h = absurd (false≢true h)
any_digit d e (x ∷ y ∷ xs) h = ap (λ (zs : List ℕ). (16 * value_of x + value_of y) ∷ zs) (any_digit d e xs h)

pub hex_prefix : (s k n : Option (List ℕ)) (g : List ℕ) (at : ℕ) (stopped : Bool) → Stands s k n g at stopped
    → HexPrefix s n (taken s k n g)
hex_prefix s k None g at stopped h = record {
  count = 0;
  within = omega arith;
  took = rw
      (encode_none s None refl h.began) refl;
}
hex_prefix s k (Some xs) g at stopped h = elim (cases_eq_bool (even (since s (Some xs)))) [
  | inl v ↦
      let t = text_back 48 (since s (Some xs)) refl h.hex in
      let w : bytes_of (next_digit k (Some xs) g) (since s (Some xs)) ≡ bytes_of 48 (since s (Some xs)) = any_digit
      (next_digit k (Some xs) g) 48 (since s (Some xs)) v in
      record {
        count = length (since s (Some xs));
        within = rw w
            (let z = length-encode_with lower_digits (bytes_of 48 (since s (Some xs))) in let y = t.0 in omega arith);
        took = h.began ∙ ap (λ (us : List ℕ). option_map (λ ys. ys ++ us) s) (rw w t.1);
      }
  | inr v ↦
      let d = next_digit k (Some xs) g in
      let t = text_back d (since s (Some xs)) (all_hex-at (steps k (Some xs)) g (h.next v) h.piece) h.hex in
      record {
        count = length (since s (Some xs));
        within
            = (let z = length-encode_with lower_digits (bytes_of d (since s (Some xs))) in let y = t.0 in omega arith);
        took = h.began ∙ ap (λ (us : List ℕ). option_map (λ ys. ys ++ us) s) t.1;
      }
]
  where
    cases_eq_bool : (b : Bool) → (b ≡ true) ⊎ (b ≡ false)
    cases_eq_bool true = inl refl
    cases_eq_bool false = inr refl

misses_one : (d : ℕ) (xs : List ℕ) → 2 * length (bytes_of d xs) ≤ length xs + 1
misses_one d [] = omega arith
misses_one d (x ∷ []) = omega arith
misses_one d (x ∷ y ∷ xs) = let r = misses_one d xs in omega arith

pub hex_misses : (s k n : Option (List ℕ)) (g : List ℕ) → MissesOne s n (taken s k n g)
hex_misses s k None g = omega arith
hex_misses s k (Some xs) g = misses_one (next_digit k (Some xs) g) (since s (Some xs))

pub hex_text : (s k n : Option (List ℕ)) (g : List ℕ) → Stands s k n g 0 false → HexText s n (taken s k n g)
hex_text s k None g h = rw (encode_none s None refl h.began) refl
hex_text s k (Some xs) g h =
    let ds = since s (Some xs) in
    let v = h.whole refl refl in
    let w : bytes_of (next_digit k (Some xs) g) ds ≡ bytes_of 48 ds = any_digit (next_digit k (Some xs) g) 48 ds v in
    let t = text_back 48 ds refl h.hex in
    let z = length-encode_with lower_digits (bytes_of 48 ds) in
    let y = length-bytes 48 ds v in
    let p = length-even ds v in
    let q : take (length ds) (encode_lower (bytes_of 48 ds)) ≡ encode_lower (bytes_of 48 ds) = take_all (length ds)
    (encode_lower (bytes_of 48 ds)) (omega arith) in
    h.began ∙ ap (λ (us : List ℕ). option_map (λ ys. ys ++ us) s) (rw w (t.1 ∙ q))

-- how many bytes are told, where nothing is missing
pub count_taken : (s k n : Option (List ℕ)) (g : List ℕ) → Stands s k n g 0 false
    → option_map (λ c. (c - length (list_of s)) / 2) (option_map length n) ≡ option_map length (taken s k n g)
count_taken s k None g h = refl
count_taken s k (Some xs) g h =
    let y = length-bytes (next_digit k (Some xs) g) (since s (Some xs)) (h.whole refl refl) in
    let z = length-drop (length (list_of s)) xs in
    ap Some (rw y (ap (λ (c : ℕ). c / 2) (sym z)))
