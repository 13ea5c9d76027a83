-- A walk over a file's terms has the plan's terms and offset.
use Rattle.std.proofs.Common.{◌≡◌, ℕ, zero, suc, ◌+◌, ◌-◌, ◌≤◌, ◌<◌, Bool, true, false, cond, List, [], ◌∷◌, ◌++◌, length, take, drop, min, max, get_or, refl, sym, ◌∙◌, ap, arith, subst, ⊎_elim, Option, Some, None}
use Rattle.std.specs.Prelude.{All, nat_le, sum, slice_range, find, option_map, unwrap_or}
use Rattle.std.specs.Option.{option_or}
use Rattle.std.specs.List.{concat, flat_map}
use Rattle.std.proofs.lemmas.Bool.{ltb-true, ltb-false, lt-ltb, le-ltb, le-leb, lt-leb, cases_lt}
use Rattle.std.proofs.lemmas.List.{append-nil, length-append, length-take, drop_all, drop_more, append_assoc, get_or_default}
use Rattle.std.proofs.lemmas.List.Elements.{All-head, All-tail, All-take, All-drop, All-same}
use Rattle.std.proofs.lemmas.List.Folds.{concat-append}
use Rattle.std.proofs.lemmas.List.Sums.{sum_by-cons, sum_by_more}
use Rattle.xet_base.specs.declared.cas_types.FileRange.{FileRange}
use Rattle.xet_base.specs.declared.stored.StoredTerm.{StoredTerm}
use Rattle.xet_base.specs.Lists.{placed}
use Rattle.xet_base.specs.Store.{Store, IsTermIn, chunks_of, chunks_of_term}
use Rattle.xet_outside.specs.declared.plan.PlanTerm.{PlanTerm}
use Rattle.xet_store.specs.MemPlans.{IsWalk, bytes_before, terms_at, offset_at}
use Rattle.xet_outside.specs.Plan.{touches, ends_before, lengths, cut_of, cut_term}
use Rattle.xet_outside.proofs.CallerLemmas.{Full, count_by-no, count_by-yes, has_chunks, keeps, offset_skip, skips, skips-keeps, skips_past, sum_lengths, touched_past}
use Rattle.xet_store.proofs.CutTerms.{place_in}

-- ---- which terms have a touched chunk

-- where the range touches no byte of the chunks, it touches none of them
pub keeps_none : (q : FileRange) (p : ℕ) (cs : List (List ℕ)) → min (p + length (concat cs)) q.end ≤ max p q.start
    → keeps q p cs ≡ 0
keeps_none q p [] h = refl
keeps_none q p (c ∷ cs) h =
    let n = length-append c (concat cs) in
    let here : touches q (p, length c) ≡ false = le-ltb (max p q.start) (min (p + length c) q.end) (omega (arith, n)) in
    count_by-no (touches q) (p, length c) (placed (p + length c) (lengths cs)) here
    ∙ keeps_none q (p + length c) cs (omega (arith, n))

-- where it touches a byte of them, it touches one of them
pub keeps_some : (q : FileRange) (p : ℕ) (cs : List (List ℕ)) → max p q.start < min (p + length (concat cs)) q.end
    → 0 < keeps q p cs
keeps_some q p [] h = absurd (omega arith)
keeps_some q p (c ∷ cs) h = go (touches q (p, length c)) refl (λ k. keeps_some q (p + length c) cs k)
  where
    go : (b : Bool) → touches q (p, length c) ≡ b → (max (p + length c) q.start < min (p + length c + length
        (concat cs)) q.end → 0 < keeps q (p + length c) cs) → 0 < keeps q p (c ∷ cs)
    go true e next = omega (arith, count_by-yes (touches q) (p, length c) (placed (p + length c) (lengths cs)) e)
    go false e next =
        let no : min (p + length c) q.end ≤ max p q.start = ltb-false _ _ e in
        let k = next (omega (arith, length-append c (concat cs))) in
        omega (arith, k, count_by-no (touches q) (p, length c) (placed (p + length c) (lengths cs)) e)

-- ---- where the first touched chunk stands

pub offset_first : (q : FileRange) (p : ℕ) (cs ds : List (List ℕ)) → Full cs → 0 < keeps q p cs
    → offset_at q p (cs ++ ds) ≡ q.start - (p + sum (take (skips q p cs) (lengths cs)))
offset_first q p [] ds f h = absurd (omega arith)
offset_first q p (c ∷ cs) ds f h = go (touches q (p, length c)) refl (λ k. offset_first q (p + length c) cs ds full k)
  where
    full : Full cs
    full = All-tail (λ c. 0 < length c) c cs f

    more : Option (ℕ × ℕ)
    more = find (touches q) (placed (p + length c) (lengths (cs ++ ds)))

    go : (b : Bool) → touches q (p, length c) ≡ b
        → (0 < keeps q (p + length c) cs → offset_at q (p + length c) (cs ++ ds) ≡ q.start - (p + length c + sum (take
        (skips q (p + length c) cs) (lengths cs))))
        → unwrap_or (option_map (λ (c : ℕ × ℕ). q.start - c.0) (cond b (Some (
          p,
          length c,
        )) more)) 0 ≡ q.start - (p + sum (take (skips q p (c ∷ cs)) (length c ∷ lengths cs)))
    go true e next =
        let yes : max p q.start < min (p + length c) q.end = ltb-true _ _ e in
        let not_before : ends_before q (p, length c) ≡ false = lt-leb (p + length c) q.start (omega arith) in
        let none : skips q p (c ∷ cs) ≡ 0 = count_by-no (ends_before q) (
          p,
          length c,
        ) (placed (p + length c) (lengths cs)) not_before
        ∙ skips_past q (p + length c) cs full (omega arith) in
        let z : sum (take (skips q p (c ∷ cs)) (length c ∷ lengths cs)) ≡ 0 = ap (λ (n : ℕ). sum (take n
        (length c ∷ lengths cs))) none in
        omega (arith, z)
    go false e next =
        let no : min (p + length c) q.end ≤ max p q.start = ltb-false _ _ e in
        let some : 0 < length c = All-head (λ c. 0 < length c) c cs f in
        let later : 0 < keeps q (p + length c) cs = omega (
          arith,
          h,
          count_by-no (touches q) (
            p,
            length c,
          ) (placed (p + length c) (lengths cs)) e,
        ) in
        let ends : p + length c < q.end = ⊎_elim
        (λ (w : p + length c < q.end). w)
        (λ (w : q.end ≤ p + length c). let past = (touched_past q (p + length c) cs w).1 in absurd (omega (
          arith,
          past,
          later,
        )))
        (cases_lt (p + length c) q.end) in
        let before : ends_before q (p, length c) ≡ true = le-leb (p + length c) q.start (omega arith) in
        let one : skips q p (c ∷ cs) ≡ suc (skips q (p + length c) cs) = count_by-yes (ends_before q) (
          p,
          length c,
        ) (placed (p + length c) (lengths cs)) before in
        let s : sum (take (skips q p (c ∷ cs)) (length c ∷ lengths cs)) ≡ length c + sum (take (skips q
        (p + length c) cs) (lengths cs)) =
        ap (λ (n : ℕ). sum (take n (length c ∷ lengths cs))) one
        ∙ sum_by-cons (λ x. x) (length c) (take (skips q (p + length c) cs) (lengths cs)) in
        let i = next later in
        omega (arith, s, i)

-- ---- the walk

-- what has come of the first terms, and what is still to come of the others
pub record IsPlanned (s : Store) (q : FileRange) (ts : List StoredTerm) (i place : ℕ) (offset : Option ℕ)
    (cuts : List PlanTerm) : Type 0 where
  pub place_is : place + length (concat (flat_map (chunks_of_term s) (drop i ts))) ≡ length (concat (flat_map
      (chunks_of_term s) ts))
  pub terms_are : cuts ++ terms_at s q place (drop i ts) ≡ terms_at s q 0 ts
  pub offset_is : unwrap_or offset (offset_at q place (flat_map (chunks_of_term s) (drop i ts))) ≡ offset_at q 0
      (flat_map (chunks_of_term s) ts)

-- one term more, where the range touches none of its bytes
pub planned_skip : (s : Store) (q : FileRange) (ts : List StoredTerm) (i place end : ℕ) (offset : Option ℕ)
    (cuts : List PlanTerm) (t : StoredTerm) → IsPlanned s q ts i place offset cuts
    → i < length ts → t ≡ get_or ts i t → end ≡ place + length (concat (chunks_of_term s t))
    → min end q.end ≤ max place q.start
    → IsPlanned s q ts (i + 1) end offset cuts
planned_skip s q ts i place end offset cuts t w l at e h =
    let cs = chunks_of_term s t in
    let rest = drop (i + 1) ts in
    let ds = flat_map (chunks_of_term s) rest in
    let cut : drop i ts ≡ t ∷ rest = drop_more ts i t l ∙ ap (λ (u : StoredTerm). u ∷ rest) (sym at) in
    let none : keeps q place cs ≡ 0 = keeps_none q place cs (omega (arith, e)) in
    let size : length (concat (cs ++ ds)) ≡ length (concat cs) + length (concat ds) = ap length (concat-append cs ds)
    ∙ length-append (concat cs) (concat ds) in
    let p0 : place + length (concat (cs ++ ds)) ≡ length (concat (flat_map (chunks_of_term s) ts)) = subst (λ
    (us : List StoredTerm). place + length (concat (flat_map (chunks_of_term s) us)) ≡ length (concat (flat_map
    (chunks_of_term s) ts))) cut w.place_is in
    let t0 : cuts ++ terms_at s q place (t ∷ rest) ≡ terms_at s q 0 ts = subst (λ
    (us : List StoredTerm). cuts ++ terms_at s q place us ≡ terms_at s q 0 ts) cut w.terms_are in
    let o0 : unwrap_or offset (offset_at q place (cs ++ ds)) ≡ offset_at q 0 (flat_map (chunks_of_term s) ts) = subst (λ
    (us : List StoredTerm). unwrap_or offset (offset_at q place (flat_map (chunks_of_term s) us)) ≡ offset_at q 0
    (flat_map (chunks_of_term s) ts)) cut w.offset_is in
    let no : has_chunks (cut_term s q (place, t)) ≡ false = le-ltb (t.from + skips q place cs)
    (t.from + skips q place cs + keeps q place cs) (omega (arith, none)) in
    let n : place + sum (lengths cs) ≡ end = omega (arith, e, sum_lengths cs) in
    let step : terms_at s q place (t ∷ rest) ≡ terms_at s q end rest =
    ap (λ b. cond b (cut_term s q (place, t) ∷ terms_at s q (place + sum (lengths cs)) rest) (terms_at s q (place + sum
    (lengths cs)) rest)) no ∙ ap (λ (m : ℕ). terms_at s q m rest) n in
    let m : place + length (concat cs) ≡ end = sym e in
    record {
      place_is = omega (arith, p0, size, e);
      terms_are = ap (λ (us : List PlanTerm). cuts ++ us) (sym step) ∙ t0;
      offset_is = ap (λ (o : ℕ). unwrap_or offset o) (ap (λ (x : ℕ). offset_at q x ds) (sym m)
          ∙ sym (offset_skip q place cs ds none)) ∙ o0;
    }

-- one term more, of which the range touches a byte
pub planned_touch : (s : Store) (q : FileRange) (ts : List StoredTerm) (i place end first : ℕ) (offset : Option ℕ)
    (cuts : List PlanTerm) (t : StoredTerm) → IsPlanned s q ts i place offset cuts
    → i < length ts → t ≡ get_or ts i t → end ≡ place + length (concat (chunks_of_term s t))
    → max place q.start < min end q.end → Full (chunks_of_term s t)
    → first ≡ q.start - (place + sum (take (skips q place (chunks_of_term s t)) (lengths (chunks_of_term s t))))
    → IsPlanned s q ts (i + 1) end (option_or offset (Some first)) (cuts ++ cut_term s q (place, t) ∷ [])
planned_touch s q ts i place end first offset cuts t w l at e h f g =
    let cs = chunks_of_term s t in
    let rest = drop (i + 1) ts in
    let ds = flat_map (chunks_of_term s) rest in
    let cut : drop i ts ≡ t ∷ rest = drop_more ts i t l ∙ ap (λ (u : StoredTerm). u ∷ rest) (sym at) in
    let some : 0 < keeps q place cs = keeps_some q place cs (omega (arith, e)) in
    let size : length (concat (cs ++ ds)) ≡ length (concat cs) + length (concat ds) = ap length (concat-append cs ds)
    ∙ length-append (concat cs) (concat ds) in
    let p0 : place + length (concat (cs ++ ds)) ≡ length (concat (flat_map (chunks_of_term s) ts)) = subst (λ
    (us : List StoredTerm). place + length (concat (flat_map (chunks_of_term s) us)) ≡ length (concat (flat_map
    (chunks_of_term s) ts))) cut w.place_is in
    let t0 : cuts ++ terms_at s q place (t ∷ rest) ≡ terms_at s q 0 ts = subst (λ
    (us : List StoredTerm). cuts ++ terms_at s q place us ≡ terms_at s q 0 ts) cut w.terms_are in
    let o0 : unwrap_or offset (offset_at q place (cs ++ ds)) ≡ offset_at q 0 (flat_map (chunks_of_term s) ts) = subst (λ
    (us : List StoredTerm). unwrap_or offset (offset_at q place (flat_map (chunks_of_term s) us)) ≡ offset_at q 0
    (flat_map (chunks_of_term s) ts)) cut w.offset_is in
    let yes : has_chunks (cut_term s q (place, t)) ≡ true = lt-ltb (t.from + skips q place cs)
    (t.from + skips q place cs + keeps q place cs) (omega (arith, some)) in
    let n : place + sum (lengths cs) ≡ end = omega (arith, e, sum_lengths cs) in
    let step : terms_at s q place (t ∷ rest) ≡ cut_term s q (place, t) ∷ terms_at s q end rest =
    ap (λ b. cond b (cut_term s q (place, t) ∷ terms_at s q (place + sum (lengths cs)) rest) (terms_at s q (place + sum
    (lengths cs)) rest)) yes ∙ ap (λ (m : ℕ). cut_term s q (place, t) ∷ terms_at s q m rest) n in
    let o1 : offset_at q place (cs ++ ds) ≡ first = offset_first q place cs ds f some ∙ sym g in
    record {
      place_is = omega (arith, p0, size, e);
      terms_are = append_assoc cuts (cut_term s q (place, t) ∷ []) (terms_at s q end rest)
          ∙ ap (λ (us : List PlanTerm). cuts ++ us) (sym step) ∙ t0;
      offset_is = or_first offset (offset_at q end ds) ∙ ap (λ (o : ℕ). unwrap_or offset o) (sym o1) ∙ o0;
    }
  where
    or_first : (o : Option ℕ) (x : ℕ) → unwrap_or (option_or o (Some first)) x ≡ unwrap_or o first
    or_first None x = refl
    or_first (Some y) x = refl

-- ---- facts that the walk's steps need

-- a term's bytes fit in the file's
pub planned_room : (s : Store) (q : FileRange) (ts : List StoredTerm) (i place : ℕ) (offset : Option ℕ)
    (cuts : List PlanTerm) (t : StoredTerm) (xs : List (List ℕ)) → IsPlanned s q ts i place offset cuts
    → i < length ts → t ≡ get_or ts i t → xs ≡ chunks_of s t.xorb
    → place + length (concat (slice_range xs t.from t.to)) ≤ length (concat (flat_map (chunks_of_term s) ts))
planned_room s q ts i place offset cuts t xs w l at e =
    let cs = chunks_of_term s t in
    let rest = drop (i + 1) ts in
    let ds = flat_map (chunks_of_term s) rest in
    let cut : drop i ts ≡ t ∷ rest = drop_more ts i t l ∙ ap (λ (u : StoredTerm). u ∷ rest) (sym at) in
    let size : length (concat (cs ++ ds)) ≡ length (concat cs) + length (concat ds) = ap length (concat-append cs ds)
    ∙ length-append (concat cs) (concat ds) in
    let p0 : place + length (concat (cs ++ ds)) ≡ length (concat (flat_map (chunks_of_term s) ts)) = subst (λ
    (us : List StoredTerm). place + length (concat (flat_map (chunks_of_term s) us)) ≡ length (concat (flat_map
    (chunks_of_term s) ts))) cut w.place_is in
    let x = ap (λ (ys : List (List ℕ)). length (concat (slice_range ys t.from t.to))) e in
    omega (arith, p0, size, x)

-- a cut term starts within its term
pub cut_start : (xs : List (List ℕ)) (q : FileRange) (p : ℕ) (t : StoredTerm) (cut : PlanTerm) → t.from ≤ t.to
    → t.to ≤ length xs → cut ≡ cut_of xs q p t → (t.from ≤ cut.range.start) × (cut.range.start ≤ t.to)
cut_start xs q p t cut h i e =
    let s = ap (λ (c : PlanTerm). c.range.start) e in
    let k = skips-keeps q p (slice_range xs t.from t.to) in
    let a = length-take (t.to - t.from) (drop t.from xs) in
    (omega (arith, s), omega (arith, s, k, a))

-- the range's start in the first chunk of a cut term
pub cut_offset : (xs : List (List ℕ)) (q : FileRange) (p : ℕ) (t : StoredTerm) (cut : PlanTerm) (v : ℕ) → t.from ≤ t.to
    → t.to ≤ length xs → cut ≡ cut_of xs q p t
    → v ≡ q.start - (p + (sum (take cut.range.start (lengths xs)) - sum (take t.from (lengths xs))))
    → v ≡ q.start - (p + sum (take (skips q p (slice_range xs t.from t.to)) (lengths (slice_range xs t.from t.to))))
cut_offset xs q p t cut v h i e f =
    let s : cut.range.start ≡ t.from + skips q p (slice_range xs t.from t.to) = ap (λ
    (c : PlanTerm). c.range.start) e in
    let k = skips-keeps q p (slice_range xs t.from t.to) in
    let a = length-take (t.to - t.from) (drop t.from xs) in
    let n = place_in xs t.from t.to (skips q p (slice_range xs t.from t.to)) (omega (arith, k, a)) in
    let m = ap (λ (j : ℕ). sum (take j (lengths xs))) s in
    omega (arith, f, n, m)

-- the steps, by the term's xorb
pub planned_skip_by : (s : Store) (q : FileRange) (ts : List StoredTerm) (i place size : ℕ) (offset : Option ℕ)
    (cuts : List PlanTerm) (t : StoredTerm) (xs : List (List ℕ)) → IsPlanned s q ts i place offset cuts
    → i < length ts → t ≡ get_or ts i t → xs ≡ chunks_of s t.xorb → size ≡ length (concat (slice_range xs t.from t.to))
    → min (place + size) q.end ≤ max place q.start
    → IsPlanned s q ts (i + 1) (place + size) offset cuts
planned_skip_by s q ts i place size offset cuts t xs w l at e z h =
    let x = ap (λ (ys : List (List ℕ)). length (concat (slice_range ys t.from t.to))) e in
    planned_skip s q ts i place (place + size) offset cuts t w l at (ap (λ n. place + n) (z ∙ x)) h

pub planned_touch_by : (s : Store) (q : FileRange) (ts : List StoredTerm) (i place size first : ℕ) (offset : Option ℕ)
    (cuts : List PlanTerm) (t : StoredTerm) (xs : List (List ℕ)) (cut : PlanTerm)
    → IsPlanned s q ts i place offset cuts → IsTermIn s t → All (λ c. 0 < length c) xs
    → i < length ts → t ≡ get_or ts i t → xs ≡ chunks_of s t.xorb → size ≡ length (concat (slice_range xs t.from t.to))
    → max place q.start < min (place + size) q.end
    → cut ≡ cut_of xs q place t → first ≡ q.start - (place + (sum (take cut.range.start (lengths xs)) - sum (take t.from
    (lengths xs))))
    → IsPlanned s q ts (i + 1) (place + size) (option_or offset (Some first)) (cuts ++ cut ∷ [])
planned_touch_by s q ts i place size first offset cuts t xs cut w is full l at e z h c f =
    let x = ap (λ (ys : List (List ℕ)). length (concat (slice_range ys t.from t.to))) e in
    let some : t.from < t.to = is.some in
    let inside : t.to ≤ length xs = let a : t.to ≤ length (chunks_of s t.xorb) = is.inside in omega (
      arith,
      a,
      ap length e,
    ) in
    let g = cut_offset xs q place t cut first (omega arith) inside c f in
    let g' : first ≡ q.start - (place + sum (take (skips q place (chunks_of_term s t)) (lengths
    (chunks_of_term s t)))) =
    g ∙ ap (λ (ys : List (List ℕ)). q.start - (place + sum (take (skips q place (slice_range ys t.from t.to)) (lengths
    (slice_range ys t.from t.to))))) e in
    let c' : cut ≡ cut_term s q (place, t) = c ∙ ap (λ (ys : List (List ℕ)). cut_of ys q place t) e in
    let full' : Full (chunks_of_term s t) = All-take (λ c. 0 < length c) _ _ (All-drop (λ c. 0 < length c) _ _ (All-same
    (λ c. 0 < length c) (chunks_of s t.xorb) xs (sym e) full)) in
    subst (λ (u : PlanTerm). IsPlanned s q ts (i + 1) (place + size) (option_or offset (Some first)) (cuts ++ u ∷ []))
    (sym c')
    (planned_touch s q ts i place (place + size) first offset cuts t w l at (ap (λ n. place + n) (z ∙ x)) h full' g')

-- ---- a walk that begins among the terms, and ends among them

-- the default of a read
none_of : StoredTerm
none_of = record { xorb = record { 0 = [] }; from = 0; to = 0 }

pub bytes_none : (s : Store) (ts : List StoredTerm) → 0 ≡ bytes_before s ts 0
bytes_none s [] = refl
bytes_none s (t ∷ ts) = refl

-- a walk that passed nothing
pub walk_start : (s : Store) (ts : List StoredTerm) → IsWalk s ts 0 0
walk_start s ts = record { within = omega arith; place_is = bytes_none s ts }

pub walk_of : (s : Store) (ts : List StoredTerm) (i place : ℕ) → i ≤ length ts → place ≡ bytes_before s ts i
    → IsWalk s ts i place
walk_of s ts i place l p = record { within = l; place_is = p }

pub walk_within : (s : Store) (ts : List StoredTerm) (i place : ℕ) → IsWalk s ts i place → i ≤ length ts
walk_within s ts i place w = w.within

pub walk_place : (s : Store) (ts : List StoredTerm) (i place : ℕ) → IsWalk s ts i place → place ≡ bytes_before s ts i
walk_place s ts i place w = w.place_is

bytes_more : (s : Store) (ts : List StoredTerm) (i : ℕ) → i < length ts
    → bytes_before s ts (i + 1) ≡ bytes_before s ts i + length (concat (chunks_of_term s (get_or ts i none_of)))
bytes_more s ts i l = sum_by_more (λ t. length (concat (chunks_of_term s t))) ts i none_of l

-- it passes one term more
pub walk_more : (s : Store) (ts : List StoredTerm) (i place end : ℕ) (t : StoredTerm) → IsWalk s ts i place
    → i < length ts → t ≡ get_or ts i t → end ≡ place + length (concat (chunks_of_term s t)) → IsWalk s ts (i + 1) end
walk_more s ts i place end t w l at e = record {
  within = omega (arith, l);
  place_is =
      let same : get_or ts i none_of ≡ t = get_or_default ts i none_of t l ∙ sym at in
      let more = bytes_more s ts i l in
      let k = ap (λ (u : StoredTerm). length (concat (chunks_of_term s u))) same in
      let p = w.place_is in
      omega (arith, e, more, k, p);
}

begun : (s : Store) (q : FileRange) (ts : List StoredTerm) → IsPlanned s q ts 0 0 None []
begun s q [] = record { place_is = omega arith; terms_are = refl; offset_is = refl }
begun s q (t ∷ ts) = record { place_is = omega arith; terms_are = refl; offset_is = refl }

-- what is still to come after terms that end before the range is all
planned_before : (s : Store) (q : FileRange) (ts : List StoredTerm) (i : ℕ) → i ≤ length ts
    → bytes_before s ts i ≤ q.start → IsPlanned s q ts i (bytes_before s ts i) None []
planned_before s q ts zero h early = subst (λ (p : ℕ). IsPlanned s q ts 0 p None []) (bytes_none s ts) (begun s q ts)
planned_before s q ts (suc j) h early =
    let l : j < length ts = omega (arith, h) in
    let m : j + 1 ≡ suc j = omega arith in
    let t = get_or ts j none_of in
    let e = bytes_more s ts j l in
    let n : bytes_before s ts (j + 1) ≡ bytes_before s ts (suc j) = ap (bytes_before s ts) m in
    let w = planned_before s q ts j (omega (arith, h)) (omega (arith, e, n, early)) in
    subst (λ (k : ℕ). IsPlanned s q ts k (bytes_before s ts k) None []) m
    (planned_skip s q ts j (bytes_before s ts j) (bytes_before s ts (j + 1)) None [] t w l
    (get_or_default ts j none_of t l) e (omega (arith, n, early)))

pub planned_from : (s : Store) (q : FileRange) (ts : List StoredTerm) (i place : ℕ) → IsWalk s ts i place
    → place ≤ q.start → IsPlanned s q ts i place None []
planned_from s q ts i place w early =
    let p = w.place_is in
    subst (λ (x : ℕ). IsPlanned s q ts i x None []) (sym p) (planned_before s q ts i w.within (omega (arith, p, early)))

-- nothing comes of terms past the range
pub planned_all : (s : Store) (q : FileRange) (ts : List StoredTerm) (i place : ℕ) (offset : Option ℕ)
    (cuts : List PlanTerm) → IsPlanned s q ts i place offset cuts → i ≤ length ts → (i < length ts → q.end ≤ place)
    → (cuts ≡ terms_at s q 0 ts) × (unwrap_or offset 0 ≡ offset_at q 0 (flat_map (chunks_of_term s) ts))
planned_all s q ts i place offset cuts w h past =
    rest (length ts - i) i place (omega (arith, h)) (λ some. past (omega (arith, some))) w
  where
    rest : (n k p : ℕ) → k + n ≡ length ts → (0 < n → q.end ≤ p) → IsPlanned s q ts k p offset cuts
        → (cuts ≡ terms_at s q 0 ts) × (unwrap_or offset 0 ≡ offset_at q 0 (flat_map (chunks_of_term s) ts))
    rest zero k p e far w =
        let z : drop k ts ≡ [] = drop_all k ts (omega (arith, e)) in (
          sym (append-nil cuts)
              ∙ subst (λ (us : List StoredTerm). cuts ++ terms_at s q p us ≡ terms_at s q 0 ts) z w.terms_are,
          subst (λ (us : List StoredTerm). unwrap_or offset (offset_at q p (flat_map (chunks_of_term s) us))
              ≡ offset_at q 0 (flat_map (chunks_of_term s) ts)) z w.offset_is,
        )
    rest (suc n) k p e far w =
        let l : k < length ts = omega (arith, e) in
        let t = get_or ts k none_of in
        let f = far (omega arith) in
        rest n (k + 1) (p + length (concat (chunks_of_term s t))) (omega (arith, e)) (λ some. omega (arith, f))
        (planned_skip s q ts k p (p + length (concat (chunks_of_term s t))) offset cuts t w l
        (get_or_default ts k none_of t l) refl (omega (arith, f)))

-- a walk that ended past the range's start tells whether the file does
pub planned_place : (s : Store) (q : FileRange) (ts : List StoredTerm) (i place : ℕ) (offset : Option ℕ)
    (cuts : List PlanTerm) → IsPlanned s q ts i place offset cuts → i ≤ length ts → (i < length ts → q.start < place)
    → nat_le place q.start ≡ nat_le (length (concat (flat_map (chunks_of_term s) ts))) q.start
planned_place s q ts i place offset cuts w h past =
    ⊎_elim
    (λ (l : i < length ts).
    let f = past l in
    let p = w.place_is in
    lt-leb place q.start f
    ∙ sym (lt-leb (length (concat (flat_map (chunks_of_term s) ts))) q.start (omega (arith, f, p))))
    (λ (l : length ts ≤ i).
    let z : drop i ts ≡ [] = drop_all i ts l in
    let p : place + length (concat (flat_map (chunks_of_term s) [])) ≡ length (concat (flat_map (chunks_of_term s) ts)) =
    subst (λ (us : List StoredTerm). place + length (concat (flat_map (chunks_of_term s) us))
    ≡ length (concat (flat_map (chunks_of_term s) ts))) z w.place_is in
    ap (λ (n : ℕ). nat_le n q.start) (omega (arith, p)))
    (cases_lt i (length ts))

-- ---- the same by what the steps of a walk have

pub stored_at : (s : Store) (ts : List StoredTerm) (i : ℕ) (t : StoredTerm) → All (IsTermIn s) ts → i < length ts
    → t ≡ get_or ts i t → IsTermIn s t
stored_at s ts i t a l at = subst (IsTermIn s) (get_or_default ts i none_of t l ∙ sym at) (a i none_of l)

pub walk_by : (s : Store) (ts : List StoredTerm) (i place size : ℕ) (t : StoredTerm) (xs : List (List ℕ))
    → IsWalk s ts i place → i < length ts → t ≡ get_or ts i t → xs ≡ chunks_of s t.xorb
    → size ≡ length (concat (slice_range xs t.from t.to)) → IsWalk s ts (i + 1) (place + size)
walk_by s ts i place size t xs w l at e z =
    let x = ap (λ (ys : List (List ℕ)). length (concat (slice_range ys t.from t.to))) e in
    walk_more s ts i place (place + size) t w l at (ap (λ n. place + n) (z ∙ x))
