-- Dependencies counted as registered, and taken back.
use Rattle.std.proofs.Common.{◌≡◌, ◌≢◌, ℕ, Bool, true, false, cond, List, [], ◌∷◌, ◌++◌, refl, sym, ◌∙◌, ap, ◌+◌, ◌-◌, ◌<◌, ◌≤◌, ◌^◌, length, take, drop, get_or, set, arith}
use Rattle.std.specs.Prelude.{Option, Some, None, All, nat_eq, nat_le}
use Rattle.std.specs.List.{sum_by}
use Rattle.std.proofs.lemmas.Bool.{eqb-true, eqb-false, eq-eqb, leb-true}
use Rattle.std.proofs.lemmas.List.{ext_get_or, get_or_default, get_or-set_same, get_or-set_other, length-set, take_more, drop_more}
use Rattle.std.proofs.lemmas.List.Sums.{sum_by-cons, sum_by_more}
use Rattle.xet_base.specs.declared.invalid.Invalid.{Invalid}
use Rattle.xet_base.specs.declared.invalid.Invalid.TheVariants.{PastTotal}
use Rattle.xet_progress_state.specs.declared.step.FileXorbDependency.{FileXorbDependency}
use Rattle.xet_progress_state.specs.declared.file.TrackedFile.{TrackedFile}
use Rattle.xet_progress_state.specs.Accepted.{past_total, or_else}
use Rattle.xet_progress_state.specs.Counts.{of_file}
use Rattle.xet_progress_state.specs.steps.Depends.{CountedIn, past_in, pasts_in}

-- files are the same where the same was taken back from both
pub counted_back : (fs gs hs : List TrackedFile) (ds : List FileXorbDependency) → CountedIn fs gs ds → CountedIn hs gs ds → hs ≡ fs
counted_back fs gs hs ds a b = ext_get_or (record { fixed = false; total = 0; registered = 0; completed = 0 }) hs fs len (λ i l. same i l)
  where
    len : length hs ≡ length fs
    len = sym b.count ∙ a.count

    same : (i : ℕ) → i < length hs → get_or hs i (record { fixed = false; total = 0; registered = 0; completed = 0 }) ≡ get_or fs i (record { fixed = false; total = 0; registered = 0; completed = 0 })
    same i l =
        let none : TrackedFile = record { fixed = false; total = 0; registered = 0; completed = 0 } in
        let n = len in
        let p = sym (b.each i (record { fixed = false; total = 0; registered = 0; completed = 0 }) l) ∙ a.each i (record { fixed = false; total = 0; registered = 0; completed = 0 }) (omega (arith, l, n)) in
        let e = ap (λ (x : TrackedFile). x.registered) p in
        let r : (get_or hs i (record { fixed = false; total = 0; registered = 0; completed = 0 })).registered ≡ (get_or fs i (record { fixed = false; total = 0; registered = 0; completed = 0 })).registered = omega (arith, e) in
        λ j. let x : TrackedFile = record { fixed = (p j).fixed; total = (p j).total; registered = r j; completed = (p j).completed } in x

-- a file with more, and with less, of its bytes registered
abbrev counted : ℕ → TrackedFile → TrackedFile
counted n f = record f { registered = f.registered + n }

abbrev uncounted : ℕ → TrackedFile → TrackedFile
uncounted n f = record f { registered = f.registered - n }

-- one dependency more is counted
counted_more : (fs gs : List TrackedFile) (ds : List FileXorbDependency) (i : ℕ) (e : FileXorbDependency) (x : TrackedFile) → CountedIn fs gs (take i ds) → i < length ds → (get_or ds i e).file_id < length gs
    → x ≡ get_or gs (get_or ds i e).file_id x → CountedIn fs (set gs (get_or ds i e).file_id (record x { registered = x.registered + (get_or ds i e).n_bytes })) (take (i + 1) ds)
counted_more fs gs ds i e x k at inside is = record { count = length-set gs (get_or ds i e).file_id (record x { registered = x.registered + (get_or ds i e).n_bytes }) ∙ k.count; each = λ f z l. go f z l (nat_eq (get_or ds i e).file_id f) refl }
  where
    go : (f : ℕ) (z : TrackedFile) → f < length fs → (b : Bool) → nat_eq (get_or ds i e).file_id f ≡ b
        → get_or (set gs (get_or ds i e).file_id (record x { registered = x.registered + (get_or ds i e).n_bytes })) f z ≡ counted (sum_by (of_file f) (take (i + 1) ds)) (get_or fs f z)
    go f z l true q =
        let same = eqb-true (get_or ds i e).file_id f q in
        let len = k.count in
        let s : sum_by (of_file f) (take (i + 1) ds) ≡ sum_by (of_file f) (take i ds) + (get_or ds i e).n_bytes = sum_by_more (of_file f) ds i e at ∙ ap (λ b. sum_by (of_file f) (take i ds) + cond b (get_or ds i e).n_bytes 0) q in
        let was : x ≡ counted (sum_by (of_file f) (take i ds)) (get_or fs f z) = is ∙ ap (λ (j : ℕ). get_or gs j x) same ∙ get_or_default gs f x z (omega (arith, l, len)) ∙ k.each f z l in
        let sum : ((get_or fs f z).registered + sum_by (of_file f) (take i ds)) + (get_or ds i e).n_bytes ≡ (get_or fs f z).registered + sum_by (of_file f) (take (i + 1) ds) = omega (arith, s) in
        ap (λ (j : ℕ). get_or (set gs j (record x { registered = x.registered + (get_or ds i e).n_bytes })) f z) same
        ∙ get_or-set_same gs f (record x { registered = x.registered + (get_or ds i e).n_bytes }) z (omega (arith, l, len))
        ∙ ap (λ (y : TrackedFile). counted (get_or ds i e).n_bytes y) was
        ∙ ap (λ (n : ℕ). let y : TrackedFile = record (get_or fs f z) { registered = n } in y) sum
    go f z l false q =
        let other : f ≢ (get_or ds i e).file_id = λ r. eqb-false (get_or ds i e).file_id f q (sym r) in
        let more = sum_by_more (of_file f) ds i e at ∙ ap (λ b. sum_by (of_file f) (take i ds) + cond b (get_or ds i e).n_bytes 0) q in
        let s : sum_by (of_file f) (take i ds) ≡ sum_by (of_file f) (take (i + 1) ds) = omega (arith, more) in
        get_or-set_other gs (get_or ds i e).file_id f (record x { registered = x.registered + (get_or ds i e).n_bytes }) z other ∙ k.each f z l ∙ ap (λ n. counted n (get_or fs f z)) s

not_past : (t c n : ℕ) → past_total t c n ≡ None → c + n ≤ t
not_past t c n h = go (nat_le (c + n) t) refl h
  where
    go : (b : Bool) → nat_le (c + n) t ≡ b → cond b None (Some (PastTotal t c n)) ≡ None → c + n ≤ t
    go true q e = leb-true (c + n) t q
    go false q e = absurd (cc)

-- what doesn't pass the total of a file fits it
fits_file : (gs : List TrackedFile) (id n : ℕ) (e x : TrackedFile) → id < length gs → x ≡ get_or gs id x → past_total (get_or gs id e).total (get_or gs id e).registered n ≡ None → x.registered + n ≤ x.total
fits_file gs id n e x l is h =
    let same = is ∙ get_or_default gs id x e l in
    not_past x.total x.registered n (ap (λ (y : TrackedFile). past_total y.total y.registered n) same ∙ h)

-- each file still has no more registered than its total
within_more : (gs : List TrackedFile) (id : ℕ) (y : TrackedFile) → id < length gs → All (λ f. f.registered ≤ f.total) gs → y.registered ≤ y.total → All (λ f. f.registered ≤ f.total) (set gs id y)
within_more gs id y inside w h j z l = go (nat_eq j id) refl
  where
    go : (b : Bool) → nat_eq j id ≡ b → (get_or (set gs id y) j z).registered ≤ (get_or (set gs id y) j z).total
    go true q =
        let there = ap (λ (k : ℕ). get_or (set gs id y) k z) (eqb-true j id q) ∙ get_or-set_same gs id y z inside in
        let r = ap (λ (x : TrackedFile). x.registered) there in
        let t = ap (λ (x : TrackedFile). x.total) there in
        omega (arith, r, t, h)
    go false q =
        let there = get_or-set_other gs id j y z (eqb-false j id q) in
        let r = ap (λ (x : TrackedFile). x.registered) there in
        let t = ap (λ (x : TrackedFile). x.total) there in
        let n = length-set gs id y in
        let o = w j z (omega (arith, l, n)) in
        omega (arith, r, t, o)

-- the test of a dependency over the files in which those before it are counted
past_at : (fs gs : List TrackedFile) (ds : List FileXorbDependency) (i : ℕ) (e : FileXorbDependency) (z : TrackedFile) → CountedIn fs gs (take i ds) → (get_or ds i e).file_id < length fs
    → past_in fs (take i ds) (get_or ds i e) ≡ past_total (get_or gs (get_or ds i e).file_id z).total (get_or gs (get_or ds i e).file_id z).registered (get_or ds i e).n_bytes
past_at fs gs ds i e z k l =
    let len = k.count in
    let was = get_or_default gs (get_or ds i e).file_id z (record { fixed = false; total = 0; registered = 0; completed = 0 }) (omega (arith, l, len)) ∙ k.each (get_or ds i e).file_id (record { fixed = false; total = 0; registered = 0; completed = 0 }) l in
    sym (ap (λ (y : TrackedFile). past_total y.total y.registered (get_or ds i e).n_bytes) was)

-- a dependency that passes no total leaves those after it to be tested
rest_more : (fs gs : List TrackedFile) (ds : List FileXorbDependency) (i : ℕ) (e : FileXorbDependency) (z : TrackedFile) → CountedIn fs gs (take i ds) → i < length ds → (get_or ds i e).file_id < length fs
    → pasts_in fs [] ds ≡ pasts_in fs (take i ds) (drop i ds) → past_total (get_or gs (get_or ds i e).file_id z).total (get_or gs (get_or ds i e).file_id z).registered (get_or ds i e).n_bytes ≡ None
    → pasts_in fs [] ds ≡ pasts_in fs (take (i + 1) ds) (drop (i + 1) ds)
rest_more fs gs ds i e z k at known so_far none =
    so_far ∙ ap (λ l. pasts_in fs (take i ds) l) (drop_more ds i e at)
    ∙ ap (λ o. or_else o (pasts_in fs (take i ds ++ get_or ds i e ∷ []) (drop (i + 1) ds))) (past_at fs gs ds i e z k known ∙ none)
    ∙ ap (λ l. pasts_in fs l (drop (i + 1) ds)) (sym (take_more ds i e at))

-- one that does is the first
rest_ends : (fs gs : List TrackedFile) (ds : List FileXorbDependency) (i : ℕ) (e : FileXorbDependency) (z : TrackedFile) (why : Invalid) → CountedIn fs gs (take i ds) → i < length ds → (get_or ds i e).file_id < length fs
    → pasts_in fs [] ds ≡ pasts_in fs (take i ds) (drop i ds) → past_total (get_or gs (get_or ds i e).file_id z).total (get_or gs (get_or ds i e).file_id z).registered (get_or ds i e).n_bytes ≡ Some why
    → pasts_in fs [] ds ≡ Some why
rest_ends fs gs ds i e z why k at known so_far some =
    so_far ∙ ap (λ l. pasts_in fs (take i ds) l) (drop_more ds i e at)
    ∙ ap (λ o. or_else o (pasts_in fs (take i ds ++ get_or ds i e ∷ []) (drop (i + 1) ds))) (past_at fs gs ds i e z k known ∙ some)

-- a turn of the loop that counts: the test of dependency `i` was made on the file `y`, which is still there as `x`
module _ (fs gs : List TrackedFile) (ds : List FileXorbDependency) (i : ℕ) (e : FileXorbDependency) (y : TrackedFile) (k : CountedIn fs gs (take i ds)) (at : i < length ds) (known : All (λ d. d.file_id < length fs) ds) (y_is : y ≡ get_or gs (get_or ds i e).file_id y) where
  inside : (get_or ds i e).file_id < length gs
  inside = let a = known i e at in let b = k.count in omega (arith, a, b)

  tested : (o : Option Invalid) → past_total y.total y.registered (get_or ds i e).n_bytes ≡ o → past_total (get_or gs (get_or ds i e).file_id y).total (get_or gs (get_or ds i e).file_id y).registered (get_or ds i e).n_bytes ≡ o
  tested o h = ap (λ (f : TrackedFile). past_total f.total f.registered (get_or ds i e).n_bytes) (sym y_is) ∙ h

  pub turn_ends : (why : Invalid) → pasts_in fs [] ds ≡ pasts_in fs (take i ds) (drop i ds) → past_total y.total y.registered (get_or ds i e).n_bytes ≡ Some why → pasts_in fs [] ds ≡ Some why
  turn_ends why so_far h = rest_ends fs gs ds i e y why k at (known i e at) so_far (tested (Some why) h)

  pub turn_rest : pasts_in fs [] ds ≡ pasts_in fs (take i ds) (drop i ds) → past_total y.total y.registered (get_or ds i e).n_bytes ≡ None → pasts_in fs [] ds ≡ pasts_in fs (take (i + 1) ds) (drop (i + 1) ds)
  turn_rest so_far h = rest_more fs gs ds i e y k at (known i e at) so_far (tested None h)

  module _ (x : TrackedFile) (x_is : x ≡ get_or gs (get_or ds i e).file_id x) where
    pub turn_counted : CountedIn fs (set gs (get_or ds i e).file_id (record x { registered = x.registered + (get_or ds i e).n_bytes })) (take (i + 1) ds)
    turn_counted = counted_more fs gs ds i e x k at inside x_is

    pub turn_small : y.registered + (get_or ds i e).n_bytes < 2 ^ 64 → x.registered + (get_or ds i e).n_bytes < 2 ^ 64
    turn_small h =
        let same = ap (λ (f : TrackedFile). f.registered) (x_is ∙ get_or_default gs (get_or ds i e).file_id x y inside ∙ sym y_is) in
        omega (arith, same, h)

    turn_fits : past_total y.total y.registered (get_or ds i e).n_bytes ≡ None → x.registered + (get_or ds i e).n_bytes ≤ x.total
    turn_fits h = fits_file gs (get_or ds i e).file_id (get_or ds i e).n_bytes y x inside x_is (tested None h)

    pub turn_within : past_total y.total y.registered (get_or ds i e).n_bytes ≡ None → All (λ f. f.registered ≤ f.total) gs → All (λ f. f.registered ≤ f.total) (set gs (get_or ds i e).file_id (record x { registered = x.registered + (get_or ds i e).n_bytes }))
    turn_within h w = within_more gs (get_or ds i e).file_id (record x { registered = x.registered + (get_or ds i e).n_bytes }) inside w (turn_fits h)

-- what is left to be taken back
abbrev pub Left : List TrackedFile → List FileXorbDependency → Type 0
Left gs ds = (f : ℕ) (z : TrackedFile) → f < length gs → sum_by (of_file f) ds ≤ (get_or gs f z).registered

rest_sum : (ds : List FileXorbDependency) (i f : ℕ) (e : FileXorbDependency) → i < length ds → sum_by (of_file f) (drop i ds) ≡ cond (nat_eq (get_or ds i e).file_id f) (get_or ds i e).n_bytes 0 + sum_by (of_file f) (drop (i + 1) ds)
rest_sum ds i f e at = ap (λ l. sum_by (of_file f) l) (drop_more ds i e at) ∙ sum_by-cons (of_file f) (get_or ds i e) (drop (i + 1) ds)

-- a file has what is taken back of it
pub has_enough : (gs : List TrackedFile) (ds : List FileXorbDependency) (i : ℕ) (e : FileXorbDependency) (x : TrackedFile) → Left gs (drop i ds) → i < length ds → (get_or ds i e).file_id < length gs → x ≡ get_or gs (get_or ds i e).file_id x → (get_or ds i e).n_bytes ≤ x.registered
has_enough gs ds i e x left at inside is =
    let a = left (get_or ds i e).file_id x inside in
    let b = rest_sum ds i (get_or ds i e).file_id e at ∙ ap (λ b. cond b (get_or ds i e).n_bytes 0 + sum_by (of_file (get_or ds i e).file_id) (drop (i + 1) ds)) (eq-eqb (get_or ds i e).file_id (get_or ds i e).file_id refl) in
    let c = ap (λ (y : TrackedFile). y.registered) is in
    omega (arith, a, b, c)

-- one dependency more is taken back
pub taken_more : (fs gs : List TrackedFile) (ds : List FileXorbDependency) (i : ℕ) (e : FileXorbDependency) (x : TrackedFile) → CountedIn gs fs (take i ds) → i < length ds → (get_or ds i e).file_id < length gs
    → x ≡ get_or gs (get_or ds i e).file_id x → (get_or ds i e).n_bytes ≤ x.registered → CountedIn (set gs (get_or ds i e).file_id (record x { registered = x.registered - (get_or ds i e).n_bytes })) fs (take (i + 1) ds)
taken_more fs gs ds i e x k at inside is fit = record { count = k.count ∙ sym (length-set gs (get_or ds i e).file_id (record x { registered = x.registered - (get_or ds i e).n_bytes })); each = λ f z l. go f z l (nat_eq (get_or ds i e).file_id f) refl }
  where
    go : (f : ℕ) (z : TrackedFile) → f < length (set gs (get_or ds i e).file_id (record x { registered = x.registered - (get_or ds i e).n_bytes })) → (b : Bool) → nat_eq (get_or ds i e).file_id f ≡ b
        → get_or fs f z ≡ counted (sum_by (of_file f) (take (i + 1) ds)) (get_or (set gs (get_or ds i e).file_id (record x { registered = x.registered - (get_or ds i e).n_bytes })) f z)
    go f z l true q =
        let same = eqb-true (get_or ds i e).file_id f q in
        let len = length-set gs (get_or ds i e).file_id (record x { registered = x.registered - (get_or ds i e).n_bytes }) in
        let s : sum_by (of_file f) (take (i + 1) ds) ≡ sum_by (of_file f) (take i ds) + (get_or ds i e).n_bytes = sum_by_more (of_file f) ds i e at ∙ ap (λ b. sum_by (of_file f) (take i ds) + cond b (get_or ds i e).n_bytes 0) q in
        let was : get_or gs f z ≡ x = sym (is ∙ ap (λ (j : ℕ). get_or gs j x) same ∙ get_or_default gs f x z (omega (arith, l, len))) in
        let there : get_or (set gs (get_or ds i e).file_id (record x { registered = x.registered - (get_or ds i e).n_bytes })) f z ≡ uncounted (get_or ds i e).n_bytes x =
        ap (λ (j : ℕ). get_or (set gs j (record x { registered = x.registered - (get_or ds i e).n_bytes })) f z) same ∙ get_or-set_same gs f (record x { registered = x.registered - (get_or ds i e).n_bytes }) z (omega (arith, l, len)) in
        let sum : x.registered + sum_by (of_file f) (take i ds) ≡ (x.registered - (get_or ds i e).n_bytes) + sum_by (of_file f) (take (i + 1) ds) = omega (arith, s, fit) in
        k.each f z (omega (arith, l, len)) ∙ ap (λ (y : TrackedFile). counted (sum_by (of_file f) (take i ds)) y) was
        ∙ ap (λ (n : ℕ). let y : TrackedFile = record x { registered = n } in y) sum
        ∙ ap (λ (y : TrackedFile). counted (sum_by (of_file f) (take (i + 1) ds)) y) (sym there)
    go f z l false q =
        let other : f ≢ (get_or ds i e).file_id = λ r. eqb-false (get_or ds i e).file_id f q (sym r) in
        let len = length-set gs (get_or ds i e).file_id (record x { registered = x.registered - (get_or ds i e).n_bytes }) in
        let more = sum_by_more (of_file f) ds i e at ∙ ap (λ b. sum_by (of_file f) (take i ds) + cond b (get_or ds i e).n_bytes 0) q in
        let s : sum_by (of_file f) (take i ds) ≡ sum_by (of_file f) (take (i + 1) ds) = omega (arith, more) in
        k.each f z (omega (arith, l, len)) ∙ ap (λ n. counted n (get_or gs f z)) s
        ∙ ap (λ (y : TrackedFile). counted (sum_by (of_file f) (take (i + 1) ds)) y) (sym (get_or-set_other gs (get_or ds i e).file_id f (record x { registered = x.registered - (get_or ds i e).n_bytes }) z other))

-- and the files have what is left
pub left_less : (gs : List TrackedFile) (ds : List FileXorbDependency) (i : ℕ) (e : FileXorbDependency) (x : TrackedFile) → Left gs (drop i ds) → i < length ds → (get_or ds i e).file_id < length gs → x ≡ get_or gs (get_or ds i e).file_id x
    → Left (set gs (get_or ds i e).file_id (record x { registered = x.registered - (get_or ds i e).n_bytes })) (drop (i + 1) ds)
left_less gs ds i e x left at inside is f z l = go (nat_eq (get_or ds i e).file_id f) refl
  where
    go : (b : Bool) → nat_eq (get_or ds i e).file_id f ≡ b → sum_by (of_file f) (drop (i + 1) ds) ≤ (get_or (set gs (get_or ds i e).file_id (record x { registered = x.registered - (get_or ds i e).n_bytes })) f z).registered
    go true q =
        let same = eqb-true (get_or ds i e).file_id f q in
        let len = length-set gs (get_or ds i e).file_id (record x { registered = x.registered - (get_or ds i e).n_bytes }) in
        let a = left f z (omega (arith, l, len)) in
        let b = rest_sum ds i f e at ∙ ap (λ b. cond b (get_or ds i e).n_bytes 0 + sum_by (of_file f) (drop (i + 1) ds)) q in
        let was = ap (λ (y : TrackedFile). y.registered) (is ∙ ap (λ (j : ℕ). get_or gs j x) same ∙ get_or_default gs f x z (omega (arith, l, len))) in
        let there = ap (λ (y : TrackedFile). y.registered) (ap (λ (j : ℕ). get_or (set gs j (record x { registered = x.registered - (get_or ds i e).n_bytes })) f z) same ∙ get_or-set_same gs f (record x { registered = x.registered - (get_or ds i e).n_bytes }) z (omega (arith, l, len))) in
        omega (arith, a, b, was, there)
    go false q =
        let other : f ≢ (get_or ds i e).file_id = λ r. eqb-false (get_or ds i e).file_id f q (sym r) in
        let len = length-set gs (get_or ds i e).file_id (record x { registered = x.registered - (get_or ds i e).n_bytes }) in
        let a = left f z (omega (arith, l, len)) in
        let b = rest_sum ds i f e at ∙ ap (λ b. cond b (get_or ds i e).n_bytes 0 + sum_by (of_file f) (drop (i + 1) ds)) q in
        let there = ap (λ (y : TrackedFile). y.registered) (get_or-set_other gs (get_or ds i e).file_id f (record x { registered = x.registered - (get_or ds i e).n_bytes }) z other) in
        omega (arith, a, b, there)
