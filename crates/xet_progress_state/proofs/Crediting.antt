-- One step of crediting the parts of a xorb.
use Rattle.std.proofs.Common.{◌≡◌, ◌≢◌, ℕ, Bool, true, false, cond, List, [], ◌∷◌, ◌++◌, refl, sym, ◌∙◌, ap, ◌+◌, ◌-◌, ◌<◌, ◌≤◌, ◌^◌, suc, length, map, take, drop, get_or, set, arith}
use Rattle.std.specs.Prelude.{nat_eq}
use Rattle.std.specs.List.{sum_by}
use Rattle.std.proofs.lemmas.Bool.{eqb-true, eqb-false, eq-eqb}
use Rattle.std.proofs.lemmas.List.{get_or-append_right, get_or-drop, get_or_default, get_or-set_same, get_or-set_other, length-set, length-map, length-take-le, take_more, map-append, drop_more, set_at, append_assoc}
use Rattle.std.proofs.lemmas.List.Sums.{sum_by-cons, sum_by_more, sum_by_more_le, sum_by-set, get_or-le-sum_by, sum_by-take-le}
use Rattle.xet_progress_state.specs.declared.file.TrackedFile.{TrackedFile}
use Rattle.xet_progress_state.specs.declared.part.Part.{Part}
use Rattle.xet_progress_state.specs.steps.Credits.{CanCredit, Credited, completed_in, total_in, gain, gain_in, with_more}

abbrev pub blank : TrackedFile
blank = record { fixed = false; total = 0; registered = 0; completed = 0 }

-- sums over lists of one length go by their elements
pub sum_le_at : {A : Type 0} (f g : A → ℕ) (xs ys : List A) → length xs ≡ length ys → ((k : ℕ) (d : A) → k < length ys → f (get_or xs k d) ≤ g (get_or ys k d)) → sum_by f xs ≤ sum_by g ys
sum_le_at f g [] [] e h = omega arith
sum_le_at f g [] (y ∷ ys) e h = absurd (omega (arith, e))
sum_le_at f g (x ∷ xs) [] e h = absurd (omega (arith, e))
sum_le_at f g (x ∷ xs) (y ∷ ys) e h =
    let a = sum_by-cons f x xs in
    let b = sum_by-cons g y ys in
    let first : f x ≤ g y = h 0 x (omega arith) in
    let rest = sum_le_at f g xs ys (omega (arith, e)) (λ k d l. h (suc k) d (omega (arith, l))) in
    omega (arith, a, b, first, rest)

-- the element that the loop looks at is the one that was there at first
pub still_there : {A : Type 0} (g : A → A) (ps : List A) (i : ℕ) (d : A) → i < length ps → get_or (map g (take i ps) ++ drop i ps) i d ≡ get_or ps i d
still_there g ps i d h =
    let len : length (map g (take i ps)) ≡ i = length-map (take i ps) g ∙ length-take-le i ps (omega arith) in
    let e : i + (i - i) ≡ i = omega arith in
    get_or-append_right (map g (take i ps)) (drop i ps) i i d len (omega arith)
    ∙ get_or-drop i ps (i - i) d ∙ ap (λ (k : ℕ). get_or ps k d) e

pub mapped_more : {A : Type 0} (g : A → A) (ps : List A) (i : ℕ) (d : A) → i < length ps
    → set (map g (take i ps) ++ drop i ps) i (g (get_or ps i d)) ≡ map g (take (i + 1) ps) ++ drop (i + 1) ps
mapped_more g ps i d h =
    let len : length (map g (take i ps)) ≡ i = length-map (take i ps) g ∙ length-take-le i ps (omega arith) in
    ap (λ l. set (map g (take i ps) ++ l) i (g (get_or ps i d))) (drop_more ps i d h)
    ∙ set_at (map g (take i ps)) (get_or ps i d) (drop (i + 1) ps) (g (get_or ps i d)) i len
    ∙ sym (ap (λ l. map g l ++ drop (i + 1) ps) (take_more ps i d h) ∙ ap (λ l. l ++ drop (i + 1) ps) (map-append g (take i ps) (get_or ps i d ∷ [])) ∙ append_assoc (map g (take i ps)) (g (get_or ps i d) ∷ []) (drop (i + 1) ps))

module _ (fs : List TrackedFile) (ps : List Part) (sent size : ℕ) (can : CanCredit fs ps sent size) where
  -- what the files completed fits their totals
  pub credited_fits : (gs : List TrackedFile) (i : ℕ) → length gs ≡ length fs → Credited fs gs (take i ps) sent size → completed_in gs ≤ total_in fs
  credited_fits gs i len done = sum_le_at (λ f. f.completed) (λ f. f.total) gs fs len (λ k d l.
      let e = ap (λ (f : TrackedFile). f.completed) (done k d l) in
      let room = can.room k d l in
      let part = sum_by-take-le (gain_in sent size k) ps i in
      omega (arith, e, room, part))

  module _ (gs : List TrackedFile) (i : ℕ) (d : Part) (len : length gs ≡ length fs) (at : i < length ps) (done : Credited fs gs (take i ps) sent size) where
    known : (get_or ps i d).file < length fs
    known = can.known i d at

    own : gain_in sent size (get_or ps i d).file (get_or ps i d) ≡ gain sent size (get_or ps i d)
    own = ap (λ b. cond b (gain sent size (get_or ps i d)) 0) (eq-eqb (get_or ps i d).file (get_or ps i d).file refl)

    pub file_room : (get_or gs (get_or ps i d).file blank).completed + gain sent size (get_or ps i d) < 2 ^ 64
    file_room =
        let f = (get_or ps i d).file in
        let e = ap (λ (f : TrackedFile). f.completed) (done f blank known) in
        let more = sum_by_more_le (gain_in sent size f) ps i d at in
        let room = can.room f blank known in
        let all = get_or-le-sum_by (λ (f : TrackedFile). f.total) fs f blank known in
        let fits = can.fits in
        omega (arith, e, more, room, all, fits, own)

    pub credited_more : Credited fs (set gs (get_or ps i d).file (with_more (gain sent size (get_or ps i d)) (get_or gs (get_or ps i d).file blank))) (take (i + 1) ps) sent size
    credited_more f c h =
        go (nat_eq (get_or ps i d).file f) refl (sum_by_more (gain_in sent size f) ps i d at)
      where
        q : Part
        q = get_or ps i d

        go : (b : Bool) → nat_eq (get_or ps i d).file f ≡ b → sum_by (gain_in sent size f) (take (i + 1) ps) ≡ sum_by (gain_in sent size f) (take i ps) + cond (nat_eq (get_or ps i d).file f) (gain sent size (get_or ps i d)) 0
            → get_or (set gs (get_or ps i d).file (with_more (gain sent size (get_or ps i d)) (get_or gs (get_or ps i d).file blank))) f c ≡ with_more (sum_by (gain_in sent size f) (take (i + 1) ps)) (get_or fs f c)
        go true e s =
            let same = eqb-true (get_or ps i d).file f e in
            let s' : sum_by (gain_in sent size f) (take (i + 1) ps) ≡ sum_by (gain_in sent size f) (take i ps) + gain sent size (get_or ps i d) = s ∙ ap (λ b. sum_by (gain_in sent size f) (take i ps) + cond b (gain sent size (get_or ps i d)) 0) e in
            let was : get_or gs (get_or ps i d).file blank ≡ with_more (sum_by (gain_in sent size f) (take i ps)) (get_or fs f c) =
            ap (λ (k : ℕ). get_or gs k blank) same ∙ get_or_default gs f blank c (omega (arith, len, h)) ∙ done f c h in
            let sum : ((get_or fs f c).completed + sum_by (gain_in sent size f) (take i ps)) + gain sent size (get_or ps i d) ≡ (get_or fs f c).completed + sum_by (gain_in sent size f) (take (i + 1) ps) = omega (arith, s') in
            ap (λ (k : ℕ). get_or (set gs k (with_more (gain sent size (get_or ps i d)) (get_or gs (get_or ps i d).file blank))) f c) same
            ∙ get_or-set_same gs f (with_more (gain sent size (get_or ps i d)) (get_or gs (get_or ps i d).file blank)) c (omega (arith, len, h))
            ∙ ap (λ (g : TrackedFile). with_more (gain sent size (get_or ps i d)) g) was
            ∙ ap (λ (n : ℕ). let r : TrackedFile = record (get_or fs f c) { completed = n } in r) sum
        go false e s =
            let other : f ≢ (get_or ps i d).file = λ k. eqb-false (get_or ps i d).file f e (sym k) in
            let s' : sum_by (gain_in sent size f) (take i ps) ≡ sum_by (gain_in sent size f) (take (i + 1) ps) = omega (arith, s ∙ ap (λ b. sum_by (gain_in sent size f) (take i ps) + cond b (gain sent size (get_or ps i d)) 0) e) in
            get_or-set_other gs (get_or ps i d).file f (with_more (gain sent size (get_or ps i d)) (get_or gs (get_or ps i d).file blank)) c other
            ∙ done f c h ∙ ap (λ n. with_more n (get_or fs f c)) s'

    pub completed_more : completed_in (set gs (get_or ps i d).file (with_more (gain sent size (get_or ps i d)) (get_or gs (get_or ps i d).file blank))) ≡ completed_in gs + gain sent size (get_or ps i d)
    completed_more =
        let s = sum_by-set (λ (f : TrackedFile). f.completed) gs (get_or ps i d).file (with_more (gain sent size (get_or ps i d)) (get_or gs (get_or ps i d).file blank)) blank (let k = known in omega (arith, len, k)) in
        omega (arith, s)

    pub room : completed_in gs + gain sent size (get_or ps i d) < 2 ^ 64
    room =
        let a = credited_fits (set gs (get_or ps i d).file (with_more (gain sent size (get_or ps i d)) (get_or gs (get_or ps i d).file blank))) (i + 1) (length-set gs (get_or ps i d).file _ ∙ len) credited_more in
        let b = completed_more in
        let fits = can.fits in
        omega (arith, a, b, fits)
