-- The tracker after growth of a file.
use Rattle.std.proofs.Common.{◌≡◌, ◌≢◌, ℕ, Bool, true, false, cond, List, [], ◌∷◌, ◌++◌, refl, sym, ◌∙◌, ap, ◌+◌, ◌<◌, ◌≤◌, zero, suc, length, map, get_or, set, arith}
use Rattle.std.specs.Prelude.{Option, Some, None, find, nat_eq, slice_get, unwrap_or, is_some}
use Rattle.std.specs.List.{sum_by, enumerate_from}
use Rattle.std.proofs.lemmas.Bool.{true≢false, eqb-true, eqb-false}
use Rattle.std.proofs.lemmas.List.{length-set, length-map, get_or-set_same, get_or-set_other, get_or_default, ext_get_or}
use Rattle.std.proofs.lemmas.List.FromFn.{length-enumerate_from}
use Rattle.std.proofs.lemmas.List.Sums.{sum_by_push, sum_by-set}
use Rattle.xet_base.specs.Hashes.{hash_eq}
use Rattle.xet_progress_state.specs.declared.step.TrackerStep.{TrackerStep}
use Rattle.xet_progress_state.specs.declared.step.TrackerStep.TheVariants.{IncrementFileSize}
use Rattle.xet_progress_state.specs.declared.file.TrackedFile.{TrackedFile}
use Rattle.xet_progress_state.specs.declared.xorb.TrackedXorb.{TrackedXorb}
use Rattle.xet_progress_state.specs.Counts.{new_file, growth, sizes, files, grown, total_of, registered, completed_of, of_file, all_total}
use Rattle.xet_progress_state.specs.Accepted.{growth_test, too_great}
use Rattle.xet_progress_state.specs.steps.Kept.{IsKept, tracked}
use Rattle.xet_progress_state.specs.steps.Credits.{total_in}
use Rattle.xet_progress_state.proofs.Pushed.{SameCounts, IsQuiet, same_push, flat_push_none, sum_ext, completed_same}
use Rattle.xet_progress_state.proofs.NewFile.{xorb_same, fits_same, sizes_same, kept_count}
use Rattle.xet_progress_state.proofs.Places.{get_some}
use Rattle.xet_progress_state.proofs.Moved.{file_at, kept_at, sum_by-map, total_kept}

-- no element past the end
pub get_none : {A : Type 0} (xs : List A) (i : ℕ) → length xs ≤ i → slice_get xs i ≡ None
get_none [] i h = refl
get_none (x ∷ xs) zero h = absurd (omega (arith, h))
get_none (x ∷ xs) (suc i) h = get_none xs i (omega (arith, h))

-- a file's total is a part of all
pub total_le : (fs : List TrackedFile) (f : ℕ) (e : TrackedFile) → f < length fs → (get_or fs f e).total ≤ total_in fs
total_le fs f e l =
    let a = sum_by-set (λ (x : TrackedFile). x.total) fs f (record { fixed = false; total = 0; registered = 0; completed = 0 }) e l in
    omega (arith, a)

-- the test of growth at a fixed size, and at one that grows
pub fixed_test : (cs : List TrackerStep) (f k : ℕ) (o : Option ℕ) → is_some o ≡ true → growth_test cs f k (Some o) ≡ None
fixed_test cs f k None e = absurd (true≢false (sym e))
fixed_test cs f k (Some n) e = refl

pub free_test : (cs : List TrackerStep) (f k : ℕ) (o : Option ℕ) → is_some o ≡ false → growth_test cs f k (Some o) ≡ too_great (all_total cs) k
free_test cs f k None e = refl
free_test cs f k (Some n) e = absurd (true≢false e)

module _ (cs : List TrackerStep) (f k : ℕ) where
  quiet : IsQuiet (IncrementFileSize f k)
  quiet = record { no_xorb = refl; no_dependency = refl; no_completion = λ h. refl; no_progress = λ h. refl; no_bytes = λ h. refl }

  same : SameCounts cs (cs ++ IncrementFileSize f k ∷ [])
  same = same_push cs (IncrementFileSize f k) quiet

  sizes_kept : sizes (cs ++ IncrementFileSize f k ∷ []) ≡ sizes cs
  sizes_kept = flat_push_none new_file cs (IncrementFileSize f k) refl

  grown_more : (g : ℕ) → grown (cs ++ IncrementFileSize f k ∷ []) g ≡ grown cs g + cond (nat_eq f g) k 0
  grown_more g = sum_by_push (growth g) cs (IncrementFileSize f k)

  reg : (g : ℕ) → registered (cs ++ IncrementFileSize f k ∷ []) g ≡ registered cs g
  reg g = ap (λ l. sum_by (of_file g) l) same.same_dependencies

  -- the total of a file after it, by its fixed size
  total_more : (g : ℕ) → total_of (cs ++ IncrementFileSize f k ∷ []) (file_at (cs ++ IncrementFileSize f k ∷ []) g) ≡ unwrap_or (get_or (sizes cs) g None) (grown cs g + cond (nat_eq f g) k 0)
  total_more g = let a = ap (λ (l : List (Option ℕ)). get_or l g None) sizes_kept in let b = grown_more g in λ i. unwrap_or (a i) (b i)

  total_apart : (g : ℕ) → nat_eq f g ≡ false → total_of (cs ++ IncrementFileSize f k ∷ []) (file_at (cs ++ IncrementFileSize f k ∷ []) g) ≡ total_of cs (file_at cs g)
  total_apart g e =
      let z : grown cs g + cond (nat_eq f g) k 0 ≡ grown cs g = (let c = ap (λ b. cond b k 0) e in omega (arith, c)) in
      total_more g ∙ ap (λ n. unwrap_or (get_or (sizes cs) g None) n) z

  module _ (fs gs : List TrackedFile) (xs : List TrackedXorb) (t u c s : ℕ) (kept : IsKept cs fs xs t c s) (len : length gs ≡ length fs)
      (at : (g : ℕ) (e : TrackedFile) → g < length fs → get_or gs g e ≡ record (get_or fs g e) { total = total_of (cs ++ IncrementFileSize f k ∷ []) (file_at (cs ++ IncrementFileSize f k ∷ []) g) }) where
    count : length fs ≡ length (sizes cs)
    count = kept_count cs fs xs t c s kept

    file_is : (g : ℕ) (e : TrackedFile) → g < length gs → get_or gs g e ≡ get_or (map (tracked (cs ++ IncrementFileSize f k ∷ [])) (files (cs ++ IncrementFileSize f k ∷ []))) g e
    file_is g e l =
        let inside : g < length fs = omega (arith, l, len) in
        let inside' : g < length (sizes cs) = (let b = count in omega (arith, inside, b)) in
        let inside'' : g < length (sizes (cs ++ IncrementFileSize f k ∷ [])) = (let b = ap (λ (l : List (Option ℕ)). length l) sizes_kept in omega (arith, inside', b)) in
        let old = kept_at cs fs g e kept.files_are inside' in
        let fixed : get_or (sizes (cs ++ IncrementFileSize f k ∷ [])) g None ≡ get_or (sizes cs) g None = ap (λ (l : List (Option ℕ)). get_or l g None) sizes_kept in
        let r = reg g in
        let fin = completed_same cs (cs ++ IncrementFileSize f k ∷ []) same g in
        at g e inside
        ∙ ap (λ (x : TrackedFile). let y : TrackedFile = record x { total = total_of (cs ++ IncrementFileSize f k ∷ []) (file_at (cs ++ IncrementFileSize f k ∷ []) g) } in y) old
        ∙ (λ i. let y : TrackedFile = record { fixed = is_some (sym fixed i); total = total_of (cs ++ IncrementFileSize f k ∷ []) (file_at (cs ++ IncrementFileSize f k ∷ []) g); registered = sym r i; completed = sym fin i } in y)
        ∙ sym (kept_at (cs ++ IncrementFileSize f k ∷ []) (map (tracked (cs ++ IncrementFileSize f k ∷ [])) (files (cs ++ IncrementFileSize f k ∷ []))) g e refl inside'')

    files_grown : gs ≡ map (tracked (cs ++ IncrementFileSize f k ∷ [])) (files (cs ++ IncrementFileSize f k ∷ []))
    files_grown =
        let a = length-map (files (cs ++ IncrementFileSize f k ∷ [])) (tracked (cs ++ IncrementFileSize f k ∷ [])) in
        let b = length-enumerate_from 0 (sizes (cs ++ IncrementFileSize f k ∷ [])) in
        let e = ap (λ (l : List (Option ℕ)). length l) sizes_kept in
        let h = count in
        ext_get_or (record { fixed = false; total = 0; registered = 0; completed = 0 }) gs (map (tracked (cs ++ IncrementFileSize f k ∷ [])) (files (cs ++ IncrementFileSize f k ∷ []))) (omega (arith, a, b, e, h, len)) (λ i l. file_is i (record { fixed = false; total = 0; registered = 0; completed = 0 }) l)

    kept_by : u ≡ total_in gs → ((g : ℕ) (e : TrackedFile) → g < length fs → (get_or fs g e).total ≤ (get_or gs g e).total) → f < length (sizes cs) → IsKept (cs ++ IncrementFileSize f k ∷ []) gs xs u c s
    kept_by sum rises there =
        let fl : files (cs ++ IncrementFileSize f k ∷ []) ≡ files cs = ap (λ (l : List (Option ℕ)). enumerate_from 0 l) sizes_kept in
        let many = ap (λ (l : List (Option ℕ)). length l) sizes_kept in
        record {
          files_are = files_grown;
          total_is = sum ∙ ap (λ (l : List TrackedFile). total_in l) files_grown ∙ sum_by-map (λ (f : TrackedFile). f.total) (tracked (cs ++ IncrementFileSize f k ∷ [])) (files (cs ++ IncrementFileSize f k ∷ []));
          completed_is = kept.completed_is ∙ sym (ap (λ l. sum_by (λ (x : ℕ × Option ℕ). completed_of (cs ++ IncrementFileSize f k ∷ []) x.0) l) fl ∙ sum_ext (λ (x : ℕ × Option ℕ). completed_of (cs ++ IncrementFileSize f k ∷ []) x.0) (λ (x : ℕ × Option ℕ). completed_of cs x.0) (files cs) (λ x. completed_same cs (cs ++ IncrementFileSize f k ∷ []) same x.0));
          sizes_are = kept.sizes_are ∙ sym (sizes_same cs (cs ++ IncrementFileSize f k ∷ []) same);
          xorbs_are = λ h. xorb_same cs (cs ++ IncrementFileSize f k ∷ []) h same.same_dependencies (same.same_size h) (same.at h) (omega (arith, many)) (find (λ x. hash_eq x.hash h) xs) (kept.xorbs_are h);
          within = λ i z l.
              let inside : i < length fs = omega (arith, l, len) in
              let a = ap (λ (x : TrackedFile). x.registered) (at i z inside) in
              let b = rises i z inside in
              let w = kept.within i z inside in
              omega (arith, a, b, w);
          plain = record {
            no_growth = λ g l.
                let a = grown_more g in
                let b = kept.plain.no_growth g (omega (arith, many, l)) in
                let z = apart g (λ e. absurd (omega (arith, e, there, l, many))) in
                let c = ap (λ b. cond b k 0) z in
                omega (arith, a, b, c);
            no_dependency = λ g l. reg g ∙ kept.plain.no_dependency g (omega (arith, many, l));
            no_completion = λ h n. (same.at h).same_completed ∙ kept.plain.no_completion h (sym (same.same_size h) ∙ n);
            fits = fits_same cs (cs ++ IncrementFileSize f k ∷ []) same kept.plain;
            no_progress = λ h n. let z = sym (same.same_size h) ∙ n in (same.at h).same_any z ∙ kept.plain.no_progress h z;
          };
        }
      where
        apart : (g : ℕ) → (f ≡ g → ⊥) → nat_eq f g ≡ false
        apart g n = go (nat_eq f g) refl
          where
            go : (b : Bool) → nat_eq f g ≡ b → nat_eq f g ≡ false
            go true e = absurd (n (eqb-true f g e))
            go false e = e

  module _ (fs : List TrackedFile) (xs : List TrackedXorb) (t c s : ℕ) (kept : IsKept cs fs xs t c s) (there : f < length fs) where
    inside : f < length (sizes cs)
    inside = let b = kept_count cs fs xs t c s kept in omega (arith, b, there)

    -- the size that the file has
    pub size_at : slice_get (sizes cs) f ≡ Some (get_or (sizes cs) f None)
    size_at = get_some (sizes cs) f None inside

    pub fixed_at : (e : TrackedFile) → (get_or fs f e).fixed ≡ is_some (get_or (sizes cs) f None)
    fixed_at e = ap (λ (x : TrackedFile). x.fixed) (kept_at cs fs f e kept.files_are inside)

    -- a fixed size stays
    pub kept_fixed : (e : TrackedFile) → (get_or fs f e).fixed ≡ true → IsKept (cs ++ IncrementFileSize f k ∷ []) fs xs t c s
    kept_fixed e fix = kept_by fs fs xs t t c s kept refl (λ g e l. at g e l (nat_eq f g) refl) (sym (total_kept cs fs xs t c s kept)) (λ g e l. omega arith) inside
      where
        fixed_total : (o : Option ℕ) (m n : ℕ) → is_some o ≡ true → unwrap_or o m ≡ unwrap_or o n
        fixed_total None m n q = absurd (true≢false (sym q))
        fixed_total (Some z) m n q = refl

        total : (g : ℕ) (b : Bool) → nat_eq f g ≡ b → total_of cs (file_at cs g) ≡ total_of (cs ++ IncrementFileSize f k ∷ []) (file_at (cs ++ IncrementFileSize f k ∷ []) g)
        total g false q = sym (total_apart g q)
        total g true q =
            let same_id = eqb-true f g q in
            let some : is_some (get_or (sizes cs) g None) ≡ true = ap (λ (j : ℕ). is_some (get_or (sizes cs) j None)) (sym same_id) ∙ sym (fixed_at e) ∙ fix in
            fixed_total (get_or (sizes cs) g None) (grown cs g) (grown cs g + cond (nat_eq f g) k 0) some ∙ sym (total_more g)

        at : (g : ℕ) (e : TrackedFile) → g < length fs → (b : Bool) → nat_eq f g ≡ b → get_or fs g e ≡ record (get_or fs g e) { total = total_of (cs ++ IncrementFileSize f k ∷ []) (file_at (cs ++ IncrementFileSize f k ∷ []) g) }
        at g e l b q =
            let old = kept_at cs fs g e kept.files_are (let n = kept_count cs fs xs t c s kept in omega (arith, n, l)) in
            let a : (get_or fs g e).total ≡ total_of (cs ++ IncrementFileSize f k ∷ []) (file_at (cs ++ IncrementFileSize f k ∷ []) g) = ap (λ (x : TrackedFile). x.total) old ∙ total g b q in
            λ i. let x : TrackedFile = record (get_or fs g e) { total = a i } in x

    -- a file that grows has the bytes more
    pub kept_grown : (e : TrackedFile) → (get_or fs f e).fixed ≡ false → IsKept (cs ++ IncrementFileSize f k ∷ []) (set fs f (record (get_or fs f e) { total = (get_or fs f e).total + k })) xs (t + k) c s
    kept_grown e free = kept_by fs (set fs f (record (get_or fs f e) { total = (get_or fs f e).total + k })) xs t (t + k) c s kept (length-set fs f (record (get_or fs f e) { total = (get_or fs f e).total + k }))
        (λ g d l. at g d l (nat_eq f g) refl)
        (let a = sum_by-set (λ (f : TrackedFile). f.total) fs f (record (get_or fs f e) { total = (get_or fs f e).total + k }) e there in
        let b = total_kept cs fs xs t c s kept in
        omega (arith, a, b))
        (λ g d l. rises g d l (nat_eq f g) refl) inside
      where
        free_total : (o : Option ℕ) (m : ℕ) → is_some o ≡ false → unwrap_or o m ≡ m
        free_total None m q = refl
        free_total (Some z) m q = absurd (true≢false q)

        at : (g : ℕ) (d : TrackedFile) → g < length fs → (b : Bool) → nat_eq f g ≡ b → get_or (set fs f (record (get_or fs f e) { total = (get_or fs f e).total + k })) g d ≡ record (get_or fs g d) { total = total_of (cs ++ IncrementFileSize f k ∷ []) (file_at (cs ++ IncrementFileSize f k ∷ []) g) }
        at g d l false q =
            let other : g ≢ f = λ j. eqb-false f g q (sym j) in
            let old = kept_at cs fs g d kept.files_are (let n = kept_count cs fs xs t c s kept in omega (arith, n, l)) in
            let a : (get_or fs g d).total ≡ total_of (cs ++ IncrementFileSize f k ∷ []) (file_at (cs ++ IncrementFileSize f k ∷ []) g) = ap (λ (x : TrackedFile). x.total) old ∙ sym (total_apart g q) in
            get_or-set_other fs f g (record (get_or fs f e) { total = (get_or fs f e).total + k }) d other
            ∙ (λ i. let x : TrackedFile = record (get_or fs g d) { total = a i } in x)
        at g d l true q =
            let same_id = eqb-true f g q in
            let none : is_some (get_or (sizes cs) g None) ≡ false = ap (λ (j : ℕ). is_some (get_or (sizes cs) j None)) (sym same_id) ∙ sym (fixed_at e) ∙ free in
            let old = kept_at cs fs g d kept.files_are (let n = kept_count cs fs xs t c s kept in omega (arith, n, l)) in
            let was : (get_or fs g d).total ≡ grown cs g = ap (λ (x : TrackedFile). x.total) old ∙ free_total (get_or (sizes cs) g None) (grown cs g) none in
            let is = total_more g ∙ free_total (get_or (sizes cs) g None) (grown cs g + cond (nat_eq f g) k 0) none in
            let more = ap (λ b. cond b k 0) q in
            let a : (get_or fs g d).total + k ≡ total_of (cs ++ IncrementFileSize f k ∷ []) (file_at (cs ++ IncrementFileSize f k ∷ []) g) = omega (arith, was, is, more) in
            ap (λ (j : ℕ). get_or (set fs j (record (get_or fs j e) { total = (get_or fs j e).total + k })) g d) same_id
            ∙ get_or-set_same fs g (record (get_or fs g e) { total = (get_or fs g e).total + k }) d l
            ∙ ap (λ (x : TrackedFile). let y : TrackedFile = record x { total = x.total + k } in y) (get_or_default fs g e d l)
            ∙ (λ i. let x : TrackedFile = record (get_or fs g d) { total = a i } in x)

        rises : (g : ℕ) (d : TrackedFile) → g < length fs → (b : Bool) → nat_eq f g ≡ b → (get_or fs g d).total ≤ (get_or (set fs f (record (get_or fs f e) { total = (get_or fs f e).total + k })) g d).total
        rises g d l false q =
            let other : g ≢ f = λ j. eqb-false f g q (sym j) in
            let a = ap (λ (x : TrackedFile). x.total) (get_or-set_other fs f g (record (get_or fs f e) { total = (get_or fs f e).total + k }) d other) in
            omega (arith, a)
        rises g d l true q =
            let same_id = eqb-true f g q in
            let a = ap (λ (j : ℕ). (get_or (set fs j (record (get_or fs j e) { total = (get_or fs j e).total + k })) g d).total) same_id
            ∙ ap (λ (x : TrackedFile). x.total) (get_or-set_same fs g (record (get_or fs g e) { total = (get_or fs g e).total + k }) d l)
            ∙ ap (λ (x : TrackedFile). x.total + k) (get_or_default fs g e d l) in
            omega (arith, a)
