-- A tested dependency fits.
use Rattle.std.proofs.Common.{◌≡◌, ℕ, Bool, true, false, List, refl, sym, subst, ◌∙◌, ap, ◌+◌, ◌<◌, ◌≤◌, ◌^◌, length, get_or, set, arith}
use Rattle.std.specs.Prelude.{Option, nat_eq}
use Rattle.std.proofs.lemmas.Bool.{eqb-true, eqb-false}
use Rattle.std.proofs.lemmas.List.{length-set, get_or-set_same, get_or-set_other, get_or_default}
use Rattle.std.proofs.lemmas.List.Sums.{sum_by-set, get_or-le-sum_by}
use Rattle.xet_progress_state.specs.declared.step.FileXorbDependency.{FileXorbDependency}
use Rattle.xet_progress_state.specs.declared.step.TrackerStep.{TrackerStep}
use Rattle.xet_progress_state.specs.declared.file.TrackedFile.{TrackedFile}
use Rattle.xet_progress_state.specs.declared.xorb.TrackedXorb.{TrackedXorb}
use Rattle.xet_progress_state.specs.declared.part.Part.{Part}
use Rattle.xet_progress_state.specs.Counts.{dependencies, part, counted}
use Rattle.xet_progress_state.specs.steps.Kept.{IsKept, XorbIs, XorbStands}
use Rattle.xet_progress_state.specs.steps.Depends.{CanDepend, has_room}
use Rattle.xet_progress_state.proofs.NewFile.{kept_count}
use Rattle.xet_progress_state.proofs.Bounds.{completed_le, counted_le, part_le}
use Rattle.xet_progress_state.proofs.Moved.{kept_at, total_kept, completed_kept}
use Rattle.xet_progress_state.proofs.Parts.{alone}
use Rattle.xet_progress_state.proofs.Crediting.{sum_le_at}

-- of a kept file no more is completed than registered
kept_le : (cs : List TrackerStep) (fs : List TrackedFile) (xs : List TrackedXorb) (t c s : ℕ) → IsKept cs fs xs t c s → (f : ℕ) (e : TrackedFile) → f < length fs → (get_or fs f e).completed ≤ (get_or fs f e).registered
kept_le cs fs xs t c s k f e l =
    let n = kept_count cs fs xs t c s k in
    let at = kept_at cs fs f e k.files_are (omega (arith, l, n)) in
    let a = ap (λ (x : TrackedFile). x.completed) at in
    let b = ap (λ (x : TrackedFile). x.registered) at in
    let m = completed_le cs k.plain.fits f in
    omega (arith, a, b, m)

-- the file of a dependency with its bytes completed
abbrev with_done : List TrackedFile → FileXorbDependency → TrackedFile
with_done fs d = record (get_or fs d.file_id (record { fixed = false; total = 0; registered = 0; completed = 0 })) { completed = (get_or fs d.file_id (record { fixed = false; total = 0; registered = 0; completed = 0 })).completed + d.n_bytes }

pub can_depend : (cs : List TrackerStep) (fs : List TrackedFile) (xs : List TrackedXorb) (t c s : ℕ) (d : FileXorbDependency) → IsKept cs fs xs t c s → t < 2 ^ 64 → d.file_id < length fs → has_room xs d ≡ true
    → (get_or fs d.file_id (record { fixed = false; total = 0; registered = 0; completed = 0 })).registered + d.n_bytes ≤ (get_or fs d.file_id (record { fixed = false; total = 0; registered = 0; completed = 0 })).total → CanDepend fs xs c d
can_depend cs fs xs t c s d k small there room fit =
    let all = get_or-le-sum_by (λ (f : TrackedFile). f.total) fs d.file_id (record { fixed = false; total = 0; registered = 0; completed = 0 }) there in
    let total = total_kept cs fs xs t c s k in
    let le = kept_le cs fs xs t c s k d.file_id (record { fixed = false; total = 0; registered = 0; completed = 0 }) there in
    record {
      known = there;
      room = room;
      waits = λ x e. part_fits x (subst (λ (o : Option TrackedXorb). XorbIs cs d.xorb_hash o) e (k.xorbs_are d.xorb_hash));
      registered_fits = omega (arith, fit, all, total, small);
      counted_fits = omega (arith, fit, all, total, small, le);
      sum_fits =
          let a = sum_by-set (λ (f : TrackedFile). f.completed) fs d.file_id (with_done fs d) (record { fixed = false; total = 0; registered = 0; completed = 0 }) there in
          let b = completed_kept cs fs xs t c s k in
          let m = sum_le_at (λ (f : TrackedFile). f.completed) (λ (f : TrackedFile). f.total) (set fs d.file_id (with_done fs d)) fs (length-set fs d.file_id (with_done fs d)) (λ i e l. at i e l (nat_eq d.file_id i) refl) in
          omega (arith, a, b, m, total, small);
    }
  where
    at : (i : ℕ) (e : TrackedFile) → i < length fs → (b : Bool) → nat_eq d.file_id i ≡ b → (get_or (set fs d.file_id (with_done fs d)) i e).completed ≤ (get_or fs i e).total
    at i e l true q =
        let same = eqb-true d.file_id i q in
        let g : get_or (set fs d.file_id (with_done fs d)) i e ≡ (with_done fs d) = ap (λ (j : ℕ). get_or (set fs j (with_done fs d)) i e) same ∙ get_or-set_same fs i (with_done fs d) e l in
        let a = ap (λ (f : TrackedFile). f.completed) g in
        let b = ap (λ (f : TrackedFile). f.total) (ap (λ (j : ℕ). get_or fs j (record { fixed = false; total = 0; registered = 0; completed = 0 })) same ∙ get_or_default fs i (record { fixed = false; total = 0; registered = 0; completed = 0 }) e l) in
        let le = kept_le cs fs xs t c s k d.file_id (record { fixed = false; total = 0; registered = 0; completed = 0 }) there in
        omega (arith, a, b, le, fit)
    at i e l false q =
        let g = ap (λ (f : TrackedFile). f.completed) (get_or-set_other fs d.file_id i (with_done fs d) e (λ k. eqb-false d.file_id i q (sym k))) in
        let le = kept_le cs fs xs t c s k i e l in
        let w = k.within i e l in
        omega (arith, g, le, w)

    part_fits : (x : TrackedXorb) → XorbStands cs d.xorb_hash x → (i : ℕ) (e : Part) → i < length x.parts → nat_eq (get_or x.parts i e).file d.file_id ≡ true → ((get_or x.parts i e).waiting + d.n_bytes < 2 ^ 64) × ((get_or x.parts i e).credited + d.n_bytes < 2 ^ 64)
    part_fits x stands i e l q =
        let f = (get_or x.parts i e).file in
        let same = eqb-true (get_or x.parts i e).file d.file_id q in
        let a = alone (λ p. p.waiting) x.parts i e l stands.differ in
        let b = stands.waits (get_or x.parts i e).file in
        let c1 = alone (λ p. p.credited) x.parts i e l stands.differ in
        let d1 = stands.credits (get_or x.parts i e).file in
        let p = part_le d.file_id d.xorb_hash (dependencies cs) in
        let m = counted_le cs k.plain.fits d.file_id d.xorb_hash in
        let w = ap (λ (j : ℕ). part cs j d.xorb_hash) same in
        let v = ap (λ (j : ℕ). counted cs j d.xorb_hash) same in
        let n = kept_count cs fs xs t c s k in
        let reg = ap (λ (x : TrackedFile). x.registered) (kept_at cs fs d.file_id (record { fixed = false; total = 0; registered = 0; completed = 0 }) k.files_are (omega (arith, there, n))) in
        let all = get_or-le-sum_by (λ (f : TrackedFile). f.total) fs d.file_id (record { fixed = false; total = 0; registered = 0; completed = 0 }) there in
        let total = total_kept cs fs xs t c s k in
        (omega (arith, a, b, p, w, reg, fit, all, total, small), omega (arith, c1, d1, p, m, v, reg, fit, all, total, small))
