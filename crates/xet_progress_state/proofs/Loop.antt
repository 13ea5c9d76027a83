-- One step of the loop over dependencies.
use Rattle.std.proofs.Common.{◌≡◌, ℕ, Bool, true, false, List, [], ◌∷◌, ◌++◌, refl, sym, subst, ◌∙◌, ap, ◌+◌, ◌<◌, ◌≤◌, ◌^◌, length, take, drop, get_or, set, None, arith}
use Rattle.std.specs.Prelude.{All}
use Rattle.std.proofs.lemmas.List.{take_more, drop_more, append_assoc, map-append, length-drop, get_or-drop}
use Rattle.xet_progress_state.specs.declared.step.FileXorbDependency.{FileXorbDependency}
use Rattle.xet_progress_state.specs.declared.step.TrackerStep.{TrackerStep}
use Rattle.xet_progress_state.specs.declared.file.TrackedFile.{TrackedFile}
use Rattle.xet_progress_state.specs.declared.xorb.TrackedXorb.{TrackedXorb}
use Rattle.xet_progress_state.specs.steps.Kept.{IsKept}
use Rattle.xet_progress_state.specs.steps.Depends.{CanDepend, Depended, has_room, past_in, pasts_in, with_dependency}
use Rattle.xet_progress_state.proofs.Joined.{single, singles, pasts_step, past_passed}
use Rattle.xet_progress_state.proofs.Dependencies.{kept_depended}
use Rattle.xet_progress_state.proofs.CanDepend.{can_depend}

module _ (cs : List TrackerStep) (fs : List TrackedFile) (xs : List TrackedXorb) (t c s : ℕ) (ds : List FileXorbDependency) (i : ℕ) (e : FileXorbDependency) (k : IsKept (cs ++ singles (take i ds)) fs xs t c s) (fits : pasts_in fs [] (drop i ds) ≡ None) (known : All (λ d. d.file_id < length fs) ds) (l : i < length ds) where
  rest : drop i ds ≡ get_or ds i e ∷ drop (i + 1) ds
  rest = drop_more ds i e l

  known_rest : All (λ d. d.file_id < length fs) (get_or ds i e ∷ drop (i + 1) ds)
  known_rest = subst (λ (l : List FileXorbDependency). All (λ d. d.file_id < length fs) l) rest (λ j z m.
      let n = length-drop i ds in
      let g = get_or-drop i ds j z in
      let p = known (i + j) z (omega (arith, m, n)) in
      let q = ap (λ (d : FileXorbDependency). d.file_id) g in
      omega (arith, p, q))

  passes : (gs : List TrackedFile) (counts : Bool) → gs ≡ set fs (get_or ds i e).file_id (with_dependency counts (get_or ds i e).n_bytes (get_or fs (get_or ds i e).file_id (record { fixed = false; total = 0; registered = 0; completed = 0 }))) → (past_in fs [] (get_or ds i e) ≡ None) × (pasts_in gs [] (drop (i + 1) ds) ≡ None)
  passes gs counts g = pasts_step counts fs gs (get_or ds i e) (drop (i + 1) ds) g known_rest (sym (ap (λ (l : List FileXorbDependency). pasts_in fs [] l) rest) ∙ fits)

  fit : (get_or fs (get_or ds i e).file_id (record { fixed = false; total = 0; registered = 0; completed = 0 })).registered + (get_or ds i e).n_bytes ≤ (get_or fs (get_or ds i e).file_id (record { fixed = false; total = 0; registered = 0; completed = 0 })).total
  fit = past_passed fs (get_or ds i e) (passes (set fs (get_or ds i e).file_id (with_dependency true (get_or ds i e).n_bytes (get_or fs (get_or ds i e).file_id (record { fixed = false; total = 0; registered = 0; completed = 0 })))) true refl).0

  pub step_can : t < 2 ^ 64 → has_room xs (get_or ds i e) ≡ true → CanDepend fs xs c (get_or ds i e)
  step_can small room = can_depend (cs ++ singles (take i ds)) fs xs t c s (get_or ds i e) k small (known i e l) room fit

  pub step_kept : (gs : List TrackedFile) (ys : List TrackedXorb) (r : ℕ) → Depended fs gs xs ys c r (get_or ds i e) → IsKept (cs ++ singles (take (i + 1) ds)) gs ys t r s
  step_kept gs ys r dep =
      let one = kept_depended (cs ++ singles (take i ds)) (get_or ds i e) fs gs xs ys t c r s k dep (known i e l) fit in
      let list : cs ++ singles (take (i + 1) ds) ≡ (cs ++ singles (take i ds)) ++ single (get_or ds i e) ∷ [] =
      ap (λ (l : List FileXorbDependency). cs ++ singles l) (take_more ds i e l) ∙ ap (λ l. cs ++ l) (map-append single (take i ds) (get_or ds i e ∷ [])) ∙ sym (append_assoc cs (singles (take i ds)) (single (get_or ds i e) ∷ [])) in
      subst (λ (l : List TrackerStep). IsKept l gs ys t r s) (sym list) one

  pub step_fits : (gs : List TrackedFile) (ys : List TrackedXorb) (r : ℕ) → Depended fs gs xs ys c r (get_or ds i e) → pasts_in gs [] (drop (i + 1) ds) ≡ None
  step_fits gs ys r dep = (passes gs dep.counts dep.files_are).1
