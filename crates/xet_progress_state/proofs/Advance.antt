-- The state after progress and after completion of a xorb.
use Rattle.std.proofs.Common.{◌≡◌, ℕ, refl, true, false, cond, List, [], ◌∷◌, ◌++◌, sym, subst, ◌∙◌, ap, ◌+◌, ◌<◌, ◌≤◌, ◌^◌, length, get_or, set, arith}
use Rattle.std.proofs.lemmas.Bool.{true≢false}
use Rattle.std.proofs.lemmas.List.Sums.{sum_by_push}
use Rattle.xet_base.specs.declared.merklehash.MerkleHash.{MerkleHash}
use Rattle.xet_base.proofs.CallerLemmas.{hash_eq-own}
use Rattle.xet_progress_state.specs.declared.step.TrackerStep.{TrackerStep}
use Rattle.xet_progress_state.specs.declared.step.TrackerStep.TheVariants.{RegisterXorbUploadCompletion}
use Rattle.xet_progress_state.specs.declared.file.TrackedFile.{TrackedFile}
use Rattle.xet_progress_state.specs.declared.xorb.TrackedXorb.{TrackedXorb}
use Rattle.xet_progress_state.specs.declared.xorb.Found.{Found}
use Rattle.xet_progress_state.specs.steps.Found.{IsFound}
use Rattle.xet_progress_state.specs.Counts.{is_completed, progress, progress_by, completes}
use Rattle.xet_progress_state.specs.steps.Kept.{IsKept, XorbStands}
use Rattle.xet_progress_state.specs.steps.Credits.{CanCredit, Credited, Advanced, AdvancedAt, completed_in}
use Rattle.xet_progress_state.proofs.Pushed.{any_push_no, any_push_yes}
use Rattle.xet_progress_state.proofs.Looked.{Looked, looked}
use Rattle.xet_progress_state.proofs.Moved.{Step, can_credit, kept_moved}
use Rattle.xet_progress_state.proofs.Steps.{IsProgress, progress_step, completion_step}

-- the entry that was found stands for its xorb
entry_stands : (cs : List TrackerStep) (h : MerkleHash) (xs : List TrackedXorb) (f : Found) (x : TrackedXorb) → Looked cs h xs f → x ≡ get_or xs f.place x → XorbStands cs h x
entry_stands cs h xs f x l e = subst (λ (y : TrackedXorb). XorbStands cs h y) (sym e) (l.stands x)

entry_own : (cs : List TrackerStep) (h : MerkleHash) (xs : List TrackedXorb) (f : Found) (x : TrackedXorb) → Looked cs h xs f → x ≡ get_or xs f.place x → x.hash ≡ h
entry_own cs h xs f x l e = ap (λ (y : TrackedXorb). y.hash) e ∙ l.own x

module _ (cs : List TrackerStep) (h : MerkleHash) (fs : List TrackedFile) (xs : List TrackedXorb) (t q s : ℕ) (f : Found) (kept : IsKept cs fs xs t q s) (found : IsFound h xs f) (wait : f.completed ≡ false) where
  look : Looked cs h xs f
  look = looked cs h fs xs t q s f kept found

  module _ (x : TrackedXorb) (at : x ≡ get_or xs f.place x) (k : ℕ) (c : TrackerStep) (is : IsProgress h k c) (fit : f.sent + k ≤ f.size) where
    step : Step cs (cs ++ c ∷ []) h f.size (f.sent + k) f.size
    step = subst (λ (n : ℕ). Step cs (cs ++ c ∷ []) h f.size (n + k) f.size) (look.sent wait)
        (progress_step h k c is cs f.size look.size (look.done ∙ wait) (let e = look.sent wait in omega (arith, e, fit)) kept.plain)

    pub progress_can : t < 2 ^ 64 → CanCredit fs x.parts (f.sent + k) f.size
    progress_can small = can_credit cs (cs ++ c ∷ []) h f.size (f.sent + k) f.size step x (entry_stands cs h xs f x look at) fs xs t q s kept small

    progress_kept : (y : TrackedXorb) (gs : List TrackedFile) (r : ℕ) → Advanced x y (f.sent + k) f.size → y.sent ≡ f.sent + k → y.completed ≡ x.completed → Credited fs gs x.parts (f.sent + k) f.size → length gs ≡ length fs → r ≡ completed_in gs
        → IsKept (cs ++ c ∷ []) gs (set xs f.place y) t r s
    progress_kept y gs r adv sent done credited len sum =
        let stands = entry_stands cs h xs f x look at in
        let d : is_completed (cs ++ c ∷ []) h ≡ is_completed cs h = any_push_no (completes h) cs c (is.no_completion h) in
        let total : progress (cs ++ c ∷ []) h ≡ f.sent + k =
        (let a = sum_by_push (progress_by h) cs c in
        let b = is.bytes h ∙ ap (λ b. cond b k 0) (hash_eq-own h) in
        let e = look.sent wait in
        omega (arith, a, b, e)) in
        kept_moved cs (cs ++ c ∷ []) h f.size (f.sent + k) f.size step x stands fs xs t q s kept gs len credited y adv f.place r found.place_is (entry_own cs h xs f x look at)
        (done ∙ stands.completed_is ∙ sym d) (λ _. sent ∙ sym total) sum

  -- the state after progress
  pub progress_at : (k : ℕ) (c : TrackerStep) → IsProgress h k c → f.sent + k ≤ f.size → (ys : List TrackedXorb) (gs : List TrackedFile) (r : ℕ) → AdvancedAt xs ys fs gs f.place false (f.sent + k) f.size
      → length gs ≡ length fs → r ≡ completed_in gs → IsKept (cs ++ c ∷ []) gs ys t r s
  progress_at k c is fit ys gs r a len sum =
      subst (λ (l : List TrackedXorb). IsKept (cs ++ c ∷ []) gs l t r s) (sym a.new_is)
      (progress_kept a.old a.old_is k c is fit a.new gs r a.advanced (a.sent_is refl) a.done_is a.credited len sum)

  pub completion_can : (x : TrackedXorb) → x ≡ get_or xs f.place x → t < 2 ^ 64 → CanCredit fs x.parts 1 1
  completion_can x at small = can_credit cs (cs ++ RegisterXorbUploadCompletion h ∷ []) h f.size 1 1 (completion_step h cs f.size look.size kept.plain) x (entry_stands cs h xs f x look at) fs xs t q s kept small

  completion_kept : (x : TrackedXorb) → x ≡ get_or xs f.place x → (y : TrackedXorb) (gs : List TrackedFile) (r : ℕ) → Advanced x y 1 1 → y.completed ≡ true → Credited fs gs x.parts 1 1 → length gs ≡ length fs → r ≡ completed_in gs
      → IsKept (cs ++ RegisterXorbUploadCompletion h ∷ []) gs (set xs f.place y) t r s
  completion_kept x at y gs r adv done credited len sum =
      let all : is_completed (cs ++ RegisterXorbUploadCompletion h ∷ []) h ≡ true = any_push_yes (completes h) cs (RegisterXorbUploadCompletion h) (hash_eq-own h) in
      kept_moved cs (cs ++ RegisterXorbUploadCompletion h ∷ []) h f.size 1 1 (completion_step h cs f.size look.size kept.plain) x (entry_stands cs h xs f x look at) fs xs t q s kept gs len credited y adv f.place r found.place_is (entry_own cs h xs f x look at)
      (done ∙ sym all) (λ n. absurd (true≢false (sym done ∙ n))) sum

  -- the state after completion
  pub completion_at : (ys : List TrackedXorb) (gs : List TrackedFile) (r : ℕ) → AdvancedAt xs ys fs gs f.place true 1 1
      → length gs ≡ length fs → r ≡ completed_in gs → IsKept (cs ++ RegisterXorbUploadCompletion h ∷ []) gs ys t r s
  completion_at ys gs r a len sum =
      subst (λ (l : List TrackedXorb). IsKept (cs ++ RegisterXorbUploadCompletion h ∷ []) gs l t r s) (sym a.new_is)
      (completion_kept a.old a.old_is a.new gs r a.advanced a.done_is a.credited len sum)
