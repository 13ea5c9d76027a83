-- Dependencies registered one by one are dependencies registered at once.
use Rattle.std.proofs.Common.{◌≡◌, ℕ, Bool, true, false, cond, List, [], ◌∷◌, ◌++◌, refl, sym, ◌∙◌, ap, ◌+◌, ◌<◌, ◌≤◌, zero, suc, length, map, get_or, set, arith}
use Rattle.std.specs.Prelude.{Option, Some, None, nat_eq, nat_lt, nat_le, All, unwrap_or}
use Rattle.std.specs.List.{list_any, sum_by, flat_map}
use Rattle.std.proofs.lemmas.Bool.{leb-true, ltb-true, eqb-true, eqb-false}
use Rattle.std.proofs.lemmas.List.{append-nil, append_assoc, get_or-set_same, get_or-set_other, get_or_default}
use Rattle.std.proofs.lemmas.List.Sums.{sum_by_push}
use Rattle.xet_base.specs.declared.merklehash.MerkleHash.{MerkleHash}
use Rattle.xet_base.specs.declared.invalid.Invalid.{Invalid}
use Rattle.xet_base.specs.declared.invalid.Invalid.TheVariants.{UnknownFile, PastTotal}
use Rattle.xet_base.specs.Lists.{first_some}
use Rattle.xet_progress_state.specs.declared.step.FileXorbDependency.{FileXorbDependency}
use Rattle.xet_progress_state.specs.declared.step.TrackerStep.{TrackerStep}
use Rattle.xet_progress_state.specs.declared.step.TrackerStep.TheVariants.{RegisterDependencies}
use Rattle.xet_progress_state.specs.declared.file.TrackedFile.{TrackedFile}
use Rattle.xet_progress_state.specs.declared.xorb.TrackedXorb.{TrackedXorb}
use Rattle.xet_progress_state.specs.Counts.{new_file, growth, new_xorb, new_dependencies, completes, progresses, progress_by, up_to_progress, sizes, registrations, dependencies, is_completed, total_of, of_file, files}
use Rattle.xet_progress_state.specs.Accepted.{refusal_of, unknown_file, part_test, part_tests, total_at, or_else, past_total}
use Rattle.xet_progress_state.specs.steps.Kept.{IsKept, tracked}
use Rattle.xet_progress_state.specs.steps.Depends.{unknown_in, past_in, pasts_in, with_dependency}
use Rattle.xet_progress_state.proofs.Pushed.{any_push_no, up_to_no, flat_push, flat_push_none, sum_push_none, size_by, xorbs_by, counted_by}
use Rattle.xet_progress_state.proofs.Moved.{kept_at}
use Rattle.xet_progress_state.proofs.Steps.{kept_same}
use Rattle.xet_progress_state.proofs.Places.{get_some}

-- a call with one dependency, and one for each
abbrev pub single : FileXorbDependency → TrackerStep
single d = RegisterDependencies (d ∷ [])

abbrev pub singles : List FileXorbDependency → List TrackerStep
singles ds = map single ds

module _ {A : Type 0} (f : TrackerStep → List A) (none : (d : FileXorbDependency) → f (RegisterDependencies (d ∷ [])) ≡ []) where
  flat_singles : (cs : List TrackerStep) (ds : List FileXorbDependency) → flat_map f (cs ++ singles ds) ≡ flat_map f cs
  flat_singles cs [] = ap (λ l. flat_map f l) (append-nil cs)
  flat_singles cs (d ∷ ds) = ap (λ l. flat_map f l) (sym (append_assoc cs (single d ∷ []) (singles ds))) ∙ flat_singles (cs ++ single d ∷ []) ds ∙ flat_push_none f cs (single d) (none d)

deps_singles : (cs : List TrackerStep) (ds : List FileXorbDependency) → dependencies (cs ++ singles ds) ≡ dependencies cs ++ ds
deps_singles cs [] = ap (λ l. dependencies l) (append-nil cs) ∙ sym (append-nil (dependencies cs))
deps_singles cs (d ∷ ds) =
    ap (λ l. dependencies l) (sym (append_assoc cs (single d ∷ []) (singles ds))) ∙ deps_singles (cs ++ single d ∷ []) ds
    ∙ ap (λ l. l ++ ds) (flat_push new_dependencies cs (single d)) ∙ append_assoc (dependencies cs) (d ∷ []) ds

any_singles : (p : TrackerStep → Bool) → ((d : FileXorbDependency) → p (RegisterDependencies (d ∷ [])) ≡ false) → (cs : List TrackerStep) (ds : List FileXorbDependency) → list_any p (cs ++ singles ds) ≡ list_any p cs
any_singles p n cs [] = ap (λ l. list_any p l) (append-nil cs)
any_singles p n cs (d ∷ ds) = ap (λ l. list_any p l) (sym (append_assoc cs (single d ∷ []) (singles ds))) ∙ any_singles p n (cs ++ single d ∷ []) ds ∙ any_push_no p cs (single d) (n d)

sum_singles : (f : TrackerStep → ℕ) → ((d : FileXorbDependency) → f (RegisterDependencies (d ∷ [])) ≡ 0) → (cs : List TrackerStep) (ds : List FileXorbDependency) → sum_by f (cs ++ singles ds) ≡ sum_by f cs
sum_singles f n cs [] = ap (λ l. sum_by f l) (append-nil cs)
sum_singles f n cs (d ∷ ds) = ap (λ l. sum_by f l) (sym (append_assoc cs (single d ∷ []) (singles ds))) ∙ sum_singles f n (cs ++ single d ∷ []) ds ∙ sum_push_none f cs (single d) (n d)

up_to_singles : (h : MerkleHash) (cs : List TrackerStep) (ds : List FileXorbDependency) → up_to_progress h (cs ++ singles ds) ≡ up_to_progress h cs
up_to_singles h cs [] = ap (λ l. up_to_progress h l) (append-nil cs)
up_to_singles h cs (d ∷ ds) = ap (λ l. up_to_progress h l) (sym (append_assoc cs (single d ∷ []) (singles ds))) ∙ up_to_singles h (cs ++ single d ∷ []) ds ∙ up_to_no h cs (single d) refl

pub kept_joined : (cs : List TrackerStep) (ds : List FileXorbDependency) (fs : List TrackedFile) (xs : List TrackedXorb) (t c s : ℕ) → IsKept (cs ++ singles ds) fs xs t c s → IsKept (cs ++ RegisterDependencies ds ∷ []) fs xs t c s
kept_joined cs ds fs xs t c s k =
    let now = cs ++ RegisterDependencies ds ∷ [] in
    let old = cs ++ singles ds in
    let regs : registrations (cs ++ RegisterDependencies ds ∷ []) ≡ registrations (cs ++ singles ds) = flat_push_none new_xorb cs (RegisterDependencies ds) refl ∙ sym (flat_singles new_xorb (λ d. refl) cs ds) in
    let deps : dependencies (cs ++ RegisterDependencies ds ∷ []) ≡ dependencies (cs ++ singles ds) = flat_push new_dependencies cs (RegisterDependencies ds) ∙ sym (deps_singles cs ds) in
    let size = size_by (cs ++ singles ds) (cs ++ RegisterDependencies ds ∷ []) regs in
    let done : (h : MerkleHash) → is_completed (cs ++ RegisterDependencies ds ∷ []) h ≡ is_completed (cs ++ singles ds) h = λ h. any_push_no (completes h) cs (RegisterDependencies ds) refl ∙ sym (any_singles (completes h) (λ d. refl) cs ds) in
    kept_same (cs ++ singles ds) (cs ++ RegisterDependencies ds ∷ []) fs xs t c s (record {
      same_xorbs = xorbs_by (cs ++ singles ds) (cs ++ RegisterDependencies ds ∷ []) regs;
      same_size = size;
      same_dependencies = deps;
      at = λ h. record {
        same_completed = done h;
        same_counted = λ f. counted_by (cs ++ singles ds) (cs ++ RegisterDependencies ds ∷ []) f h deps (done h) (up_to_no h cs (RegisterDependencies ds) refl ∙ sym (up_to_singles h cs ds)) (size h);
        same_sum = λ _. sum_push_none (progress_by h) cs (RegisterDependencies ds) refl ∙ sym (sum_singles (progress_by h) (λ d. refl) cs ds);
        same_any = λ _. any_push_no (progresses h) cs (RegisterDependencies ds) refl ∙ sym (any_singles (progresses h) (λ d. refl) cs ds);
      };
    }) (flat_push_none new_file cs (RegisterDependencies ds) refl ∙ sym (flat_singles new_file (λ d. refl) cs ds))
    (λ f. sum_push_none (growth f) cs (RegisterDependencies ds) refl ∙ sym (sum_singles (growth f) (λ d. refl) cs ds)) k

-- tests over files that have as many bytes registered
pub pasts_shift : (fs gs : List TrackedFile) (b c ds : List FileXorbDependency) → ((f : ℕ) (e : TrackedFile) → f < length fs → ((get_or fs f e).total ≡ (get_or gs f e).total) × ((get_or fs f e).registered + sum_by (of_file f) b ≡ (get_or gs f e).registered + sum_by (of_file f) c))
    → All (λ d. d.file_id < length fs) ds → pasts_in fs b ds ≡ pasts_in gs c ds
pasts_shift fs gs b c [] h k = refl
pasts_shift fs gs b c (d ∷ ds) h k =
    let at = h d.file_id (record { fixed = false; total = 0; registered = 0; completed = 0 }) (k zero d (omega arith)) in
    let one : past_in fs b d ≡ past_in gs c d = (let t = at.0 in let r = at.1 in λ i. past_total (t i) (r i) d.n_bytes) in
    let rest = pasts_shift fs gs (b ++ d ∷ []) (c ++ d ∷ []) ds (λ f e l.
    let p = h f e l in
    let q = p.1 in
    let x = sum_by_push (of_file f) b d in
    let y = sum_by_push (of_file f) c d in
    (p.0, omega (arith, q, x, y))) (λ i e l. k (suc i) e (omega (arith, l))) in
    λ i. or_else (one i) (rest i)

or_else_none : {A : Type 0} (o p : Option A) → or_else o p ≡ None → (o ≡ None) × (p ≡ None)
or_else_none None p e = (refl, e)
or_else_none (Some x) p e = absurd (cc)

-- the first test passes, and the others over the files after it
pub pasts_step : (counts : Bool) (fs gs : List TrackedFile) (d : FileXorbDependency) (ds : List FileXorbDependency) → gs ≡ set fs d.file_id (with_dependency counts d.n_bytes (get_or fs d.file_id (record { fixed = false; total = 0; registered = 0; completed = 0 })))
    → All (λ d. d.file_id < length fs) (d ∷ ds) → pasts_in fs [] (d ∷ ds) ≡ None → (past_in fs [] d ≡ None) × (pasts_in gs [] ds ≡ None)
pasts_step counts fs gs d ds e k h =
    let both = or_else_none (past_in fs [] d) (pasts_in fs (d ∷ []) ds) h in
    let there = k zero d (omega arith) in
    (both.0, sym (pasts_shift fs gs (d ∷ []) [] ds (λ f z l. at f z l there (nat_eq d.file_id f) refl) (λ i z l. k (suc i) z (omega (arith, l)))) ∙ both.1)
  where
    at : (f : ℕ) (z : TrackedFile) → f < length fs → d.file_id < length fs → (b : Bool) → nat_eq d.file_id f ≡ b → ((get_or fs f z).total ≡ (get_or gs f z).total) × ((get_or fs f z).registered + sum_by (of_file f) (d ∷ []) ≡ (get_or gs f z).registered + sum_by (of_file f) [])
    at f z l there true q =
        let same = eqb-true d.file_id f q in
        let w = with_dependency counts d.n_bytes (get_or fs d.file_id (record { fixed = false; total = 0; registered = 0; completed = 0 })) in
        let g : get_or gs f z ≡ with_dependency counts d.n_bytes (get_or fs f z) =
        ap (λ (l : List TrackedFile). get_or l f z) e ∙ ap (λ (j : ℕ). get_or (set fs j (with_dependency counts d.n_bytes (get_or fs j (record { fixed = false; total = 0; registered = 0; completed = 0 })))) f z) same
        ∙ get_or-set_same fs f (with_dependency counts d.n_bytes (get_or fs f (record { fixed = false; total = 0; registered = 0; completed = 0 }))) z l
        ∙ ap (λ (x : TrackedFile). with_dependency counts d.n_bytes x) (get_or_default fs f (record { fixed = false; total = 0; registered = 0; completed = 0 }) z l) in
        let t = ap (λ (x : TrackedFile). x.total) g in
        let r = ap (λ (x : TrackedFile). x.registered) g in
        let n = ap (λ b. cond b d.n_bytes 0) q in
        (sym t, omega (arith, r, n))
    at f z l there false q =
        let g : get_or gs f z ≡ get_or fs f z = ap (λ (l : List TrackedFile). get_or l f z) e ∙ get_or-set_other fs d.file_id f (with_dependency counts d.n_bytes (get_or fs d.file_id (record { fixed = false; total = 0; registered = 0; completed = 0 }))) z (λ k. eqb-false d.file_id f q (sym k)) in
        let t = ap (λ (x : TrackedFile). x.total) g in
        let r = ap (λ (x : TrackedFile). x.registered) g in
        let n = ap (λ b. cond b d.n_bytes 0) q in
        (sym t, omega (arith, r, n))

-- what a passed test says
pub past_passed : (fs : List TrackedFile) (d : FileXorbDependency) → past_in fs [] d ≡ None → (get_or fs d.file_id (record { fixed = false; total = 0; registered = 0; completed = 0 })).registered + d.n_bytes ≤ (get_or fs d.file_id (record { fixed = false; total = 0; registered = 0; completed = 0 })).total
past_passed fs d e =
    let f = get_or fs d.file_id (record { fixed = false; total = 0; registered = 0; completed = 0 }) in
    let z : (get_or fs d.file_id (record { fixed = false; total = 0; registered = 0; completed = 0 })).registered + 0 ≡ (get_or fs d.file_id (record { fixed = false; total = 0; registered = 0; completed = 0 })).registered = omega arith in
    let p = passed (nat_le ((get_or fs d.file_id (record { fixed = false; total = 0; registered = 0; completed = 0 })).registered + 0 + d.n_bytes) (get_or fs d.file_id (record { fixed = false; total = 0; registered = 0; completed = 0 })).total) refl e in
    omega (arith, p, z)
  where
    passed : (b : Bool) → nat_le ((get_or fs d.file_id (record { fixed = false; total = 0; registered = 0; completed = 0 })).registered + 0 + d.n_bytes) (get_or fs d.file_id (record { fixed = false; total = 0; registered = 0; completed = 0 })).total ≡ b
        → cond b None (Some (PastTotal (get_or fs d.file_id (record { fixed = false; total = 0; registered = 0; completed = 0 })).total ((get_or fs d.file_id (record { fixed = false; total = 0; registered = 0; completed = 0 })).registered + 0) d.n_bytes)) ≡ None
        → (get_or fs d.file_id (record { fixed = false; total = 0; registered = 0; completed = 0 })).registered + 0 + d.n_bytes ≤ (get_or fs d.file_id (record { fixed = false; total = 0; registered = 0; completed = 0 })).total
    passed true q k = leb-true _ _ q
    passed false q k = absurd (cc)

-- the tests over the kept files are the tests over the calls
unknown_same : (cs : List TrackerStep) (n : ℕ) (ds : List FileXorbDependency) → n ≡ length (sizes cs) → first_some (map (unknown_in n) ds) ≡ first_some (map (unknown_file cs) ds)
unknown_same cs n ds e = ap (λ m. first_some (map (unknown_in m) ds)) e

tests_same : (cs : List TrackerStep) (fs : List TrackedFile) (b ds : List FileXorbDependency) → fs ≡ map (tracked cs) (files cs) → All (λ d. d.file_id < length (sizes cs)) ds → pasts_in fs b ds ≡ part_tests cs b ds
tests_same cs fs b [] e k = refl
tests_same cs fs b (d ∷ ds) e k =
    let there = k zero d (omega arith) in
    let at = kept_at cs fs d.file_id (record { fixed = false; total = 0; registered = 0; completed = 0 }) e there in
    let total : (get_or fs d.file_id (record { fixed = false; total = 0; registered = 0; completed = 0 })).total ≡ total_at cs d.file_id =
    ap (λ (f : TrackedFile). f.total) at ∙ sym (ap (λ (o : Option (Option ℕ)). total_of cs (d.file_id, unwrap_or o None)) (get_some (sizes cs) d.file_id None there)) in
    let reg = ap (λ (f : TrackedFile). f.registered) at in
    let one : past_in fs b d ≡ part_test cs b d = λ i. past_total (total i) (reg i + sum_by (of_file d.file_id) b) d.n_bytes in
    let rest = tests_same cs fs (b ++ d ∷ []) ds e (λ i z l. k (suc i) z (omega (arith, l))) in
    λ i. or_else (one i) (rest i)

-- where no dependency names an unknown file all name known ones
pub all_known : (n : ℕ) (ds : List FileXorbDependency) → first_some (map (unknown_in n) ds) ≡ None → All (λ d. d.file_id < n) ds
all_known n [] e = λ k d l. absurd (omega (arith, l))
all_known n (d ∷ ds) e = go (nat_lt d.file_id n) refl e (λ k. all_known n ds k)
  where
    go : (b : Bool) → nat_lt d.file_id n ≡ b → first_some (cond b None (Some (UnknownFile d.file_id)) ∷ map (unknown_in n) ds) ≡ None → (first_some (map (unknown_in n) ds) ≡ None → All (λ d. d.file_id < n) ds) → All (λ d. d.file_id < n) (d ∷ ds)
    go true q k next = first (ltb-true d.file_id n q) (next k)
      where
        first : d.file_id < n → All (λ d. d.file_id < n) ds → All (λ d. d.file_id < n) (d ∷ ds)
        first l rest zero z m = l
        first l rest (suc i) z m = rest i z (omega (arith, m))
    go false q k next = absurd (cc)

pub refused_unknown : (cs : List TrackerStep) (n : ℕ) (ds : List FileXorbDependency) (why : Invalid) → n ≡ length (sizes cs) → first_some (map (unknown_in n) ds) ≡ Some why → refusal_of cs (RegisterDependencies ds) ≡ Some why
refused_unknown cs n ds why e h = ap (λ o. or_else o (part_tests cs [] ds)) (sym (unknown_same cs n ds e) ∙ h)

pub tested_parts : (cs : List TrackerStep) (n : ℕ) (fs : List TrackedFile) (ds : List FileXorbDependency) → n ≡ length (sizes cs) → fs ≡ map (tracked cs) (files cs) → first_some (map (unknown_in n) ds) ≡ None → refusal_of cs (RegisterDependencies ds) ≡ pasts_in fs [] ds
tested_parts cs n fs ds e f h =
    let known : All (λ d. d.file_id < length (sizes cs)) ds = λ k d l. let p = all_known n ds h k d l in omega (arith, p, e) in
    ap (λ o. or_else o (part_tests cs [] ds)) (sym (unknown_same cs n ds e) ∙ h) ∙ sym (tests_same cs fs [] ds f known)
