-- The tracker after a new file.
use Rattle.std.proofs.Common.{◌≡◌, ℕ, false, List, [], ◌∷◌, ◌++◌, refl, sym, ◌∙◌, ap, ◌+◌, ◌≤◌, length, map, arith}
use Rattle.std.specs.Prelude.{Option, Some, None, find, unwrap_or, is_some}
use Rattle.std.specs.List.{sum_by, enumerate_from}
use Rattle.std.proofs.lemmas.List.{map-append, length-append, length-map}
use Rattle.std.proofs.lemmas.List.FromFn.{length-enumerate_from}
use Rattle.std.proofs.lemmas.List.Elements.{All-push}
use Rattle.std.proofs.lemmas.List.Sums.{sum_by_push}
use Rattle.xet_base.specs.declared.merklehash.MerkleHash.{MerkleHash}
use Rattle.xet_base.specs.Hashes.{hash_eq}
use Rattle.xet_progress_state.specs.declared.step.TrackerStep.{TrackerStep}
use Rattle.xet_progress_state.specs.declared.step.TrackerStep.TheVariants.{RegisterNewFile}
use Rattle.xet_progress_state.specs.declared.file.TrackedFile.{TrackedFile}
use Rattle.xet_progress_state.specs.declared.xorb.TrackedXorb.{TrackedXorb}
use Rattle.xet_progress_state.specs.Counts.{new_file, growth, sizes, files, grown, total_of, registered, completed_of, size_of, size_or_zero, xorbs, is_completed, progress, dependencies, of_file, part_of, all_sizes}
use Rattle.xet_progress_state.specs.steps.Kept.{IsKept, IsPlain, XorbIs, tracked}
use Rattle.xet_progress_state.proofs.Pushed.{SameAt, SameCounts, IsQuiet, same_push, flat_push, sum_push_none, sum_ext, completed_same}
use Rattle.xet_progress_state.proofs.Bounds.{completed_zero}

pub enumerate_push : {A : Type 0} (k : ℕ) (xs : List A) (x : A) → enumerate_from k (xs ++ x ∷ []) ≡ enumerate_from k xs ++ (k + length xs, x) ∷ []
enumerate_push k [] x = let e : k ≡ k + 0 = omega arith in ap (λ (n : ℕ). (n, x) ∷ []) e
enumerate_push k (y ∷ xs) x =
    let e : (k + 1) + length xs ≡ k + length (y ∷ xs) = omega arith in
    ap (λ l. (k, y) ∷ l) (enumerate_push (k + 1) xs x ∙ ap (λ (n : ℕ). enumerate_from (k + 1) xs ++ (n, x) ∷ []) e)

map_ext : {A B : Type 0} (f g : A → B) (xs : List A) → ((x : A) → f x ≡ g x) → map f xs ≡ map g xs
map_ext f g xs e = let h : f ≡ g = λ i x. e x i in ap (λ k. map k xs) h

-- what stands for a xorb stands for it after calls that change nothing there
pub xorb_same : (cs ds : List TrackerStep) (h : MerkleHash) → dependencies ds ≡ dependencies cs → size_of ds h ≡ size_of cs h → SameAt cs ds h → length (sizes cs) ≤ length (sizes ds) → (o : Option TrackedXorb) → XorbIs cs h o → XorbIs ds h o
xorb_same cs ds h deps size s more None a =
    record { no_size = size ∙ a.no_size; no_part = λ f. ap (λ l. sum_by (part_of f h) l) deps ∙ a.no_part f }
xorb_same cs ds h deps size s more (Some x) a =
    record {
      size_is = a.size_is ∙ sym size;
      completed_is = a.completed_is ∙ sym s.same_completed;
      sent_is = λ wait. a.sent_is wait ∙ sym (s.same_sum (sym a.completed_is ∙ wait));
      waits = λ f. a.waits f ∙ sym (ap (λ l. sum_by (part_of f h) l) deps);
      credits = λ f. a.credits f ∙ sym (s.same_counted f);
      known = λ k d i. let p = a.known k d i in omega (arith, p, more);
      differ = a.differ;
    }

pub fits_same : (cs ds : List TrackerStep) → SameCounts cs ds → IsPlain cs → (h : MerkleHash) → is_completed ds h ≡ false → progress ds h ≤ size_or_zero ds h
fits_same cs ds s p h waits =
    let was = sym ((s.at h).same_completed) ∙ waits in
    let a = p.fits h was in
    let b = (s.at h).same_sum was in
    let e = ap (λ (o : Option ℕ). unwrap_or o 0) (s.same_size h) in
    omega (arith, a, b, e)

pub sizes_same : (cs ds : List TrackerStep) → SameCounts cs ds → all_sizes ds ≡ all_sizes cs
sizes_same cs ds s = ap (λ (l : List MerkleHash). sum_by (size_or_zero ds) l) s.same_xorbs ∙ sum_ext (size_or_zero ds) (size_or_zero cs) (xorbs cs) (λ h. ap (λ (o : Option ℕ). unwrap_or o 0) (s.same_size h))

module _ (n : Option ℕ) where
  quiet : IsQuiet (RegisterNewFile n)
  quiet = record { no_xorb = refl; no_dependency = refl; no_completion = λ h. refl; no_progress = λ h. refl; no_bytes = λ h. refl }

  module _ (cs : List TrackerStep) where
    same : SameCounts cs (cs ++ RegisterNewFile n ∷ [])
    same = same_push cs (RegisterNewFile n) quiet

    sizes_more : sizes (cs ++ RegisterNewFile n ∷ []) ≡ sizes cs ++ n ∷ []
    sizes_more = flat_push new_file cs (RegisterNewFile n)

    files_more : files (cs ++ RegisterNewFile n ∷ []) ≡ files cs ++ (length (sizes cs), n) ∷ []
    files_more =
        let e : 0 + length (sizes cs) ≡ length (sizes cs) = omega arith in
        ap (λ l. enumerate_from 0 l) sizes_more ∙ enumerate_push 0 (sizes cs) n ∙ ap (λ (k : ℕ). files cs ++ (k, n) ∷ []) e

    grown_same : (f : ℕ) → grown (cs ++ RegisterNewFile n ∷ []) f ≡ grown cs f
    grown_same f = sum_push_none (growth f) cs (RegisterNewFile n) refl

    total_same : (f : ℕ × Option ℕ) → total_of (cs ++ RegisterNewFile n ∷ []) f ≡ total_of cs f
    total_same f = ap (λ k. unwrap_or f.1 k) (grown_same f.0)

    registered_same : (f : ℕ) → registered (cs ++ RegisterNewFile n ∷ []) f ≡ registered cs f
    registered_same f = ap (λ l. sum_by (of_file f) l) same.same_dependencies

    tracked_same : (f : ℕ × Option ℕ) → tracked (cs ++ RegisterNewFile n ∷ []) f ≡ tracked cs f
    tracked_same f =
        let a = total_same f in let b = registered_same f.0 in let d = completed_same cs (cs ++ RegisterNewFile n ∷ []) same f.0 in
        λ i. record { fixed = is_some f.1; total = a i; registered = b i; completed = d i }

    new_total : IsPlain cs → total_of cs (length (sizes cs), n) ≡ unwrap_or n 0
    new_total p = ap (λ k. unwrap_or n k) (p.no_growth (length (sizes cs)) (omega arith))

    tracked_new : IsPlain cs → tracked cs (length (sizes cs), n) ≡ record { fixed = is_some n; total = unwrap_or n 0; registered = 0; completed = 0 }
    tracked_new p =
        let a = new_total p in
        let b = p.no_dependency (length (sizes cs)) (omega arith) in
        let d = completed_zero cs (length (sizes cs)) b in
        λ i. record { fixed = is_some n; total = a i; registered = b i; completed = d i }

    plain_more : IsPlain cs → IsPlain (cs ++ RegisterNewFile n ∷ [])
    plain_more p =
        let len : length (sizes (cs ++ RegisterNewFile n ∷ [])) ≡ length (sizes cs) + 1 = ap (λ l. length l) sizes_more ∙ length-append (sizes cs) (n ∷ []) in
        record {
          no_growth = λ f k. grown_same f ∙ p.no_growth f (omega (arith, len, k));
          no_dependency = λ f k. registered_same f ∙ p.no_dependency f (omega (arith, len, k));
          no_completion = λ h k. (same.at h).same_completed ∙ p.no_completion h (sym (same.same_size h) ∙ k);
          fits = fits_same cs (cs ++ RegisterNewFile n ∷ []) same p;
          no_progress = λ h k. let z = sym (same.same_size h) ∙ k in (same.at h).same_any z ∙ p.no_progress h z;
        }

    pub kept_new_file : (fs : List TrackedFile) (xs : List TrackedXorb) (t c s : ℕ) → IsKept cs fs xs t c s
        → IsKept (cs ++ RegisterNewFile n ∷ []) (fs ++ record { fixed = is_some n; total = unwrap_or n 0; registered = 0; completed = 0 } ∷ []) xs (t + unwrap_or n 0) c s
    kept_new_file fs xs t c s k =
        let ds = cs ++ RegisterNewFile n ∷ [] in
        let new : ℕ × Option ℕ = (length (sizes cs), n) in
        let len : length (sizes ds) ≡ length (sizes cs) + 1 = ap (λ l. length l) sizes_more ∙ length-append (sizes cs) (n ∷ []) in
        record {
          files_are =
              sym (ap (λ l. map (tracked ds) l) files_more
              ∙ map-append (tracked ds) (files cs) (new ∷ [])
              ∙ (let a = map_ext (tracked ds) (tracked cs) (files cs) tracked_same ∙ sym k.files_are in
              let b = tracked_same new ∙ tracked_new k.plain in λ i. a i ++ b i ∷ []));
          total_is =
              let a = ap (λ l. sum_by (total_of ds) l) files_more ∙ sum_by_push (total_of ds) (files cs) new in
              let b = sum_ext (total_of ds) (total_of cs) (files cs) total_same in
              let d = total_same new ∙ new_total k.plain in
              let e = k.total_is in
              omega (arith, a, b, d, e);
          completed_is =
              let a = ap (λ l. sum_by (λ (f : ℕ × Option ℕ). completed_of ds f.0) l) files_more ∙ sum_by_push (λ (f : ℕ × Option ℕ). completed_of ds f.0) (files cs) new in
              let b = sum_ext (λ (f : ℕ × Option ℕ). completed_of ds f.0) (λ (f : ℕ × Option ℕ). completed_of cs f.0) (files cs) (λ f. completed_same cs ds same f.0) in
              let d = completed_same cs ds same (length (sizes cs)) ∙ completed_zero cs (length (sizes cs)) (k.plain.no_dependency (length (sizes cs)) (omega arith)) in
              let e = k.completed_is in
              omega (arith, a, b, d, e);
          sizes_are = k.sizes_are ∙ sym (sizes_same cs ds same);
          xorbs_are = λ h. xorb_same cs ds h same.same_dependencies (same.same_size h) (same.at h) (omega (arith, len)) (find (λ x. hash_eq x.hash h) xs) (k.xorbs_are h);
          within = All-push (λ (f : TrackedFile). f.registered ≤ f.total) fs _ k.within (omega arith);
          plain = plain_more k.plain;
        }

-- the number of files that are kept
pub kept_count : (cs : List TrackerStep) (fs : List TrackedFile) (xs : List TrackedXorb) (t c s : ℕ) → IsKept cs fs xs t c s → length fs ≡ length (sizes cs)
kept_count cs fs xs t c s k = ap (λ l. length l) k.files_are ∙ length-map (files cs) (tracked cs) ∙ length-enumerate_from 0 (sizes cs)

-- the same state under other terms
pub kept_to : {cs ds : List TrackerStep} {fs gs : List TrackedFile} {xs ys : List TrackedXorb} {t u c d s r : ℕ} → IsKept cs fs xs t c s
    → ds ≡ cs → gs ≡ fs → ys ≡ xs → u ≡ t → d ≡ c → r ≡ s → IsKept ds gs ys u d r
kept_to {cs} {ds} {fs} {gs} {xs} {ys} {t} {u} {c} {d} {s} {r} k a b x e f g = coe 1 0 (i. IsKept (a i) (b i) (x i) (e i) (f i) (g i)) k
