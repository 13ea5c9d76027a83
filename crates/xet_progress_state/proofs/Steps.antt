-- The calls that change what counts in one xorb, and those that change nothing.
use Rattle.std.proofs.Common.{◌≡◌, ℕ, Bool, true, false, cond, ◌||◌, List, [], ◌∷◌, ◌++◌, refl, sym, subst, ◌∙◌, ap, ◌+◌, ◌≤◌, length, map, arith}
use Rattle.std.specs.Prelude.{Option, Some, find, unwrap_or, is_some}
use Rattle.std.specs.List.{sum_by, enumerate_from}
use Rattle.std.proofs.lemmas.Bool.{true≢false}
use Rattle.std.proofs.lemmas.List.Sums.{sum_by_push}
use Rattle.xet_base.specs.declared.merklehash.MerkleHash.{MerkleHash}
use Rattle.xet_base.specs.Hashes.{hash_eq}
use Rattle.xet_base.proofs.CallerLemmas.{hash_eq-true, hash_eq-own}
use Rattle.xet_progress_state.specs.declared.step.TrackerStep.{TrackerStep}
use Rattle.xet_progress_state.specs.declared.step.TrackerStep.TheVariants.{RegisterXorbUploadCompletion}
use Rattle.xet_progress_state.specs.declared.file.TrackedFile.{TrackedFile}
use Rattle.xet_progress_state.specs.declared.xorb.TrackedXorb.{TrackedXorb}
use Rattle.xet_progress_state.specs.Counts.{new_file, growth, new_xorb, new_dependencies, completes, progresses, progress_by, up_to_progress, sizes, files, grown, total_of, registered, completed_of, size_of, size_or_zero, part, is_completed, progress, dependencies, of_file, part_of, share, registrations}
use Rattle.xet_progress_state.specs.steps.Kept.{IsKept, IsPlain, tracked}
use Rattle.xet_progress_state.proofs.Pushed.{SameAt, SameCounts, any_push_no, any_push_yes, any_push, up_to_yes, up_to_no, flat_push_none, sum_push_none, size_by, xorbs_by, counted_by, completed_same, sum_ext}
use Rattle.xet_progress_state.proofs.NewFile.{xorb_same, fits_same, sizes_same}
use Rattle.xet_progress_state.proofs.Bounds.{counted_le, part_before_le, progress_before_le}
use Rattle.xet_progress_state.proofs.Parts.{share-mono, share_all}
use Rattle.xet_progress_state.proofs.Moved.{Moves, Step}

-- a call that reports progress of a xorb
pub record IsProgress (h : MerkleHash) (k : ℕ) (c : TrackerStep) : Type 0 where
  pub no_file : new_file c ≡ []
  pub no_growth : (f : ℕ) → growth f c ≡ 0
  pub no_xorb : new_xorb c ≡ []
  pub no_dependency : new_dependencies c ≡ []
  pub no_completion : (g : MerkleHash) → completes g c ≡ false
  pub reports : (g : MerkleHash) → progresses g c ≡ hash_eq h g
  pub bytes : (g : MerkleHash) → progress_by g c ≡ cond (hash_eq h g) k 0

module _ (h : MerkleHash) (k : ℕ) (c : TrackerStep) (is : IsProgress h k c) (cs : List TrackerStep) where
  regs : registrations (cs ++ c ∷ []) ≡ registrations cs
  regs = flat_push_none new_xorb cs c is.no_xorb

  deps : dependencies (cs ++ c ∷ []) ≡ dependencies cs
  deps = flat_push_none new_dependencies cs c is.no_dependency

  done : (g : MerkleHash) → is_completed (cs ++ c ∷ []) g ≡ is_completed cs g
  done g = any_push_no (completes g) cs c (is.no_completion g)

  size : (g : MerkleHash) → size_of (cs ++ c ∷ []) g ≡ size_of cs g
  size = size_by cs (cs ++ c ∷ []) regs

  other : (g : MerkleHash) → hash_eq h g ≡ false → SameAt cs (cs ++ c ∷ []) g
  other g n =
      let none = is.reports g ∙ n in
      record {
        same_completed = done g;
        same_counted = λ f. counted_by cs (cs ++ c ∷ []) f g deps (done g) (up_to_no g cs c none) (size g);
        same_sum = λ _. sum_push_none (progress_by g) cs c (is.bytes g ∙ ap (λ b. cond b k 0) n);
        same_any = λ _. any_push_no (progresses g) cs c none;
      }

  moves : Moves cs (cs ++ c ∷ []) h
  moves = record {
    same_sizes = flat_push_none new_file cs c is.no_file;
    same_growth = λ f. sum_push_none (growth f) cs c (is.no_growth f);
    same_xorbs = xorbs_by cs (cs ++ c ∷ []) regs;
    same_size = size;
    same_dependencies = deps;
    others = other;
  }

  more : progress (cs ++ c ∷ []) h ≡ progress cs h + k
  more =
      let a = sum_by_push (progress_by h) cs c in
      let b = is.bytes h ∙ ap (λ b. cond b k 0) (hash_eq-own h) in
      omega (arith, a, b)

  pub progress_step : (z : ℕ) → size_of cs h ≡ Some z → is_completed cs h ≡ false → progress cs h + k ≤ z → IsPlain cs → Step cs (cs ++ c ∷ []) h z (progress cs h + k) z
  progress_step z e wait fit plain =
      let whole : size_or_zero cs h ≡ z = ap (λ (o : Option ℕ). unwrap_or o 0) e in
      let yes : progresses h c ≡ true = is.reports h ∙ hash_eq-own h in
      record {
        moves = moves;
        size_is = e;
        partly = fit;
        was = λ f.
            let a = ap (λ b. cond b (part cs f h) (share (part (up_to_progress h cs) f h) (progress (up_to_progress h cs) h) (size_or_zero cs h))) wait in
            let b = ap (λ s. share (part (up_to_progress h cs) f h) (progress (up_to_progress h cs) h) s) whole in
            let p = progress_before_le cs h in
            let m = share-mono (part (up_to_progress h cs) f h) (part cs f h) (progress (up_to_progress h cs) h) (progress cs h + k) z (part_before_le cs f h) (omega (arith, p)) in
            omega (arith, a, b, m);
        now_is = λ f.
            let d = done h ∙ wait in
            let u = up_to_yes h cs c yes in
            let a = ap (λ b. cond b (part (cs ++ c ∷ []) f h) (share (part (up_to_progress h (cs ++ c ∷ [])) f h) (progress (up_to_progress h (cs ++ c ∷ [])) h) (size_or_zero (cs ++ c ∷ []) h))) d in
            let b : share (part (up_to_progress h (cs ++ c ∷ [])) f h) (progress (up_to_progress h (cs ++ c ∷ [])) h) (size_or_zero (cs ++ c ∷ []) h) ≡ share (part (cs ++ c ∷ []) f h) (progress (cs ++ c ∷ []) h) (size_or_zero cs h) =
            (let z = size h in λ i. share (part (u i) f h) (progress (u i) h) (unwrap_or (z i) 0)) in
            let q : share (part (cs ++ c ∷ []) f h) (progress (cs ++ c ∷ []) h) (size_or_zero cs h) ≡ share (part cs f h) (progress cs h + k) z =
            (let x = deps in let y = more in λ i. share (sum_by (part_of f h) (x i)) (y i) (whole i)) in
            a ∙ b ∙ q;
        fits_now = λ g n. fit_at g n (hash_eq h g) refl;
      }
    where
      fit_at : (g : MerkleHash) → is_completed (cs ++ c ∷ []) g ≡ false → (b : Bool) → hash_eq h g ≡ b → progress (cs ++ c ∷ []) g ≤ size_or_zero (cs ++ c ∷ []) g
      fit_at g n true q =
          let same = hash_eq-true h g q in
          let whole : size_or_zero (cs ++ c ∷ []) h ≡ z = ap (λ (o : Option ℕ). unwrap_or o 0) (size h ∙ e) in
          let m = more in
          subst (λ (x : MerkleHash). progress (cs ++ c ∷ []) x ≤ size_or_zero (cs ++ c ∷ []) x) same (omega (arith, m, whole, fit))
      fit_at g n false q =
          let o = other g q in
          let w = sym (done g) ∙ n in
          let a = plain.fits g w in
          let b = o.same_sum w in
          let s = ap (λ (o : Option ℕ). unwrap_or o 0) (size g) in
          omega (arith, a, b, s)

  -- of a completed xorb no progress counts
  pub late_step : (z : ℕ) → size_of cs h ≡ Some z → is_completed cs h ≡ true → SameCounts cs (cs ++ c ∷ [])
  late_step z e all = record {
    same_xorbs = xorbs_by cs (cs ++ c ∷ []) regs;
    same_size = size;
    same_dependencies = deps;
    at = λ g. at g (hash_eq h g) refl;
  }
    where
      at : (g : MerkleHash) (b : Bool) → hash_eq h g ≡ b → SameAt cs (cs ++ c ∷ []) g
      at g false q = other g q
      at g true q =
          let same = hash_eq-true h g q in
          let was : is_completed cs g ≡ true = ap (λ (x : MerkleHash). is_completed cs x) (sym same) ∙ all in
          let some : size_of cs g ≡ Some z = ap (λ (x : MerkleHash). size_of cs x) (sym same) ∙ e in
          record {
            same_completed = done g;
            same_counted = λ f.
                ap (λ b. cond b (part (cs ++ c ∷ []) f g) (share (part (up_to_progress g (cs ++ c ∷ [])) f g) (progress (up_to_progress g (cs ++ c ∷ [])) g) (size_or_zero (cs ++ c ∷ []) g))) (done g ∙ was)
                ∙ ap (λ l. sum_by (part_of f g) l) deps
                ∙ sym (ap (λ b. cond b (part cs f g) (share (part (up_to_progress g cs) f g) (progress (up_to_progress g cs) g) (size_or_zero cs g))) was);
            same_sum = λ n. absurd (true≢false (sym was ∙ n));
            same_any = λ n. absurd (cc);
          }

-- completion of a xorb
module _ (h : MerkleHash) (cs : List TrackerStep) where
  abbrev c : TrackerStep
  c = RegisterXorbUploadCompletion h

  apart : (g : MerkleHash) → hash_eq h g ≡ false → SameAt cs (cs ++ RegisterXorbUploadCompletion h ∷ []) g
  apart g n =
      let deps = flat_push_none new_dependencies cs (RegisterXorbUploadCompletion h) refl in
      let size = size_by cs (cs ++ RegisterXorbUploadCompletion h ∷ []) (flat_push_none new_xorb cs (RegisterXorbUploadCompletion h) refl) in
      let d = any_push_no (completes g) cs (RegisterXorbUploadCompletion h) n in
      record {
        same_completed = d;
        same_counted = λ f. counted_by cs (cs ++ RegisterXorbUploadCompletion h ∷ []) f g deps d (up_to_no g cs (RegisterXorbUploadCompletion h) refl) (size g);
        same_sum = λ _. sum_push_none (progress_by g) cs (RegisterXorbUploadCompletion h) refl;
        same_any = λ _. any_push_no (progresses g) cs (RegisterXorbUploadCompletion h) refl;
      }

  pub completion_step : (z : ℕ) → size_of cs h ≡ Some z → IsPlain cs → Step cs (cs ++ RegisterXorbUploadCompletion h ∷ []) h z 1 1
  completion_step z e plain =
      let ds = cs ++ RegisterXorbUploadCompletion h ∷ [] in
      let deps = flat_push_none new_dependencies cs (RegisterXorbUploadCompletion h) refl in
      let regs = flat_push_none new_xorb cs (RegisterXorbUploadCompletion h) refl in
      let size = size_by cs (cs ++ RegisterXorbUploadCompletion h ∷ []) regs in
      let all = any_push_yes (completes h) cs (RegisterXorbUploadCompletion h) (hash_eq-own h) in
      record {
        moves = record {
          same_sizes = flat_push_none new_file cs (RegisterXorbUploadCompletion h) refl;
          same_growth = λ f. sum_push_none (growth f) cs (RegisterXorbUploadCompletion h) refl;
          same_xorbs = xorbs_by cs (cs ++ RegisterXorbUploadCompletion h ∷ []) regs;
          same_size = size;
          same_dependencies = deps;
          others = apart;
        };
        size_is = e;
        partly = omega arith;
        was = λ f. let a = counted_le cs plain.fits f h in let b = share_all (part cs f h) in omega (arith, a, b);
        now_is = λ f.
            ap (λ b. cond b (part (cs ++ RegisterXorbUploadCompletion h ∷ []) f h) (share (part (up_to_progress h (cs ++ RegisterXorbUploadCompletion h ∷ [])) f h) (progress (up_to_progress h (cs ++ RegisterXorbUploadCompletion h ∷ [])) h) (size_or_zero (cs ++ RegisterXorbUploadCompletion h ∷ []) h))) all
            ∙ ap (λ l. sum_by (part_of f h) l) deps ∙ sym (share_all (part cs f h));
        fits_now = λ g n. fit_at all (λ q. size q) g n (hash_eq h g) refl;
      }
    where
      fit_at : is_completed (cs ++ RegisterXorbUploadCompletion h ∷ []) h ≡ true → ((g : MerkleHash) → size_of (cs ++ RegisterXorbUploadCompletion h ∷ []) g ≡ size_of cs g) → (g : MerkleHash) → is_completed (cs ++ RegisterXorbUploadCompletion h ∷ []) g ≡ false → (b : Bool) → hash_eq h g ≡ b
          → progress (cs ++ RegisterXorbUploadCompletion h ∷ []) g ≤ size_or_zero (cs ++ RegisterXorbUploadCompletion h ∷ []) g
      fit_at all size g n true q = absurd (true≢false (sym all ∙ ap (λ (x : MerkleHash). is_completed (cs ++ RegisterXorbUploadCompletion h ∷ []) x) (hash_eq-true h g q) ∙ n))
      fit_at all size g n false q =
          let o = apart g q in
          let w = sym o.same_completed ∙ n in
          let a = plain.fits g w in
          let b = o.same_sum w in
          let s = ap (λ (o : Option ℕ). unwrap_or o 0) (size g) in
          omega (arith, a, b, s)

  -- a completed one stays so
  pub again_step : is_completed cs h ≡ true → SameCounts cs (cs ++ RegisterXorbUploadCompletion h ∷ [])
  again_step all =
      let deps = flat_push_none new_dependencies cs (RegisterXorbUploadCompletion h) refl in
      let regs = flat_push_none new_xorb cs (RegisterXorbUploadCompletion h) refl in
      let size = size_by cs (cs ++ RegisterXorbUploadCompletion h ∷ []) regs in
      record {
        same_xorbs = xorbs_by cs (cs ++ RegisterXorbUploadCompletion h ∷ []) regs;
        same_size = size;
        same_dependencies = deps;
        at = λ g. at g (hash_eq h g) refl deps (size g);
      }
    where
      at : (g : MerkleHash) (b : Bool) → hash_eq h g ≡ b → dependencies (cs ++ RegisterXorbUploadCompletion h ∷ []) ≡ dependencies cs → size_of (cs ++ RegisterXorbUploadCompletion h ∷ []) g ≡ size_of cs g → SameAt cs (cs ++ RegisterXorbUploadCompletion h ∷ []) g
      at g false q ds sz = apart g q
      at g true q ds sz =
          let was : is_completed cs g ≡ true = ap (λ (x : MerkleHash). is_completed cs x) (sym (hash_eq-true h g q)) ∙ all in
          let d : is_completed (cs ++ RegisterXorbUploadCompletion h ∷ []) g ≡ is_completed cs g = any_push (completes g) cs (RegisterXorbUploadCompletion h) ∙ ap (λ b. b || completes g (RegisterXorbUploadCompletion h)) was ∙ sym was in
          record {
            same_completed = d;
            same_counted = λ f. counted_by cs (cs ++ RegisterXorbUploadCompletion h ∷ []) f g ds d (up_to_no g cs (RegisterXorbUploadCompletion h) refl) sz;
            same_sum = λ _. sum_push_none (progress_by g) cs (RegisterXorbUploadCompletion h) refl;
            same_any = λ _. any_push_no (progresses g) cs (RegisterXorbUploadCompletion h) refl;
          }

pub map_ext : {A B : Type 0} (f g : A → B) (xs : List A) → ((x : A) → f x ≡ g x) → map f xs ≡ map g xs
map_ext f g xs e = let h : f ≡ g = λ i x. e x i in ap (λ k. map k xs) h

-- a state stands for calls that count alike
pub kept_same : (cs ds : List TrackerStep) (fs : List TrackedFile) (xs : List TrackedXorb) (t c s : ℕ) → SameCounts cs ds → sizes ds ≡ sizes cs → ((f : ℕ) → grown ds f ≡ grown cs f) → IsKept cs fs xs t c s → IsKept ds fs xs t c s
kept_same cs ds fs xs t c s same sz gr k =
    let fl : files ds ≡ files cs = ap (λ (l : List (Option ℕ)). enumerate_from 0 l) sz in
    let len = ap (λ (l : List (Option ℕ)). length l) sz in
    let total : (f : ℕ × Option ℕ) → total_of ds f ≡ total_of cs f = λ f. ap (λ n. unwrap_or f.1 n) (gr f.0) in
    let reg : (f : ℕ) → registered ds f ≡ registered cs f = λ f. ap (λ l. sum_by (of_file f) l) same.same_dependencies in
    let tr : (f : ℕ × Option ℕ) → tracked ds f ≡ tracked cs f =
    λ f. let a = total f in let b = reg f.0 in let d = completed_same cs ds same f.0 in λ i. record { fixed = is_some f.1; total = a i; registered = b i; completed = d i } in
    record {
      files_are = k.files_are ∙ sym (map_ext (tracked ds) (tracked cs) (files ds) tr ∙ ap (λ l. map (tracked cs) l) fl);
      total_is = k.total_is ∙ sym (ap (λ l. sum_by (total_of ds) l) fl ∙ sum_ext (total_of ds) (total_of cs) (files cs) total);
      completed_is = k.completed_is ∙ sym (ap (λ l. sum_by (λ (f : ℕ × Option ℕ). completed_of ds f.0) l) fl ∙ sum_ext (λ (f : ℕ × Option ℕ). completed_of ds f.0) (λ (f : ℕ × Option ℕ). completed_of cs f.0) (files cs) (λ f. completed_same cs ds same f.0));
      sizes_are = k.sizes_are ∙ sym (sizes_same cs ds same);
      xorbs_are = λ h. xorb_same cs ds h same.same_dependencies (same.same_size h) (same.at h) (omega (arith, len)) (find (λ x. hash_eq x.hash h) xs) (k.xorbs_are h);
      within = k.within;
      plain = record {
        no_growth = λ f l. gr f ∙ k.plain.no_growth f (omega (arith, len, l));
        no_dependency = λ f l. reg f ∙ k.plain.no_dependency f (omega (arith, len, l));
        no_completion = λ h n. (same.at h).same_completed ∙ k.plain.no_completion h (sym (same.same_size h) ∙ n);
        fits = fits_same cs ds same k.plain;
        no_progress = λ h n. let z = sym (same.same_size h) ∙ n in (same.at h).same_any z ∙ k.plain.no_progress h z;
      };
    }
