-- The tracker after a dependency.
use Rattle.std.proofs.Common.{◌≡◌, ◌≢◌, ℕ, Bool, true, false, cond, not, ◌||◌, ◌&&◌, List, [], ◌∷◌, ◌++◌, refl, sym, subst, ◌∙◌, ap, ◌+◌, ◌<◌, ◌≤◌, length, map, get_or, set, arith}
use Rattle.std.specs.Prelude.{Option, Some, None, find, nat_eq, All, AllPairs, unwrap_or, is_some}
use Rattle.std.specs.List.{list_any, sum_by}
use Rattle.std.proofs.lemmas.Bool.{true≢false, eqb-true, eqb-false}
use Rattle.std.proofs.lemmas.List.{length-set, length-map, get_or-set_same, get_or-set_other, get_or_default, ext_get_or}
use Rattle.std.proofs.lemmas.List.FromFn.{length-enumerate_from}
use Rattle.std.proofs.lemmas.List.Sums.{sum_by_push, sum_by-set}
use Rattle.xet_base.specs.declared.merklehash.MerkleHash.{MerkleHash}
use Rattle.xet_base.specs.Hashes.{hash_eq}
use Rattle.xet_base.proofs.CallerLemmas.{hash_eq-true, hash_eq-own}
use Rattle.xet_progress_state.specs.declared.step.FileXorbDependency.{FileXorbDependency}
use Rattle.xet_progress_state.specs.declared.step.TrackerStep.{TrackerStep}
use Rattle.xet_progress_state.specs.declared.step.TrackerStep.TheVariants.{RegisterDependencies}
use Rattle.xet_progress_state.specs.declared.file.TrackedFile.{TrackedFile}
use Rattle.xet_progress_state.specs.declared.xorb.TrackedXorb.{TrackedXorb}
use Rattle.xet_progress_state.specs.declared.part.Part.{Part}
use Rattle.xet_progress_state.specs.Counts.{new_file, growth, new_xorb, new_dependencies, completes, progresses, progress_by, up_to_progress, sizes, files, grown, total_of, registered, external, completed_of, external_of, size_of, size_or_zero, part, counted, xorbs, registrations, is_completed, progress, dependencies, of_file, part_of, share}
use Rattle.xet_progress_state.specs.steps.Kept.{IsKept, IsPlain, XorbIs, XorbStands, tracked, waiting_in, credited_in}
use Rattle.xet_progress_state.specs.steps.Credits.{completed_in, total_in}
use Rattle.xet_progress_state.specs.steps.Depends.{Waited, Depended, with_waiting, with_dependency}
use Rattle.xet_progress_state.proofs.Pushed.{any_push_no, up_to_no, flat_push, flat_push_none, sum_push_none, size_by, xorbs_by, sum_ext}
use Rattle.xet_progress_state.proofs.NewFile.{kept_count}
use Rattle.xet_progress_state.proofs.Differ.{firsts_differ, sum_moved}
use Rattle.xet_progress_state.proofs.Moved.{entries_set, stands_at, is_listed, file_at, kept_at, sum_by-map, total_kept, completed_kept}
use Rattle.xet_progress_state.proofs.Looked.{own_at}

module _ (cs : List TrackerStep) (d : FileXorbDependency) where
  deps : dependencies (cs ++ RegisterDependencies (d ∷ []) ∷ []) ≡ dependencies cs ++ d ∷ []
  deps = flat_push new_dependencies cs (RegisterDependencies (d ∷ []))

  regs : registrations (cs ++ RegisterDependencies (d ∷ []) ∷ []) ≡ registrations cs
  regs = flat_push_none new_xorb cs (RegisterDependencies (d ∷ [])) refl

  size : (h : MerkleHash) → size_of (cs ++ RegisterDependencies (d ∷ []) ∷ []) h ≡ size_of cs h
  size = size_by cs (cs ++ RegisterDependencies (d ∷ []) ∷ []) regs

  done : (h : MerkleHash) → is_completed (cs ++ RegisterDependencies (d ∷ []) ∷ []) h ≡ is_completed cs h
  done h = any_push_no (completes h) cs (RegisterDependencies (d ∷ [])) refl

  before : (h : MerkleHash) → up_to_progress h (cs ++ RegisterDependencies (d ∷ []) ∷ []) ≡ up_to_progress h cs
  before h = up_to_no h cs (RegisterDependencies (d ∷ [])) refl

  part_more : (f : ℕ) (h : MerkleHash) → part (cs ++ RegisterDependencies (d ∷ []) ∷ []) f h ≡ part cs f h + part_of f h d
  part_more f h = ap (λ l. sum_by (part_of f h) l) deps ∙ sum_by_push (part_of f h) (dependencies cs) d

  registered_more : (f : ℕ) → registered (cs ++ RegisterDependencies (d ∷ []) ∷ []) f ≡ registered cs f + of_file f d
  registered_more f = ap (λ l. sum_by (of_file f) l) deps ∙ sum_by_push (of_file f) (dependencies cs) d

  external_more : (f : ℕ) → external (cs ++ RegisterDependencies (d ∷ []) ∷ []) f ≡ external cs f + external_of f d
  external_more f = ap (λ l. sum_by (external_of f) l) deps ∙ sum_by_push (external_of f) (dependencies cs) d

  counted_more : (f : ℕ) (h : MerkleHash) → counted (cs ++ RegisterDependencies (d ∷ []) ∷ []) f h ≡ counted cs f h + cond (is_completed cs h) (part_of f h d) 0
  counted_more f h =
      let rest : share (part (up_to_progress h (cs ++ RegisterDependencies (d ∷ []) ∷ [])) f h) (progress (up_to_progress h (cs ++ RegisterDependencies (d ∷ []) ∷ [])) h) (size_or_zero (cs ++ RegisterDependencies (d ∷ []) ∷ []) h) ≡ share (part (up_to_progress h cs) f h) (progress (up_to_progress h cs) h) (size_or_zero cs h) =
      (let u = before h in let z = size h in λ i. share (part (u i) f h) (progress (u i) h) (unwrap_or (z i) 0)) in
      (let a = done h in let b = part_more f h in λ i. cond (a i) (b i) (rest i)) ∙ go (is_completed cs h) (part cs f h) (part_of f h d) (share (part (up_to_progress h cs) f h) (progress (up_to_progress h cs) h) (size_or_zero cs h))
    where
      go : (b : Bool) (x n s : ℕ) → cond b (x + n) s ≡ cond b x s + cond b n 0
      go true x n s = refl
      go false x n s = omega arith

  no_part_apart : (f : ℕ) (h : MerkleHash) → hash_eq d.xorb_hash h ≡ false → part_of f h d ≡ 0
  no_part_apart f h e = go (nat_eq d.file_id f) d.is_external
    where
      go : (a b : Bool) → cond (a && (not b && hash_eq d.xorb_hash h)) d.n_bytes 0 ≡ 0
      go false b = refl
      go true true = refl
      go true false = ap (λ c. cond c d.n_bytes 0) e

  no_part_outside : (f : ℕ) (h : MerkleHash) → d.is_external ≡ true → part_of f h d ≡ 0
  no_part_outside f h e = ap (λ b. cond (nat_eq d.file_id f && (not b && hash_eq d.xorb_hash h)) d.n_bytes 0) e ∙ go (nat_eq d.file_id f)
    where
      go : (a : Bool) → cond (a && false) d.n_bytes 0 ≡ 0
      go true = refl
      go false = refl

  part_here : (f : ℕ) → d.is_external ≡ false → part_of f d.xorb_hash d ≡ of_file f d
  part_here f e = ap (λ b. cond (nat_eq d.file_id f && (not b && hash_eq d.xorb_hash d.xorb_hash)) d.n_bytes 0) e ∙ ap (λ b. cond (nat_eq d.file_id f && b) d.n_bytes 0) (hash_eq-own d.xorb_hash) ∙ go (nat_eq d.file_id f)
    where
      go : (a : Bool) → cond (a && true) d.n_bytes 0 ≡ cond a d.n_bytes 0
      go true = refl
      go false = refl

  external_is : (f : ℕ) (b : Bool) → d.is_external ≡ b → external_of f d ≡ cond b (of_file f d) 0
  external_is f b e = ap (λ b. cond (nat_eq d.file_id f && b) d.n_bytes 0) e ∙ go (nat_eq d.file_id f) b
    where
      go : (a b : Bool) → cond (a && b) d.n_bytes 0 ≡ cond b (cond a d.n_bytes 0) 0
      go true true = refl
      go true false = refl
      go false true = refl
      go false false = refl

  xorbs_same : xorbs (cs ++ RegisterDependencies (d ∷ []) ∷ []) ≡ xorbs cs
  xorbs_same = xorbs_by cs (cs ++ RegisterDependencies (d ∷ []) ∷ []) regs

  -- what a file has completed after it
  pub completed_more : IsPlain cs → (f : ℕ) → completed_of (cs ++ RegisterDependencies (d ∷ []) ∷ []) f ≡ completed_of cs f + cond (d.is_external || is_completed cs d.xorb_hash) (of_file f d) 0
  completed_more plain f = go d.is_external refl (is_completed cs d.xorb_hash) refl
    where
      sum : sum_by (counted (cs ++ RegisterDependencies (d ∷ []) ∷ []) f) (xorbs (cs ++ RegisterDependencies (d ∷ []) ∷ [])) ≡ sum_by (counted (cs ++ RegisterDependencies (d ∷ []) ∷ []) f) (xorbs cs)
      sum = ap (λ (l : List MerkleHash). sum_by (counted (cs ++ RegisterDependencies (d ∷ []) ∷ []) f) l) xorbs_same

      still : ((h : MerkleHash) → cond (is_completed cs h) (part_of f h d) 0 ≡ 0) → sum_by (counted (cs ++ RegisterDependencies (d ∷ []) ∷ []) f) (xorbs cs) ≡ sum_by (counted cs f) (xorbs cs)
      still z = sum_ext (counted (cs ++ RegisterDependencies (d ∷ []) ∷ []) f) (counted cs f) (xorbs cs) (λ h. let a = counted_more f h in let b = z h in omega (arith, a, b))

      cond_zero : (b : Bool) (n : ℕ) → n ≡ 0 → cond b n 0 ≡ 0
      cond_zero true n e = e
      cond_zero false n e = refl

      go : (a : Bool) → d.is_external ≡ a → (b : Bool) → is_completed cs d.xorb_hash ≡ b → completed_of (cs ++ RegisterDependencies (d ∷ []) ∷ []) f ≡ completed_of cs f + cond (d.is_external || is_completed cs d.xorb_hash) (of_file f d) 0
      go true e b k =
          let x = external_more f in
          let y = external_is f true e in
          let z = still (λ h. cond_zero (is_completed cs h) (part_of f h d) (no_part_outside f h e)) in
          let c = ap (λ b. cond (b || is_completed cs d.xorb_hash) (of_file f d) 0) e in
          let s = sum in
          omega (arith, x, y, z, c, s)
      go false e false k =
          let x = external_more f in
          let y = external_is f false e in
          let z = still (λ h. at h (hash_eq d.xorb_hash h) refl) in
          let c = ap (λ b. cond (b || is_completed cs d.xorb_hash) (of_file f d) 0) e ∙ ap (λ b. cond b (of_file f d) 0) k in
          let s = sum in
          omega (arith, x, y, z, c, s)
        where
          at : (h : MerkleHash) (b : Bool) → hash_eq d.xorb_hash h ≡ b → cond (is_completed cs h) (part_of f h d) 0 ≡ 0
          at h true q = ap (λ b. cond b (part_of f h d) 0) (ap (λ (x : MerkleHash). is_completed cs x) (sym (hash_eq-true d.xorb_hash h q)) ∙ k)
          at h false q = cond_zero (is_completed cs h) (part_of f h d) (no_part_apart f h q)
      go false e true k =
          let x = external_more f in
          let y = external_is f false e in
          let c = ap (λ b. cond (b || is_completed cs d.xorb_hash) (of_file f d) 0) e ∙ ap (λ b. cond b (of_file f d) 0) k in
          let p = counted_more f d.xorb_hash in
          let q = ap (λ b. cond b (part_of f d.xorb_hash d) 0) k in
          let r = part_here f e in
          let m = sum_moved (counted (cs ++ RegisterDependencies (d ∷ []) ∷ []) f) (counted cs f) d.xorb_hash (xorbs cs) (firsts_differ (map (λ x. x.0) (registrations cs))) (listed (size_of cs d.xorb_hash) refl)
          (λ g n. let a = counted_more f g in let z = cond_zero (is_completed cs g) (part_of f g d) (no_part_apart f g n) in omega (arith, a, z)) in
          let s = sum in
          omega (arith, x, y, c, p, q, r, m, s)
        where
          listed : (o : Option ℕ) → size_of cs d.xorb_hash ≡ o → list_any (λ g. hash_eq d.xorb_hash g) (xorbs cs) ≡ true
          listed (Some z) e = is_listed cs d.xorb_hash z e
          listed None e = absurd (true≢false (sym k ∙ plain.no_completion d.xorb_hash e))

  quiet_counted : (g : MerkleHash) → ((f : ℕ) → part_of f g d ≡ 0) → (f : ℕ) → counted (cs ++ RegisterDependencies (d ∷ []) ∷ []) f g ≡ counted cs f g
  quiet_counted g z f =
      let a = counted_more f g in
      let b = zero_in (is_completed cs g) (part_of f g d) (z f) in
      omega (arith, a, b)
    where
      zero_in : (b : Bool) (n : ℕ) → n ≡ 0 → cond b n 0 ≡ 0
      zero_in true n e = e
      zero_in false n e = refl

  sum_same : (h : MerkleHash) → progress (cs ++ RegisterDependencies (d ∷ []) ∷ []) h ≡ progress cs h
  sum_same h = sum_push_none (progress_by h) cs (RegisterDependencies (d ∷ [])) refl

  sizes_same : sizes (cs ++ RegisterDependencies (d ∷ []) ∷ []) ≡ sizes cs
  sizes_same = flat_push_none new_file cs (RegisterDependencies (d ∷ [])) refl

  -- a xorb of which the dependency has no part
  quiet_xorb : (g : MerkleHash) → ((f : ℕ) → part_of f g d ≡ 0) → (o : Option TrackedXorb) → XorbIs cs g o → XorbIs (cs ++ RegisterDependencies (d ∷ []) ∷ []) g o
  quiet_xorb g z None a = record { no_size = size g ∙ a.no_size; no_part = λ f. let p = part_more f g in let q = z f in let r = a.no_part f in omega (arith, p, q, r) }
  quiet_xorb g z (Some x) a = record {
    size_is = a.size_is ∙ sym (size g);
    completed_is = a.completed_is ∙ sym (done g);
    sent_is = λ wait. a.sent_is wait ∙ sym (sum_same g);
    waits = λ f. let p = part_more f g in let q = z f in let r = a.waits f in omega (arith, p, q, r);
    credits = λ f. a.credits f ∙ sym (quiet_counted g z f);
    known = λ k e l. let p = a.known k e l in let q = ap (λ (l : List (Option ℕ)). length l) sizes_same in omega (arith, p, q);
    differ = a.differ;
  }

  module _ (fs gs : List TrackedFile) (xs ys : List TrackedXorb) (t c r s : ℕ) (k : IsKept cs fs xs t c s) (dep : Depended fs gs xs ys c r d) (there : d.file_id < length fs) where
    count : length fs ≡ length (sizes cs)
    count = kept_count cs fs xs t c s k

    counts_is : (b : Bool) → d.is_external ≡ b → dep.counts ≡ (d.is_external || is_completed cs d.xorb_hash)
    counts_is true e = (dep.outside e).0 ∙ sym (ap (λ b. b || is_completed cs d.xorb_hash) e)
    counts_is false e =
        let w = dep.inside e in
        let stands : XorbStands cs d.xorb_hash w.old = subst (λ (y : TrackedXorb). XorbStands cs d.xorb_hash y) (sym w.old_is) (stands_at cs d.xorb_hash xs w.place w.old k.xorbs_are w.place_is) in
        w.done_is ∙ stands.completed_is ∙ sym (ap (λ b. b || is_completed cs d.xorb_hash) e)

    counts : dep.counts ≡ (d.is_external || is_completed cs d.xorb_hash)
    counts = counts_is d.is_external refl

    file_after : (f : ℕ) (e : TrackedFile) → f < length fs → get_or gs f e ≡ record (get_or fs f e) { registered = (get_or fs f e).registered + of_file f d; completed = (get_or fs f e).completed + cond dep.counts (of_file f d) 0 }
    file_after f e l = ap (λ (l : List TrackedFile). get_or l f e) dep.files_are ∙ go (nat_eq d.file_id f) refl
      where
        new : TrackedFile
        new = with_dependency dep.counts d.n_bytes (get_or fs d.file_id (record { fixed = false; total = 0; registered = 0; completed = 0 }))

        go : (b : Bool) → nat_eq d.file_id f ≡ b → get_or (set fs d.file_id (with_dependency dep.counts d.n_bytes (get_or fs d.file_id (record { fixed = false; total = 0; registered = 0; completed = 0 })))) f e
            ≡ record (get_or fs f e) { registered = (get_or fs f e).registered + of_file f d; completed = (get_or fs f e).completed + cond dep.counts (of_file f d) 0 }
        go true q =
            let same = eqb-true d.file_id f q in
            let n : d.n_bytes ≡ of_file f d = sym (ap (λ b. cond b d.n_bytes 0) q) in
            ap (λ (k : ℕ). get_or (set fs k (with_dependency dep.counts d.n_bytes (get_or fs k (record { fixed = false; total = 0; registered = 0; completed = 0 })))) f e) same
            ∙ get_or-set_same fs f (with_dependency dep.counts d.n_bytes (get_or fs f (record { fixed = false; total = 0; registered = 0; completed = 0 }))) e l
            ∙ ap (λ (x : TrackedFile). with_dependency dep.counts d.n_bytes x) (get_or_default fs f (record { fixed = false; total = 0; registered = 0; completed = 0 }) e l)
            ∙ ap (λ (m : ℕ). with_dependency dep.counts m (get_or fs f e)) n
        go false q =
            let other : f ≢ d.file_id = λ k. eqb-false d.file_id f q (sym k) in
            let n : 0 ≡ of_file f d = sym (ap (λ b. cond b d.n_bytes 0) q) in
            let a : (get_or fs f e).registered ≡ (get_or fs f e).registered + of_file f d = omega (arith, n) in
            let b : (get_or fs f e).completed ≡ (get_or fs f e).completed + cond dep.counts (of_file f d) 0 = (let z = zero_in dep.counts (of_file f d) (sym n) in omega (arith, z)) in
            get_or-set_other fs d.file_id f (with_dependency dep.counts d.n_bytes (get_or fs d.file_id (record { fixed = false; total = 0; registered = 0; completed = 0 }))) e other
            ∙ (λ i. let x : TrackedFile = record (get_or fs f e) { registered = a i; completed = b i } in x)
          where
            zero_in : (b : Bool) (n : ℕ) → n ≡ 0 → cond b n 0 ≡ 0
            zero_in true n e = e
            zero_in false n e = refl

    len : length gs ≡ length fs
    len = ap (λ (l : List TrackedFile). length l) dep.files_are ∙ length-set fs d.file_id _

    file_is : (f : ℕ) (e : TrackedFile) → f < length gs → get_or gs f e ≡ get_or (map (tracked (cs ++ RegisterDependencies (d ∷ []) ∷ [])) (files (cs ++ RegisterDependencies (d ∷ []) ∷ []))) f e
    file_is f e l =
        let ds = cs ++ RegisterDependencies (d ∷ []) ∷ [] in
        let inside : f < length (sizes cs) = (let a = count in let b = len in omega (arith, l, a, b)) in
        let inside' : f < length (sizes (cs ++ RegisterDependencies (d ∷ []) ∷ [])) = (let b = ap (λ (l : List (Option ℕ)). length l) sizes_same in omega (arith, inside, b)) in
        let old = kept_at cs fs f e k.files_are inside in
        let fixed : get_or (sizes (cs ++ RegisterDependencies (d ∷ []) ∷ [])) f None ≡ get_or (sizes cs) f None = ap (λ (l : List (Option ℕ)). get_or l f None) sizes_same in
        let gr : grown (cs ++ RegisterDependencies (d ∷ []) ∷ []) f ≡ grown cs f = sum_push_none (growth f) cs (RegisterDependencies (d ∷ [])) refl in
        let total : total_of (cs ++ RegisterDependencies (d ∷ []) ∷ []) (file_at (cs ++ RegisterDependencies (d ∷ []) ∷ []) f) ≡ total_of cs (file_at cs f) = λ i. unwrap_or (fixed i) (gr i) in
        let reg = registered_more f in
        let fin : completed_of (cs ++ RegisterDependencies (d ∷ []) ∷ []) f ≡ completed_of cs f + cond dep.counts (of_file f d) 0 =
        completed_more k.plain f ∙ sym (ap (λ b. completed_of cs f + cond b (of_file f d) 0) counts) in
        file_after f e (let b = len in omega (arith, l, b))
        ∙ ap (λ (x : TrackedFile). let y : TrackedFile = record x { registered = x.registered + of_file f d; completed = x.completed + cond dep.counts (of_file f d) 0 } in y) old
        ∙ (λ i. let y : TrackedFile = record { fixed = is_some (sym fixed i); total = sym total i; registered = sym reg i; completed = sym fin i } in y)
        ∙ sym (kept_at (cs ++ RegisterDependencies (d ∷ []) ∷ []) (map (tracked (cs ++ RegisterDependencies (d ∷ []) ∷ [])) (files (cs ++ RegisterDependencies (d ∷ []) ∷ []))) f e refl inside')

    files_are : gs ≡ map (tracked (cs ++ RegisterDependencies (d ∷ []) ∷ [])) (files (cs ++ RegisterDependencies (d ∷ []) ∷ []))
    files_are =
        let ds = cs ++ RegisterDependencies (d ∷ []) ∷ [] in
        let a = length-map (files (cs ++ RegisterDependencies (d ∷ []) ∷ [])) (tracked (cs ++ RegisterDependencies (d ∷ []) ∷ [])) in
        let b = length-enumerate_from 0 (sizes (cs ++ RegisterDependencies (d ∷ []) ∷ [])) in
        let e = ap (λ (l : List (Option ℕ)). length l) sizes_same in
        let f = count in
        let g = len in
        ext_get_or (record { fixed = false; total = 0; registered = 0; completed = 0 }) gs (map (tracked (cs ++ RegisterDependencies (d ∷ []) ∷ [])) (files (cs ++ RegisterDependencies (d ∷ []) ∷ []))) (omega (arith, a, b, e, f, g)) (λ i l. file_is i (record { fixed = false; total = 0; registered = 0; completed = 0 }) l)

    -- the entry of the xorb
    entry_after : d.is_external ≡ false → (w : Waited xs ys d dep.counts) → XorbStands cs d.xorb_hash w.old → XorbStands (cs ++ RegisterDependencies (d ∷ []) ∷ []) d.xorb_hash w.new
    entry_after e w x = record {
      size_is = w.same_size ∙ x.size_is ∙ sym (size d.xorb_hash);
      completed_is = w.same_done ∙ x.completed_is ∙ sym (done d.xorb_hash);
      sent_is = λ wait. w.same_sent ∙ x.sent_is (sym w.same_done ∙ wait) ∙ sym (sum_same d.xorb_hash);
      waits = λ f.
          let a = ap (λ (l : List Part). sum_by (waiting_in f) l) w.parts_are in
          let b = sum_by-set (waiting_in f) w.old.parts w.number (with_waiting w.old.completed d.n_bytes (get_or w.old.parts w.number (record { file = 0; waiting = 0; credited = 0 }))) (record { file = 0; waiting = 0; credited = 0 }) w.inside in
          let g = add_in (nat_eq (get_or w.old.parts w.number (record { file = 0; waiting = 0; credited = 0 })).file f) (get_or w.old.parts w.number (record { file = 0; waiting = 0; credited = 0 })).waiting d.n_bytes in
          let h = ap (λ (m : ℕ). cond (nat_eq m f) d.n_bytes 0) w.file_is in
          let p = part_more f d.xorb_hash in
          let q = part_here f e in
          let r = x.waits f in
          omega (arith, a, b, g, h, p, q, r);
      credits = λ f.
          let a = ap (λ (l : List Part). sum_by (credited_in f) l) w.parts_are in
          let b = sum_by-set (credited_in f) w.old.parts w.number (with_waiting w.old.completed d.n_bytes (get_or w.old.parts w.number (record { file = 0; waiting = 0; credited = 0 }))) (record { file = 0; waiting = 0; credited = 0 }) w.inside in
          let g = add_in (nat_eq (get_or w.old.parts w.number (record { file = 0; waiting = 0; credited = 0 })).file f) (get_or w.old.parts w.number (record { file = 0; waiting = 0; credited = 0 })).credited (cond w.old.completed d.n_bytes 0) in
          let h = ap (λ (m : ℕ). cond (nat_eq m f) (cond w.old.completed d.n_bytes 0) 0) w.file_is in
          let h' = swap (nat_eq d.file_id f) w.old.completed d.n_bytes in
          let i = ap (λ b. cond b (of_file f d) 0) x.completed_is in
          let p = counted_more f d.xorb_hash in
          let q = ap (λ (m : ℕ). cond (is_completed cs d.xorb_hash) m 0) (part_here f e) in
          let r = x.credits f in
          omega (arith, a, b, g, h, h', i, p, q, r);
      known = subst (λ (l : List Part). All (λ p. p.file < length (sizes (cs ++ RegisterDependencies (d ∷ []) ∷ []))) l) (sym w.parts_are) (λ i z l.
          let q = ap (λ (l : List (Option ℕ)). length l) sizes_same in
          let n = length-set w.old.parts w.number (with_waiting w.old.completed d.n_bytes (get_or w.old.parts w.number (record { file = 0; waiting = 0; credited = 0 }))) in
          let f = same_file w.old.parts w.number i w.old.completed d.n_bytes z w.inside in
          let p = x.known i z (omega (arith, l, n)) in
          omega (arith, p, q, f));
      differ = subst (λ (l : List Part). AllPairs (λ p q. nat_eq p.file q.file ≡ false) l) (sym w.parts_are) (λ i j z l m.
          let n = length-set w.old.parts w.number (with_waiting w.old.completed d.n_bytes (get_or w.old.parts w.number (record { file = 0; waiting = 0; credited = 0 }))) in
          let f = same_file w.old.parts w.number i w.old.completed d.n_bytes z w.inside in
          let g = same_file w.old.parts w.number j w.old.completed d.n_bytes z w.inside in
          (λ i'. nat_eq (f i') (g i')) ∙ x.differ i j z l (omega (arith, m, n)));
    }
      where
        add_in : (b : Bool) (x n : ℕ) → cond b (x + n) 0 ≡ cond b x 0 + cond b n 0
        add_in true x n = refl
        add_in false x n = omega arith

        swap : (a b : Bool) (n : ℕ) → cond a (cond b n 0) 0 ≡ cond b (cond a n 0) 0
        swap true true n = refl
        swap true false n = refl
        swap false true n = refl
        swap false false n = refl

        same_file : (ps : List Part) (k i : ℕ) (b : Bool) (n : ℕ) (z : Part) → k < length ps → (get_or (set ps k (with_waiting b n (get_or ps k (record { file = 0; waiting = 0; credited = 0 })))) i z).file ≡ (get_or ps i z).file
        same_file ps k i b n z l = go (nat_eq i k) refl
          where
            go : (e : Bool) → nat_eq i k ≡ e → (get_or (set ps k (with_waiting b n (get_or ps k (record { file = 0; waiting = 0; credited = 0 })))) i z).file ≡ (get_or ps i z).file
            go true e =
                let same = eqb-true i k e in
                ap (λ (j : ℕ). (get_or (set ps k (with_waiting b n (get_or ps k (record { file = 0; waiting = 0; credited = 0 })))) j z).file) same
                ∙ ap (λ (p : Part). p.file) (get_or-set_same ps k (with_waiting b n (get_or ps k (record { file = 0; waiting = 0; credited = 0 }))) z l)
                ∙ ap (λ (p : Part). p.file) (get_or_default ps k (record { file = 0; waiting = 0; credited = 0 }) z l)
                ∙ ap (λ (j : ℕ). (get_or ps j z).file) (sym same)
            go false e = ap (λ (p : Part). p.file) (get_or-set_other ps k i (with_waiting b n (get_or ps k (record { file = 0; waiting = 0; credited = 0 }))) z (eqb-false i k e))

    xorbs_after : (b : Bool) → d.is_external ≡ b → (g : MerkleHash) → XorbIs (cs ++ RegisterDependencies (d ∷ []) ∷ []) g (find (λ x. hash_eq x.hash g) ys)
    xorbs_after true e g =
        subst (λ (l : List TrackedXorb). XorbIs (cs ++ RegisterDependencies (d ∷ []) ∷ []) g (find (λ x. hash_eq x.hash g) l)) (sym (dep.outside e).1)
        (quiet_xorb g (λ f. no_part_outside f g e) (find (λ x. hash_eq x.hash g) xs) (k.xorbs_are g))
    xorbs_after false e g =
        let w = dep.inside e in
        let x : XorbStands cs d.xorb_hash w.old = subst (λ (y : TrackedXorb). XorbStands cs d.xorb_hash y) (sym w.old_is) (stands_at cs d.xorb_hash xs w.place w.old k.xorbs_are w.place_is) in
        let own : w.new.hash ≡ d.xorb_hash = w.same_hash ∙ ap (λ (y : TrackedXorb). y.hash) w.old_is ∙ own_at d.xorb_hash xs w.place w.old w.place_is in
        subst (λ (l : List TrackedXorb). XorbIs (cs ++ RegisterDependencies (d ∷ []) ∷ []) g (find (λ x. hash_eq x.hash g) l)) (sym w.new_is)
        (entries_set cs (cs ++ RegisterDependencies (d ∷ []) ∷ []) d.xorb_hash xs w.place w.new w.place_is own (entry_after e w x) (λ g n o a. quiet_xorb g (λ f. no_part_apart f g n) o a) k.xorbs_are g)

    pub kept_depended : (get_or fs d.file_id (record { fixed = false; total = 0; registered = 0; completed = 0 })).registered + d.n_bytes ≤ (get_or fs d.file_id (record { fixed = false; total = 0; registered = 0; completed = 0 })).total → IsKept (cs ++ RegisterDependencies (d ∷ []) ∷ []) gs ys t r s
    kept_depended fit = record {
      files_are = files_are;
      total_is =
          let ds = cs ++ RegisterDependencies (d ∷ []) ∷ [] in
          let a = ap (λ (l : List TrackedFile). total_in l) files_are ∙ sum_by-map (λ (f : TrackedFile). f.total) (tracked (cs ++ RegisterDependencies (d ∷ []) ∷ [])) (files (cs ++ RegisterDependencies (d ∷ []) ∷ [])) in
          let b = total_kept cs fs xs t c s k in
          let e = ap (λ (l : List TrackedFile). total_in l) dep.files_are in
          let f = sum_by-set (λ (f : TrackedFile). f.total) fs d.file_id (with_dependency dep.counts d.n_bytes (get_or fs d.file_id (record { fixed = false; total = 0; registered = 0; completed = 0 }))) (record { fixed = false; total = 0; registered = 0; completed = 0 }) there in
          omega (arith, a, b, e, f);
      completed_is =
          let a = ap (λ (l : List TrackedFile). completed_in l) files_are ∙ sum_by-map (λ (f : TrackedFile). f.completed) (tracked (cs ++ RegisterDependencies (d ∷ []) ∷ [])) (files (cs ++ RegisterDependencies (d ∷ []) ∷ [])) in
          let b = completed_kept cs fs xs t c s k in
          let e = ap (λ (l : List TrackedFile). completed_in l) dep.files_are in
          let f = sum_by-set (λ (f : TrackedFile). f.completed) fs d.file_id (with_dependency dep.counts d.n_bytes (get_or fs d.file_id (record { fixed = false; total = 0; registered = 0; completed = 0 }))) (record { fixed = false; total = 0; registered = 0; completed = 0 }) there in
          let g = dep.sum_is in
          omega (arith, a, b, e, f, g);
      sizes_are = k.sizes_are ∙ sym (ap (λ (l : List MerkleHash). sum_by (size_or_zero (cs ++ RegisterDependencies (d ∷ []) ∷ [])) l) xorbs_same ∙ sum_ext (size_or_zero (cs ++ RegisterDependencies (d ∷ []) ∷ [])) (size_or_zero cs) (xorbs cs) (λ g. ap (λ (o : Option ℕ). unwrap_or o 0) (size g)));
      xorbs_are = xorbs_after d.is_external refl;
      within = λ i z l.
          let inside : i < length fs = (let b = len in omega (arith, l, b)) in
          let e = file_after i z inside in
          let a = ap (λ (f : TrackedFile). f.registered) e in
          let b = ap (λ (f : TrackedFile). f.total) e in
          fits_at i z inside a b (nat_eq d.file_id i) refl;
      plain = record {
        no_growth = λ f l. sum_push_none (growth f) cs (RegisterDependencies (d ∷ [])) refl ∙ k.plain.no_growth f (let q = ap (λ (l : List (Option ℕ)). length l) sizes_same in omega (arith, l, q));
        no_dependency = λ f l.
            let q = ap (λ (l : List (Option ℕ)). length l) sizes_same in
            let a = registered_more f in
            let n = count in
            let b = k.plain.no_dependency f (omega (arith, l, q)) in
            let z : of_file f d ≡ 0 = ap (λ b. cond b d.n_bytes 0) (apart f (λ e. absurd (omega (arith, e, there, n, l, q)))) in
            omega (arith, a, b, z);
        no_completion = λ g n. done g ∙ k.plain.no_completion g (sym (size g) ∙ n);
        fits = λ g n.
            let a = k.plain.fits g (sym (done g) ∙ n) in
            let b = sum_same g in
            let z = ap (λ (o : Option ℕ). unwrap_or o 0) (size g) in
            omega (arith, a, b, z);
        no_progress = λ g n. any_push_no (progresses g) cs (RegisterDependencies (d ∷ [])) refl ∙ k.plain.no_progress g (sym (size g) ∙ n);
      };
    }
      where
        apart : (f : ℕ) → (d.file_id ≡ f → ⊥) → nat_eq d.file_id f ≡ false
        apart f n = go (nat_eq d.file_id f) refl
          where
            go : (b : Bool) → nat_eq d.file_id f ≡ b → nat_eq d.file_id f ≡ false
            go true e = absurd (n (eqb-true d.file_id f e))
            go false e = e

        fits_at : (i : ℕ) (z : TrackedFile) → i < length fs → (get_or gs i z).registered ≡ (get_or fs i z).registered + of_file i d → (get_or gs i z).total ≡ (get_or fs i z).total → (b : Bool) → nat_eq d.file_id i ≡ b → (get_or gs i z).registered ≤ (get_or gs i z).total
        fits_at i z l a b false q =
            let n = ap (λ b. cond b d.n_bytes 0) q in
            let w = k.within i z l in
            omega (arith, a, b, n, w)
        fits_at i z l a b true q =
            let n = ap (λ b. cond b d.n_bytes 0) q in
            let same = eqb-true d.file_id i q in
            let e = ap (λ (j : ℕ). get_or fs j (record { fixed = false; total = 0; registered = 0; completed = 0 })) same ∙ get_or_default fs i (record { fixed = false; total = 0; registered = 0; completed = 0 }) z l in
            let u = ap (λ (f : TrackedFile). f.registered) e in
            let v = ap (λ (f : TrackedFile). f.total) e in
            omega (arith, a, b, n, u, v, fit)
