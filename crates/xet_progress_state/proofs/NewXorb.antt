-- The tracker after the registration of a xorb.
use Rattle.std.proofs.Common.{◌≡◌, ℕ, Bool, true, false, cond, not, ◌||◌, List, [], ◌∷◌, ◌++◌, refl, sym, subst, ◌∙◌, ap, ◌+◌, ◌<◌, ◌≤◌, length, map, get_or, set, inl, inr, arith}
use Rattle.std.specs.Prelude.{Option, Some, None, find, filter, position, unwrap_or, option_map, is_some, All, AllPairs, nat_eq}
use Rattle.std.specs.Option.{option_or}
use Rattle.std.specs.List.{list_any, sum_by, enumerate_from}
use Rattle.std.proofs.lemmas.Bool.{or_parts}
use Rattle.std.proofs.lemmas.List.{map-append}
use Rattle.std.proofs.lemmas.List.Folds.{find-append}
use Rattle.std.proofs.lemmas.List.Sums.{sum_by_push}
use Rattle.xet_base.specs.declared.merklehash.MerkleHash.{MerkleHash}
use Rattle.xet_base.specs.Hashes.{hash_eq}
use Rattle.xet_base.specs.Lists.{firsts}
use Rattle.xet_base.proofs.CallerLemmas.{hash_eq-true, hash_eq-own, hash_eq-chain, firsts-push}
use Rattle.xet_progress_state.specs.declared.step.TrackerStep.{TrackerStep}
use Rattle.xet_progress_state.specs.declared.step.TrackerStep.TheVariants.{RegisterNewXorb}
use Rattle.xet_progress_state.specs.declared.file.TrackedFile.{TrackedFile}
use Rattle.xet_progress_state.specs.declared.xorb.TrackedXorb.{TrackedXorb}
use Rattle.xet_progress_state.specs.declared.part.Part.{Part}
use Rattle.xet_progress_state.specs.Counts.{new_file, growth, new_xorb, new_dependencies, completes, progresses, progress_by, up_to_progress, sizes, files, grown, total_of, registered, completed_of, external_of, size_of, size_or_zero, part, counted, xorbs, registrations, is_completed, progress, dependencies, of_file, part_of, share}
use Rattle.xet_progress_state.specs.steps.Kept.{IsKept, IsPlain, XorbIs, XorbStands, XorbAbsent, tracked, waiting_in, credited_in}
use Rattle.xet_progress_state.specs.steps.Credits.{IsBare, Entered}
use Rattle.xet_progress_state.proofs.Pushed.{SameAt, SameCounts, any_push_no, up_to_no, up_to_none, flat_push, flat_push_none, sum_push_none, counted_by, sum_ext}
use Rattle.xet_progress_state.proofs.NewFile.{xorb_same}
use Rattle.xet_progress_state.proofs.Bounds.{counted_zero, share_zero}
use Rattle.xet_progress_state.proofs.Differ.{any_filter_no, sum_apart, hash_eq-swap}
use Rattle.xet_progress_state.proofs.Moved.{entries_set, stands_at, stands_listed}
use Rattle.xet_progress_state.proofs.Steps.{map_ext}

-- where no call reports progress of a xorb it has none
progress_none : (h : MerkleHash) (cs : List TrackerStep) → IsPlain cs → size_of cs h ≡ None → progress cs h ≡ 0
progress_none h cs p e =
    let a = p.fits h (p.no_completion h e) in
    let b = ap (λ (o : Option ℕ). unwrap_or o 0) e in
    omega (arith, a, b)

-- a new entry stands for a xorb that the calls do not know
bare_stands : (cs : List TrackerStep) (h : MerkleHash) (x : TrackedXorb) → IsPlain cs → XorbAbsent cs h → IsBare h x → XorbStands cs h x
bare_stands cs h x p a b = record {
  size_is = b.no_size ∙ sym a.no_size;
  completed_is = b.waiting ∙ sym (p.no_completion h a.no_size);
  sent_is = λ _. b.nothing_sent ∙ sym (progress_none h cs p a.no_size);
  waits = λ f. ap (λ (l : List Part). sum_by (waiting_in f) l) b.no_parts ∙ sym (a.no_part f);
  credits = λ f. ap (λ (l : List Part). sum_by (credited_in f) l) b.no_parts ∙ sym (counted_zero cs f h (a.no_part f));
  known = subst (λ (l : List Part). All (λ p. p.file < length (sizes cs)) l) (sym b.no_parts) (λ k d l. absurd (omega (arith, l)));
  differ = subst (λ (l : List Part). AllPairs (λ p q. nat_eq p.file q.file ≡ false) l) (sym b.no_parts) (λ i j d l m. absurd (omega (arith, m)));
}

pub kept_entered : (cs : List TrackerStep) (fs : List TrackedFile) (xs ys : List TrackedXorb) (t c s : ℕ) (h : MerkleHash) → IsKept cs fs xs t c s → Entered h xs ys → IsKept cs fs ys t c s
kept_entered cs fs xs ys t c s h k (inl e) = subst (λ (l : List TrackedXorb). IsKept cs fs l t c s) (sym e) k
kept_entered cs fs xs ys t c s h k (inr w) =
    record {
      files_are = k.files_are;
      total_is = k.total_is;
      completed_is = k.completed_is;
      sizes_are = k.sizes_are;
      xorbs_are = λ g. subst (λ (l : List TrackedXorb). XorbIs cs g (find (λ x. hash_eq x.hash g) l)) (sym w.3) (subst (λ (o : Option TrackedXorb). XorbIs cs g o) (sym (find-append (λ (x : TrackedXorb). hash_eq x.hash g) xs (w.0 ∷ []))) (at g (hash_eq h g) refl));
      within = k.within;
      plain = k.plain;
    }
  where
    one : (g : MerkleHash) (b : Bool) → hash_eq h g ≡ b → find (λ (x : TrackedXorb). hash_eq x.hash g) (w.0 ∷ []) ≡ cond b (Some w.0) None
    one g b e = ap (λ (q : MerkleHash). cond (hash_eq q g) (Some w.0) None) w.1.hash_is ∙ ap (λ b. cond b (Some w.0) None) e

    or_none : (o : Option TrackedXorb) → option_or o None ≡ o
    or_none None = refl
    or_none (Some x) = refl

    at : (g : MerkleHash) (b : Bool) → hash_eq h g ≡ b → XorbIs cs g (option_or (find (λ x. hash_eq x.hash g) xs) (find (λ x. hash_eq x.hash g) (w.0 ∷ [])))
    at g true e =
        let same = hash_eq-true h g e in
        let missing : find (λ (x : TrackedXorb). hash_eq x.hash g) xs ≡ None = ap (λ (q : MerkleHash). find (λ (x : TrackedXorb). hash_eq x.hash q) xs) (sym same) ∙ w.2 in
        let absent : XorbAbsent cs g = subst (λ (o : Option TrackedXorb). XorbIs cs g o) missing (k.xorbs_are g) in
        let bare : IsBare g w.0 = subst (λ (q : MerkleHash). IsBare q w.0) same w.1 in
        let o : option_or (find (λ (x : TrackedXorb). hash_eq x.hash g) xs) (find (λ (x : TrackedXorb). hash_eq x.hash g) (w.0 ∷ [])) ≡ Some w.0 =
        (let u = one g true e in λ i. option_or (missing i) (u i)) in
        subst (λ (o : Option TrackedXorb). XorbIs cs g o) (sym o) (bare_stands cs g w.0 k.plain absent bare)
    at g false e =
        let o : option_or (find (λ (x : TrackedXorb). hash_eq x.hash g) xs) (find (λ (x : TrackedXorb). hash_eq x.hash g) (w.0 ∷ [])) ≡ find (λ (x : TrackedXorb). hash_eq x.hash g) xs =
        ap (λ (u : Option TrackedXorb). option_or (find (λ (x : TrackedXorb). hash_eq x.hash g) xs) u) (one g false e) ∙ or_none (find (λ (x : TrackedXorb). hash_eq x.hash g) xs) in
        subst (λ (o : Option TrackedXorb). XorbIs cs g o) (sym o) (k.xorbs_are g)

module _ (h : MerkleHash) (z : ℕ) (cs : List TrackerStep) where
  regs : registrations (cs ++ RegisterNewXorb h z ∷ []) ≡ registrations cs ++ (h, z) ∷ []
  regs = flat_push new_xorb cs (RegisterNewXorb h z)

  deps : dependencies (cs ++ RegisterNewXorb h z ∷ []) ≡ dependencies cs
  deps = flat_push_none new_dependencies cs (RegisterNewXorb h z) refl

  done : (g : MerkleHash) → is_completed (cs ++ RegisterNewXorb h z ∷ []) g ≡ is_completed cs g
  done g = any_push_no (completes g) cs (RegisterNewXorb h z) refl

  hashes : map (λ x. x.0) (registrations (cs ++ RegisterNewXorb h z ∷ [])) ≡ map (λ x. x.0) (registrations cs) ++ h ∷ []
  hashes = ap (λ (l : List (MerkleHash × ℕ)). map (λ x. x.0) l) regs ∙ map-append (λ (x : MerkleHash × ℕ). x.0) (registrations cs) ((h, z) ∷ [])

  xorbs_push : xorbs (cs ++ RegisterNewXorb h z ∷ []) ≡ cond (list_any (λ y. hash_eq y h) (xorbs cs)) (xorbs cs) (xorbs cs ++ h ∷ [])
  xorbs_push = ap (λ (l : List MerkleHash). firsts hash_eq l) hashes ∙ firsts-push hash_eq hash_eq-chain (map (λ x. x.0) (registrations cs)) h

  size_push : (g : MerkleHash) → size_of (cs ++ RegisterNewXorb h z ∷ []) g ≡ option_map (λ x. x.1) (option_or (find (λ x. hash_eq x.0 g) (registrations cs)) (cond (hash_eq h g) (Some (h, z)) None))
  size_push g = ap (λ (l : List (MerkleHash × ℕ)). option_map (λ x. x.1) (find (λ x. hash_eq x.0 g) l)) regs
      ∙ ap (λ (o : Option (MerkleHash × ℕ)). option_map (λ x. x.1) o) (find-append (λ (x : MerkleHash × ℕ). hash_eq x.0 g) (registrations cs) ((h, z) ∷ []))

  size_apart : (g : MerkleHash) → hash_eq h g ≡ false → size_of (cs ++ RegisterNewXorb h z ∷ []) g ≡ size_of cs g
  size_apart g n = size_push g ∙ ap (λ b. option_map (λ x. x.1) (option_or (find (λ x. hash_eq x.0 g) (registrations cs)) (cond b (Some (h, z)) None))) n ∙ none (find (λ x. hash_eq x.0 g) (registrations cs))
    where
      none : (o : Option (MerkleHash × ℕ)) → option_map (λ x. x.1) (option_or o None) ≡ option_map (λ x. x.1) o
      none None = refl
      none (Some x) = refl

  size_kept : (g : MerkleHash) (y : ℕ) → size_of cs g ≡ Some y → size_of (cs ++ RegisterNewXorb h z ∷ []) g ≡ size_of cs g
  size_kept g y e = size_push g ∙ some (find (λ x. hash_eq x.0 g) (registrations cs)) e
    where
      some : (o : Option (MerkleHash × ℕ)) → option_map (λ x. x.1) o ≡ Some y → option_map (λ x. x.1) (option_or o (cond (hash_eq h g) (Some (h, z)) None)) ≡ option_map (λ x. x.1) o
      some None e = absurd (cc)
      some (Some x) e = refl

  size_new : size_of cs h ≡ None → size_of (cs ++ RegisterNewXorb h z ∷ []) h ≡ Some z
  size_new e = size_push h ∙ ap (λ b. option_map (λ x. x.1) (option_or (find (λ x. hash_eq x.0 h) (registrations cs)) (cond b (Some (h, z)) None))) (hash_eq-own h) ∙ some (find (λ x. hash_eq x.0 h) (registrations cs)) e
    where
      some : (o : Option (MerkleHash × ℕ)) → option_map (λ x. x.1) o ≡ None → option_map (λ x. x.1) (option_or o (Some (h, z))) ≡ Some z
      some None e = refl
      some (Some x) e = absurd (cc)

  -- a second registration changes nothing
  pub again : (y : ℕ) → size_of cs h ≡ Some y → SameCounts cs (cs ++ RegisterNewXorb h z ∷ [])
  again y e =
      let size : (g : MerkleHash) → size_of (cs ++ RegisterNewXorb h z ∷ []) g ≡ size_of cs g = λ g. size_at g (hash_eq h g) refl in
      record {
        same_xorbs = xorbs_push ∙ ap (λ b. cond b (xorbs cs) (xorbs cs ++ h ∷ [])) (stands_listed cs h y e);
        same_size = size;
        same_dependencies = deps;
        at = λ g. record {
          same_completed = done g;
          same_counted = λ f. counted_by cs (cs ++ RegisterNewXorb h z ∷ []) f g deps (done g) (up_to_no g cs (RegisterNewXorb h z) refl) (size g);
          same_sum = λ _. sum_push_none (progress_by g) cs (RegisterNewXorb h z) refl;
          same_any = λ _. any_push_no (progresses g) cs (RegisterNewXorb h z) refl;
        };
      }
    where
      size_at : (g : MerkleHash) (b : Bool) → hash_eq h g ≡ b → size_of (cs ++ RegisterNewXorb h z ∷ []) g ≡ size_of cs g
      size_at g false n = size_apart g n
      size_at g true q =
          let same = hash_eq-true h g q in
          size_kept g y (ap (λ (x : MerkleHash). size_of cs x) (sym same) ∙ e)

  module _ (plain : IsPlain cs) (new : size_of cs h ≡ None) where
    no_hash : list_any (λ y. hash_eq y h) (map (λ x. x.0) (registrations cs)) ≡ false
    no_hash = none (registrations cs) new
      where
        none : (rs : List (MerkleHash × ℕ)) → option_map (λ x. x.1) (find (λ x. hash_eq x.0 h) rs) ≡ None → list_any (λ y. hash_eq y h) (map (λ x. x.0) rs) ≡ false
        none [] e = refl
        none (r ∷ rs) e = go (hash_eq r.0 h) e (λ k. none rs k)
          where
            go : (b : Bool) → option_map (λ x. x.1) (cond b (Some r) (find (λ x. hash_eq x.0 h) rs)) ≡ None → (option_map (λ x. x.1) (find (λ x. hash_eq x.0 h) rs) ≡ None → list_any (λ y. hash_eq y h) (map (λ x. x.0) rs) ≡ false)
                → (b || list_any (λ y. hash_eq y h) (map (λ x. x.0) rs)) ≡ false
            go true e next = absurd (cc)
            go false e next = next e

    firsts_none : (p : MerkleHash → Bool) (hs : List MerkleHash) → list_any p hs ≡ false → list_any p (firsts hash_eq hs) ≡ false
    firsts_none p [] e = refl
    firsts_none p (g ∷ hs) e =
        let parts = or_parts (p g) (list_any p hs) e in
        ap (λ b. b || list_any p (filter (λ y. not (hash_eq g y)) (firsts hash_eq hs))) parts.0
        ∙ any_filter_no p (λ y. not (hash_eq g y)) (firsts hash_eq hs) (firsts_none p hs parts.1)

    not_listed : list_any (λ y. hash_eq y h) (xorbs cs) ≡ false
    not_listed = firsts_none (λ y. hash_eq y h) (map (λ x. x.0) (registrations cs)) no_hash

    not_listed' : list_any (λ y. hash_eq h y) (xorbs cs) ≡ false
    not_listed' = swap (xorbs cs) not_listed
      where
        swap : (hs : List MerkleHash) → list_any (λ y. hash_eq y h) hs ≡ false → list_any (λ y. hash_eq h y) hs ≡ false
        swap [] e = refl
        swap (g ∷ hs) e =
            let parts = or_parts (hash_eq g h) (list_any (λ y. hash_eq y h) hs) e in
            ap (λ b. b || list_any (λ y. hash_eq h y) hs) (hash_eq-swap h g ∙ parts.0) ∙ swap hs parts.1

    xorbs_more : xorbs (cs ++ RegisterNewXorb h z ∷ []) ≡ xorbs cs ++ h ∷ []
    xorbs_more = xorbs_push ∙ ap (λ b. cond b (xorbs cs) (xorbs cs ++ h ∷ [])) not_listed

    nothing : (ds : List TrackerStep) (f : ℕ) → is_completed ds h ≡ false → up_to_progress h ds ≡ [] → counted ds f h ≡ 0
    nothing ds f d u =
        ap (λ b. cond b (part ds f h) (share (part (up_to_progress h ds) f h) (progress (up_to_progress h ds) h) (size_or_zero ds h))) d
        ∙ ap (λ (l : List TrackerStep). share (part l f h) (progress l h) (size_or_zero ds h)) u
        ∙ share_zero 0 0 (size_or_zero ds h) refl

    counted_same : (f : ℕ) (g : MerkleHash) → counted (cs ++ RegisterNewXorb h z ∷ []) f g ≡ counted cs f g
    counted_same f g = go (hash_eq h g) refl
      where
        go : (b : Bool) → hash_eq h g ≡ b → counted (cs ++ RegisterNewXorb h z ∷ []) f g ≡ counted cs f g
        go false n = counted_by cs (cs ++ RegisterNewXorb h z ∷ []) f g deps (done g) (up_to_no g cs (RegisterNewXorb h z) refl) (size_apart g n)
        go true q =
            let same = hash_eq-true h g q in
            let d = plain.no_completion h new in
            let u = up_to_none h cs (plain.no_progress h new) in
            subst (λ (x : MerkleHash). counted (cs ++ RegisterNewXorb h z ∷ []) f x ≡ counted cs f x) same
            (nothing (cs ++ RegisterNewXorb h z ∷ []) f (done h ∙ d) (up_to_no h cs (RegisterNewXorb h z) refl ∙ u) ∙ sym (nothing cs f d u))

    completed_same' : (f : ℕ) → completed_of (cs ++ RegisterNewXorb h z ∷ []) f ≡ completed_of cs f
    completed_same' f =
        let ds = cs ++ RegisterNewXorb h z ∷ [] in
        let a = ap (λ l. sum_by (external_of f) l) deps in
        let b = ap (λ (l : List MerkleHash). sum_by (counted (cs ++ RegisterNewXorb h z ∷ []) f) l) xorbs_more ∙ sum_by_push (counted (cs ++ RegisterNewXorb h z ∷ []) f) (xorbs cs) h in
        let c = sum_ext (counted (cs ++ RegisterNewXorb h z ∷ []) f) (counted cs f) (xorbs cs) (counted_same f) in
        let d = counted_same f h ∙ nothing cs f (plain.no_completion h new) (up_to_none h cs (plain.no_progress h new)) in
        omega (arith, a, b, c, d)

    other : (g : MerkleHash) → SameAt cs (cs ++ RegisterNewXorb h z ∷ []) g
    other g = record {
      same_completed = done g;
      same_counted = λ f. counted_same f g;
      same_sum = λ _. sum_push_none (progress_by g) cs (RegisterNewXorb h z) refl;
      same_any = λ _. any_push_no (progresses g) cs (RegisterNewXorb h z) refl;
    }

    pub kept_registered : (fs : List TrackedFile) (ys : List TrackedXorb) (t c s i : ℕ) (x : TrackedXorb) → IsKept cs fs ys t c s → position (λ x. hash_eq x.hash h) ys ≡ Some i → x ≡ get_or ys i x
        → x.hash ≡ h → IsKept (cs ++ RegisterNewXorb h z ∷ []) fs (set ys i (record x { size = Some z })) t c (s + z)
    kept_registered fs ys t c s i x k pos at own =
        let ds = cs ++ RegisterNewXorb h z ∷ [] in
        let sz = flat_push_none new_file cs (RegisterNewXorb h z) refl in
        let fl : files (cs ++ RegisterNewXorb h z ∷ []) ≡ files cs = ap (λ (l : List (Option ℕ)). enumerate_from 0 l) sz in
        let len = ap (λ (l : List (Option ℕ)). length l) sz in
        let gr : (f : ℕ) → grown (cs ++ RegisterNewXorb h z ∷ []) f ≡ grown cs f = λ f. sum_push_none (growth f) cs (RegisterNewXorb h z) refl in
        let total : (f : ℕ × Option ℕ) → total_of (cs ++ RegisterNewXorb h z ∷ []) f ≡ total_of cs f = λ f. ap (λ n. unwrap_or f.1 n) (gr f.0) in
        let reg : (f : ℕ) → registered (cs ++ RegisterNewXorb h z ∷ []) f ≡ registered cs f = λ f. ap (λ l. sum_by (of_file f) l) deps in
        let tr : (f : ℕ × Option ℕ) → tracked (cs ++ RegisterNewXorb h z ∷ []) f ≡ tracked cs f =
        λ f. let a = total f in let b = reg f.0 in let d = completed_same' f.0 in λ i. record { fixed = is_some f.1; total = a i; registered = b i; completed = d i } in
        let stands : XorbStands cs h x = subst (λ (y : TrackedXorb). XorbStands cs h y) (sym at) (stands_at cs h ys i x k.xorbs_are pos) in
        record {
          files_are = k.files_are ∙ sym (map_ext (tracked (cs ++ RegisterNewXorb h z ∷ [])) (tracked cs) (files (cs ++ RegisterNewXorb h z ∷ [])) tr ∙ ap (λ l. map (tracked cs) l) fl);
          total_is = k.total_is ∙ sym (ap (λ l. sum_by (total_of (cs ++ RegisterNewXorb h z ∷ [])) l) fl ∙ sum_ext (total_of (cs ++ RegisterNewXorb h z ∷ [])) (total_of cs) (files cs) total);
          completed_is = k.completed_is ∙ sym (ap (λ l. sum_by (λ (f : ℕ × Option ℕ). completed_of (cs ++ RegisterNewXorb h z ∷ []) f.0) l) fl ∙ sum_ext (λ (f : ℕ × Option ℕ). completed_of (cs ++ RegisterNewXorb h z ∷ []) f.0) (λ (f : ℕ × Option ℕ). completed_of cs f.0) (files cs) (λ f. completed_same' f.0));
          sizes_are =
              let a = ap (λ (l : List MerkleHash). sum_by (size_or_zero (cs ++ RegisterNewXorb h z ∷ [])) l) xorbs_more ∙ sum_by_push (size_or_zero (cs ++ RegisterNewXorb h z ∷ [])) (xorbs cs) h in
              let b = sum_apart (size_or_zero (cs ++ RegisterNewXorb h z ∷ [])) (size_or_zero cs) h (xorbs cs) not_listed' (λ g n. ap (λ (o : Option ℕ). unwrap_or o 0) (size_apart g n)) in
              let d = ap (λ (o : Option ℕ). unwrap_or o 0) (size_new new) in
              let e = k.sizes_are in
              omega (arith, a, b, d, e);
          xorbs_are = entries_set cs (cs ++ RegisterNewXorb h z ∷ []) h ys i (record x { size = Some z }) pos own (record {
            size_is = sym (size_new new);
            completed_is = stands.completed_is ∙ sym (done h);
            sent_is = λ n. stands.sent_is n ∙ sym (sum_push_none (progress_by h) cs (RegisterNewXorb h z) refl);
            waits = λ f. stands.waits f ∙ sym (ap (λ l. sum_by (part_of f h) l) deps);
            credits = λ f. stands.credits f ∙ sym (counted_same f h);
            known = λ j d l. let p = stands.known j d l in omega (arith, p, len);
            differ = stands.differ;
          }) (λ g n o a. xorb_same cs (cs ++ RegisterNewXorb h z ∷ []) g deps (size_apart g n) (other g) (omega (arith, len)) o a) k.xorbs_are;
          within = k.within;
          plain = record {
            no_growth = λ f l. gr f ∙ plain.no_growth f (omega (arith, len, l));
            no_dependency = λ f l. reg f ∙ plain.no_dependency f (omega (arith, len, l));
            no_completion = λ g n. not_here g n (λ q. done g ∙ plain.no_completion g (sym (size_apart g q) ∙ n));
            fits = λ g n. fit_at g n (hash_eq h g) refl;
            no_progress = λ g n. not_here g n (λ q. any_push_no (progresses g) cs (RegisterNewXorb h z) refl ∙ plain.no_progress g (sym (size_apart g q) ∙ n));
          };
        }
      where
        not_here : {P : Type 0} (g : MerkleHash) → size_of (cs ++ RegisterNewXorb h z ∷ []) g ≡ None → (hash_eq h g ≡ false → P) → P
        not_here {P} g n u = go (hash_eq h g) refl
          where
            go : (b : Bool) → hash_eq h g ≡ b → P
            go true q =
                let same = hash_eq-true h g q in
                let none : size_of (cs ++ RegisterNewXorb h z ∷ []) h ≡ None = ap (λ (k : MerkleHash). size_of (cs ++ RegisterNewXorb h z ∷ []) k) same ∙ n in
                let some = size_new new in
                absurd (cc)
            go false q = u q

        fit_at : (g : MerkleHash) → is_completed (cs ++ RegisterNewXorb h z ∷ []) g ≡ false → (b : Bool) → hash_eq h g ≡ b → progress (cs ++ RegisterNewXorb h z ∷ []) g ≤ size_or_zero (cs ++ RegisterNewXorb h z ∷ []) g
        fit_at g n false q =
            let a = plain.fits g (sym (done g) ∙ n) in
            let b = sum_push_none (progress_by g) cs (RegisterNewXorb h z) refl in
            let d = ap (λ (o : Option ℕ). unwrap_or o 0) (size_apart g q) in
            omega (arith, a, b, d)
        fit_at g n true q =
            let a = progress_none h cs plain new in
            let b = sum_push_none (progress_by h) cs (RegisterNewXorb h z) refl in
            subst (λ (x : MerkleHash). progress (cs ++ RegisterNewXorb h z ∷ []) x ≤ size_or_zero (cs ++ RegisterNewXorb h z ∷ []) x) (hash_eq-true h g q) (omega (arith, a, b))
