-- Which files may be open.
use Rattle.std.proofs.Common.{◌≡◌, ℕ, ◌+◌, ◌<◌, ◌≤◌, Bool, true, false, cond, List, [], ◌∷◌, ◌++◌, refl, sym, subst, ◌∙◌, ap, zero, suc, length, map, get_or, set, arith}
use Rattle.std.specs.Prelude.{Option, Some, None, All, nat_eq}
use Rattle.std.specs.List.{enumerate_from, list_any}
use Rattle.std.specs.Ordering.{nat_cmp, is_eq, is_gt}
use Rattle.std.specs.BTreeSet.{contains}
use Rattle.std.proofs.lemmas.Bool.{eq-eqb, eqb-true, eqb-false}
use Rattle.std.proofs.lemmas.List.{get_or_append_left, get_or-set_same, get_or-set_other, get_or_default, length-append, length-set}
use Rattle.std.proofs.lemmas.Map.Keys.{le_from_not_gt}
use Rattle.xet_base.specs.Lists.{first_some}
use Rattle.xet_progress_state.specs.declared.error.Incomplete.{Incomplete}
use Rattle.xet_progress_state.specs.declared.error.Incomplete.TheVariants.{File}
use Rattle.xet_progress_state.specs.declared.file.TrackedFile.{TrackedFile}
use Rattle.xet_progress_state.specs.declared.xorb.TrackedXorb.{TrackedXorb}
use Rattle.xet_progress_state.specs.declared.marks.Marks.{Marks}
use Rattle.xet_progress_state.specs.declared.part.Part.{Part}
use Rattle.xet_progress_state.specs.declared.step.TrackerStep.{TrackerStep}
use Rattle.xet_progress_state.specs.steps.Kept.{IsKept}
use Rattle.xet_progress_state.specs.steps.Open.{Marked, Risen, SameBut, open_in}
use Rattle.xet_progress_state.specs.steps.Credits.{Credited}
use Rattle.xet_progress_state.specs.steps.Depends.{with_dependency}
use Rattle.xet_progress_state.proofs.Bounds.{completed_le}
use Rattle.xet_progress_state.proofs.Moved.{kept_at, file_at}
use Rattle.xet_progress_state.proofs.NewFile.{kept_count}

pub marked_to : {fs gs : List TrackedFile} {m : Marks} → Marked fs m → gs ≡ fs → Marked gs m
marked_to {fs} {gs} {m} k e = subst (λ (l : List TrackedFile). Marked l m) (sym e) k

-- files of which one was set
pub same_but : (fs gs : List TrackedFile) (id : ℕ) (x : TrackedFile) → gs ≡ set fs id x → SameBut id fs gs
same_but fs gs id x e = (ap (λ (l : List TrackedFile). length l) e ∙ length-set fs id x, λ f d n. ap (λ (l : List TrackedFile). get_or l f d) e ∙ get_or-set_other fs id f x d n)

-- one more file
pub marked_pushed : (fs : List TrackedFile) (x : TrackedFile) (m : Marks) → Marked fs m → Marked (fs ++ x ∷ []) m
marked_pushed fs x m k = record {
  complete = λ f d l off.
      let w = k.within in
      let e = get_or_append_left fs (x ∷ []) d f (omega (arith, l, w)) in
      let p = k.complete f d l off in
      let t = ap (λ (y : TrackedFile). y.total) e in
      let c = ap (λ (y : TrackedFile). y.completed) e in
      omega (arith, p, t, c);
  below = k.below;
  within = let w = k.within in let e = length-append fs (x ∷ []) in omega (arith, w, e);
}

-- files of which more is completed
pub marked_risen : (fs gs : List TrackedFile) (m : Marks) → Risen fs gs → Marked fs m → Marked gs m
marked_risen fs gs m r k = record {
  complete = λ f d l off.
      let w = k.within in
      let p = k.complete f d l off in
      let t = r.same_total f d (omega (arith, l, w)) in
      let c = r.no_less f d (omega (arith, l, w)) in
      omega (arith, p, t, c);
  below = k.below;
  within = let w = k.within in let e = r.count in omega (arith, w, e);
}

pub risen_on : (fs gs hs : List TrackedFile) → Risen fs gs → Risen gs hs → Risen fs hs
risen_on fs gs hs r q = record {
  count = q.count ∙ r.count;
  same_total = λ f d l. let e = r.count in q.same_total f d (omega (arith, l, e)) ∙ r.same_total f d l;
  no_less = λ f d l. let e = r.count in let a = q.no_less f d (omega (arith, l, e)) in let b = r.no_less f d l in omega (arith, a, b);
}

pub risen_credited : (fs gs : List TrackedFile) (ps : List Part) (sent size : ℕ) → length gs ≡ length fs → Credited fs gs ps sent size → Risen fs gs
risen_credited fs gs ps sent size len c = record {
  count = len;
  same_total = λ f d l. ap (λ (x : TrackedFile). x.total) (c f d l);
  no_less = λ f d l. let e = ap (λ (x : TrackedFile). x.completed) (c f d l) in omega (arith, e);
}

pub risen_depended : (counts : Bool) (n id : ℕ) (e : TrackedFile) (fs gs : List TrackedFile) → id < length fs → gs ≡ set fs id (with_dependency counts n (get_or fs id e)) → Risen fs gs
risen_depended counts n id e fs gs inside is = record {
  count = ap (λ (l : List TrackedFile). length l) is ∙ length-set fs id (with_dependency counts n (get_or fs id e));
  same_total = λ f d l. (at f d l (nat_eq f id) refl).0;
  no_less = λ f d l. (at f d l (nat_eq f id) refl).1;
}
  where
    at : (f : ℕ) (d : TrackedFile) → f < length fs → (b : Bool) → nat_eq f id ≡ b → ((get_or gs f d).total ≡ (get_or fs f d).total) × ((get_or fs f d).completed ≤ (get_or gs f d).completed)
    at f d l true k =
        let same = eqb-true f id k in
        let there : get_or gs f d ≡ with_dependency counts n (get_or fs f d) =
        ap (λ (x : List TrackedFile). get_or x f d) is ∙ ap (λ (j : ℕ). get_or (set fs id (with_dependency counts n (get_or fs id e))) j d) same
        ∙ get_or-set_same fs id (with_dependency counts n (get_or fs id e)) d inside
        ∙ ap (λ (x : TrackedFile). with_dependency counts n x) (get_or_default fs id e d inside ∙ ap (λ (j : ℕ). get_or fs j d) (sym same)) in
        let c = ap (λ (x : TrackedFile). x.completed) there in
        (ap (λ (x : TrackedFile). x.total) there, omega (arith, c))
    at f d l false k =
        let there : get_or gs f d ≡ get_or fs f d = ap (λ (x : List TrackedFile). get_or x f d) is ∙ get_or-set_other fs id f (with_dependency counts n (get_or fs id e)) d (eqb-false f id k) in
        let c = ap (λ (x : TrackedFile). x.completed) there in
        (ap (λ (x : TrackedFile). x.total) there, omega (arith, c))

-- a complete file is not open
pub shut : (i : ℕ) (f : TrackedFile) → f.completed ≤ f.total → f.total ≤ f.completed → open_in (i, f) ≡ None
shut i f a b = ap (λ c. cond c None (Some (File i f.completed f.total))) (eq-eqb f.completed f.total (omega (arith, a, b)))

-- files before the least of the reopened ones are complete
pub before_least : (fs : List TrackedFile) (m : Marks) (id : ℕ) → Marked fs m → contains nat_cmp m.reopened id ≡ true → ((q : ℕ) → contains nat_cmp m.reopened q ≡ true → is_gt (nat_cmp id q) ≡ false)
    → (f : ℕ) (d : TrackedFile) → f < id → (get_or fs f d).total ≤ (get_or fs f d).completed
before_least fs m id k has least f d l = go (contains nat_cmp m.reopened f) refl
  where
    go : (b : Bool) → contains nat_cmp m.reopened f ≡ b → (get_or fs f d).total ≤ (get_or fs f d).completed
    go true e = let n = le_from_not_gt id f (least f e) in absurd (omega (arith, n, l))
    go false e = let b = k.below id has in k.complete f d (omega (arith, b, l)) e

module _ {A B : Type 0} (p : ℕ × A → Option B) where
  -- the first answer is that at a place where none comes before it
  pub first_at : (k : ℕ) (xs : List A) (i : ℕ) (o : B) → i < length xs → ((f : ℕ) (d : A) → f < i → p (k + f, get_or xs f d) ≡ None) → ((d : A) → p (k + i, get_or xs i d) ≡ Some o) → first_some (map p (enumerate_from k xs)) ≡ Some o
  first_at k [] i o l none here = absurd (omega (arith, l))
  first_at k (x ∷ xs) zero o l none here =
      let e : k + 0 ≡ k = omega arith in
      let h : p (k, x) ≡ Some o = ap (λ (n : ℕ). p (n, x)) (sym e) ∙ here x in
      rw h refl
  first_at k (x ∷ xs) (suc i) o l none here =
      let e : k + 0 ≡ k = omega arith in
      let h : p (k, x) ≡ None = ap (λ (n : ℕ). p (n, x)) (sym e) ∙ none 0 x (omega arith) in
      rw h (first_at (k + 1) xs i o (omega (arith, l))
      (λ f d m. let s : (k + 1) + f ≡ k + suc f = omega arith in ap (λ (n : ℕ). p (n, get_or xs f d)) s ∙ none (suc f) d (omega (arith, m)))
      (λ d. let s : (k + 1) + i ≡ k + suc i = omega arith in ap (λ (n : ℕ). p (n, get_or xs i d)) s ∙ here d))

  pub none_at : (k : ℕ) (xs : List A) → ((f : ℕ) (d : A) → f < length xs → p (k + f, get_or xs f d) ≡ None) → first_some (map p (enumerate_from k xs)) ≡ None
  none_at k [] none = refl
  none_at k (x ∷ xs) none =
      let e : k + 0 ≡ k = omega arith in
      let h : p (k, x) ≡ None = ap (λ (n : ℕ). p (n, x)) (sym e) ∙ none 0 x (omega arith) in
      rw h (none_at (k + 1) xs (λ f d m. let s : (k + 1) + f ≡ k + suc f = omega arith in ap (λ (n : ℕ). p (n, get_or xs f d)) s ∙ none (suc f) d (omega (arith, m))))

-- none is among no ids
pub none_reopened : (m : Marks) → m.reopened.keys ≡ [] → (f : ℕ) → contains nat_cmp m.reopened f ≡ false
none_reopened m e f = ap (λ (l : List ℕ). list_any (λ q. is_eq (nat_cmp f q)) l) e

-- the first open file, where those before it are complete
pub first_open_at : (fs : List TrackedFile) (i : ℕ) (o : Incomplete) → All (λ f. f.completed ≤ f.total) fs → i < length fs → ((f : ℕ) (d : TrackedFile) → f < i → (get_or fs f d).total ≤ (get_or fs f d).completed)
    → ((d : TrackedFile) → open_in (i, get_or fs i d) ≡ Some o) → first_some (map open_in (enumerate_from 0 fs)) ≡ Some o
first_open_at fs i o within l before here =
    first_at open_in 0 fs i o l
    (λ f d m. let e : 0 + f ≡ f = omega arith in ap (λ (n : ℕ). open_in (n, get_or fs f d)) e ∙ shut f (get_or fs f d) (within f d (omega (arith, m, l))) (before f d m))
    (λ d. let e : 0 + i ≡ i = omega arith in ap (λ (n : ℕ). open_in (n, get_or fs i d)) e ∙ here d)

pub none_open : (fs : List TrackedFile) → All (λ f. f.completed ≤ f.total) fs → ((f : ℕ) (d : TrackedFile) → f < length fs → (get_or fs f d).total ≤ (get_or fs f d).completed) → first_some (map open_in (enumerate_from 0 fs)) ≡ None
none_open fs within all =
    none_at open_in 0 fs (λ f d m. let e : 0 + f ≡ f = omega arith in ap (λ (n : ℕ). open_in (n, get_or fs f d)) e ∙ shut f (get_or fs f d) (within f d m) (all f d m))

-- of no file more is completed than its total
pub completed_within : (cs : List TrackerStep) (fs : List TrackedFile) (xs : List TrackedXorb) (t c s : ℕ) → IsKept cs fs xs t c s → All (λ f. f.completed ≤ f.total) fs
completed_within cs fs xs t c s k f d l =
    let n = kept_count cs fs xs t c s k in
    let at = kept_at cs fs f d k.files_are (omega (arith, l, n)) in
    let a = completed_le cs k.plain.fits (file_at cs f).0 in
    let e = ap (λ (x : TrackedFile). x.completed) at in
    let r = ap (λ (x : TrackedFile). x.registered) at in
    let w = k.within f d l in
    omega (arith, a, e, r, w)
