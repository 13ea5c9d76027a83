-- Moments and parts of a call, one after another.
use Rattle.std.proofs.Common.{◌≡◌, ℕ, ◌⊎◌, inl, inr, Bool, List, [], ◌++◌, refl, sym, ◌∙◌, ap, subst, arith, append_assoc}
use Rattle.std.specs.Prelude.{Option, None, Some, Result, Ok, Err, IfErr, IsErrOf, OnOk, option_map, All}
use Rattle.std.proofs.lemmas.List.{append-nil}
use Rattle.std.proofs.lemmas.List.Elements.{All-append, All-nil}
use Rattle.xet_base.specs.declared.mdb_shard.Xorb.{Xorb}
use Rattle.xet_base.specs.Store.{Store}
use Rattle.xet_outside.specs.Told.{Added, Rose}
use Rattle.xet_uploader.specs.Uploads.{UploaderTold, xorbs_in}
use Rattle.xet_uploader.specs.declared.uploader.Put.{Put}
use Rattle.xet_uploader.proofs.CallerLemmas.{xorbs_in-append}
use Rattle.xet_shelves.specs.After.{Shown}
use Rattle.xet_shelves.specs.Shelves.{ShelfTold}
use Rattle.xet_mirror_parts.specs.declared.report.MirrorError.{MirrorError}
use Rattle.xet_mirror_parts.specs.declared.report.MirrorError.TheVariants as mirror_error
use Rattle.xet_mirror_parts.specs.Looked.{IsWholeXorb}
use Rattle.xet_mirror_parts.specs.Moments.{Moment, OnlyTests, Step}

-- ---- told lists

pub added-none : {A : Type 0} (a b : Option (List A)) → b ≡ a → Added a b []
added-none {A} a b h = h ∙ go a
  where
    go : (o : Option (List A)) → o ≡ option_map (λ xs. xs ++ []) o
    go None = refl
    go (Some xs) = ap Some (sym (append-nil xs))

pub added-then : {A : Type 0} (a b c : Option (List A)) (xs ys : List A) → Added a b xs → Added b c ys → Added a c (xs ++ ys)
added-then {A} a b c xs ys h k = k ∙ ap (option_map (λ zs. zs ++ ys)) h ∙ go a
  where
    go : (o : Option (List A)) → option_map (λ zs. zs ++ ys) (option_map (λ zs. zs ++ xs) o) ≡ option_map (λ zs. zs ++ (xs ++ ys)) o
    go None = refl
    go (Some zs) = ap Some (append_assoc zs xs ys)

-- ---- moments

pub moment-more : (s t : Store) (ps puts : List Put) (sb sa : ShelfTold) (tb ta : UploaderTold) → Moment s t ps sb tb
    → Added tb.puts ta.puts puts → sa.store ≡ sb.store → ta.first ≡ tb.first → Moment s t (ps ++ puts) sa ta
moment-more s t ps puts sb sa tb ta m added store first = record {
  shelf_is = store ∙ m.shelf_is;
  first = m.first;
  first_is = first ∙ m.first_is;
  log = m.log;
  log_is = added ∙ ap (option_map (λ zs. zs ++ puts)) m.log_is ∙ ap Some (append_assoc m.log ps puts);
  now = m.now;
}

-- at entry nothing was put
pub moment-shown : (s t : Store) (sb : ShelfTold) (tb : UploaderTold) → Shown s t sb tb → Moment s t [] sb tb
moment-shown s t sb tb h = record {
  shelf_is = h.shelf_is;
  first = h.first;
  first_is = h.first_is;
  log = h.log;
  log_is = h.log_is ∙ ap Some (sym (append-nil h.log));
  now = h.now;
}

-- ---- steps

whole-both : (verify : Bool) (ps qs : List Put) → All (IsWholeXorb verify) (xorbs_in ps) → All (IsWholeXorb verify) (xorbs_in qs)
    → All (IsWholeXorb verify) (xorbs_in (ps ++ qs))
whole-both verify ps qs h k =
    let P : List Xorb → Type 0 = All (IsWholeXorb verify) in
    subst P (sym (xorbs_in-append ps qs)) (All-append (IsWholeXorb verify) (xorbs_in ps) (xorbs_in qs) h k)

module _ {A B : Type 0} (verify : Bool) (sb sm sa : ShelfTold) (tb tm ta : UploaderTold) where
  -- a part after one that was Ok
  pub step-then : (ps qs : List Put) (x : A) (r : Result B MirrorError) → Step verify sb sm tb tm ps (Ok x) → Step verify sm sa tm ta qs r
      → Step verify sb sa tb ta (ps ++ qs) r
  step-then ps qs x r h k = record {
    added = added-then tb.puts tm.puts ta.puts ps qs h.added k.added;
    store = k.store ∙ h.store;
    first = k.first ∙ h.first;
    faults = (omega (arith, h.faults, k.faults), omega (arith, h.faults, k.faults));
    unfailed = unfailed r k.unfailed;
    client = λ e. moved (k.client e);
    whole = whole-both verify ps qs h.whole k.whole;
    tests = k.tests;
  }
    where
      unfailed : (r : Result B MirrorError) → OnOk r ((sa.faults ≡ sm.faults) × (ta.faults ≡ tm.faults)) → OnOk r ((sa.faults ≡ sb.faults) × (ta.faults ≡ tb.faults))
      unfailed (Ok y) u = (u.0 ∙ h.unfailed.0, u.1 ∙ h.unfailed.1)
      unfailed (Err e) u = tt

      moved : Rose sm.faults sa.faults ⊎ Rose tm.faults ta.faults → Rose sb.faults sa.faults ⊎ Rose tb.faults ta.faults
      moved (inl u) = inl (let P : ℕ → Type 0 = λ n. Rose n sa.faults in subst P h.unfailed.0 u)
      moved (inr u) = inr (let P : ℕ → Type 0 = λ n. Rose n ta.faults in subst P h.unfailed.1 u)

-- nothing was done
pub step-none : {A : Type 0} (verify : Bool) (sb : ShelfTold) (tb : UploaderTold) (r : Result A MirrorError)
    → (IsErrOf r mirror_error.ClientError → ⊥) → IfErr r (OnlyTests verify) → Step verify sb sb tb tb [] r
step-none {A} verify sb tb r h tests = record {
  added = added-none tb.puts tb.puts refl;
  store = refl;
  first = refl;
  faults = (omega arith, omega arith);
  unfailed = unfailed r;
  client = λ e. absurd (h e);
  whole = All-nil (IsWholeXorb verify);
  tests = tests;
}
  where
    unfailed : (r : Result A MirrorError) → OnOk r ((sb.faults ≡ sb.faults) × (tb.faults ≡ tb.faults))
    unfailed (Ok y) = (refl, refl)
    unfailed (Err e) = tt

-- the same step with another answer, which is no failed call
pub step-answer : {A B : Type 0} (verify : Bool) (sb sa : ShelfTold) (tb ta : UploaderTold) (ps : List Put) (x : A) (r : Result B MirrorError)
    → Step verify sb sa tb ta ps (Ok x) → (IsErrOf r mirror_error.ClientError → ⊥) → IfErr r (OnlyTests verify)
    → Step verify sb sa tb ta ps r
step-answer {A} {B} verify sb sa tb ta ps x r h k tests = record {
  added = h.added;
  store = h.store;
  first = h.first;
  faults = h.faults;
  unfailed = unfailed r;
  client = λ e. absurd (k e);
  whole = h.whole;
  tests = tests;
}
  where
    unfailed : (r : Result B MirrorError) → OnOk r ((sa.faults ≡ sb.faults) × (ta.faults ≡ tb.faults))
    unfailed (Ok y) = h.unfailed
    unfailed (Err e) = tt

-- an error of one kind of answer is that of another
errs : {A B E : Type 0} (x y : E) → ◌≡◌ {A = Result B E} (Err x) (Err y) → ◌≡◌ {A = Result A E} (Err x) (Err y)
errs x y k = let f : x ≡ y = cc in ap Err f

pub step-err : {A B : Type 0} (verify : Bool) (sb sa : ShelfTold) (tb ta : UploaderTold) (ps : List Put) (e : MirrorError)
    → Step {A = A} verify sb sa tb ta ps (Err e) → Step {A = B} verify sb sa tb ta ps (Err e)
step-err {A} {B} verify sb sa tb ta ps e h = record {
  added = h.added;
  store = h.store;
  first = h.first;
  faults = h.faults;
  unfailed = tt;
  client = λ k. h.client (errs {A = A} {B = B} e mirror_error.ClientError k);
  whole = h.whole;
  tests = h.tests;
}
