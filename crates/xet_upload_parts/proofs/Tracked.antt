-- What a tracker accepts and refuses of the calls of a session.
use Rattle.std.proofs.Common.{◌≡◌, ◌<◌, inl, inr, Bool, true, false, suc, List, [], ◌∷◌, ◌++◌, length, take, refl, sym, ◌∙◌, ap, subst, arith}
use Rattle.std.specs.Prelude.{Contains, Option, Some, None, cond, Result, Ok, Err}
use Rattle.std.specs.List.{concat}
use Rattle.std.proofs.lemmas.List.{append-nil, append_assoc}
use Rattle.xet_base.specs.declared.invalid.Invalid.{Invalid}
use Rattle.xet_base.specs.declared.merklehash.MerkleHash.{MerkleHash}
use Rattle.xet_base.specs.declared.mdb_shard.Xorb.{Xorb}
use Rattle.xet_progress_state.specs.Accepted.{CallOf, Refused, or_else, refusal_of}
use Rattle.xet_progress_state.specs.declared.error.ProgressError.{ProgressError}
use Rattle.xet_progress_state.specs.declared.error.ProgressError.TheVariants as progress_error
use Rattle.xet_progress_state.specs.declared.step.FileXorbDependency.{FileXorbDependency}
use Rattle.xet_progress_state.specs.declared.step.TrackerStep.{TrackerStep}
use Rattle.xet_progress_state.specs.declared.step.TrackerStep.TheVariants.{RegisterDependencies, RegisterNewXorb}
use Rattle.xet_upload.specs.DataErrors.{of_progress_error}
use Rattle.xet_upload.specs.declared.data_error.DataError.{DataError}
use Rattle.xet_upload.specs.declared.data_error.DataError.TheVariants as data_error
use Rattle.xet_upload_parts.specs.HashLists.{has}
use Rattle.xet_upload_parts.specs.Tracked.{IsRefusal, Tracks, first_refusal, xorb_calls}
use Rattle.xet_upload_parts.proofs.Hashes.{contains-has, has-contains}

-- the tracker's error, as a session answers it
pub is-refusal : (cs : List TrackerStep) (c : TrackerStep) (e : ProgressError) → Refused cs c e → IsRefusal (refusal_of cs c) (of_progress_error e)
is-refusal cs c progress_error.OutOfMemory r = inl refl
is-refusal cs c (progress_error.InvalidOperation why) r = inr (why, r, refl)

or-none : {A : Type 0} (o : Option A) → or_else o None ≡ o
or-none None = refl
or-none (Some x) = refl

-- one call that was accepted
pub tracks-one : {A B : Type 0} (before after : List TrackerStep) (c : TrackerStep) (reply x : A) (y : B) → CallOf before after c reply (Ok x) → Tracks before after (c ∷ []) (Ok y)
tracks-one before after c reply x y k =
    let a = k.accepted in
    record { count = 1; accepted = a.2; ok = (or-none (refusal_of before c) ∙ a.0, a.2); fewer = tt; err = tt }

-- one call that was refused
pub tracks-none : {A B : Type 0} (before after : List TrackerStep) (c : TrackerStep) (reply : A) (e : ProgressError) → CallOf before after c reply (Err e) → Tracks {A = B} before after (c ∷ []) (Err (of_progress_error e))
tracks-none before after c reply e k =
    let r = k.refused in
    let P : Option Invalid → Type 0 = λ o. IsRefusal o (of_progress_error e) in
    record { count = 0; accepted = r.1 ∙ sym (append-nil before); ok = tt; fewer = omega arith; err = subst P (sym (or-none (refusal_of before c))) (is-refusal before c e r.0) }

-- there was no memory before any call
pub tracks-nothing : {A : Type 0} (before calls : List TrackerStep) → 0 < length calls → Tracks {A = A} before before calls (Err data_error.OutOfMemory)
tracks-nothing before calls some = record { count = 0; accepted = sym (append-nil before); ok = tt; fewer = some; err = inl refl }

-- the first of some calls was refused
pub tracks-refused : {A B : Type 0} (before after : List TrackerStep) (c : TrackerStep) (cs : List TrackerStep) (reply : A) (e : ProgressError) → CallOf before after c reply (Err e) → Tracks {A = B} before after (c ∷ cs) (Err (of_progress_error e))
tracks-refused {A = A} {B = B} before after c cs reply e k = go e k.refused
  where
    go : (e : ProgressError) → Refused before c e × (after ≡ before) → Tracks {A = B} before after (c ∷ cs) (Err (of_progress_error e))
    go progress_error.OutOfMemory r = record { count = 0; accepted = r.1 ∙ sym (append-nil before); ok = tt; fewer = omega arith; err = inl refl }
    go (progress_error.InvalidOperation why) r = record {
      count = 0;
      accepted = r.1 ∙ sym (append-nil before);
      ok = tt;
      fewer = omega arith;
      err = inr (why, ap (λ (o : Option Invalid). or_else o (first_refusal (before ++ c ∷ []) cs)) r.0, refl);
    }

-- the first was accepted, and then came the others
pub tracks-more : {A B : Type 0} (before between after : List TrackerStep) (c : TrackerStep) (cs : List TrackerStep) (reply x : A) → CallOf before between c reply (Ok x) → (answer : Result B DataError) → Tracks between after cs answer → Tracks before after (c ∷ cs) answer
tracks-more {A = A} {B = B} before between after c cs reply x k answer t = go answer t
  where
    same : between ≡ before ++ c ∷ []
    same = k.accepted.2

    first : first_refusal before (c ∷ cs) ≡ first_refusal between cs
    first = ap (λ (o : Option Invalid). or_else o (first_refusal (before ++ c ∷ []) cs)) k.accepted.0 ∙ ap (λ (l : List TrackerStep). first_refusal l cs) (sym same)

    behind : (ds : List TrackerStep) → between ++ ds ≡ before ++ c ∷ ds
    behind ds = ap (λ (l : List TrackerStep). l ++ ds) same ∙ append_assoc before (c ∷ []) ds

    go : (r : Result B DataError) → Tracks between after cs r → Tracks before after (c ∷ cs) r
    go (Ok y) h = record { count = suc h.count; accepted = h.accepted ∙ behind (take h.count cs); ok = (first ∙ h.ok.0, h.ok.1 ∙ behind cs); fewer = tt; err = tt }
    go (Err e) h = record {
      count = suc h.count;
      accepted = h.accepted ∙ behind (take h.count cs);
      ok = tt;
      fewer = omega (arith, h.fewer);
      err = subst (λ (o : Option Invalid). IsRefusal o e) (sym first) h.err;
    }

-- ---- a given xorb

pub has-not : (h : MerkleHash) (xs : List MerkleHash) → (Contains xs h → ⊥) → has h xs ≡ false
has-not h xs never = go (has h xs) refl
  where
    go : (y : Bool) → has h xs ≡ y → has h xs ≡ false
    go true e = absurd (never (has-contains h xs e))
    go false e = e

pub calls-known : (registered : List MerkleHash) (x : Xorb) (ds : List FileXorbDependency) → Contains registered x.hash → xorb_calls registered x ds ≡ RegisterDependencies ds ∷ []
calls-known registered x ds c = ap (λ (y : Bool). cond y (RegisterDependencies ds ∷ []) (RegisterNewXorb x.hash (length (concat x.chunks)) ∷ RegisterDependencies ds ∷ [])) (contains-has x.hash registered c)

pub calls-new : (registered : List MerkleHash) (x : Xorb) (ds : List FileXorbDependency) → (Contains registered x.hash → ⊥) → xorb_calls registered x ds ≡ RegisterNewXorb x.hash (length (concat x.chunks)) ∷ RegisterDependencies ds ∷ []
calls-new registered x ds c = ap (λ (y : Bool). cond y (RegisterDependencies ds ∷ []) (RegisterNewXorb x.hash (length (concat x.chunks)) ∷ RegisterDependencies ds ∷ [])) (has-not x.hash registered c)
