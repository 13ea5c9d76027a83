-- What a session's tracker accepts and refuses.
use Rattle.std.proofs.Common.{◌≡◌, ℕ, ◌+◌, ◌-◌, ◌^◌, ◌<◌, ◌⊎◌, inl, inr, Bool, true, false, zero, suc, List, [], ◌∷◌, ◌++◌, length, take, refl, sym, ◌∙◌, ap, arith}
use Rattle.std.specs.Prelude.{Contains, Option, Some, None, cond, find, is_some, option_map, Result, Ok, Err, IfOk, IfErr}
use Rattle.std.proofs.lemmas.Bool.{false≢true}
use Rattle.std.proofs.lemmas.List.{append-nil, append_assoc, length-append}
use Rattle.xet_base.specs.declared.invalid.Invalid.{Invalid}
use Rattle.xet_base.specs.declared.invalid.Invalid.TheVariants as invalid
use Rattle.xet_base.specs.declared.item_id.UniqueID.{UniqueID}
use Rattle.xet_base.specs.declared.merklehash.MerkleHash.{MerkleHash}
use Rattle.xet_base.specs.declared.mdb_shard.Xorb.{Xorb}
use Rattle.xet_outside.specs.declared.client.ClientError.{ClientError}
use Rattle.xet_outside.specs.declared.client.ClientError.TheVariants as client_error
use Rattle.xet_base.specs.Hashes.{hash_eq}
use Rattle.xet_base.proofs.CallerLemmas.{eq-hash_eq}
use Rattle.xet_progress_state.specs.Accepted.{completion_test, refusal_of}
use Rattle.xet_progress_state.specs.Counts.{new_xorb, registrations, sizes}
use Rattle.xet_progress_state.specs.declared.step.FileXorbDependency.{FileXorbDependency}
use Rattle.xet_progress_state.specs.declared.step.TrackerStep.{TrackerStep}
use Rattle.xet_progress_state.specs.declared.step.TrackerStep.TheVariants.{RegisterDependencies, RegisterNewFile, RegisterNewXorb, RegisterXorbUploadCompletion}
use Rattle.xet_shard_interface.specs.Interfaces.{StoreFails, resumed_faults}
use Rattle.xet_upload.specs.DataErrors.{of_client_error}
use Rattle.xet_upload.specs.declared.data_error.DataError.{DataError}
use Rattle.xet_upload.specs.declared.data_error.DataError.TheVariants as data_error
use Rattle.xet_upload_session.specs.Calls.{PutsFail, finalized_error, xorb_bytes}
use Rattle.xet_upload_session.specs.Sessions.{SessionTold}
use Rattle.xet_upload_parts.specs.TrackerCalls.{with_call}
use Rattle.xet_upload_session.specs.Trackings.{CountsPut, IsRefusal, StartsFile, Tracks, TracksXorb, all_xorb_calls, first_refusal, xorb_calls}
use Rattle.xet_upload_session.specs.steps.SessionSteps.{GivenCounted, PutCounted}
use Rattle.xet_upload_parts.specs.HashLists.{has}
use Rattle.xet_upload_parts.proofs.CallerLemmas.{contains-has, has-not}

-- ---- a given xorb

-- an error of a put is no refusal
pub puts-invalid : {P : Type 0} (b n : SessionTold) (e : DataError) → PutsFail b n e → (why : Invalid) → e ≡ data_error.InvalidOperation why → P
puts-invalid {P = P} b n e f why q = go f
  where
    store : (x y : ℕ) → StoreFails x y e → P
    store x y (inl p) = absurd (let r = sym p ∙ q in cc)
    store x y (inr p) = absurd (let r = sym p.0 ∙ q in cc)

    client : (g : ClientError) → e ≡ of_client_error g → P
    client client_error.OutOfMemory p = absurd (let r = sym p ∙ q in cc)
    client client_error.Failed p = absurd (let r = sym p ∙ q in cc)

    go : PutsFail b n e → P
    go (inl (inl s)) = store (resumed_faults b.shards.resumed) (resumed_faults n.shards.resumed) s
    go (inl (inr (inl s))) = store b.shards.session.faults n.shards.session.faults s
    go (inl (inr (inr (inl s)))) = store b.shards.cache.faults n.shards.cache.faults s
    go (inl (inr (inr (inr s)))) = store b.shards.staging.faults n.shards.staging.faults s
    go (inr (g, kept, told)) = client g told

-- a list isn't longer than itself
pub not-longer : {A P : Type 0} (xs : List A) (x : A) → xs ≡ xs ++ x ∷ [] → P
not-longer xs x e = absurd (omega (arith, ap length e ∙ length-append xs (x ∷ [])))

-- ---- calls in which a refusal changes nothing

-- a call that the tracker doesn't refuse
pub accepts : (before : List TrackerStep) (c : TrackerStep) → refusal_of before c ≡ None → with_call before c ≡ before ++ c ∷ []
accepts before c e = ap (λ (o : Option Invalid). cond (is_some o) before (before ++ c ∷ [])) e

-- ---- a xorb that is registered isn't refused as complete

one-or : {X : Type 0} (y : Bool) (x : X) (o : Option X) → is_some o ≡ true → is_some (cond y (Some x) o) ≡ true
one-or true x o s = refl
one-or false x o s = s

find-behind : {X : Type 0} (p : X → Bool) (xs ys : List X) → is_some (find p ys) ≡ true → is_some (find p (xs ++ ys)) ≡ true
find-behind p [] ys s = s
find-behind p (x ∷ xs) ys s = one-or (p x) x (find p (xs ++ ys)) (find-behind p xs ys s)

-- it is found, whatever came before it
found-size : (h : MerkleHash) (s : ℕ) (ds : List FileXorbDependency) (before : List TrackerStep) → is_some (find (λ x. hash_eq x.0 h) (registrations (before ++ RegisterNewXorb h s ∷ RegisterDependencies ds ∷ []))) ≡ true
found-size h s ds [] = let new : MerkleHash × ℕ = (h, s) in ap (λ (y : Bool). is_some (cond y (Some new) None)) (eq-hash_eq h h refl)
found-size h s ds (c ∷ before) =
    find-behind (λ x. hash_eq x.0 h) (new_xorb c) (registrations (before ++ RegisterNewXorb h s ∷ RegisterDependencies ds ∷ [])) (found-size h s ds before)

completes-known : (h : MerkleHash) (o : Option (MerkleHash × ℕ)) → is_some o ≡ true → completion_test h (option_map (λ x. x.1) o) ≡ None
completes-known h (Some x) s = refl
completes-known h None s = absurd (false≢true s)

pub completes-new : (before : List TrackerStep) (h : MerkleHash) (s : ℕ) (ds : List FileXorbDependency) → refusal_of (before ++ RegisterNewXorb h s ∷ RegisterDependencies ds ∷ []) (RegisterXorbUploadCompletion h) ≡ None
completes-new before h s ds = completes-known h (find (λ x. hash_eq x.0 h) (registrations (before ++ RegisterNewXorb h s ∷ RegisterDependencies ds ∷ []))) (found-size h s ds before)

-- ---- what a given xorb leaves

-- an error of a client is no refusal
client-invalid : {P : Type 0} (why : Invalid) (g : ClientError) → of_client_error g ≡ data_error.InvalidOperation why → P
client-invalid why client_error.OutOfMemory q = absurd cc
client-invalid why client_error.Failed q = absurd cc

-- no failure is kept
not-failed : {P : Type 0} (b : SessionTold) → b.failed ≡ None → is_some b.failed ≡ true → P
not-failed b none some = absurd (false≢true (ap (λ (o : Option ClientError). is_some o) (sym none) ∙ some))

module _ (b : SessionTold) (before : List TrackerStep) (x : Xorb) (ds : List FileXorbDependency) where
  -- nothing was told
  told-nothing : {A : Type 0} (e : DataError) → ((why : Invalid) → e ≡ data_error.InvalidOperation why → (e ≡ finalized_error) × (b.finalized ≡ true)) → TracksXorb {A = A} b b before before x ds (Err e)
  told-nothing e f = record {
    told = before;
    count = 0;
    accepted = sym (append-nil before);
    ok = tt;
    unput = λ q. refl;
    put = λ q. not-longer b.registered x.hash q;
    refused = λ none some. not-failed b none some;
    again = λ low q none. inl refl;
    kept = λ q low new. refl;
    ended = λ q. refl;
    err = λ why q. inl (f why q);
  }

  -- the session is finalized
  pub told-finalized : {A : Type 0} → b.finalized ≡ true → TracksXorb {A = A} b b before before x ds (Err finalized_error)
  told-finalized f = told-nothing finalized_error (λ why q. (refl, f))

  -- a failure is kept
  pub told-failed : {A : Type 0} (g : ClientError) → TracksXorb {A = A} b b before before x ds (Err (of_client_error g))
  told-failed g = told-nothing (of_client_error g) (λ why q. client-invalid why g q)

  -- there was no memory
  pub told-unmade : {A : Type 0} → TracksXorb {A = A} b b before before x ds (Err data_error.OutOfMemory)
  told-unmade = told-nothing data_error.OutOfMemory (λ why q. absurd cc)

  abbrev calls : List TrackerStep
  calls = xorb_calls b.registered x ds

  abbrev new_call : TrackerStep
  new_call = RegisterNewXorb x.hash (xorb_bytes x)

  -- not all calls were accepted: none, or that of the xorb
  few : (y : Bool) (k : ℕ) → k < length (cond y (RegisterDependencies ds ∷ []) (new_call ∷ RegisterDependencies ds ∷ [])) → (take k (cond y (RegisterDependencies ds ∷ []) (new_call ∷ RegisterDependencies ds ∷ [])) ≡ []) ⊎ (take k (cond y (RegisterDependencies ds ∷ []) (new_call ∷ RegisterDependencies ds ∷ [])) ≡ new_call ∷ [])
  few y zero low = inl refl
  few true (suc k) low = absurd (omega (arith, low))
  few false (suc zero) low = inr refl
  few false (suc (suc k)) low = absurd (omega (arith, low))

  module _ (first : b.finalized ≡ false) (sound : (Contains b.registered x.hash → ⊥) → 0 < length x.chunks → b.failed ≡ None) where
    not-ended : {P : Type 0} → b.finalized ≡ true → P
    not-ended q = absurd (false≢true (sym first ∙ q))

    not-kept : {P : Type 0} → is_some b.failed ≡ true → 0 < length x.chunks → (Contains b.registered x.hash → ⊥) → P
    not-kept q low new = absurd (false≢true (ap (λ (o : Option ClientError). is_some o) (sym (sound new low)) ∙ q))

    -- the tracker refused a call
    pub told-refused : {A B : Type 0} (after : List TrackerStep) (e : DataError) → Tracks {A = A} before after calls (Err e) → TracksXorb {A = B} b b before after x ds (Err e)
    told-refused after e t = record {
      told = after;
      count = t.count;
      accepted = t.accepted;
      ok = tt;
      unput = λ q. refl;
      put = λ q. not-longer b.registered x.hash q;
      refused = λ none q. not-failed b none q;
      again = λ low q none. some (few (has x.hash b.registered) t.count t.fewer);
      kept = λ q low new. not-kept q low new;
      ended = λ q. not-ended q;
      err = λ why q. inr (first, go why q t.err);
    }
      where
        some : (take t.count calls ≡ []) ⊎ (take t.count calls ≡ new_call ∷ []) → (after ≡ before) ⊎ (after ≡ before ++ new_call ∷ [])
        some (inl q) = inl (t.accepted ∙ ap (λ (cs : List TrackerStep). before ++ cs) q ∙ append-nil before)
        some (inr q) = inr (t.accepted ∙ ap (λ (cs : List TrackerStep). before ++ cs) q)

        go : (why : Invalid) → e ≡ data_error.InvalidOperation why → IsRefusal (first_refusal before calls) e → first_refusal before calls ≡ Some why
        go why q (inl p) = absurd (let r = sym p ∙ q in cc)
        go why q (inr (w, r, p)) = let same = sym p ∙ q in let one : w ≡ why = cc in r ∙ ap (λ (v : Invalid). Some v) one

    abbrev done : TrackerStep
    done = RegisterXorbUploadCompletion x.hash

    -- all that is told of it
    all-told : (told : List TrackerStep) → told ≡ before ++ calls → cond (has x.hash b.registered) told (with_call told done) ≡ before ++ all_xorb_calls b.registered x ds
    all-told told e = go (has x.hash b.registered) e
      where
        known : List TrackerStep
        known = RegisterDependencies ds ∷ []

        new : List TrackerStep
        new = new_call ∷ RegisterDependencies ds ∷ []

        go : (y : Bool) → told ≡ before ++ cond y known new → cond y told (with_call told done) ≡ before ++ (cond y known new ++ cond y [] (done ∷ []))
        go true q = q
        go false q =
            ap (λ (l : List TrackerStep). with_call l done) q ∙ accepts (before ++ new) done (completes-new before x.hash (xorb_bytes x) ds)
            ∙ append_assoc before new (done ∷ [])

    -- the tracker accepted the calls, and then the xorb was put, or its put failed
    pub told-put : (n : SessionTold) (told after : List TrackerStep) (u : Unit {0}) → Tracks before told calls (Ok u) → (answer : Result Bool DataError) → GivenCounted b n told after x answer → IfErr answer (PutsFail b n) → TracksXorb b n before after x ds answer
    told-put n told after u t (Ok y) g f = record {
      told = told;
      count = t.count;
      accepted = t.accepted;
      ok = (t.ok.0, g.ok ∙ all-told told t.ok.1);
      unput = tt;
      put = λ q. (t.ok.1, g.put q);
      refused = λ none q. t.ok.1;
      again = tt;
      kept = λ q low new. not-kept q low new;
      ended = λ q. not-ended q;
      err = tt;
    }
    told-put n told after u t (Err e) g f = record {
      told = told;
      count = t.count;
      accepted = t.accepted;
      ok = tt;
      unput = g.unput;
      put = λ q. (t.ok.1, g.put q);
      refused = λ none q. t.ok.1;
      again = λ low q none. absurd (false≢true (ap (λ (o : Option ClientError). is_some o) (sym none) ∙ g.failed low q));
      kept = λ q low new. not-kept q low new;
      ended = λ q. not-ended q;
      err = λ why q. puts-invalid b n e f why q;
    }

-- the same, of an answer of another kind
pub counts-err : {A B : Type 0} (told after : List TrackerStep) (h : MerkleHash) (e : DataError) → CountsPut {A = A} told after h (Err e) → CountsPut {A = B} told after h (Err e)
counts-err told after h e (inl q) = inl q
counts-err told after h e (inr q) = inr (let was = q.0 in let one : e ≡ data_error.OutOfMemory = cc in ap (λ (z : DataError). Err z) one, q.1)

pub counts-ok : {A B : Type 0} (told after : List TrackerStep) (h : MerkleHash) (y : A) (answer : Result B DataError) → CountsPut {A = A} told after h (Ok y) → CountsPut {A = B} told after h answer
counts-ok told after h y answer (inl q) = inl q
counts-ok told after h y answer (inr q) = absurd (let was = q.0 in cc)

module _ (b n : SessionTold) (before after : List TrackerStep) (x : Xorb) (ds : List FileXorbDependency) where
  pub told-ok : {A B : Type 0} (y : A) (z : B) → TracksXorb b n before after x ds (Ok y) → TracksXorb b n before after x ds (Ok z)
  told-ok y z t = record { told = t.told; count = t.count; accepted = t.accepted; ok = t.ok; unput = tt; put = λ q. ((t.put q).0, counts-ok t.told after x.hash y (Ok z) (t.put q).1); refused = t.refused; again = tt; kept = t.kept; ended = t.ended; err = tt }

  pub told-err : {A B : Type 0} (e : DataError) → TracksXorb {A = A} b n before after x ds (Err e) → TracksXorb {A = B} b n before after x ds (Err e)
  told-err e t = record { told = t.told; count = t.count; accepted = t.accepted; ok = tt; unput = t.unput; put = λ q. ((t.put q).0, counts-err t.told after x.hash e (t.put q).1); refused = t.refused; again = t.again; kept = t.kept; ended = t.ended; err = t.err }

-- ---- a put and its count

module _ (b n : SessionTold) (told after : List TrackerStep) (h : MerkleHash) where
  -- it was put, and counted or there was no memory for that
  pub counted : (answer : Result (Unit {0}) DataError) → n.registered ≡ b.registered ++ h ∷ [] → CountsPut told after h answer → PutCounted b n told after h answer
  counted (Ok u) put c = record { ok = (put, go c); err = tt }
    where
      go : CountsPut {A = Unit {0}} told after h (Ok u) → after ≡ with_call told (RegisterXorbUploadCompletion h)
      go (inl q) = q
      go (inr q) = absurd (let was = q.0 in cc)
  counted (Err e) put c = record { ok = tt; err = inl (put, c) }

  -- its put failed
  pub unput : (e : DataError) → n.registered ≡ b.registered → is_some n.failed ≡ true → after ≡ told → PutCounted b n told after h (Err e)
  unput e put failed same = record { ok = tt; err = inr (put, failed, same) }

module _ (b n : SessionTold) (told after : List TrackerStep) (x : Xorb) where
  -- one of its hash was put before
  pub given-again : n.registered ≡ b.registered → Contains b.registered x.hash → after ≡ told → GivenCounted b n told after x (Ok false)
  given-again put old same = record {
    ok = same ∙ sym (ap (λ (y : Bool). cond y told (with_call told (RegisterXorbUploadCompletion x.hash))) (contains-has x.hash b.registered old));
    unput = tt;
    put = λ q. not-longer b.registered x.hash (sym put ∙ q);
    failed = tt;
  }

  module _ (fresh : Contains b.registered x.hash → ⊥) where
    once : cond (has x.hash b.registered) told (with_call told (RegisterXorbUploadCompletion x.hash)) ≡ with_call told (RegisterXorbUploadCompletion x.hash)
    once = ap (λ (y : Bool). cond y told (with_call told (RegisterXorbUploadCompletion x.hash))) (has-not x.hash b.registered fresh)

    -- it has no chunks
    pub given-empty : n.registered ≡ b.registered → after ≡ with_call told (RegisterXorbUploadCompletion x.hash) → GivenCounted b n told after x (Ok true)
    given-empty put same = record { ok = same ∙ sym once; unput = tt; put = λ q. not-longer b.registered x.hash (sym put ∙ q); failed = tt }

    pub given-uncounted : length x.chunks ≡ 0 → n.registered ≡ b.registered → after ≡ told → GivenCounted b n told after x (Err data_error.OutOfMemory)
    given-uncounted none put same = record { ok = tt; unput = λ q. same; put = λ q. not-longer b.registered x.hash (sym put ∙ q); failed = λ low q. absurd (omega (arith, none, low)) }

    -- it was put, or its put failed
    pub given-counted : (u : Unit {0}) → PutCounted b n told after x.hash (Ok u) → GivenCounted b n told after x (Ok true)
    given-counted u p = record { ok = p.ok.1 ∙ sym once; unput = tt; put = λ q. inl p.ok.1; failed = tt }

    pub given-failed : (e : DataError) → PutCounted b n told after x.hash (Err e) → GivenCounted b n told after x (Err e)
    given-failed e p = go p.err
      where
        go : ((n.registered ≡ b.registered ++ x.hash ∷ []) × CountsPut {A = Unit {0}} told after x.hash (Err e)) ⊎ ((n.registered ≡ b.registered) × (is_some n.failed ≡ true) × (after ≡ told)) → GivenCounted b n told after x (Err e)
        go (inl q) = record { ok = tt; unput = λ r. not-longer b.registered x.hash (sym r ∙ q.0); put = λ r. counts-err told after x.hash e q.1; failed = λ low r. not-longer b.registered x.hash (sym r ∙ q.0) }
        go (inr q) = record { ok = tt; unput = λ r. q.2; put = λ r. not-longer b.registered x.hash (sym q.0 ∙ r); failed = λ low r. q.1 }

-- ---- how a file begins

module _ (before : List TrackerStep) (id : ℕ) (size : Option ℕ) (ended : Bool) where
  -- the session is finalized
  pub starts-ended : ended ≡ true → StartsFile before before id id ended size (Err finalized_error)
  starts-ended e = record {
    finalized = λ q. (refl, refl, refl);
    used_up = λ q. absurd (false≢true (sym q ∙ e));
    tracks = λ q. absurd (false≢true (sym q ∙ e));
    id = tt;
    drawn = λ q. absurd (false≢true (sym q ∙ e));
    undrawn = λ q. refl;
    number = tt;
  }

  module _ (first : ended ≡ false) where
    -- no id is left
    pub starts-none : (later : ℕ) (why : Invalid) → (why ≡ invalid.IdsUsedUp) × (later ≡ id) → id ≡ 2 ^ 64 - 1 → StartsFile before before id later ended size (Err (data_error.InvalidOperation why))
    starts-none later why w last = record {
      finalized = λ q. absurd (false≢true (sym first ∙ q));
      used_up = λ q l. (ap (λ (x : Invalid). Err (data_error.InvalidOperation x)) w.0, refl);
      tracks = λ q l. absurd (l last);
      id = tt;
      drawn = λ q l. absurd (l last);
      undrawn = λ q. w.1;
      number = tt;
    }

    -- an id was drawn, and the tracker was told of the file
    pub starts-drawn : (after : List TrackerStep) (later : ℕ) (drawn : UniqueID) → (drawn ≡ record { 0 = id }) × (later ≡ id + 1) → (id ≡ 2 ^ 64 - 1 → ⊥) → (answer : Result (UniqueID × ℕ) DataError) → Tracks before after (RegisterNewFile size ∷ []) answer → IfOk answer (λ r. r.0 ≡ drawn) → IfOk answer (λ r. r.1 ≡ length (sizes before)) → StartsFile before after id later ended size answer
    starts-drawn after later drawn d left answer t same number = record {
      finalized = λ q. absurd (false≢true (sym first ∙ q));
      used_up = λ q l. absurd (left l);
      tracks = λ q l. t;
      id = go answer same;
      drawn = λ q l. d.1;
      undrawn = λ q. absurd (left q);
      number = number;
    }
      where
        go : (a : Result (UniqueID × ℕ) DataError) → IfOk a (λ r. r.0 ≡ drawn) → IfOk a (λ r. (r.0 ≡ record { 0 = id }) × (later ≡ id + 1))
        go (Ok r) s = (s ∙ d.0, d.1)
        go (Err e) s = tt
