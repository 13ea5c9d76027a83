-- What calls of a cleaner tell the tracker, one after another.
use Rattle.std.proofs.Common.{arith, ◌≡◌, ℕ, ◌⊎◌, inl, inr, Bool, true, false, List, [], ◌∷◌, ◌++◌, length, take, refl, sym, ◌∙◌, ap, subst}
use Rattle.std.specs.Prelude.{All, Option, Some, None, cond, is_some, Result, Ok, Err, IfErr, OnOk}
use Rattle.std.proofs.lemmas.List.{append-nil, append_assoc}
use Rattle.std.proofs.lemmas.List.Elements.{All-append, All-cons, All-nil, All-take, All-weaker}
use Rattle.xet_base.specs.declared.invalid.Invalid.{Invalid}
use Rattle.xet_base.specs.declared.merklehash.MerkleHash.{MerkleHash}
use Rattle.xet_base.specs.declared.mdb_shard.Xorb.{Xorb}
use Rattle.xet_outside.specs.declared.client.ClientError.{ClientError}
use Rattle.xet_outside.specs.declared.client.ClientError.TheVariants as client_error
use Rattle.xet_progress_state.specs.Accepted.{refusal_of}
use Rattle.xet_progress_state.specs.declared.step.FileXorbDependency.{FileXorbDependency}
use Rattle.xet_progress_state.specs.declared.step.TrackerStep.{TrackerStep}
use Rattle.xet_progress_state.specs.declared.step.TrackerStep.TheVariants.{AssertComplete, IncrementFileSize, IsComplete, RegisterDependencies, RegisterNewFile, RegisterNewXorb, RegisterXorbUploadCompletion, RegisterXorbUploadProgress, RegisterXorbUploadProgressBackground, Status}
use Rattle.xet_shard_interface.specs.Interfaces.{InterfaceTold, StoreFails, resumed_faults}
use Rattle.xet_upload.specs.DataErrors.{of_client_error}
use Rattle.xet_upload.specs.declared.data_error.DataError.{DataError}
use Rattle.xet_upload.specs.declared.data_error.DataError.TheVariants as data_error
use Rattle.xet_upload_session.specs.Calls.{PutsFail, Refuses, RegisterStopped, StoresFail, finalized_error, xorb_bytes}
use Rattle.xet_upload_session.specs.Sessions.{SessionTold}
use Rattle.xet_upload_session.specs.Trackings.{CountsPut, IsRefusal, Tracks, TracksXorb, all_xorb_calls, first_refusal, xorb_calls}
use Rattle.xet_upload_parts.specs.HashLists.{has}
use Rattle.xet_clean_parts.specs.Cleanings.{CleanFails, TrackFails}
use Rattle.xet_clean_parts.specs.FileCalls.{AreGiven, GrowsFirst, IsFor, IsLate, IsPartOf, RefusedOf, RefusesFor, TellsOf, growth}

memory-invalid : {P : Type 0} (e : DataError) → e ≡ data_error.OutOfMemory → (why : Invalid)
    → e ≡ data_error.InvalidOperation why → P
memory-invalid e m why q = absurd (let r = sym m ∙ q in cc)

same-why : (e : DataError) (why other : Invalid) → e ≡ data_error.InvalidOperation why
    → e ≡ data_error.InvalidOperation other → why ≡ other
same-why e why other q r =
    let both : data_error.InvalidOperation why ≡ data_error.InvalidOperation other = sym q ∙ r in
    cc

store-valid : {P : Type 0} (x y : ℕ) (e : DataError) → StoreFails x y e → (why : Invalid)
    → e ≡ data_error.InvalidOperation why → P
store-valid x y e (inl p) why q = memory-invalid e p why q
store-valid x y e (inr p) why q = absurd (let r = sym p.0 ∙ q in cc)

stores-valid : {P : Type 0} (b n : InterfaceTold) (e : DataError) → StoresFail b n e → (why : Invalid)
    → e ≡ data_error.InvalidOperation why → P
stores-valid b n e (inl s) why q = store-valid (resumed_faults b.resumed) (resumed_faults n.resumed) e s why q
stores-valid b n e (inr (inl s)) why q = store-valid b.session.faults n.session.faults e s why q
stores-valid b n e (inr (inr (inl s))) why q = store-valid b.cache.faults n.cache.faults e s why q
stores-valid b n e (inr (inr (inr s))) why q = store-valid b.staging.faults n.staging.faults e s why q

client-valid : {P : Type 0} (f : ClientError) (e : DataError) → e ≡ of_client_error f → (why : Invalid)
    → e ≡ data_error.InvalidOperation why → P
client-valid client_error.OutOfMemory e p why q = memory-invalid e p why q
client-valid client_error.Failed e p why q = absurd (let r = sym p ∙ q in cc)

-- ---- refusals

refuses-later : (K : TrackerStep → Type 0) (b m n calls : List TrackerStep) (why : Invalid) → m ≡ b ++ calls
    → RefusesFor K m n why → RefusesFor K b n why
refuses-later K b m n calls why e r =
    let moved : m ++ r.told ≡ b ++ (calls ++ r.told) =
    ap (λ (l : List TrackerStep). l ++ r.told) e ∙ append_assoc b calls r.told in
    record {
      told = calls ++ r.told;
      calls = r.calls;
      are = r.are;
      count = r.count;
      accepted = r.accepted ∙ ap (λ (l : List TrackerStep). l ++ take r.count r.calls) moved;
      refusal = ap (λ (l : List TrackerStep). first_refusal l r.calls) (sym moved) ∙ r.refusal;
    }

-- the first of these calls that is refused
refused-given : (K : TrackerStep → Type 0) (before n calls : List TrackerStep) (count : ℕ) (why : Invalid)
    → AreGiven K calls → n ≡ before ++ take count calls → first_refusal before calls ≡ Some why
    → RefusesFor K before n why
refused-given K before n calls count why a e r = record {
  told = [];
  calls = calls;
  are = a;
  count = count;
  accepted = e ∙ ap (λ (l : List TrackerStep). l ++ take count calls) (sym (append-nil before));
  refusal = ap (λ (l : List TrackerStep). first_refusal l calls) (append-nil before) ∙ r;
}

-- ---- calls that tell nothing, and two calls

pub tells-none : {A : Type 0} (K : TrackerStep → Type 0) (own : DataError → Type 0) (b n : List TrackerStep)
    (answer : Result A DataError) → n ≡ b → IfErr answer (λ e. (why : Invalid) → e ≡ data_error.InvalidOperation why
    → own e ⊎ RefusesFor K b n why) → TellsOf K own b n answer
tells-none K own b n answer e r = record {
  calls = [];
  accepted = e ∙ sym (append-nil b);
  are = All-nil K;
  refused = r;
}

-- from a list that is the same
pub tells-moved : {A : Type 0} (K : TrackerStep → Type 0) (own : DataError → Type 0) (b m n : List TrackerStep)
    (answer : Result A DataError) → m ≡ b → TellsOf K own m n answer → TellsOf K own b n answer
tells-moved K own b m n answer e t = subst (λ (l : List TrackerStep). TellsOf K own l n answer) e t

-- there was no memory
pub tells-memory : {A : Type 0} (K : TrackerStep → Type 0) (own : DataError → Type 0) (b n : List TrackerStep) → n ≡ b
    → TellsOf {A = A} K own b n (Err data_error.OutOfMemory)
tells-memory {A = A} K own b n e = tells-none {A = A} K own b n (Err data_error.OutOfMemory) e
    (λ why q. memory-invalid data_error.OutOfMemory refl why q)

side-later : {P : Type 0} (K : TrackerStep → Type 0) (b m n calls : List TrackerStep) (why : Invalid) → m ≡ b ++ calls
    → P ⊎ RefusesFor K m n why → P ⊎ RefusesFor K b n why
side-later K b m n calls why e (inl p) = inl p
side-later K b m n calls why e (inr r) = inr (refuses-later K b m n calls why e r)

pub refused-later : {B : Type 0} (K : TrackerStep → Type 0) (own : DataError → Type 0) (b m n calls : List TrackerStep)
    (answer : Result B DataError) → m ≡ b ++ calls → RefusedOf K own m n answer → RefusedOf K own b n answer
refused-later K own b m n calls (Ok y) e h = tt
refused-later K own b m n calls (Err x) e h = λ why q. side-later K b m n calls why e (h why q)

pub tells-both : {A B : Type 0} (K : TrackerStep → Type 0) (own : DataError → Type 0) (b m n : List TrackerStep) (x : A)
    → TellsOf K own b m (Ok x) → (answer : Result B DataError) → TellsOf K own m n answer
    → TellsOf K own b n answer
tells-both K own b m n x one answer two = record {
  calls = one.calls ++ two.calls;
  accepted = two.accepted ∙ ap (λ (l : List TrackerStep). l ++ two.calls) one.accepted
      ∙ append_assoc b one.calls two.calls;
  are = All-append K one.calls two.calls one.are two.are;
  refused = refused-later K own b m n one.calls answer one.accepted two.refused;
}

-- the same answer of another call
pub tells-err : {A B : Type 0} (K : TrackerStep → Type 0) (own : DataError → Type 0) (b n : List TrackerStep)
    (e : DataError)
    → TellsOf {A = A} K own b n (Err e) → TellsOf {A = B} K own b n (Err e)
tells-err K own b n e t = record {
  calls = t.calls;
  accepted = t.accepted;
  are = t.are;
  refused = t.refused;
}

pub tells-ok : {A B : Type 0} (K : TrackerStep → Type 0) (own : DataError → Type 0) (b n : List TrackerStep)
    (x : A) (y : B)
    → TellsOf K own b n (Ok x) → TellsOf K own b n (Ok y)
tells-ok K own b n x y t = record {
  calls = t.calls;
  accepted = t.accepted;
  are = t.are;
  refused = tt;
}

-- errors of the cleaner's own are more
pub tells-own : {A : Type 0} (K : TrackerStep → Type 0) (own more : DataError → Type 0) (b n : List TrackerStep)
    (answer : Result A DataError) → ((e : DataError) → own e → more e) → TellsOf K own b n answer
    → TellsOf K more b n answer
tells-own {A = A} K own more b n answer f t = record {
  calls = t.calls;
  accepted = t.accepted;
  are = t.are;
  refused = go answer t.refused;
}
  where
    side : (e : DataError) (why : Invalid) → own e ⊎ RefusesFor K b n why → more e ⊎ RefusesFor K b n why
    side e why (inl p) = inl (f e p)
    side e why (inr r) = inr r

    go : (r : Result A DataError) → RefusedOf K own b n r → RefusedOf K more b n r
    go (Ok x) h = tt
    go (Err e) h = λ why q. side e why (h why q)

-- ---- one call of the tracker, and a given xorb

pub tracks-tells : {A : Type 0} (K : TrackerStep → Type 0) (own : DataError → Type 0) (b n : List TrackerStep)
    (c : TrackerStep) (answer : Result A DataError)
    → K c → AreGiven K (c ∷ []) → Tracks b n (c ∷ []) answer → TellsOf K own b n answer
tracks-tells {A = A} K own b n c answer is given t = record {
  calls = take t.count (c ∷ []);
  accepted = t.accepted;
  are = All-take K t.count (c ∷ []) one;
  refused = go answer t.err;
}
  where
    one : All K (c ∷ [])
    one = All-cons K c [] is (All-nil K)

    side : (e : DataError) (why : Invalid) → e ≡ data_error.InvalidOperation why
        → IsRefusal (first_refusal b (c ∷ [])) e → RefusesFor K b n why
    side e why q (inl m) = memory-invalid e m why q
    side e why q (inr r) = refused-given K b n (c ∷ []) t.count why given t.accepted
        (r.1 ∙ ap Some (same-why e r.0 why r.2 q))

    go : (r : Result A DataError) → IfErr r (IsRefusal (first_refusal b (c ∷ []))) → RefusedOf K own b n r
    go (Ok x) h = tt
    go (Err e) h = λ why q. inr (side e why q h)

-- the call that tells of one part
pub tracks-part : {A : Type 0} (file : ℕ) (own : DataError → Type 0) (b n : List TrackerStep) (d : FileXorbDependency)
    (answer : Result A DataError) → d.file_id ≡ file → Tracks b n (RegisterDependencies (d ∷ []) ∷ []) answer
    → TellsOf (IsPartOf file) own b n answer
tracks-part file own b n d answer is t =
    let one = All-cons (λ (y : FileXorbDependency). y.file_id ≡ file) d [] is
    (All-nil (λ (y : FileXorbDependency). y.file_id ≡ file)) in
    tracks-tells (IsPartOf file) own b n (RegisterDependencies (d ∷ [])) answer one one t

-- why such a call fails
pub tracks-why : {A : Type 0} (b n calls : List TrackerStep) (answer : Result A DataError) → Tracks b n calls answer
    → IfErr answer TrackFails
tracks-why b n calls (Ok x) t = tt
tracks-why b n calls (Err e) t = go t.err
  where
    go : IsRefusal (first_refusal b calls) e → TrackFails e
    go (inl m) = inl m
    go (inr r) = inr (r.0, r.2)

-- what a file has in a xorb that is given
xorb-for : (file : ℕ) (registered : List MerkleHash) (x : Xorb) (d : FileXorbDependency) → d.file_id ≡ file
    → All (IsPartOf file) (xorb_calls registered x (d ∷ []))
xorb-for file registered x d is = go (has x.hash registered)
  where
    last : All (IsPartOf file) (RegisterDependencies (d ∷ []) ∷ [])
    last = All-cons (IsPartOf file) (RegisterDependencies (d ∷ [])) []
        (All-cons (λ (y : FileXorbDependency). y.file_id ≡ file) d [] is
        (All-nil (λ (y : FileXorbDependency). y.file_id ≡ file))) (All-nil (IsPartOf file))

    go : (y : Bool) → All (IsPartOf file) (cond y (RegisterDependencies (d ∷ []) ∷ [])
        (RegisterNewXorb x.hash (xorb_bytes x) ∷ RegisterDependencies (d ∷ []) ∷ []))
    go true = last
    go false = All-cons (IsPartOf file) (RegisterNewXorb x.hash (xorb_bytes x)) (RegisterDependencies (d ∷ []) ∷ []) tt
        last

-- what the tracker is given of it
xorb-given : (file : ℕ) (registered : List MerkleHash) (x : Xorb) (d : FileXorbDependency) → d.file_id ≡ file
    → AreGiven (IsPartOf file) (xorb_calls registered x (d ∷ []))
xorb-given file registered x d is = go (has x.hash registered)
  where
    parts : All (λ (y : FileXorbDependency). y.file_id ≡ file) (d ∷ [])
    parts = All-cons (λ (y : FileXorbDependency). y.file_id ≡ file) d [] is
        (All-nil (λ (y : FileXorbDependency). y.file_id ≡ file))

    go : (y : Bool) → AreGiven (IsPartOf file) (cond y (RegisterDependencies (d ∷ []) ∷ [])
        (RegisterNewXorb x.hash (xorb_bytes x) ∷ RegisterDependencies (d ∷ []) ∷ []))
    go true = parts
    go false = parts

-- the tracker after a xorb that was put
put-tells : {A : Type 0} (file : ℕ) (told n : List TrackerStep) (h : MerkleHash) (answer : Result A DataError)
    → CountsPut told n h answer → (calls : List TrackerStep) × (n ≡ told ++ calls) × All (IsPartOf file) calls
put-tells file told n h answer (inr e) = ([], e.1 ∙ sym (append-nil told), All-nil (IsPartOf file))
put-tells file told n h answer (inl e) = go (is_some (refusal_of told (RegisterXorbUploadCompletion h))) e
  where
    go : (y : Bool) → n ≡ cond y told (told ++ RegisterXorbUploadCompletion h ∷ [])
        → (calls : List TrackerStep) × (n ≡ told ++ calls) × All (IsPartOf file) calls
    go true q = ([], q ∙ sym (append-nil told), All-nil (IsPartOf file))
    go false q = (
      RegisterXorbUploadCompletion h ∷ [],
      q,
      All-cons (IsPartOf file) (RegisterXorbUploadCompletion h) [] tt (All-nil (IsPartOf file)),
    )

all-for : (file : ℕ) (registered : List MerkleHash) (x : Xorb) (d : FileXorbDependency) → d.file_id ≡ file
    → All (IsPartOf file) (all_xorb_calls registered x (d ∷ []))
all-for file registered x d is = All-append (IsPartOf file) (xorb_calls registered x (d ∷ []))
    (cond (has x.hash registered) [] (RegisterXorbUploadCompletion x.hash ∷ [])) (xorb-for file registered x d is)
    (go (has x.hash registered))
  where
    go : (y : Bool) → All (IsPartOf file) (cond y [] (RegisterXorbUploadCompletion x.hash ∷ []))
    go true = All-nil (IsPartOf file)
    go false = All-cons (IsPartOf file) (RegisterXorbUploadCompletion x.hash) [] tt (All-nil (IsPartOf file))

-- why a given xorb is refused
abbrev FailsSo : SessionTold → SessionTold → DataError → Type 0
FailsSo s t e = ((e ≡ finalized_error) × (s.finalized ≡ true)) ⊎ PutsFail s t e ⊎ Refuses s t e

-- a list isn't itself with one element more
longer : {P : Type 0} (xs : List MerkleHash) (h : MerkleHash) → xs ≡ xs ++ h ∷ [] → P
longer [] h e = absurd (let l : 0 ≡ 1 = ap length e in omega arith)
longer (x ∷ xs) h e = let l : xs ≡ xs ++ h ∷ [] = cc in longer xs h l

module _ (file : ℕ) (s t : SessionTold) (b n : List TrackerStep) (x : Xorb) (d : FileXorbDependency) (now : ℕ)
    (is : d.file_id ≡ file) where
  abbrev parts : List TrackerStep
  parts = xorb_calls s.registered x (d ∷ [])

  all : All (IsPartOf file) parts
  all = xorb-for file s.registered x d is

  side : (e : DataError) (why : Invalid) (count : ℕ) → n ≡ b ++ take count parts
      → ((e ≡ finalized_error) × (s.finalized ≡ true)) ⊎ ((s.finalized ≡ false) × (first_refusal b parts ≡ Some why))
      → IsLate s.finalized e ⊎ RefusesFor (IsPartOf file) b n why
  side e why count m (inl p) = inl p
  side e why count m (inr r) = inr (refused-given (IsPartOf file) b n parts count why
      (xorb-given file s.registered x d is) m r.1)

  pub xorb-tells : (y : Bool) → TracksXorb s t b n x (d ∷ []) (Ok y)
      → TellsOf {A = Bool} (IsPartOf file) (IsLate s.finalized) b n (Ok y)
  xorb-tells y k = record {
    calls = all_xorb_calls s.registered x (d ∷ []);
    accepted = k.ok.1;
    are = all-for file s.registered x d is;
    refused = tt;
  }

  module _ (e : DataError) (k : TracksXorb {A = Bool} s t b n x (d ∷ []) (Err e)) where
    unput : t.registered ≡ s.registered → TellsOf {A = Bool} (IsPartOf file) (IsLate s.finalized) b n (Err e)
    unput same = record {
      calls = take k.count parts;
      accepted = k.unput same ∙ k.accepted;
      are = All-take (IsPartOf file) k.count parts all;
      refused = λ why q. side e why k.count (k.unput same ∙ k.accepted) (k.err why q);
    }

    -- a xorb that was put isn't refused
    put-own : t.registered ≡ s.registered ++ x.hash ∷ [] → FailsSo s t e → (why : Invalid)
        → e ≡ data_error.InvalidOperation why → IsLate s.finalized e
    put-own grown (inl p) why q = p
    put-own grown (inr (inl (inl p))) why q = stores-valid s.shards t.shards e p why q
    put-own grown (inr (inl (inr f))) why q = client-valid f.0 e f.2 why q
    put-own grown (inr (inr r)) why q =
        longer s.registered x.hash (sym (ap (λ (z : SessionTold). z.registered) r.1) ∙ grown)

    put : t.registered ≡ s.registered ++ x.hash ∷ [] → FailsSo s t e
        → TellsOf {A = Bool} (IsPartOf file) (IsLate s.finalized) b n (Err e)
    put grown fails =
        let p = k.put grown in
        let c = put-tells {A = Bool} file k.told n x.hash (Err e) p.1 in
        record {
          calls = parts ++ c.0;
          accepted = c.1 ∙ ap (λ (l : List TrackerStep). l ++ c.0) p.0 ∙ append_assoc b parts c.0;
          are = All-append (IsPartOf file) parts c.0 all c.2;
          refused = λ why q. inl (put-own grown fails why q);
        }

    pub xorb-tells-err : RegisterStopped s t x now e → FailsSo s t e
        → TellsOf {A = Bool} (IsPartOf file) (IsLate s.finalized) b n (Err e)
    xorb-tells-err (inl z) w = unput (ap (λ (y : SessionTold). y.registered) z)
    xorb-tells-err (inr (inl z)) w = unput (ap (λ (y : SessionTold). y.registered) z.same)
    xorb-tells-err (inr (inr z)) w = put (ap (λ (y : SessionTold). y.registered) z.same) w

-- ---- a session that was finalized at an earlier moment

pub tells-late : {A : Type 0} (K : TrackerStep → Type 0) (x y : Bool) (b n : List TrackerStep)
    (answer : Result A DataError) → x ≡ y
    → TellsOf K (IsLate x) b n answer → TellsOf K (IsLate y) b n answer
tells-late K x y b n answer e t = subst (λ (z : Bool). TellsOf K (IsLate z) b n answer) e t

-- the end of a file makes no invalid operation of its own
pub end-refused : {A : Type 0} (K : TrackerStep → Type 0) (own : DataError → Type 0) (b : List TrackerStep)
    (m n : SessionTold)
    (after : List TrackerStep)
    (answer : Result A DataError) → ((e : DataError) → IsLate m.finalized e → own e) → IfErr answer (CleanFails m n)
    → RefusedOf K own b after answer
end-refused K own b m n after (Ok x) f w = tt
end-refused K own b m n after (Err e) f w = λ why q. inl (go w why q)
  where
    go : CleanFails m n e → (why : Invalid) → e ≡ data_error.InvalidOperation why → own e
    go (inl p) why q = f e p
    go (inr (inl s)) why q = stores-valid m.shards n.shards e s why q
    go (inr (inr r)) why q = client-valid r.0 e r.2 why q

-- ---- calls of two kinds

-- a call that tells of parts is one for the file
pub part-for : (file : ℕ) (size : Option ℕ) (n : ℕ) (c : TrackerStep) → IsPartOf file c → IsFor file size n c
part-for file size k (RegisterNewFile s) p = absurd p
part-for file size k (IncrementFileSize f n) p = absurd p
part-for file size k (RegisterDependencies ds) p = p
part-for file size k (RegisterNewXorb h n) p = tt
part-for file size k (RegisterXorbUploadCompletion h) p = tt
part-for file size k (RegisterXorbUploadProgress h n) p = absurd p
part-for file size k (RegisterXorbUploadProgressBackground h n) p = absurd p
part-for file size k Status p = absurd p
part-for file size k IsComplete p = absurd p
part-for file size k AssertComplete p = absurd p

module _ (K L : TrackerStep → Type 0) (f : (c : TrackerStep) → K c → L c) where
  given-wider : (calls : List TrackerStep) → AreGiven K calls → AreGiven L calls
  given-wider [] a = absurd a
  given-wider (c ∷ []) a = one c a
    where
      one : (c : TrackerStep) → AreGiven K (c ∷ []) → AreGiven L (c ∷ [])
      one (RegisterNewFile s) a = f (RegisterNewFile s) a
      one (IncrementFileSize g n) a = f (IncrementFileSize g n) a
      one (RegisterDependencies ds) a = f (RegisterDependencies ds) a
      one (RegisterNewXorb h n) a = absurd a
      one (RegisterXorbUploadCompletion h) a = absurd a
      one (RegisterXorbUploadProgress h n) a = absurd a
      one (RegisterXorbUploadProgressBackground h n) a = absurd a
      one Status a = absurd a
      one IsComplete a = absurd a
      one AssertComplete a = absurd a
  given-wider (c ∷ d ∷ cs) a = two c d cs a
    where
      two : (c d : TrackerStep) (cs : List TrackerStep) → AreGiven K (c ∷ d ∷ cs) → AreGiven L (c ∷ d ∷ cs)
      two (RegisterNewXorb h n) (RegisterDependencies ds) [] a = f (RegisterDependencies ds) a
      two (RegisterNewXorb h n) (RegisterDependencies ds) (e ∷ es) a = absurd a
      two (RegisterNewXorb h n) (RegisterNewFile s) cs a = absurd a
      two (RegisterNewXorb h n) (IncrementFileSize g k) cs a = absurd a
      two (RegisterNewXorb h n) (RegisterNewXorb g k) cs a = absurd a
      two (RegisterNewXorb h n) (RegisterXorbUploadCompletion g) cs a = absurd a
      two (RegisterNewXorb h n) (RegisterXorbUploadProgress g k) cs a = absurd a
      two (RegisterNewXorb h n) (RegisterXorbUploadProgressBackground g k) cs a = absurd a
      two (RegisterNewXorb h n) Status cs a = absurd a
      two (RegisterNewXorb h n) IsComplete cs a = absurd a
      two (RegisterNewXorb h n) AssertComplete cs a = absurd a
      two (RegisterNewFile s) d cs a = absurd a
      two (IncrementFileSize g n) d cs a = absurd a
      two (RegisterDependencies ds) d cs a = absurd a
      two (RegisterXorbUploadCompletion h) d cs a = absurd a
      two (RegisterXorbUploadProgress h n) d cs a = absurd a
      two (RegisterXorbUploadProgressBackground h n) d cs a = absurd a
      two Status d cs a = absurd a
      two IsComplete d cs a = absurd a
      two AssertComplete d cs a = absurd a

  pub refuses-wider : (before n : List TrackerStep) (why : Invalid) → RefusesFor K before n why
      → RefusesFor L before n why
  refuses-wider before n why r = record {
    told = r.told;
    calls = r.calls;
    are = given-wider r.calls r.are;
    count = r.count;
    accepted = r.accepted;
    refusal = r.refusal;
  }

  pub tells-wider : {A : Type 0} (own : DataError → Type 0) (b n : List TrackerStep) (answer : Result A DataError)
      → TellsOf K own b n answer → TellsOf L own b n answer
  tells-wider {A = A} own b n answer t = record {
    calls = t.calls;
    accepted = t.accepted;
    are = All-weaker K L f t.calls t.are;
    refused = go answer t.refused;
  }
    where
      side : (e : DataError) (why : Invalid) → own e ⊎ RefusesFor K b n why → own e ⊎ RefusesFor L b n why
      side e why (inl p) = inl p
      side e why (inr r) = inr (refuses-wider b n why r)

      go : (r : Result A DataError) → RefusedOf K own b n r → RefusedOf L own b n r
      go (Ok x) h = tt
      go (Err e) h = λ why q. side e why (h why q)

-- ---- a file that grows

pub growth-none : (file n : ℕ) (size : Option ℕ) (before : List TrackerStep) (s : ℕ) → size ≡ Some s
    → before ≡ before ++ growth file size n
growth-none file n size before s e =
    let P : Option ℕ → Type 0 = λ o. before ≡ before ++ growth file o n in
    subst P (sym e) (sym (append-nil before))

pub growth-some : {A : Type 0} (file n : ℕ) (size : Option ℕ) (before after : List TrackerStep)
    (answer : Result A DataError) → size ≡ None → Tracks before after (IncrementFileSize file n ∷ []) answer
    → OnOk answer (after ≡ before ++ growth file size n)
growth-some file n size before after (Err x) e t = tt
growth-some file n size before after (Ok x) e t =
    let P : Option ℕ → Type 0 = λ o. after ≡ before ++ growth file o n in
    subst P (sym e) t.ok.1

-- the tracker was told of the growth, and then of parts
pub grows-first : {A : Type 0} (file : ℕ) (size : Option ℕ) (n : ℕ) (own : DataError → Type 0)
    (b m after : List TrackerStep) (answer : Result A DataError) → m ≡ b ++ growth file size n
    → TellsOf (IsPartOf file) own m after answer → OnOk answer (GrowsFirst file size n b after)
grows-first file size n own b m after (Err x) e t = tt
grows-first file size n own b m after (Ok x) e t = record {
  parts = t.calls;
  accepted = t.accepted ∙ ap (λ (l : List TrackerStep). l ++ t.calls) e;
  are_parts = t.are;
}
