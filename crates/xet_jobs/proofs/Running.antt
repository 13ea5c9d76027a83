-- Turns of a job, one after another, up to its end.
use Rattle.std.proofs.Common.{◌≡◌, ℕ, ◌+◌, ◌-◌, ◌<◌, inl, inr, Bool, true, false, List, [], ◌∷◌, ◌++◌, length, refl, sym, ◌∙◌, ap, subst, arith}
use Rattle.std.specs.Prelude.{Option, Some, None, IfSome, IsSome, option_map, unwrap_or, Result, Ok, Err}
use Rattle.std.specs.List.{concat}
use Rattle.std.proofs.lemmas.Bool.{false≢true}
use Rattle.std.proofs.lemmas.List.{append-nil, append_assoc}
use Rattle.std.proofs.lemmas.List.Folds.{concat-append}
use Rattle.std.proofs.lemmas.Option.{same_Some}
use Rattle.xet_outside.specs.Told.{SourceTold}
use Rattle.xet_upload.specs.declared.data_error.DataError.{DataError}
use Rattle.xet_upload.specs.declared.sha256_policy.Sha256Policy.{Sha256Policy}
use Rattle.xet_upload_session.specs.Calls.{finalized_error}
use Rattle.xet_upload_session.specs.Sessions.{SessionTold}
use Rattle.xet_clean_parts.specs.Pointers.{pointer_to, recorded_sha256}
use Rattle.xet_clean.specs.Cleaners.{AddsData, Cleaner, IsFed, PassesTotal, past_total, total_of}
use Rattle.xet_upload_files.specs.Uploads.{TakesOff}
use Rattle.xet_jobs.specs.Jobs.{Ended, EndsJob, FeedsAll, JobTold, RunsJob, Steps, Turn, Turns, UploadsAll}

-- ---- bytes come off a source

front-both : (xs ys : List ℕ) (o p q : Option (List ℕ)) → o ≡ option_map (λ rest. xs ++ rest) p
    → p ≡ option_map (λ rest. ys ++ rest) q → o ≡ option_map (λ rest. (xs ++ ys) ++ rest) q
front-both xs ys o p None e f = e ∙ ap (λ (z : Option (List ℕ)). option_map (λ rest. xs ++ rest) z) f
front-both xs ys o p (Some zs) e f = e ∙ ap (λ (z : Option (List ℕ)). option_map (λ rest. xs ++ rest) z) f
    ∙ ap (λ (w : List ℕ). Some w) (sym (append_assoc xs ys zs))

takes-both : (s t u : SourceTold) (xs ys : List ℕ) → TakesOff s t xs → TakesOff t u ys → TakesOff s u (xs ++ ys)
takes-both s t u xs ys one two = record {
  left = front-both xs ys s.left t.left u.left one.left two.left;
  faults = let a = one.faults in let d = two.faults in omega (arith, a, d);
}

front-none : (o : Option (List ℕ)) → o ≡ option_map (λ rest. [] ++ rest) o
front-none None = refl
front-none (Some xs) = refl

takes-none : (s t : SourceTold) → t ≡ s → TakesOff s t []
takes-none s t e =
    let P : SourceTold → Type 0 = λ z. TakesOff s z [] in
    subst P (sym e) (record { left = front-none s.left; faults = omega arith })

-- the end of the source
left-none : (o p : Option (List ℕ)) → o ≡ option_map (λ rest. [] ++ rest) p → IfSome o (λ xs. xs ≡ [])
    → IfSome p (λ xs. xs ≡ [])
left-none o None e a = tt
left-none o (Some xs) e a = let P : Option (List ℕ) → Type 0 = λ z. IfSome z (λ ys. ys ≡ []) in subst P e a

joined : (ps : List (List ℕ)) (p : List ℕ) → concat (ps ++ p ∷ []) ≡ concat ps ++ p
joined ps p = concat-append ps (p ∷ []) ∙ ap (λ (zs : List ℕ). concat ps ++ zs) (append-nil p)

-- ---- one step

ok-err : {A : Type 0} (a : A) (e : DataError) → Ok a ≡ Err e → ⊥
ok-err a e q = cc

abbrev stopped : DataError → Result (Option Ended) DataError
stopped e = Err e

same-error : (e f : DataError) (a c : Result (Option Ended) DataError) → a ≡ Err e → c ≡ Err f → a ≡ c → e ≡ f
same-error e f a c g h q = cc

err-is : (e f : DataError) → stopped e ≡ stopped f → e ≡ f
err-is e f q = same-error e f (Err e) (Err f) refl refl q

-- bytes that were fed don't pass the size
fits : (b n : SessionTold) (c d : Cleaner) (bytes : List ℕ) → AddsData b n c bytes d (Ok tt) → PassesTotal c bytes → ⊥
fits b n c d bytes a passes = go b.finalized refl
  where
    open_cleaner : b.finalized ≡ false → (o : Option DataError) → c.failed ≡ o → ⊥
    open_cleaner fin None none = ok-err tt (past_total c bytes) (a.past fin none passes).0
    open_cleaner fin (Some e) some = ok-err tt e (a.kept fin e some).0

    go : (v : Bool) → b.finalized ≡ v → ⊥
    go true fin = ok-err tt finalized_error (a.finalized fin).0
    go false fin = open_cleaner fin c.failed refl

-- a turn whose step answered this, by the piece that was read and the job's cleaner
steps-of : (now : ℕ) (j m : JobTold) (p : List ℕ) (c : Cleaner) (answer : Result (Option Ended) DataError)
    → j.cleaner ≡ Some c → (t : Turn now j m p answer)
    → Steps now t.held.found t.held.left c p m.cleaner answer
steps-of now j m p c answer is t =
    let call = t.held.call in
    let own : call.own ≡ c =
    same_Some call.own c (sym call.cleaner ∙ ap (λ (z : JobTold). z.cleaner) t.fills.same ∙ is) in
    let piece : call.piece ≡ p =
    same_Some call.piece p (sym call.ready ∙ ap (λ (z : JobTold). z.ready) t.fills.same) in
    let P : Cleaner → Type 0 = λ z. Steps now t.held.found t.held.left z call.piece m.cleaner answer in
    let Q : List ℕ → Type 0 = λ z. Steps now t.held.found t.held.left c z m.cleaner answer in
    subst Q piece (subst P own call.steps)

-- the piece came off the source
took : (now : ℕ) (j m : JobTold) (p : List ℕ) (answer : Result (Option Ended) DataError) → Turn now j m p answer
    → TakesOff j.source m.source p
took now j m p answer t =
    let P : SourceTold → Type 0 = λ z. TakesOff j.source z p in subst P (sym t.held.call.source) t.fills.taken

-- and the source did not fail
still : (now : ℕ) (j m : JobTold) (p : List ℕ) (answer : Result (Option Ended) DataError) → Turn now j m p answer
    → m.source.faults ≡ j.source.faults
still now j m p answer t = ap (λ (z : SourceTold). z.faults) t.held.call.source ∙ t.fills.unfailed

-- ---- a turn that fed its piece

record Fed (now : ℕ) (j m : JobTold) (p : List ℕ) (c : Cleaner) : Type 0 where
  later : Cleaner
  after : m.cleaner ≡ Some later
  some : 0 < length p
  found : SessionTold
  left : SessionTold
  adds : AddsData found left c p later (Ok tt)

turn-fed : (now : ℕ) (j m : JobTold) (p : List ℕ) (c : Cleaner) → j.cleaner ≡ Some c → Turn now j m p (Ok None)
    → Fed now j m p c
turn-fed now j m p c is t = go p (steps-of now j m p c (Ok None) is t)
  where
    go : (xs : List ℕ) → Steps now t.held.found t.held.left c xs m.cleaner (Ok None) → Fed now j m xs c
    go [] s = absurd s
    go (x ∷ xs) s = record {
      later = s.0;
      after = s.2;
      some = omega arith;
      found = t.held.found.session;
      left = t.held.left.session;
      adds = s.1.adds;
    }

-- ---- turns

-- turns fed these pieces, and the job goes on
pub record Ran (now : ℕ) (j m : JobTold) (ps : List (List ℕ)) : Type 0 where
  pub fed : FeedsAll now ps j m
  pub own : Cleaner
  pub later : Cleaner
  pub before : j.cleaner ≡ Some own
  pub after : m.cleaner ≡ Some later
  pub policy : later.policy ≡ own.policy
  pub bytes : (front : List ℕ) → IsFed own front → IsFed later (front ++ concat ps)
  pub taken : TakesOff j.source m.source (concat ps)
  pub unfailed : m.source.faults ≡ j.source.faults

pub ran-none : (now : ℕ) (j : JobTold) (c : Cleaner) → j.cleaner ≡ Some c → Ran now j j []
ran-none now j c is = record {
  fed = refl;
  own = c;
  later = c;
  before = is;
  after = is;
  policy = refl;
  bytes = λ front f. let P : List ℕ → Type 0 = λ zs. IsFed c zs in subst P (sym (append-nil front)) f;
  taken = takes-none j.source j.source refl;
  unfailed = refl;
}

fed-more : (now : ℕ) (j m k : JobTold) (ps : List (List ℕ)) (p : List ℕ) → FeedsAll now ps j m
    → Turn now m k p (Ok None) → FeedsAll now (ps ++ p ∷ []) j k
fed-more now j m k [] p f t = let P : JobTold → Type 0 = λ z. Turn now z k p (Ok None) in (k, subst P f t, refl)
fed-more now j m k (q ∷ qs) p f t = (f.0, f.1, fed-more now f.0 m k qs p f.2 t)

module _ (now : ℕ) (j m k : JobTold) (ps : List (List ℕ)) (r : Ran now j m ps) where
  pub ran-more : (p : List ℕ) → Turn now m k p (Ok None) → Ran now j k (ps ++ p ∷ [])
  ran-more p t =
      let w = turn-fed now m k p r.later r.after t in
      let P : List ℕ → Type 0 = λ zs. IsFed w.later zs in
      let Q : List ℕ → Type 0 = λ zs. TakesOff j.source k.source zs in
      record {
        fed = fed-more now j m k ps p r.fed t;
        own = r.own;
        later = w.later;
        before = r.before;
        after = w.after;
        policy = ap (λ (z : Cleaner). z.policy) w.adds.ok.feeds.same ∙ r.policy;
        bytes = λ front f. subst P
            (append_assoc front (concat ps) p ∙ ap (λ (zs : List ℕ). front ++ zs) (sym (joined ps p)))
            (w.adds.ok.feeds.fed (front ++ concat ps) (r.bytes front f));
        taken = subst Q (sym (joined ps p))
            (takes-both j.source m.source k.source (concat ps) p r.taken (took now m k p (Ok None) t));
        unfailed = still now m k p (Ok None) t ∙ r.unfailed;
      }

  -- the file ended
  ended-all : (p : List ℕ) (x : Ended) (t : Turn now m k p (Ok (Some x))) → p ≡ []
      → EndsJob now t.held.found t.held.left r.later (Ok x) → UploadsAll j k (concat ps) x.0
  ended-all p x t none e =
      let P : List ℕ → Type 0 = λ z. TakesOff m.source k.source z in
      let off : TakesOff m.source k.source [] = subst P none (took now m k p (Ok (Some x)) t) in
      let Q : List ℕ → Type 0 = λ z. TakesOff j.source k.source z in
      record {
        taken = subst Q (append-nil (concat ps))
            (takes-both j.source m.source k.source (concat ps) [] r.taken off);
        end = left-none m.source.left k.source.left off.left (t.fills.end none);
        unfailed = still now m k p (Ok (Some x)) t ∙ r.unfailed;
        own = r.own;
        cleaner = r.before;
        hash = e.finishes.hash;
        pointer = λ front f.
            let R : Sha256Policy → Type 0 = λ z. x.0 ≡ pointer_to e.finishes.hash (length (front ++ concat ps))
            (recorded_sha256 z (front ++ concat ps)) in
            subst R r.policy (e.finishes.pointer (front ++ concat ps) (r.bytes front f));
      }

  pub ran-ended : (x : Ended) → Turns now m k (Ok (Some x)) → RunsJob now j k (Ok x)
  ran-ended x (inr f) = absurd (ok-err (Some x) f.0 f.1)
  ran-ended x (inl t) =
      let s = go t.0 (steps-of now m k t.0 r.later (Ok (Some x)) r.after t.1) in
      record {
        pieces = ps;
        middle = m;
        fed = r.fed;
        last = inl t;
        ended = s.2;
        all = ended-all t.0 x t.1 s.0 s.1;
        why = tt;
      }
    where
      go : (xs : List ℕ) → Steps now t.1.held.found t.1.held.left r.later xs k.cleaner (Ok (Some x))
          → (xs ≡ []) × EndsJob now t.1.held.found t.1.held.left r.later (Ok x) × (k.cleaner ≡ None)
      go [] s = (refl, s.0, s.1)
      go (y ∷ ys) s = absurd s

  -- the source failed, or a step did
  pub ran-failed : (e : DataError) → Turns now m k (Err e) → RunsJob now j k (Err e)
  ran-failed e (inl t) = record {
    pieces = ps;
    middle = m;
    fed = r.fed;
    last = inl t;
    ended = go t.0 (steps-of now m k t.0 r.later (Err e) r.after t.1);
    all = tt;
    why = inr (t.1.filled, t.1.held);
  }
    where
      go : (xs : List ℕ) → Steps now t.1.held.found t.1.held.left r.later xs k.cleaner (Err e) → k.cleaner ≡ None
      go [] s = s.1
      go (y ∷ ys) s = s.2
  ran-failed e (inr f) = record {
    pieces = ps;
    middle = m;
    fed = r.fed;
    last = inr f;
    ended = ap (λ (z : JobTold). z.cleaner) f.2.ended;
    all = tt;
    why = inl (
      err-is e f.0 f.1 ∙ f.2.why.0,
      let a = r.taken.faults in let rose = f.2.why.1 in omega (arith, a, rose),
    );
  }

-- a turn that the job goes on after
pub turned : (now : ℕ) (j m : JobTold) → Turns now j m (Ok None) → (p : List ℕ) × Turn now j m p (Ok None)
turned now j m (inl t) = t
turned now j m (inr f) = absurd (ok-err None f.0 f.1)

-- what is told of a value that is there
pub some-told : {A B : Type 0} (f : A → B) (o : Option A) → IsSome o → (y : B) × (option_map f o ≡ Some y)
some-told f None some = absurd (false≢true some)
some-told f (Some x) some = (f x, refl)

-- ---- how much is left to feed

abbrev pub room_of : JobTold → ℕ
room_of j = unwrap_or (option_map (λ c. total_of c - c.fed) j.cleaner) 0

pub room-less : (now : ℕ) (j m k : JobTold) (ps : List (List ℕ)) (p : List ℕ) → Ran now j m ps
    → Turn now m k p (Ok None) → room_of k < room_of m
room-less now j m k ps p r t =
    let w = turn-fed now m k p r.later r.after t in
    let room : Option Cleaner → ℕ = λ o. unwrap_or (option_map (λ c. total_of c - c.fed) o) 0 in
    let here : room_of m ≡ total_of r.later - r.later.fed = ap room r.after in
    let there : room_of k ≡ total_of w.later - w.later.fed = ap room w.after in
    let total : total_of w.later ≡ total_of r.later = ap total_of w.adds.ok.feeds.same in
    let fed : w.later.fed ≡ r.later.fed + length p = ap (λ (z : Cleaner). z.fed) w.adds.ok.feeds.same in
    let few = fits w.found w.left r.later w.later p w.adds in
    let some = w.some in
    omega (arith, here, there, total, fed, few, some)
