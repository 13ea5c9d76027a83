-- One step of a job.
use Rattle.std.proofs.Common.{◌≡◌, ℕ, ◌<◌, ◌≤◌, List, [], ◌∷◌, length, take, refl, sym, ◌∙◌, ap, subst, arith}
use Rattle.std.specs.Prelude.{Option, Some, None, option_map, Result, Ok, Err}
use Rattle.std.proofs.lemmas.List.{length-take-le}
use Rattle.xet_outside.specs.Told.{ReadCall}
use Rattle.xet_outside.specs.declared.source.SourceFault.{SourceFault}
use Rattle.xet_upload.specs.declared.data_error.DataError.{DataError}
use Rattle.xet_upload.specs.declared.data_error.DataError.TheVariants as data_error
use Rattle.xet_upload_session.specs.Calls.{Backs}
use Rattle.xet_upload_session.specs.Sessions.{HasListed}
use Rattle.xet_clean.specs.Cleaners.{Cleaner}
use Rattle.xet_job_steps.specs.Pieces.{ReadsPiece}
use Rattle.xet_jobs.specs.Jobs.{Ended, EndsJob, FeedsPiece, FillCall, HeldStep, JobTold, Seen, StepCall, Steps, ends_with, piece_size}

-- what is told of a value that is there
pub mapped : {A B : Type 0} (f : A → B) (o p : Option A) (x : A) → p ≡ o → p ≡ Some x → option_map f o ≡ Some (f x)
mapped f o p x e s = ap (λ z. option_map f z) (sym e ∙ s)

pub gone : {A B : Type 0} (f : A → B) (o : Option A) → o ≡ None → option_map f o ≡ None
gone f o e = ap (λ z. option_map f z) e

-- the piece that was read
pub none-read : (count : ℕ) (xs : List ℕ) → count ≡ 0 → length (take count xs) ≡ 0
none-read count xs e = let P : ℕ → Type 0 = λ k. length (take k xs) ≡ 0 in subst P (sym e) refl

pub some-read : (count : ℕ) (xs : List ℕ) → 0 < count → count ≤ length xs → 0 < length (take count xs)
some-read count xs some within = let is = length-take-le count xs within in omega (arith, is, some)

-- ---- reading

-- a piece was read, and waits for a step
pub filled : (j m : JobTold) (buffer : List ℕ) (ready : Option ℕ) → length buffer ≡ piece_size
    → ReadsPiece j.source m.source buffer ready
    → m ≡ record j { source = m.source; ready = option_map (λ k. take k buffer) ready } → FillCall j m (Ok tt)
filled j m buffer ready room (count, is, call) same =
    let within : count ≤ length buffer = call.count in
    let size : length (take count buffer) ≡ count = length-take-le count buffer within in
    record {
      ok = (
        take count buffer,
        record {
          same = same
              ∙ ap (λ (o : Option ℕ). record j { source = m.source; ready = option_map (λ k. take k buffer) o }) is;
          taken = record { left = call.took; faults = call.faults };
          short = omega (arith, size, within, room);
          end = λ none.
              let zero : count ≡ 0 = sym size ∙ ap length none in
              call.end (omega (arith, room)) (ap (λ (k : ℕ). Ok k) zero);
          unfailed = call.unfailed;
        },
      );
      ended = tt;
      kept = tt;
      why = tt;
    }

-- the source failed
pub unfilled : (j m : JobTold) (buffer : List ℕ) (fault : SourceFault)
    → ReadCall j.source m.source buffer (Err fault) → m ≡ record j { source = m.source; cleaner = None }
    → FillCall j m (Err data_error.IOError)
unfilled j m buffer fault call same = record { ok = tt; ended = same; kept = call.kept; why = (refl, call.failed) }

-- ---- steps

module _ (now : ℕ) (b n : Seen) (c : Cleaner) where
  steps-fed : (piece : List ℕ) (d : Cleaner) (kept : Option Cleaner) → 0 < length piece
      → FeedsPiece now b n c piece d (Ok tt) → kept ≡ Some d → Steps now b n c piece kept (Ok None)
  steps-fed [] d kept some f e = absurd (omega (arith, some))
  steps-fed (x ∷ xs) d kept some f e = (d, f, e)

  steps-failed : (piece : List ℕ) (d : Cleaner) (kept : Option Cleaner) (e : DataError) → 0 < length piece
      → FeedsPiece now b n c piece d (Err e) → kept ≡ None → Steps now b n c piece kept (Err e)
  steps-failed [] d kept e some f ended = absurd (omega (arith, some))
  steps-failed (x ∷ xs) d kept e some f ended = (d, f, ended)

  steps-ended : (piece : List ℕ) (kept : Option Cleaner) (answer : Result Ended DataError) → length piece ≡ 0
      → EndsJob now b n c answer → kept ≡ None → Steps now b n c piece kept (ends_with answer)
  steps-ended [] kept (Ok r) none f ended = (f, ended)
  steps-ended [] kept (Err e) none f ended = (f, ended)
  steps-ended (x ∷ xs) kept answer none f ended = absurd (omega (arith, none))

  module _ (j m : JobTold) (piece : List ℕ) (own : j.cleaner ≡ Some c) (ready : j.ready ≡ Some piece)
      (source : m.source ≡ j.source) (taken : m.ready ≡ None) where
    -- the piece was fed
    pub step-fed : (d : Cleaner) → 0 < length piece → FeedsPiece now b n c piece d (Ok tt) → m.cleaner ≡ Some d
        → StepCall now b n j m (Ok None)
    step-fed d some f kept = record {
      own = c;
      cleaner = own;
      piece = piece;
      ready = ready;
      source = source;
      taken = taken;
      steps = steps-fed piece d m.cleaner some f kept;
    }

    -- the cleaner failed
    pub step-failed : (d : Cleaner) (e : DataError) → 0 < length piece → FeedsPiece now b n c piece d (Err e)
        → m.cleaner ≡ None → StepCall now b n j m (Err e)
    step-failed d e some f ended = record {
      own = c;
      cleaner = own;
      piece = piece;
      ready = ready;
      source = source;
      taken = taken;
      steps = steps-failed piece d m.cleaner e some f ended;
    }

    -- the file ended
    pub step-ended : (answer : Result Ended DataError) → length piece ≡ 0 → EndsJob now b n c answer
        → m.cleaner ≡ None → StepCall now b n j m (ends_with answer)
    step-ended answer none f ended = record {
      own = c;
      cleaner = own;
      piece = piece;
      ready = ready;
      source = source;
      taken = taken;
      steps = steps-ended piece m.cleaner answer none f ended;
    }

-- a hold that finds all listed leaves the session backed where it was
pub step-backs : (now : ℕ) (b n : Seen) (j m : JobTold) (answer : Result (Option Ended) DataError)
    → HasListed b.session → StepCall now b n j m answer → Backs b.session n.session
step-backs now b n j m answer listed s = go s.piece answer s.steps
  where
    go : (xs : List ℕ) (a : Result (Option Ended) DataError) → Steps now b n s.own xs m.cleaner a
        → Backs b.session n.session
    go [] (Ok None) t = absurd t
    go [] (Ok (Some r)) t = t.0.finishes.backs
    go [] (Err e) t = t.0.finishes.backs
    go (x ∷ xs) (Ok None) t = t.1.adds.leaves.backs listed
    go (x ∷ xs) (Ok (Some r)) t = absurd t
    go (x ∷ xs) (Err e) t = t.1.adds.leaves.backs listed

-- so a step is one under a hold of the lock
pub held-step : (now : ℕ) (b n : Seen) (j m : JobTold) (answer : Result (Option Ended) DataError)
    → HasListed b.session → StepCall now b n j m answer → HeldStep now j m answer
held-step now b n j m answer listed s = record {
  found = b;
  left = n;
  listed = listed;
  call = s;
  backs = step-backs now b n j m answer listed s;
}
