-- How a job is begun.
use Rattle.std.proofs.Common.{◌≡◌, ℕ, Bool, true, false, List, inl, inr, refl, sym, ◌∙◌}
use Rattle.std.specs.Prelude.{Option, Err}
use Rattle.std.proofs.lemmas.Bool.{false≢true}
use Rattle.xet_progress_state.specs.declared.step.TrackerStep.{TrackerStep}
use Rattle.xet_upload.specs.declared.data_error.DataError.TheVariants as data_error
use Rattle.xet_upload_session.specs.Calls.{finalized_error}
use Rattle.xet_jobs.specs.Jobs.{Spawns}

module _ (calls : List TrackerStep) (next_id : ℕ) (ended : Bool) (size : Option ℕ) where
  -- the session is finalized
  pub spawns-late : ended ≡ true → Spawns calls calls next_id next_id ended size (Err finalized_error)
  spawns-late late = inl (record {
    finalized = λ f. (refl, refl, refl);
    used_up = λ f i. absurd (false≢true (sym f ∙ late));
    tracks = λ f i. absurd (false≢true (sym f ∙ late));
    id = tt;
    drawn = λ f i. absurd (false≢true (sym f ∙ late));
    undrawn = λ i. refl;
    number = tt;
  })

  -- memory for the piece was wanting
  pub spawns-short : ended ≡ false → Spawns calls calls next_id next_id ended size (Err data_error.OutOfMemory)
  spawns-short runs = inr (runs, refl, refl, refl)
