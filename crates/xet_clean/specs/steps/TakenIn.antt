-- The part of `add_data` for which no session is needed.
use Rattle.std.specs.Prelude.{false, ℕ, ◌≡◌, ◌⊎◌, List, length, Some, None, Result, Err, IfOk, IfErr, OnErr}
use Rattle.xet_upload.specs.declared.data_error.DataError.{DataError}
use Rattle.xet_upload.specs.declared.data_error.DataError.TheVariants as data_error
use Rattle.xet_clean.specs.Cleaners.{Cleaner, PassesTotal, TakesIn, past_total}
use Rattle.xet_clean.specs.declared.cleaner.TakenIn.{TakenIn}
use Rattle.xet_clean.specs.steps.Cuts.{AreCuts}

-- bytes were taken in, and what is cut of all that wait was found; or they weren't, as `add_data` is to answer
pub record TakeCall (c : Cleaner) (bytes : List ℕ) (d : Cleaner) (answer : Result TakenIn DataError) : Type 0 where
  pub ok : IfOk answer (λ t. (t.count ≡ length bytes) × TakesIn c bytes d × AreCuts d.tell false d.pending t.cuts.items)
  pub err : OnErr answer (d.failed ≡ c.failed)
  pub kept : (e : DataError) → c.failed ≡ Some e → answer ≡ Err e
  pub past : c.failed ≡ None → PassesTotal c bytes → answer ≡ Err (past_total c bytes)
  pub why : IfErr answer (λ e. (c.failed ≡ Some e) ⊎ ((e ≡ past_total c bytes) × PassesTotal c bytes)
      ⊎ (e ≡ data_error.OutOfMemory))
