-- A run whose history and source of limits are its own.
use Rattle.std.specs.Prelude.{ℕ, List, Option, None, Some, Result}
use Rattle.xet_error.specs.declared.error.FileReconstructionError.{FileReconstructionError}
use Rattle.xet_events.specs.declared.budget_book.BookView.{BookView}
use Rattle.xet_events.specs.declared.event.Event.{Event}
use Rattle.xet_events.specs.Allowed.{IsAllowedHistory}
use Rattle.xet_events.specs.Limits.{LimitTold}
use Rattle.xet_terms.specs.declared.reconstruction_config.ReconstructionConfig.{ReconstructionConfig}
use Rattle.xet_ties.specs.RunCalls.{RunCall}
use Rattle.xet_ties.specs.Setup.{RunTold, Setup}
use Rattle.xet_events.specs.Books.{book_limit}

-- the same told with these limits
abbrev pub limited : LimitTold → RunTold → RunTold
limited limits told = record told { limits = limits }

-- a run gave this answer, with some allowed history that is tied to what its arguments tell, under a source of limits
-- that tells this at first
pub record RanUnder (limits : LimitTold) (g : Setup) (before after : RunTold)
    (answer : Result ℕ FileReconstructionError) : Type 0 where
  pub events : List Event
  pub later : LimitTold
  pub allowed : IsAllowedHistory events
  pub call : RunCall g (limited limits before) (limited later after) events answer

-- without a book the limit is that of the settings; a book's limit of all is never passed
abbrev pub limit_of : Option BookView → ReconstructionConfig → LimitTold
limit_of None config =
    record { fixed = Some config.download_buffer_size; most = Some config.download_buffer_size; limits = None }
limit_of (Some view) config = record { fixed = None; most = Some (book_limit view); limits = None }
