-- Which answers of a run are legal, by what its arguments tell before and after.
use Rattle.std.specs.Prelude.{ℕ, Result, IfErr}
use Rattle.xet_error.specs.declared.error.FileReconstructionError.{FileReconstructionError}
use Rattle.xet_ties.specs.Causes.{Cause}
use Rattle.xet_ties.specs.LegalParts.{Blocks, Cached, Exact, Faults, First, Later, Queries, Told, Tries, Written}
use Rattle.xet_ties.specs.Setup.{RunTold, Setup}

-- what holds of a run's answer by what its arguments tell. What a connection or a cache doesn't tell is some list that
-- fits; behind the answer stands a run with its history (`RunCall`), which has the rest
pub record Legal (g : Setup) (before after : RunTold) (answer : Result ℕ FileReconstructionError) : Type 0 where
  -- what connections were asked, served and said, and the looks into the cache, told or not
  pub told : Told before.clients after.clients before.cache after.cache
  -- over one valid store Ok is the window exactly, and an unknown file is never Ok
  pub exact : Exact g before.clients before.cache before.sink after.sink answer
  -- a failing setting is told first, and over an empty range nothing is done
  pub first : First g before after answer
  -- each error comes only by its cause, as counts and told answers show it, and want of memory is free
  pub cause : IfErr answer (Cause g told.heard before after)
  -- only tested bytes are written, on Ok those of all terms, and they are flushed
  pub written : Written g told.heard told.looks before.sink after.sink answer
  -- no yes of the signal and no fault is hidden
  pub faults : Faults before after answer
  -- the first connection alone is asked for plans, by short queries in order
  pub queries : Queries g told.heard before.clients after.clients answer
  -- blocks are served once, are planned and pass their tests
  pub blocks : Blocks g told.heard before.clients before.cache answer
  -- no block is asked for once too often
  pub tries : Tries g told.heard before.clients after.clients answer
  -- a cache gains blocks of this call alone, as many as were served at most
  pub cached : Cached g told.heard before.cache after.cache answer
  -- what goes on afterwards: connections, cache, writer and counts
  pub later : Later before after
