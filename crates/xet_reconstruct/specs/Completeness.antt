-- When a run answers Ok, but for want of memory.
use Rattle.std.specs.Prelude.{ℕ, ◌≡◌, ◌⊎◌, ◌+◌, ◌<◌, List, None, IsSome, IfErr, Result}
use Rattle.xet_base.specs.Store.{Store, file_of}
use Rattle.xet_outside.specs.Told.{ClientTold, Rose}
use Rattle.xet_error.specs.declared.error.FileReconstructionError.{FileReconstructionError}
use Rattle.xet_error.specs.declared.error.FileReconstructionError.TheVariants as error
use Rattle.xet_ties.specs.Causes.{NoneAtEnd, SomeRose, refused_setting, total_expiries}
use Rattle.xet_ties.specs.Legal.{Legal}
use Rattle.xet_ties.specs.Setup.{IsEmptyRange, IsOver, RunTold, Setup}

-- the connections tell one valid store, which has the file
pub record HaveFile (g : Setup) (clients : List ClientTold) : Type 0 where
  pub store : Store
  pub over : IsOver store clients
  pub stored : IsSome (file_of store g.file)

-- nothing that a run is lent fails: all settings can be met; the connections tell one valid store that has the file,
-- or the range is empty; no count of faults and none of a yes rose; and there came fewer expired answers than a block
-- has tries
pub record NothingFails (g : Setup) (before after : RunTold) : Type 0 where
  pub settings : refused_setting g before.clients ≡ None
  pub stored : HaveFile g before.clients ⊎ IsEmptyRange g.range
  pub clients : SomeRose before.clients after.clients → ⊥
  pub sink : Rose before.sink.faults after.sink.faults → ⊥
  pub signal : Rose before.signal.yes after.signal.yes → ⊥
  pub counts : NoneAtEnd after.clients
  pub expiries : total_expiries after.clients < total_expiries before.clients + g.tries

-- then a legal answer is Ok, or want of memory
abbrev pub LegalIsComplete : Type 0
LegalIsComplete = (g : Setup) (before after : RunTold) (answer : Result ℕ FileReconstructionError)
    → Legal g before after answer → NothingFails g before after → IfErr answer (λ e. e ≡ error.OutOfMemory)
