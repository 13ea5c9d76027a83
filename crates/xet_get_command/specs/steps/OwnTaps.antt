-- What a connection tells that owns the tap before it.
use Rattle.xet_base.specs.Store.{Store}
use Rattle.xet_outside.specs.Told.{ClientTold}
use Rattle.xet_store.specs.Taps.{TapTold, behind}
use Rattle.xet_store.specs.declared.client_log.ClientLog.{ClientLog}

-- what one behind a borrowed tap tells, but that no reference is named
abbrev pub behind_own : Store → ClientLog → TapTold → TapTold → ClientTold
behind_own store log start now = behind store log start now 0
