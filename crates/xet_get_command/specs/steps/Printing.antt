-- What the functions of the command `get` say that print over a store.
use Rattle.std.specs.Prelude.{◌≡◌, ◌⊎◌, List, None, Some}
use Rattle.xet_base.specs.Store.{Store}
use Rattle.xet_outside.specs.Told.{Rose, SinkTold, Took}
use Rattle.xet_store.specs.Taps.{TapTold}
use Rattle.xet_room.specs.declared.status.Status.{Status}
use Rattle.xet_room.specs.declared.status.Status.TheVariants.{Done, NotFound, WriteFault, NoMemory, BadBlock}
use Rattle.xet_room.specs.declared.status.Status.TheVariants.{BadSettings}
use Rattle.xet_get_command.specs.declared.wanted.Wanted.{Wanted}
use Rattle.xet_get_command.specs.AnyBytes.{AnyGet}
use Rattle.xet_get_command.specs.Get.{IsCutGet, IsPrinted, IsRefused, settings_text}
use Rattle.xet_room.specs.Outcome.{Finished}
use Rattle.xet_get_command.specs.Taps.{FromTaps, LanesHonest, TapsGoOn}
use Rattle.xet_room.specs.Texts.{line}
use Rattle.xet_get_command.specs.Wanted.{unmet_setting}
use Rattle.xet_get_command.specs.steps.PrintedDigits.{AllPassed}

-- what was printed of a store, by the status
abbrev pub GetFrom : Store → Wanted → SinkTold → SinkTold → Status → Type 0
GetFrom s q b n Done = IsPrinted s q b n
GetFrom s q b n NotFound = IsRefused s q b n
GetFrom s q b n WriteFault = Rose b.faults n.faults × IsCutGet s q b n
GetFrom s q b n NoMemory = IsCutGet s q b n
GetFrom s q b n (BadSettings e) = Unit {0}
GetFrom s q b n _ = ⊥

-- the settings can be met, or this one fails first and its text was printed
abbrev pub SettingsFrom : Wanted → SinkTold → SinkTold → Status → Type 0
SettingsFrom q b n Done = unmet_setting q ≡ None
SettingsFrom q b n NotFound = unmet_setting q ≡ None
SettingsFrom q b n (BadBlock k) = unmet_setting q ≡ None
SettingsFrom q b n (BadSettings e) = (unmet_setting q ≡ Some e) × Took b.took n.took (settings_text e)
SettingsFrom q b n _ = Unit {0}

-- what was done over a store and the taps, by the status
pub record GotFrom (s : Store) (q : Wanted) (ts us : List TapTold) (b n : SinkTold) (status : Status) : Type 0 where
  pub honest : LanesHonest q ts → GetFrom s q b n status
  pub settings : SettingsFrom q b n status
  pub any : AnyGet (FromTaps s q ts us) b n status
  pub chunks : LanesHonest q ts → status ≡ Done → AllPassed s q ts us
  pub go_on : TapsGoOn q ts us

-- the same, or want of memory before it, and then no tap was asked
abbrev pub PrintedWithin : Store → Wanted → List TapTold → List TapTold → SinkTold → SinkTold → Status → Type 0
PrintedWithin s q ts us b n status =
    GotFrom s q ts us b n status ⊎ ((us ≡ ts) × Finished (line NoMemory) NoMemory b n status)
