-- What is wanted of a store.
use Rattle.std.specs.Prelude.{ℕ, ◌⊎◌, ◌<◌, List, Option, IsSome, IsNone}
use Rattle.xet_base.specs.Store.{Store, file_of, window}
use Rattle.xet_error.specs.declared.error.Setting.{Setting}
use Rattle.xet_terms.specs.Settings.{failing_setting_of}
use Rattle.xet_ties.specs.Setup.{IsEmptyRange, Setup, setup_of}
use Rattle.xet_get_command.specs.declared.wanted.Wanted.{Wanted}
use Rattle.xet_get_command.specs.GetOptions.{config_of, lanes_of}

-- what a run for it is for
abbrev pub wanted_setup : Wanted → Setup
wanted_setup wanted = setup_of wanted.file wanted.range (config_of wanted.options)

-- the setting that fails first, over as many connections as are wanted
abbrev pub unmet_setting : Wanted → Option Setting
unmet_setting wanted = failing_setting_of (lanes_of wanted.options) (config_of wanted.options)

-- the bytes that are wanted
abbrev pub wanted_bytes : Store → Wanted → List ℕ
wanted_bytes store wanted = window store wanted.file wanted.range

-- the store has the file, or the range is empty
abbrev pub IsFound : Store → Wanted → Type 0
IsFound store wanted = IsSome (file_of store wanted.file) ⊎ IsEmptyRange wanted.range

-- the range is not empty, and the store has no such file
abbrev pub IsMissing : Store → Wanted → Type 0
IsMissing store wanted = (wanted.range.start < wanted.range.end) × IsNone (file_of store wanted.file)
