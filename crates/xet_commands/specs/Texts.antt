-- The texts that are printed as they stand.
use Rattle.std.specs.Prelude.{ℕ, List}
use Rattle.xet_commands.specs.declared.texts.TheConstants.{HELP, VERSION}

-- the text of `--help`
abbrev pub help_text : List ℕ
help_text = HELP.now

-- the text of `--version`
abbrev pub version_text : List ℕ
version_text = VERSION.now
